use Rattle.std.proofs.Common.{◌≡◌, ◌∙◌, ◌&&◌, true, false, ap, None, ℕ, List, Option, MatchOption, All, Contains, map, subst, sym}
use Rattle.if1_graph.specs.declared.graph.Graph.TheViews.{out-Graph}
use Rattle.if1_graph.specs.declared.graph.Edge.{Edge}
use Rattle.if1_graph.specs.Units.{label_of, edges_into}
use Rattle.if1_typing.specs.Tables.{table_of}
use Rattle.if1_typing.specs.Sites.{Around}
use Rattle.if1_typing.specs.Ends.{is_right, are_typed}
use Rattle.if1_typing.specs.Agree.{AreAgreed, Disagrees}
use Rattle.if1_typing.proofs.Walks.{wrong_label, wrong_boundary, wrong_either, none_wrong, boundary_right_as}
use Rattle.if1_typing.proofs.ends.wrong_end.Goals as goal

pub returns-then-not-is_end_typed : goal.returns-then-not-is_end_typed
returns-then-not-is_end_typed c =
    let t = table_of c.args.known.now in
    let a : Around = record { site = c.args.site; inputs = c.args.inputs.now; parts = c.args.parts.now } in
    let g = c.args.graph.now in
    wrong_boundary t a g
    (sym (boundary_right_as t a g c.requires.laid)
    ∙ ap (λ b. b && are_typed t a g None (edges_into g 0) (edges_into g 0)) (sym c.is_end_typed.ensures ∙ c.if-not-is_end_typed.true))

pub returns-in-Some : goal.returns-in-Some
returns-in-Some c =
    let t = table_of c.args.known.now in
    let a : Around = record { site = c.args.site; inputs = c.args.inputs.now; parts = c.args.parts.now } in
    wrong_either t a c.args.graph.now c.in-Some.label c.or_ungiven.result c.in-Some.ensures c.or_ungiven.ensures

pub returns-in-Some-wrong_node : goal.returns-in-Some-wrong_node
returns-in-Some-wrong_node c =
    let a : Around = record { site = c.args.site; inputs = c.args.inputs.now; parts = c.args.parts.now } in
    wrong_label (table_of c.args.known.now) a c.args.graph.now c.in-Some-wrong_node.label c.in-Some-wrong_node.ensures.0 c.in-Some-wrong_node.ensures.1

pub returns-then-not-is_right : goal.returns-then-not-is_right
returns-then-not-is_right c =
    let t = table_of c.args.known.now in
    let a : Around = record { site = c.args.site; inputs = c.args.inputs.now; parts = c.args.parts.now } in
    wrong_boundary t a c.args.graph.now
    (sym (boundary_right_as t a c.args.graph.now c.requires.laid) ∙ sym c.is_right.ensures ∙ c.if-not-is_right.true)

pub returns : goal.returns
returns c =
    let t = table_of c.args.known.now in
    let a : Around = record { site = c.args.site; inputs = c.args.inputs.now; parts = c.args.parts.now } in
    let g = c.args.graph.now in
    none_wrong t a g c.requires.laid
    (subst
    (λ (m : Option ℕ). MatchOption m (All (λ n. is_right t a g (label_of n) ≡ true) (out-Graph g).nodes) (λ l. Contains (map label_of (out-Graph g).nodes) l × (is_right t a g l ≡ false)))
    c.in_default-wrong_node.is c.wrong_node.ensures)
    (sym (boundary_right_as t a g c.requires.laid) ∙ sym c.is_right.ensures ∙ c.if-not-is_right.false)
    (subst (λ (o : Option ℕ). MatchOption o (AreAgreed t (out-Graph g).edges) (Disagrees t (out-Graph g).edges)) c.in_default.is c.disagreeing.ensures)
