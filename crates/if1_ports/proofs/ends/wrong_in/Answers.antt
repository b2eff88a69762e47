use Rattle.std.proofs.Common.{◌≡◌, ◌∙◌, ◌⊎◌, ◌≢◌, true, false, ℕ, List, Option, MatchOption, All, Contains, map, subst, sym}
use Rattle.if1_graph.specs.declared.graph.Graph.TheViews.{out-Graph}
use Rattle.if1_graph.specs.declared.graph.Edge.{Edge}
use Rattle.if1_graph.specs.Units.{label_of}
use Rattle.if1_ports.specs.Outlines.{types_in}
use Rattle.if1_ports.specs.Names.{callees_in}
use Rattle.if1_ports.specs.Ends.{is_right}
use Rattle.if1_ports.proofs.Right.{wrong_label, found_missing}
use Rattle.if1_ports.proofs.ends.wrong_in.Goals as goal

pub returns-in-Some : goal.returns-in-Some
returns-in-Some c =
    let o = types_in c.args.types.now in
    let d = callees_in c.args.names.now in
    let g = c.args.graph.now in
    let w =
    subst
    (λ (m : Option ℕ). MatchOption m (All (λ n. is_right o d c.args.bounds g (label_of n) ≡ true) (out-Graph g).nodes) (λ l. Contains (map label_of (out-Graph g).nodes) l × (is_right o d c.args.bounds g l ≡ false)))
    c.in-Some.is c.wrong_node.ensures in
    wrong_label o d c.args.bounds g c.in-Some.label w.0 w.1

pub returns : goal.returns
returns c =
    let o = types_in c.args.types.now in
    let d = callees_in c.args.names.now in
    let g = c.args.graph.now in
    let r = c.missing_node.result in
    let nodes =
    subst
    (λ (m : Option ℕ). MatchOption m (All (λ n. is_right o d c.args.bounds g (label_of n) ≡ true) (out-Graph g).nodes) (λ l. Contains (map label_of (out-Graph g).nodes) l × (is_right o d c.args.bounds g l ≡ false)))
    c.in_default.is c.wrong_node.ensures in
    let by_label =
    subst
    (λ (ls : List ℕ). MatchOption r (All (λ (e : Edge). (e.node ≡ 0) ⊎ Contains ls e.node) c.as_slice-2.result.now) (λ l. Contains (map (λ (e : Edge). e.node) c.as_slice-2.result.now) l × (l ≢ 0) × (¬ Contains ls l)))
    (c.as_slice.ensures ∙ c.requires.outs.labels) c.missing_node.ensures in
    let by_edge =
    subst
    (λ (es : List Edge). MatchOption r (All (λ (e : Edge). (e.node ≡ 0) ⊎ Contains (map label_of (out-Graph g).nodes) e.node) es) (λ l. Contains (map (λ (e : Edge). e.node) es) l × (l ≢ 0) × (¬ Contains (map label_of (out-Graph g).nodes) l)))
    c.as_slice-2.ensures by_label in
    found_missing o d c.args.bounds g r nodes (sym c.is_boundary_right.ensures ∙ c.if-not-is_boundary_right.false) by_edge
