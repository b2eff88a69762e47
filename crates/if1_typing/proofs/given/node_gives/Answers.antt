use Rattle.std.proofs.Common.{◌≡◌, ◌==◌, ◌∙◌, Some, ℕ, List, map, ap, sym}
use Rattle.std.proofs.lemmas.List.Elements.{All-contains}
use Rattle.if1_graph.specs.declared.graph.Graph.TheViews.{out-Graph}
use Rattle.if1_graph.specs.declared.graph.Node.{Node, out-Node}
use Rattle.if1_graph.specs.Units.{label_of, node_at}
use Rattle.if1_order.proofs.Members.{found_in}
use Rattle.if1_types.specs.Tables.{number_at}
use Rattle.if1_typing.specs.Tables.{table_of}
use Rattle.if1_typing.specs.Fed.{AreOrdered}
use Rattle.if1_typing.specs.Given.{callee_at}
use Rattle.if1_typing.proofs.Noted.{number_beside}
use Rattle.if1_typing.proofs.given.node_gives.Goals as goal

found : (c : goal.In-Some) → node_at (out-Graph c.args.graph.now).nodes c.args.label ≡ Some c.in-Some.node.now
found c = sym (c.in-Some.ensures ∙ ap (λ ns. node_at ns c.args.label) c.as_slice-3.ensures)

pub output_fits-requires-clause-inside : goal.output_fits-requires-clause-inside
output_fits-requires-clause-inside c =
    let ns = (out-Graph c.args.graph.now).nodes in
    All-contains (λ n. AreOrdered (out-Node n).subs) ns c.in-Some.node.now c.requires.laid.inside
    (found_in (λ n. label_of n == c.args.label) ns c.in-Some.node.now (found c)).0

pub output_fits-requires-clause-callee : goal.output_fits-requires-clause-callee
output_fits-requires-clause-callee c =
    let t = table_of c.args.known.now in
    let g = c.args.graph.now in
    let ns = (out-Graph g).nodes in
    c.number_at-callee.ensures
    ∙ ap (λ (ls : List ℕ). number_at ls c.as_slice-2.result.now c.args.label) (c.as_slice.ensures ∙ c.requires.callees.labels)
    ∙ ap (λ (xs : List ℕ). number_at (map label_of ns) xs c.args.label) (c.as_slice-2.ensures ∙ c.requires.callees.numbers)
    ∙ number_beside (callee_at t g) ns c.args.label c.in-Some.node.now (found c)
