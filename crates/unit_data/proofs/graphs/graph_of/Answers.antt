use Rattle.std.proofs.Common.{◌≡◌, ◌∙◌, ◌&&◌, Bool, List, Some, map, sym, ap, subst}
use Rattle.if1_graph.specs.declared.graph.Graph.TheViews.{out-Graph}
use Rattle.if1_graph.specs.Units.{number_of}
use Rattle.graph_meaning.specs.StorageUnits.{storage_of}
use Rattle.output_marks.specs.Flags.{AreFlags}
use Rattle.plan_data.specs.declared.plan.PlanGraph.{PlanGraph}
use Rattle.plan_data.specs.declared.plan.Port.{Port}
use Rattle.plan_nodes.specs.Ports.{port_by}
use Rattle.unit_data.proofs.EachGraph.{AreResultsFound, graph-there}
use Rattle.unit_data.specs.Graphs.{GoesOn, IsGraphAt}
use Rattle.unit_data.proofs.graphs.graph_of.Goals as goal

pub ports_of-requires-clause-place : goal.ports_of-requires-clause-place
ports_of-requires-clause-place c = let h = c.requires.here in (h.0, h.1, h.2, (c.in_ok-known.ensures.are h.0 h.1 h.2).own)

pub ports_of-requires-clause-flags : goal.ports_of-requires-clause-flags
ports_of-requires-clause-flags c =
    let u = c.args.unit.now in
    subst (λ (rows : List (List Bool)). AreFlags u (storage_of u).is_aggregate rows) (sym c.as_slice.ensures.value) c.requires.facts.aggregates

pub ports_of-requires-clause-consumers : goal.ports_of-requires-clause-consumers
ports_of-requires-clause-consumers c =
    let u = c.args.unit.now in
    subst (λ (rows : List (List Bool)). AreFlags u (λ k l port. (storage_of u).is_aggregate k l port && (storage_of u).is_given k l port) rows) (sym c.as_slice-2.ensures.value) c.requires.facts.consumed

pub returns-clause-kept : goal.returns-clause-kept
returns-clause-kept c = λ D on.
    let before : GoesOn c.nodes_of.new.literals c.nodes_of.new.marks D = record { literals = c.ports_of.ensures.kept D on.literals; marks = on.marks } in
    c.in_ok-made.ensures.kept D before

pub returns-clause-made : goal.returns-clause-made
returns-clause-made c = λ D os t p on begun place same plainly ordered.
    let u = c.args.unit.now in
    let g = c.args.graph.now in
    let K = c.in_ok-known.known in
    let ns = c.in_ok-made.made.nodes in
    let cs = c.in_ok-made.made.collects in
    let xs = c.in_ok-ports.ports in
    let facts = c.in_ok-known.ensures.are p place same in
    let order : K.outlets.order ≡ os (number_of p) = c.in_ok-known.ensures.order ∙ ordered in
    let before : GoesOn c.nodes_of.new.literals c.nodes_of.new.marks D = record { literals = c.ports_of.ensures.kept D on.literals; marks = on.marks } in
    let made = c.in_ok-made.ensures.made D os t p before begun place same plainly order in
    let found : AreResultsFound D u g K c.ports_of.new.literals xs =
    record { filled = λ P S begun has laid. c.in_ok-ports.ensures.filled D P S begun has laid; told = c.in_ok-ports.ensures.told; below = c.in_ok-ports.ensures.below } in
    subst (λ (rs : List Port). let x : PlanGraph = record { nodes = ns; results = rs; collects = cs; refolded = (out-Graph g).number } in IsGraphAt D u os t (number_of p) (Some x)) (sym (c.in_ok-results.ensures ∙ ap (map port_by) (c.as_slice-3.ensures ∙ c.in_ok-listed.ensures)))
    (graph-there D u c.unit-whole.ensures.ready os t p place K facts order c.ports_of.new.literals c.nodes_of.new.marks on begun ns cs xs g same made c.in_ok-made.ensures.below found)
