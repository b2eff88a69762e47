use Rattle.std.proofs.Common.{◌∙◌, map, length, subst, sym, ap}
use Rattle.if1_graph.specs.declared.graph.Graph.TheViews.{out-Graph}
use Rattle.std.proofs.lemmas.List.{length-map}
use Rattle.if1_graph.specs.Units.{label_of}
use Rattle.if1_order.specs.Walks.{AreInside}
use Rattle.if1_order.proofs.Orders.{feeders_inside}
use Rattle.take_marks.proofs.Runs.{first-stands, no-circle, run-end}
use Rattle.take_marks.proofs.graph.marks_in.Goals as goal

pub first_ranks-requires-clause-inside : goal.first_ranks-requires-clause-inside
first_ranks-requires-clause-inside c =
    subst AreInside (sym c.as_slice-7.ensures.value) (feeders_inside c.as_slice-2.result.now c.as_slice-3.result.now c.in_ok-lists.lists.items c.in_ok-lists.ensures)

pub first_ranks-requires-clause-acyclic : goal.first_ranks-requires-clause-acyclic
first_ranks-requires-clause-acyclic c =
    no-circle c.args.graph.now c.in_ok-labels.labels c.as_slice-2.result.now c.in_ok-lists.lists.items c.as_slice-7.result.now c.as_slice-3.result.now c.requires.shape
    (c.as_slice-2.ensures ∙ (c.in_ok-labels.ensures ∙ ap (map label_of) c.as_slice.ensures)) c.as_slice-3.ensures c.in_ok-lists.ensures c.as_slice-7.ensures.value

pub run-requires-clause-inside : goal.run-requires-clause-inside
run-requires-clause-inside c = feeders_inside c.as_slice-2.result.now c.as_slice-3.result.now c.in_ok-lists.lists.items c.in_ok-lists.ensures

pub returns-clause-made : goal.returns-clause-made
returns-clause-made c = λ may ok are.
    let labels = c.in_ok-labels.ensures ∙ ap (map label_of) c.as_slice.ensures in
    run-end c.args.graph.now c.args.flags.now c.in_ok-lists.lists.items c.in_ok-befores.befores.items c.requires.shape c.run.new.lists.items c.run.new.befores.items c.in_ok-whys.whys c.in_ok-whys.ensures.run may ok are
    (first-stands c.args.graph.now c.in_ok-labels.labels c.as_slice-2.result.now c.in_ok-lists.lists.items c.as_slice-3.result.now (c.as_slice-2.ensures ∙ labels) c.as_slice-3.ensures c.in_ok-lists.ensures
    c.in_ok-befores.befores.items c.len-2.result c.len-2.ensures labels c.in_ok-befores.ensures)

pub returns-clause-befores : goal.returns-clause-befores
returns-clause-befores c =
    c.in_ok-whys.ensures.befores ∙ (ap length (c.as_slice-8.ensures ∙ (c.in_ok-labels.ensures ∙ ap (map label_of) c.as_slice.ensures)) ∙ length-map (out-Graph c.args.graph.now).nodes label_of)
