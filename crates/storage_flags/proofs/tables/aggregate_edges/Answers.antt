use Rattle.std.proofs.Common.{ap, ◌∙◌}
use Rattle.if1_graph.specs.declared.graph.Unit1.{Unit1}
use Rattle.unit_orders.specs.Graphs.{lent, unit_graphs}
use Rattle.storage_flags.proofs.Found.{aggregate-flags, rows-told}
use Rattle.storage_flags.proofs.tables.aggregate_edges.Goals as goal

pub returns-clause-rows : goal.returns-clause-rows
returns-clause-rows c =
    rows-told c.args.unit.now c.unit-whole.ensures.ready.formed c.unit-whole.ensures.normal c.as_slice.result.now c.as_slice-2.result.now c.in_ok-rows.rows.items
    (c.as_slice.ensures ∙ ap (λ (u : Unit1). u.types) c.unit-whole.ensures.unit)
    (ap lent c.as_slice-2.ensures.value ∙ (c.in_ok-graphs.ensures ∙ ap unit_graphs c.unit-whole.ensures.unit)) c.in_ok-rows.ensures

pub returns-clause-flags : goal.returns-clause-flags
returns-clause-flags c = aggregate-flags c.args.unit.now c.unit-whole.ensures.ready.formed c.in_ok-rows.rows.items (returns-clause-rows c)
