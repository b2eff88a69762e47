use Rattle.std.proofs.Common.{◌∙◌, ap, subst, sym}
use Rattle.if1_graph.specs.Formed.{IsFormed}
use Rattle.if1_graph.specs.Normal.{IsNormal}
use Rattle.mark_check.specs.Graphs.{lent, unit_graphs}
use Rattle.bench_units.proofs.told.told_of.Goals as goal

pub all_shaped-requires : goal.all_shaped-requires
all_shaped-requires c = ap lent c.as_slice.ensures.value ∙ (c.in_ok-graphs.ensures ∙ ap unit_graphs c.unit-whole.ensures.unit)

pub owned_edges-requires-clause-formed : goal.owned_edges-requires-clause-formed
owned_edges-requires-clause-formed c = subst IsFormed (sym c.unit-whole.ensures.unit) c.unit-whole.ensures.ready.formed

pub owned_edges-requires-clause-normal : goal.owned_edges-requires-clause-normal
owned_edges-requires-clause-normal c = subst IsNormal (sym c.unit-whole.ensures.unit) c.unit-whole.ensures.normal

pub all_lent-requires-clause-graphs : goal.all_lent-requires-clause-graphs
all_lent-requires-clause-graphs c = ap lent c.as_slice-6.ensures.value ∙ (c.in_ok-graphs.ensures ∙ ap unit_graphs c.unit-whole.ensures.unit)
