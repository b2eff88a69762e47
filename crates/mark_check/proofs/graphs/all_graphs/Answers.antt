use Rattle.std.proofs.Common.{◌∙◌, ◌++◌, subst, sym, ap, All, ◌≤◌}
use Rattle.if1_graph.specs.Units.{levels, most_levels}
use Rattle.mark_check.specs.Graphs.{graphs_in, lent}
use Rattle.mark_check.proofs.Listed.{unit-listed, unit-flat}
use Rattle.mark_check.proofs.graphs.all_graphs.Goals as goal

pub returns : goal.returns
returns c =
    c.in_ok-add_parts.ensures most_levels (unit-flat most_levels c.as_slice.result.now (subst (All (λ g. levels g ≤ most_levels)) (sym c.as_slice.ensures) c.requires))
    ∙ (ap (λ xs. lent xs ++ graphs_in most_levels c.as_slice.result.now) c.new-all.ensures.items
    ∙ (ap (graphs_in most_levels) c.as_slice.ensures ∙ unit-listed c.args.unit.now))
