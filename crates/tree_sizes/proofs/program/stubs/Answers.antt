use Rattle.std.proofs.Common.{rules, ◌∙◌, ◌<◌, length, sym, ap}
use Rattle.std.specs.Prelude.{◌^◌}
use Rattle.lowered_sizes.specs.Counting.{capped_sizes}
use Rattle.tree_sizes.proofs.Folds.{length-kept}
use Rattle.tree_sizes.proofs.Whole.{stubs-are, stubs-kept}
use Rattle.tree_sizes.proofs.program.stubs.Goals as goal

pub returns : goal.returns
returns c = λ ts n e.
    let fits : c.args.results < 2 ^ 64 = search rules in
    stubs-kept c.args.results (length ts) (length-kept c.args.results (length ts) e fits) ∙ ap capped_sizes (sym (stubs-are ts n))
