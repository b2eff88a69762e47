use Rattle.std.proofs.Common.{rules, ◌<◌, length}
use Rattle.std.specs.Prelude.{◌^◌}
use Rattle.tree_sizes.proofs.Folds.{length-kept}
use Rattle.tree_sizes.proofs.program.header.Goals as goal

pub returns : goal.returns
returns c =
    let f = c.args.function.now in
    let a : c.len-params.result < 2 ^ 64 = search rules in
    let b : c.len-results.result < 2 ^ 64 = search rules in
    c.deeper.ensures (length f.params) (length f.results) (length-kept c.len-params.result (length f.params) c.len-params.ensures a) (length-kept c.len-results.result (length f.results) c.len-results.ensures b)
