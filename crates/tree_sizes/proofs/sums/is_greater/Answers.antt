use Rattle.std.proofs.Common.{rules, ◌∙◌, ◌<◌, ap}
use Rattle.std.specs.Prelude.{◌^◌, nat_lt}
use Rattle.tree_sizes.proofs.Kept.{less-kept}
use Rattle.tree_sizes.proofs.sums.is_greater.Goals as goal

pub returns : goal.returns
returns c = λ n e.
    let small : c.args.than < 2 ^ 32 = search rules in
    ap (λ l. nat_lt l c.args.number) c.from.ensures ∙ less-kept c.args.than c.args.number n small e
