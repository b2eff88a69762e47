use Rattle.std.proofs.Common.{rules, ◌∙◌, ◌<◌, ap}
use Rattle.std.specs.Prelude.{min}
use Rattle.lowering.specs.Loops.{span}
use Rattle.lowered_sizes.specs.Counting.{capped_sizes}
use Rattle.tree_sizes.proofs.LoopClauses.{one-type, taken-kept, span-small}
use Rattle.tree_sizes.proofs.loops.clause.Goals as goal

pub returns : goal.returns
returns c = λ m k e f.
    let form = c.args.form in
    let some : 0 < c.args.types = search rules in
    let same = c.smaller.ensures ∙ ap (λ n. min n c.args.multiples) c.span.ensures in
    c.fold.ensures (min (span form.masking) m) (same ∙ taken-kept (span form.masking) c.args.multiples m (span-small form.masking) e)
    ∙ ap capped_sizes (one-type c.args.is_limit form c.args.types m k some f)
