use Rattle.std.proofs.Common.{◌≡◌, Some, false, slice_get, ap, ◌∙◌, sym, arith}
use Rattle.if1_types.specs.Finds.{unmet_in}
use Rattle.if1_types.proofs.Walked.{unmet_set}
use Rattle.if1_types.proofs.walk.wait_for_parts.Goals as goal

pub returns-in_ok-open_line : goal.returns-in_ok-open_line
returns-in_ok-open_line c =
    let fresh : slice_get c.args.met.now c.args.place ≡ Some false = ap (λ met. slice_get met c.args.place) (sym c.as_slice.ensures) ∙ c.is_fresh.ensures c.if-is_fresh.true in
    omega (arith, c.in_ok-open_line.ensures, unmet_set c.args.met.now c.args.place fresh, ap unmet_in c.set.ensures)
