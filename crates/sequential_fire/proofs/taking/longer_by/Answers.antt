use Rattle.std.proofs.Common.{inr}
use Rattle.sequential_fire.proofs.TakeSteps.{by-values}
use Rattle.sequential_fire.proofs.taking.longer_by.Goals as goal

pub anew_two-requires : goal.anew_two-requires
anew_two-requires c = by-values c.args.row (inr c.requires)
