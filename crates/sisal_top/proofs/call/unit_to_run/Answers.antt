use Rattle.std.proofs.Common.{arith}
use Rattle.sisal_top.proofs.call.unit_to_run.Goals as goal

pub unit_of_text-requires : goal.unit_of_text-requires
unit_of_text-requires c = omega (arith, c.requires.few)
