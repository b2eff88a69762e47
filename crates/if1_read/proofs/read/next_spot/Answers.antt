use Rattle.std.proofs.Common.{ap, arith}
use Rattle.if1_read.specs.declared.read.Spot.{Spot}
use Rattle.if1_read.proofs.Shallow.{shallow_next}
use Rattle.if1_read.proofs.read.next_spot.Goals as goal

pub returns-clause-shallow : goal.returns-clause-shallow
returns-clause-shallow c = omega (arith, ap (λ (s : Spot). s.depth) c.spot_after.ensures, shallow_next c.args.line.now c.args.spot)
