use Rattle.std.proofs.Common.{◌≡◌, min, length, arith}
use Rattle.lower_exprs.proofs.Turning.{nothing_renewed}
use Rattle.lower_exprs.proofs.turns.renew.Goals as goal

pub loop-left-init : goal.loop-left-init
loop-left-init c =
    let ds = c.args.renewed.now in
    let ws = c.args.later.now in
    let least : c.min-left.result ≡ min (length ds) (length ws) = c.min-left.ensures in
    record {
      renewed = omega (arith, least);
      later = omega (arith, least);
      wires = nothing_renewed ds ws c.args.own c.min-left.result least;
    }
