use Rattle.std.proofs.Common.{refl, arith}
use Rattle.flow_value.proofs.Rows.{begins}
use Rattle.flow_value.proofs.row.Row.begun.Goals as goal

pub returns : goal.returns
returns g c =
    let made = begins c.args.self c.requires.0 c.requires.1 c.args.first (omega (arith, c.requires.2, c.ranges.first.fits)) in
    (made.0, refl, c.requires.1, refl, made.1)
