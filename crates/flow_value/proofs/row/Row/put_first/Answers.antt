use Rattle.std.proofs.Common.{refl}
use Rattle.flow_value.proofs.Rows.{blank_before, puts_first}
use Rattle.flow_value.proofs.row.Row.put_first.Goals as goal

pub write-requires : goal.write-requires
write-requires g c = blank_before c.args.self.now c.requires.0 c.requires.1

pub returns : goal.returns
returns g c = rw c.write.ensures (let made = puts_first c.args.self.now c.requires.0 c.requires.1 c.args.item in (made.0, (refl, made.1)))
