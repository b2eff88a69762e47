use Rattle.std.proofs.Common.{refl}
use Rattle.flow_value.proofs.Rows.{item_is, blank_again, puts_again}
use Rattle.flow_value.proofs.row.Row.replace.Goals as goal

pub read-old-requires : goal.read-old-requires
read-old-requires g c = item_is c.args.self.now c.requires.0 c.args.place c.requires.1

pub write-requires : goal.write-requires
write-requires g c = rw c.read-old.ensures.1 (blank_again c.args.self.now c.requires.0 c.args.place c.requires.1)

pub returns : goal.returns
returns g c = rw (c.write.ensures, c.read-old.ensures.1) (let made = puts_again c.args.self.now c.requires.0 c.args.place c.requires.1 c.args.item in (made.0, (refl, made.1)))
