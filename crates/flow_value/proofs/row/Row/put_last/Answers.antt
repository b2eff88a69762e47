use Rattle.std.proofs.Common.{refl}
use Rattle.flow_value.proofs.Rows.{blank_behind, puts_last}
use Rattle.flow_value.proofs.row.Row.put_last.Goals as goal

pub write-requires : goal.write-requires
write-requires g c = blank_behind c.args.self.now c.requires.row c.requires.room

pub returns-clause-items : goal.returns-clause-items
returns-clause-items g c = rw c.write.ensures (let made = puts_last c.args.self.now c.requires.row c.requires.room c.args.item in (made.0, (refl, made.1)))
