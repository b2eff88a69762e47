use Rattle.std.proofs.Common.{refl, arith}
use Rattle.flow_value.proofs.Rows.{first_is, takes_first}
use Rattle.flow_value.proofs.row.Row.take_first.Goals as goal

pub read-item-requires : goal.read-item-requires
read-item-requires g c = first_is c.args.self.now c.requires.0 c.requires.1

pub returns-clause-row : goal.returns-clause-row
returns-clause-row g c = let r = c.read-item.ensures in rw r.1 ((takes_first c.args.self.now c.requires.0 c.requires.1 c.read-item.result r.0).0, refl, omega (arith, c.requires.1))

pub returns-clause-items : goal.returns-clause-items
returns-clause-items g c = let r = c.read-item.ensures in rw r.1 ((takes_first c.args.self.now c.requires.0 c.requires.1 c.read-item.result r.0).1)
