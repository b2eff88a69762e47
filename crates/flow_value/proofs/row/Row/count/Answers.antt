use Rattle.std.proofs.Common.{sym}
use Rattle.flow_value.proofs.Rows.{count_is}
use Rattle.flow_value.proofs.row.Row.count.Goals as goal

pub returns-clause-items : goal.returns-clause-items
returns-clause-items g c = sym (count_is c.args.self.now c.requires)
