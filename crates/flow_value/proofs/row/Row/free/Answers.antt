use Rattle.std.proofs.Common.{ap, length, arith}
use Rattle.flow_value.proofs.Rows.{count_is}
use Rattle.flow_value.proofs.row.Row.free.Goals as goal

pub begun-requires : goal.begun-requires
begun-requires g c = (c.requires.0, omega (arith, count_is c.args.self c.requires.0, ap length c.requires.1), omega arith)
