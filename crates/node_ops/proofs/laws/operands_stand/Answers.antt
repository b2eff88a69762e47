use Rattle.node_ops.proofs.Standing.{operands-stand}
use Rattle.node_ops.proofs.laws.operands_stand.Goals as goal

pub returns : goal.returns
returns c = operands-stand
