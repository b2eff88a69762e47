use denote.RattleType.{RattleType}
use denote.Param.Send.{IsSend}
use Rattle.flow_value.specs.contracts.block.Block.{the_row}
use Rattle.flow_value.proofs.Crossing.{block_send}

pub send : (T : RattleType) → IsSend T → IsSend (the_row T)
send T s = block_send T s
