use denote.RattleType.{RattleType}
use denote.Param.Send.{IsSync}
use Rattle.flow_value.specs.contracts.block.Block.{the_row}
use Rattle.flow_value.proofs.Crossing.{block_sync}

pub sync : (T : RattleType) → IsSync T → IsSync (the_row T)
sync T y = block_sync T y
