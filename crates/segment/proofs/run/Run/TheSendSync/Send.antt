use denote.RattleType.{RattleType}
use denote.Param.Send.{IsSend, owning_send, struct_send}
use denote.Struct.Struct.{exits_of}
use denote.Struct.Owning.{shape, fields, to}
use Rattle.segment.specs.contracts.run.Run.{the_row, the_type}
use Rattle.segment.proofs.Crossing.{pointer_send, stays_quiet, run_keyless}

pub send : (T : RattleType) → IsSend T → IsSend (the_row T)
send T s =
    let O = the_type T in
    owning_send O (pointer_send, tt) (λ r. run_keyless T s r.start r.offset r.at r.places)
    (λ k. stays_quiet (to O) (exits_of k (fields O)) ((struct_send (shape O) (pointer_send, tt)).leaving k))
