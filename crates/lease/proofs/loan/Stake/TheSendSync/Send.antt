use mathlib.Core.List.{[], ◌∷◌}
use denote.RattleType.{RattleType}
use denote.Param.Send.{IsSend, IsSync, owning_send, struct_send}
use denote.Struct.Struct.{exits_of}
use denote.Struct.Owning.{shape, fields, to}
use Rattle.lease.specs.contracts.loan.Stake.{the_row, the_type}
use Rattle.lease.specs.Loans.{life}
use Rattle.lease.proofs.Crossing.{pointer_send, stays_quiet, shared_common}

pub send : (T : RattleType) → IsSync T → IsSend (the_row T)
send T y =
    let O = the_type T in
    owning_send O (pointer_send, tt) (λ s. ((λ q is. tt), shared_common T y s.at s.value (life s.loan)))
    (λ k. stays_quiet (to O) (exits_of k (fields O)) ((struct_send (shape O) (pointer_send, tt)).leaving k))
