use denote.RattleType.{RattleType}
use denote.Param.Send.{IsSync, struct_sync}
use denote.Struct.Owning.{shape, to}
use Rattle.lease.specs.contracts.loan.Stake.{the_row, the_type}
use Rattle.lease.specs.Loans.{life}
use Rattle.lease.proofs.Crossing.{pointer_sync, shared_common}

pub sync : (T : RattleType) → IsSync T → IsSync (the_row T)
sync T y =
    let O = the_type T in
    record { shared = λ s b o κ. ((struct_sync (shape O) (pointer_sync, tt)).shared (to O s) b o κ, ((λ q. tt), shared_common T y s.at s.value (life s.loan))) }
