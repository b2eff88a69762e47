use mir.Raw.{raw}
use denote.Memory.{lone}
use denote.RattleType.{RattleType}
use denote.Param.Send.{IsSend, Frees, owning_send, struct_send}
use denote.Struct.Struct.{exits_of}
use denote.Struct.Owning.{shape, fields, to}
use Rattle.std.specs.declared.alloc.Allocator.{Ghosts}
use Rattle.lease.specs.contracts.loan.Title.{the_row, the_type}
use Rattle.lease.proofs.Crossing.{pointer_send, stays_quiet, value_keyless}

pub send : (T A : RattleType) (g : Ghosts A.Denot) → IsSend T → IsSend A → Frees g g.dealloc_token → IsSend (the_row T A g)
send T A g st sa f =
    let O = the_type T A g in
    owning_send O (pointer_send, (sa, tt)) (λ t. ((λ _. tt), (value_keyless T st t.at t.value, f.frees t.alloc (raw (lone T.mir)) t.at)))
    (λ k. stays_quiet (to O) (exits_of k (fields O)) ((struct_send (shape O) (pointer_send, (sa, tt))).leaving k))
