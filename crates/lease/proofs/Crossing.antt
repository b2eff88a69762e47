-- What may cross threads: nothing that a stake or a title owns belongs to one thread.
use denote.Exit.{Exit, unchanged, leaves, hidden, under}
use denote.RattleType.{RattleType}
use denote.RawPtr.{Ptr, block_ptr, null_ptr, block_of, count_of, lies_at, in_block}
use denote.Builtin.{RawPtr}
use denote.Param.Send.{IsSend, IsSync, Quiet, Common, part_keyless, sendable}
use denote.Struct.Lending.{lent_at}
use base.Fraction.{full_share}
use base.Fml.{Fml, ftrue}
use base.Shift.{Keyless}

pub pointer_send : IsSend RawPtr
pointer_send = search sendable

pub pointer_sync : IsSync RawPtr
pointer_sync = search sendable

pub stays_quiet : {D X : Type 0} (to : D → X) (e : Exit X) → Quiet e → Quiet (hidden (under to e))
stays_quiet to unchanged q = λ x w. tt
stays_quiet to (leaves L l S s r₀) q = λ d. q (to d)

-- a value at a pointer, of a type whose values may cross
pub value_keyless : (R : RattleType) → IsSend R → (p : Ptr) (x : R.Denot) → Keyless (lies_at R full_share p x)
value_keyless R s null_ptr x = tt
value_keyless R s (block_ptr b o) x = part_keyless R s full_share x b o

in_block_keyless : (p : Ptr) → Keyless (in_block p ftrue)
in_block_keyless null_ptr = tt
in_block_keyless (block_ptr b o) = tt

-- a shared value at a pointer, of a type whose references may cross
pub shared_common : (R : RattleType) → IsSync R → (p : Ptr) (x : R.Denot) → Common (lent_at R p x)
shared_common R s p x κ = (in_block_keyless p, s.shared x (block_of p) (count_of p) κ)
