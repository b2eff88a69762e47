-- What may cross threads: nothing that a run or a shell owns belongs to one thread.
use Rattle.std.proofs.Common.{ℕ, ◌+◌, ◌-◌, ◌*◌, Bool, true, false, List, [], ◌∷◌}
use base.Fml.{Fml}
use base.Fraction.{full_share}
use base.Shift.{Keyless}
use denote.Exit.{Exit, unchanged, leaves, hidden, under}
use denote.RattleType.{RattleType}
use denote.Memory.{lone}
use denote.RawPtr.{Ptr, block_ptr, null_ptr, lies_at, room_for, in_block, ◌+ₚ◌}
use denote.Array.{Array}
use denote.Builtin.{RawPtr, usize}
use denote.Param.Send.{IsSend, Frees, Quiet, AllSend, owning_send, struct_send, part_keyless, array_send, sendable}
use denote.Struct.Struct.{exits_of}
use denote.Struct.Owning.{shape, fields, to}
use mir.Syntax.{Ty}
use mir.Raw.{raw}
use Rattle.std.specs.declared.alloc.Allocator.{Ghosts}
use Rattle.std.specs.Allocator.{array_of}
use Rattle.std.specs.Vec.Ownership.{owns_if, has_block}
use Rattle.std.specs.contracts.vec.Vec as Vec
use Rattle.segment.specs.Places.{Place, away, unwritten, written}
use Rattle.segment.specs.Runs.{bytes_of, place_owns, places_own, run_owns, cut_owns}

pub pointer_send : IsSend RawPtr
pointer_send = search sendable

pub stays_quiet : {D X : Type 0} (to : D → X) (e : Exit X) → Quiet e → Quiet (hidden (under to e))
stays_quiet to unchanged q = λ x w. tt
stays_quiet to (leaves L l S s r₀) q = λ d. q (to d)

module _ (R : RattleType) (s : IsSend R) where
  value_keyless : (p : Ptr) (x : R.Denot) → Keyless (lies_at R full_share p x)
  value_keyless null_ptr x = tt
  value_keyless (block_ptr b o) x = part_keyless R s full_share x b o

  room_keyless : (τ : Ty) (p : Ptr) → Keyless (room_for τ p)
  room_keyless τ null_ptr = tt
  room_keyless τ (block_ptr b o) = tt

  place_keyless : (p : Ptr) (x : Place R.Denot) → Keyless (place_owns R p x)
  place_keyless p away = tt
  place_keyless p unwritten = room_keyless (raw (lone R.mir)) p
  place_keyless p (written x) = value_keyless p x

  places_keyless : (b o : ℕ) (xs : List (Place R.Denot)) → Keyless (places_own R (block_ptr b o) xs)
  places_keyless b o [] = tt
  places_keyless b o (x ∷ xs) = (place_keyless (block_ptr b o) x, places_keyless b (o + bytes_of R) xs)

  pub owned_keyless : (p : Ptr) (xs : List (Place R.Denot)) → Keyless (run_owns R p xs)
  owned_keyless null_ptr xs = (tt, tt)
  owned_keyless (block_ptr b o) xs = (tt, places_keyless b o xs)

  pub run_keyless : (start : Ptr) (offset : ℕ) (p : Ptr) (xs : List (Place R.Denot)) → Keyless (cut_owns R start offset p xs)
  run_keyless start offset p xs = ((λ _. tt), owned_keyless p xs)

  -- a Vec with no block owns nothing, and its block is elements, room and the right to free it
  block_keyless : (p : Ptr) (y : Bool) (F : Fml) → Keyless F → Keyless (in_block p (owns_if y F))
  block_keyless null_ptr y F k = tt
  block_keyless (block_ptr b o) true F k = k
  block_keyless (block_ptr b o) false F k = tt

  elements_keyless : (n : ℕ) (p : Ptr) (xs : List R.Denot) → Keyless (lies_at (Array R n) full_share p xs)
  elements_keyless n null_ptr xs = tt
  elements_keyless n (block_ptr b o) xs = part_keyless (Array R n) (array_send R n s) full_share xs b o

  pub vec_send : (A : RattleType) (g : Ghosts A.Denot) → IsSend A → Frees g g.dealloc_token → IsSend (Vec.the_row R A g)
  vec_send A g sa f =
      let O = Vec.the_type R A g in
      let word : IsSend usize = search sendable in
      let all : AllSend (fields O) = (pointer_send, (word, (word, (sa, tt)))) in
      owning_send O all
      (λ v. (tt, block_keyless v.ptr (has_block v.cap) _ (elements_keyless v.len v.ptr v.items, (room_keyless (array_of R (v.cap - v.len)) (v.ptr +ₚ v.len * bytes_of R), f.frees v.alloc (array_of R v.cap) v.ptr))))
      (λ k. stays_quiet (to O) (exits_of k (fields O)) ((struct_send (shape O) all).leaving k))
