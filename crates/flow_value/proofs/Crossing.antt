-- What may cross threads: nothing that a block owns or lends belongs to one thread.
use Rattle.std.proofs.Common.{ℕ, List, [], ◌∷◌, map, Bool, true, false, Option, Some, None}
use base.Fml.{Fml, ftrue}
use base.Shift.{Keyless}
use mir.Syntax.{ty_array}
use mir.Raw.{raw}
use denote.RattleType.{RattleType}
use denote.Memory.{lone}
use denote.RawPtr.{Ptr, block_ptr, null_ptr, block_of, count_of, in_block, ◌+ₚ◌}
use denote.Builtin.{RawPtr}
use denote.Param.Send.{IsSend, IsSync, Common, AllSend, owning_send, struct_send, struct_sync, sendable}
use denote.Struct.Struct.{exits_of}
use denote.Struct.Owning.{shape, fields, to}
use Rattle.std.specs.Vec.Ownership.{owns_if, has_block}
use Rattle.std.specs.contracts.impls.GlobalAllocator.TheImpl.{ghosts}
use Rattle.std.proofs.Crossing.{frees}
use Rattle.segment.specs.Runs.{bytes_of}
use Rattle.segment.proofs.Crossing.{pointer_send, stays_quiet, owned_keyless}
use Rattle.flow_value.specs.Ownership.{here, freed, places_lent, run_lent}
use Rattle.flow_value.specs.contracts.block.Block as Block

pointer_sync : IsSync RawPtr
pointer_sync = search sendable

module _ (R : RattleType) where
  if_so : (F : Fml) → Keyless F → (y : Bool) → Keyless (owns_if y F)
  if_so F k true = k
  if_so F k false = tt

  freed_keyless : (p : Ptr) (c : ℕ) → Keyless (freed R p c)
  freed_keyless p c heap = let τ = raw (ty_array (lone R.mir) c) in if_so (ghosts.dealloc_token heap τ p) (frees.frees heap τ p) (has_block c)

  in_block_common : (p : Ptr) → Keyless (in_block p ftrue)
  in_block_common (block_ptr b o) = tt
  in_block_common null_ptr = tt

  places_common : IsSync R → (p : Ptr) (cs : List (Option R.Denot)) → Common (places_lent R p cs)
  places_common y p [] κ = tt
  places_common y p (None ∷ cs) κ = (tt, places_common y (p +ₚ bytes_of R) cs κ)
  places_common y p (Some x ∷ cs) κ = ((in_block_common p, y.shared x (block_of p) (count_of p) κ), places_common y (p +ₚ bytes_of R) cs κ)

  run_common : IsSync R → (p : Ptr) (cs : List (Option R.Denot)) → Common (run_lent R p cs)
  run_common y (block_ptr b o) cs κ = places_common y (block_ptr b o) cs κ
  run_common y null_ptr cs κ = tt

  pub block_send : IsSend R → IsSend (Block.the_row R)
  block_send s =
      let O = Block.the_type R in
      let all : AllSend (fields O) = (pointer_send, tt) in
      owning_send O all (λ b. (owned_keyless R s b.at (map here b.places), (tt, freed_keyless b.at b.room)))
      (λ k. stays_quiet (to O) (exits_of k (fields O)) ((struct_send (shape O) all).leaving k))

  pub block_sync : IsSync R → IsSync (Block.the_row R)
  block_sync y =
      let O = Block.the_type R in
      record { shared = λ d b o κ. ((struct_sync (shape O) (pointer_sync, tt)).shared (to O d) b o κ, (tt, run_common y d.at d.places κ)) }
