-- What a block owns and lends: its places, and the right to free them. `segment` says what a place owns.
use Rattle.std.specs.Prelude.{ℕ, ◌*◌, ◌^◌, List, [], ◌∷◌, length, map, Option, Some, None}
use Rattle.std.specs.Vec.Ownership.{owns_if, has_block}
use Rattle.std.specs.declared.alloc.Global.{Global}
use Rattle.std.specs.contracts.impls.GlobalAllocator.TheImpl.{ghosts}
use base.Fml.{Lft, Fml, fsep, fex, flt}
use mir.Syntax.{ty_array}
use mir.Raw.{raw}
use denote.RattleType.{RattleType}
use denote.Memory.{lone}
use denote.RawPtr.{Ptr, in_block, ◌+ₚ◌}
use denote.Sharing.{nothing, beside, said}
use denote.Struct.Lending.{lent_at}
use Rattle.segment.specs.Places.{Place, unwritten, written}
use Rattle.segment.specs.Runs.{bytes_of, run_owns}

-- a place that is here, as segments have it
abbrev pub here : {X : Type 0} → Option X → Place X
here None = unwritten
here (Some x) = written x

module _ (R : RattleType) where
  -- the heap takes the memory of c places at p back. For none there is no memory
  abbrev pub freed : Ptr → ℕ → Fml
  freed p c = fex Global (λ heap. owns_if (has_block c) (ghosts.dealloc_token heap (raw (ty_array (lone R.mir) c)) p))

  abbrev pub block_owns : Ptr → ℕ → List (Option R.Denot) → Fml
  block_owns p c cs = fsep (run_owns R p (map here cs)) (fsep (flt c (2 ^ 63)) (freed p c))

  -- a `&` to a block shows the values in it
  abbrev pub place_lent : Ptr → Option R.Denot → Lft → Fml
  place_lent p None = nothing
  place_lent p (Some x) = lent_at R p x

  abbrev pub places_lent : Ptr → List (Option R.Denot) → Lft → Fml
  places_lent p [] = nothing
  places_lent p (c ∷ cs) = beside (place_lent p c) (places_lent (p +ₚ bytes_of R) cs)

  abbrev pub run_lent : Ptr → List (Option R.Denot) → Lft → Fml
  run_lent p cs κ = in_block p (places_lent p cs κ)

  abbrev pub block_lent : Ptr → List (Option R.Denot) → Lft → Fml
  block_lent p cs = beside (said (flt (length (map here cs) * bytes_of R) (2 ^ 63))) (run_lent p cs)
