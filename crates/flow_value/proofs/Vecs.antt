-- The memory of a `Vec` is places, and the right to free it. Assumes `Logic`.
use Rattle.std.proofs.Common.{◌≡◌, ℕ, ◌+◌, ◌*◌, ◌-◌, ◌≤◌, Bool, true, false, List, [], ◌∷◌, ◌++◌, length, map, replicate, refl, sym, ap, ◌∙◌, arith}
use Rattle.std.proofs.lemmas.List.{length-map}
use seplogic.Ra.Ura.{Ura}
use mir.Syntax.{ty_array, given as dict_at}
use mir.Raw.{raw as bare}
use base.Fraction.{full_share}
use base.Logic.{ent, sep}
use base.Fml.{Fml, ftrue, froom}
use types.Logic.{Logic, sem}
use types.Kit.{‵, ◌⊛◌, given, ◌$◌, ◌∵◌, !, qed, move, drop, frame, split, fsplit, fjoin, learn, use1, use2, rewrite, done}
use denote.RattleType.{RattleType}
use denote.Array.{Array}
use denote.Index.{row}
use denote.Memory.{part_at}
use denote.RawPtr.{block_ptr}
use denote.Steps.{nothing}
use Rattle.std.specs.Allocator.{block_with_items}
use Rattle.std.specs.Vec.Ownership.{owns_if}
use Rattle.std.specs.contracts.alloc.Global as heap
use Rattle.std.specs.contracts.impls.GlobalAllocator.TheImpl.{ghosts}
use Rattle.std.proofs.alloc.Global.TheLaws as heap_laws
use Rattle.std.proofs.alloc.Calls.{token}
use Rattle.std.proofs.mem.Param.{El}
use Rattle.std.proofs.ptr.Rows as arrays
use Rattle.std.proofs.RawLayout.{as_raw, as_written}
use Rattle.std.proofs.VecSteps.El as V
use Rattle.segment.specs.Places.{Place, unwritten, written}
use Rattle.segment.specs.Runs.{bytes_of, places_own}
use Rattle.segment.proofs.Rows.{cut, glue, of_room, to_room, of_values, to_values}
use Rattle.segment.proofs.Fields.{in_arrays}

-- a `Vec` in the heap
abbrev pub on_heap : El → V.El
on_heap E = record { row = E.row; laws = E.laws; al = record { row = heap.the_row; laws = heap_laws.the_row_laws; g = ghosts; d = dict_at 0; drops = dict_at 0 } }

module _ (E : V.El) {M : Type 1} {𝓤 : Ura M} (𝓛 : Logic 𝓤) (a : V.Hd E) (b o n c : ℕ) (xs : List E.row.Denot) (count : n ≡ length xs) (fits : n ≤ c) where
  abbrev X : El
  X = record { row = E.row; laws = E.laws }

  abbrev T : RattleType
  T = V.R E

  abbrev blank : List (Place E.row.Denot)
  blank = replicate (c - n) unwritten

  abbrev behind : ℕ
  behind = o + n * bytes_of T

  abbrev Block : Bool → Fml
  Block y = owns_if y (block_with_items (token E.al a) T (block_ptr b o) n c xs)

  abbrev pub Freed : Bool → Fml
  Freed y = owns_if y (token E.al a (bare (ty_array (V.elτ E) c)) (block_ptr b o))

  abbrev pub Places : Fml
  Places = places_own T (block_ptr b o) (map written xs ++ blank)

  long : length (map written xs) ≡ n
  long = length-map xs written ∙ sym count

  -- a `Vec` that has no memory has no places
  no_items : (ys : List E.row.Denot) → length ys ≡ 0 → map written ys ≡ []
  no_items [] e = refl
  no_items (y ∷ ys) e = absurd (omega arith)

  no_places : c ≡ 0 → [] ≡ map written xs ++ blank
  no_places none =
      let few : c - n ≡ 0 = omega (arith, none) in
      ap (λ m. replicate m unwritten) (sym few) ∙ ap (λ ps. ps ++ blank) (sym (no_items xs (omega (arith, none, count, fits))))

  pub opened : (y : Bool) → (y ≡ false → c ≡ 0) → ent 𝓤 (sem 𝓛 (Block y)) (sep 𝓤 (sem 𝓛 Places) (sem 𝓛 (Freed y)))
  opened true none = qed 𝓛 (‵ (Block true) ∷ []) ∵ fsplit ! $
      use1 𝓛 (given (length xs ≡ n) (‵ (row T full_share xs b o))) (arrays.apart (in_arrays X) 𝓛 full_share n xs b o) $ learn ! (λ _.
      use1 𝓛 (‵ (places_own T (block_ptr b o) (map written xs))) (of_values X 𝓛 b xs o) $ move ! (1 ∷ []) $ fsplit ! $
      as_written ! (ty_array (V.elτ E) (c - n)) b behind $ use1 𝓛 (‵ (places_own T (block_ptr b behind) blank)) (of_room X 𝓛 b (c - n) behind) $
      move ! (2 ∷ 0 ∷ []) $ use2 𝓛 (‵ Places) (glue X 𝓛 b (map written xs) blank o n long) $ done !)
  opened false none = qed 𝓛 (‵ ftrue ∷ []) ∵ nothing ! $ rewrite ! 0 (λ (ps : List (Place E.row.Denot)). ‵ (places_own T (block_ptr b o) ps)) (no_places (none refl)) refl $ done !

  pub closed : (y : Bool) → ent 𝓤 (sep 𝓤 (sem 𝓛 Places) (sem 𝓛 (Freed y))) (sem 𝓛 (Block y))
  closed true = qed 𝓛 (‵ Places ∷ ‵ (Freed true) ∷ []) ∵
      use1 𝓛 (‵ (places_own T (block_ptr b o) (map written xs)) ⊛ ‵ (places_own T (block_ptr b behind) blank)) (cut X 𝓛 b (map written xs) blank o n long) $
      split ! $ use1 𝓛 (‵ (row T full_share xs b o)) (to_values X 𝓛 b xs o) $ use1 𝓛 (‵ (part_at (Array T n) full_share xs b o)) (arrays.whole (in_arrays X) 𝓛 full_share n xs b o (sym count)) $
      move ! (1 ∷ []) $ use1 𝓛 (‵ (froom (ty_array (V.elτ E) (c - n)) b behind)) (to_room X 𝓛 b (c - n) behind) $ as_raw ! (ty_array (V.elτ E) (c - n)) b behind $
      move ! (0 ∷ 2 ∷ []) $ fjoin ! $ move ! (1 ∷ []) $ frame ! $ done !
  closed false = qed 𝓛 (‵ Places ∷ ‵ ftrue ∷ []) ∵ drop ! $ done !
