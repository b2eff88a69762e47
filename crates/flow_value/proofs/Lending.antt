-- A `&` to a block shows the value in each place that has one. Assumes `Logic`.
use Rattle.std.proofs.Common.{◌≡◌, ℕ, zero, suc, ◌+◌, ◌*◌, ◌^◌, List, [], ◌∷◌, length, map, take, drop as drop_list, Option, Some, None, refl, arith}
use native.Mathlib.Nat.{zero-mul, suc-mul}
use base.Fml.{Lft, Fml, Incl, ffalse, fsep, flt}
use base.Logic.{ent}
use types.Logic.{Logic, sem}
use types.Kit.{‵, ◌$◌, ◌∵◌, !, qed, move, drop, use1, rewrite, fsplit, fjoin, done}
use denote.Memory.{shared_of}
use denote.Slice.{elements_shared}
use denote.Steps.{nothing as none_more}
use seplogic.Ra.Ura.{Ura}
use denote.RattleType.{RattleType}
use denote.Param.Laws.{Laws}
use denote.RawPtr.{Ptr, block_ptr, null_ptr, in_block, ◌+ₚ◌}
use denote.Shares.{Shares-less}
use denote.Sharing.{ShrLaws, said}
use denote.SharingLaws.{said_shr_laws, beside_shr_laws, nothing_shr_laws}
use denote.Struct.Lending.{Lends, Lends-lies, Lends-said, Lends-nothing, Lends-false, Lends-first, Lends-both, lent_at_shr_laws}
use Rattle.segment.specs.Runs.{bytes_of, place_owns, places_own, run_owns}
use Rattle.flow_value.specs.Ownership.{here, freed, block_owns, place_lent, places_lent, run_lent, block_lent}

module _ (R : RattleType) (L : Laws R) where
  place_laws : (p : Ptr) (c : Option R.Denot) → ShrLaws (place_lent R p c)
  place_laws p None = nothing_shr_laws
  place_laws p (Some x) = lent_at_shr_laws R L.shr_laws p x

  places_laws : (p : Ptr) (cs : List (Option R.Denot)) → ShrLaws (places_lent R p cs)
  places_laws p [] = nothing_shr_laws
  places_laws p (c ∷ cs) = beside_shr_laws (place_lent R p c) (places_lent R (p +ₚ bytes_of R) cs) (place_laws p c) (places_laws (p +ₚ bytes_of R) cs)

  run_laws : (p : Ptr) (cs : List (Option R.Denot)) → ShrLaws (run_lent R p cs)
  run_laws (block_ptr b o) cs = places_laws (block_ptr b o) cs
  run_laws null_ptr cs = said_shr_laws ffalse tt

  pub block_laws : (p : Ptr) (cs : List (Option R.Denot)) → ShrLaws (block_lent R p cs)
  block_laws p cs = let small = flt (length (map here cs) * bytes_of R) (2 ^ 63) in beside_shr_laws (said small) (run_lent R p cs) (said_shr_laws small tt) (run_laws p cs)

  module _ {M : Type 1} {𝓤 : Ura M} (𝓛 : Logic 𝓤) (l : Lft) (within : Incl l R.lives) where
    lends_place : (p : Ptr) (c : Option R.Denot) → Lends 𝓛 (place_owns R p (here c)) (place_lent R p c) l
    lends_place p None = Lends-nothing 𝓛 (place_owns R p (here None)) l
    lends_place p (Some x) = Lends-lies 𝓛 R l p x (Shares-less 𝓛 R R.lives l within (L.shares 𝓛) x)

    lends_places : (p : Ptr) (cs : List (Option R.Denot)) → Lends 𝓛 (places_own R p (map here cs)) (places_lent R p cs) l
    lends_places p [] = Lends-nothing 𝓛 (places_own R p []) l
    lends_places p (c ∷ cs) =
        let q = p +ₚ bytes_of R in
        Lends-both 𝓛 (place_owns R p (here c)) (places_own R q (map here cs)) (place_lent R p c) (places_lent R q cs) l (lends_place p c) (lends_places q cs)

    lends_run : (p : Ptr) (cs : List (Option R.Denot)) → Lends 𝓛 (in_block p (places_own R p (map here cs))) (run_lent R p cs) l
    lends_run (block_ptr b o) cs = lends_places (block_ptr b o) cs
    lends_run null_ptr cs = Lends-false 𝓛 (run_lent R null_ptr cs) l

    pub lends_block : (p : Ptr) (c : ℕ) (cs : List (Option R.Denot)) → Lends 𝓛 (block_owns R p c cs) (block_lent R p cs) l
    lends_block p c cs =
        let small = flt (length (map here cs) * bytes_of R) (2 ^ 63) in
        Lends-first 𝓛 (run_owns R p (map here cs)) (fsep (flt c (2 ^ 63)) (freed R p c)) (block_lent R p cs) l
        (Lends-both 𝓛 small (in_block p (places_own R p (map here cs))) (said small) (run_lent R p cs) l (Lends-said 𝓛 small tt l) (lends_run p cs))

-- a run of values is seen as a slice
module _ (R : RattleType) {M : Type 1} {𝓤 : Ura M} (𝓛 : Logic 𝓤) (κ : Lft) (b : ℕ) where
  abbrev seen : ℕ → List (Option R.Denot) → Fml
  seen o cs = places_lent R (block_ptr b o) cs κ

  as_elements : (cs : List (Option R.Denot)) (n : ℕ) (xs : List R.Denot) (o : ℕ) → take n cs ≡ map Some xs → ent 𝓤 (sem 𝓛 (seen o cs)) (sem 𝓛 (elements_shared R xs b o κ))
  as_elements cs n [] o is = qed 𝓛 (‵ (seen o cs) ∷ []) ∵ drop ! $ none_more ! $ done !
  as_elements [] zero (x ∷ xs) o is = cc
  as_elements [] (suc n) (x ∷ xs) o is = cc
  as_elements (c ∷ cs) zero (x ∷ xs) o is = cc
  as_elements (None ∷ cs) (suc n) (x ∷ xs) o is = cc
  as_elements (Some y ∷ cs) (suc n) (x ∷ xs) o is =
      let same : y ≡ x = cc in
      let rest : take n cs ≡ map Some xs = cc in
      qed 𝓛 (‵ (seen o (Some y ∷ cs)) ∷ []) ∵ fsplit ! $ fsplit ! $ drop ! $ rewrite ! 0 (λ (z : R.Denot). ‵ (shared_of R z b o κ)) same refl $
      move ! (1 ∷ []) $ use1 𝓛 (‵ (elements_shared R xs b (o + bytes_of R) κ)) (as_elements cs n xs (o + bytes_of R) rest) $ move ! (1 ∷ 0 ∷ []) $ fjoin ! $ done !

  pub shows : (f : ℕ) (cs : List (Option R.Denot)) (n : ℕ) (xs : List R.Denot) (o : ℕ) → take n (drop_list f cs) ≡ map Some xs
      → ent 𝓤 (sem 𝓛 (seen o cs)) (sem 𝓛 (elements_shared R xs b (o + f * bytes_of R) κ))
  shows zero cs n xs o is =
      let here : o ≡ o + 0 * bytes_of R = omega (arith, zero-mul (bytes_of R)) in
      qed 𝓛 (‵ (seen o cs) ∷ []) ∵ use1 𝓛 (‵ (elements_shared R xs b o κ)) (as_elements cs n xs o is) $ rewrite ! 0 (λ (k : ℕ). ‵ (elements_shared R xs b k κ)) here refl $ done !
  shows (suc f) [] n xs o is = as_elements [] n xs (o + suc f * bytes_of R) is
  shows (suc f) (c ∷ cs) n xs o is =
      let there : o + bytes_of R + f * bytes_of R ≡ o + suc f * bytes_of R = omega (arith, suc-mul f (bytes_of R)) in
      qed 𝓛 (‵ (seen o (c ∷ cs)) ∷ []) ∵ fsplit ! $ drop ! $
      use1 𝓛 (‵ (elements_shared R xs b (o + bytes_of R + f * bytes_of R) κ)) (shows f cs n xs (o + bytes_of R) is) $ rewrite ! 0 (λ (k : ℕ). ‵ (elements_shared R xs b k κ)) there refl $ done !
