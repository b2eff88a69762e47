-- A part that is filled place by place.
use Rattle.std.proofs.Common.{◌≡◌, ℕ, ◌+◌, ◌<◌, ◌≤◌, ◌&&◌, List, [], ◌∷◌, length, replicate, take, get_or, set, slice_get, Some, refl, sym, ap, subst, ◌∙◌, arith, length-set, IsTrue}
use Rattle.std.specs.List.{list_all}
use Rattle.std.proofs.lemmas.List.{get_or-set_same, get_or-set_other, get_or-replicate, length-replicate, take-set, take_all}
use Rattle.std.proofs.lemmas.List.Folds.{list_all_more}
use Rattle.std.proofs.lemmas.Option.{slice_get-get_or}
use Rattle.segment.specs.Places.{Place, away, unwritten, written, is_written}

module _ {X : Type 0} where
  -- of n places the first i are written, and the others are not
  abbrev pub IsFilled : ℕ → List (Place X) → ℕ → Type 0
  IsFilled n ps i = (length ps ≡ n) × IsTrue (list_all is_written (take i ps)) × ((j : ℕ) → i ≤ j → j < n → get_or ps j away ≡ unwritten)

  none_taken : (ps : List (Place X)) → IsTrue (list_all is_written (take 0 ps))
  none_taken [] = refl
  none_taken (p ∷ ps) = refl

  pub begins : (n : ℕ) (ps : List (Place X)) → ps ≡ replicate n unwritten → IsFilled n ps 0
  begins n ps are = (ap length are ∙ length-replicate n unwritten, none_taken ps, λ j _ lt. ap (λ qs. get_or qs j away) are ∙ get_or-replicate n j unwritten away lt)

  module _ (n : ℕ) (ps : List (Place X)) (i : ℕ) (filled : IsFilled n ps i) where
    pub is_unwritten : i < n → slice_get ps i ≡ Some unwritten
    is_unwritten within = let long = filled.0 in slice_get-get_or ps i away (omega arith) ∙ ap Some (filled.2 i (omega arith) within)

    module _ (within : i < n) (after : List (Place X)) (x : X) (is : after ≡ set ps i (written x)) where
      one_more : IsTrue (list_all is_written (take (i + 1) (set ps i (written x))))
      one_more =
          let qs = set ps i (written x) in
          let long = filled.0 in
          let same = length-set ps i (written x) in
          list_all_more is_written qs i away (omega arith) ∙ ap (λ b. b && is_written (get_or qs i away)) (ap (list_all is_written) (take-set ps i (written x)) ∙ filled.1)
          ∙ ap is_written (get_or-set_same ps i (written x) away (omega arith))

      pub goes_on : IsFilled n after (i + 1)
      goes_on = (
        ap length is ∙ length-set ps i (written x) ∙ filled.0,
        subst (λ qs. IsTrue (list_all is_written (take (i + 1) qs))) (sym is) one_more,
        λ j le lt. ap (λ qs. get_or qs j away) is ∙ get_or-set_other ps i j (written x) away (λ same. absurd (omega arith)) ∙ filled.2 j (omega arith) lt,
      )

    pub all_written : n ≤ i → IsTrue (list_all is_written ps)
    all_written end = let long = filled.0 in subst (λ qs. IsTrue (list_all is_written qs)) (take_all i ps (omega arith)) filled.1
