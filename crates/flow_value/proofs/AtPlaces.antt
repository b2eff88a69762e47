-- The places of a block as segments have them: one of them is found, and changed.
use Rattle.std.proofs.Common.{◌≡◌, ℕ, zero, suc, ◌+◌, ◌-◌, ◌≤◌, ◌<◌, List, [], ◌∷◌, ◌++◌, map, length, take, drop, set, get_or, replicate, Option, Some, None, refl, sym, ap, ◌∙◌, arith, true≢false, Bool, true, false}
use Rattle.std.proofs.lemmas.List.{length-map, length-append, length-replicate}
use Rattle.segment.specs.Places.{Place, unwritten, written}
use Rattle.segment.specs.Runs.{part}
use Rattle.flow_value.specs.Places.{packed}
use Rattle.flow_value.specs.Ownership.{here}

module _ {X : Type 0} where
  pub place_at : (cs : List (Option X)) (i : ℕ) (c : Option X) → i < length cs → get_or cs i None ≡ c → part (map here cs) i 1 ≡ here c ∷ []
  place_at [] i c lt is = absurd (omega arith)
  place_at (d ∷ cs) zero c lt is = ap (λ (e : Option X). here e ∷ []) is
  place_at (d ∷ cs) (suc i) c lt is = place_at cs i c (omega arith) is

  pub place_set : (cs : List (Option X)) (i : ℕ) (c : Option X) → i < length cs → take i (map here cs) ++ (here c ∷ drop (i + 1) (map here cs)) ≡ map here (set cs i c)
  place_set [] i c lt = absurd (omega arith)
  place_set (d ∷ cs) zero c lt = refl
  place_set (d ∷ cs) (suc i) c lt =
      let next : suc i + 1 ≡ suc (i + 1) = omega arith in
      ap (λ (n : ℕ). here d ∷ (take i (map here cs) ++ (here c ∷ drop n (map here (d ∷ cs))))) next ∙ ap (λ (l : List (Place X)). here d ∷ l) (place_set cs i c (omega arith))

  -- a place with a value is one of them
  pub is_within : (cs : List (Option X)) (i : ℕ) (x : X) → get_or cs i None ≡ Some x → i < length cs
  is_within [] i x is = absurd (no_value is)
    where
      has_none : Option X → Type 0
      has_none None = Unit {0}
      has_none (Some y) = ⊥

      no_value : None ≡ Some x → ⊥
      no_value e = Rattle.std.proofs.Common.subst has_none e tt
  is_within (d ∷ cs) zero x is = omega arith
  is_within (d ∷ cs) (suc i) x is = let rest = is_within cs i x is in omega arith

  -- the places of a `Vec`
  here_packed : (xs : List X) (b : ℕ) → let blank : List (Option X) = replicate b None in map here (map Some xs ++ blank) ≡ map written xs ++ replicate b unwritten
  here_packed [] zero = refl
  here_packed [] (suc b) = ap (λ (l : List (Place X)). unwritten ∷ l) (here_packed [] b)
  here_packed (x ∷ xs) b = ap (λ (l : List (Place X)). written x ∷ l) (here_packed xs b)

  pub vec_places : (xs : List X) (c : ℕ) → map here (packed xs c) ≡ map written xs ++ replicate (c - length xs) unwritten
  vec_places xs c = here_packed xs (c - length xs)

  pub packed_long : (xs : List X) (c : ℕ) → length xs ≤ c → length (packed xs c) ≡ c
  packed_long xs c fits =
      let blank : Option X = None in
      omega (arith, length-append (map Some xs) (replicate (c - length xs) blank), length-map xs Some, length-replicate (c - length xs) blank, fits)
