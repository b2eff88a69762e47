-- Who gets an ordering edge is told by what each user leads to.
use Rattle.std.proofs.Common.{◌≡◌, ◌≢◌, ℕ, ◌<◌, ◌≤◌, Bool, true, ◌||◌, List, [], ◌∷◌, Contains, ◌⊎◌, inl, inr, refl, ap, subst, ◌∙◌, arith, ◌==◌, if◌then◌else◌}
use Rattle.std.specs.List.{list_any}
use Rattle.std.proofs.lemmas.Bool.{or_cases, or_left, or_right, eq-eqb, ne_eqb}
use Rattle.if1_graph.specs.declared.graph.Edge.{Edge}
use Rattle.if1_graph.specs.declared.graph.Graph.{Graph}
use Rattle.if1_graph.specs.Units.{ends as all_ends}
use Rattle.if1_marks.proofs.Lists.{here, there, here-or-there, in-none}
use Rattle.if1_marks.proofs.Tests.{same-number, any-found, any-there}
use Rattle.marks_made.specs.Ways.{Leads}
use Rattle.marks_made.specs.Made.{Orders, links, precedes, ordered, wanted}
use Rattle.marks_made.specs.Laws.{IsMarkable, IsReadyToOrder}
use Rattle.marks_made.proofs.Ways.{by-complete}
use Rattle.marks_made.proofs.Steps.{Inv, ends-there, way}
use Rattle.marks_made.proofs.Direct.{same-answer, orders-direct}
use Rattle.take_marks.specs.Told.{is_in, told}

-- none that stands later is lower
abbrev pub IsSorted : List ℕ → Type 0
IsSorted [] = Unit {0}
IsSorted (x ∷ xs) = ((y : ℕ) → Contains xs y → x ≤ y) × IsSorted xs

abbrev pub IsBelow : ℕ → List ℕ → ℕ → ℕ → Type 0
IsBelow t ls l y = (y ≡ t) ⊎ (Contains ls y × (y < l))

-- a user is passed over exactly where it leads to the taker or to a lower user
pub record IsTold (g : Graph) (os : Orders) (t : ℕ) (ls : List ℕ) (skips : ℕ → Bool) (l : ℕ) : Type 0 where
  pub found : skips l ≡ true → (y : ℕ) × Leads (links g os) l y × IsBelow t ls l y
  pub holds : (y : ℕ) → Leads (links g os) l y → IsBelow t ls l y → skips l ≡ true

in-there : (ls : List ℕ) (l : ℕ) → Contains ls l → is_in ls l ≡ true
in-there ls l h = any-there (λ m. m == l) ls l h (eq-eqb l l refl)

there-in : (ls : List ℕ) (l : ℕ) → is_in ls l ≡ true → Contains ls l
there-in ls l h = let r = any-found (λ m. m == l) ls h in subst (Contains ls) (same-number r.0 l r.2) r.1

module _ (g : Graph) (may : Edge → Bool) (ok : IsMarkable g may) (os : Orders) (t : ℕ) (ls : List ℕ) (r : IsReadyToOrder g os t ls) (skips : ℕ → Bool) (exact : (l : ℕ) → Contains ls l → IsTold g os t ls skips l) where
  inv : Inv g may ok os
  inv = record { named = r.named; acyclic = r.acyclic }

  tell : (l m : ℕ) → Leads (links g os) l m → precedes g os l m ≡ true
  tell l m w = by-complete (links g os) (all_ends g) (ends-there g may ok os inv) w

  module _ (earlier : List ℕ) (l : ℕ) (rest : List ℕ) (there-l : Contains ls l) (sub : (m : ℕ) → Contains earlier m → Contains ls m) (less : (m : ℕ) → Contains earlier m → m ≤ l)
      (cover : (y : ℕ) → Contains ls y → Contains earlier y ⊎ Contains (l ∷ rest) y) (up : (y : ℕ) → Contains rest y → l ≤ y) where
    to-told : (precedes g os l t || list_any (λ m. (m == l) || precedes g os l m) earlier) ≡ true → (is_in earlier l || skips l) ≡ true
    to-told h =
        elim (or_cases (precedes g os l t) (list_any (λ m. (m == l) || precedes g os l m) earlier) h) [
          | inl e ↦ or_right (is_in earlier l) (skips l) ((exact l there-l).holds t (way g may ok os l t e) (inl refl))
          | inr a ↦ let q = any-found (λ m. (m == l) || precedes g os l m) earlier a in one q.0 q.1 (or_cases (q.0 == l) (precedes g os l q.0) q.2)
        ]
      where
        one : (m : ℕ) → Contains earlier m → ((m == l) ≡ true) ⊎ (precedes g os l m ≡ true) → (is_in earlier l || skips l) ≡ true
        one m c (inl s) = or_left (is_in earlier l) (skips l) (in-there earlier l (subst (Contains earlier) (same-number m l s) c))
        one m c (inr p) =
            let w = way g may ok os l m p in
            let ne : m ≢ l = λ s. r.acyclic l (subst (Leads (links g os) l) s w) in
            or_right (is_in earlier l) (skips l) ((exact l there-l).holds m w (inr (sub m c, omega (arith, less m c, ne))))

    from-told : (is_in earlier l || skips l) ≡ true → (precedes g os l t || list_any (λ m. (m == l) || precedes g os l m) earlier) ≡ true
    from-told h =
        elim (or_cases (is_in earlier l) (skips l) h) [
          | inl e ↦ or-some l (there-in earlier l e) (or_left (l == l) (precedes g os l l) (eq-eqb l l refl))
          | inr s ↦ let q = (exact l there-l).found s in by-below q.0 q.1 q.2
        ]
      where
        or-some : (m : ℕ) → Contains earlier m → ((m == l) || precedes g os l m) ≡ true → (precedes g os l t || list_any (λ m. (m == l) || precedes g os l m) earlier) ≡ true
        or-some m c e = or_right (precedes g os l t) (list_any (λ m. (m == l) || precedes g os l m) earlier) (any-there (λ m. (m == l) || precedes g os l m) earlier m c e)

        late-one : (y : ℕ) → y < l → (l ≡ y) ⊎ Contains rest y → ⊥
        late-one y lt (inl s) = omega (arith, lt, s)
        late-one y lt (inr c) = omega (arith, lt, up y c)

        before-it : (y : ℕ) → y < l → Contains earlier y ⊎ Contains (l ∷ rest) y → Contains earlier y
        before-it y lt (inl c) = c
        before-it y lt (inr c) = absurd (late-one y lt (here-or-there l rest y c))

        by-below : (y : ℕ) → Leads (links g os) l y → IsBelow t ls l y → (precedes g os l t || list_any (λ m. (m == l) || precedes g os l m) earlier) ≡ true
        by-below y w (inl s) = or_left (precedes g os l t) (list_any (λ m. (m == l) || precedes g os l m) earlier) (tell l t (subst (Leads (links g os) l) s w))
        by-below y w (inr u) = or-some y (before-it y u.1 (cover y u.0)) (or_right (y == l) (precedes g os l y) (tell l y w))

    same-told : (precedes g os l t || list_any (λ m. (m == l) || precedes g os l m) earlier) ≡ (is_in earlier l || skips l)
    same-told = same-answer (precedes g os l t || list_any (λ m. (m == l) || precedes g os l m) earlier) (is_in earlier l || skips l) to-told from-told

  all-told : (earlier rest : List ℕ) → IsSorted rest → ((m : ℕ) → Contains rest m → Contains ls m) → ((m : ℕ) → Contains earlier m → Contains ls m) → ((m y : ℕ) → Contains earlier m → Contains rest y → m ≤ y) →
      ((y : ℕ) → Contains ls y → Contains earlier y ⊎ Contains rest y) → (new : Orders) → wanted g os t earlier rest new ≡ told skips t earlier rest new
  all-told earlier [] up sub had less cover new = refl
  all-told earlier (l ∷ rest) up sub had less cover new =
      ap (λ (now : Orders). wanted g os t (l ∷ earlier) rest now)
      (ap (λ b. if b || (precedes g os l t || list_any (λ m. (m == l) || precedes g os l m) earlier) then new else (l, t) ∷ new) (ne_eqb t 0 r.inner)
      ∙ ap (λ b. if b then new else (l, t) ∷ new) (same-told earlier l rest (sub l (here l rest)) had (λ m c. less m l c (here l rest)) cover up.0))
      ∙ all-told (l ∷ earlier) rest up.1 (λ m c. sub m (there l rest m c))
      (λ m c. elim (here-or-there l earlier m c) [
        | inl s ↦ sub m (subst (Contains (l ∷ rest)) s (here l rest))
        | inr i ↦ had m i
      ])
      (λ m y c d. elim (here-or-there l earlier m c) [
        | inl s ↦ subst (λ m. m ≤ y) s (up.0 y d)
        | inr i ↦ less m y i (there l rest y d)
      ])
      (λ y c. elim (cover y c) [
        | inl i ↦ inl (there l earlier y i)
        | inr d ↦ moved y (here-or-there l rest y d)
      ])
      (if is_in earlier l || skips l then new else (l, t) ∷ new)
    where
      moved : (y : ℕ) → (l ≡ y) ⊎ Contains rest y → Contains (l ∷ earlier) y ⊎ Contains rest y
      moved y (inl s) = inl (subst (Contains (l ∷ earlier)) s (here l earlier))
      moved y (inr c) = inr c

  pub ordered-told : IsSorted ls → ordered g t ls os ≡ told skips t [] ls os
  ordered-told sorted =
      orders-direct g may ok os t ls r
      ∙ all-told [] ls sorted (λ m c. c) (λ m c. in-none m c) (λ m y c d. in-none m c) (λ y c. inr c) os
