-- Links from some places to a taker that leads to none of them close no circle.
use Rattle.std.proofs.Common.{◌≡◌, ◌≢◌, ◌∙◌, ℕ, ◌<◌, zero, suc, List, [], ◌∷◌, ◌++◌, length, take, set, get_or, slice_index, slice_index_or, Contains, ◌⊎◌, inl, inr, arith, refl, sym, ap, subst}
use Rattle.std.proofs.lemmas.Bool.{cases_eq}
use Rattle.std.proofs.lemmas.List.{length-set, get_or-set_same, get_or-set_other, get_or_default, take_at}
use Rattle.std.proofs.lemmas.List.Elements.{Contains-get_or, Contains-append_left, Contains-append_right, Contains-append_cases}
use Rattle.if1_order.specs.Walks.{Lists, feeders_of, AreInside, Leads, step, onward}
use Rattle.if1_reach.specs.declared.ranks.Ranks.{Ranks}
use Rattle.if1_reach.specs.Ranks.{IsRanked}
use Rattle.take_marks.specs.Standing.{IsFree, AreRankedBefore}

set-twice : {A : Type 0} (xs : List A) (t : ℕ) (a b d : A) → t < length xs → b ≡ get_or xs t d → set (set xs t a) t b ≡ xs
set-twice [] t a b d h e = absurd (omega (arith, h))
set-twice (x ∷ xs) zero a b d h e = ap (λ y. y ∷ xs) e
set-twice (x ∷ xs) (suc t) a b d h e = ap (λ ys. x ∷ ys) (set-twice xs t a b d (omega (arith, h)) e)

module _ (lists : Lists) (t : ℕ) (ps : List ℕ) (h : t < length lists) where
  abbrev pub ext : Lists
  ext = set lists t (feeders_of lists t ++ ps)

  at-taker : feeders_of ext t ≡ feeders_of lists t ++ ps
  at-taker = get_or-set_same lists t (feeders_of lists t ++ ps) [] h

  cases : (s u : ℕ) → Contains (feeders_of ext u) s → Contains (feeders_of lists u) s ⊎ ((t ≡ u) × Contains ps s)
  cases s u c =
      elim (cases_eq u t) [
        | inl same ↦
            elim (Contains-append_cases (feeders_of lists t) ps s (subst (λ ks. Contains ks s) (ap (feeders_of ext) same ∙ at-taker) c)) [
              | inl i ↦ inl (subst (λ z. Contains (feeders_of lists z) s) (sym same) i)
              | inr i ↦ inr (sym same, i)
            ]
        | inr ne ↦ inl (subst (λ ks. Contains ks s) (get_or-set_other lists t u (feeders_of lists t ++ ps) [] ne) c)
      ]

  keeps : (s u : ℕ) → Contains (feeders_of lists u) s → Contains (feeders_of ext u) s
  keeps s u c =
      elim (cases_eq u t) [
        | inl same ↦ subst (λ ks. Contains ks s) (sym (ap (feeders_of ext) same ∙ at-taker)) (Contains-append_left (feeders_of lists t) ps s (subst (λ z. Contains (feeders_of lists z) s) same c))
        | inr ne ↦ subst (λ ks. Contains ks s) (sym (get_or-set_other lists t u (feeders_of lists t ++ ps) [] ne)) c
      ]

  news : (s : ℕ) → Contains ps s → Contains (feeders_of ext t) s
  news s c = subst (λ ks. Contains ks s) (sym at-taker) (Contains-append_right (feeders_of lists t) ps s c)

  pub ext-inside : AreInside lists → ((s : ℕ) → Contains ps s → s < length lists) → AreInside ext
  ext-inside inside there s u c =
      let n = length-set lists t (feeders_of lists t ++ ps) in
      elim (cases s u c) [
        | inl i ↦ let r = inside s u i in omega (arith, r, n)
        | inr i ↦ let r = there s i.1 in omega (arith, r, n)
      ]

  -- the last new link on the way, and the first
  last-new : {s u : ℕ} → Leads ext s u → Leads lists s u ⊎ ((t ≡ u) ⊎ Leads lists t u)
  last-new (step {s = s} {t = u} c) =
      elim (cases s u c) [
        | inl i ↦ inl (step i)
        | inr i ↦ inr (inl i.0)
      ]
  last-new (onward {s = s} {t = u} {u = v} c w) =
      elim (last-new w) [
        | inl x ↦ elim (cases s u c) [
          | inl i ↦ inl (onward i x)
          | inr i ↦ inr (inr (subst (λ z. Leads lists z v) (sym i.0) x))
        ]
        | inr x ↦ inr x
      ]

  first-new : {s u : ℕ} → Leads ext s u → Leads lists s u ⊎ ((p : ℕ) × Contains ps p × ((s ≡ p) ⊎ Leads ext s p))
  first-new (step {s = s} {t = u} c) =
      elim (cases s u c) [
        | inl i ↦ inl (step i)
        | inr i ↦ inr (s, i.1, inl refl)
      ]
  first-new (onward {s = s} {t = u} {u = v} c w) =
      elim (cases s u c) [
        | inr i ↦ inr (s, i.1, inl refl)
        | inl i ↦ elim (first-new w) [
          | inl x ↦ inl (onward i x)
          | inr x ↦ inr (x.0, x.1, inr (through x.0 x.2 c))
        ]
      ]
    where
      through : (p : ℕ) → (u ≡ p) ⊎ Leads ext u p → Contains (feeders_of ext u) s → Leads ext s p
      through p (inl e) c = subst (Leads ext s) e (step c)
      through p (inr w) c = onward c w

  module _ (free : (p : ℕ) → Contains ps p → ¬ Leads lists t p) (other : (p : ℕ) → Contains ps p → p ≢ t) (acyclic : (s : ℕ) → ¬ Leads lists s s) where
    not-to : (p : ℕ) → Contains ps p → ¬ Leads ext t p
    not-to p c w =
        elim (last-new w) [
          | inl x ↦ free p c x
          | inr x ↦ never x
        ]
      where
        never : (t ≡ p) ⊎ Leads lists t p → ⊥
        never (inl e) = other p c (sym e)
        never (inr x) = free p c x

    join : {s u v : ℕ} → Leads ext s u → Leads ext u v → Leads ext s v
    join (step c) w = onward c w
    join (onward c x) w = onward c (join x w)

    longer : {s u : ℕ} → Leads lists s u → Leads ext s u
    longer (step {s = s} {t = u} c) = step (keeps s u c)
    longer (onward {s = s} {t = u} c w) = onward (keeps s u c) (longer w)

    pub no-circle : (s : ℕ) → ¬ Leads ext s s
    no-circle s w =
        elim (last-new w) [
          | inl x ↦ acyclic s x
          | inr x ↦ elim (first-new w) [
            | inl y ↦ acyclic s y
            | inr y ↦ not-to y.0 y.1 (from x y.0 y.1 y.2)
          ]
        ]
      where
        from : (t ≡ s) ⊎ Leads lists t s → (p : ℕ) → Contains ps p → (s ≡ p) ⊎ Leads ext s p → Leads ext t p
        from (inl e) p c (inl f) = absurd (other p c (sym (e ∙ f)))
        from (inl e) p c (inr v) = subst (λ z. Leads ext z p) (sym e) v
        from (inr x) p c (inl f) = subst (Leads ext t) f (longer x)
        from (inr x) p c (inr v) = join (longer x) v

  pub ranked-before : (r : Ranks) → IsRanked ext r → IsRanked lists r × ((p : ℕ) → Contains ps p → slice_index r.ranks p < slice_index r.ranks t)
  ranked-before r w =
      let n = length-set lists t (feeders_of lists t ++ ps) in (
        record {
          fit = w.fit ∙ n;
          placed = λ u i. w.placed u (omega (arith, i, n));
          stands = λ u i. w.stands u (omega (arith, i, n));
          inside = λ k i. let a = w.inside k i in omega (arith, a, n);
          ranked = w.ranked;
          along = λ s u c. w.along s u (keeps s u c);
        },
        λ p c. w.along p t (news p c),
      )

-- ---- as the code has it

module _ (lists : Lists) (t : ℕ) (ps : List ℕ) (h : t < length lists) (list more : List ℕ) (is-list : list ≡ slice_index_or lists t list) (is-more : more ≡ list ++ ps) where
  pub is-fed : list ≡ feeders_of lists t
  is-fed = is-list ∙ get_or_default lists t list [] h

  pub extended : (new : Lists) → new ≡ set lists t more → new ≡ ext lists t ps h
  extended new e = e ∙ ap (set lists t) (is-more ∙ ap (λ ks. ks ++ ps) is-fed)

  pub shortened : (n : ℕ) → n ≡ length list → (less : List ℕ) → less ≡ take n more → (new : Lists) → new ≡ set (set lists t more) t less → new ≡ lists
  shortened n e less f new g =
      g ∙ set-twice lists t more less [] h (f ∙ (ap (take n) is-more ∙ (take_at list ps n (sym e) ∙ is-fed)))

pub free-all : (lists : Lists) (t : ℕ) (ps : List ℕ) → IsFree lists t ps → (p : ℕ) → Contains ps p → ¬ Leads lists t p
free-all lists t ps free p (k, lt, e) w = free k lt (subst (Leads lists t) (sym (get_or_default ps k 0 p lt ∙ e)) w)

pub before-all : (ranks ps : List ℕ) (t : ℕ) → ((p : ℕ) → Contains ps p → slice_index ranks p < slice_index ranks t) → AreRankedBefore ranks t ps
before-all ranks ps t all k d lt = all (slice_index_or ps k d) (Contains-get_or ps k d lt)
