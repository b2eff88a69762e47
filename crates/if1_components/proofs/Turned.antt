-- Links turned round, one list after another.
use Rattle.std.proofs.Common.{◌≡◌, ◌∙◌, ℕ, zero, suc, ◌+◌, ◌<◌, ◌≤◌, List, [], ◌∷◌, ◌++◌, length, take, set, replicate, slice_index, slice_index_or, All, Contains, inl, inr, arith, refl, sym, ap, subst}
use Rattle.std.proofs.lemmas.Bool.{cases_lt, cases_eq}
use Rattle.std.proofs.lemmas.List.{length-set, length-replicate, take_more, take_all, get_or-set_same, get_or-set_other, get_or_default}
use Rattle.std.proofs.lemmas.List.Elements.{Contains-get_or, Contains-push, Contains-push_cases, Contains-append_left}
use Rattle.if1_order.specs.Walks.{Lists, feeders_of, AreInside}
use Rattle.if1_components.specs.Backward.{AreTurned, HasBack}

pub items-of : (lists : Lists) (at : ℕ) (got items : List ℕ) → at < length lists → got ≡ slice_index_or lists at got → items ≡ got → items ≡ feeders_of lists at
items-of lists at got items h e f = f ∙ (e ∙ get_or_default lists at got [] h)

pub fed-inside : (lists : Lists) (place n : ℕ) (items : List ℕ) → AreInside lists → items ≡ feeders_of lists place → length lists ≡ n → All (λ x. x < n) items
fed-inside lists place n items inside e fit k d h =
    subst (λ m. slice_index_or items k d < m) fit (inside (slice_index_or items k d) place (subst (λ xs. Contains xs (slice_index_or items k d)) e (Contains-get_or items k d h)))

fed : (lists : Lists) (t s : ℕ) → Contains (feeders_of lists t) s → t < length lists
fed [] t s c = absurd (omega (arith, c.1))
fed (fs ∷ lists) zero s c = omega arith
fed (fs ∷ lists) (suc t) s c = let r = fed lists t s c in omega (arith, r)

pub back-inside : (lists back : Lists) → AreTurned lists back → AreInside back
back-inside lists back b s t c = subst (λ n. s < n) (sym b.fit) (fed lists s t (b.here t s c))

-- ---- one place in one more list

module _ (from : List ℕ) (n place other : ℕ) (old now : Lists) (lt : n < length from) (at : slice_index from n ≡ other) (inside : other < length now) (w : HasBack (take n from) place old now) where
  abbrev new : Lists
  new = set now other (feeders_of now other ++ place ∷ [])

  more : take (n + 1) from ≡ take n from ++ other ∷ []
  more = take_more from n 0 lt ∙ ap (λ z. take n from ++ z ∷ []) at

  here : (s : ℕ) → s ≡ other → feeders_of new s ≡ feeders_of now other ++ place ∷ []
  here s e = ap (feeders_of new) e ∙ get_or-set_same now other (feeders_of now other ++ place ∷ []) [] inside

  there : (s : ℕ) → ¬ (s ≡ other) → feeders_of new s ≡ feeders_of now s
  there s ne = get_or-set_other now other s (feeders_of now other ++ place ∷ []) [] ne

  still : (s t : ℕ) → Contains (feeders_of now s) t → Contains (feeders_of new s) t
  still s t c = elim (cases_eq s other) [
    | inl e ↦ subst (λ xs. Contains xs t) (sym (here s e)) (Contains-append_left (feeders_of now other) (place ∷ []) t (subst (λ z. Contains (feeders_of now z) t) e c))
    | inr ne ↦ subst (λ xs. Contains xs t) (sym (there s ne)) c
  ]

  grown : (s : ℕ) → Contains (take n from) s → Contains (take (n + 1) from) s
  grown s c = subst (λ xs. Contains xs s) (sym more) (Contains-append_left (take n from) (other ∷ []) s c)

  pub back-one : HasBack (take (n + 1) from) place old new
  back-one =
      record {
        fit = length-set now other (feeders_of now other ++ place ∷ []) ∙ w.fit;
        kept = λ s t c. still s t (w.kept s t c);
        added = λ s c. elim (Contains-push_cases (take n from) other s (subst (λ xs. Contains xs s) more c)) [
          | inl before ↦ still s place (w.added s before)
          | inr e ↦ subst (λ xs. Contains xs place) (sym (here s (sym e))) (Contains-push (feeders_of now other) place)
        ];
        only = λ s t c. elim (cases_eq s other) [
          | inl e ↦ elim (Contains-push_cases (feeders_of now other) place t (subst (λ xs. Contains xs t) (here s e) c)) [
            | inl before ↦ elim (w.only s t (subst (λ z. Contains (feeders_of now z) t) (sym e) before)) [ inl o ↦ inl o | inr p ↦ inr (grown s p.0, p.1) ]
            | inr is ↦ inr (subst (λ xs. Contains xs s) (sym more) (subst (Contains (take n from ++ other ∷ [])) (sym e) (Contains-push (take n from) other)), sym is)
          ]
          | inr ne ↦ elim (w.only s t (subst (λ xs. Contains xs t) (there s ne) c)) [ inl o ↦ inl o | inr p ↦ inr (grown s p.0, p.1) ]
        ];
      }

pub back-none : (from : List ℕ) (place : ℕ) (lists : Lists) → HasBack (take 0 from) place lists lists
back-none from place lists = record { fit = refl; kept = λ s t c. c; added = λ s c. absurd (empty from s c); only = λ s t c. inl c }
  where
    empty : (from : List ℕ) (s : ℕ) → ¬ Contains (take 0 from) s
    empty [] s c = omega (arith, c.1)
    empty (x ∷ xs) s c = omega (arith, c.1)

pub back-all : (from : List ℕ) (n place : ℕ) (old new : Lists) → length from ≤ n → HasBack (take n from) place old new → HasBack from place old new
back-all from n place old new h w = subst (λ xs. HasBack xs place old new) (take_all n from h) w

-- ---- all lists

-- the first lists are turned round
pub record AreTurnedTo (lists : Lists) (n : ℕ) (back : Lists) : Type 0 where
  pub fit : length back ≡ length lists
  pub there : (s t : ℕ) → t < n → Contains (feeders_of lists t) s → Contains (feeders_of back s) t
  pub here : (s t : ℕ) → Contains (feeders_of back s) t → Contains (feeders_of lists t) s

pub turned-none : (lists back : Lists) → back ≡ replicate (length lists) [] → AreTurnedTo lists 0 back
turned-none lists back e = subst (AreTurnedTo lists 0) (sym e) start
  where
    empty : (n s t : ℕ) → ¬ Contains (feeders_of (replicate n []) s) t
    empty zero s t c = omega (arith, c.1)
    empty (suc n) zero t c = omega (arith, c.1)
    empty (suc n) (suc s) t c = empty n s t c

    start : AreTurnedTo lists 0 (replicate (length lists) [])
    start =
        record {
          fit = length-replicate (length lists) [];
          there = λ s t h c. absurd (omega (arith, h));
          here = λ s t c. absurd (empty (length lists) s t c);
        }

pub turned-one : (lists : Lists) (n : ℕ) (old new : Lists) → AreTurnedTo lists n old → HasBack (feeders_of lists n) n old new → AreTurnedTo lists (n + 1) new
turned-one lists n old new w b =
    record {
      fit = b.fit ∙ w.fit;
      there = λ s t h c. elim (cases_lt t n) [
        | inl lt ↦ b.kept s t (w.there s t lt c)
        | inr ge ↦
            let e : t ≡ n = omega (arith, h, ge) in
            subst (Contains (feeders_of new s)) (sym e) (b.added s (subst (λ z. Contains (feeders_of lists z) s) e c))
      ];
      here = λ s t c. elim (b.only s t c) [ inl o ↦ w.here s t o | inr p ↦ subst (λ z. Contains (feeders_of lists z) s) (sym p.1) p.0 ];
    }

pub turned-all : (lists : Lists) (n : ℕ) (back : Lists) → length lists ≤ n → AreTurnedTo lists n back → AreTurned lists back
turned-all lists n back h w = record { fit = w.fit; there = λ s t c. w.there s t (let lt = fed lists t s c in omega (arith, lt, h)) c; here = w.here }
