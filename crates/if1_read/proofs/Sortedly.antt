-- Labels that stand a second time, in the order of the lines and in a list that is sorted by labels.
use Rattle.std.proofs.Common.{◌≡◌, ℕ, zero, suc, ◌<◌, ◌≤◌, Bool, true, false, cond, List, [], ◌∷◌, ◌++◌, map, length, get_or, Option, Some, None, ◌⊎◌, inl, inr, if◌then◌else◌, refl, sym, ap, subst, ◌∙◌, arith, true≢false}
use Rattle.std.specs.Prelude.{◌==◌, nat_le, All, Contains, filter, find}
use Rattle.std.specs.List.Sorted.{IsNonDecreasingBy}
use Rattle.std.proofs.lemmas.Bool.{leb-true, leb-false, eq-eqb, eqb-true}
use Rattle.std.proofs.lemmas.Bool.Decides.{eqb_tells}
use Rattle.std.proofs.lemmas.List.Elements.{filter-append, All-head, All-tail}
use Rattle.if1_read.specs.declared.fault.Kind.TheVariants.{Bad}
use Rattle.if1_read.specs.declared.fault.Fault.{Fault}
use Rattle.if1_read.specs.Least.{least}
use Rattle.if1_read.specs.Pages.{is_among, again}
use Rattle.if1_read.specs.Rows.{is_past, once, over, kept}
use Rattle.if1_read.proofs.Same.{contains_here, contains_later, contains_cases, contains_none, same_find}
use Rattle.if1_read.proofs.Splits.{contains_middle}
use Rattle.if1_read.proofs.Lining.{contains_parts}
use Rattle.if1_read.proofs.Repeats.{bad_at, labels, among_has, among_contains, repeats, repeated}
use Rattle.if1_read.proofs.Firsts.{AreIn, same_least}

module _ {A : Type 0} (f : A → ℕ) where
  abbrev pub key : ℕ × A → ℕ
  key x = f x.1

  -- ---- sorted

  abbrev NotBelow : Option ℕ → ℕ → Type 0
  NotBelow None l = Unit {0}
  NotBelow (Some last) l = last ≤ l

  abbrev pub Rises : Option ℕ → List (ℕ × A) → Type 0
  Rises last [] = Unit {0}
  Rises last (x ∷ xs) = NotBelow last (key x) × Rises (Some (key x)) xs

  -- the labels so far, of which the last one is the greatest
  abbrev pub Seen : Option ℕ → List ℕ → Type 0
  Seen None seen = seen ≡ []
  Seen (Some last) seen = ((l : ℕ) → Contains seen l → l ≤ last) × Contains seen last

  seen_more : (last : Option ℕ) (l : ℕ) (seen : List ℕ) → NotBelow last l → Seen last seen → Seen (Some l) (l ∷ seen)
  seen_more None l seen le s = (
    λ m c. elim (contains_cases l seen m c) [ inl e ↦ omega (arith, e) | inr d ↦ absurd (contains_none m (subst (λ (ls : List ℕ). Contains ls m) s d)) ],
    contains_here l seen,
  )
  seen_more (Some last) l seen le s = (
    λ m c. elim (contains_cases l seen m c) [ inl e ↦ omega (arith, e) | inr d ↦ omega (arith, le, s.0 m d) ],
    contains_here l seen,
  )

  among_if : (b : Bool) (last l : ℕ) (seen : List ℕ) → nat_le l last ≡ b → last ≤ l → Seen (Some last) seen → is_among l seen ≡ b
  among_if true last l seen e le s =
      let same : last ≡ l = omega (arith, le, leb-true l last e) in
      among_has l seen (subst (λ (m : ℕ). Contains seen m) same s.1)
  among_if false last l seen e le s = not_if (is_among l seen) refl
    where
      not_if : (b : Bool) → is_among l seen ≡ b → b ≡ false
      not_if true h = absurd (omega (arith, leb-false l last e, s.0 l (among_contains l seen h)))
      not_if false h = refl

  past_among : (last : Option ℕ) (l : ℕ) (seen : List ℕ) → NotBelow last l → Seen last seen → is_among l seen ≡ is_past last l
  past_among None l seen le s = ap (is_among l) s
  past_among (Some last) l seen le s = among_if (nat_le l last) last l seen refl le s

  lower : (last : Option ℕ) (n : ℕ) (xs : List (ℕ × A)) → NotBelow last n → Rises (Some n) xs → Rises last xs
  lower last n [] le r = tt
  lower None n (x ∷ xs) le r = (tt, r.1)
  lower (Some m) n (x ∷ xs) le r = (omega (arith, le, r.0), r.1)

  over_if : (b : Bool) (last : Option ℕ) (seen : List ℕ) (x : ℕ × A) (xs : List (ℕ × A)) → is_past last (key x) ≡ b → is_among (key x) seen ≡ b →
      over f last xs ≡ again f seen xs → over f (Some (key x)) xs ≡ again f (key x ∷ seen) xs → over f last (x ∷ xs) ≡ again f seen (x ∷ xs)
  over_if true last seen x xs e h a b =
      ap (λ (c : Bool). if c then bad_at x.0 ∷ over f last xs else over f (Some (key x)) xs) e
      ∙ (ap (λ fs. bad_at x.0 ∷ fs) a ∙ sym (ap (λ (c : Bool). if c then bad_at x.0 ∷ again f seen xs else again f (key x ∷ seen) xs) h))
  over_if false last seen x xs e h a b =
      ap (λ (c : Bool). if c then bad_at x.0 ∷ over f last xs else over f (Some (key x)) xs) e
      ∙ (b ∙ sym (ap (λ (c : Bool). if c then bad_at x.0 ∷ again f seen xs else again f (key x ∷ seen) xs) h))

  pub sorted_over : (xs : List (ℕ × A)) (last : Option ℕ) (seen : List ℕ) → Rises last xs → Seen last seen → over f last xs ≡ again f seen xs
  sorted_over [] last seen r s = refl
  sorted_over (x ∷ xs) last seen r s =
      over_if (is_past last (key x)) last seen x xs refl (past_among last (key x) seen r.0 s)
      (sorted_over xs last seen (lower last (key x) xs r.0 r.1) s) (sorted_over xs (Some (key x)) (key x ∷ seen) r.1 (seen_more last (key x) seen r.0 s))

  kept_if : (b : Bool) (last : Option ℕ) (seen : List ℕ) (x : ℕ × A) (xs : List (ℕ × A)) → is_past last (key x) ≡ b → is_among (key x) seen ≡ b →
      kept f last xs ≡ once f seen xs → kept f (Some (key x)) xs ≡ once f (key x ∷ seen) xs → kept f last (x ∷ xs) ≡ once f seen (x ∷ xs)
  kept_if true last seen x xs e h a b =
      ap (λ (c : Bool). if c then kept f last xs else x ∷ kept f (Some (key x)) xs) e
      ∙ (a ∙ sym (ap (λ (c : Bool). if c then once f seen xs else x ∷ once f (key x ∷ seen) xs) h))
  kept_if false last seen x xs e h a b =
      ap (λ (c : Bool). if c then kept f last xs else x ∷ kept f (Some (key x)) xs) e
      ∙ (ap (λ ys. x ∷ ys) b ∙ sym (ap (λ (c : Bool). if c then once f seen xs else x ∷ once f (key x ∷ seen) xs) h))

  pub sorted_kept : (xs : List (ℕ × A)) (last : Option ℕ) (seen : List ℕ) → Rises last xs → Seen last seen → kept f last xs ≡ once f seen xs
  sorted_kept [] last seen r s = refl
  sorted_kept (x ∷ xs) last seen r s =
      kept_if (is_past last (key x)) last seen x xs refl (past_among last (key x) seen r.0 s)
      (sorted_kept xs last seen (lower last (key x) xs r.0 r.1) s) (sorted_kept xs (Some (key x)) (key x ∷ seen) r.1 (seen_more last (key x) seen r.0 s))

  -- ---- the same of each label

  abbrev pub OfLabel : ℕ → List (ℕ × A) → List (ℕ × A)
  OfLabel l xs = filter (λ x. key x == l) xs

  pub record Cut (p : ℕ × A → Bool) (ys : List (ℕ × A)) (us : List (ℕ × A)) (z : ℕ × A) : Type 0 where
    pub front : List (ℕ × A)
    pub back : List (ℕ × A)
    pub is : ys ≡ front ++ z ∷ back
    pub kept_front : filter p front ≡ us

  more_cut : (p : ℕ × A → Bool) (y : ℕ × A) (ys us : List (ℕ × A)) (z : ℕ × A) (b : Bool) → p y ≡ b → Cut p ys us z → Cut p (y ∷ ys) (if b then y ∷ us else us) z
  more_cut p y ys us z true e c = record {
    front = y ∷ c.front;
    back = c.back;
    is = ap (λ xs. y ∷ xs) c.is;
    kept_front = ap (λ (b : Bool). cond b (y ∷ filter p c.front) (filter p c.front)) e ∙ ap (λ xs. y ∷ xs) c.kept_front;
  }
  more_cut p y ys us z false e c = record {
    front = y ∷ c.front;
    back = c.back;
    is = ap (λ xs. y ∷ xs) c.is;
    kept_front = ap (λ (b : Bool). cond b (y ∷ filter p c.front) (filter p c.front)) e ∙ c.kept_front;
  }

  cut_if : (b : Bool) (p : ℕ × A → Bool) (y : ℕ × A) (ys us : List (ℕ × A)) (z : ℕ × A) (vs : List (ℕ × A)) → p y ≡ b →
      ((us : List (ℕ × A)) → filter p ys ≡ us ++ z ∷ vs → Cut p ys us z) → cond b (y ∷ filter p ys) (filter p ys) ≡ us ++ z ∷ vs → Cut p (y ∷ ys) us z
  cut_if false p y ys us z vs e ih h = more_cut p y ys us z false e (ih us h)
  cut_if true p y ys [] z vs e ih h = let same : y ≡ z = cc in record { front = []; back = ys; is = ap (λ x. x ∷ ys) same; kept_front = refl }
  cut_if true p y ys (u ∷ us) z vs e ih h =
      let same : y ≡ u = cc in
      let rest : filter p ys ≡ us ++ z ∷ vs = cc in
      subst (λ x. Cut p (y ∷ ys) (x ∷ us) z) same (more_cut p y ys us z true e (ih us rest))

  pub cut : (p : ℕ × A → Bool) (ys us : List (ℕ × A)) (z : ℕ × A) (vs : List (ℕ × A)) → filter p ys ≡ us ++ z ∷ vs → Cut p ys us z
  cut p [] [] z vs h = absurd cc
  cut p [] (u ∷ us) z vs h = absurd cc
  cut p (y ∷ ys) us z vs h = cut_if (p y) p y ys us z vs refl (λ us e. cut p ys us z vs e) h

  -- a label is among these where some stand of it
  pub some_of : (l : ℕ) (xs : List (ℕ × A)) → Contains (labels f xs) l → OfLabel l xs ≡ [] → ⊥
  some_of l [] c e = contains_none l c
  some_of l (x ∷ xs) c e = elim (contains_cases (key x) (labels f xs) l c) [
    | inl s ↦ let here : x ∷ OfLabel l xs ≡ [] = sym (ap (λ (b : Bool). cond b (x ∷ OfLabel l xs) (OfLabel l xs)) (eq-eqb (key x) l s)) ∙ e in absurd cc
    | inr d ↦ elim (eqb_tells (key x) l) [
      | inl t ↦ let here : x ∷ OfLabel l xs ≡ [] = sym (ap (λ (b : Bool). cond b (x ∷ OfLabel l xs) (OfLabel l xs)) t.0) ∙ e in absurd cc
      | inr t ↦ some_of l xs d (sym (ap (λ (b : Bool). cond b (x ∷ OfLabel l xs) (OfLabel l xs)) t.0) ∙ e)
    ]
  ]

  pub none_of : (l : ℕ) (xs : List (ℕ × A)) → (Contains (labels f xs) l → ⊥) → OfLabel l xs ≡ []
  none_of l [] h = refl
  none_of l (x ∷ xs) h = elim (eqb_tells (key x) l) [
    | inl t ↦ absurd (h (subst (λ (m : ℕ). Contains (labels f (x ∷ xs)) m) t.1 (contains_here (key x) (labels f xs))))
    | inr t ↦ ap (λ (b : Bool). cond b (x ∷ OfLabel l xs) (OfLabel l xs)) t.0 ∙ none_of l xs (λ c. h (contains_later (key x) (labels f xs) l c))
  ]

  pub among_or_not : (l : ℕ) (ls : List ℕ) → Contains ls l ⊎ (Contains ls l → ⊥)
  among_or_not l ls = by (is_among l ls) refl
    where
      by : (b : Bool) → is_among l ls ≡ b → Contains ls l ⊎ (Contains ls l → ⊥)
      by true e = inl (among_contains l ls e)
      by false e = inr (λ c. true≢false (sym (among_has l ls c) ∙ e))

  pub of_middle : (front : List (ℕ × A)) (z : ℕ × A) (back : List (ℕ × A)) → OfLabel (key z) (front ++ z ∷ back) ≡ OfLabel (key z) front ++ z ∷ OfLabel (key z) back
  of_middle front z back =
      filter-append (λ x. key x == key z) front (z ∷ back)
      ∙ ap (λ (b : Bool). OfLabel (key z) front ++ cond b (z ∷ OfLabel (key z) back) (OfLabel (key z) back)) (eq-eqb (key z) (key z) refl)
