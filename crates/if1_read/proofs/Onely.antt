-- A loop over a list that is sorted by labels: what stands once, and the labels that stand a second time.
use Rattle.std.proofs.Common.{◌≡◌, ℕ, zero, suc, slice_index, ◌<◌, ◌≤◌, Bool, true, false, cond, List, [], ◌∷◌, ◌++◌, map, length, Option, Some, None, if◌then◌else◌, refl, sym, ap, subst, ◌∙◌, arith, append-nil}
use Rattle.std.specs.Prelude.{◌==◌, find, nat_le, option_map}
use Rattle.std.specs.List.Sorted.{IsStrictlyIncreasing}
use Rattle.std.proofs.lemmas.Bool.{leb-false}
use Rattle.std.proofs.lemmas.List.{map-append, append_assoc}
use Rattle.if1_read.specs.declared.fault.Fault.{Fault}
use Rattle.if1_read.specs.Least.{earlier, least}
use Rattle.if1_read.specs.Rows.{is_past, over, kept, last_of}
use Rattle.if1_read.proofs.Labels.{RiseTo, rise_none, rise_more}
use Rattle.if1_read.proofs.Repeats.{bad_at}
use Rattle.if1_read.proofs.Firsts.{first_then, earlier_none}

-- ---- labels so far

abbrev pub RisesTo : Option ℕ → List ℕ → Type 0
RisesTo None ns = ns ≡ []
RisesTo (Some last) ns = RiseTo last ns

pub rises_more : (last : Option ℕ) (n : ℕ) (ns : List ℕ) → RisesTo last ns → is_past last n ≡ false → RisesTo (Some n) (ns ++ n ∷ [])
rises_more None n ns r e = subst (λ (xs : List ℕ). RiseTo n (xs ++ n ∷ [])) (sym r) (record { up = λ k h. absurd (omega (arith, h)); top = λ k h. one k h })
  where
    one : (k : ℕ) → k < length (n ∷ []) → slice_index (n ∷ []) k ≤ n
    one zero h = omega arith
    one (suc k) h = absurd (omega (arith, h))
rises_more (Some last) n ns r e = rise_more last n ns r (leb-false n last e)

pub rises_increase : (last : Option ℕ) (ns : List ℕ) → RisesTo last ns → IsStrictlyIncreasing ns
rises_increase None ns r = subst (λ (xs : List ℕ). IsStrictlyIncreasing xs) (sym r) (λ k h. absurd (omega (arith, h)))
rises_increase (Some last) ns r = r.up

-- ---- one after another

module _ {A : Type 0} (f : A → ℕ) where
  last_if : (b : Bool) (last : Option ℕ) (x : ℕ × A) (xs ys : List (ℕ × A)) → is_past last (f x.1) ≡ b →
      ((last : Option ℕ) → last_of f last (xs ++ ys) ≡ last_of f (last_of f last xs) ys) →
      last_of f last (x ∷ (xs ++ ys)) ≡ last_of f (last_of f last (x ∷ xs)) ys
  last_if true last x xs ys e ih =
      ap (λ (c : Bool). if c then last_of f last (xs ++ ys) else last_of f (Some (f x.1)) (xs ++ ys)) e
      ∙ (ih last ∙ ap (λ o. last_of f o ys) (sym (ap (λ (c : Bool). if c then last_of f last xs else last_of f (Some (f x.1)) xs) e)))
  last_if false last x xs ys e ih =
      ap (λ (c : Bool). if c then last_of f last (xs ++ ys) else last_of f (Some (f x.1)) (xs ++ ys)) e
      ∙ (ih (Some (f x.1)) ∙ ap (λ o. last_of f o ys) (sym (ap (λ (c : Bool). if c then last_of f last xs else last_of f (Some (f x.1)) xs) e)))

  last_append : (xs ys : List (ℕ × A)) (last : Option ℕ) → last_of f last (xs ++ ys) ≡ last_of f (last_of f last xs) ys
  last_append [] ys last = refl
  last_append (x ∷ xs) ys last = last_if (is_past last (f x.1)) last x xs ys refl (last_append xs ys)

  over_if : (b : Bool) (last : Option ℕ) (x : ℕ × A) (xs ys : List (ℕ × A)) → is_past last (f x.1) ≡ b →
      ((last : Option ℕ) → over f last (xs ++ ys) ≡ over f last xs ++ over f (last_of f last xs) ys) →
      over f last (x ∷ (xs ++ ys)) ≡ over f last (x ∷ xs) ++ over f (last_of f last (x ∷ xs)) ys
  over_if true last x xs ys e ih =
      ap (λ (c : Bool). if c then bad_at x.0 ∷ over f last (xs ++ ys) else over f (Some (f x.1)) (xs ++ ys)) e
      ∙ (ap (λ fs. bad_at x.0 ∷ fs) (ih last)
      ∙ sym (ap (λ (c : Bool). (if c then bad_at x.0 ∷ over f last xs else over f (Some (f x.1)) xs) ++ over f (if c then last_of f last xs else last_of f (Some (f x.1)) xs) ys) e))
  over_if false last x xs ys e ih =
      ap (λ (c : Bool). if c then bad_at x.0 ∷ over f last (xs ++ ys) else over f (Some (f x.1)) (xs ++ ys)) e
      ∙ (ih (Some (f x.1))
      ∙ sym (ap (λ (c : Bool). (if c then bad_at x.0 ∷ over f last xs else over f (Some (f x.1)) xs) ++ over f (if c then last_of f last xs else last_of f (Some (f x.1)) xs) ys) e))

  over_append : (xs ys : List (ℕ × A)) (last : Option ℕ) → over f last (xs ++ ys) ≡ over f last xs ++ over f (last_of f last xs) ys
  over_append [] ys last = refl
  over_append (x ∷ xs) ys last = over_if (is_past last (f x.1)) last x xs ys refl (over_append xs ys)

  kept_if : (b : Bool) (last : Option ℕ) (x : ℕ × A) (xs ys : List (ℕ × A)) → is_past last (f x.1) ≡ b →
      ((last : Option ℕ) → kept f last (xs ++ ys) ≡ kept f last xs ++ kept f (last_of f last xs) ys) →
      kept f last (x ∷ (xs ++ ys)) ≡ kept f last (x ∷ xs) ++ kept f (last_of f last (x ∷ xs)) ys
  kept_if true last x xs ys e ih =
      ap (λ (c : Bool). if c then kept f last (xs ++ ys) else x ∷ kept f (Some (f x.1)) (xs ++ ys)) e
      ∙ (ih last
      ∙ sym (ap (λ (c : Bool). (if c then kept f last xs else x ∷ kept f (Some (f x.1)) xs) ++ kept f (if c then last_of f last xs else last_of f (Some (f x.1)) xs) ys) e))
  kept_if false last x xs ys e ih =
      ap (λ (c : Bool). if c then kept f last (xs ++ ys) else x ∷ kept f (Some (f x.1)) (xs ++ ys)) e
      ∙ (ap (λ zs. x ∷ zs) (ih (Some (f x.1)))
      ∙ sym (ap (λ (c : Bool). (if c then kept f last xs else x ∷ kept f (Some (f x.1)) xs) ++ kept f (if c then last_of f last xs else last_of f (Some (f x.1)) xs) ys) e))

  kept_append : (xs ys : List (ℕ × A)) (last : Option ℕ) → kept f last (xs ++ ys) ≡ kept f last xs ++ kept f (last_of f last xs) ys
  kept_append [] ys last = refl
  kept_append (x ∷ xs) ys last = kept_if (is_past last (f x.1)) last x xs ys refl (kept_append xs ys)

  -- ---- a loop

  -- behind these elements
  pub record Turn (start : Option Fault) (done : List (ℕ × A)) (last : Option ℕ) (first : Option Fault) (items : List A) : Type 0 where
    pub last_is : last ≡ last_of f None done
    pub found : first ≡ earlier start (least (over f None done))
    pub items_are : items ≡ map (λ x. x.1) (kept f None done)

  abbrev pub lines_of : List (ℕ × A) → List ℕ
  lines_of done = map (λ x. x.0) (kept f None done)

  pub turn_none : (start : Option Fault) → Turn start [] None start []
  turn_none start = record { last_is = refl; found = sym (earlier_none start); items_are = refl }

  module _ (start : Option Fault) (done : List (ℕ × A)) (last : Option ℕ) (first : Option Fault) (items : List A) (t : Turn start done last first items) (x : ℕ × A) where
    abbrev more : List (ℕ × A)
    more = done ++ x ∷ []

    test : (b : Bool) → is_past last (f x.1) ≡ b → is_past (last_of f None done) (f x.1) ≡ b
    test b e = ap (λ (o : Option ℕ). is_past o (f x.1)) (sym t.last_is) ∙ e

    kept_more : (b : Bool) → is_past last (f x.1) ≡ b → kept f None more ≡ kept f None done ++ (if b then [] else x ∷ [])
    kept_more b e =
        kept_append done (x ∷ []) None ∙ ap (λ (c : Bool). kept f None done ++ (if c then [] else x ∷ [])) (test b e)

    pub turn_past : is_past last (f x.1) ≡ true → Turn start more last (earlier first (Some (bad_at x.0))) items
    turn_past e = record {
      last_is = t.last_is ∙ (sym (ap (λ (c : Bool). if c then last_of f None done else Some (f x.1)) (test true e)) ∙ sym (last_append done (x ∷ []) None));
      found =
          ap (λ (o : Option Fault). earlier o (Some (bad_at x.0))) t.found
          ∙ (first_then start (over f None done) (bad_at x.0 ∷ [])
          ∙ ap (λ fs. earlier start (least fs))
          (sym (over_append done (x ∷ []) None ∙ ap (λ (c : Bool). over f None done ++ (if c then bad_at x.0 ∷ [] else [])) (test true e))));
      items_are = t.items_are ∙ ap (map (λ (x : ℕ × A). x.1)) (sym (kept_more true e ∙ append-nil (kept f None done)));
    }

    pub turn_new : is_past last (f x.1) ≡ false → Turn start more (Some (f x.1)) first (items ++ x.1 ∷ [])
    turn_new e = record {
      last_is = sym (ap (λ (c : Bool). if c then last_of f None done else Some (f x.1)) (test false e)) ∙ sym (last_append done (x ∷ []) None);
      found =
          t.found
          ∙ ap (λ fs. earlier start (least fs))
          (sym (over_append done (x ∷ []) None ∙ (ap (λ (c : Bool). over f None done ++ (if c then bad_at x.0 ∷ [] else [])) (test false e) ∙ append-nil (over f None done))));
      items_are =
          ap (λ ys. ys ++ x.1 ∷ []) t.items_are
          ∙ (sym (map-append (λ (x : ℕ × A). x.1) (kept f None done) (x ∷ [])) ∙ ap (map (λ (x : ℕ × A). x.1)) (sym (kept_more false e)));
    }

    pub lines_past : (ls : List ℕ) → ls ≡ lines_of done → is_past last (f x.1) ≡ true → ls ≡ lines_of more
    lines_past ls h e = h ∙ ap (map (λ (x : ℕ × A). x.0)) (sym (kept_more true e ∙ append-nil (kept f None done)))

    pub lines_new : (ls : List ℕ) → ls ≡ lines_of done → is_past last (f x.1) ≡ false → ls ++ x.0 ∷ [] ≡ lines_of more
    lines_new ls h e =
        ap (λ ys. ys ++ x.0 ∷ []) h
        ∙ (sym (map-append (λ (x : ℕ × A). x.0) (kept f None done) (x ∷ [])) ∙ ap (map (λ (x : ℕ × A). x.0)) (sym (kept_more false e)))
