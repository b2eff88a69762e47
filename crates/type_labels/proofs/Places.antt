-- The label of an entry is the place of its key, from 1.
use Rattle.std.proofs.Common.{◌≡◌, ℕ, ◌+◌, ◌<◌, ◌≤◌, suc, Bool, true, false, cond, nat_eq, ◌&&◌, bytes_eq, List, [], ◌∷◌, ◌++◌, length, Option, Some, None, refl, sym, ap, ap₂, ◌∙◌, arith, position, if◌then◌else◌}
use Rattle.std.specs.List.{list_any, position_or_len}
use Rattle.std.proofs.lemmas.List.{map-append, length-map, length-append}
use Rattle.std.proofs.lemmas.Option.{same_Some, none-some}
use Rattle.std.proofs.lemmas.Bool.{lt-ltb, le-ltb}
use mathlib.Core.Logic.{dite}
use native.Mathlib.Decide.{dec_le}
use Rattle.std.proofs.lemmas.Bool.Decides.{same_from_decides, Decides-eqb, Decides-like}
use Rattle.std.proofs.lemmas.Slice.Eq.{bytes_eq-Decides}
use Rattle.lowering.specs.Types.{Entry, entry, is_entry, Table, label_from, or_new, labelled, enter}
use Rattle.type_labels.specs.Keys.{entries_of}

module _ {K : Type 0} (name : K → List ℕ) where
  abbrev pub Key : Type 0
  Key = ℕ × ℕ × ℕ × K

  abbrev pub of : Key → Entry
  of k = entry k.0 k.1 k.2 (name k.3)

  -- the test by which a key is found
  abbrev pub same : Key → Key → Bool
  same v k = ((nat_eq v.0 k.0 && nat_eq v.1 k.1) && nat_eq v.2 k.2) && bytes_eq (name v.3) (name k.3)

  to_the_left : (a b c d : Bool) → (a && (b && (c && d))) ≡ (((a && b) && c) && d)
  to_the_left false b c d = refl
  to_the_left true false c d = refl
  to_the_left true true c d = refl

  numbers_turn : (a b : ℕ) → nat_eq a b ≡ nat_eq b a
  numbers_turn a b = same_from_decides (nat_eq a b) (nat_eq b a) (Decides-eqb a b) (Decides-like (nat_eq b a) sym sym (Decides-eqb b a))

  names_turn : (a b : List ℕ) → bytes_eq a b ≡ bytes_eq b a
  names_turn a b = same_from_decides (bytes_eq a b) (bytes_eq b a) (bytes_eq-Decides a b) (Decides-like (bytes_eq b a) sym sym (bytes_eq-Decides b a))

  pub tells : (v k : Key) → is_entry (of k) (of v) ≡ same v k
  tells v k = ap₂ (λ (x y : Bool). x && y) (numbers_turn k.0 v.0)
      (ap₂ (λ (x y : Bool). x && y) (numbers_turn k.1 v.1) (ap₂ (λ (x y : Bool). x && y) (numbers_turn k.2 v.2) (names_turn (name k.3) (name v.3))))
      ∙ to_the_left (nat_eq v.0 k.0) (nat_eq v.1 k.1) (nat_eq v.2 k.2) (bytes_eq (name v.3) (name k.3))

  module _ (test : Key → Bool) (e : Entry) (told : (k : Key) → is_entry (of k) e ≡ test k) where
    abbrev place : List Key → ℕ
    place ks = position_or_len test ks

    here : (k : Key) (ks : List Key) → test k ≡ true → place (k ∷ ks) ≡ 0
    here k ks is = rw is refl

    later : (k : Key) (ks : List Key) → test k ≡ false → place (k ∷ ks) ≡ suc (place ks)
    later k ks is = rw is (omega arith)

    pub within : (ks : List Key) → place ks ≤ length ks
    within [] = omega arith
    within (k ∷ ks) = by (test k) refl (within ks)
      where
        by : (b : Bool) → test k ≡ b → place ks ≤ length ks → place (k ∷ ks) ≤ suc (length ks)
        by true is rest = let z = here k ks is in omega (arith, z)
        by false is rest = let z = later k ks is in omega (arith, z, rest)

    -- what is there
    pub found : (n : ℕ) (ks : List Key) → place ks < length ks → (label_from n e (entries_of name ks) ≡ Some (suc (n + place ks))) × (list_any test ks ≡ true)
    found n [] lt = absurd (omega (arith, lt))
    found n (k ∷ ks) lt = by (test k) refl (found (suc n) ks)
      where
        Is : Type 0
        Is = (label_from n e (entries_of name (k ∷ ks)) ≡ Some (suc (n + place (k ∷ ks)))) × (list_any test (k ∷ ks) ≡ true)

        by : (b : Bool) → test k ≡ b → (place ks < length ks → (label_from (suc n) e (entries_of name ks) ≡ Some (suc (suc n + place ks))) × (list_any test ks ≡ true)) → Is
        by true is rest =
            let z = here k ks is in
            let sum : suc n ≡ suc (n + place (k ∷ ks)) = omega (arith, z) in
            (first is ∙ ap Some sum, rw is refl)
          where
            first : test k ≡ true → label_from n e (entries_of name (k ∷ ks)) ≡ Some (suc n)
            first is = rw (told k, is) refl
        by false is rest =
            let z = later k ks is in
            let r = rest (omega (arith, z, lt)) in
            let sum : suc (suc n + place ks) ≡ suc (n + place (k ∷ ks)) = omega (arith, z) in
            (next is ∙ r.0 ∙ ap Some sum, rw is r.1)
          where
            next : test k ≡ false → label_from n e (entries_of name (k ∷ ks)) ≡ label_from (suc n) e (entries_of name ks)
            next is = rw (told k, is) refl

    -- what is not
    pub missed : (n : ℕ) (ks : List Key) → place ks ≡ length ks → (label_from n e (entries_of name ks) ≡ None) × (list_any test ks ≡ false)
    missed n [] eq = (refl, refl)
    missed n (k ∷ ks) eq = by (test k) refl (missed (suc n) ks)
      where
        Is : Type 0
        Is = (label_from n e (entries_of name (k ∷ ks)) ≡ None) × (list_any test (k ∷ ks) ≡ false)

        by : (b : Bool) → test k ≡ b → (place ks ≡ length ks → (label_from (suc n) e (entries_of name ks) ≡ None) × (list_any test ks ≡ false)) → Is
        by true is rest = let z = here k ks is in absurd (omega (arith, z, eq))
        by false is rest =
            let z = later k ks is in
            let r = rest (omega (arith, z, eq)) in
            (next is ∙ r.0, rw is r.1)
          where
            next : test k ≡ false → label_from n e (entries_of name (k ∷ ks)) ≡ label_from (suc n) e (entries_of name ks)
            next is = rw (told k, is) refl

    abbrev after : List Key → Key → List Key
    after ks v = if list_any test ks then ks else ks ++ v ∷ []

    -- after a key is inserted, the table is as after its entry is entered
    pub entered : (ks : List Key) (v : Key) → of v ≡ e → enter e (entries_of name ks) ≡ labelled (suc (place ks)) (entries_of name (after ks v))
    entered ks v same = dite (dec_le (length ks) (place ks)) at_end inside
      where
        Is : Type 0
        Is = enter e (entries_of name ks) ≡ labelled (suc (place ks)) (entries_of name (after ks v))

        inside : (length ks ≤ place ks → ⊥) → Is
        inside lt =
            let f = found 0 ks (omega (arith, lt)) in
            let sum : suc (0 + place ks) ≡ suc (place ks) = omega arith in
            ap (λ (o : Option ℕ). or_new o e (entries_of name ks)) (f.0 ∙ ap Some sum) ∙ ap (λ (b : Bool). labelled (suc (place ks)) (entries_of name (if b then ks else ks ++ v ∷ []))) (sym f.1)

        at_end : length ks ≤ place ks → Is
        at_end ge =
            let w = within ks in
            let l : place ks ≡ length ks = omega (arith, ge, w) in
            let m = missed 0 ks l in
            ap (λ (o : Option ℕ). or_new o e (entries_of name ks)) m.0
            ∙ ap₂ (λ (n : ℕ) (ts : Table). labelled (suc n) ts) (length-map ks of ∙ sym l)
            (ap (λ (x : Entry). entries_of name ks ++ x ∷ []) (sym same) ∙ sym (map-append of ks (v ∷ [])))
            ∙ ap (λ (b : Bool). labelled (suc (place ks)) (entries_of name (if b then ks else ks ++ v ∷ []))) (sym m.1)

    -- a key that is found at a place, and one that is not found
    pub at_place : (ks : List Key) (p : ℕ) → Some p ≡ position test ks → enter e (entries_of name ks) ≡ labelled (suc p) (entries_of name ks)
    at_place ks p is = dite (dec_le (length ks) (place ks)) outside inside
      where
        Is : Type 0
        Is = enter e (entries_of name ks) ≡ labelled (suc p) (entries_of name ks)

        outside : length ks ≤ place ks → Is
        outside ge = absurd (none-some p (ap (λ (b : Bool). cond b (Some (place ks)) None) (sym (le-ltb (place ks) (length ks) ge)) ∙ sym is))

        inside : (length ks ≤ place ks → ⊥) → Is
        inside lt =
            let near : place ks < length ks = omega (arith, lt) in
            let f = found 0 ks near in
            let same_place : p ≡ place ks = same_Some p (place ks) (is ∙ ap (λ (b : Bool). cond b (Some (place ks)) None) (lt-ltb (place ks) (length ks) near)) in
            let sum : suc (0 + place ks) ≡ suc p = omega (arith, same_place) in
            ap (λ (o : Option ℕ). or_new o e (entries_of name ks)) (f.0 ∙ ap Some sum)

    pub not_there : (ks : List Key) → None ≡ position test ks → length (enter e (entries_of name ks)).table ≡ suc (length ks)
    not_there ks is = dite (dec_le (length ks) (place ks)) outside inside
      where
        Is : Type 0
        Is = length (enter e (entries_of name ks)).table ≡ suc (length ks)

        outside : length ks ≤ place ks → Is
        outside ge =
            let w = within ks in
            let m = missed 0 ks (omega (arith, ge, w)) in
            let more = length-append (entries_of name ks) (e ∷ []) in
            let long = length-map ks of in
            ap (λ (o : Option ℕ). length (or_new o e (entries_of name ks)).table) m.0 ∙ omega (arith, more, long)

        inside : (length ks ≤ place ks → ⊥) → Is
        inside lt =
            let near : place ks < length ks = omega (arith, lt) in
            absurd (none-some (place ks) (is ∙ ap (λ (b : Bool). cond b (Some (place ks)) None) (lt-ltb (place ks) (length ks) near)))
