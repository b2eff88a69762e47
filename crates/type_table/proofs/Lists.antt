-- Facts on lists: the items of a list with one more, and places of what passes a test.
use Rattle.std.proofs.Common.{◌≡◌, ℕ, ◌+◌, ◌<◌, ◌≤◌, zero, suc, Bool, true, false, not, ◌||◌, cond, ltb, nat_lt, ◌⊎◌, inl, inr, List, [], ◌∷◌, ◌++◌, map, length, slice_get, Option, Some, None, refl, sym, ap, ◌∙◌, subst, arith, position, true≢false, if◌then◌else◌}
use Rattle.std.specs.List.{list_any, position_or_len}
use Rattle.std.proofs.lemmas.List.{length-map}
use Rattle.std.proofs.lemmas.Option.{same_Some}
use Rattle.std.specs.Map.{keys_of}
use Rattle.indexmap.specs.IndexMap.{insert_entry}
use borrow.Author.Tests.{ltb-true, ltb-false}

pub seam : {X : Type 0} (xs : List X) (x : X) → slice_get (xs ++ x ∷ []) (length xs) ≡ Some x
seam [] x = refl
seam (y ∷ xs) x = seam xs x

pub left : {X : Type 0} (xs ys : List X) (k : ℕ) (x : X) → slice_get xs k ≡ Some x → slice_get (xs ++ ys) k ≡ Some x
left [] ys k x h = cc
left (y ∷ xs) ys zero x h = h
left (y ∷ xs) ys (suc k) x h = left xs ys k x h

-- an item of a list with one more is an earlier one, or the last
pub record IsEarlier {X : Type 0} (xs : List X) (k : ℕ) (y : X) : Type 0 where
  pub is : slice_get xs k ≡ Some y

pub record IsLast {X : Type 0} (xs : List X) (x : X) (k : ℕ) (y : X) : Type 0 where
  pub place : k ≡ length xs
  pub is : x ≡ y

pub which : {X : Type 0} (xs : List X) (x : X) (k : ℕ) (y : X) → slice_get (xs ++ x ∷ []) k ≡ Some y → IsEarlier xs k y ⊎ IsLast xs x k y
which [] x zero y h = inr (record { place = refl; is = cc })
which [] x (suc k) y h = cc
which (z ∷ xs) x zero y h = inl (record { is = h })
which (z ∷ xs) x (suc k) y h = elim (which xs x k y h) [
  | inl e ↦ inl (record { is = e.is })
  | inr l ↦ inr (record { place = ap suc l.place; is = l.is })
]

-- the place of the first item that passes, after a map
pub position_or_len-map : {A B : Type 0} (p : B → Bool) (f : A → B) (xs : List A) → position_or_len p (map f xs) ≡ position_or_len (λ x. p (f x)) xs
position_or_len-map p f [] = refl
position_or_len-map p f (x ∷ xs) = ap (λ n. cond (not (p (f x))) (1 + n) 0) (position_or_len-map p f xs)

pub position-map : {A B : Type 0} (p : B → Bool) (f : A → B) (xs : List A) → position p (map f xs) ≡ position (λ x. p (f x)) xs
position-map p f xs =
    let e = position_or_len-map p f xs in
    let l = length-map xs f in
    ap (λ n. cond (nat_lt n (length (map f xs))) (Some n) None) e
    ∙ ap (λ l. cond (nat_lt (position_or_len (λ x. p (f x)) xs) l) (Some (position_or_len (λ x. p (f x)) xs)) None) l

-- where a search ends, with what it found
pub record IsFound {X : Type 0} (p : X → Bool) (xs : List X) (k : ℕ) : Type 0 where
  pub item : X
  pub is : slice_get xs k ≡ Some item
  pub passes : p item ≡ true
  pub any : list_any p xs ≡ true

found_by_count : {X : Type 0} (p : X → Bool) (xs : List X) → position_or_len p xs < length xs → IsFound p xs (position_or_len p xs)
found_by_count p [] h = absurd (omega arith)
found_by_count {X} p (x ∷ xs) h = by (p x) refl (found_by_count p xs)
  where
    by : (b : Bool) → p x ≡ b → (position_or_len p xs < length xs → IsFound p xs (position_or_len p xs)) → IsFound p (x ∷ xs) (position_or_len p (x ∷ xs))
    by true e rest =
        let z : position_or_len p (x ∷ xs) ≡ 0 = ap (λ b. cond (not b) (1 + position_or_len p xs) 0) e in
        subst (IsFound p (x ∷ xs)) (sym z) (record { item = x; is = refl; passes = e; any = ap (λ b. b || list_any p xs) e })
    by false e rest =
        let z : position_or_len p (x ∷ xs) ≡ 1 + position_or_len p xs = ap (λ b. cond (not b) (1 + position_or_len p xs) 0) e in
        let n : 1 + position_or_len p xs ≡ suc (position_or_len p xs) = omega arith in
        let r = rest (omega (arith, z, h)) in
        subst (IsFound p (x ∷ xs)) (sym (z ∙ n)) (record { item = r.item; is = r.is; passes = r.passes; any = ap (λ b. b || list_any p xs) e ∙ r.any })

absent_by_count : {X : Type 0} (p : X → Bool) (xs : List X) → length xs ≤ position_or_len p xs → list_any p xs ≡ false
absent_by_count p [] h = refl
absent_by_count {X} p (x ∷ xs) h = by (p x) refl (absent_by_count p xs)
  where
    by : (b : Bool) → p x ≡ b → (length xs ≤ position_or_len p xs → list_any p xs ≡ false) → (p x || list_any p xs) ≡ false
    by true e rest =
        let z : position_or_len p (x ∷ xs) ≡ 0 = ap (λ b. cond (not b) (1 + position_or_len p xs) 0) e in
        absurd (omega (arith, z, h))
    by false e rest =
        let z : position_or_len p (x ∷ xs) ≡ 1 + position_or_len p xs = ap (λ b. cond (not b) (1 + position_or_len p xs) 0) e in
        ap (λ b. b || list_any p xs) e ∙ rest (omega (arith, z, h))

pub found : {X : Type 0} (p : X → Bool) (xs : List X) (k : ℕ) → Some k ≡ position p xs → IsFound p xs k
found {X} p xs k h = by (nat_lt (position_or_len p xs) (length xs)) refl h
  where
    by : (b : Bool) → nat_lt (position_or_len p xs) (length xs) ≡ b → Some k ≡ cond b (Some (position_or_len p xs)) None → IsFound p xs k
    by true e h =
        let n : position_or_len p xs ≡ k = cc in
        subst (IsFound p xs) n (found_by_count p xs (ltb-true (position_or_len p xs) (length xs) e))
    by false e h = cc

pub none_found : {X : Type 0} (p : X → Bool) (xs : List X) → position p xs ≡ None → list_any p xs ≡ false
none_found {X} p xs h = by (nat_lt (position_or_len p xs) (length xs)) refl h
  where
    by : (b : Bool) → nat_lt (position_or_len p xs) (length xs) ≡ b → cond b (Some (position_or_len p xs)) None ≡ None → list_any p xs ≡ false
    by true e h = cc
    by false e h = absent_by_count p xs (ltb-false (position_or_len p xs) (length xs) e)

-- what is in the list and passes is found
pub not_among : {X : Type 0} (p : X → Bool) (xs : List X) (k : ℕ) (x : X) → list_any p xs ≡ false → slice_get xs k ≡ Some x → p x ≡ false
not_among p [] k x h is = cc
not_among {X} p (y ∷ xs) zero x h is = subst (λ y. p y ≡ false) (same_Some y x is) (by (p y) h)
  where
    by : (b : Bool) → (b || list_any p xs) ≡ false → b ≡ false
    by true h = h
    by false h = refl
not_among {X} p (y ∷ xs) (suc k) x h is = not_among p xs k x (by (p y) h) is
  where
    by : (b : Bool) → (b || list_any p xs) ≡ false → list_any p xs ≡ false
    by true h = absurd (true≢false h)
    by false h = h

-- a new key goes last
pub insert_last : {K V : Type 0} (eq : K → K → Bool) (k : K) (v : V) (es : List (K × V)) → list_any (eq k) (keys_of es) ≡ false → insert_entry eq es k v ≡ es ++ (k, v) ∷ []
insert_last eq k v [] h = refl
insert_last {K} {V} eq k v (e ∷ es) h = by (eq k e.0) refl h (insert_last eq k v es)
  where
    by : (b : Bool) → eq k e.0 ≡ b → (b || list_any (eq k) (keys_of es)) ≡ false → (list_any (eq k) (keys_of es) ≡ false → insert_entry eq es k v ≡ es ++ (k, v) ∷ [])
        → insert_entry eq (e ∷ es) k v ≡ e ∷ (es ++ (k, v) ∷ [])
    by true q h rest = absurd (true≢false h)
    by false q h rest = ap (λ b. if b then (e.0, v) ∷ es else e ∷ insert_entry eq es k v) q ∙ ap (λ l. e ∷ l) (rest h)
