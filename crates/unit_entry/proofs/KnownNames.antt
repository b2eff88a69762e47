-- A set of names, by its keys.
use Rattle.std.proofs.Common.{◌≡◌, ℕ, Bool, true, false, ◌||◌, List, [], ◌∷◌, ◌++◌, map, refl, sym, ap, subst, ◌∙◌, if◌then◌else◌, bytes_eq}
use Rattle.std.specs.List.{list_any}
use Rattle.std.proofs.lemmas.List.{map-append}
use Rattle.std.proofs.lemmas.Slice.Eq.{bytes_eq-Decides}
use Rattle.indexmap.specs.IndexSet.{insert_key}

sym_at : (a b : List ℕ) (x y : Bool) → bytes_eq a b ≡ x → bytes_eq b a ≡ y → x ≡ y
sym_at a b true true e f = refl
sym_at a b false false e f = refl
sym_at a b true false e f = let g : bytes_eq b a ≡ true = (bytes_eq-Decides b a).1 (sym ((bytes_eq-Decides a b).0 e)) in absurd cc
sym_at a b false true e f = let g : bytes_eq a b ≡ true = (bytes_eq-Decides a b).1 (sym ((bytes_eq-Decides b a).0 f)) in absurd cc

pub bytes_sym : (a b : List ℕ) → bytes_eq a b ≡ bytes_eq b a
bytes_sym a b = sym_at a b (bytes_eq a b) (bytes_eq b a) refl refl

pub any_sym : (t : List ℕ) (ns : List (List ℕ)) → list_any (bytes_eq t) ns ≡ list_any (λ n. bytes_eq n t) ns
any_sym t [] = refl
any_sym t (n ∷ ns) = ap (λ (b : Bool). b || list_any (bytes_eq t) ns) (bytes_sym t n) ∙ ap (λ (b : Bool). bytes_eq n t || b) (any_sym t ns)

or_false : (a : Bool) → (a || false) ≡ a
or_false true = refl
or_false false = refl

or_assoc : (a b c : Bool) → ((a || b) || c) ≡ (a || (b || c))
or_assoc true b c = refl
or_assoc false b c = refl

any_last : (p : List ℕ → Bool) (ns : List (List ℕ)) (v : List ℕ) → list_any p (ns ++ v ∷ []) ≡ (list_any p ns || p v)
any_last p [] v = or_false (p v)
any_last p (n ∷ ns) v = ap (λ (b : Bool). p n || b) (any_last p ns v) ∙ sym (or_assoc (p n) (list_any p ns) (p v))

or_same : (a b : Bool) → (b ≡ true → a ≡ true) → a ≡ (a || b)
or_same true b h = refl
or_same false true h = h refl
or_same false false h = refl

added_if : (b : Bool) (t v : List ℕ) (ns : List (List ℕ)) → list_any (bytes_eq v) ns ≡ b →
    list_any (λ n. bytes_eq n t) (if b then ns else ns ++ v ∷ []) ≡ (list_any (λ n. bytes_eq n t) ns || bytes_eq v t)
added_if true t v ns e =
    or_same (list_any (λ n. bytes_eq n t) ns) (bytes_eq v t)
    (λ h. subst (λ (x : List ℕ). list_any (λ n. bytes_eq n x) ns ≡ true) ((bytes_eq-Decides v t).0 h) (sym (any_sym v ns) ∙ e))
added_if false t v ns e = any_last (λ n. bytes_eq n t) ns v

module _ {X : Type 0} (f : X → List ℕ) where
  abbrev same : X → X → Bool
  same x y = bytes_eq (f x) (f y)

  any-map : (v : X) (ks : List X) → list_any (same v) ks ≡ list_any (bytes_eq (f v)) (map f ks)
  any-map v [] = refl
  any-map v (k ∷ ks) = ap (λ b. bytes_eq (f v) (f k) || b) (any-map v ks)

  chosen : (b : Bool) (v : X) (ks : List X) → map f (if b then ks else ks ++ v ∷ []) ≡ (if b then map f ks else map f ks ++ f v ∷ [])
  chosen true v ks = refl
  chosen false v ks = map-append f ks (v ∷ [])

  pub inserted : (v : X) (ks : List X) → map f (insert_key same ks v) ≡ (if list_any (bytes_eq (f v)) (map f ks) then map f ks else map f ks ++ f v ∷ [])
  inserted v ks = chosen (list_any (same v) ks) v ks ∙ ap (λ b. if b then map f ks else map f ks ++ f v ∷ []) (any-map v ks)

  pub has_inserted : (v : X) (ks : List X) (t : List ℕ) → list_any (λ n. bytes_eq n t) (map f (insert_key same ks v)) ≡ (list_any (λ n. bytes_eq n t) (map f ks) || bytes_eq (f v) t)
  has_inserted v ks t =
      ap (list_any (λ n. bytes_eq n t)) (inserted v ks) ∙ added_if (list_any (bytes_eq (f v)) (map f ks)) t (f v) (map f ks) refl

  pub any_keys : (t : List ℕ) (ks : List X) → list_any (λ k. bytes_eq t (f k)) ks ≡ list_any (λ n. bytes_eq n t) (map f ks)
  any_keys t [] = refl
  any_keys t (k ∷ ks) = ap (λ (b : Bool). b || list_any (λ k. bytes_eq t (f k)) ks) (bytes_sym t (f k)) ∙ ap (λ (b : Bool). bytes_eq (f k) t || b) (any_keys t ks)
