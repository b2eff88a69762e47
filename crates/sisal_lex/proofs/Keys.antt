-- Keys by their bytes: a set of vectors as a list of names.
use Rattle.std.proofs.Common.{◌≡◌, Bool, true, false, ◌||◌, not, List, [], ◌∷◌, ◌++◌, ℕ, ◌+◌, cond, map, refl, sym, ap, ◌∙◌, if◌then◌else◌, bytes_eq}
use Rattle.std.proofs.lemmas.List.{map-append}
use Rattle.std.specs.List.{list_any, position_or_len}
use Rattle.indexmap.specs.IndexSet.{insert_key}
use Rattle.sisal_lex.specs.Names.{used}

module _ {X : Type 0} (f : X → List ℕ) where
  abbrev same : X → X → Bool
  same x y = bytes_eq (f x) (f y)

  any-map : (v : X) (ks : List X) → list_any (same v) ks ≡ list_any (bytes_eq (f v)) (map f ks)
  any-map v [] = refl
  any-map v (k ∷ ks) = ap (λ b. bytes_eq (f v) (f k) || b) (any-map v ks)

  pub place-map : (v : X) (ks : List X) → position_or_len (same v) ks ≡ position_or_len (bytes_eq (f v)) (map f ks)
  place-map v [] = refl
  place-map v (k ∷ ks) = ap (λ n. cond (not (bytes_eq (f v) (f k))) (1 + n) 0) (place-map v ks)

  chosen : (b : Bool) (v : X) (ks : List X) → map f (if b then ks else ks ++ v ∷ []) ≡ (if b then map f ks else map f ks ++ f v ∷ [])
  chosen true v ks = refl
  chosen false v ks = map-append f ks (v ∷ [])

  pub keys-map : (v : X) (ks : List X) → map f (insert_key same ks v) ≡ used (map f ks) (f v)
  keys-map v ks = chosen (list_any (same v) ks) v ks ∙ ap (λ b. if b then map f ks else map f ks ++ f v ∷ []) (any-map v ks)
