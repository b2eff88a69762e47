-- Lists by places.
use Rattle.std.proofs.Common.{◌≡◌, ◌<◌, ◌+◌, ℕ, suc, List, ◌∷◌, All, map, drop, drop-cons, add-one, length, get_or, sym, ap, subst, ◌∙◌}
use Rattle.std.proofs.lemmas.List.{get_or-map, length-map}
use Rattle.type_table.specs.declared.form.Member.{Member}

-- the item at a place, and those behind it
pub cut : {X : Type 0} (xs : List X) (i : ℕ) (x d : X) → i < length xs → x ≡ get_or xs i d → drop i xs ≡ x ∷ drop (i + 1) xs
cut xs i x d within is = drop-cons xs i d within ∙ ap (λ y. y ∷ drop (suc i) xs) (sym is) ∙ ap (λ k. x ∷ drop k xs) (sym (add-one i))

-- the types of members that are each below a number
pub all_types : (ms : List Member) (n : ℕ) → ((k : ℕ) (d : Member) → k < length ms → (get_or ms k d).ty < n) → All (λ t. t < n) (map (λ m. m.ty) ms)
all_types ms n each = λ k d within.
    let m : Member = record { name = 0; ty = d } in
    let there : k < length ms = subst (λ l. k < l) (length-map ms (λ m. m.ty)) within in
    subst (λ t. t < n) (sym (get_or-map (λ m. m.ty) ms k m d there)) (each k m there)

-- each of them is, where all are
pub type_below : (ms : List Member) (n k : ℕ) (d : Member) → k < length ms → All (λ t. t < n) (map (λ m. m.ty) ms) → (get_or ms k d).ty < n
type_below ms n k d within all =
    let there : k < length (map (λ m. m.ty) ms) = subst (λ l. k < l) (sym (length-map ms (λ m. m.ty))) within in
    subst (λ t. t < n) (get_or-map (λ m. m.ty) ms k d d.ty within) (all k d.ty there)
