-- What passes two tests.
use Rattle.std.proofs.Common.{◌≡◌, ◌&&◌, ◌||◌, Bool, true, false, cond, List, [], ◌∷◌, refl, ap}
use Rattle.std.specs.List.{filter, list_any}

pub any-filtered : {A : Type 0} (p f : A → Bool) (xs : List A) → list_any (λ x. p x && f x) xs ≡ list_any f (filter p xs)
any-filtered p f [] = refl
any-filtered p f (x ∷ xs) = go (p x) (any-filtered p f xs)
  where
    go : (b : Bool) → list_any (λ y. p y && f y) xs ≡ list_any f (filter p xs) → (b && f x) || list_any (λ y. p y && f y) xs ≡ list_any f (cond b (x ∷ filter p xs) (filter p xs))
    go true rest = ap (λ z. f x || z) rest
    go false rest = rest
