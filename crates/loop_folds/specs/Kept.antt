-- The elements of a list as far as they are kept: one more than an aggregate may have.
use Rattle.std.specs.Prelude.{◌≡◌, ℕ, zero, suc, ◌≤◌, List, [], ◌∷◌, ◌++◌, take, length, refl}
use Rattle.std.proofs.Common.{sym, ◌∙◌, ap, arith}

abbrev pub kept : {T : Type 0} → List T → List T
kept vs = take 4194305 vs

pub take-take-append : {T : Type 0} (n : ℕ) (xs ys : List T) → take n (take n xs ++ ys) ≡ take n (xs ++ ys)
take-take-append zero xs ys = refl
take-take-append (suc n) [] ys = refl
take-take-append (suc n) (x ∷ xs) ys = ap (λ zs. x ∷ zs) (take-take-append n xs ys)

take-take : {T : Type 0} (n m : ℕ) (xs : List T) → n ≤ m → take n (take m xs) ≡ take n xs
take-take zero m xs below = refl
take-take (suc n) zero xs below = absurd (omega arith)
take-take (suc n) (suc m) [] below = refl
take-take (suc n) (suc m) (x ∷ xs) below = ap (λ zs. x ∷ zs) (take-take n m xs (omega arith))

take-append-take : {T : Type 0} (n m : ℕ) (xs ys : List T) → n ≤ m → take n (xs ++ take m ys) ≡ take n (xs ++ ys)
take-append-take zero m xs ys below = refl
take-append-take (suc n) m [] ys below = take-take (suc n) m ys below
take-append-take (suc n) m (x ∷ xs) ys below = ap (λ zs. x ∷ zs) (take-append-take n m xs ys (omega arith))

-- a list is kept as its parts are
pub take-parts : {T : Type 0} (n : ℕ) (xs ys : List T) → take n (xs ++ ys) ≡ take n (take n xs ++ take n ys)
take-parts n xs ys = sym (take-append-take n n (take n xs) ys (omega arith) ∙ take-take-append n xs ys)
