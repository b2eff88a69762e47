-- The multiples of a loop's turns grow at their ends.
use Rattle.std.proofs.Common.{◌≡◌, ℕ, zero, suc, ◌+◌, ◌<◌, List, [], ◌∷◌, ◌++◌, length, map, replicate, get_or, refl, ap, ◌∙◌, arith}
use Rattle.ordered_meaning.specs.Val.{Val}
use Rattle.ordered_meaning.specs.Carried.{Carried, Value, Many, Spoiled, Name, Unfilled, val_of}
use Rattle.ordered_meaning.specs.Forms.{before, add_row, columns_after, turn_columns}
use Rattle.run_code.specs.Collections.{alone, behind, behind_all}

before-behind : (v : Val) (m k : Carried) → before v (behind m k) ≡ behind (before v m) k
before-behind v (Value x) k = refl
before-behind v (Many vs) k = refl
before-behind v (Spoiled c) k = refl
before-behind v (Name t) k = refl
before-behind v Unfilled k = refl

row-behind : (row ms ks : List Carried) → add_row row (behind_all ms ks) ≡ behind_all (add_row row ms) ks
row-behind [] ms ks = refl
row-behind (v ∷ row) [] ks = refl
row-behind (v ∷ row) (m ∷ ms) [] = refl
row-behind (v ∷ row) (m ∷ ms) (k ∷ ks) = ap (λ x. x ∷ add_row row (behind_all ms ks)) (before-behind (val_of v) m k) ∙ ap (λ xs. behind (before (val_of v) m) k ∷ xs) (row-behind row ms ks)

columns-behind : (rows : List (List Carried)) (ms ks : List Carried) → columns_after rows (behind_all ms ks) ≡ behind_all (columns_after rows ms) ks
columns-behind [] ms ks = refl
columns-behind (row ∷ rows) ms ks = ap (columns_after rows) (row-behind row ms ks) ∙ columns-behind rows (add_row row ms) ks

-- the last row alone
last-alone : (ks : List Carried) → add_row ks (replicate (length ks) (Many [])) ≡ map alone ks
last-alone [] = refl
last-alone (k ∷ ks) = ap (λ xs. alone k ∷ xs) (last-alone ks)

alone-behind : (ks : List Carried) → map alone ks ≡ behind_all (replicate (length ks) (Many [])) ks
alone-behind [] = refl
alone-behind (k ∷ ks) = ap (λ xs. alone k ∷ xs) (alone-behind ks)

pub one-turn : (ks : List Carried) → turn_columns (ks ∷ []) ≡ map alone ks
one-turn ks = last-alone ks

pub more-turns : (ks ls : List Carried) (turns : List (List Carried)) → length ks ≡ length ls → turn_columns (ks ∷ ls ∷ turns) ≡ behind_all (turn_columns (ls ∷ turns)) ks
more-turns ks ls turns e =
    ap (columns_after (ls ∷ turns)) (last-alone ks ∙ (alone-behind ks ∙ ap (λ n. behind_all (replicate n (Many [])) ks) e))
    ∙ columns-behind (ls ∷ turns) (replicate (length ls) (Many [])) ks

-- ---- one list behind another

pub get-first : (xs ys : List Carried) (j : ℕ) → j < length xs → get_or (xs ++ ys) j Unfilled ≡ get_or xs j Unfilled
get-first [] ys j lt = absurd (omega (arith, lt))
get-first (x ∷ xs) ys zero lt = refl
get-first (x ∷ xs) ys (suc j) lt = get-first xs ys j (omega (arith, lt))

pub get-second : (xs ys : List Carried) (j : ℕ) → get_or (xs ++ ys) (length xs + j) Unfilled ≡ get_or ys j Unfilled
get-second [] ys j = ap (λ x. get_or ys x Unfilled) (omega arith)
get-second (x ∷ xs) ys j = ap (λ n. get_or (x ∷ (xs ++ ys)) n Unfilled) (shift (length xs) j) ∙ get-second xs ys j
  where
    shift : (a b : ℕ) → suc a + b ≡ suc (a + b)
    shift a b = omega arith
