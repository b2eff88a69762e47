-- The decimals of a number are read as that number.
use Rattle.std.proofs.Common.{◌≡◌, ℕ, ◌+◌, ◌-◌, ◌*◌, ◌/◌, ◌%◌, ◌^◌, ◌<◌, ◌≤◌, Bool, true, false, ◌&&◌, leb, List, [], ◌∷◌, ◌++◌, Some, refl, sym, ap, subst, ◌∙◌, arith}
use Rattle.std.specs.Prelude.{decimal, option_map}
use Rattle.std.specs.Char.{is_ascii_digit}
use Rattle.std.specs.List.{list_all}
use Rattle.std.proofs.lemmas.Bool.{le-leb, leb-true}
use Rattle.std.proofs.lemmas.Fmt.{decimal_by_steps}
use Rattle.std.proofs.lemmas.Nat.{div-add-mod'}
use Rattle.std.proofs.lemmas.List.Sums.{fold-append}
use Rattle.std.proofs.lemmas.List.Folds.{list_all-append}
use Rattle.if1_graph.specs.LineParts.{Part}
use Rattle.if1_graph.specs.Numbers.{row_value, numeral, number_first}
use Rattle.if1_graph.specs.Spelling.{number, is_visible}

digit_is : (n : ℕ) → n < 10 → is_ascii_digit (48 + n) ≡ true
digit_is n h = rw (le-leb 48 (48 + n) (omega arith), le-leb (48 + n) 57 (omega (arith, h))) refl

pub and_true : (a b : Bool) → a ≡ true → b ≡ true → (a && b) ≡ true
and_true true b p q = q
and_true false b p q = absurd cc

-- a row of digits that spells n
record Row (n : ℕ) (ds : List ℕ) : Type 0 where
  first : ℕ
  more : List ℕ
  is : ds ≡ first ∷ more
  digits : list_all is_ascii_digit (first ∷ more) ≡ true
  value : row_value (first ∷ more) ≡ n

one_digit : (n : ℕ) → n < 10 → Row n ((48 + n) ∷ [])
one_digit n h = record { first = 48 + n; more = []; is = refl; digits = and_true (is_ascii_digit (48 + n)) true (digit_is n h) refl; value = omega arith }

more_digits : (n : ℕ) (ds : List ℕ) → 10 ≤ n → Row (n / 10) ds → Row n (ds ++ (48 + n % 10) ∷ [])
more_digits n ds h row =
    let d : ℕ = 48 + n % 10 in
    let small : n % 10 < 10 = omega arith in
    let value : row_value ((row.first ∷ row.more) ++ d ∷ []) ≡ n =
    fold-append (λ n d. 10 * n + (d - 48)) 0 (row.first ∷ row.more) (d ∷ []) ∙ ap (λ (x : ℕ). 10 * x + (d - 48)) row.value ∙ last (n / 10) (n % 10) ∙ div-add-mod' n 10 in
    record {
      first = row.first;
      more = row.more ++ d ∷ [];
      is = ap (λ (x : List ℕ). x ++ d ∷ []) row.is;
      digits = list_all-append is_ascii_digit (row.first ∷ row.more) (d ∷ []) ∙ and_true _ _ row.digits (and_true (is_ascii_digit d) true (digit_is (n % 10) small) refl);
      value = value;
    }
  where
    last : (q m : ℕ) → 10 * q + (48 + m - 48) ≡ q * 10 + m
    last q m = omega arith

row_of : (n : ℕ) → n < 2 ^ 32 → Row n (decimal n)
row_of n h = decimal_by_steps Row one_digit more_digits n (omega (arith, h))

pub numeral_is : (least n : ℕ) → least ≤ n → n < 2 ^ 32 → numeral least (decimal n) ≡ Some n
numeral_is least n l h =
    let row = row_of n h in
    let small : leb n 4294967295 ≡ true = le-leb n 4294967295 (omega (arith, h)) in
    let enough : leb least n ≡ true = le-leb least n l in
    rw (row.is, row.digits, row.value, small, enough) refl

pub number_is : (least n : ℕ) (ps : List Part) → least ≤ n → n < 2 ^ 32 → number_first least (number n ∷ ps) ≡ Some (n, ps)
number_is least n ps l h = ap (option_map (λ m. (m, ps))) (numeral_is least n l h)

pub and_parts : (a b : Bool) → (a && b) ≡ true → (a ≡ true) × (b ≡ true)
and_parts true b e = (refl, e)
and_parts false b e = absurd cc

pub each_so : (p q : ℕ → Bool) → ((c : ℕ) → p c ≡ true → q c ≡ true) → (xs : List ℕ) → list_all p xs ≡ true → list_all q xs ≡ true
each_so p q f [] h = refl
each_so p q f (c ∷ xs) h = let e = and_parts (p c) (list_all p xs) h in and_true (q c) (list_all q xs) (f c e.0) (each_so p q f xs e.1)

digit_visible : (c : ℕ) → is_ascii_digit c ≡ true → is_visible c ≡ true
digit_visible c h =
    let e = and_parts (leb 48 c) (leb c 57) h in
    and_true (leb 33 c) (leb c 126) (le-leb 33 c (omega (arith, leb-true 48 c e.0))) (le-leb c 126 (omega (arith, leb-true c 57 e.1)))

pub decimal_digits : (n : ℕ) → n < 2 ^ 32 → list_all is_ascii_digit (decimal n) ≡ true
decimal_digits n h = let row = row_of n h in subst (λ (ds : List ℕ). list_all is_ascii_digit ds ≡ true) (sym row.is) row.digits

pub decimal_visible : (n : ℕ) → n < 2 ^ 32 → list_all is_visible (decimal n) ≡ true
decimal_visible n h = each_so is_ascii_digit is_visible digit_visible (decimal n) (decimal_digits n h)

-- its first byte
pub record Begins (n : ℕ) : Type 0 where
  pub first : ℕ
  pub more : List ℕ
  pub is : decimal n ≡ first ∷ more
  pub digits : list_all is_ascii_digit (first ∷ more) ≡ true

pub begins : (n : ℕ) → n < 2 ^ 32 → Begins n
begins n h = let row = row_of n h in record { first = row.first; more = row.more; is = row.is; digits = row.digits }
