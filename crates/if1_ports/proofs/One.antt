-- Which digits spell 1.
use Rattle.std.proofs.Common.{◌≡◌, ℕ, zero, suc, ◌+◌, ◌-◌, ◌*◌, ◌≤◌, ℤ, pos, neg_ℤ, Bool, true, false, ◌||◌, ◌==◌, if◌then◌else◌, List, [], ◌∷◌, fold, Option, Some, None, option_map, Decides, inl, inr, ◌⊎◌, refl, sym, ap, subst, ◌∙◌, arith, eqb-true, eq-eqb, ne_eqb, leb-true}
use Rattle.std.specs.Prelude.{nat_le}
use Rattle.std.specs.List.{list_all}
use Rattle.std.specs.Char.{is_ascii_digit}
use Rattle.std.proofs.lemmas.Bool.{and_parts, or_cases}
use Rattle.flow_value.specs.Scalar.{fits_64}
use Rattle.if1_graph.specs.Tables.{◌>>=◌}
use Rattle.if1_graph.specs.Literals.{whole, signed, integer}
use Rattle.if1_ports.specs.Fed.{spells_from, spells_one, spells_one_if}

abbrev value_from : ℕ → List ℕ → ℕ
value_from n ds = fold (λ n c. n * 10 + (c - 48)) n ds

abbrev bit : Bool → ℕ
bit true = 1
bit false = 0

-- ---- what spells 1 has the value 1

record HasValue (n : ℕ) (ds : List ℕ) : Type 0 where
  digits : list_all is_ascii_digit ds ≡ true
  value : value_from n ds ≡ 1

one_value : (one : Bool) (ds : List ℕ) → spells_from one ds ≡ true → HasValue (bit one) ds
one_value true [] h = record { digits = refl; value = refl }
one_value false [] h = absurd cc
one_value true (c ∷ cs) h = absurd cc
one_value false (c ∷ cs) h =
    let both = and_parts ((c == 48) || (c == 49)) (spells_from (c == 49) cs) h in
    elim (or_cases (c == 48) (c == 49) both.0) [
      | inl e ↦
          let is : 48 ≡ c = sym (eqb-true c 48 e) in
          subst (λ c. spells_from (c == 49) cs ≡ true → HasValue 0 (c ∷ cs)) is
          (λ h. let r = one_value false cs h in record { digits = r.digits; value = r.value }) both.1
      | inr e ↦
          let is : 49 ≡ c = sym (eqb-true c 49 e) in
          subst (λ c. spells_from (c == 49) cs ≡ true → HasValue 0 (c ∷ cs)) is
          (λ h. let r = one_value true cs h in record { digits = r.digits; value = r.value }) both.1
    ]

-- ---- and what has the value 1 spells it

grows : (n : ℕ) (ds : List ℕ) → n ≤ value_from n ds
grows n [] = omega arith
grows n (c ∷ cs) = omega (arith, grows (n * 10 + (c - 48)) cs)

digit_least : (c : ℕ) → is_ascii_digit c ≡ true → 48 ≤ c
digit_least c h = leb-true 48 c (and_parts (nat_le 48 c) (nat_le c 57) h).0

first_digit : (n c v : ℕ) → 48 ≤ c → n * 10 + (c - 48) ≤ v → v ≡ 1 → (n ≡ 0) × ((c ≡ 48) ⊎ (c ≡ 49))
first_digit n c v low h e = (omega arith, last c low (omega arith))
  where
    last : (c : ℕ) → 48 ≤ c → c ≤ 49 → (c ≡ 48) ⊎ (c ≡ 49)
    last c a b = grind arith

value_one : (n : ℕ) (ds : List ℕ) → list_all is_ascii_digit ds ≡ true → value_from n ds ≡ 1 → spells_from (n == 1) ds ≡ true
value_one n [] digits value = eq-eqb n 1 value
value_one n (c ∷ cs) digits value =
    let both = and_parts (is_ascii_digit c) (list_all is_ascii_digit cs) digits in
    let r = first_digit n c (value_from (n * 10 + (c - 48)) cs) (digit_least c both.0) (grows (n * 10 + (c - 48)) cs) value in
    let rest : (m : ℕ) → m ≡ n * 10 + (c - 48) → spells_from (m == 1) cs ≡ true =
    λ m e. value_one m cs both.1 (ap (λ k. value_from k cs) e ∙ value) in
    elim r.1 [
      | inl e ↦
          subst (λ n. spells_from (n == 1) (c ∷ cs) ≡ true) (sym r.0)
          (subst (λ c. spells_from false (c ∷ cs) ≡ true) (sym e) (rest 0 (omega arith)))
      | inr e ↦
          subst (λ n. spells_from (n == 1) (c ∷ cs) ≡ true) (sym r.0)
          (subst (λ c. spells_from false (c ∷ cs) ≡ true) (sym e) (rest 1 (omega arith)))
    ]

-- ---- integers

fits_none : (z : Option ℤ) → (z >>= λ n. if fits_64 n then Some n else None) ≡ Some (pos 1) → z ≡ Some (pos 1)
fits_none None e = absurd cc
fits_none (Some z) e = kept z (fits_64 z) e
  where
    kept : (z : ℤ) (b : Bool) → (if b then Some z else None) ≡ Some (pos 1) → Some z ≡ Some (pos 1)
    kept z true e = e
    kept z false e = absurd cc

no_minus : (m : Option ℕ) → option_map (λ n. neg_ℤ (pos n)) m ≡ Some (pos 1) → ⊥
no_minus None e = cc
no_minus (Some zero) e = cc
no_minus (Some (suc n)) e = cc

whole_one : (c : ℕ) (cs : List ℕ) → option_map pos (whole (c ∷ cs)) ≡ Some (pos 1) → HasValue 0 (c ∷ cs)
whole_one c cs e = seen (list_all is_ascii_digit (c ∷ cs)) (value_from 0 (c ∷ cs)) refl refl e
  where
    seen : (b : Bool) (v : ℕ) → list_all is_ascii_digit (c ∷ cs) ≡ b → value_from 0 (c ∷ cs) ≡ v → option_map pos (if b then Some v else None) ≡ Some (pos 1) →
        HasValue 0 (c ∷ cs)
    seen true v d w e = record { digits = d; value = w ∙ same v e }
      where
        same : (v : ℕ) → Some (pos v) ≡ Some (pos 1) → v ≡ 1
        same v e = cc
    seen false v d w e = absurd cc

signed_one : (text : List ℕ) → signed text ≡ Some (pos 1) → spells_one text ≡ true
signed_one [] e = absurd cc
signed_one (c ∷ cs) e = seen (c == 45) e
  where
    seen : (b : Bool) → (if b then option_map (λ n. neg_ℤ (pos n)) (whole cs) else option_map pos (whole (c ∷ cs))) ≡ Some (pos 1) → spells_one (c ∷ cs) ≡ true
    seen true e = absurd (no_minus (whole cs) e)
    seen false e = let r = whole_one c cs e in value_one 0 (c ∷ cs) r.digits r.value

one_signed : (text : List ℕ) → spells_one text ≡ true → signed text ≡ Some (pos 1)
one_signed [] h = absurd cc
one_signed (c ∷ cs) h =
    let r = one_value false (c ∷ cs) h in
    let digit = (and_parts (is_ascii_digit c) (list_all is_ascii_digit cs) r.digits).0 in
    let plus : (c == 45) ≡ false = ne_eqb c 45 (λ e. omega (arith, e, digit_least c digit)) in
    ap (λ b. if b then option_map (λ n. neg_ℤ (pos n)) (whole cs) else option_map pos (whole (c ∷ cs))) plus
    ∙ ap (λ b. option_map pos (if b then Some (value_from 0 (c ∷ cs)) else None)) r.digits
    ∙ ap (λ v. Some (pos v)) r.value

pub decides_one : (text : Option (List ℕ)) → Decides (spells_one_if text) ((text >>= integer) ≡ Some (pos 1))
decides_one None = (λ h. absurd cc, λ e. absurd cc)
decides_one (Some text) = (
  λ h. ap (λ (z : Option ℤ). z >>= λ n. if fits_64 n then Some n else None) (one_signed text h),
  λ e. signed_one text (fits_none (signed text) e),
)
