-- What `parse` says of a numeral.
use Rattle.std.proofs.Common.{◌≡◌, ℕ, ◌<◌, ◌≤◌, ◌^◌, true, List, [], ◌∷◌, length, Result, Err, rules, arith, refl, inl, inr, subst}
use Rattle.std.specs.Char.{is_ascii_digit}
use Rattle.std.specs.List.{list_all}
use Rattle.std.specs.Result.{OkIff}
use Rattle.std.specs.Str.Parse.{ParsesUnsigned, digits_value}
use Rattle.std.proofs.lemmas.Str.Parse.{IsNumeralModel, numerals_by_value, parse_digits}
use Rattle.std.proofs.lemmas.Bool.Decides.{nat_tests}
use Rattle.std.proofs.lemmas.Bool.{cases_lt}
use Rattle.run_words.specs.declared.fault.WordFault.TheVariants as fault
use Rattle.run_words.specs.Numbers.{is_numeral, number_of}
use Rattle.run_words.specs.Reading.{number_at}

own : IsNumeralModel (λ ds. list_all is_ascii_digit ds ≡ true) (digits_value 10)
own = numerals_by_value _ (search rules)

numeral_parts : (word : List ℕ) → is_numeral word ≡ true → (0 < length word) × (list_all is_ascii_digit word ≡ true)
numeral_parts [] h = cc
numeral_parts (digit ∷ digits) h = (search rules, h)

pub numeral_is : (word : List ℕ) → (0 < length word) → list_all is_ascii_digit word ≡ is_numeral word
numeral_is [] h = absurd (omega arith)
numeral_is (digit ∷ digits) h = refl

-- what a numeral that `parse` refuses is
refused_is_big : {E : Type 0} (word : List ℕ) (r : Result ℕ E) (e : E) → ParsesUnsigned 64 10 word r → r ≡ Err e → is_numeral word ≡ true → 2 ^ 64 ≤ number_of word
refused_is_big word r e h is numeral =
    let parts = numeral_parts word numeral in
    let not_below : OkIff (Err e) ((0 < length word) × (number_of word < 2 ^ 64)) (number_of word) =
    subst (λ r. OkIff r ((0 < length word) × (number_of word < 2 ^ 64)) (number_of word)) is (parse_digits own 64 word r h parts.1) in
    elim (cases_lt (number_of word) (2 ^ 64)) [ inl below ↦ absurd (not_below (parts.0, below)) | inr big ↦ big ]

pub refused : {E : Type 0} (low high k : ℕ) (word : List ℕ) (r : Result ℕ E) (e : E) → high < 2 ^ 64 → ParsesUnsigned 64 10 word r → r ≡ Err e → is_numeral word ≡ true → Err (fault.OutOfRange k) ≡ number_at low high k word
refused low high k word r e small h is numeral =
    let big : 2 ^ 64 ≤ number_of word = refused_is_big word r e h is numeral in
    grind (arith, nat_tests)
