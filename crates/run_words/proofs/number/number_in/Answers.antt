use Rattle.std.proofs.Common.{◌≡◌, ◌<◌, true, length, arith, sym, ap, ◌∙◌}
use Rattle.std.proofs.lemmas.Bool.Decides.{nat_tests}
use Rattle.std.specs.Char.{is_ascii_digit}
use Rattle.std.specs.List.{list_all}
use Rattle.run_words.specs.Numbers.{is_numeral}
use Rattle.run_words.proofs.Numerals.{numeral_is, refused}
use Rattle.run_words.proofs.number.number_in.Goals as goal

pub returns-in_default-3-clause-exact : goal.returns-in_default-3-clause-exact
returns-in_default-3-clause-exact c =
    let word = c.args.word.now in
    let some : 0 < length word = grind (arith, nat_tests) in
    let digits : list_all is_ascii_digit word ≡ true = ap (list_all is_ascii_digit) (sym c.as_bytes.ensures.value) ∙ sym c.has_digits_only.ensures ∙ c.if-not-has_digits_only.false in
    let numeral : is_numeral word ≡ true = sym (numeral_is word some) ∙ digits in
    refused c.args.low c.args.high c.args.place word c.parse.result c.in_default.field-0 (omega arith) c.parse.ensures.value.0 c.in_default.is numeral
