use Rattle.std.proofs.Common.{◌≡◌, ◌∙◌, ap, sym, ◌^◌, drop, get_or, ltb, true, arith, ◌+◌, ◌∷◌}
use Rattle.std.proofs.lemmas.List.{drop_more}
use Rattle.value_text.specs.Tokens.{number_from, in_64_bits, with_digit}
use Rattle.value_text.proofs.Numbers.{digits_past}
use Rattle.value_text.proofs.token.digits.Goals as goal

pub returns-in_err-n : goal.returns-in_err-n
returns-in_err-n c =
    let text = c.args.text.now in
    let at = c.loop-at.at in
    let past : in_64_bits (number_from c.loop-at.n (get_or text at 0 ∷ drop (at + 1) text)) ≡ _ = digits_past c.loop-at.n (get_or text at 0) (drop (at + 1) text) (sym c.is_digit.ensures ∙ c.if-is_digit.true) (sym c.with_digit.ensures ∙ c.in_err-n.was) in
    rw (c.from_residual.ensures) (ap in_64_bits (c.loop-at.invariant.read ∙ ap (number_from c.loop-at.n) (drop_more text at 0 c.loop-at-test.true)) ∙ past)
