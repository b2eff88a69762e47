use Rattle.std.proofs.Common.{◌≡◌, ◌≤◌, ◌∙◌, arith, ap, sym, subst, take, drop, length, ◌-◌, ◌+◌, Some, List, ℕ}
use Rattle.std.proofs.lemmas.Bool.{ne_eqb}
use Rattle.std.proofs.lemmas.List.{length-drop}
use Rattle.sisal_lex.specs.Quotes.{item, items}
use Rattle.sisal_lex.proofs.Grown.{grown, next_item, rest_is}
use Rattle.sisal_lex.proofs.quotes.text_in_quotes.Goals as goal

pub loop-at-preserved : goal.loop-at-preserved
loop-at-preserved c =
    let text = c.args.text.now in
    let at = c.loop-at.at in
    let one = c.in-Some.one in
    let is : item 34 (drop at text) ≡ Some one = ap (item 34) (sym (rest_is at text)) ∙ sym c.in-Some.ensures.value in
    let within = subst (λ (r : List ℕ). one.bytes ≤ length r) (rest_is at text) c.in-Some.ensures.within.1 in (
      omega (arith, length-drop at text, within),
      c.loop-at.invariant.1
          ∙ next_item c.loop-at.codes text at one c.loop-at-test.true (ne_eqb _ _ c.if-text-at-eq34.false) is c.in-Some.ensures.within.0
          ∙ ap (λ cs. grown cs (at + one.bytes) (items (drop (at + one.bytes) text) 0)) (sym c.in_ok-add.ensures.ok),
    )
