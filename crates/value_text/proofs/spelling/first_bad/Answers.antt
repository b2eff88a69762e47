use Rattle.std.proofs.Common.{◌≡◌, ◌∙◌, ◌<◌, ◌≤◌, ◌+◌, sym, ap, subst, true, false, get_or, length, arith, rules}
use Rattle.std.proofs.lemmas.Option.{MatchOption-at_none, MatchOption-at_some}
use Rattle.std.proofs.lemmas.Bool.{both_ways}
use Rattle.value_text.specs.Machine.{Refuses, LeadsOn, is_closed, may_end}
use Rattle.value_text.proofs.Search.{Reached, at_start, one_more, bad_byte, is_text, cut_short}
use Rattle.value_text.proofs.spelling.first_bad.Goals.{else-is_empty-via-then-is_empty+else-may_end, else-is_empty-via-else-is_empty}
use Rattle.value_text.proofs.spelling.first_bad.Goals as goal

pub returns-in_default : goal.returns-in_default
returns-in_default c =
    let no : Refuses c.loop-i.mode c.loop-i.nest (get_or c.args.text.now c.loop-i.i 0) = search rules in
    bad_byte c.args.text.now c.loop-i.i c.loop-i.mode c.loop-i.nest (omega (arith, c.loop-i-test.true)) c.loop-i.invariant no

pub loop-i-preserved : goal.loop-i-preserved
loop-i-preserved c =
    let on : LeadsOn c.loop-i.mode c.loop-i.nest (get_or c.args.text.now c.loop-i.i 0) c.in-Some.reached c.advance.new.nest = search rules in
    one_more c.args.text.now c.loop-i.i c.loop-i.mode c.in-Some.reached c.loop-i.nest c.advance.new.nest (omega (arith, c.loop-i-test.true)) c.loop-i.invariant on

pub returns-then-may_end : goal.returns-then-may_end
returns-then-may_end c = is_text c.args.text.now c.loop-i.i c.loop-i.mode c.loop-i.nest (omega (arith, c.loop-i-test.false)) c.loop-i.invariant (sym c.is_empty.ensures ∙ c.if-is_empty.true) (sym c.may_end.ensures ∙ c.if-may_end.true)

pub returns : goal.returns
returns c = cut_short c.args.text.now c.loop-i.i c.loop-i.mode c.loop-i.nest (omega (arith, c.loop-i-test.false, c.loop-i.auto.i-end)) c.loop-i.invariant never
  where
    never : is_closed c.loop-i.nest ≡ true → may_end c.loop-i.mode ≡ true → ⊥
    never e f = elim c.else-is_empty.branch [
      | else-is_empty-via-then-is_empty+else-may_end w ↦ both_ways (may_end c.loop-i.mode) (sym w.may_end.ensures ∙ w.if-may_end.false) f
      | else-is_empty-via-else-is_empty w ↦ both_ways (is_closed c.loop-i.nest) (sym c.is_empty.ensures ∙ w.if-is_empty.false) e
    ]
