use Rattle.std.proofs.Common.{◌≡◌, ◌-◌, drop, length}
use Rattle.value_text.specs.Tokens.{past_blanks}
use Rattle.value_text.proofs.token.skip.Given as goal

abbrev pub invariant-loop-at : goal.invariant-loop-at
invariant-loop-at l = past_blanks (drop l.fn.from l.text) ≡ past_blanks (drop l.at l.text)

abbrev pub decreases-loop-at : goal.decreases-loop-at
decreases-loop-at l = length l.text - l.at
