use Rattle.std.proofs.Common.{length, ◌-◌, ◌≡◌, ◌≤◌, drop}
use Rattle.sisal_lex.specs.Quotes.{items}
use Rattle.sisal_lex.proofs.Grown.{grown}
use Rattle.sisal_lex.proofs.quotes.text_in_quotes.Given as goal

-- the bytes that are left decide
abbrev pub invariant-loop-at : goal.invariant-loop-at
invariant-loop-at l = (l.at ≤ length l.text) × (items l.text 0 ≡ grown l.codes l.at (items (drop l.at l.text) 0))

abbrev pub decreases-loop-at : goal.decreases-loop-at
decreases-loop-at l = length l.text - l.at
