use Rattle.value_text.proofs.Search.{Reached}
use Rattle.value_text.proofs.spelling.first_bad.Given as goal

abbrev pub invariant-loop-i : goal.invariant-loop-i
invariant-loop-i l = Reached l.text l.i l.mode l.nest
