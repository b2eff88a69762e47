use Rattle.if1_marks.proofs.Unmarked.{marks-not-looked-at}
use Rattle.if1_marks.proofs.laws.the_rules_look_at_no_marks.Goals as goal

pub returns : goal.returns
returns c = marks-not-looked-at
