use Rattle.if1_marks.proofs.Taken.{taken-once}
use Rattle.if1_marks.proofs.laws.no_port_is_taken_twice.Goals as goal

pub returns : goal.returns
returns c = taken-once
