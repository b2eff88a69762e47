use Rattle.if1_marks.proofs.Consumed.{consumed-where-given}
use Rattle.if1_marks.proofs.laws.compound_nodes_consume_what_is_given.Goals as goal

pub returns : goal.returns
returns c = consumed-where-given
