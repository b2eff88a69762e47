use Rattle.if1_marks.proofs.Consumed.{given-by-edge}
use Rattle.if1_marks.proofs.laws.given_inputs_have_a_consuming_edge.Goals as goal

pub returns : goal.returns
returns c = given-by-edge
