use Rattle.answer_laws.proofs.Graphs.{graphs_once}
use Rattle.answer_laws.proofs.laws.graphs_answer_once.Goals as goal

pub returns : goal.returns
returns c = graphs_once c.a_program_is_one_unit.ensures c.a_program_has_one_text.ensures
