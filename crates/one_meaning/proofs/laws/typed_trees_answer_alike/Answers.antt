use Rattle.one_meaning.proofs.Moved.{answers_moved}
use Rattle.one_meaning.proofs.laws.typed_trees_answer_alike.Goals as goal

pub returns : goal.returns
returns c = answers_moved c.typed_trees_have_one_shape.ensures c.a_unit_is_one_program.ensures c.a_unit_has_one_meaning.ensures
