use Rattle.one_meaning.proofs.Bared.{one_meaning}
use Rattle.one_meaning.proofs.laws.a_unit_has_one_meaning.Goals as goal

pub returns : goal.returns
returns c = one_meaning c.typed_trees_have_one_shape.ensures
