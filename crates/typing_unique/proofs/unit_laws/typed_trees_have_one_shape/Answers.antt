use Rattle.typing_unique.proofs.UBare.{one_shape_law}
use Rattle.typing_unique.proofs.unit_laws.typed_trees_have_one_shape.Goals as goal

pub returns : goal.returns
returns c = one_shape_law
