use Rattle.typing_unique.proofs.UBare.{one_renumbered_law}
use Rattle.typing_unique.proofs.unit_laws.typed_trees_are_one_where_numbers_agree.Goals as goal

pub returns : goal.returns
returns c = one_renumbered_law
