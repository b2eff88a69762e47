use Rattle.one_lowering.proofs.Units.{one_lowering}
use Rattle.one_lowering.proofs.laws.typed_trees_are_lowered_alike.Goals as goal

pub returns : goal.returns
returns c = one_lowering c.typed_trees_are_one_where_numbers_agree.ensures c.numbers_of_types_make_no_graphs.ensures
