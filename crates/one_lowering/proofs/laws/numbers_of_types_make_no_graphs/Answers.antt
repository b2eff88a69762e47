use Rattle.one_lowering.proofs.Programs.{numbers-nothing}
use Rattle.one_lowering.proofs.laws.numbers_of_types_make_no_graphs.Goals as goal

pub returns : goal.returns
returns c = numbers-nothing
