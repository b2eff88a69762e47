use Rattle.line_types.proofs.Programs.{lines-traced}
use Rattle.line_types.proofs.laws.lines_are_traced.Goals as goal

pub returns : goal.returns
returns c = lines-traced
