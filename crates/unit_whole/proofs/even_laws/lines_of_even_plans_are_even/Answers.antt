use Rattle.unit_whole.proofs.Lines.{lines-even}
use Rattle.unit_whole.proofs.even_laws.lines_of_even_plans_are_even.Goals as goal

pub returns : goal.returns
returns c = lines-even
