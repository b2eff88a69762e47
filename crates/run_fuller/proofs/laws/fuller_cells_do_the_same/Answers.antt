use Rattle.run_fuller.proofs.Same.{do-the-same}
use Rattle.run_fuller.proofs.laws.fuller_cells_do_the_same.Goals as goal

pub returns : goal.returns
returns c = do-the-same
