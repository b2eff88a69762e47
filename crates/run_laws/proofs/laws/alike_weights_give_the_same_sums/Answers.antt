use Rattle.run_laws.proofs.Weighing.{same-totals}
use Rattle.run_laws.proofs.laws.alike_weights_give_the_same_sums.Goals as goal

pub returns : goal.returns
returns c = same-totals
