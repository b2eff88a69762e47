use Rattle.unit_laws.proofs.AlikeRuns.{alike-meant}
use Rattle.unit_laws.proofs.laws.alike_units_mean_the_same.Goals as goal

pub returns : goal.returns
returns c = alike-meant
