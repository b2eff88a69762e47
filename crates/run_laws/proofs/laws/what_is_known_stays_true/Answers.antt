use Rattle.run_laws.proofs.Facts.{stays-known}
use Rattle.run_laws.proofs.laws.what_is_known_stays_true.Goals as goal

pub returns : goal.returns
returns c = stays-known
