use Rattle.run_code.proofs.Collecting.{clauses-stand}
use Rattle.run_code.proofs.laws.clauses_stand_for_collections.Goals as goal

pub returns : goal.returns
returns c = clauses-stand
