use Rattle.breaking_laws.proofs.PArms.{more_results}
use Rattle.breaking_laws.proofs.part_laws.more_arms_have_results.Goals as goal

pub returns : goal.returns
returns c = more_results
