use Rattle.lowered_ready.proofs.Programs.{obey-rules}
use Rattle.lowered_ready.proofs.rule_laws.lowered_graphs_obey_the_rules.Goals as goal

pub returns : goal.returns
returns c = obey-rules
