use Rattle.type_rules.proofs.Clauses as by_type
use Rattle.type_rules.proofs.laws.clauses_by_type.Goals as goal

pub returns : goal.returns
returns c = by_type.clauses_by_type
