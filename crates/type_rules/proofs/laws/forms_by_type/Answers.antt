use Rattle.type_rules.proofs.Forming as by_type
use Rattle.type_rules.proofs.laws.forms_by_type.Goals as goal

pub returns : goal.returns
returns c = by_type.forms_by_type
