use Rattle.std.proofs.Common.{subst}
use Rattle.type_rules.specs.Applies.{IsFilled}
use Rattle.type_rules.proofs.applying.number_of.Goals as goal

pub number_made-requires-clause-members : goal.number_made-requires-clause-members
number_made-requires-clause-members c = (subst IsFilled c.in-Made.is c.requires).0

pub number_made-requires-clause-few : goal.number_made-requires-clause-few
number_made-requires-clause-few c = (subst IsFilled c.in-Made.is c.requires).1
