use Rattle.std.proofs.Common.{sym, ◌∙◌}
use Rattle.type_rules.proofs.Filled.{has_member}
use Rattle.type_rules.proofs.applying.apply.Goals as goal

pub number_of-requires : goal.number_of-requires
number_of-requires c =
    has_member c.args.types.now c.args.head c.args.operands.now c.in-Some.outcome c.requires (sym c.in_ok-outcome.ensures ∙ c.in-Some.is)
