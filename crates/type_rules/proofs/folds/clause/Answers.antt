use Rattle.std.proofs.Common.{sym, ◌∙◌}
use Rattle.type_rules.proofs.Filled.{clause_filled}
use Rattle.type_rules.proofs.folds.clause.Goals as goal

pub number_of-requires : goal.number_of-requires
number_of-requires c = clause_filled c.args.types.now c.args.kind c.args.value c.in-Some.folded (sym c.makes_of.ensures ∙ c.in-Some.is)
