use Rattle.sisal_grammar.proofs.Units.{spelled, derived}
use Rattle.sisal_grammar.proofs.law.table_spells.Goals as goal

pub returns-clause-spelled : goal.returns-clause-spelled
returns-clause-spelled c = spelled

pub returns-clause-derived : goal.returns-clause-derived
returns-clause-derived c = derived
