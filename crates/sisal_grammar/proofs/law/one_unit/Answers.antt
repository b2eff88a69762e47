use Rattle.sisal_grammar.proofs.Units.{one_unit}
use Rattle.sisal_grammar.proofs.law.one_unit.Goals as goal

pub returns : goal.returns
returns c = one_unit c.tables-tables.result c.tables-tables.ensures.right c.tables-tables.ensures.grammar c.tables-tables.ensures.starts
