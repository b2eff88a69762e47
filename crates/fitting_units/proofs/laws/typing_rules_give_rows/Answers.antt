use Rattle.fitting_units.proofs.Tables.{prefix_row, operands_row, convert_row, built_in_row, makes_folding}
use Rattle.fitting_units.proofs.laws.typing_rules_give_rows.Goals as goal

pub returns : goal.returns
returns c = record { prefixes = prefix_row; operators = operands_row; conversions = convert_row; calls = built_in_row; clauses = makes_folding }
