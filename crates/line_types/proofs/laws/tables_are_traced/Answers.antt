use Rattle.line_types.proofs.Programs.{is-traced}
use Rattle.line_types.proofs.laws.tables_are_traced.Goals as goal

pub returns : goal.returns
returns c = is-traced
