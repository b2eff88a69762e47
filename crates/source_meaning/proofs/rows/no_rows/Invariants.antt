use Rattle.std.proofs.Common.{◌≡◌, ◌++◌, drop}
use Rattle.meaning.specs.Rows.{no_rows}
use Rattle.source_meaning.proofs.rows.no_rows.Given as goal

abbrev pub invariant-loop-form : goal.invariant-loop-form
invariant-loop-form l = l.clauses.items ++ no_rows (drop l.form-index l.forms) ≡ no_rows l.forms
