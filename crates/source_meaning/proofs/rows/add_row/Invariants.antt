use Rattle.std.proofs.Common.{◌≡◌, drop}
use Rattle.meaning.specs.Rows.{cells_in, with_row}
use Rattle.source_meaning.specs.Loops.{with_cells_from}
use Rattle.source_meaning.proofs.rows.add_row.Given as goal

-- the clauses that have their values, with those that are still to have them, are all
abbrev pub invariant-loop-place : goal.invariant-loop-place
invariant-loop-place l =
    with_cells_from l.place l.clauses.items (cells_in (drop l.place l.forms) l.left)
    ≡ with_row l.forms l.initial.clauses.items l.initial.left
