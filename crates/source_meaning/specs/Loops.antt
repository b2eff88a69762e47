-- What loops do with names and clauses.
use Rattle.std.specs.Prelude.{ℕ, List, ◌++◌, Option, take, drop}
use Rattle.flow_value.specs.declared.value.Val.{Val}
use Rattle.loop_folds.specs.Clauses.{ClauseCells, Cell}
use Rattle.meaning.specs.Rows.{with_cells}
use Rattle.meaning.specs.Meaning.{renew}

-- The names after a turn, by those that its names renew: so many stand around the loop, so many with the loop names, and behind
-- these the names of the turn.
abbrev pub renewal : List (Option ℕ) → ℕ → ℕ → List Val → List Val
renewal renewed mark height names = take mark names ++ renew renewed (drop height names) (drop mark (take height names))

-- cells are added to the clauses from a place on
abbrev pub with_cells_from : ℕ → List ClauseCells → List Cell → List ClauseCells
with_cells_from place fs cells = take place fs ++ with_cells (drop place fs) cells
