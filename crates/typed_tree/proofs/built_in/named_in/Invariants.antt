use Rattle.std.proofs.Common.{◌≡◌, map, drop}
use Rattle.sisal_tree.specs.Words.{beside, plain_row}
use Rattle.typed_tree.proofs.built_in.named_in.Given as goal

-- the rows that are left decide
abbrev pub invariant-loop-row : goal.invariant-loop-row
invariant-loop-row l = beside l.name (map plain_row l.table) ≡ beside l.name (map plain_row (drop l.row-index l.table))
