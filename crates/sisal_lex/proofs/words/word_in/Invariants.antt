use Rattle.std.proofs.Common.{◌≡◌, map, drop}
use Rattle.sisal_lex.specs.Words.{beside, plain_row}
use Rattle.sisal_lex.proofs.words.word_in.Given as goal

-- the rows that are left decide
abbrev pub invariant-loop-row : goal.invariant-loop-row
invariant-loop-row l = beside l.spelling (map plain_row l.table) ≡ beside l.spelling (map plain_row (drop l.row-index l.table))
