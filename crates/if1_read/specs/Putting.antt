-- A line among those that were sorted out.
use Rattle.std.specs.Prelude.{◌≡◌, false, All, ℕ, suc, ◌≤◌, List, [], ◌∷◌, ◌++◌, filter, length, map, Option, Some}
use Rattle.if1_graph.specs.declared.line.Line.{Line}
use Rattle.if1_graph.specs.declared.graph.TypeEntry.{TypeEntry}
use Rattle.if1_graph.specs.Formed.{most}
use Rattle.if1_graph.specs.Reads.{entries_in, is_of_graph}
use Rattle.if1_read.specs.declared.read.Sorted.{Sorted}
use Rattle.if1_read.specs.Faults.{numbered, is_unlabelled}
use Rattle.if1_read.specs.Least.{earlier, least}
use Rattle.if1_read.specs.Rows.{row_faults, typed}
use Rattle.if1_read.specs.Sorting.{SortsOut}

-- the line reads, and its type or what it says of graphs stands behind those before it
pub record IsPut (o : Option Line) (es fs : List TypeEntry) (gs hs : List Line) : Type 0 where
  pub line : Line
  pub is : o ≡ Some line
  pub labelled : is_unlabelled line ≡ false
  pub entries : fs ≡ es ++ entries_in (line ∷ [])
  pub few : length es ≤ most → length fs ≤ most
  pub lines : hs ≡ gs ++ filter is_of_graph (line ∷ [])

-- every line reads, and is sorted out
pub record AreSorted (os : List (Option Line)) (es : List TypeEntry) (gs : List Line) : Type 0 where
  pub lines : List Line
  pub are : os ≡ map (λ l. Some l) lines
  pub labelled : All (λ l. is_unlabelled l ≡ false) lines
  pub sorts : SortsOut lines es gs

-- What was sorted out when a line is, whose number is this one: the faults, the types and the lines of graphs, each with
-- what is to come, are as before.
pub record SortsOn (n : ℕ) (line : Option Line) (before after : Sorted) : Type 0 where
  pub first : (rest : List (Option Line)) →
      earlier after.first (least (row_faults (suc n) (length after.entries.items) rest)) ≡ earlier before.first (least (row_faults n (length before.entries.items) (line ∷ rest)))
  pub entries : (rest : List (Option Line)) → after.entries.items ++ typed (numbered (suc n) rest) ≡ before.entries.items ++ typed (numbered n (line ∷ rest))
  pub lines : (rest : List (Option Line)) →
      after.lines.items ++ filter (λ l. is_of_graph l.1) (numbered (suc n) rest) ≡ before.lines.items ++ filter (λ l. is_of_graph l.1) (numbered n (line ∷ rest))

-- the same of all lines
pub record AreSortedOut (rows : List (Option Line)) (s : Sorted) : Type 0 where
  pub first : s.first ≡ least (row_faults 1 0 rows)
  pub entries : s.entries.items ≡ typed (numbered 1 rows)
  pub lines : s.lines.items ≡ filter (λ l. is_of_graph l.1) (numbered 1 rows)
