use Rattle.std.proofs.Common.{◌≡◌, drop}
use Rattle.std.specs.List.{find}
use Rattle.unit_entry.specs.Entries.{is_called}
use Rattle.unit_entry.proofs.find.entry.Given as goal

-- the functions that are left decide
abbrev pub invariant-loop-graph : goal.invariant-loop-graph
invariant-loop-graph l = find (is_called l.word) l.unit.graphs ≡ find (is_called l.word) (drop l.graph-index l.unit.graphs)
