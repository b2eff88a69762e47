use Rattle.std.proofs.Common.{◌≡◌, drop}
use Rattle.std.specs.List.{find}
use Rattle.unit_entry.specs.Entries.{is_of}
use Rattle.unit_entry.proofs.lacking.first_of.Given as goal

-- the functions that are left decide
abbrev pub invariant-loop-graph : goal.invariant-loop-graph
invariant-loop-graph l = find (is_of l.names) l.graphs ≡ find (is_of l.names) (drop l.graph-index l.graphs)
