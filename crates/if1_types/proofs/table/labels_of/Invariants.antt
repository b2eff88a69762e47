use Rattle.std.proofs.Common.{◌≡◌, ◌++◌, drop}
use Rattle.if1_types.specs.Tables.{labels_in}
use Rattle.if1_types.proofs.table.labels_of.Given as goal

abbrev pub invariant-loop-entry : goal.invariant-loop-entry
invariant-loop-entry l = l.found ++ labels_in (drop l.entry-index l.types) ≡ labels_in l.types
