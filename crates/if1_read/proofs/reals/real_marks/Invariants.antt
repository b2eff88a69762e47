use Rattle.std.proofs.Common.{◌≡◌, map, take}
use Rattle.if1_read.specs.Marks.{is_real_type}
use Rattle.if1_read.proofs.reals.real_marks.Given as goal

abbrev pub invariant-loop-entry : goal.invariant-loop-entry
invariant-loop-entry l = l.marks ≡ map is_real_type (take l.entry-index l.types)
