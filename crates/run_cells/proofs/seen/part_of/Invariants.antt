use Rattle.std.proofs.Common.{◌≡◌, drop}
use Rattle.run_cells.specs.Sights.{seen_value, seen_from}
use Rattle.run_cells.proofs.seen.part_of.Given as goal

abbrev pub invariant-loop-part : goal.invariant-loop-part
invariant-loop-part l = seen_from (seen_value l.reached) (drop l.part-index l.parts) ≡ seen_from (seen_value l.fn.seen) l.parts
