use Rattle.std.proofs.Common.{◌≡◌, ◌++◌, map, drop}
use Rattle.std.specs.Vec.Iter.{into_iter_items}
use Rattle.lowered_units.specs.Listed.{listing}
use Rattle.lowered_units.specs.Units.{function_listings}
use Rattle.unit_build.specs.Readiness.{AreReady}
use Rattle.unit_build.proofs.maker.Maker.graphs_of.Given as goal

abbrev pub invariant-loop-place : goal.invariant-loop-place
invariant-loop-place l = record {
  graphs :
      map listing l.graphs ++ function_listings l.self.program.now l.place l.number (drop l.place l.self.program.now.functions) (into_iter_items l.left)
      ≡ function_listings l.self.program.now 0 1 l.self.program.now.functions l.fn.lowered;
  ready : AreReady l.self.program.now l.number (into_iter_items l.left);
}
