use Rattle.std.proofs.Common.{List, map, drop}
use Rattle.lowering.specs.declared.feed.Wire.{Wire}
use Rattle.lowering.specs.Operations.{all_lowered}
use Rattle.lowering.specs.Programs.{stub}
use Rattle.lower_nodes.proofs.Walks.{Going}
use Rattle.lowered_functions.proofs.functions.stubs.Given as goal

abbrev pub invariant-loop-place : goal.invariant-loop-place
invariant-loop-place l = (env : List Wire) → Going (all_lowered (map stub l.types) env) (all_lowered (map stub (drop l.place l.types)) env) l.fn.made l.made l.values
