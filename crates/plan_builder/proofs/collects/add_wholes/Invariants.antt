use Rattle.std.proofs.Common.{◌≡◌, ◌++◌, drop}
use Rattle.plan_builder.specs.Collects.{wholes_of}
use Rattle.plan_builder.proofs.collects.add_wholes.Given as goal

abbrev pub invariant-loop-port : goal.invariant-loop-port
invariant-loop-port l = l.collects ++ wholes_of l.plain (drop l.port-index l.ins) ≡ l.initial.collects ++ wholes_of l.plain l.ins
