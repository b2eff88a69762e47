use Rattle.std.proofs.Common.{◌≡◌, drop}
use Rattle.if1_ports.specs.Outlines.{types_in}
use Rattle.if1_ports.specs.Simple.{has_bound}
use Rattle.if1_ports.proofs.simple.has_bound.Given as goal

abbrev pub invariant-loop-label : goal.invariant-loop-label
invariant-loop-label l = has_bound (types_in l.types) l.fed (drop l.label-index l.leaving) ≡ has_bound (types_in l.types) l.fed l.leaving
