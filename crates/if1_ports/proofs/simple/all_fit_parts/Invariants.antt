use Rattle.std.proofs.Common.{◌≡◌, drop}
use Rattle.std.specs.List.{list_all}
use Rattle.if1_ports.specs.Outlines.{types_in}
use Rattle.if1_ports.specs.Simple.{fits_parts}
use Rattle.if1_ports.proofs.simple.all_fit_parts.Given as goal

abbrev pub invariant-loop-label : goal.invariant-loop-label
invariant-loop-label l = list_all (λ t. fits_parts l.fed (types_in l.types t)) (drop l.label-index l.leaving) ≡ list_all (λ t. fits_parts l.fed (types_in l.types t)) l.leaving
