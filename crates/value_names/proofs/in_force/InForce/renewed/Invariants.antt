use Rattle.std.proofs.Common.{◌≡◌, ◌++◌, drop, map}
use Rattle.value_names.specs.Scopes.{place_in_loop}
use Rattle.value_names.proofs.in_force.InForce.renewed.Given as goal

abbrev pub invariant-loop-target : goal.invariant-loop-target
invariant-loop-target l = l.places ++ map (λ t. place_in_loop l.first t.name l.self) (drop l.target-index l.targets) ≡ map (λ t. place_in_loop l.first t.name l.self) l.targets
