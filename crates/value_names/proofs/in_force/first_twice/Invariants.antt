use Rattle.std.proofs.Common.{◌≡◌, drop}
use Rattle.value_names.specs.Scopes.{twice_in, twice_onto}
use Rattle.value_names.proofs.in_force.first_twice.Given as goal

-- what is still to be read decides the whole
abbrev pub invariant-loop-named : goal.invariant-loop-named
invariant-loop-named l = twice_onto l.listed (drop l.named-index l.names) ≡ twice_in l.names
