use Rattle.std.proofs.Common.{◌≡◌, drop, nat_lt}
use Rattle.std.specs.List.{list_all}
use Rattle.if1_ports.proofs.compound.are_below.Given as goal

abbrev pub invariant-loop-arm : goal.invariant-loop-arm
invariant-loop-arm l = list_all (λ arm. nat_lt arm l.bound) (drop l.arm-index l.list) ≡ list_all (λ arm. nat_lt arm l.bound) l.list
