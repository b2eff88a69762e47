use Rattle.std.proofs.Common.{◌≡◌, map, take}
use Rattle.flow_value.specs.declared.value.Val.TheVariants as val
use Rattle.sequential_fire.proofs.given.characters.Given as goal

abbrev pub invariant-loop-c : goal.invariant-loop-c
invariant-loop-c l = l.items ≡ map val.Char (take l.c-index l.text)
