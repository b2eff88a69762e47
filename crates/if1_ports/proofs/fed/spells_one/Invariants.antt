use Rattle.std.proofs.Common.{◌≡◌, drop}
use Rattle.if1_ports.specs.Fed.{spells_from, spells_one}
use Rattle.if1_ports.proofs.fed.spells_one.Given as goal

abbrev pub invariant-loop-c : goal.invariant-loop-c
invariant-loop-c l = spells_from l.one (drop l.c-index l.text) ≡ spells_one l.text
