use Rattle.std.proofs.Common.{◌≡◌, drop}
use Rattle.type_rules.specs.Sequences.{all_are}
use Rattle.type_rules.proofs.sequences.all_are.Given as goal

-- the types that are left decide
abbrev pub invariant-loop-other : goal.invariant-loop-other
invariant-loop-other l = all_are l.ty l.others ≡ all_are l.ty (drop l.other-index l.others)
