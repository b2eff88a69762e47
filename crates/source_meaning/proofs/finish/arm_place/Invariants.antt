use Rattle.std.proofs.Common.{◌≡◌, drop}
use Rattle.meaning.specs.Meaning.{arm_place}
use Rattle.source_meaning.proofs.finish.arm_place.Given as goal

-- the choices that are left decide
abbrev pub invariant-loop-choice : goal.invariant-loop-choice
invariant-loop-choice l = arm_place (drop l.choice-index l.choices) l.others l.tag ≡ arm_place l.choices l.others l.tag
