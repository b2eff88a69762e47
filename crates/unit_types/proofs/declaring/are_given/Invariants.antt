use Rattle.std.proofs.Common.{All, take}
use Rattle.unit_types.specs.Headings.{IsKept}
use Rattle.unit_types.proofs.declaring.are_given.Given as goal

-- the headers so far are those of their functions
abbrev pub invariant-loop-announced : goal.invariant-loop-announced
invariant-loop-announced l = All (λ a. IsKept l.declaring.numbers l.declaring.functions a.signature) (take l.announced-index l.declaring.announced)
