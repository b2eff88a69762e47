use Rattle.std.proofs.Common.{◌≡◌, ℕ, List, length}
use Rattle.flow_value.specs.declared.value.Val.{Val}
use Rattle.meaning.specs.Meaning.{definitions}
use Rattle.source_meaning.specs.Pending.{Program}
use Rattle.source_meaning.proofs.finish.pending.Given as goal

-- the definitions that are left bring the same names as all
abbrev pub invariant-loop-def : goal.invariant-loop-def
invariant-loop-def l = (n : ℕ) (p : Program) (env : List Val) → definitions n p l.left env ≡ definitions n p l.defs env

abbrev pub decreases-loop-def : goal.decreases-loop-def
decreases-loop-def l = length l.left
