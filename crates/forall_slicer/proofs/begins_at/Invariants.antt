use Rattle.std.proofs.Common.{◌≡◌, ℕ, ◌<◌}
use Rattle.forall_slicer.specs.Slices.{cut_point}
use Rattle.forall_slicer.proofs.begins_at.Given as goal

-- no slice before this slice begins there
abbrev pub invariant-loop-slice : goal.invariant-loop-slice
invariant-loop-slice l = (j : ℕ) → j < l.slice → cut_point l.n l.most j ≡ l.place → ⊥
