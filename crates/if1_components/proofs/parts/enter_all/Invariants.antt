use Rattle.std.proofs.Common.{◌≢◌, ℕ, ◌<◌, slice_index}
use Rattle.if1_components.specs.Parts.{AreSoFar}
use Rattle.if1_components.proofs.parts.enter_all.Given as goal

abbrev pub invariant-loop-root : goal.invariant-loop-root
invariant-loop-root l = AreSoFar l.lists l.numbers × ((x : ℕ) → x < l.root → slice_index l.numbers x ≢ 0)
