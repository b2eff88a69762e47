use Rattle.std.proofs.Common.{◌≡◌, ℕ, ◌<◌, true, false, length, slice_index_or}
use Rattle.std.specs.List.Sorted.{IsStrictlyIncreasing}
use Rattle.if1_graph.specs.declared.graph.TypeEntry.{TypeEntry}
use Rattle.if1_read.specs.Spread.{is_holder}
use Rattle.if1_read.proofs.reals.next_holder.Given as goal

abbrev pub invariant-loop-place : goal.invariant-loop-place
invariant-loop-place l =
    IsStrictlyIncreasing l.labels → length l.marks ≡ length l.types →
    (k : ℕ) → k < l.place → (d : TypeEntry) → is_holder l.labels l.marks (slice_index_or l.marks k true) (slice_index_or l.types k d) ≡ false
