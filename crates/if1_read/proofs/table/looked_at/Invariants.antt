use Rattle.std.proofs.Common.{◌≡◌, ℕ, ◌<◌, List, map, take, None, slice_index_or}
use Rattle.std.specs.List.Sorted.{IsStrictlyIncreasing}
use Rattle.if1_graph.specs.declared.graph.TypeEntry.{TypeEntry}
use Rattle.if1_read.specs.Entries.{entries_of, HasEntryTypes}
use Rattle.if1_read.specs.Least.{earlier, least}
use Rattle.if1_read.specs.Marks.{labels_in}
use Rattle.if1_read.specs.Rows.{wrong_entries}
use Rattle.if1_read.proofs.table.looked_at.Given as goal

abbrev pub invariant-loop-place : goal.invariant-loop-place
invariant-loop-place l = record {
  clean : l.first ≡ None → l.once.first ≡ None;
  types : l.first ≡ None → l.once.labels ≡ labels_in l.once.types → IsStrictlyIncreasing l.once.labels →
      (k : ℕ) → k < l.place → (d : TypeEntry) → HasEntryTypes l.once.types (slice_index_or l.once.types k d);
  found : (es : List (ℕ × TypeEntry)) → l.once.types ≡ entries_of es → l.once.lines ≡ map (λ e. e.0) es → l.once.labels ≡ labels_in l.once.types → IsStrictlyIncreasing l.once.labels →
      l.first ≡ earlier l.once.first (least (wrong_entries l.once.types (take l.place es)));
}
