use Rattle.std.proofs.Common.{◌≡◌, ◌≤◌, ℕ, List, drop, bytes_eq}
use Rattle.std.specs.List.{list_any}
use Rattle.if1_read.specs.Sorting.{named_in, has_name}
use Rattle.if1_read.specs.Stands.{lines_of}
use Rattle.if1_read.proofs.Naming.{given_named}
use Rattle.if1_read.proofs.read.names_in.Given as goal

abbrev pub invariant-loop-line : goal.invariant-loop-line
invariant-loop-line l = record {
  named : (t : List ℕ) → named_in t l.spot (list_any (λ n. bytes_eq n t) l.names) (lines_of (drop l.line-index l.lines)) ≡ has_name t (lines_of l.lines);
  shallow : l.spot.depth ≤ l.line-index;
}
