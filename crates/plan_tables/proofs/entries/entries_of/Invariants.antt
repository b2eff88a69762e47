use Rattle.std.proofs.Common.{◌≡◌, ℕ, ◌+◌, ◌≤◌, length, drop}
use Rattle.graph_meaning.specs.Entered.{IsIn}
use Rattle.plan_data.specs.Parts.{arms_steps, table_of}
use Rattle.plan_tables.specs.Above.{entry_at, tabled}
use Rattle.plan_tables.proofs.entries.entries_of.Given as goal

abbrev pub decreases-loop-place : goal.decreases-loop-place
decreases-loop-place l = l.place

abbrev pub invariant-loop-place : goal.invariant-loop-place
invariant-loop-place l =
    record {
      inside : l.place ≤ length l.functions;
      long : length l.entries ≡ length l.graphs;
      far : l.begin + arms_steps (tabled l.graphs l.sizes) (drop l.place l.functions) ≡ arms_steps (tabled l.graphs l.sizes) l.functions;
      right : (f : ℕ) → IsIn f (drop l.place l.functions) → table_of l.entries f ≡ entry_at (tabled l.graphs l.sizes) (drop l.place l.functions) l.begin f;
    }
