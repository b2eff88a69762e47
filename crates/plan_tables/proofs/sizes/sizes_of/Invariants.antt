use Rattle.std.proofs.Common.{◌≡◌, ℕ, ◌≤◌, length, slice_get}
use Rattle.plan_data.specs.Parts.{nodes_steps, nodes_of, table_of}
use Rattle.plan_tables.specs.Above.{tabled}
use Rattle.plan_tables.proofs.sizes.sizes_of.Given as goal

abbrev pub decreases-loop-graph : goal.decreases-loop-graph
decreases-loop-graph l = l.graph

abbrev pub invariant-loop-graph : goal.invariant-loop-graph
invariant-loop-graph l =
    record {
      inside : l.graph ≤ length l.graphs;
      long : length l.sizes ≡ length l.graphs;
      right : (k : ℕ) → l.graph ≤ k → table_of l.sizes k ≡ nodes_steps (tabled l.graphs l.sizes) (nodes_of (slice_get l.graphs k));
    }
