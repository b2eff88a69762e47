use Rattle.std.proofs.Common.{◌≡◌, ℕ, ◌+◌, ◌-◌, ◌^◌, ◌≤◌, length, drop, slice_index, Contains}
use Rattle.plan_builder.specs.Outlets.{cells_of, start_of}
use Rattle.plan_builder.proofs.outlets.starts_of.Given as goal

abbrev pub decreases-loop-index : goal.decreases-loop-index
decreases-loop-index l = l.index

abbrev pub invariant-loop-index : goal.invariant-loop-index
invariant-loop-index l =
    record {
      inside : l.index ≤ length l.order;
      long : length l.starts ≡ length l.widths;
      most : cells_of l.widths l.order ≤ 2 ^ 32 - 1;
      far : l.begin + cells_of l.widths (drop l.index l.order) ≡ cells_of l.widths l.order;
      right : (k : ℕ) → Contains (drop l.index l.order) k → slice_index l.starts k ≡ l.begin + start_of l.widths (drop l.index l.order) k;
    }
