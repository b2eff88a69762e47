use Rattle.std.proofs.Common.{◌≡◌, ℕ, drop}
use Rattle.lowered_sizes.specs.Programs.{sizes_over}
use Rattle.tree_sizes.specs.Capped.{Keeps}
use Rattle.tree_sizes.proofs.program.over.Given as goal

-- the graphs and ports so far are counted, and the functions that are left decide the whole
abbrev pub invariant-loop-function : goal.invariant-loop-function
invariant-loop-function l =
    (p : ℕ) → Keeps l.ports p
    → (g : ℕ) × (q : ℕ) × Keeps l.graphs g × Keeps l.all q × (sizes_over l.types l.functions 0 p ≡ sizes_over l.types (drop l.function-index l.functions) g q)
