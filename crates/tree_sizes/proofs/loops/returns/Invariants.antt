use Rattle.std.proofs.Common.{◌≡◌, ℕ, ◌*◌, ◌-◌, ◌≤◌, drop}
use Rattle.lowered_sizes.specs.declared.sizes.Sizes.{Sizes}
use Rattle.lowered_sizes.specs.Counting.{beside, capped}
use Rattle.lowered_sizes.specs.Forms.{returns_sized}
use Rattle.tree_sizes.specs.Capped.{Keeps, KeepsSizes}
use Rattle.tree_sizes.proofs.loops.returns.Given as goal

-- the clauses so far have sizes and took so many multiples, and those that are left decide the whole
abbrev pub invariant-loop-form : goal.invariant-loop-form
invariant-loop-form l =
    (m k : ℕ) → Keeps l.multiples m → Keeps l.types k
    → (s : Sizes) × (b : ℕ) × KeepsSizes l.all s × (b ≤ 2 * l.form-index) × (l.left ≡ capped m - b) × (l.others ≡ capped k - l.form-index)
    × (returns_sized l.is_limit l.clauses m k ≡ beside s (returns_sized l.is_limit (drop l.form-index l.clauses) (m - b) (k - l.form-index)))
