-- Numbers and sizes that are kept up to a bound.
use Rattle.std.specs.Prelude.{◌≡◌, ℕ}
use Rattle.lowered_sizes.specs.declared.sizes.Sizes.{Sizes}
use Rattle.lowered_sizes.specs.Counting.{capped, capped_sizes}

-- the number that is kept for another
abbrev pub Keeps : ℕ → ℕ → Type 0
Keeps a n = a ≡ capped n

abbrev pub KeepsSizes : Sizes → Sizes → Type 0
KeepsSizes s x = s ≡ capped_sizes x
