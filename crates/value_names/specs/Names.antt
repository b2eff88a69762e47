-- The names that are in force at a place of a function.
use Rattle.std.specs.Prelude.{ℕ, List}
use Rattle.value_names.specs.declared.value.Meaning.{Meaning}
use Rattle.value_names.specs.declared.value.Value.{Value}

pub record Names : Type 0 where
  -- the names, the newest first
  pub names : List (ℕ × Meaning)
  -- the loop names before which `old` may stand, those of the innermost loop first
  pub olds : List (ℕ × Value)
  -- how many levels are in use
  pub height : ℕ
