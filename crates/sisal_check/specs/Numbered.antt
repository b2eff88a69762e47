-- The numbers of functions by their names.
use Rattle.std.specs.Prelude.{◌≡◌, ℕ, ◌<◌, List, Some}
use Rattle.name_scope.specs.Newest.{newest}

-- each is that of one of so many functions
pub record AreNumbered (numbers : List (ℕ × ℕ)) (count : ℕ) : Type 0 where
  pub below : (name number : ℕ) → newest name numbers ≡ Some number → number < count
