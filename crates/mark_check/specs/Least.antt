-- The least number that has a property, if there is one.
use Rattle.std.specs.Prelude.{ℕ, ◌≤◌, min, List, Option, Some, None, MatchOption, Contains}

pub record IsLeastOf (P : ℕ → Type 0) (l : ℕ) : Type 0 where
  pub holds : P l
  pub least : (m : ℕ) → P m → l ≤ m

abbrev pub IsLeast : (ℕ → Type 0) → Option ℕ → Type 0
IsLeast P r = MatchOption r ((m : ℕ) → ¬ P m) (IsLeastOf P)

-- the lesser of two numbers that may be missing
abbrev pub lesser_of : Option ℕ → Option ℕ → Option ℕ
lesser_of None r = r
lesser_of (Some a) None = Some a
lesser_of (Some a) (Some b) = Some (min a b)

-- a member of a list that has a property
abbrev pub IsAmong : List ℕ → (ℕ → Type 0) → ℕ → Type 0
IsAmong ls P l = Contains ls l × P l
