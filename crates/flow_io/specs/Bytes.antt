-- The bytes that a source has left and those that a sink has taken. Either may be told or not.
use Rattle.std.specs.Prelude.{◌≡◌, ℕ, List, [], ◌++◌, Option, Some}

-- where the bytes that were left are told, these were taken off their front
abbrev pub TakesOff : Option (List ℕ) → List ℕ → Option (List ℕ) → Type 0
TakesOff before bytes after = (told : List ℕ) → before ≡ Some told → (rest : List ℕ) × (told ≡ bytes ++ rest) × (after ≡ Some rest)

-- where the bytes that are left are told, there are none
abbrev pub IsAtEnd : Option (List ℕ) → Type 0
IsAtEnd left = (told : List ℕ) → left ≡ Some told → told ≡ []

-- where the bytes that were taken are told, these came behind them
abbrev pub AddsOn : Option (List ℕ) → List ℕ → Option (List ℕ) → Type 0
AddsOn before bytes after = (told : List ℕ) → before ≡ Some told → after ≡ Some (told ++ bytes)
