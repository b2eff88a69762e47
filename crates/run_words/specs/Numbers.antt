-- Numbers of words.
use Rattle.std.specs.Prelude.{ℕ, Bool, false, List, [], ◌∷◌}
use Rattle.std.specs.Char.{is_ascii_digit}
use Rattle.std.specs.List.{list_all}
use Rattle.std.specs.Str.Parse.{digits_value}

-- one decimal digit or more
abbrev pub is_numeral : List ℕ → Bool
is_numeral [] = false
is_numeral (digit ∷ digits) = list_all is_ascii_digit (digit ∷ digits)

-- the number of a numeral
abbrev pub number_of : List ℕ → ℕ
number_of word = digits_value 10 word
