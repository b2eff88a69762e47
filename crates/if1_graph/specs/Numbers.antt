-- Numbers of a line: rows of decimal digits, leading zeros among them, of at most 4,294,967,295 (M-170, text form).
use Rattle.std.specs.Prelude.{ℕ, ◌+◌, ◌-◌, ◌*◌, Bool, false, ◌==◌, nat_le, List, [], ◌∷◌, ◌++◌, fold, option_map, Option, Some, None, if◌then◌else◌}
use Rattle.std.specs.Char.{is_ascii_digit}
use Rattle.std.specs.List.{list_all}
use Rattle.if1_graph.specs.LineParts.{◌>>=◌, Part, word_of}

-- one digit or more
abbrev pub is_row : List ℕ → Bool
is_row [] = false
is_row (d ∷ ds) = list_all is_ascii_digit (d ∷ ds)

abbrev pub row_value : List ℕ → ℕ
row_value ds = fold (λ n d. 10 * n + (d - 48)) 0 ds

abbrev pub in_32_bits : ℕ → Option ℕ
in_32_bits n = if nat_le n 4294967295 then Some n else None

abbrev pub at_least : ℕ → ℕ → Option ℕ
at_least least n = if nat_le least n then Some n else None

-- the number, at least this, that a word spells
abbrev pub numeral : ℕ → List ℕ → Option ℕ
numeral least w = if is_row w then in_32_bits (row_value w) >>= at_least least else None

-- the numbers that the words of a list spell
abbrev pub numerals : ℕ → List (List ℕ) → Option (List ℕ)
numerals least [] = Some []
numerals least (w ∷ ws) = numeral least w >>= λ n. option_map (λ ns. n ∷ ns) (numerals least ws)

-- the pieces of a text between its commas, 44, of which the first begins with these bytes
abbrev pub pieces : List ℕ → List ℕ → List (List ℕ)
pieces w [] = w ∷ []
pieces w (c ∷ s) = if c == 44 then w ∷ pieces [] s else pieces (w ++ c ∷ []) s

-- the numbers of a list with commas, each at least this
abbrev pub number_list : ℕ → List ℕ → Option (List ℕ)
number_list least text = numerals least (pieces [] text)

-- a number put at its place in a rising list, once
abbrev pub placed_in : ℕ → List ℕ → List ℕ
placed_in n [] = n ∷ []
placed_in n (m ∷ ms) = if nat_le m n then (if m == n then m ∷ ms else m ∷ placed_in n ms) else n ∷ m ∷ ms

-- the numbers of a list, each once, from the least to the greatest
abbrev pub rising : List ℕ → List ℕ
rising [] = []
rising (n ∷ ns) = placed_in n (rising ns)

-- the number at the front of these parts, and the parts behind it
abbrev pub number_first : ℕ → List Part → Option (ℕ × List Part)
number_first least [] = None
number_first least (p ∷ ps) = option_map (λ n. (n, ps)) (numeral least (word_of p))
