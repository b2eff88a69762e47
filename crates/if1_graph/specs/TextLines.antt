-- The lines of a text. A line feed, 10, ends each, with a carriage return, 13, before it or not; the last one may do
-- without, and then keeps its carriage return.
use Rattle.std.specs.Prelude.{ℕ, Bool, not, ◌==◌, List, [], ◌∷◌, ◌++◌, if◌then◌else◌}

abbrev pub is_in_line : ℕ → Bool
is_in_line c = not (c == 10)

-- a line without the carriage return at its end
abbrev pub without_return : List ℕ → List ℕ
without_return [] = []
without_return (c ∷ []) = if c == 13 then [] else c ∷ []
without_return (c ∷ d ∷ s) = c ∷ without_return (d ∷ s)

-- what stands behind the last line feed
abbrev pub last_line : List ℕ → List (List ℕ)
last_line [] = []
last_line (c ∷ w) = (c ∷ w) ∷ []

-- the lines of a text of which the first begins with these bytes
abbrev pub lines_from : List ℕ → List ℕ → List (List ℕ)
lines_from w [] = last_line w
lines_from w (c ∷ s) = if c == 10 then without_return w ∷ lines_from [] s else lines_from (w ++ c ∷ []) s

abbrev pub lines_in : List ℕ → List (List ℕ)
lines_in text = lines_from [] text
