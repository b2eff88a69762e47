-- Parts by their places in a line, and what was read up to a place.
use Rattle.std.specs.Prelude.{ℕ, ◌≤◌, Bool, true, false, not, ◌==◌, List, [], ◌∷◌, ◌++◌, drop, slice_range, Option, Some, None}
use Rattle.if1_graph.specs.LineParts.{is_blank, Part, Word, Quoted, Broken, parts_of}
use Rattle.if1_graph.specs.declared.line_part.PartAt.{PartAt}
use Rattle.if1_graph.specs.declared.line_part.PartAt.TheVariants as at

abbrev pub is_in_word : ℕ → Bool
is_in_word c = not (is_blank c)

abbrev pub is_in_quotes : ℕ → Bool
is_in_quotes c = not (c == 34)

-- a quote that closes is followed by a blank or the end
abbrev pub is_part_end : List ℕ → Bool
is_part_end [] = true
is_part_end (c ∷ s) = is_blank c

abbrev pub part_at : List ℕ → PartAt → Part
part_at line (at.Word first end) = Word (slice_range line first end)
part_at line (at.Quoted first end) = Quoted (slice_range line first end)
part_at line at.Broken = Broken

-- the places of a part are in order, within a line of this length
abbrev pub IsWithin : ℕ → PartAt → Type 0
IsWithin n (at.Word first end) = (first ≤ end) × (end ≤ n)
IsWithin n (at.Quoted first end) = (first ≤ end) × (end ≤ n)
IsWithin n at.Broken = Unit {0}

-- a part, and the parts behind it
abbrev pub from_part : List ℕ → Option (PartAt × ℕ) → List Part
from_part line None = []
from_part line (Some p) = part_at line p.0 ∷ parts_of (drop p.1 line)

-- what was read up to a place, and the parts from there on
abbrev pub placed : {A : Type 0} → List ℕ → Option (A × ℕ) → Option (A × List Part)
placed line None = None
placed line (Some p) = Some (p.0, parts_of (drop p.1 line))

-- what was read before, with what is read behind it
abbrev pub added : List ℕ → Option (List ℕ) → Option (List ℕ)
added got None = None
added got (Some more) = Some (got ++ more)

abbrev pub behind : List ℕ → Option (List ℕ × List Part) → Option (List ℕ × List Part)
behind got None = None
behind got (Some r) = Some (got ++ r.0, r.1)

-- what a list became, where that was no fault
abbrev pub became : {A : Type 0} → Bool → A → Option A
became true new = Some new
became false new = None

-- the bytes before a comma, 44
abbrev pub is_in_piece : ℕ → Bool
is_in_piece c = not (c == 44)
