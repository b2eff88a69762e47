-- The lines of a text by what they say.
use Rattle.std.specs.Prelude.{◌≡◌, ◌≤◌, ◌||◌, ℕ, suc, ◌-◌, ◌==◌, Bool, true, false, if◌then◌else◌, List, [], ◌∷◌, filter, length, bytes_eq, Option, Some}
use Rattle.if1_graph.specs.declared.line.Line.{Line}
use Rattle.if1_graph.specs.declared.line.Line.TheVariants as line
use Rattle.if1_graph.specs.Spelling.{IsSpelled}
use Rattle.if1_graph.specs.declared.graph.TypeEntry.{TypeEntry}
use Rattle.if1_graph.specs.Formed.{most}
use Rattle.if1_graph.specs.Reads.{entries_in, is_of_graph}
use Rattle.if1_read.specs.declared.read.Spot.{Spot}

-- the types and the lines of graphs, in their order
pub record SortsOut (ls : List Line) (es : List TypeEntry) (gs : List Line) : Type 0 where
  pub entries : es ≡ entries_in ls
  pub few : length (entries_in ls) ≤ most
  pub lines : gs ≡ filter is_of_graph ls

-- a line that reads has a spelling
abbrev pub IsSpelledLine : Option Line → Type 0
IsSpelledLine o = (l : Line) → o ≡ Some l → IsSpelled l

-- whether a function of the unit has this name, or another one was known
abbrev pub with_name : List ℕ → Spot → Bool → Line → Bool
with_name t s known (line.Function exported fun name) = if s.depth == 0 then known || bytes_eq name t else known
with_name t s known _ = known

-- where the next line stands, as the layers of lines say it
abbrev pub spot_next : Line → Spot → Spot
spot_next (line.Function exported fun name) s = if s.depth == 0 then record { depth = s.depth; reading = true } else s
spot_next (line.Import ty name) s = if s.depth == 0 then record { depth = s.depth; reading = false } else s
spot_next (line.Subgraph name) s = if s.depth == 0 then s else record { depth = s.depth; reading = true }
spot_next (line.Open rest) s = if s.reading then record { depth = suc s.depth; reading = false } else s
spot_next (line.Close label op count assoc before name) s = if s.depth == 0 then s else record { depth = s.depth - 1; reading = true }
spot_next _ s = s

-- whether a function of the unit has this name, by lines from this spot on
abbrev pub named_in : List ℕ → Spot → Bool → List Line → Bool
named_in t s known [] = known
named_in t s known (l ∷ ls) = named_in t (spot_next l s) (with_name t s known l) ls

abbrev pub at_unit : Spot
at_unit = record { depth = 0; reading = false }

abbrev pub has_name : List ℕ → List Line → Bool
has_name t ls = named_in t at_unit false ls
