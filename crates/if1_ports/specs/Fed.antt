-- What a node has by the edges that lead into it, as far as its ports depend on it.
use Rattle.std.specs.Prelude.{ℕ, ◌==◌, ◌&&◌, ◌||◌, not, Bool, false, List, [], ◌∷◌, map, find, length, Option, Some, None, is_some}
use Rattle.if1_graph.specs.declared.graph.Edge.{Edge}
use Rattle.if1_graph.specs.Tables.{◌>>=◌}
use Rattle.if1_graph.specs.Units.{greatest}
use Rattle.if1_graph.specs.Ports.{text_of}
use Rattle.if1_ports.specs.declared.outline.Outline.{Outline}
use Rattle.if1_ports.specs.declared.outline.Outline.TheVariants.{Nothing}
use Rattle.if1_ports.specs.declared.fed.Fed.{Fed}
use Rattle.if1_ports.specs.declared.fed.Literal.{Literal}
use Rattle.if1_ports.specs.Outlines.{is_integer_outline}
use Rattle.if1_ports.specs.Counts.{are_counted, are_rising}

-- what each label stands for, and what the type of each named function is
abbrev pub Types : Type 0
Types = ℕ → Outline

abbrev pub Callees : Type 0
Callees = List ℕ → Outline

abbrev pub ports_of : List Edge → List ℕ
ports_of es = map (λ e. e.port) es

-- the edge into port 1
abbrev pub first_of : List Edge → Option Edge
first_of es = find (λ e. e.port == 1) es

abbrev pub carried_by : Types → Option Edge → Outline
carried_by o None = Nothing
carried_by o (Some e) = o e.ty

abbrev pub text_by : Option Edge → Option (List ℕ)
text_by e = e >>= λ e. text_of e.from

abbrev pub named_by : Callees → Option (List ℕ) → Outline
named_by c None = Nothing
named_by c (Some text) = c text

-- zeros, 48, and then a one, 49; whether the one stood before
abbrev pub spells_from : Bool → List ℕ → Bool
spells_from one [] = one
spells_from one (c ∷ cs) = (not one && ((c == 48) || (c == 49))) && spells_from (c == 49) cs

abbrev pub spells_one : List ℕ → Bool
spells_one text = spells_from false text

abbrev pub spells_one_if : Option (List ℕ) → Bool
spells_one_if None = false
spells_one_if (Some text) = spells_one text

abbrev pub literal_by : Callees → Option (List ℕ) → Literal
literal_by c text = record { is_literal = is_some text; callee = named_by c text; is_one = spells_one_if text }

abbrev pub fed_by : Types → Callees → List Edge → Fed
fed_by o c es = record {
  count = length (ports_of es);
  counted = are_counted 1 (ports_of es);
  rising = are_rising 0 (ports_of es);
  greatest = greatest (ports_of es);
  has_first = is_some (first_of es);
  carries = carried_by o (first_of es);
  is_literal = is_some (text_by (first_of es));
  callee = named_by c (text_by (first_of es));
  is_one = is_integer_outline (carried_by o (first_of es)) && spells_one_if (text_by (first_of es));
}
