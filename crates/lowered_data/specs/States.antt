-- A graph under way, and what is done to it.
use Rattle.std.specs.Prelude.{◌≡◌, ℕ, ◌+◌, List, [], ◌∷◌, ◌++◌, map, length, slice_set}
use Rattle.if1_graph.specs.declared.op.Compound.{Compound}
use Rattle.if1_graph.specs.declared.op.Compound.TheVariants as compound
use Rattle.lowering.specs.declared.feed.Carried.{Carried}
use Rattle.lowering.specs.declared.feed.Wire.{Wire}
use Rattle.lowering.specs.Feeds.{carried}
use Rattle.lowering.specs.declared.graph.Action.{Action}
use Rattle.lowering.specs.declared.graph.Action.TheVariants.{Whole}
use Rattle.lowering.specs.declared.graph.LoweredNode.{LoweredNode}
use Rattle.lowering.specs.declared.graph.LoweredGraph.{LoweredGraph}
use Rattle.lowering.specs.declared.graph.Lowered.{Lowered}
use Rattle.lowering.specs.Graphs.{Lowering, node, numbers, callee, new_graph, new_graphs}
use Rattle.lowered_data.specs.declared.made.Made.{Made}
use Rattle.lowered_data.specs.declared.made.Around.{Around}
use Rattle.lowered_data.specs.Parts.{blank, inputs_at, closed_at}

abbrev pub made : ℕ → List LoweredNode → List LoweredGraph → List Carried → Made
made first nodes graphs lines = record { first = first; nodes = nodes; graphs = graphs; lines = lines }

-- the number of the next graph inside
abbrev pub next_graph : Made → ℕ
next_graph s = s.first + length s.graphs

-- what a phrase becomes there
abbrev pub lowered_in : Made → Lowering → Lowered
lowered_in s f = f (length s.nodes) (next_graph s)

-- with what a phrase becomes
abbrev pub with_lowered : Made → Lowered → Made
with_lowered s m = made s.first (s.nodes ++ m.nodes) (s.graphs ++ m.graphs) (s.lines ++ m.lines)

-- a phrase was lowered, and gives these values
pub record IsMade (f : Lowering) (before after : Made) (values : List Wire) : Type 0 where
  pub after_is : after ≡ with_lowered before (lowered_in before f)
  pub values_are : values ≡ (lowered_in before f).values

-- ---- nodes

abbrev pub with_node : Made → Action → List Wire → Made
with_node s a ins = made s.first (s.nodes ++ node a ins ∷ []) s.graphs ((s.lines ++ callee a) ++ carried ins)

-- ---- graphs inside, which stand there as they are in the making until the compound node closes them

-- the graph around, and the place of one that begins inside of it
abbrev pub around_of : Made → Around
around_of s = record { place = length s.graphs; nodes = s.nodes }

abbrev pub opened : Made → Made
opened s = made s.first [] (s.graphs ++ blank ∷ []) s.lines

abbrev pub shut : Made → Around → List Wire → Made
shut s a values = made s.first a.nodes (slice_set s.graphs a.place (record { nodes = s.nodes; results = values })) (s.lines ++ carried values)

abbrev pub unclosed : Lowered → LoweredGraph
unclosed m = record { nodes = m.nodes; results = m.values }

abbrev pub with_part : Made → Lowered → Made
with_part s m = made s.first s.nodes (s.graphs ++ unclosed m ∷ m.graphs) (s.lines ++ (m.lines ++ carried m.values))

-- a graph inside was lowered
pub record IsPart (f : Lowering) (before after : Made) : Type 0 where
  pub after_is : after ≡ with_part before (new_graph f (next_graph before))

-- ---- compound nodes

abbrev pub numbered : ℕ → List ℕ → List ℕ
numbered first places = map (λ p. first + p) places

abbrev pub with_closed : List Wire → ℕ → ℕ → List ℕ → Made → Made
with_closed ks first own places s = made s.first s.nodes (closed_at ks first own places s.graphs) s.lines

-- a compound node on the graphs at these places
abbrev pub with_whole : Compound → List ℕ → List ℕ → (given outputs : ℕ) → Made → Made
with_whole c places arms given outputs s =
    let ks = inputs_at places s.graphs in
    with_node (with_closed ks 0 (length ks) places s) (Whole c (numbered s.first places) arms given outputs) ks

-- a TagCase on a union
abbrev pub with_tag_case : Wire → List ℕ → List ℕ → ℕ → Made → Made
with_tag_case u places arms outputs s =
    let ks = inputs_at places s.graphs in
    with_node (with_closed ks 1 0 places s) (Whole compound.TagCase (numbered s.first places) arms 0 outputs) (u ∷ ks)

-- ---- graphs inside one after another

abbrev pub with_parts : Made → List Lowered → Made
with_parts s [] = s
with_parts s (m ∷ ms) = with_parts (with_part s m) ms

abbrev pub new_parts : Made → List Lowering → List Lowered
new_parts s fs = new_graphs (next_graph s) fs

-- the places at which they stand
abbrev pub places_in : Made → List Lowering → List ℕ
places_in s fs = numbers (length s.graphs) (new_parts s fs)

pub record AreParts (fs : List Lowering) (before after : Made) : Type 0 where
  pub after_is : after ≡ with_parts before (new_parts before fs)
