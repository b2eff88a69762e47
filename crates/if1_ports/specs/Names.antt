-- What the type of each named function is.
use Rattle.std.specs.Prelude.{ℕ, List, bytes_eq, Option, Some, None}
use Rattle.if1_graph.specs.declared.graph.Graph.{Graph}
use Rattle.if1_graph.specs.declared.graph.Graph.TheViews.{out-Graph}
use Rattle.if1_graph.specs.Formed.{function_named}
use Rattle.indexmap.specs.IndexMap.{get_by}
use Rattle.if1_ports.specs.declared.names.Names.{Names}
use Rattle.if1_ports.specs.declared.outline.Outline.{Outline}
use Rattle.if1_ports.specs.declared.outline.Outline.TheVariants.{Nothing}

-- the type of a function, by a table of types
abbrev pub type_of : (ℕ → Outline) → Option Graph → Outline
type_of o None = Nothing
type_of o (Some g) = o (out-Graph g).fun

abbrev pub callee_of : (ℕ → Outline) → List Graph → List ℕ → Outline
callee_of o gs name = type_of o (function_named gs name)

abbrev pub or_nothing : Option Outline → Outline
or_nothing None = Nothing
or_nothing (Some o) = o

-- what an index has for a name
abbrev pub callees_in : Names → List ℕ → Outline
callees_in n text = or_nothing (get_by (λ k. bytes_eq text k.items) n.map)
