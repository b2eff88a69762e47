-- What is wrong with the literal of an edge, by the nodes of its graph.
use Rattle.std.specs.Prelude.{ℕ, List, Option, Some, None}
use Rattle.if1_graph.specs.declared.graph.Edge.{Edge}
use Rattle.if1_read.specs.declared.fault.Kind.{Kind}
use Rattle.if1_read.specs.Pages.{Lit, Rules}
use Rattle.if1_read.specs.Sheets.{lit_of}

abbrev pub lit_fault_of : Rules → List (ℕ × ℕ) → Option Lit → Option Kind
lit_fault_of r ns None = None
lit_fault_of r ns (Some l) = r.lit_wrong ns l

abbrev pub edge_fault : Rules → List (ℕ × ℕ) → Edge → Option Kind
edge_fault r ns e = lit_fault_of r ns (lit_of e)
