-- What the laws say.
use Rattle.std.specs.Prelude.{◌≡◌, ℕ, ◌++◌, All, Some}
use Rattle.flow_value.specs.declared.ty.Ty.{Ty}
use Rattle.if1_graph.specs.declared.graph.Unit1.{Unit1}
use Rattle.if1_graph.specs.Types.{sort_at}
use Rattle.typed_tree.specs.declared.program.Function.{Function}
use Rattle.typed_tree.specs.declared.program.Program.{Program}
use Rattle.typed_tree.specs.Types.{IsNumber}
use Rattle.lowering.specs.declared.feed.Carried.{Carried}
use Rattle.lowering.specs.declared.graph.LoweredNode.{LoweredNode}
use Rattle.lowering.specs.declared.graph.LoweredGraph.{LoweredGraph}
use Rattle.lowering.specs.Feeds.{carried}
use Rattle.lowering.specs.Graphs.{callee}
use Rattle.lowering.specs.Programs.{graphs}
use Rattle.lowering.specs.Types.{label_of, header_label}
use Rattle.lowering_meaning.specs.Fitting.{IsFitting}
use Rattle.lowering_meaning.specs.Units.{IsTranslated}
use Rattle.lowered_ready.specs.Sorts.{bare, type_at, function_sort, sort_of}

-- the label of what is carried stands for it in the unit
abbrev pub HasSort : Program → Unit1 → Carried → Type 0
HasSort p u c = sort_at u.types (label_of p c) ≡ Some (sort_of p c)

abbrev pub HasHeaderSort : Program → Unit1 → Function → Type 0
HasHeaderSort p u f = sort_at u.types (header_label p f) ≡ Some (function_sort p f)

-- so does the function that a node calls, and what fills its ports
abbrev pub IsNodeSorted : Program → Unit1 → LoweredNode → Type 0
IsNodeSorted p u v = All (HasSort p u) (callee v.action ++ carried v.ins)

pub record IsGraphSorted (p : Program) (u : Unit1) (d : LoweredGraph) : Type 0 where
  pub nodes : All (IsNodeSorted p u) d.nodes
  pub results : All (HasSort p u) (carried d.results)

pub record IsReadBack (p : Program) (u : Unit1) : Type 0 where
  pub graphs : All (IsGraphSorted p u) (graphs p)
  pub headers : All (HasHeaderSort p u) p.functions

abbrev pub AreReadBack : Type 0
AreReadBack = (p : Program) (u : Unit1) → IsFitting p → IsTranslated p u → IsReadBack p u

abbrev pub AreTypesOfNumbers : Type 0
AreTypesOfNumbers = (p : Program) (n : ℕ) (t : Ty) → IsFitting p → IsNumber p.types p.names n t → type_at p.types n ≡ bare t
