-- What the data tells of nodes, weighed by the plan that stands in it.
use Rattle.std.specs.Prelude.{◌≡◌, ℕ, List, map, length}
use Rattle.made_store.specs.Carried.{Carried}
use Rattle.made_store.specs.Demand.{Vertex}
use Rattle.made_store.specs.Made.{Plan}
use Rattle.made_store.specs.Steps.{Fire, Step}
use Rattle.made_store.specs.Plans.{Weighing}
use Rattle.made_store.specs.Stored.{Mode, copied}
use Rattle.step_code.specs.declared.code.Code.{Code}
use Rattle.step_code.specs.Laid.{copied_at, written_at}
use Rattle.code_maker.specs.PlanData.{PlanData}
use Rattle.code_maker.specs.PlanNode.{PlanNode}
use Rattle.code_maker.specs.Work.{Work}
use Rattle.code_maker.specs.Work.TheVariants as work
use Rattle.code_maker.specs.Parts.{graph_nodes, mode_of}
use Rattle.code_maker.specs.Grows.{IsPair}

-- a step that fires a node adds as much by the one as by the other, of as many operands as it has
abbrev pub AddsSame : Step → (adds others : List Carried → List Carried → ℕ) → Type 0
AddsSame (Fire row shape ins out w) f g = (ks rs : List Carried) → length ks ≡ length ins → f ks rs ≡ g ks rs
AddsSame _ f g = Unit {0}

-- and where it handles its operands in two ways that copy as much of them, of as many outputs as it is wide
abbrev pub CopiesSame : Step → (modes others : List Mode) → (adds others : List Carried → List Carried → ℕ) → Type 0
CopiesSame (Fire row shape ins out w) ms ns f g = (ks rs : List Carried) → copied ms ks ≡ copied ns ks → length rs ≡ w → f ks rs ≡ g ks rs
CopiesSame _ ms ns f g = Unit {0}

-- ---- what the data tells

module _ (D : PlanData) (P : Plan) (W : Weighing) where
  -- what is told to be written at a simple node is what it adds
  abbrev pub IsWrittenSo : (graph : ℕ) → Vertex → Work → Type 0
  IsWrittenSo g v (work.Plain row shape writes copies) = (ks rs : List Carried) → written_at writes ks rs ≡ W.weights.of_node g v ks rs
  IsWrittenSo g v _ = Unit {0}

  abbrev pub AreWritesTold : Type 0
  AreWritesTold = (g : ℕ) (n : PlanNode) (v : Vertex) → IsPair (graph_nodes D g) (P.nodes g) n v → IsWrittenSo g v n.work

  -- and so is what is told to be copied, as its ports are handled and of as many outputs as it is wide, in code that has the marks of the data
  abbrev pub IsCopiedSo : (graph : ℕ) → Vertex → PlanNode → Work → Type 0
  IsCopiedSo g v n (work.Plain row shape writes copies) =
      (code : Code) → code.marks ≡ D.marks → (ks rs : List Carried) → length rs ≡ n.width → copied_at code copies (map mode_of n.ins) n.width ks rs ≡ W.weights.of_node g v ks rs
  IsCopiedSo g v n _ = Unit {0}

  abbrev pub AreCopiesTold : Type 0
  AreCopiesTold = (g : ℕ) (n : PlanNode) (v : Vertex) → IsPair (graph_nodes D g) (P.nodes g) n v → IsCopiedSo g v n n.work
