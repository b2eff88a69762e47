-- Steps that are added to code are these lines, with these settings, whatever is added behind them.
use Rattle.std.specs.Prelude.{◌≡◌, ◌⊎◌, ◌+◌, ◌<◌, ◌≤◌, ℕ, map, length, true, false, List, [], ◌∷◌, ◌++◌, get_or}
use Rattle.flow_value.specs.declared.operands.Shape.{Shape}
use Rattle.if1_graph.specs.declared.op.Simple.{Simple}
use Rattle.graph_meaning.specs.Demand.{Vertex}
use Rattle.run_code.specs.Cells as cells
use Rattle.run_code.specs.Made.{Line, OfNode, Origin, Plan}
use Rattle.run_store.specs.Effects.{reads_of}
use Rattle.run_store.specs.Stored.{Mode, Looks, mode_at, tail}
use Rattle.plan_data.specs.Settled.{Setting}
use Rattle.step_code.specs.declared.code.Code.{Code}
use Rattle.step_code.specs.declared.code.Operand.{Operand}
use Rattle.step_code.specs.declared.code.Operand.TheVariants as operand
use Rattle.step_code.specs.declared.step.Collect.{Collect}
use Rattle.step_code.specs.declared.step.Counted.{Counted}
use Rattle.step_code.specs.declared.step.Step.{Step}
use Rattle.step_code.specs.declared.step.Step.TheVariants as step
use Rattle.step_code.specs.declared.step.Written.{Written}
use Rattle.step_code.specs.declared.step.Written.TheVariants as written
use Rattle.step_code.specs.Laid.{counted_by, handling_in, row_of, step_in}
use Rattle.step_code.specs.Reading.{gapped, listed}
use Rattle.plan_data.specs.declared.plan.PlanData.{PlanData}
use Rattle.plan_data.specs.declared.plan.PlanNode.{PlanNode}
use Rattle.plan_data.specs.declared.plan.Work.TheVariants as work
use Rattle.plan_data.specs.Parts.{extent_in, graph_nodes, mode_of, table_of}
use Rattle.code_maker.specs.declared.draft.Draft.{Draft}
use Rattle.code_maker.specs.Seats.{looked_at}

-- how operands are read in these modes: literals are looked at
abbrev pub read_as : List Mode → List cells.Operand → List Mode
read_as ms [] = []
read_as ms (cells.At c ∷ os) = mode_at ms ∷ read_as (tail ms) os
read_as ms (cells.Lit k ∷ os) = Looks ∷ read_as (tail ms) os

-- ---- what is told of a simple node

-- a node of the data and one of the plan that stand at the same place
abbrev pub IsPair : List PlanNode → List Vertex → PlanNode → Vertex → Type 0
IsPair [] vs n v = ⊥
IsPair (m ∷ ms) [] n v = ⊥
IsPair (m ∷ ms) (w ∷ ws) n v = ((n ≡ m) × (v ≡ w)) ⊎ IsPair ms ws n v

module _ (D : PlanData) (P : Plan) where
  -- what these are is so in the graph
  abbrev pub ArePairs : (graph : ℕ) → List PlanNode → List Vertex → Type 0
  ArePairs g ns vs = (n : PlanNode) (v : Vertex) → IsPair ns vs n v → IsPair (graph_nodes D g) (P.nodes g) n v

  -- a step that fires a node writes and copies what the data tells of the node, whose ports are handled so
  abbrev pub IsToldOf : Simple → Written → Counted → (width : ℕ) → List Mode → Origin → Type 0
  IsToldOf row writes copies w ms (OfNode g v) =
      (n : PlanNode) × (shape : Shape) × IsPair (graph_nodes D g) (P.nodes g) n v × (n.work ≡ work.Plain row shape writes copies) × (w ≡ n.width) × (ms ≡ map mode_of n.ins)
  IsToldOf row writes copies w ms o = ⊥

  -- no step of scalars is made
  abbrev pub IsTold : Step → List Mode → Origin → Type 0
  IsTold (step.One op a out) ms o = ⊥
  IsTold (step.Two op a b out) ms o = ⊥
  IsTold (step.Int i out) ms o = ⊥
  IsTold (step.Cells op i j out) ms o = ⊥
  IsTold (step.Number op i l n out) ms o = ⊥
  IsTold (step.Element ins i p out kept k) ms o = ⊥
  IsTold (step.Replace ins i p e out kept k) ms o = ⊥
  IsTold (step.Fire row writes shape ins n out w kept copies) ms o = IsToldOf row writes copies w ms o
  IsTold (step.Sparse row g ins n out copies) ms o = IsToldOf (row_of row) written.Nothing (counted_by copies) 1 ms o
  IsTold x ms o = Unit {0}

-- ---- what a step names

-- a cell, or a literal that is there
abbrev pub IsPlain : Code → Operand → Type 0
IsPlain code (operand.Literal n) = n < length code.literals
IsPlain code (operand.Looks i) = Unit {0}
IsPlain code (operand.Copies i) = Unit {0}
IsPlain code (operand.Takes i) = Unit {0}
IsPlain code (operand.LooksAt r) = ⊥
IsPlain code (operand.CopiesOf r) = ⊥

abbrev pub ArePlain : Code → List Operand → Type 0
ArePlain code [] = Unit {0}
ArePlain code (a ∷ as₁) = IsPlain code a × ArePlain code as₁

-- so many operands from one on
pub record AreNamed (code : Code) (first many : ℕ) : Type 0 where
  pub there : first + many ≤ length code.operands
  pub long : length (listed code first many) ≡ many
  pub plain : ArePlain code (listed code first many)

-- so many collections from one on
abbrev pub AreCollected : Code → (first many : ℕ) → Type 0
AreCollected code i n = i + n ≤ length code.collects

abbrev pub AreTargets : Code → (first many : ℕ) → Type 0
AreTargets code i n = i + n ≤ length code.targets

-- so many operands from one on, and as many numbers of ports that nothing fills
pub record AreNamedApart (code : Code) (gaps first many : ℕ) : Type 0 where
  pub there : first + many ≤ length code.operands
  pub numbers : gaps + many ≤ length code.targets
  pub plain : ArePlain code (gapped code gaps first many)

-- the new block has as many cells as the function that the node calls
abbrev pub IsRoomOf : PlanData → Plan → (room : ℕ) → Origin → Type 0
IsRoomOf D P room (OfNode g v) = (n : PlanNode) × (f : ℕ) × IsPair (graph_nodes D g) (P.nodes g) n v × (n.work ≡ work.Call f) × (room ≡ table_of D.params f + extent_in D f)
IsRoomOf D P room o = ⊥

-- what the step of such a line names in the lists of code is there
abbrev pub IsKnit : PlanData → Plan → Code → Step → Origin → Type 0
IsKnit D P code (step.One op a out) o = ⊥
IsKnit D P code (step.Two op a b out) o = ⊥
IsKnit D P code (step.Bring a out next) o = ⊥
IsKnit D P code (step.Int i out) o = ⊥
IsKnit D P code (step.Cells op i j out) o = ⊥
IsKnit D P code (step.Number op i l n out) o = ⊥
IsKnit D P code (step.Element ins i p out kept k) o = ⊥
IsKnit D P code (step.Replace ins i p e out kept k) o = ⊥
IsKnit D P code (step.Carry begins cs froms n out next) o = ⊥
IsKnit D P code (step.Push cs froms i out next) o = ⊥
IsKnit D P code step.Count o = Unit {0}
IsKnit D P code (step.Fire row x shape ins n out w kept k) o = AreNamed code ins n
IsKnit D P code (step.Sparse row g ins n out copies) o = AreNamedApart code g ins n
IsKnit D P code (step.Move froms n out w next) o = AreNamed code froms n
IsKnit D P code (step.Tag a ts n content keeps out w next) o = IsPlain code a × AreTargets code ts n
IsKnit D P code (step.Branch a ts n out w next) o = IsPlain code a × AreTargets code ts n
IsKnit D P code (step.Test a turn leave out w next) o = IsPlain code a
IsKnit D P code (step.Keep begins cs k froms n out next) o = AreNamed code froms n × AreCollected code cs k
IsKnit D P code (step.Spread froms n cs k to turns out w next) o = AreNamed code froms n × AreCollected code cs k
IsKnit D P code (step.Each ms n from count kept turn leave) o = (ms + n ≤ length code.operands) × (listed code ms n ≡ looked_at from n)
IsKnit D P code (step.Add cs k froms n out next) o = AreNamed code froms n × AreCollected code cs k
IsKnit D P code (step.Call entry size room args n out w) o = AreNamed code args n × IsRoomOf D P room o
IsKnit D P code (step.Return froms n) o = AreNamed code froms n

-- ---- lines

-- The step is that of this line, and handles what it reads as its setting says. It writes and copies what is told of its node, and what
-- it names is there.
pub record IsLaid (D : PlanData) (P : Plan) (code : Code) (x : Step) (l : Line) (s : Setting) : Type 0 where
  pub step : step_in code x ≡ l.step
  pub modes : read_as (handling_in code x).modes (reads_of l.step) ≡ read_as s.modes (reads_of l.step)
  pub puts : (i : ℕ) → get_or (handling_in code x).puts i false ≡ get_or s.puts i false
  pub keeps : (c : ℕ) → (handling_in code x).keeps c ≡ true
  pub told : IsTold D P x s.modes l.origin
  pub knit : 0 < length D.literals → IsKnit D P code x l.origin

abbrev pub AreLaid : PlanData → Plan → Code → List Step → List Line → List Setting → Type 0
AreLaid D P code [] [] [] = Unit {0}
AreLaid D P code (x ∷ xs) (l ∷ ls) (s ∷ ss) = IsLaid D P code x l s × AreLaid D P code xs ls ss
AreLaid D P code _ _ _ = ⊥

-- the lists of a draft stand at the beginning of those of code
pub record Begins (D : PlanData) (draft : Draft) (code : Code) : Type 0 where
  pub operands : (more : List Operand) × (code.operands ≡ draft.operands ++ more)
  pub targets : (more : List ℕ) × (code.targets ≡ draft.targets ++ more)
  pub collects : (more : List Collect) × (code.collects ≡ draft.collects ++ more)
  pub marks : code.marks ≡ D.marks
  pub literals : code.literals ≡ D.literals

pub record Grows (D : PlanData) (P : Plan) (old new : Draft) (ls : List Line) (ss : List Setting) : Type 0 where
  pub steps : (more : List Step) × (new.steps ≡ old.steps ++ more) × ((code : Code) → Begins D new code → AreLaid D P code more ls ss)
  pub operands : (more : List Operand) × (new.operands ≡ old.operands ++ more)
  pub targets : (more : List ℕ) × (new.targets ≡ old.targets ++ more)
  pub collects : (more : List Collect) × (new.collects ≡ old.collects ++ more)
