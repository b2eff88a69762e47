-- What is made of a graph and of the parts of nodes: the lines and settings of each plan, with its shares, that stands in the data.
use Rattle.std.specs.Prelude.{◌≡◌, ℕ, if◌then◌else◌, Bool, true, false, List, [], ◌∷◌, ◌++◌, length, get_or}
use Rattle.graph_meaning.specs.Demand.{Kind, Vertex}
use Rattle.run_code.specs.Collections.{sifts_in}
use Rattle.run_code.specs.Made.{OfNothing, OfResults, OfRows, Plan, arm_code, arms_code, end_at, ends_at, function_lines, functions_lines, graph_code, kind_code, line, nodes_code, parts_code, placed}
use Rattle.run_code.specs.Steps.{Add, Keep, Test}
use Rattle.ordered_meaning.specs.Taking.{Taken}
use Rattle.run_code.specs.Known.{Known}
use Rattle.run_made.specs.Plans.{code_at, last_line}
use Rattle.run_store.specs.Effects.{reads_of}
use Rattle.step_code.specs.declared.code.Code.{Code}
use Rattle.step_code.specs.declared.step.Step.TheVariants as step
use Rattle.step_code.specs.Laid.{code_of, handling_of}
use Rattle.run_store.specs.Stored.{Mode, Looks, Takes}
use Rattle.plan_data.specs.Settings.{Cells_of, Shares, result_modes, sifts_of, takes_all}
use Rattle.plan_data.specs.Settled as settled
use Rattle.plan_data.specs.Settled.{arms_settings, function_settings, functions_settings, graph_settings, kind_settings, nodes_settings, part_settings, parts_settings}
use Rattle.plan_data.specs.declared.plan.PlanData.{PlanData}
use Rattle.plan_data.specs.declared.plan.LoopParts.{LoopParts}
use Rattle.plan_data.specs.declared.plan.PlanNode.{PlanNode}
use Rattle.plan_data.specs.declared.plan.Work.{Work}
use Rattle.plan_data.specs.declared.plan.Work.TheVariants as work
use Rattle.plan_data.specs.Parts.{graph_nodes, kind_of}
use Rattle.plan_data.specs.Stands.{AreNodes, IsNode, Stands}
use Rattle.code_maker.specs.declared.draft.Draft.{Draft}
use Rattle.code_maker.specs.declared.seats.Seat.{Seat}
use Rattle.code_maker.specs.Grows.{ArePairs, Grows, IsKnit, IsPair, IsTold, read_as}
use Rattle.code_maker.specs.Seats.{at_seats, seats_at}

-- a loop with its body before its first test, or after it
abbrev pub loop_work : Bool → LoopParts → Work
loop_work true p = work.LoopA p
loop_work false p = work.LoopB p

-- the first turn is counted apart
abbrev pub one_if : Bool → ℕ
one_if true = 1
one_if false = 0

-- nothing yet
abbrev pub none_made : Draft
none_made = record { steps = []; operands = []; targets = []; collects = [] }

module _ (D : PlanData) (room levels : ℕ) where
  -- a graph on these inputs, from a place and a cell on
  abbrev pub GraphMade : List Seat → (graph place lo : ℕ) → (old new : Draft) → Type 0
  GraphMade args g a lo old new =
      (P : Plan) (S : Shares) (keep hold : Cells_of) → Stands D P S → Grows D P old new (graph_code P levels room (at_seats D args) g a lo) (graph_settings P S levels keep hold (at_seats D args) g lo)

  -- these nodes of a graph, from a place and a cell on
  abbrev pub NodesMade : (P : Plan) (S : Shares) (keep hold : Cells_of) → List Seat → (graph first : ℕ) → List PlanNode → (place lo : ℕ) → (old new : Draft) → Type 0
  NodesMade P S keep hold args g first ns a lo old new =
      (vs : List Vertex) (known : Known) (taken : Taken) → AreNodes D P S g ns vs → ArePairs D P g ns vs
      → Grows D P old new (nodes_code P (graph_code P levels) room g (placed P (at_seats D args) (P.nodes g) first) vs a lo) (nodes_settings P S (graph_settings P S levels) keep hold (at_seats D args) g first known taken vs lo)

  -- a node of a graph
  abbrev pub NodeMade : List Seat → (first : ℕ) → PlanNode → (place lo : ℕ) → (old new : Draft) → Type 0
  NodeMade args first n a lo old new =
      (P : Plan) (S : Shares) (g : ℕ) (v : Vertex) (lives owns keep hold : Cells_of) → Stands D P S → IsNode D P S g n v → IsPair (graph_nodes D g) (P.nodes g) n v
      → Grows D P old new (kind_code P (graph_code P levels) room g v (at_seats D (seats_at args first n.ins)) (kind_of n.work n.width) n.width a lo) (kind_settings P S (graph_settings P S levels) g v lives owns keep hold (at_seats D (seats_at args first n.ins)) (kind_of n.work n.width) lo)

  -- the parts of a node, which are given so
  abbrev pub PartsMade : (union : Mode) → List Seat → Kind → (place w b lo mid : ℕ) → (old new : Draft) → Type 0
  PartsMade m own kind a w b lo mid old new =
      (P : Plan) (S : Shares) (keep hold : Cells_of) (given : ℕ → Bool) → Stands D P S → (if given 1 then Takes else Looks) ≡ m
      → Grows D P old new (parts_code P (graph_code P levels) room (at_seats D own) kind a w b lo mid) (parts_settings P S (graph_settings P S levels) keep hold given (at_seats D own) kind mid)

  -- an arm, whose results are brought to cells
  abbrev pub ArmMade : List Seat → (graph place w b lo up : ℕ) → (old new : Draft) → Type 0
  ArmMade args g a w b lo up old new =
      (P : Plan) (S : Shares) (keep hold : Cells_of) → Stands D P S
      → Grows D P old new (arm_code P (graph_code P levels) room (at_seats D args) g a w b lo up) (part_settings P S (graph_settings P S levels) keep hold (at_seats D args) g up (result_modes P S g) [])

  abbrev pub ArmsMade : List Seat → List ℕ → (place w b lo up : ℕ) → (old new : Draft) → Type 0
  ArmsMade args gs a w b lo up old new =
      (P : Plan) (S : Shares) (keep hold : Cells_of) → Stands D P S
      → Grows D P old new (arms_code P (graph_code P levels) room (at_seats D args) gs a w b lo up) (arms_settings P S (graph_settings P S levels) keep hold (at_seats D args) gs up)

  -- the first loop values
  abbrev pub FirstMade : List Seat → LoopParts → (place starts mid : ℕ) → (old new : Draft) → Type 0
  FirstMade own p a starts mid old new =
      (P : Plan) (S : Shares) (keep hold : Cells_of) → Stands D P S
      → Grows D P old new (graph_code P levels room (at_seats D own) p.init a mid ++ (line (OfResults p.init) (Keep true (sifts_in (P.collects p.returns)) (ends_at P (at_seats D own) p.init mid) mid starts) ∷ []))
      (part_settings P S (graph_settings P S levels) keep hold (at_seats D own) p.init mid (result_modes P S p.init) [])

  -- the body of a loop and its test, on its inputs and loop values
  abbrev pub TurnsMade : List Seat → LoopParts → (turn tests leave w b lo mid top : ℕ) → (old new : Draft) → Type 0
  TurnsMade x p turn tests leave w b lo mid top old new =
      (P : Plan) (S : Shares) (keep hold keeps holds : Cells_of) → Stands D P S
      → Grows D P old new
      ((graph_code P levels room (at_seats D x) p.body turn top ++ (line (OfResults p.body) (Keep false (sifts_in (P.collects p.returns)) (ends_at P (at_seats D x) p.body top) mid tests) ∷ []))
      ++ (graph_code P levels room (at_seats D x) p.test tests top ++ (line OfNothing (Test (end_at P (at_seats D x) p.test top) turn leave lo w b) ∷ [])))
      (part_settings P S (graph_settings P S levels) keep hold (at_seats D x) p.body top (result_modes P S p.body ++ takes_all (sifts_of P p.returns)) []
      ++ part_settings P S (graph_settings P S levels) keeps holds (at_seats D x) p.test top (Looks ∷ []) [])

  -- the body of a ForAll, on its inputs and elements
  abbrev pub RowsMade : List Seat → (body returns place turns into up : ℕ) → (old new : Draft) → Type 0
  RowsMade x body r a turns into up old new =
      (P : Plan) (S : Shares) (keep hold : Cells_of) → Stands D P S
      → Grows D P old new (graph_code P levels room (at_seats D x) body a up ++ (line (OfRows body r) (Add (P.collects r) (ends_at P (at_seats D x) body up) into turns) ∷ []))
      (part_settings P S (graph_settings P S levels) keep hold (at_seats D x) body up (result_modes P S body ++ takes_all (length (P.collects r))) (S.puts r))

-- a function from a place on, in a block of its own
abbrev pub FunctionMade : PlanData → (levels function place : ℕ) → (old new : Draft) → Type 0
FunctionMade D levels f a old new = (P : Plan) (S : Shares) → Stands D P S → Grows D P old new (function_lines P levels f a) (function_settings P S levels f)

abbrev pub FunctionsMade : PlanData → (levels : ℕ) → List ℕ → Draft → Type 0
FunctionsMade D levels fs new = (P : Plan) (S : Shares) → Stands D P S → Grows D P none_made new (functions_lines P levels fs 0) (functions_settings P S levels fs)

-- Each place of code has the step of its line. The step handles what it reads as its setting says, where literals are looked at, keeps
-- what it writes, and copies to the same collections.
pub record IsCodeOf (P : Plan) (S : Shares) (levels : ℕ) (functions : List ℕ) (code : Code) : Type 0 where
  pub steps : (pc : ℕ) → code_of code pc ≡ code_at (functions_lines P levels functions 0) pc
  pub modes : (pc : ℕ) → read_as (handling_of code pc).modes (reads_of (code_of code pc)) ≡ read_as (settled.handling_of (functions_settings P S levels functions) pc).modes (reads_of (code_of code pc))
  pub puts : (pc i : ℕ) → get_or (handling_of code pc).puts i false ≡ get_or (settled.handling_of (functions_settings P S levels functions) pc).puts i false
  pub keeps : (pc c : ℕ) → (handling_of code pc).keeps c ≡ true

-- The step at each place that fires a node writes and copies what the data tells of this node, whose ports are handled as its setting
-- says.
pub record AreTold (D : PlanData) (P : Plan) (S : Shares) (levels : ℕ) (functions : List ℕ) (code : Code) : Type 0 where
  pub steps : (pc : ℕ) → IsTold D P (get_or code.steps pc (step.Return 0 0)) (settled.handling_of (functions_settings P S levels functions) pc).modes (get_or (functions_lines P levels functions 0) pc last_line).origin
  pub marks : code.marks ≡ D.marks

-- What the step at each place names is there, and there are as many steps as lines.
pub record AreKnit (D : PlanData) (P : Plan) (levels : ℕ) (functions : List ℕ) (code : Code) : Type 0 where
  pub steps : (pc : ℕ) → IsKnit D P code (get_or code.steps pc (step.Return 0 0)) (get_or (functions_lines P levels functions 0) pc last_line).origin
  pub long : length code.steps ≡ length (functions_lines P levels functions 0)
