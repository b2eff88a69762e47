-- Plans that are right: what is asked of a plan, graph by graph, so that the code that is made of it does the graphs.
use Rattle.std.specs.Prelude.{◌≡◌, ℕ, zero, suc, ◌+◌, ◌≤◌, List, [], ◌∷◌, length, get_or}
use Rattle.run_laws.specs.Carried.{Carried}
use Rattle.run_laws.specs.Entered.{IsIn}
use Rattle.run_laws.specs.Forms as form
use Rattle.run_laws.specs.Demand.{Kind, Plain, Whole, Vertex, Network, LabelsOnce, EachNode}
use Rattle.run_laws.specs.Storage.{Weights}
use Rattle.run_laws.specs.Cells.{picked}
use Rattle.run_laws.specs.Coded.{Layout}
use Rattle.run_laws.specs.Collections.{AreWithin}
use Rattle.run_laws.specs.Known.{AreReadable}
use Rattle.run_laws.specs.Machine.{Weigh}
use Rattle.run_laws.specs.Made.{Plan, Origin, OfNode, OfInputs, OfResults, OfRows, OfNothing, Line, line, IsSized, room_of, functions_lines, entry_from}
use Rattle.run_laws.specs.Refolds.{Refolds}
use Rattle.run_laws.specs.Steps.{Code, Return}

-- ---- what steps add

-- The weights of a unit, and by them what the copied inputs of a compound node add, and what a row adds that is put to what a returns
-- collects. The graphs that do returns on collections have numbers of their own.
pub record Weighing : Type 0 where
  pub weights : Weights
  pub inputs : (graph : ℕ) → Vertex → List Carried → ℕ
  pub rows : (returns : ℕ) → List Carried → ℕ

-- what a step adds, by what it is of
abbrev pub adds : Weighing → Origin → List Carried → List Carried → ℕ
adds W (OfNode g v) ks rs = W.weights.of_node g v ks rs
adds W (OfInputs g v) ks rs = W.inputs g v ks
adds W (OfResults g) ks rs = W.weights.of_results g ks
adds W (OfRows b r) ks rs = W.weights.of_results b ks + W.rows r ks
adds W OfNothing ks rs = 0

-- ---- where lines lie

-- these steps lie in code from a place on, and add what they are to add
abbrev pub Lie : Weighing → Code → Weigh → (place : ℕ) → List Line → Type 0
Lie W code weigh a [] = Unit {0}
Lie W code weigh a (l ∷ ls) = (code a ≡ l.step) × ((ks rs : List Carried) → weigh a ks rs ≡ adds W l.origin ks rs) × Lie W code weigh (suc a) ls

-- the code that has these lines from its beginning on, and behind them no more
abbrev pub last_line : Line
last_line = line OfNothing (Return [])

abbrev pub code_at : List Line → Code
code_at ls pc = (get_or ls pc last_line).step

abbrev pub weigh_at : Weighing → List Line → Weigh
weigh_at W ls pc ks rs = adds W (get_or ls pc last_line).origin ks rs

-- ---- what is asked

abbrev pub All : (ℕ → Type 0) → List ℕ → Type 0
All P [] = Unit {0}
All P (g ∷ gs) = P g × All P gs

module _ (P : Plan) (W : Weighing) (u : Network) (order : ℕ → List Vertex) (functions : List ℕ) where
  -- the plan has the nodes of this graph in its order, and its results
  abbrev pub IsPlanned : ℕ → Type 0
  IsPlanned g = (order g ≡ P.nodes g) × ((u g).results ≡ P.results g)

  -- the plan's inputs of a compound node that are copied add what the node adds
  abbrev pub ArePicked : (graph : ℕ) → Vertex → Type 0
  ArePicked g v = (ks rs : List Carried) → W.inputs g v (picked (P.picks g v) ks) ≡ W.weights.of_node g v ks rs

  -- the results of a test or selector are one, and add nothing
  abbrev pub IsChoice : ℕ → Type 0
  IsChoice g = (length (P.results g) ≡ 1) × ((ks : List Carried) → W.weights.of_results g ks ≡ 0)

  -- what a returns collects are results of so many, and on these it is done as the nodes of another graph
  abbrev pub IsRefolded : (plain many returns : ℕ) → (extra : List Carried → ℕ) → Type 0
  IsRefolded plain m r extra =
      AreWithin m (P.collects r) × Refolds W.weights plain m (P.collects r) r (P.refolded r) (order r) (u r).results (P.nodes (P.refolded r)) (P.results (P.refolded r)) extra

  -- `lays` says that a graph can be laid
  module _ (lays : ℕ → Type 0) where
    abbrev pub IsInner : ℕ → Type 0
    IsInner g = IsPlanned g × lays g

    -- a loop's body has as many results as its init, and what is put to collections adds nothing
    abbrev pub IsLoopRight : (graph : ℕ) → Vertex → (init test body returns w : ℕ) → Type 0
    IsLoopRight g v i t b r w =
        (w ≡ P.width v) × ArePicked g v × IsInner i × IsInner t × IsChoice t × IsInner b × (length (P.results b) ≡ length (P.results i))
        × lays (P.refolded r) × ((extra : List Carried → ℕ) × IsRefolded (length v.ins) (length (P.results i)) r extra × ((row : List Carried) → extra row ≡ 0))

    abbrev pub IsKindRight : (graph : ℕ) → Vertex → Kind → Type 0
    IsKindRight g v (Plain row shape) = Unit {0}
    IsKindRight g v (Whole (form.Call f)) = IsIn f functions × (length v.ins ≡ P.params f) × ((ks rs : List Carried) → W.weights.of_node g v ks [] ≡ W.weights.of_node g v ks rs)
    IsKindRight g v (Whole (form.Select s gs w)) = (w ≡ P.width v) × ArePicked g v × IsInner s × IsChoice s × All IsInner gs
    IsKindRight g v (Whole (form.TagCase gs w)) = (w ≡ P.width v) × ArePicked g v × (1 ≤ length v.ins) × All IsInner gs
    IsKindRight g v (Whole (form.LoopA i t b r w)) = IsLoopRight g v i t b r w
    IsKindRight g v (Whole (form.LoopB i t b r w)) = IsLoopRight g v i t b r w
    IsKindRight g v (Whole (form.ForAll e b r m w)) =
        (w ≡ P.width v) × ArePicked g v × IsInner e × IsInner b × (length (P.results b) ≡ m) × lays (P.refolded r) × IsRefolded (length v.ins + length (P.results e)) m r (W.rows r)

    -- nodes read what was given before them, labels stand once, and each node is right
    pub record IsRight (g : ℕ) : Type 0 where
      pub readable : AreReadable P.width (P.nodes g) (P.results g)
      pub once : LabelsOnce (P.nodes g)
      pub kinds : EachNode (λ v. IsKindRight g v v.kind) (P.nodes g)

  -- the graph can be laid, and the graphs inside it, at most so many levels deep
  abbrev pub CanLay : (levels : ℕ) → ℕ → Type 0
  CanLay zero g = ⊥
  CanLay (suc n) g = IsRight (CanLay n) g

  -- A plan of a unit and its functions, which is followed down to so many levels: the tables are right at each graph, functions begin
  -- where those before them end, and each function can be laid.
  pub record IsRightPlan (levels : ℕ) : Type 0 where
    pub sized : (g : ℕ) → IsSized P g
    pub entries : (f : ℕ) → IsIn f functions → P.entry f ≡ entry_from P functions 0 f
    pub graphs : (f : ℕ) → IsIn f functions → IsPlanned f × CanLay levels f

  -- code of the plan's functions, with what each place adds
  abbrev pub laid_as : Code → Weigh → Layout
  laid_as code weigh =
      record {
        weights = W.weights;
        network = u;
        order = order;
        width = P.width;
        code = code;
        weigh = weigh;
        functions = functions;
        entry = P.entry;
        size = room_of P;
        params = P.params;
      }

  abbrev pub lines_of : (levels : ℕ) → List Line
  lines_of n = functions_lines P n functions 0

  -- what is made of the plan
  abbrev pub laid : (levels : ℕ) → Layout
  laid n = laid_as (code_at (lines_of n)) (weigh_at W (lines_of n))

-- where the block of a function ends
abbrev pub end_of : Plan → (function : ℕ) → ℕ
end_of P f = suc (P.entry f + P.size f)
