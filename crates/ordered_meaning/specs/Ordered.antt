-- The ordered meaning: what a graph gives, what it costs and what it adds up, where the nodes of each graph fire one after
-- another in an order that is given.
--
-- A node reads its operands among the values that are bound so far, and binds its outputs. So nothing is demanded, and results,
-- firings and sums come by one recursion. What a compound node enters stands in the same table of forms by which the
-- definition of record goes. What stands here with a number of steps stands with every greater one.
use Rattle.std.specs.Prelude.{◌≡◌, ℕ, zero, suc, ◌+◌, ◌-◌, eqb, if◌then◌else◌, List, [], ◌∷◌, get_or, Option, Some, None}
use Rattle.graph_meaning.specs.Carried.{Carried, Unfilled}
use Rattle.graph_meaning.specs.NodeValues.{op}
use Rattle.graph_meaning.specs.Forms.{Form, Next, Enter, Iterate, Leave, next_of, first, follow, gather}
use Rattle.graph_meaning.specs.Entered.{entry_fires}
use Rattle.graph_meaning.specs.Demand.{Source, Port, Fixed, Kind, Plain, Whole, Vertex, Network}

-- ---- what is bound

-- the inputs of a graph, and the outputs of the nodes that have fired, the last one first
pub data Bindings : Type 0 where
  Inputs : (values : List Carried) → Bindings
  Fired : (label : ℕ) (values : List Carried) (others : Bindings) → Bindings

-- What an output carries, where node 0 stands for the inputs of the graph. A port that a node or graph does not have carries
-- nothing.
abbrev pub bound : Bindings → (node port : ℕ) → Option Carried
bound (Inputs ks) zero p = Some (get_or ks (p - 1) Unfilled)
bound (Inputs ks) (suc l) p = None
bound (Fired label rs others) l p = if eqb l label then Some (get_or rs (p - 1) Unfilled) else bound others l p

abbrev pub Reads : Bindings → Source → Carried → Type 0
Reads env (Fixed c) k = k ≡ c
Reads env (Port l p) k = bound env l p ≡ Some k

abbrev pub ReadsAll : Bindings → List Source → List Carried → Type 0
ReadsAll env [] [] = Unit {0}
ReadsAll env [] (k ∷ ks) = ⊥
ReadsAll env (o ∷ os) [] = ⊥
ReadsAll env (o ∷ os) (k ∷ ks) = Reads env o k × ReadsAll env os ks

-- ---- what is added up

-- What each firing of a node in a graph adds by its operands and outputs, and what the results of an entered graph add. No law
-- is asked of the sum.
pub record Tally : Type 1 where
  pub Sum : Type 0
  pub none : Sum
  pub plus : Sum → Sum → Sum
  pub of_node : (graph : ℕ) → Vertex → List Carried → List Carried → Sum
  pub of_results : (graph : ℕ) → List Carried → Sum

module _ (T : Tally) where
  -- the firings, and the sum
  pub record Total : Type 0 where
    pub fires : ℕ
    pub sum : T.Sum

  abbrev pub nothing : Total
  nothing = record { fires = 0; sum = T.none }

  -- so many firings and this sum, with two totals
  abbrev pub with_both : ℕ → T.Sum → Total → Total → Total
  with_both f s a b = record { fires = f + (a.fires + b.fires); sum = T.plus s (T.plus a.sum b.sum) }

  -- a total with what results add
  abbrev pub and_results : Total → T.Sum → Total
  and_results a s = record { fires = a.fires; sum = T.plus a.sum s }

  -- ---- nodes, graphs and steps

  -- what a node of this form on its operands gives from here on, and the total of what it enters
  abbrev pub Rest : Type 1
  Rest = Form → List Carried → Next → List Carried → Total → Type 0

  abbrev pub KindYields : Rest → Kind → List Carried → List Carried → Total → Type 0
  KindYields rest (Plain row shape) ks rs t = (rs ≡ op row shape ks) × (t ≡ nothing)
  KindYields rest (Whole form) ks rs t = rest form ks (next_of (first form ks)) rs t

  -- a node reads its operands, and gives its outputs
  pub record NodeYields (rest : Rest) (env : Bindings) (v : Vertex) (rs : List Carried) (t : Total) : Type 0 where
    pub operands : List Carried
    pub reads : ReadsAll env v.ins operands
    pub gives : KindYields rest v.kind operands rs t

  -- these nodes of a graph, one after another: one firing each, and those of what it enters
  abbrev pub NodesYield : Rest → (graph : ℕ) → Bindings → List Vertex → Bindings → Total → Type 0
  NodesYield rest g env [] after t = (after ≡ env) × (t ≡ nothing)
  NodesYield rest g env (v ∷ vs) after t =
      (rs : List Carried) × (inner : Total) × (later : Total) × (node : NodeYields rest env v rs inner)
      × NodesYield rest g (Fired v.label rs env) vs after later × (t ≡ with_both 1 (T.of_node g v node.operands rs) inner later)

  module _ (u : Network) (order : (graph : ℕ) → List Vertex) where
    -- a graph on its inputs
    abbrev pub GraphYields : Rest → (graph : ℕ) → List Carried → List Carried → Total → Type 0
    GraphYields rest g ins rs t =
        (after : Bindings) × (nodes : Total) × NodesYield rest g (Inputs ins) (order g) after nodes × ReadsAll after (u g).results rs × (t ≡ and_results nodes (T.of_results g rs))

    -- a graph on each of several lists of inputs: one firing for each, and its own
    abbrev pub RowsYield : Rest → (graph : ℕ) → List (List Carried) → List (List Carried) → Total → Type 0
    RowsYield rest g [] lists t = (lists ≡ []) × (t ≡ nothing)
    RowsYield rest g (row ∷ rows) lists t =
        (rs : List Carried) × (more : List (List Carried)) × (one : Total) × (later : Total)
        × GraphYields rest g row rs one × RowsYield rest g rows more later × (lists ≡ rs ∷ more) × (t ≡ with_both 1 T.none one later)

    -- the rest of a node, in so many steps
    abbrev pub Yields : (steps : ℕ) → Rest
    Yields zero form ks next rs t = ⊥
    Yields (suc n) form ks (Leave outs) rs t = (rs ≡ outs) × (t ≡ nothing)
    Yields (suc n) form ks (Enter turn g ins stage) rs t =
        (ms : List Carried) × (inner : Total) × (later : Total) × GraphYields (Yields n) g ins ms inner
        × Yields n form ks (follow form ks stage ms) rs later × (t ≡ with_both (entry_fires turn) T.none inner later)
    Yields (suc n) form ks (Iterate g row rows ms) rs t =
        (lists : List (List Carried)) × (inner : Total) × (later : Total) × RowsYield (Yields n) g (row ∷ rows) lists inner
        × Yields n form ks (gather form ks ms lists) rs later × (t ≡ with_both 0 T.none inner later)

    -- in these orders the graph gives these results on its inputs, with this total
    abbrev pub MeansInOrder : (graph : ℕ) → List Carried → List Carried → Total → Type 0
    MeansInOrder g ins rs t = (n : ℕ) × GraphYields (Yields n) g ins rs t
