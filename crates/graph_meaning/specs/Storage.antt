-- What a run copies and writes: sums over each time that an edge carries a value, by the recursion of the cost.
--
-- Only what is an aggregate by the type of its edge counts. An edge whose node takes its aggregate to change it in place is
-- not copied.
use Rattle.std.specs.Prelude.{◌≡◌, ℕ, suc, ◌+◌, ◌*◌, Bool, true, false, if◌then◌else◌, ◌&&◌, not, List, [], ◌∷◌, map, drop, min, length, sum, Option, Some}
use Rattle.loop_folds.specs.Leaves.{leaf_count, leaf_count_of_all}
use Rattle.loop_folds.specs.Val.{Val}
use Rattle.loop_folds.specs.Val.TheOpen.{Val-F}
use Rattle.loop_folds.specs.Val.TheViews.{out-Val}
use Rattle.loop_folds.specs.declared.masking.Keep.TheVariants.{Kept}
use Rattle.loop_folds.specs.Clauses.{Cell}
use Rattle.if1_graph.specs.Ops.{reducer_at}
use Rattle.if1_graph.specs.Rows.{operand_of}
use Rattle.if1_graph.specs.declared.op.Reducer.{Reducer}
use Rattle.if1_graph.specs.declared.op.Reducer.TheVariants as reducer
use Rattle.if1_graph.specs.declared.op.Simple.{Simple}
use Rattle.if1_graph.specs.declared.op.Simple.TheVariants as simple
use Rattle.if1_marks.specs.Given.{is_operand_consumed}
use Rattle.graph_meaning.specs.Carried.{Carried, Value, Many, Spoiled, Name, Unfilled}
use Rattle.graph_meaning.specs.NodeValues.{Shape, cells_of}
use Rattle.graph_meaning.specs.Forms.{Form, Call, Next, Stage, Enter, Iterate, Leave, next_of, first, follow, gather}
use Rattle.graph_meaning.specs.Demand.{Kind, Plain, Whole, Vertex, Network}
use Rattle.graph_meaning.specs.Plain.{is_deeper, CarryAll, Outputs, MeanAll}

-- ---- a sum by the recursion of the cost

-- What each firing of a node in a graph adds by its operands and outputs, and what the results of an entered graph add.
pub record Weights : Type 0 where
  pub of_node : (graph : ℕ) → Vertex → List Carried → List Carried → ℕ
  pub of_results : (graph : ℕ) → List Carried → ℕ

mutual
  -- what these nodes of a graph add, used or not, and all graphs that they enter
  pub data NodesAdd (u : Network) (w : Weights) : (depth graph : ℕ) → List Carried → List Vertex → ℕ → Type 0 where
    no_node : (n g : ℕ) (ins : List Carried) → NodesAdd u w n g ins [] 0
    a_node : (n g : ℕ) (ins : List Carried) (v : Vertex) (vs : List Vertex) (ks rs : List Carried) (c d : ℕ)
        → CarryAll u n g ins v.ins ks
        → Outputs u n v.kind ks rs
        → InnerAdds u w n v.kind ks c
        → NodesAdd u w n g ins vs d
        → NodesAdd u w n g ins (v ∷ vs) (w.of_node g v ks rs + (c + d))

  -- what the graphs add that a node of this kind enters on its operands
  pub data InnerAdds (u : Network) (w : Weights) : (depth : ℕ) → Kind → List Carried → ℕ → Type 0 where
    of_simple : (n : ℕ) (row : Simple) (shape : Shape) (ks : List Carried) → InnerAdds u w n (Plain row shape) ks 0
    of_whole : (n : ℕ) (form : Form) (ks : List Carried) (c : ℕ) → LaterAdds u w n form ks (next_of (first form ks)) c → InnerAdds u w n (Whole form) ks c

  pub data LaterAdds (u : Network) (w : Weights) : (depth : ℕ) → Form → List Carried → Next → ℕ → Type 0 where
    of_leaving : (n : ℕ) (form : Form) (ks rs : List Carried) → LaterAdds u w n form ks (Leave rs) 0
    of_graph : (n : ℕ) (form : Form) (ks : List Carried) (turn : Bool) (g : ℕ) (ins : List Carried) (stage : Stage) (ms : List Carried) (c d : ℕ)
        → is_deeper form turn ≡ false
        → CarryAll u n g ins (u g).results ms
        → GraphAdds u w n g ins c
        → LaterAdds u w n form ks (follow form ks stage ms) d
        → LaterAdds u w n form ks (Enter turn g ins stage) (c + d)
    of_deeper : (n : ℕ) (form : Form) (ks : List Carried) (turn : Bool) (g : ℕ) (ins : List Carried) (stage : Stage) (ms : List Carried) (c d : ℕ)
        → is_deeper form turn ≡ true
        → CarryAll u n g ins (u g).results ms
        → GraphAdds u w n g ins c
        → LaterAdds u w n form ks (follow form ks stage ms) d
        → LaterAdds u w (suc n) form ks (Enter turn g ins stage) (c + d)
    of_iterations : (n : ℕ) (form : Form) (ks : List Carried) (g : ℕ) (row : List Carried) (rows : List (List Carried)) (ms : List Carried) (lists : List (List Carried)) (c d : ℕ)
        → MeanAll u n g (row ∷ rows) lists
        → RowsAdd u w n g (row ∷ rows) c
        → LaterAdds u w n form ks (gather form ks ms lists) d
        → LaterAdds u w n form ks (Iterate g row rows ms) (c + d)

  pub data RowsAdd (u : Network) (w : Weights) : (depth graph : ℕ) → List (List Carried) → ℕ → Type 0 where
    of_no_row : (n g : ℕ) → RowsAdd u w n g [] 0
    of_row : (n g : ℕ) (ins : List Carried) (rows : List (List Carried)) (c d : ℕ)
        → GraphAdds u w n g ins c
        → RowsAdd u w n g rows d
        → RowsAdd u w n g (ins ∷ rows) (c + d)

  -- what a graph adds with its results
  pub data GraphAdds (u : Network) (w : Weights) : (depth graph : ℕ) → List Carried → ℕ → Type 0 where
    of_nodes : (n g : ℕ) (ins rs : List Carried) (c : ℕ)
        → CarryAll u n g ins (u g).results rs
        → NodesAdd u w n g ins (u g).nodes c
        → GraphAdds u w n g ins (w.of_results g rs + c)

-- ---- what is known of the edges of each graph

-- By the number of a graph, the label of a node and a port from 1, node 0 for the boundary.
pub record Storage : Type 0 where
  -- what is carried into this port is an aggregate
  pub is_aggregate : (graph node port : ℕ) → Bool
  -- the node takes what is carried there to change it in place
  pub is_taken : (graph node port : ℕ) → Bool
  -- what is carried into this port of a Call or compound node is consumed inside
  pub is_given : (graph node port : ℕ) → Bool
  -- this output is an aggregate
  pub is_made : (graph node port : ℕ) → Bool
  -- an edge leaves this output
  pub is_used : (graph node port : ℕ) → Bool
  -- an ACatenate takes the result of this node
  pub is_joined : (graph node : ℕ) → Bool

-- ---- leaves and elements

-- A multiple has the leaves of its elements, and an error multiple has 1.
abbrev pub leaves_of : Carried → ℕ
leaves_of (Value v) = leaf_count v
leaves_of (Many vs) = leaf_count_of_all vs
leaves_of (Spoiled c) = 1
leaves_of (Name text) = 0
leaves_of Unfilled = 0

abbrev pub elements_in : Val-F Val → ℕ
elements_in (Val-F.Arr a) = length a.items
elements_in (Val-F.Stream vs) = length vs
elements_in _ = 0

-- how many elements the array or stream has, none where it is an error
abbrev pub elements_of : List Carried → ℕ
elements_of (Value v ∷ cs) = elements_in (out-Val v)
elements_of _ = 0

-- the leaves of the ports that pass a test, counted from this port
abbrev pub leaves_at : (ℕ → Bool) → ℕ → List Carried → ℕ
leaves_at test port [] = 0
leaves_at test port (c ∷ cs) = (if test port then leaves_of c else 0) + leaves_at test (suc port) cs

-- the leaves of the kept elements of a multiple, with or without a mask after it
abbrev pub leaves_where : Cell → ℕ
leaves_where (v, Kept) = leaf_count v
leaves_where _ = 0

abbrev pub leaves_kept : Carried → Carried → ℕ
leaves_kept (Many vs) mask = sum (map leaves_where (cells_of vs mask))
leaves_kept m mask = leaves_of m

abbrev pub kept_of : List Carried → ℕ
kept_of (m ∷ []) = leaves_kept m Unfilled
kept_of (m ∷ mask ∷ cs) = leaves_kept m mask
kept_of [] = 0

-- ---- copies

-- whether a simple node consumes what is carried into this port
abbrev pub is_consumed_at : Simple → ℕ → Bool
is_consumed_at row port = is_operand_consumed (operand_of row port)

module _ (s : Storage) where
  -- an aggregate is carried there that is not taken in place
  abbrev pub is_left : (graph node port : ℕ) → Bool
  is_left g l port = s.is_aggregate g l port && not (s.is_taken g l port)

  abbrev pub where_left : ℕ → ℕ → ℕ → ℕ → ℕ
  where_left g l port count = if is_left g l port then count else 0

  abbrev pub last_copied : ℕ → ℕ → List Carried → List Carried → ℕ
  last_copied g l (m ∷ []) rs = where_left g l 1 (leaves_at (λ port. true) 1 rs)
  last_copied g l ks rs = where_left g l 1 (kept_of ks)

  abbrev pub filled_copied : ℕ → ℕ → List Carried → List Carried → ℕ
  filled_copied g l (lo ∷ hi ∷ v ∷ []) rs = if s.is_aggregate g l 3 then elements_of rs * leaves_of v else 0
  filled_copied g l ks rs = 0

  -- what a firing of a simple node copies: each operand that it consumes, of a multiple the kept elements, of a last value
  -- without a mask the result; an element that is handed out; what fills an array as often as it has places
  abbrev pub copied_by : ℕ → ℕ → Simple → List Carried → List Carried → ℕ
  copied_by g l simple.FinalValue ks rs = last_copied g l ks rs
  copied_by g l simple.AGather ks rs = where_left g l 2 (kept_of (drop 1 ks))
  copied_by g l (simple.Reduce grouping) ks rs = where_left g l 2 (kept_of (drop 1 ks))
  copied_by g l simple.AFill ks rs = filled_copied g l ks rs
  copied_by g l simple.AElement ks rs = leaves_at (s.is_made g l) 1 rs
  copied_by g l simple.FirstValue ks rs = leaves_at (s.is_made g l) 1 rs
  copied_by g l simple.RElements ks rs = leaves_at (λ port. s.is_made g l port && s.is_used g l port) 1 rs
  copied_by g l row ks rs = leaves_at (λ port. is_consumed_at row port && is_left g l port) 1 ks

  -- of a Call or compound node, what is given; the arguments of a Call are its ports from 2 on
  abbrev pub given_copied : ℕ → ℕ → ℕ → List Carried → ℕ
  given_copied g l port ks = leaves_at (λ port. s.is_given g l port && is_left g l port) port ks

  abbrev pub node_copied : ℕ → ℕ → Kind → List Carried → List Carried → ℕ
  node_copied g l (Plain row shape) ks rs = copied_by g l row ks rs
  node_copied g l (Whole (Call f)) ks rs = given_copied g l 2 ks
  node_copied g l (Whole form) ks rs = given_copied g l 1 ks

  abbrev pub copying : Weights
  copying = record { of_node = λ g v ks rs. node_copied g v.label v.kind ks rs; of_results = λ g rs. leaves_at (is_left g 0) 1 rs }

  -- ---- writes

  abbrev pub reduction_written : Option Reducer → List Carried → ℕ
  reduction_written (Some reducer.Catenate) rs = elements_of rs
  reduction_written _ rs = 0

  abbrev pub catenation_written : List Carried → List Carried → ℕ
  catenation_written (Name text ∷ ks) rs = reduction_written (reducer_at text) rs
  catenation_written ks rs = 0

  -- what a firing of a simple node writes: the elements of what it builds anew
  abbrev pub written_by : ℕ → ℕ → Simple → List Carried → List Carried → ℕ
  written_by g l simple.ABuild ks rs = elements_of rs
  written_by g l simple.AFill ks rs = elements_of rs
  written_by g l simple.AGather ks rs = elements_of rs
  written_by g l (simple.Reduce grouping) ks rs = catenation_written ks rs
  written_by g l simple.ACatenate ks rs = if s.is_joined g l then 0 else elements_of rs
  written_by g l row ks rs = 0

  abbrev pub node_written : ℕ → ℕ → Kind → List Carried → List Carried → ℕ
  node_written g l (Plain row shape) ks rs = written_by g l row ks rs
  node_written g l (Whole form) ks rs = 0

  abbrev pub writing : Weights
  writing = record { of_node = λ g v ks rs. node_written g v.label v.kind ks rs; of_results = λ g rs. 0 }

-- a total is given as a number of 64 bits, and one past them as the greatest
abbrev pub capped : ℕ → ℕ
capped n = min n 18446744073709551615

-- so many leaves are copied, and so many elements written, by a graph on its inputs
abbrev pub Copies : Storage → Network → (depth graph : ℕ) → List Carried → ℕ → Type 0
Copies s u n g ins total = (c : ℕ) × GraphAdds u (copying s) n g ins c × (total ≡ capped c)

abbrev pub Writes : Storage → Network → (depth graph : ℕ) → List Carried → ℕ → Type 0
Writes s u n g ins total = (c : ℕ) × GraphAdds u (writing s) n g ins c × (total ≡ capped c)
