-- The making of code, along the orders of graphs.
--
-- How many steps and cells each graph takes is known before its steps are laid, by two tables, so each place is known when a step that
-- goes there is laid. Graphs inside nodes are followed down to a number of levels.
use Rattle.std.specs.Prelude.{◌≡◌, ℕ, zero, suc, ◌+◌, ◌-◌, max, eqb, ltb, if◌then◌else◌, Bool, true, false, List, [], ◌∷◌, ◌++◌, map, drop, length, get_or}
use Rattle.ordered_meaning.specs.Carried.{Unfilled}
use Rattle.ordered_meaning.specs.Forms as form
use Rattle.ordered_meaning.specs.Demand.{Source, Kind, Plain, Whole, Vertex}
use Rattle.run_code.specs.Cells.{Operand, At, Lit, cells_at, picked, own_cells}
use Rattle.run_code.specs.Coded.{Places, operand}
use Rattle.run_code.specs.Collections.{Collect, Sifts, Final, sifts_in}
use Rattle.run_code.specs.Steps.{Step, Fire, Count, Move, Tag, Branch, Test, Keep, Spread, Each, Add, Call, Return}

-- What code is made of: the nodes of each graph in their order and its results, how many outputs a node has, which inputs of a
-- compound node are copied, and of each returns what it collects and the graph that does it on collections. Of each function its
-- inputs and its entry, and of each graph how many steps and cells it takes.
pub record Plan : Type 0 where
  pub nodes : (graph : ℕ) → List Vertex
  pub results : (graph : ℕ) → List Source
  pub width : Vertex → ℕ
  pub picks : (graph : ℕ) → Vertex → List Bool
  pub collects : (returns : ℕ) → List Collect
  pub refolded : (returns : ℕ) → ℕ
  pub params : (function : ℕ) → ℕ
  pub entry : (function : ℕ) → ℕ
  pub size : (graph : ℕ) → ℕ
  pub extent : (graph : ℕ) → ℕ

-- Of what a step is: of a simple node or Call of a graph, of the inputs of a compound node that are copied, of the results of a graph,
-- or of those of a body that are put to what a returns collects. Others add nothing.
pub data Origin : Type 0 where
  OfNode : (graph : ℕ) (vertex : Vertex) → Origin
  OfInputs : (graph : ℕ) (vertex : Vertex) → Origin
  OfResults : (graph : ℕ) → Origin
  OfRows : (body returns : ℕ) → Origin
  OfNothing : Origin

-- a step with what it is of
pub record Line : Type 0 where
  pub step : Step
  pub origin : Origin

abbrev pub line : Origin → Step → Line
line o x = record { step = x; origin = o }

module _ (P : Plan) where
  -- ---- how many steps

  -- each arm has one more, which brings its results to their cells
  abbrev pub arms_size : List ℕ → ℕ
  arms_size [] = 0
  arms_size (g ∷ gs) = suc (P.size g) + arms_size gs

  -- the first loop values, the body and the test have one more each, and the returns brings its results to their cells
  abbrev pub loop_size : (init test body returns : ℕ) → ℕ
  loop_size i t b r = suc (P.size i) + (suc (P.size b) + (suc (P.size t) + suc (P.size (P.refolded r))))

  -- a compound node is counted and brings its copies to their cells before its parts
  abbrev pub kind_size : Kind → ℕ
  kind_size (Plain row shape) = 1
  kind_size (Whole (form.Call f)) = 1
  kind_size (Whole (form.Select s gs w)) = 2 + (suc (P.size s) + arms_size gs)
  kind_size (Whole (form.TagCase gs w)) = 2 + suc (arms_size gs)
  kind_size (Whole (form.LoopA i t b r w)) = 2 + suc (loop_size i t b r)
  kind_size (Whole (form.LoopB i t b r w)) = 2 + loop_size i t b r
  kind_size (Whole (form.ForAll g b r m w)) = 2 + (suc (P.size g) + (suc (P.size b) + suc (suc (P.size (P.refolded r)))))

  abbrev pub nodes_size : List Vertex → ℕ
  nodes_size [] = 0
  nodes_size (v ∷ vs) = kind_size v.kind + nodes_size vs

  -- ---- how many cells

  abbrev pub greatest_extent : List ℕ → ℕ
  greatest_extent [] = 0
  greatest_extent (g ∷ gs) = max (P.extent g) (greatest_extent gs)

  -- a loop's parts stand behind a cell for each collection; where it collects last values, some of these are not used
  abbrev pub loop_extent : (init test body returns : ℕ) → ℕ
  loop_extent i t b r = max (P.extent i) (length (P.results i) + (length (P.collects r) + greatest_extent (t ∷ b ∷ P.refolded r ∷ [])))

  -- what the parts of a node take, behind its outputs and copies
  abbrev pub parts_extent : Kind → ℕ
  parts_extent (Plain row shape) = 0
  parts_extent (Whole (form.Call f)) = 0
  parts_extent (Whole (form.Select s gs w)) = greatest_extent (s ∷ gs)
  parts_extent (Whole (form.TagCase gs w)) = suc (greatest_extent gs)
  parts_extent (Whole (form.LoopA i t b r w)) = loop_extent i t b r
  parts_extent (Whole (form.LoopB i t b r w)) = loop_extent i t b r
  parts_extent (Whole (form.ForAll g b r m w)) =
      max (P.extent g) (length (P.results g) + (length (P.collects r) + max (suc (length (P.results g)) + P.extent b) (P.extent (P.refolded r))))

  abbrev pub nodes_extent : (graph : ℕ) → List Vertex → ℕ
  nodes_extent g [] = 0
  nodes_extent g (v ∷ vs) = max (P.width v + (length (picked (P.picks g v) v.ins) + parts_extent v.kind)) (P.width v + nodes_extent g vs)

  -- the tables are right at a graph
  abbrev pub IsSized : (graph : ℕ) → Type 0
  IsSized g = (P.size g ≡ nodes_size (P.nodes g)) × (P.extent g ≡ nodes_extent g (P.nodes g))

  -- the block of a function
  abbrev pub room_of : (function : ℕ) → ℕ
  room_of f = P.params f + P.extent f

  -- ---- where ports stand

  -- the outputs of these nodes stand behind one another from a cell on
  abbrev pub put : List Vertex → ℕ → Places
  put [] lo l p = Lit Unfilled
  put (v ∷ vs) lo l p = if eqb v.label l then (if ltb (p - 1) (P.width v) then At (lo + (p - 1)) else Lit Unfilled) else put vs (lo + P.width v) l p

  -- and the inputs of their graph are these operands
  abbrev pub placed : List Operand → List Vertex → ℕ → Places
  placed args vs lo zero p = get_or args (p - 1) (Lit Unfilled)
  placed args vs lo (suc l) p = put vs lo (suc l) p

  -- what the results of a graph are, on these operands and with its nodes from a cell on
  abbrev pub ends_at : List Operand → (graph lo : ℕ) → List Operand
  ends_at args g lo = map (operand (placed args (P.nodes g) lo)) (P.results g)

  -- the one result of a test or selector
  abbrev pub end_at : List Operand → (graph lo : ℕ) → Operand
  end_at args g lo = get_or (ends_at args g lo) 0 (Lit Unfilled)

  -- what is sifted stands from one cell on; a last value stands in the cell of its loop value
  abbrev pub stand : List Collect → (own first : ℕ) → List Operand
  stand [] own first = []
  stand (Sifts j mask ∷ cs) own first = At own ∷ stand cs (suc own) first
  stand (Final j ∷ cs) own first = At (first + j) ∷ stand cs own first

  -- ---- steps

  -- the steps of a graph on these operands, from a place and a cell on, in a block of so many cells
  abbrev pub Makes : Type 0
  Makes = (room : ℕ) → List Operand → (graph place lo : ℕ) → List Line

  module _ (make : Makes) (room : ℕ) where
    -- and of an arm, which brings its results to the cells of its node
    abbrev pub arm_code : List Operand → (graph place w b lo up : ℕ) → List Line
    arm_code args g t w b lo up = make room args g t up ++ (line (OfResults g) (Move (ends_at args g up) lo w b) ∷ [])

    abbrev pub arms_code : List Operand → List ℕ → (place w b lo up : ℕ) → List Line
    arms_code args [] t w b lo up = []
    arms_code args (g ∷ gs) t w b lo up = arm_code args g t w b lo up ++ arms_code args gs (t + suc (P.size g)) w b lo up

    -- where each arm begins
    abbrev pub arms_at : List ℕ → (place : ℕ) → List ℕ
    arms_at [] t = []
    arms_at (g ∷ gs) t = t ∷ arms_at gs (t + suc (P.size g))

    -- The parts of a node, from a place and a cell on, with the node's outputs in w cells from lo on; b is the place behind the node.

    abbrev pub select_code : List Operand → (selector : ℕ) → List ℕ → (place w b lo mid : ℕ) → List Line
    select_code own s gs a w b lo mid =
        make room own s a mid
        ++ (line OfNothing (Branch (end_at own s mid) (arms_at gs (suc (a + P.size s))) lo w b) ∷ arms_code own gs (suc (a + P.size s)) w b lo mid)

    abbrev pub tag_code : List Operand → List ℕ → (place w b lo mid : ℕ) → List Line
    tag_code own gs a w b lo mid =
        line OfNothing (Tag (get_or own 0 (Lit Unfilled)) (arms_at gs (suc a)) mid lo w b) ∷ arms_code (At mid ∷ drop 1 own) gs (suc a) w b lo (suc mid)

    -- A loop, whose first values lead to a place: to the count of the first turn, or to the test. The body stands before the test.
    abbrev pub loop_code : List Operand → (init test body returns : ℕ) → (begin : List Line) → (starts turn a w b lo mid n k : ℕ) → List Line
    loop_code own i t body r begin starts turn a w b lo mid n k =
        make room own i a mid
        ++ (line (OfResults i) (Keep true (sifts_in (P.collects r)) (ends_at own i mid) mid starts)
        ∷ (begin
        ++ (make room (own ++ cells_at mid n) body turn (mid + (n + k))
        ++ (line (OfResults body) (Keep false (sifts_in (P.collects r)) (ends_at (own ++ cells_at mid n) body (mid + (n + k))) mid (suc (turn + P.size body)))
        ∷ (make room (own ++ cells_at mid n) t (suc (turn + P.size body)) (mid + (n + k))
        ++ (line OfNothing (Test (end_at (own ++ cells_at mid n) t (mid + (n + k))) turn (suc (suc (turn + P.size body) + P.size t)) lo w b)
        ∷ arm_code (own ++ stand (P.collects r) (mid + n) mid) (P.refolded r) (suc (suc (turn + P.size body) + P.size t)) w b lo (mid + (n + k))))))))

    abbrev pub for_all_code : List Operand → (generator body returns : ℕ) → (turn a w b lo mid n k : ℕ) → List Line
    for_all_code own g body r turn a w b lo mid n k =
        make room own g a mid
        ++ (line (OfResults g) (Spread (ends_at own g mid) (P.collects r) mid (suc (turn + P.size body)) lo w b)
        ∷ (make room (own ++ cells_at (suc (mid + (n + k))) n) body turn (suc (mid + (n + k)) + n)
        ++ (line (OfRows body r) (Add (P.collects r) (ends_at (own ++ cells_at (suc (mid + (n + k))) n) body (suc (mid + (n + k)) + n)) (mid + n) (suc (turn + P.size body)))
        ∷ (line OfNothing (Each n mid (mid + (n + k)) turn (suc (suc (turn + P.size body))))
        ∷ arm_code ((own ++ cells_at mid n) ++ cells_at (mid + n) k) (P.refolded r) (suc (suc (turn + P.size body))) w b lo (mid + (n + k))))))

    abbrev pub parts_code : List Operand → Kind → (place w b lo mid : ℕ) → List Line
    parts_code own (Plain row shape) a w b lo mid = []
    parts_code own (Whole (form.Call f)) a w b lo mid = []
    parts_code own (Whole (form.Select s gs outputs)) a w b lo mid = select_code own s gs a w b lo mid
    parts_code own (Whole (form.TagCase gs outputs)) a w b lo mid = tag_code own gs a w b lo mid
    parts_code own (Whole (form.LoopA i t body r outputs)) a w b lo mid =
        loop_code own i t body r (line OfNothing Count ∷ []) (suc (a + P.size i)) (suc (suc (a + P.size i))) a w b lo mid (length (P.results i)) (length (P.collects r))
    parts_code own (Whole (form.LoopB i t body r outputs)) a w b lo mid =
        loop_code own i t body r [] (suc (suc (a + P.size i) + P.size body)) (suc (a + P.size i)) a w b lo mid (length (P.results i)) (length (P.collects r))
    parts_code own (Whole (form.ForAll g body r m outputs)) a w b lo mid = for_all_code own g body r (suc (a + P.size g)) a w b lo mid (length (P.results g)) (length (P.collects r))

    -- the steps of a node of a graph
    abbrev pub kind_code : (graph : ℕ) → Vertex → List Operand → Kind → (w a lo : ℕ) → List Line
    kind_code g v args (Plain row shape) w a lo = line (OfNode g v) (Fire row shape args lo w) ∷ []
    kind_code g v args (Whole (form.Call f)) w a lo = line (OfNode g v) (Call (P.entry f) room args lo w) ∷ []
    kind_code g v args kind w a lo =
        line OfNothing Count ∷ line (OfInputs g v) (Move (picked (P.picks g v) args) (lo + w) (length (picked (P.picks g v) args)) (suc (suc a)))
        ∷ parts_code (own_cells (P.picks g v) args (lo + w)) kind (suc (suc a)) w (a + kind_size kind) lo ((lo + w) + length (picked (P.picks g v) args))

    abbrev pub nodes_code : (graph : ℕ) → Places → List Vertex → (a lo : ℕ) → List Line
    nodes_code g places [] a lo = []
    nodes_code g places (v ∷ vs) a lo = kind_code g v (map (operand places) v.ins) v.kind (P.width v) a lo ++ nodes_code g places vs (a + kind_size v.kind) (lo + P.width v)

  -- graphs, so many levels down
  abbrev pub graph_code : (levels : ℕ) → Makes
  graph_code zero room args g a lo = []
  graph_code (suc n) room args g a lo = nodes_code (graph_code n) room g (placed args (P.nodes g) lo) (P.nodes g) a lo

  -- a function, from a place on
  abbrev pub function_lines : (levels function place : ℕ) → List Line
  function_lines n f a =
      graph_code n (room_of f) (cells_at 0 (P.params f)) f a (P.params f) ++ (line (OfResults f) (Return (ends_at (cells_at 0 (P.params f)) f (P.params f))) ∷ [])

  abbrev pub function_code : (levels function place : ℕ) → List Step
  function_code n f a = map (λ l. l.step) (function_lines n f a)

  -- ---- functions, behind one another

  abbrev pub functions_lines : (levels : ℕ) → List ℕ → (place : ℕ) → List Line
  functions_lines n [] a = []
  functions_lines n (f ∷ fs) a = function_lines n f a ++ functions_lines n fs (a + suc (P.size f))

  -- each has one step more than its graph, which leaves its block
  abbrev pub functions_size : List ℕ → ℕ
  functions_size [] = 0
  functions_size (f ∷ fs) = suc (P.size f) + functions_size fs

  -- where a function begins, where the first of these begins at a place
  abbrev pub entry_from : List ℕ → (place function : ℕ) → ℕ
  entry_from [] a f = a
  entry_from (h ∷ hs) a f = if eqb h f then a else entry_from hs (a + suc (P.size h)) f
