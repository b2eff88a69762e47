-- Which steps do which part of which graph, and what each of them adds.
--
-- Each stretch of the code writes cells from one number on and none below. What lies below are the ports whose values may still
-- be read, so a part of a compound node reads the cells of the ports that lend it its inputs, or copies of them that are its own.
use Rattle.std.specs.Prelude.{◌≡◌, ℕ, suc, ◌+◌, ◌-◌, ◌<◌, ◌≤◌, ◌⊎◌, Bool, true, false, List, [], ◌∷◌, ◌++◌, map, length, get_or}
use Rattle.ordered_meaning.specs.Carried.{Carried, Unfilled}
use Rattle.ordered_meaning.specs.NodeValues.{Shape}
use Rattle.ordered_meaning.specs.Simple.{Simple}
use Rattle.ordered_meaning.specs.Forms.{Form}
use Rattle.ordered_meaning.specs.Forms as form
use Rattle.ordered_meaning.specs.Entered.{IsIn}
use Rattle.ordered_meaning.specs.Demand.{Source, Port, Fixed, Kind, Plain, Whole, Vertex, Network}
use Rattle.ordered_meaning.specs.Storage.{Weights}
use Rattle.ordered_meaning.specs.Ordered.{Rest, Total, Yields, GraphYields}
use Rattle.ordered_meaning.specs.Laws.{counting}
use Rattle.run_code.specs.Cells.{Operand, At, Lit, cells_at, picked, own_cells}
use Rattle.run_code.specs.Collections.{Collect, Sifts, Final, AreWithin, sifts_in}
use Rattle.run_code.specs.Known.{AreReadable}
use Rattle.run_code.specs.Machine.{Weigh}
use Rattle.run_code.specs.Refolds.{Refolds}
use Rattle.run_code.specs.Steps.{Fire, Count, Move, Tag, Branch, Test, Keep, Spread, Each, Add, Call, Return, Code}

-- ---- where ports stand

-- where the ports of a graph's nodes stand, and its inputs as those of node 0
abbrev pub Places : Type 0
Places = (node port : ℕ) → Operand

abbrev pub operand : Places → Source → Operand
operand places (Fixed c) = Lit c
operand places (Port l p) = places l p

-- the outputs of a node are so many cells from this one on
abbrev pub Puts : Places → (label first many : ℕ) → Type 0
Puts places l lo w = (i : ℕ) → i < w → places l (suc i) ≡ At (lo + i)

-- the inputs of a graph are these operands
abbrev pub Lends : Places → List Operand → Type 0
Lends places args = (p : ℕ) → places 0 p ≡ get_or args (p - 1) (Lit Unfilled)

-- ---- code of a unit

-- A unit, an order of each graph's nodes, how many cells the outputs of each node take, and its code: what each place weighs, and
-- of each function that is called its entry, the cells of its block and its inputs.
pub record Layout : Type 0 where
  pub weights : Weights
  pub network : Network
  pub order : ℕ → List Vertex
  pub width : Vertex → ℕ
  pub code : Code
  pub weigh : Weigh
  pub functions : List ℕ
  pub entry : ℕ → ℕ
  pub size : ℕ → ℕ
  pub params : ℕ → ℕ

-- a loop with its first turn before the first test, or after it
abbrev pub loop_form : Bool → (init test body returns outputs : ℕ) → Form
loop_form true i t b r n = form.LoopA i t b r n
loop_form false i t b r n = form.LoopB i t b r n

-- each of these operands is one of two
abbrev pub AreOf : List Operand → List Operand → List Operand → Type 0
AreOf [] [] [] = Unit {0}
AreOf (a ∷ as₁) (b ∷ bs) (x ∷ xs) = ((x ≡ a) ⊎ (x ≡ b)) × AreOf as₁ bs xs
AreOf _ _ _ = ⊥

-- what is sifted stands in cells of its own, from `own` on, and a last value in the cell of its loop value, from `first` on
abbrev pub AreAt : List Collect → List Operand → (own first : ℕ) → Type 0
AreAt [] [] own first = Unit {0}
AreAt (Sifts j mask ∷ cs) (o ∷ os) own first = (o ≡ At own) × AreAt cs os (suc own) first
AreAt (Final j ∷ cs) (o ∷ os) own first = (o ≡ At (first + j)) × AreAt cs os own first
AreAt _ _ own first = ⊥

module _ (X : Layout) where
  -- the count of a compound node, and the copies of Inputs inputs in cells from `lo + w` on, below `mid`
  pub record Starts (a lo w : ℕ) (picks : List Bool) (args : List Operand) (own : List Carried → List Carried → ℕ) (mid : ℕ) : Type 0 where
    pub counts : X.code a ≡ Count
    pub copies : X.code (suc a) ≡ Move (picked picks args) (lo + w) (length (picked picks args)) (suc (suc a))
    pub weighs : (ks rs : List Carried) → X.weigh (suc a) (picked picks ks) [] ≡ own ks rs
    pub fits : (lo + w) + length (picked picks args) ≤ mid

  -- the results of a graph become the outputs of a node
  pub record Hands (g m : ℕ) (froms : List Operand) (lo w b : ℕ) : Type 0 where
    pub moves : X.code m ≡ Move froms lo w b
    pub weighs : (ks : List Carried) → X.weigh m ks [] ≡ X.weights.of_results g ks

  -- at this place a graph's results are brought on, and add what they add
  abbrev pub Weighs : ℕ → ℕ → Type 0
  Weighs g m = (ks : List Carried) → X.weigh m ks [] ≡ X.weights.of_results g ks

  -- the results of a test or selector add nothing
  abbrev pub Free : ℕ → Type 0
  Free g = (ks : List Carried) → X.weights.of_results g ks ≡ 0

  -- from where the loop values were begun to the test, or to the first turn, which is counted
  abbrev pub GoesIn : Bool → (starts turn tests : ℕ) → Type 0
  GoesIn true starts turn tests = (X.code starts ≡ Count) × (turn ≡ suc starts)
  GoesIn false starts turn tests = starts ≡ tests

  mutual
    -- the steps from one place to another do these nodes of a graph, and write no cell below a number
    pub data NodesAre (room : ℕ) : ℕ → Places → List Vertex → (a b lo : ℕ) → Type 0 where
      no_node : (g : ℕ) (places : Places) (a lo : ℕ) → NodesAre room g places [] a a lo
      a_node : (g : ℕ) (places : Places) (v : Vertex) (vs : List Vertex) (a m b lo next : ℕ)
          → Puts places v.label lo (X.width v) → lo + X.width v ≤ next
          → NodeIs room (map (operand places) v.ins) v.kind (X.weights.of_node g v) (X.width v) a m lo
          → NodesAre room g places vs m b next
          → NodesAre room g places (v ∷ vs) a b lo

    -- the steps do a node of this kind, on these operands, which adds so much, with so many outputs from a cell on
    pub data NodeIs (room : ℕ) : List Operand → Kind → (List Carried → List Carried → ℕ) → (w a b lo : ℕ) → Type 0 where
      scalar : (args : List Operand) (row : Simple) (shape : Shape) (own : List Carried → List Carried → ℕ) (w a lo : ℕ) → X.code a ≡ Fire row shape args lo w
          → ((ks rs : List Carried) → X.weigh a ks rs ≡ own ks rs) → NodeIs room args (Plain row shape) own w a (suc a) lo
      a_call : (args : List Operand) (f : ℕ) (own : List Carried → List Carried → ℕ) (w a lo : ℕ) → IsIn f X.functions → length args ≡ X.params f → lo + w ≤ room
          → X.code a ≡ Call (X.entry f) room args lo w → ((ks rs : List Carried) → X.weigh a ks [] ≡ own ks rs)
          → NodeIs room args (Whole (form.Call f)) own w a (suc a) lo
      a_select : (args : List Operand) (s : ℕ) (gs : List ℕ) (own : List Carried → List Carried → ℕ) (w a b lo : ℕ) (picks : List Bool) (mid m : ℕ) (selector : Operand) (targets : List ℕ)
          → Starts a lo w picks args own mid
          → PartIs room (own_cells picks args (lo + w)) s (X.order s) (X.network s).results (suc (suc a)) m mid (selector ∷ [])
          → Free s
          → X.code m ≡ Branch selector targets lo w b
          → ArmsAre room (own_cells picks args (lo + w)) gs targets w b lo mid
          → NodeIs room args (Whole (form.Select s gs w)) own w a b lo
      -- the content of a union has a cell of its own, and is the first input of its tag's arm
      a_tag_case : (args : List Operand) (gs : List ℕ) (own : List Carried → List Carried → ℕ) (w a b lo : ℕ) (picks : List Bool) (mid : ℕ) (union : Operand) (others : List Operand) (targets : List ℕ)
          → Starts a lo w picks args own mid
          → own_cells picks args (lo + w) ≡ union ∷ others
          → X.code (suc (suc a)) ≡ Tag union targets mid lo w b
          → ArmsAre room (At mid ∷ others) gs targets w b lo (suc mid)
          → NodeIs room args (Whole (form.TagCase gs w)) own w a b lo
      -- From `mid` on stand n loop values and what is sifted of k collections of them. The body stands before the test and goes on into it, so the one
      -- step back counts the turn. The returns is done as other nodes, whose inputs are the collections; nothing is added for them
      -- in the turns, since a loop may leave with errors.
      a_loop : (early : Bool) (args : List Operand) (init test body returns : ℕ) (own : List Carried → List Carried → ℕ) (w a b lo : ℕ)
          → LoopIs room early args init test body returns own w a b lo
          → NodeIs room args (Whole (loop_form early init test body returns w)) own w a b lo
      a_for_all : (args : List Operand) (generator body returns many : ℕ) (own : List Carried → List Carried → ℕ) (w a b lo : ℕ)
          → ForAllIs room args generator body returns many own w a b lo
          → NodeIs room args (Whole (form.ForAll generator body returns many w)) own w a b lo

    pub data LoopIs (room : ℕ) : Bool → List Operand → (init test body returns : ℕ) → (List Carried → List Carried → ℕ) → (w a b lo : ℕ) → Type 0 where
      the_loop : (early : Bool) (args : List Operand) (init test body returns : ℕ) (own : List Carried → List Carried → ℕ) (w a b lo : ℕ)
          (picks : List Bool) (mid n k begun starts turn turned tests tested leave left other : ℕ) (nodes : List Vertex) (results : List Source) (cs : List Collect) (extra : List Carried → ℕ) (go : Operand) (firsts nexts lasts for_test for_body for_returns stand : List Operand)
          → Starts a lo w picks args own mid
          → PartIs room (own_cells picks args (lo + w)) init (X.order init) (X.network init).results (suc (suc a)) begun mid firsts
          → X.code begun ≡ Keep true (sifts_in cs) firsts mid starts → Weighs init begun → length firsts ≡ n → length cs ≡ k
          → GoesIn early starts turn tests
          → AreOf args (own_cells picks args (lo + w)) for_test
          → PartIs room (for_test ++ cells_at mid n) test (X.order test) (X.network test).results tests tested (mid + (n + k)) (go ∷ [])
          → Free test
          → X.code tested ≡ Test go turn leave lo w b
          → AreOf args (own_cells picks args (lo + w)) for_body
          → PartIs room (for_body ++ cells_at mid n) body (X.order body) (X.network body).results turn turned (mid + (n + k)) nexts
          → X.code turned ≡ Keep false (sifts_in cs) nexts mid tests → Weighs body turned → length nexts ≡ n
          → AreWithin n cs → Refolds X.weights (length args) n cs returns other (X.order returns) (X.network returns).results nodes results extra → ((row : List Carried) → extra row ≡ 0)
          → AreOf args (own_cells picks args (lo + w)) for_returns
          → AreAt cs stand (mid + n) mid
          → PartIs room (for_returns ++ stand) other nodes results leave left (mid + (n + k)) lasts
          → Hands other left lasts lo w b
          → LoopIs room early args init test body returns own w a b lo

    -- From `mid` on stand n multiples of the generator, k collections of the body's results, how many iterations were begun, and n
    -- elements. The returns is done as other nodes, whose inputs are the collections.
    pub data ForAllIs (room : ℕ) : List Operand → (generator body returns many : ℕ) → (List Carried → List Carried → ℕ) → (w a b lo : ℕ) → Type 0 where
      the_for_all : (args : List Operand) (generator body returns m : ℕ) (own : List Carried → List Carried → ℕ) (w a b lo : ℕ)
          (picks : List Bool) (mid n k made turns turn turned leave left other : ℕ) (nodes : List Vertex) (results : List Source) (cs : List Collect) (extra : List Carried → ℕ) (lists nexts lasts for_body for_returns : List Operand)
          → Starts a lo w picks args own mid
          → PartIs room (own_cells picks args (lo + w)) generator (X.order generator) (X.network generator).results (suc (suc a)) made mid lists
          → X.code made ≡ Spread lists cs mid turns lo w b → Weighs generator made → length lists ≡ n → length cs ≡ k
          → X.code turns ≡ Each n mid (mid + (n + k)) turn leave
          → AreOf args (own_cells picks args (lo + w)) for_body
          → PartIs room (for_body ++ cells_at (suc (mid + (n + k))) n) body (X.order body) (X.network body).results turn turned (suc (mid + (n + k)) + n) nexts
          → X.code turned ≡ Add cs nexts (mid + n) turns → ((ks : List Carried) → X.weigh turned ks [] ≡ X.weights.of_results body ks + extra ks) → length nexts ≡ m
          → AreWithin m cs → Refolds X.weights (length args + n) m cs returns other (X.order returns) (X.network returns).results nodes results extra
          → AreOf args (own_cells picks args (lo + w)) for_returns
          → PartIs room ((for_returns ++ cells_at mid n) ++ cells_at (mid + n) k) other nodes results leave left (mid + (n + k)) lasts
          → Hands other left lasts lo w b
          → ForAllIs room args generator body returns m own w a b lo

    -- the steps do these nodes with these inputs, and what is read in the end stands here; the number is that of the weights
    pub data PartIs (room : ℕ) : List Operand → ℕ → List Vertex → List Source → (a b lo : ℕ) → List Operand → Type 0 where
      a_part : (args : List Operand) (g : ℕ) (nodes : List Vertex) (results : List Source) (a b lo : ℕ) (places : Places)
          → Lends places args
          → AreReadable X.width nodes results
          → NodesAre room g places nodes a b lo
          → (froms : List Operand) → map (operand places) results ≡ froms
          → PartIs room args g nodes results a b lo froms

    -- the steps from each of these places on do the graph of its number, with outputs from one cell on and others from another one
    pub data ArmsAre (room : ℕ) : List Operand → List ℕ → List ℕ → (w b lo up : ℕ) → Type 0 where
      no_arm : (args : List Operand) (w b lo up : ℕ) → ArmsAre room args [] [] w b lo up
      an_arm : (args : List Operand) (g : ℕ) (gs : List ℕ) (t m : ℕ) (ts : List ℕ) (w b lo up : ℕ) (froms : List Operand)
          → PartIs room args g (X.order g) (X.network g).results t m up froms
          → Hands g m froms lo w b
          → ArmsAre room args gs ts w b lo up
          → ArmsAre room args (g ∷ gs) (t ∷ ts) w b lo up

  -- the steps do a graph
  abbrev pub GraphIs : ℕ → List Operand → (g a b lo : ℕ) → List Operand → Type 0
  GraphIs room args g a b lo froms = PartIs room args g (X.order g) (X.network g).results a b lo froms

  -- the steps from its entry on do a function
  pub record FunctionIs (f : ℕ) : Type 0 where
    pub places : Places
    pub end : ℕ
    pub ordered : AreReadable X.width (X.order f) (X.network f).results
    pub inputs : (p : ℕ) → p - 1 < X.params f → places 0 p ≡ At (p - 1)
    pub wanting : (p : ℕ) → X.params f ≤ p - 1 → places 0 p ≡ Lit Unfilled
    pub nodes : NodesAre (X.size f) f places (X.order f) (X.entry f) end (X.params f)
    pub leaves : X.code end ≡ Return (map (operand places) (X.network f).results)
    pub weighs : Weighs f end

  abbrev pub AreCoded : Type 0
  AreCoded = (f : ℕ) → IsIn f X.functions → FunctionIs f

  abbrev pub yields : ℕ → Rest (counting X.weights)
  yields n = Yields (counting X.weights) X.network X.order n

  abbrev pub graph_yields : ℕ → ℕ → List Carried → List Carried → Total (counting X.weights) → Type 0
  graph_yields n g ks rs c = GraphYields (counting X.weights) X.network X.order (Yields (counting X.weights) X.network X.order n) g ks rs c
