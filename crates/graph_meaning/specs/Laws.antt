-- The laws of a graph's meaning, of its cost, and of all orders in which it may fire.
use Rattle.std.specs.Prelude.{◌≡◌, ◌≢◌, ℕ, Bool, true, false, ◌&&◌, not, ◌==◌, ◌≤◌, List, length, find, Some, Contains, ◌↔◌}
use Rattle.loop_folds.specs.Cause.{Cause}
use Rattle.if1_graph.specs.declared.graph.Edge.{Edge}
use Rattle.if1_graph.specs.declared.graph.Graph.{Graph}
use Rattle.if1_graph.specs.declared.graph.Graph.TheViews.{out-Graph}
use Rattle.if1_graph.specs.declared.graph.Node as node
use Rattle.if1_graph.specs.declared.graph.Unit1.{Unit1}
use Rattle.if1_graph.specs.declared.op.Simple.{Simple}
use Rattle.if1_graph.specs.declared.row.Gives.{Gives}
use Rattle.if1_graph.specs.declared.row.Gives.TheVariants.{One, Pair, Results, AllFields}
use Rattle.if1_graph.specs.Formed.{IsFormed}
use Rattle.if1_graph.specs.Rows.{row_of}
use Rattle.if1_graph.specs.Ready.{IsReady}
use Rattle.if1_graph.specs.Units.{node_at, edge_into, Place, places, number_of}
use Rattle.if1_marks.specs.Given.{is_consuming}
use Rattle.if1_marks.specs.Sound.{IsSound}
use Rattle.graph_meaning.specs.Carried.{Carried}
use Rattle.graph_meaning.specs.NodeValues.{Shape, op}
use Rattle.graph_meaning.specs.NodeValues as shape
use Rattle.graph_meaning.specs.Strict.{IsFit, first_strict, AreErrors}
use Rattle.graph_meaning.specs.Forms.{Form, Stage, Enter}
use Rattle.graph_meaning.specs.Entered.{Item, Node, IsLast, cost}
use Rattle.graph_meaning.specs.Demand.{Source, Kind, Plain, Whole, Network, Cut, IsCut, AreOrderly, WaitsFor, dem, tree}
use Rattle.graph_meaning.specs.Networks.{kind_of, net_of, network}
use Rattle.if1_marks.specs.Orders.{AreOrdersRight, HasNoLists}
use Rattle.graph_meaning.specs.Plain.{is_deeper, CarryAll, Leads, Means, Costs}
use Rattle.graph_meaning.specs.Storage.{Weights, GraphAdds, Storage, is_consumed_at, is_left, Copies, Writes}
use Rattle.graph_meaning.specs.StorageUnits.{storage_of, UnitCopies, UnitWrites}
use Rattle.graph_meaning.specs.Histories.{History, Legal, Claimable, is_made, Run, Cost, IsConfluent, IsNeverStuck}
use Rattle.graph_meaning.specs.Growing.{Grows, IsExecution}

-- the run of a graph on its inputs, where `cut` cuts the iterations of each ForAll into slices
abbrev pub run_of : Cut → Network → ℕ → List Carried → Run
run_of cut u g ins n = tree cut n u g ins

-- the results that one depth gives are given at every greater one
abbrev pub AreValuesStable : Type 0
AreValuesStable = (u : Network) (g : ℕ) (ins rs : List Carried) (n m : ℕ) → n ≤ m → dem n u g ins ≡ Some rs → dem m u g ins ≡ Some rs

-- so is the cost
abbrev pub AreCostsStable : Type 0
AreCostsStable = (cut : Cut) (u : Network) (g : ℕ) (ins : List Carried) (c n m : ℕ) → n ≤ m → cost (tree cut n u g ins) ≡ Some c → cost (tree cut m u g ins) ≡ Some c

-- the tree of a greater depth shows what that of a smaller one shows, and maybe more
abbrev pub DoTreesGrow : Type 0
DoTreesGrow = (cut : Cut) (u : Network) (g : ℕ) (ins : List Carried) (n m : ℕ) → n ≤ m → Grows (tree cut n u g ins) (tree cut m u g ins)

-- the cost is the sum of the firings of all items of a whole tree
abbrev pub IsCostTheSum : Type 0
IsCostTheSum = (cut : Cut) (u : Network) (g : ℕ) (ins : List Carried) (c : ℕ) → Cost (run_of cut u g ins) c ↔ ((n : ℕ) × (cost (tree cut n u g ins) ≡ Some c))

-- it is the same however the iterations are cut into slices
abbrev pub IsCostOfAnyCut : Type 0
IsCostOfAnyCut = (cut other : Cut) (u : Network) (g : ℕ) (ins : List Carried) (n : ℕ) → IsCut cut → IsCut other → cost (tree cut n u g ins) ≡ cost (tree other n u g ins)

-- in graphs without a cycle, where the cost is defined the results are too
abbrev pub IsMeantWhereCosted : Type 0
IsMeantWhereCosted = (cut : Cut) (u : Network) (g : ℕ) (ins : List Carried) (c n : ℕ) → IsCut cut → AreOrderly u → cost (tree cut n u g ins) ≡ Some c → (rs : List Carried) × (dem n u g ins ≡ Some rs)

-- every legal complete history of every execution ends alike, and none is stuck
abbrev pub AreExecutionsConfluent : Type 0
AreExecutionsConfluent = (run : Run) (limit : ℕ) → IsExecution run → IsConfluent run limit

abbrev pub AreExecutionsNeverStuck : Type 0
AreExecutionsNeverStuck = (run : Run) (limit : ℕ) → IsExecution run → IsNeverStuck run limit

-- so it is with every graph without a cycle, on every inputs, with every limit and every cut
abbrev pub AreRunsConfluent : Type 0
AreRunsConfluent = (cut : Cut) (u : Network) (g : ℕ) (ins : List Carried) (limit : ℕ) → IsCut cut → AreOrderly u → IsConfluent (run_of cut u g ins) limit

abbrev pub AreRunsNeverStuck : Type 0
AreRunsNeverStuck = (cut : Cut) (u : Network) (g : ℕ) (ins : List Carried) (limit : ℕ) → IsCut cut → AreOrderly u → IsNeverStuck (run_of cut u g ins) limit

-- the graphs of a ready unit whose ordering lists close no cycle are such graphs
abbrev pub AreUnitsOrderly : Type 0
AreUnitsOrderly = (u : Unit1) → IsReady u → AreOrdersRight u → AreOrderly (network u)

-- the laws for each graph of such a unit, which is entered by its number
pub record HasOneEnd (cut : Cut) (u : Unit1) (g : ℕ) (ins : List Carried) (limit : ℕ) : Type 0 where
  pub meant : (c n : ℕ) → cost (tree cut n (network u) g ins) ≡ Some c → (rs : List Carried) × (dem n (network u) g ins ≡ Some rs)
  pub confluent : IsConfluent (run_of cut (network u) g ins) limit
  pub never_stuck : IsNeverStuck (run_of cut (network u) g ins) limit

abbrev pub HaveUnitsOneEnd : Type 0
HaveUnitsOneEnd = (cut : Cut) (u : Unit1) (g : ℕ) (ins : List Carried) (limit : ℕ) → IsCut cut → IsReady u → AreOrdersRight u → HasOneEnd cut u g ins limit

-- without ordering lists a ready unit is such a unit, since no node reaches itself
abbrev pub AreOrdersRightWithoutLists : Type 0
AreOrdersRightWithoutLists = (u : Unit1) → IsReady u → HasNoLists u → AreOrdersRight u

-- in a formed unit the graph of a number is the graph that has it
abbrev pub AreFoundByNumber : Type 0
AreFoundByNumber = (u : Unit1) → IsFormed u → (p : Place) → Contains (places u) p → network u (number_of p) ≡ net_of u p.graph

-- how many outputs a row of the table gives
abbrev pub outputs_by : Gives → Shape → ℕ
outputs_by (One a) s = 1
outputs_by (Pair a b) s = 2
outputs_by Results s = 0
outputs_by AllFields (shape.Fields n) = n
outputs_by AllFields _ = 0

-- a simple node other than a call has as many outputs as its row says
abbrev pub AreOutputsCounted : Type 0
AreOutputsCounted = (o : Simple) (s : Shape) (cs : List Carried) → length (op o s cs) ≡ outputs_by (row_of o).gives s

-- Of a simple node whose operands fit, every output is the error of the least strict port that carries one.
abbrev pub IsLeastPortGiven : Type 0
IsLeastPortGiven = (o : Simple) (s : Shape) (cs : List Carried) (c : Cause) → IsFit o cs → first_strict o 1 cs ≡ Some c → AreErrors c (op o s cs)

-- Some depth of calls and turns gives these results exactly where some depth of steps does. Nothing is asked of the graphs.
abbrev pub AreDepthsOfOneMeaning : Type 0
AreDepthsOfOneMeaning = (u : Network) (g : ℕ) (ins rs : List Carried) → ((n : ℕ) × Means u n g ins rs) ↔ ((m : ℕ) × (dem m u g ins ≡ Some rs))

-- what a depth of calls and turns gives, every greater one gives
abbrev pub IsMeaningStable : Type 0
IsMeaningStable = (u : Network) (g : ℕ) (ins rs : List Carried) (n m : ℕ) → n ≤ m → Means u n g ins rs → Means u m g ins rs

-- at depth 0 no node enters a called graph or a turn
abbrev pub IsNothingCalledAtZero : Type 0
IsNothingCalledAtZero = (u : Network) (form : Form) (ks : List Carried) (turn : Bool) (g : ℕ) (ins : List Carried) (stage : Stage) (rs : List Carried) → Leads u 0 form ks (Enter turn g ins stage) rs → is_deeper form turn ≡ false

-- what is carried by any list of ports is one, whatever depths of calls and turns give it
abbrev pub AreCarriedOnce : Type 0
AreCarriedOnce = (u : Network) (g : ℕ) (ins : List Carried) (os : List Source) (cs others : List Carried) (n m : ℕ) → CarryAll u n g ins os cs → CarryAll u m g ins os others → cs ≡ others

-- no two depths of calls and turns give different results
abbrev pub IsMeaningOne : Type 0
IsMeaningOne = (u : Network) (g : ℕ) (ins rs other : List Carried) (n m : ℕ) → Means u n g ins rs → Means u m g ins other → rs ≡ other

-- some depth of calls and turns gives this cost exactly where some depth of steps does
abbrev pub AreDepthsOfOneCost : Type 0
AreDepthsOfOneCost = (cut : Cut) (u : Network) (g : ℕ) (ins : List Carried) (c : ℕ) → IsCut cut → ((n : ℕ) × Costs u n g ins c) ↔ ((m : ℕ) × (cost (tree cut m u g ins) ≡ Some c))

-- in graphs without a cycle, where the cost is defined each sum by its recursion is
abbrev pub AreSumsDefined : Type 0
AreSumsDefined = (u : Network) (w : Weights) (g : ℕ) (ins : List Carried) (c n : ℕ) → AreOrderly u → Costs u n g ins c → (m : ℕ) × (s : ℕ) × GraphAdds u w m g ins s

-- so there are copies and writes
abbrev pub AreCopiesDefined : Type 0
AreCopiesDefined = (storage : Storage) (u : Network) (g : ℕ) (ins : List Carried) (c n : ℕ) → AreOrderly u → Costs u n g ins c
    → ((m : ℕ) × (copied : ℕ) × Copies storage u m g ins copied) × ((m : ℕ) × (written : ℕ) × Writes storage u m g ins written)

-- no two depths give different sums
abbrev pub IsSumOne : Type 0
IsSumOne = (u : Network) (w : Weights) (g : ℕ) (ins : List Carried) (n m s t : ℕ) → GraphAdds u w n g ins s → GraphAdds u w m g ins t → s ≡ t

-- nor different costs
abbrev pub IsCostOne : Type 0
IsCostOne = (u : Network) (g : ℕ) (ins : List Carried) (n m c d : ℕ) → Costs u n g ins c → Costs u m g ins d → c ≡ d

-- the cost that a depth of calls and turns gives, every greater one gives
abbrev pub IsPlainCostStable : Type 0
IsPlainCostStable = (u : Network) (g : ℕ) (ins : List Carried) (c n m : ℕ) → n ≤ m → Costs u n g ins c → Costs u m g ins c

-- and so each sum by its recursion
abbrev pub IsSumStable : Type 0
IsSumStable = (u : Network) (w : Weights) (g : ℕ) (ins : List Carried) (s n m : ℕ) → n ≤ m → GraphAdds u w n g ins s → GraphAdds u w m g ins s

-- Where the own item of a node may be claimed, every node for which it waits along data edges and ordering lists, itself or
-- by others, has its last item made.
abbrev pub AreUsersFinished : Type 0
AreUsersFinished = (cut : Cut) (u : Network) (g : ℕ) (ins : List Carried) (limit : ℕ) (h : History) → IsCut cut → AreOrderly u → Legal (run_of cut u g ins) limit h
    → (taker user : ℕ) → Claimable (run_of cut u g ins) h (Node taker) → WaitsFor (u g).nodes taker user
    → (n : ℕ) (j : Item) → IsLast (tree cut n u g ins) user j → is_made h j ≡ true

-- ---- units with marks

-- in a ready unit with sound marks, where the cost of a graph is defined its copies and writes are
abbrev pub AreUnitCopiesDefined : Type 0
AreUnitCopiesDefined = (u : Unit1) (g : ℕ) (ins : List Carried) (c n : ℕ) → IsReady u → IsSound u → Costs (network u) n g ins c
    → ((copied : ℕ) × UnitCopies u g ins copied) × ((written : ℕ) × UnitWrites u g ins written)

-- each of the two is one number
abbrev pub AreUnitCopiesOne : Type 0
AreUnitCopiesOne = (u : Unit1) (g : ℕ) (ins : List Carried) (a b : ℕ)
    → (UnitCopies u g ins a → UnitCopies u g ins b → a ≡ b) × (UnitWrites u g ins a → UnitWrites u g ins b → a ≡ b)

-- what is carried into a port is copied by a node of this kind, as far as the table tells
abbrev pub is_copied_by : Storage → (graph node port : ℕ) → Kind → Bool
is_copied_by s g l port (Plain row shape) = is_consumed_at row port && is_left s g l port
is_copied_by s g l port (Whole form) = s.is_given g l port && is_left s g l port

-- what is carried by an edge is copied if it is a consuming edge that does not take
abbrev pub is_copied_along : Unit1 → Graph → Edge → Bool
is_copied_along u g e = is_consuming u g e && not e.takes

-- the graph of this number
abbrev pub IsAt : Unit1 → ℕ → Place → Type 0
IsAt u k p = find (λ p. number_of p == k) (places u) ≡ Some p

-- By the table that is read off a unit, exactly the ports are copied to which a consuming edge leads that does not take, of nodes
-- and of the boundary.
pub record CopiesUnmarked (u : Unit1) (k : ℕ) (p : Place) (e : Edge) : Type 0 where
  pub at_node : (n : node.Node) → e.node ≢ 0 → node_at (out-Graph p.graph).nodes e.node ≡ Some n → is_copied_by (storage_of u) k e.node e.port (kind_of u p.graph n) ≡ is_copied_along u p.graph e
  pub at_boundary : e.node ≡ 0 → is_left (storage_of u) k 0 e.port ≡ is_copied_along u p.graph e

abbrev pub AreUnmarkedCopied : Type 0
AreUnmarkedCopied = (u : Unit1) (k : ℕ) (p : Place) (e : Edge) → IsAt u k p → edge_into p.graph e.node e.port ≡ Some e → CopiesUnmarked u k p e

-- the run of each graph of a ready unit with sound marks ends alike in each order of its firings, and is never stuck
abbrev pub HaveSoundUnitsOneEnd : Type 0
HaveSoundUnitsOneEnd = (cut : Cut) (u : Unit1) (g : ℕ) (ins : List Carried) (limit : ℕ) → IsCut cut → IsReady u → IsSound u → HasOneEnd cut u g ins limit

-- Where the taker of a port may be claimed in the run of a graph of a ready unit with sound marks, every other node with an
-- edge from the port has its last item made.
abbrev pub AreTakersLast : Type 0
AreTakersLast = (cut : Cut) (u : Unit1) (p : Place) (ins : List Carried) (limit : ℕ) (h : History) → IsCut cut → IsReady u → IsSound u → Contains (places u) p
    → Legal (run_of cut (network u) (number_of p) ins) limit h
    → (e f : Edge) → Contains (out-Graph p.graph).edges e → Contains (out-Graph p.graph).edges f → e.takes ≡ true → f.from ≡ e.from → f ≢ e → e.node ≢ 0
    → Claimable (run_of cut (network u) (number_of p) ins) h (Node e.node)
    → (n : ℕ) (j : Item) → IsLast (tree cut n (network u) (number_of p) ins) f.node j → is_made h j ≡ true
