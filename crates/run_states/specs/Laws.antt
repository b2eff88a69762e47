-- The laws of tables, and of the histories that they stand for.
use Rattle.std.specs.Prelude.{◌≡◌, ℕ, suc, Bool, true, false, ◌≤◌, ◌+◌, ◌<◌, ◌↔◌, List, [], ◌∷◌, map, slice_get, Some, None}
use Rattle.if1_graph.specs.declared.op.Simple.{Simple}
use Rattle.graph_meaning.specs.Carried.{Carried}
use Rattle.graph_meaning.specs.NodeValues.{Shape, op}
use Rattle.graph_meaning.specs.Entered.{Item, Node, Entry, Slice, IsIn}
use Rattle.graph_meaning.specs.Forms.{Form, Next, Enter, Iterate, Begins, Leave as Leaves, Stage, first, follow, gather}
use Rattle.graph_meaning.specs.Demand.{Vertex, Plain, Whole, Network, Cut, IsCut, AreOrderly, at_label, waits, data_labels}
use Rattle.graph_meaning.specs.Histories.{Run, Exists, OwnFirings, History, Claim, Idle, Ended, Finish, Outcome, Made, Results as HasResults, TurnLimit, Legal, HasEnded, IsOn, Gives, ClaimedBy, count, early, is_claimed, is_made}
use Rattle.graph_meaning.specs.Plain.{RowsFire}
use Rattle.graph_meaning.specs.Laws.{run_of}
use Rattle.run_states.specs.Standing.{Path, plug, label_of, Test, CanClaim, Done, Live, LiveStands, Table, TableStands, AreBusy, IsReady, IsNode, IsStep, GoesOn, IsBusy, put}
use Rattle.run_states.specs.Phases.{Results, Operands, Comes, opens_of, last_of, entered_live}
use Rattle.run_states.specs.Runs.{RunStands}
use Rattle.run_states.specs.Values.{OutputsOf, read, AreThere}
use Rattle.run_states.specs.Storing.{Kept, Port, Owned, Store, StoresStand, NoReader, Holds}
use Rattle.run_states.specs.Pacing.{to_come, pace}
use Rattle.run_states.specs.Paths.{IsWhole}

-- ---- what can be claimed

-- the items that a table has as ready are exactly those that can be claimed
abbrev pub IsReadyExact : Type 0
IsReadyExact = (run : Run) (c m : Test) (table : Table) (root : ℕ) → TableStands run c m table root → AreBusy table → (i : Item) → IsReady table i ↔ CanClaim run c m i

-- ---- histories

-- a run begins with one live graph, of which nothing is claimed
abbrev pub DoRunsBegin : Type 0
DoRunsBegin = (cut : Cut) (u : Network) (g : ℕ) (ins : List Carried) (limit : ℕ) → IsCut cut → AreOrderly u → IsBusy (entered_live cut u g ins [])
    → RunStands (run_of cut u g ins) limit [] (put (λ f. None) 0 (Some (entered_live cut u g ins []))) 0

-- a claim of a ready item, idling where nothing is ready, and an end at the limit are right
pub record AreClaimsLegal (run : Run) (limit : ℕ) (h : History) (table : Table) : Type 0 where
  pub claim : (w : ℕ) (i : Item) → IsReady table i → early i + count h ≤ limit → Legal run limit (Claim w i ∷ h) × IsOn run limit (Claim w i ∷ h)
  pub idle : (w : ℕ) → ((i : Item) → ¬ IsReady table i) → Legal run limit (Idle w ∷ h) × IsOn run limit (Idle w ∷ h)
  pub ends : (w : ℕ) (i : Item) → IsReady table i → limit < early i + count h → Legal run limit (Ended w TurnLimit ∷ h) × HasEnded run limit (Ended w TurnLimit ∷ h) TurnLimit

abbrev pub AreAllClaimsLegal : Type 0
AreAllClaimsLegal = (run : Run) (limit : ℕ) (h : History) (table : Table) (root : ℕ) → RunStands run limit h table root → AreClaimsLegal run limit h table

-- the finish of a claimed item that is not made is right, whatever its work gave
abbrev pub AreFinishesLegal : Type 0
AreFinishesLegal = (run : Run) (limit : ℕ) (h : History) (table : Table) (root : ℕ) → RunStands run limit h table root
    → (w : ℕ) (i : Item) (o : Outcome) → ClaimedBy h w i → is_made h i ≡ false → Gives run limit i o → Legal run limit (Finish w i o ∷ h)

-- after a finish within the limit the run has ended with results where all nodes of its first graph are done, and else it goes on
abbrev pub AreEndsSeen : Type 0
AreEndsSeen = (run : Run) (limit : ℕ) (h : History) (old table : Table) (root w n : ℕ) (i : Item) → RunStands run limit h old root
    → (stands : TableStands run (is_claimed (Finish w i (Made n) ∷ h)) (is_made (Finish w i (Made n) ∷ h)) table root)
    → AreBusy table
    → n + count h ≤ limit
    → (((l : ℕ) → IsIn l stands.first.0.labels → stands.first.0.states l ≡ Done) → HasEnded run limit (Finish w i (Made n) ∷ h) HasResults)
    × (IsBusy stands.first.0 → IsOn run limit (Finish w i (Made n) ∷ h))

-- ---- the trees of a run

-- a node of a graph is one of its run; a simple node has no other item
pub record IsNodeOfRun (cut : Cut) (u : Network) (g : ℕ) (ins : List Carried) (v : Vertex) (l : ℕ) : Type 0 where
  pub node : IsNode (run_of cut u g ins) l (waits v) (λ n. last_of (at_label (u g).nodes n) n)
  pub alone : (row : Simple) (shape : Shape) → v.kind ≡ Plain row shape → (last_of (at_label (u g).nodes l) l ≡ Node l) × ((i : Item) → Exists (run_of cut u g ins) i → label_of i ≡ l → i ≡ Node l)

abbrev pub AreNodesOfRuns : Type 0
AreNodesOfRuns = (cut : Cut) (u : Network) (g : ℕ) (ins : List Carried) (v : Vertex) (l : ℕ) → IsCut cut → AreOrderly u → at_label (u g).nodes l ≡ Some v → IsNodeOfRun cut u g ins v l

-- what a compound node does by the table of forms is what the trees of the run have
pub record AreStepsOfRun (cut : Cut) (u : Network) (g : ℕ) (ins : List Carried) (l : ℕ) (form : Form) (ks : List Carried) : Type 0 where
  pub first_graph : (h : ℕ) (is : List Carried) (stage : Stage) → first form ks ≡ Begins h is stage → IsStep (run_of cut u g ins) (run_of cut u h is) l 0 (Node l)
  pub next_graph : (k : ℕ) (t : Bool) (h : ℕ) (is : List Carried) (stage : Stage) → Comes u form ks k (Enter t h is stage) → IsStep (run_of cut u g ins) (run_of cut u h is) l (suc k) (Entry t l (suc k))
  pub openings : (k : ℕ) (next : Next) → Comes u form ks k next → GoesOn (run_of cut u g ins) l (suc k) (opens_of cut l (suc k) next)

abbrev pub AreAllStepsOfRuns : Type 0
AreAllStepsOfRuns = (cut : Cut) (u : Network) (g : ℕ) (ins : List Carried) (l : ℕ) (form : Form) (ks : List Carried) → IsCut cut → AreOrderly u
    → IsWhole u g ins l form ks
    → AreStepsOfRun cut u g ins l form ks

-- a graph stands as it is entered, where none of its items was claimed
abbrev pub DoEnteredStand : Type 0
DoEnteredStand = (cut : Cut) (u : Network) (g : ℕ) (ins : List Carried) (p : Path) (c m : Test) → IsCut cut → AreOrderly u
    → ((i : Item) → m i ≡ true → c i ≡ true)
    → ((i : Item) → c (plug p i) ≡ false)
    → LiveStands c m (entered_live cut u g ins p)

-- a slice has as many firings of its own as its iterations cost by the definition of record, 1 for each beside those of its graph
abbrev pub AreSlicesCosted : Type 0
AreSlicesCosted = (cut : Cut) (u : Network) (g : ℕ) (ins : List Carried) (l : ℕ) (form : Form) (ks : List Carried) → IsCut cut → AreOrderly u
    → IsWhole u g ins l form ks
    → (k h : ℕ) (row : List Carried) (rows : List (List Carried)) (ms : List Carried)
    → Comes u form ks k (Iterate h row rows ms)
    → (r : ℕ) (part : List (List Carried))
    → slice_get (cut (row ∷ rows)) r ≡ Some part
    → (n : ℕ)
    → OwnFirings (run_of cut u g ins) (Slice l (suc k) r) n ↔ ((d : ℕ) × RowsFire u d h part n)

-- With each step fewer items that count no firing are to come; of a node that was not begun they are 4 at most.
pub record DoPacesFall (form : Form) (ks : List Carried) : Type 0 where
  pub followed : (s : Stage) (rs : List Carried) → pace (follow form ks s rs) ≤ to_come s
  pub gathered : (ms : List Carried) (rows : List (List Carried)) → pace (gather form ks ms rows) ≤ 2
  pub at_most : (s : Stage) → to_come s ≤ 3

abbrev pub DoAllPacesFall : Type 0
DoAllPacesFall = (form : Form) (ks : List Carried) → DoPacesFall form ks

-- ---- values and storage

-- what is read off filled ports are operands, outputs and results by the meaning
pub record AreValuesRead (u : Network) (g : ℕ) (ins : List Carried) (outs : ℕ → List Carried) : Type 0 where
  pub fires : (v : Vertex) (row : Simple) (shape : Shape) → v.kind ≡ Plain row shape → AreThere u g ins outs (data_labels v.ins) → OutputsOf u g ins v (op row shape (map (read ins outs) v.ins))
  pub enters : (v : Vertex) → AreThere u g ins outs (data_labels v.ins) → Operands u g ins v (map (read ins outs) v.ins)
  pub leaves : (v : Vertex) (form : Form) (ks rs : List Carried) (k : ℕ) → v.kind ≡ Whole form → Operands u g ins v ks → Comes u form ks k (Leaves rs) → OutputsOf u g ins v rs
  pub ends : AreThere u g ins outs (data_labels (u g).results) → Results u g ins (map (read ins outs) (u g).results)

abbrev pub AreAllValuesRead : Type 0
AreAllValuesRead = (u : Network) (g : ℕ) (ins : List Carried) (outs : ℕ → List Carried) → AreValuesRead u g ins outs

-- Where nobody in the graph of an owned port is at work on it, no node of any live graph holds a lease of its key.
abbrev pub IsNoLeaseOut : Type 0
IsNoLeaseOut = (run : Run) (c m : Test) (table : Table) (root : ℕ) (stores : ℕ → Store) (f : ℕ) (x : Live) (a : Port) (key : ℕ) → TableStands run c m table root
    → StoresStand table stores
    → table f ≡ Some x
    → (stores f).cell a ≡ Some (Kept key)
    → (stores f).owning a ≡ Owned
    → NoReader table stores f x a
    → (g : ℕ) (y : Live)
    → table g ≡ Some y
    → (l : ℕ)
    → ¬ Holds y (stores g) l key
