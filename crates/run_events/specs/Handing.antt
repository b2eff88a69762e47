-- Graphs that are entered and left, and nodes that are done, by what a node does with its ports.
use Rattle.std.specs.Prelude.{◌≡◌, ◌≢◌, ℕ, suc, eqb, true, false, ◌≤◌, ◌<◌, find, Contains, ◌⊎◌, Some, None, ◌==◌}
use Rattle.if1_graph.specs.declared.graph.Edge.{Edge}
use Rattle.if1_graph.specs.declared.graph.Graph.{Graph}
use Rattle.if1_graph.specs.declared.graph.Graph.TheViews.{out-Graph}
use Rattle.if1_graph.specs.declared.graph.Node.{Node, out-Node}
use Rattle.if1_graph.specs.declared.graph.Origin.TheVariants as origin
use Rattle.if1_graph.specs.declared.graph.Unit1.{Unit1}
use Rattle.if1_graph.specs.declared.op.Compound.{Compound}
use Rattle.if1_graph.specs.declared.op.Part.{Part}
use Rattle.if1_graph.specs.Ops.{compound_at}
use Rattle.if1_graph.specs.Parts.{part_at}
use Rattle.if1_graph.specs.Units.{label_of, node_at, edge_into, width, Place, places, number_of, Function, Inside}
use Rattle.if1_marks.specs.Given.{is_call, called}
use Rattle.if1_marks.specs.Owned.{is_owned}
use Rattle.if1_marks.specs.Sound.{IsSound}
use Rattle.graph_meaning.specs.StorageUnits.{storage_of}
use Rattle.run_states.specs.Standing.{Live, Table}
use Rattle.run_states.specs.Storing.{Kept, Port, Owned, Lent, Store}
use Rattle.run_events.specs.Marked.{AreReadsOf, IsEnteredWith}
use Rattle.run_events.specs.Hands.{Hand, Hands, HasInHand, IsFree, HandsStand, OtherHandsSame, IsAtHand, AreFilled, IsEntered, IsTakenOver}
use Rattle.run_events.specs.Modes.{Input, Own, Borrowed, Gone, into_owner, into_part, mode_of}

-- ---- a graph is entered

-- the edge into this port of the node comes from a port that has the key
pub record IsFromPort (p : Place) (store : Store) (l port key : ℕ) : Type 0 where
  pub edge : Edge
  pub into : edge_into p.graph l port ≡ Some edge
  pub from : Port
  pub origin : edge.from ≡ origin.Port from.0 from.1
  pub kept : store.cell from ≡ Some (Kept key)

-- The inputs of an entered graph as it stands when it is entered: each of the first ones as is said of it, where it comes from a port of
-- the node; and each further one with an aggregate of its own, as loop values have. No output is there.
pub record AreInputsBy (p : Place) (l first : ℕ) (port : ℕ → ℕ) (how : ℕ → Input) (table : Table) (stores : ℕ → Store) (hands : Hands) (f : ℕ) (store : Store) : Type 0 where
  pub own : (i : ℕ) → i ≤ first → how i ≡ Own → (store.owning (0, i) ≡ Owned) × ((key : ℕ) → store.cell (0, i) ≡ Some (Kept key) → IsAtHand table stores hands f l key)
  pub borrowed : (i : ℕ) → i ≤ first → how i ≡ Borrowed → (store.owning (0, i) ≡ Lent) × ((key : ℕ) → store.cell (0, i) ≡ Some (Kept key) → IsFromPort p (stores f) l (port i) key)
  pub gone : (i : ℕ) → i ≤ first → how i ≡ Gone → store.cell (0, i) ≡ None
  pub further : (i : ℕ) → first < i → (store.owning (0, i) ≡ Owned) × ((key : ℕ) → store.cell (0, i) ≡ Some (Kept key) → IsAtHand table stores hands f l key)
  pub outputs : (m i : ℕ) → (store.cell (suc m, i) ≡ None) × (store.owning (suc m, i) ≡ Owned)
  -- no two inputs have one aggregate of their own
  pub once : (i j key : ℕ) → store.cell (0, i) ≡ Some (Kept key) → store.cell (0, j) ≡ Some (Kept key) → store.owning (0, i) ≡ Owned → store.owning (0, j) ≡ Owned → i ≡ j

-- the nodes of an entered graph have nothing in their hands, and its node keeps what it does not give
pub record AreHandsLeft (others : ℕ → Store) (hands after : Hands) (f l g : ℕ) : Type 0 where
  pub empty : (n : ℕ) (i : Hand) → after g n i ≡ None
  pub same : (h n : ℕ) (i : Hand) → ¬ (h ≡ g) → ¬ ((h ≡ f) × (n ≡ l)) → after h n i ≡ hands h n i
  pub left : (i : Hand) (key : ℕ) → after f l i ≡ Some key → (hands f l i ≡ Some key) × ((a : Port) → (others g).cell a ≡ Some (Kept key) → (others g).owning a ≡ Owned → ⊥)

-- So a graph is entered as the law on hands asks, and it owns what the rules say.
abbrev pub IsEnteredRight : Unit1 → Place → Table → (ℕ → Store) → (ℕ → Store) → Hands → Hands → ℕ → ℕ → ℕ → Type 0
IsEnteredRight u q table stores others hands after f l g =
    IsEntered table stores others hands after f l g × ((a : Port) → is_owned u q (origin.Port a.0 a.1) ≡ true → (others g).owning a ≡ Owned)

pub record AreEnteredByModes (u : Unit1) (p : Place) (l : ℕ) (n : Node) (table : Table) (stores others : ℕ → Store) (hands after : Hands) (f g : ℕ) : Type 0 where
  -- a part of a compound node: a selector, an alternative, an arm, an initialization, a test, a body, a generator, a returns
  pub of_part : (c : Compound) (x : Part) (k : ℕ) (sub : Graph) → compound_at (out-Node n).op ≡ Some c → part_at c k ≡ Some x
      → AreInputsBy p l (width p.graph (label_of n)) (λ i. i) (λ i. into_part x (mode_of (storage_of u) (number_of p) l i)) table stores hands f (others g)
      → IsEnteredRight u (record { graph = sub; home = Inside p.graph n k }) table stores others hands after f l g
  -- a function, whose arguments are the ports of the Call from 2 on
  pub of_function : (k first : ℕ) (fun : Graph) → is_call n ≡ true → called u p.graph (label_of n) ≡ Some fun
      → AreInputsBy p l first (λ i. suc i) (λ i. into_owner (mode_of (storage_of u) (number_of p) l (suc i))) table stores hands f (others g)
      → IsEnteredRight u (record { graph = fun; home = Function k }) table stores others hands after f l g

abbrev pub AreAllEnteredByModes : Type 0
AreAllEnteredByModes = (u : Unit1) (p : Place) (l : ℕ) (n : Node) (table : Table) (stores others : ℕ → Store) (hands after : Hands) (f g : ℕ) → find (λ q. number_of q == number_of p) (places u) ≡ Some p
    → Contains (places u) p
    → l ≢ 0
    → node_at (out-Graph p.graph).nodes l ≡ Some n
    → AreReadsOf p (stores f)
    → ((h : ℕ) → ¬ (h ≡ g) → others h ≡ stores h)
    → AreHandsLeft others hands after f l g
    → AreEnteredByModes u p l n table stores others hands after f g

-- Each of its inputs owns an aggregate that no port owned, and no other input owns it, or has that of a port from which an edge leads to
-- the node that does not take: so the laws of storage say what a graph is entered with.
pub record AreEnteredWith (u : Unit1) (p : Place) (l : ℕ) (n : Node) (table : Table) (stores : ℕ → Store) (hands : Hands) (f : ℕ) (store : Store) : Type 0 where
  pub of_part : (c : Compound) (x : Part) (k : ℕ) → compound_at (out-Node n).op ≡ Some c → part_at c k ≡ Some x
      → AreInputsBy p l (width p.graph (label_of n)) (λ i. i) (λ i. into_part x (mode_of (storage_of u) (number_of p) l i)) table stores hands f store
      → IsEnteredWith p table stores f l store
  pub of_function : (first : ℕ) → AreInputsBy p l first (λ i. suc i) (λ i. into_owner (mode_of (storage_of u) (number_of p) l (suc i))) table stores hands f store → IsEnteredWith p table stores f l store

abbrev pub AreAllEnteredWith : Type 0
AreAllEnteredWith = (u : Unit1) (p : Place) (l : ℕ) (n : Node) (table : Table) (stores : ℕ → Store) (hands : Hands) (f : ℕ) (store : Store) → find (λ q. number_of q == number_of p) (places u) ≡ Some p
    → Contains (places u) p
    → l ≢ 0
    → node_at (out-Graph p.graph).nodes l ≡ Some n
    → HandsStand table stores hands
    → AreEnteredWith u p l n table stores hands f store

-- ---- a graph is left

-- the edge to this result of a graph takes from a port that has the key
pub record IsResultTaken (q : Place) (store : Store) (i key : ℕ) : Type 0 where
  pub edge : Edge
  pub into : edge_into q.graph 0 i ≡ Some edge
  pub takes : edge.takes ≡ true
  pub from : Port
  pub origin : edge.from ≡ origin.Port from.0 from.1
  pub kept : store.cell from ≡ Some (Kept key)

-- From where a node that leaves a graph at place g has what is in its hands then: it had it, and has it in the same hand; a result is
-- taken; an input of the graph goes on, which the rules do not let the graph own, but which has an aggregate of its own, as those have
-- of a selector that the Select took, and the loop values of a test; or it is a copy.
pub data CameFrom (u : Unit1) (q : Place) (table : Table) (stores : ℕ → Store) (hands : Hands) (f l g : ℕ) (hand_for : ℕ → Hand) (i : Hand) (key : ℕ) : Type 0 where
  had : HasInHand table hands f l i key → CameFrom u q table stores hands f l g hand_for i key
  of_result : (j : ℕ) → i ≡ (1, j) → IsResultTaken q (stores g) j key → CameFrom u q table stores hands f l g hand_for i key
  of_input : (j : ℕ) → i ≡ hand_for j → is_owned u q (origin.Port 0 j) ≡ false → (stores g).cell (0, j) ≡ Some (Kept key) → (stores g).owning (0, j) ≡ Owned → CameFrom u q table stores hands f l g hand_for i key
  copied : IsFree table stores hands key → CameFrom u q table stores hands f l g hand_for i key

pub record AreResultsBy (u : Unit1) (q : Place) (table : Table) (stores : ℕ → Store) (hands after : Hands) (f l g : ℕ) (hand_for : ℕ → Hand) : Type 0 where
  pub same : OtherHandsSame hands after f l
  pub came : (i : Hand) (key : ℕ) → after f l i ≡ Some key → CameFrom u q table stores hands f l g hand_for i key
  -- each copy is one of its own
  pub copies_once : (i j : Hand) (key : ℕ) → after f l i ≡ Some key → after f l j ≡ Some key → IsFree table stores hands key → i ≡ j

-- So the node takes over what the law on hands asks, of whatever graph it leaves.
abbrev pub AreLeftByMarks : Type 0
AreLeftByMarks = (u : Unit1) (q : Place) (table : Table) (stores : ℕ → Store) (hands after : Hands) (f l g : ℕ) (y : Live) (hand_for : ℕ → Hand) → IsSound u → Contains (places u) q
    → HandsStand table stores hands
    → table g ≡ Some y
    → ((a : Port) → is_owned u q (origin.Port a.0 a.1) ≡ true → (stores g).owning a ≡ Owned)
    → AreResultsBy u q table stores hands after f l g hand_for
    → IsTakenOver table stores hands after f l g

-- ---- a node is done

-- The outputs of a node, which are empty before: each has an aggregate that was free, as one that its firing made, or the value of its
-- number in the hands of the node, as the leaving of a compound node or Call gives it. Then the node's hands are empty.
pub record AreOutputsBy (table : Table) (stores others : ℕ → Store) (hands after : Hands) (f l : ℕ) : Type 0 where
  pub cells : (g : ℕ) (a : Port) → ¬ ((g ≡ f) × (a.0 ≡ l)) → ((others g).cell a ≡ (stores g).cell a) × ((others g).owning a ≡ (stores g).owning a)
  pub reads : (g n : ℕ) → (others g).reads n ≡ (stores g).reads n
  pub empty : (i : ℕ) → (stores f).cell (l, i) ≡ None
  pub owned : (i key : ℕ) → (others f).cell (l, i) ≡ Some (Kept key) → (others f).owning (l, i) ≡ Owned
  pub came : (i key : ℕ) → (others f).cell (l, i) ≡ Some (Kept key) → IsFree table stores hands key ⊎ HasInHand table hands f l (1, i) key
  pub copies_once : (i j key : ℕ) → (others f).cell (l, i) ≡ Some (Kept key) → (others f).cell (l, j) ≡ Some (Kept key) → IsFree table stores hands key → i ≡ j
  pub same : OtherHandsSame hands after f l
  pub given : (i : Hand) → after f l i ≡ None

abbrev pub AreOutputsFilled : Type 0
AreOutputsFilled = (table : Table) (stores others : ℕ → Store) (hands after : Hands) (f l : ℕ) → HandsStand table stores hands → AreOutputsBy table stores others hands after f l
    → AreFilled table stores others hands after f l (λ a. eqb a.0 l)
