-- The laws of the storage rules: what they say in words, and what sound marks give.
use Rattle.std.specs.Prelude.{◌≡◌, ◌≢◌, ◌≤◌, ℕ, true, false, List, ◌∷◌, map, drop, ◌⊎◌, ◌↔◌, Some, All, Contains}
use Rattle.if1_graph.specs.declared.graph.Edge.{Edge}
use Rattle.if1_graph.specs.declared.graph.Graph.{Graph}
use Rattle.if1_graph.specs.declared.graph.Graph.TheViews.{out-Graph}
use Rattle.if1_graph.specs.declared.graph.Node.{Node, out-Node}
use Rattle.if1_graph.specs.declared.graph.Origin.{Origin}
use Rattle.if1_graph.specs.declared.graph.Origin.TheVariants.{Port}
use Rattle.if1_graph.specs.declared.graph.Unit1.{Unit1}
use Rattle.if1_graph.specs.declared.op.Compound.{Compound}
use Rattle.if1_graph.specs.declared.op.Compound.TheVariants as compound
use Rattle.if1_graph.specs.declared.op.Part.{Part}
use Rattle.if1_graph.specs.declared.op.Part.TheVariants as part
use Rattle.if1_graph.specs.Ops.{compound_at}
use Rattle.if1_graph.specs.Ports.{leaves, part_of}
use Rattle.if1_graph.specs.Ready.{IsReady}
use Rattle.if1_graph.specs.Units.{label_of, node_at, width, Home, Function, Inside, Place, places}
use Rattle.if1_marks.specs.Given.{is_call, is_consumed_by, is_given_inside, is_used_inside, is_consuming}
use Rattle.if1_marks.specs.Owned.{is_owned}
use Rattle.if1_marks.specs.Ways.{Links, Leads, leads_by}
use Rattle.if1_marks.specs.Orders.{Precedes, ComesBefore, AreOrdersRight, HasNoLists, HasNoTakers}
use Rattle.if1_marks.specs.Unmarked.{untaken, unmarked, unmarked_unit, unmarked_place}
use Rattle.if1_marks.specs.Faults.{IsWrongOnList, IsToBlame}
use Rattle.if1_marks.specs.Sound.{IsSound}

-- ---- what is given

-- no Call of the graph has this label
abbrev pub IsNoCall : Graph → ℕ → Type 0
IsNoCall g l = (n : Node) → l ≢ 0 → node_at (out-Graph g).nodes l ≡ Some n → is_call n ≡ false

-- an edge that leaves the input is a consuming one, and leads to no Call
pub record IsGivenBy (u : Unit1) (g : Graph) (port : ℕ) (e : Edge) : Type 0 where
  pub there : Contains (out-Graph g).edges e
  pub from : leaves 0 port e.from ≡ true
  pub consuming : is_consuming u g e ≡ true
  pub no_call : IsNoCall g e.node

-- an input of a graph is given exactly where a consuming edge that leads to no Call leaves it
abbrev pub IsGivenByEdge : Type 0
IsGivenByEdge = (u : Unit1) (g : Graph) (port : ℕ) → (is_given_inside u g port ≡ true) ↔ ((e : Edge) × IsGivenBy u g port e)

-- in one of these graphs the input is given
abbrev pub IsGivenInOne : Unit1 → List Graph → ℕ → Type 0
IsGivenInOne u gs port = (g : Graph) × Contains gs g × (is_given_inside u g port ≡ true)

-- in the first graph the input is given, and in the others no edge leaves it
pub record IsGivenAtFirst (u : Unit1) (gs : List Graph) (port : ℕ) : Type 0 where
  pub init : Graph
  pub others : List Graph
  pub are : gs ≡ init ∷ others
  pub given : is_given_inside u init port ≡ true
  pub unused : All (λ g. is_used_inside g port ≡ false) others

-- what a compound node of these graphs is given
abbrev pub IsGivenTo : Unit1 → Compound → List Graph → ℕ → Type 0
IsGivenTo u compound.Select gs port = IsGivenInOne u (drop 1 gs) port
IsGivenTo u compound.TagCase gs port = IsGivenInOne u gs port
IsGivenTo u compound.LoopA gs port = IsGivenAtFirst u gs port
IsGivenTo u compound.LoopB gs port = IsGivenAtFirst u gs port
IsGivenTo u compound.ForAll gs port = ⊥

-- a compound node consumes exactly what it is given
abbrev pub IsConsumedWhereGiven : Type 0
IsConsumedWhereGiven = (u : Unit1) (n : Node) (c : Compound) (port : ℕ) → compound_at (out-Node n).op ≡ Some c → (is_consumed_by u n port ≡ true) ↔ IsGivenTo u c (out-Node n).subs port

-- ---- what is lent

-- the input is no port that owns what it carries
abbrev pub IsLent : Unit1 → Graph → Home → ℕ → Type 0
IsLent u g home port = is_owned u (record { graph = g; home = home }) (Port 0 port) ≡ false

abbrev pub IsForAll : Compound → Type 0
IsForAll compound.ForAll = Unit {0}
IsForAll _ = ⊥

-- the parts of compound nodes that only look at their inputs
abbrev pub OnlyLooks : Compound → Part → Type 0
OnlyLooks c part.Selector = Unit {0}
OnlyLooks c part.Test = Unit {0}
OnlyLooks c part.Generator = Unit {0}
OnlyLooks c part.Body = IsForAll c
OnlyLooks c _ = ⊥

-- the parts that are entered again, or after others
abbrev pub IsLater : Part → Type 0
IsLater part.Body = Unit {0}
IsLater part.Returns = Unit {0}
IsLater _ = ⊥

-- These inputs are lent: one of a function that is not given; all of a part that only looks at them; one of the node in a body
-- or in returns; one of the node in another part where the node is not given it.
pub record AreInputsLent (u : Unit1) (g : Graph) (port : ℕ) : Type 0 where
  pub argument : (k : ℕ) → is_given_inside u g port ≡ false → IsLent u g (Function k) port
  pub looked_at : (outer : Graph) (n : Node) (k : ℕ) (cp : Compound × Part) → part_of n k ≡ Some cp → OnlyLooks cp.0 cp.1 → IsLent u g (Inside outer n k) port
  pub kept : (outer : Graph) (n : Node) (k : ℕ) (cp : Compound × Part) → part_of n k ≡ Some cp → IsLater cp.1 → port ≤ width outer (label_of n) → IsLent u g (Inside outer n k) port
  pub not_given : (outer : Graph) (n : Node) (k : ℕ) → is_consumed_by u n port ≡ false → port ≤ width outer (label_of n) → IsLent u g (Inside outer n k) port

abbrev pub AreLent : Type 0
AreLent = (u : Unit1) (g : Graph) (port : ℕ) → AreInputsLent u g port

-- ---- which node comes before which

-- by numbers among which is each one that a link leads to
abbrev pub AreWaysFound : Type 0
AreWaysFound = (links : Links) (ks : List ℕ) → ((l m : ℕ) → links l m ≡ true → Contains ks m) → (l m : ℕ) → (leads_by links ks l m ≡ true) ↔ Leads links l m

-- of each two nodes of a graph it is known whether the one comes before the other
abbrev pub IsOrderKnown : Type 0
IsOrderKnown = (g : Graph) (l m : ℕ) → ComesBefore g l m ⊎ (¬ ComesBefore g l m)

-- ---- what sound marks give

-- in sound marks no two edges take from one port
abbrev pub IsTakenOnce : Type 0
IsTakenOnce = (u : Unit1) (p : Place) (e f : Edge) → IsSound u → Contains (places u) p → Contains (out-Graph p.graph).edges e → Contains (out-Graph p.graph).edges f
    → e.takes ≡ true → f.takes ≡ true → f.from ≡ e.from → f ≡ e

-- and every other edge from the port leads to a node before the taker, and to none after it
abbrev pub IsTakerLast : Type 0
IsTakerLast = (u : Unit1) (p : Place) (e f : Edge) → IsSound u → Contains (places u) p → Contains (out-Graph p.graph).edges e → Contains (out-Graph p.graph).edges f
    → e.takes ≡ true → f.from ≡ e.from → f ≢ e → e.node ≢ 0 → Precedes p.graph f.node e.node × ¬ Precedes p.graph e.node f.node

-- a taking edge leads to no node to which another edge from its port leads
abbrev pub IsTakenAlone : Type 0
IsTakenAlone = (u : Unit1) (p : Place) (e f : Edge) → IsSound u → Contains (places u) p → Contains (out-Graph p.graph).edges e → Contains (out-Graph p.graph).edges f
    → e.takes ≡ true → f.from ≡ e.from → f.node ≡ e.node → f ≡ e

-- where marks are sound, edges and ordering lists lead from no node to itself
abbrev pub IsSoundInOrder : Type 0
IsSoundInOrder = (u : Unit1) → IsSound u → AreOrdersRight u

-- without ordering lists a ready unit is in order, since no node reaches itself
abbrev pub IsReadyInOrder : Type 0
IsReadyInOrder = (u : Unit1) → IsReady u → HasNoLists u → AreOrdersRight u

-- a ready unit without marks is sound
abbrev pub IsUnmarkedSound : Type 0
IsUnmarkedSound = (u : Unit1) → IsReady u → HasNoTakers u → HasNoLists u → IsSound u

-- ---- faults

-- no label on an ordering list of the graph is wrong, and of no taking edge a node is to blame
pub record IsFaultless (u : Unit1) (p : Place) : Type 0 where
  pub lists : (n : Node) (l : ℕ) → Contains (out-Graph p.graph).nodes n → ¬ IsWrongOnList p.graph n l
  pub takers : (e : Edge) (reader : ℕ) → Contains (out-Graph p.graph).edges e → e.takes ≡ true → ¬ IsToBlame u p e reader

-- sound marks of a ready unit have no fault
abbrev pub AreSoundFaultless : Type 0
AreSoundFaultless = (u : Unit1) → IsReady u → IsSound u → All (IsFaultless u) (places u)

-- and marks of a ready unit that have no fault are sound
abbrev pub AreFaultlessSound : Type 0
AreFaultlessSound = (u : Unit1) → IsReady u → All (IsFaultless u) (places u) → IsSound u

-- ---- the rules look at no marks

-- what is consumed, and what is owned, is the same without the marks
pub record IsUnmarkedAlike (u : Unit1) (p : Place) : Type 0 where
  pub consuming : (e : Edge) → is_consuming (unmarked_unit u) (unmarked p.graph) (untaken e) ≡ is_consuming u p.graph e
  pub owned : (from : Origin) → is_owned (unmarked_unit u) (unmarked_place p) from ≡ is_owned u p from

abbrev pub AreMarksNotLookedAt : Type 0
AreMarksNotLookedAt = (u : Unit1) (p : Place) → IsUnmarkedAlike u p

-- the unit without its marks has the same graphs at the same places, each without its marks, and no marks
pub record IsWithoutMarks (u : Unit1) : Type 0 where
  pub places_are : places (unmarked_unit u) ≡ map unmarked_place (places u)
  pub takers : HasNoTakers (unmarked_unit u)
  pub lists : HasNoLists (unmarked_unit u)

abbrev pub AreUnmarkedWithout : Type 0
AreUnmarkedWithout = (u : Unit1) → IsWithoutMarks u
