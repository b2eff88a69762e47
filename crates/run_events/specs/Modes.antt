-- What a Call or a compound node does with what is carried into its ports, by the table that copies go by: it takes it, copies it, or
-- lends it to what it enters.
use Rattle.std.specs.Prelude.{◌≡◌, ◌≢◌, ℕ, suc, Bool, true, false, ◌&&◌, ◌↔◌, ◌≤◌, find, slice_get, Contains, Some, ◌==◌}
use Rattle.if1_graph.specs.declared.graph.Graph.{Graph}
use Rattle.if1_graph.specs.declared.graph.Graph.TheViews.{out-Graph}
use Rattle.if1_graph.specs.declared.graph.Node.{Node, out-Node}
use Rattle.if1_graph.specs.declared.graph.Origin.TheVariants as origin
use Rattle.if1_graph.specs.declared.graph.Unit1.{Unit1}
use Rattle.if1_graph.specs.declared.op.Compound.{Compound}
use Rattle.if1_graph.specs.declared.op.Part.{Part}
use Rattle.if1_graph.specs.declared.op.Part.TheVariants as part
use Rattle.if1_graph.specs.Ops.{compound_at}
use Rattle.if1_graph.specs.Parts.{part_at}
use Rattle.if1_graph.specs.Units.{label_of, node_at, edge_into, width, Place, places, number_of, Function, Inside}
use Rattle.if1_marks.specs.Given.{is_call, called, is_used_inside}
use Rattle.if1_marks.specs.Owned.{is_owned}
use Rattle.if1_marks.specs.Sound.{IsSound}
use Rattle.graph_meaning.specs.Storage.{Storage, is_left}
use Rattle.graph_meaning.specs.StorageUnits.{storage_of, takes}

pub data Mode : Type 0 where
  Takes : Mode
  Copies : Mode
  Lends : Mode

abbrev pub mode_by : (taken given : Bool) → Mode
mode_by true given = Takes
mode_by false true = Copies
mode_by false false = Lends

abbrev pub mode_of : Storage → (graph node port : ℕ) → Mode
mode_of s g l port = mode_by (s.is_taken g l port) (s.is_given g l port)

-- How an input of an entered graph stands: it has an aggregate of its own, or that of the port from which the node's edge comes, or, where
-- it was given to another part, none.
pub data Input : Type 0 where
  Own : Input
  Borrowed : Input
  Gone : Input

-- of a function, an alternative, an arm or an initialization
abbrev pub into_owner : Mode → Input
into_owner Takes = Own
into_owner Copies = Own
into_owner Lends = Borrowed

-- A selector only looks: what the Select took is its own until an alternative is entered.
abbrev pub into_selector : Mode → Input
into_selector Takes = Own
into_selector Copies = Borrowed
into_selector Lends = Borrowed

-- of a part of a loop behind its initialization, and of the parts of a ForAll
abbrev pub into_later : Mode → Input
into_later Takes = Gone
into_later Copies = Borrowed
into_later Lends = Borrowed

abbrev pub into_part : Part → Mode → Input
into_part part.Selector m = into_selector m
into_part part.Alternative m = into_owner m
into_part part.Arm m = into_owner m
into_part part.Initialization m = into_owner m
into_part part.Test m = into_later m
into_part part.Body m = into_later m
into_part part.Returns m = into_later m
into_part part.Generator m = into_later m

-- ---- laws

-- What a node labelled l of the graph of this number does with its ports goes by the marks.
pub record AreModesRight (u : Unit1) (p : Place) (l : ℕ) (n : Node) : Type 0 where
  -- it takes exactly along an edge that does
  pub taken : (port : ℕ) → mode_of (storage_of u) (number_of p) l port ≡ Takes → takes (edge_into p.graph l port) ≡ true
  pub untaken : (port : ℕ) → mode_of (storage_of u) (number_of p) l port ≢ Takes → takes (edge_into p.graph l port) ≡ false
  -- An input of a part that the rules say is owned has an aggregate of its own, where it comes from a port of the node.
  pub part_owned : (c : Compound) (x : Part) (k port : ℕ) (g : Graph) → compound_at (out-Node n).op ≡ Some c → part_at c k ≡ Some x → port ≤ width p.graph (label_of n)
      → is_owned u (record { graph = g; home = Inside p.graph n k }) (origin.Port 0 port) ≡ true
      → into_part x (mode_of (storage_of u) (number_of p) l port) ≡ Own
  -- so has an argument that the function owns
  pub argument_owned : (k port : ℕ) (f : Graph) → is_call n ≡ true → called u p.graph (label_of n) ≡ Some f
      → is_owned u (record { graph = f; home = Function k }) (origin.Port 0 port) ≡ true
      → into_owner (mode_of (storage_of u) (number_of p) l (suc port)) ≡ Own
  -- An input that is gone no edge leaves.
  pub gone_unused : IsSound u → (c : Compound) (x : Part) (k port : ℕ) (g : Graph) → compound_at (out-Node n).op ≡ Some c → part_at c k ≡ Some x
      → slice_get (out-Node n).subs k ≡ Some g
      → into_part x (mode_of (storage_of u) (number_of p) l port) ≡ Gone
      → is_used_inside g port ≡ false

abbrev pub AreAllModesRight : Type 0
AreAllModesRight = (u : Unit1) (p : Place) (l : ℕ) (n : Node) → find (λ q. number_of q == number_of p) (places u) ≡ Some p → Contains (places u) p → l ≢ 0
    → node_at (out-Graph p.graph).nodes l ≡ Some n
    → AreModesRight u p l n

-- What a node copies so is what its copies count: what is given to it at a port, is an aggregate and is not taken.
abbrev pub AreCopiesCounted : Type 0
AreCopiesCounted = (s : Storage) (g l port : ℕ) → (s.is_given g l port && is_left s g l port ≡ true) ↔ ((mode_of s g l port ≡ Copies) × (s.is_aggregate g l port ≡ true))
