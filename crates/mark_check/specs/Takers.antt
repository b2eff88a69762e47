-- Which taking edge of a graph is the first that may not take, and who is to blame.
use Rattle.std.specs.Prelude.{◌≡◌, ◌≢◌, ℕ, ◌⊎◌, Bool, true, false, List, length, filter, ◌==◌, Option, MatchOption, All}
use Rattle.if1_graph.specs.declared.graph.Edge.{Edge}
use Rattle.if1_graph.specs.declared.graph.Graph.{Graph}
use Rattle.if1_graph.specs.declared.graph.Graph.TheViews.{out-Graph}
use Rattle.if1_graph.specs.declared.graph.Unit1.{Unit1}
use Rattle.if1_graph.specs.Units.{Place}
use Rattle.if1_order.specs.Walks.{Lists}
use Rattle.if1_marks.specs.Faults.{IsToBlame}
use Rattle.if1_reach.specs.declared.users.PortUsers.{PortUsers}
use Rattle.if1_reach.specs.Users.{HasUsers}
use Rattle.mark_check.specs.declared.takers.BadTaker.{BadTaker}
use Rattle.mark_check.specs.Entries.{IsNetOf, IsFirst}
use Rattle.mark_check.specs.Late.{IsInOrder, IsAfter}
use Rattle.mark_check.specs.Least.{IsLeastOf, IsAmong}

-- ---- one edge

-- the edge takes, and a node is to blame that it may not
abbrev pub IsWrongTaker : Unit1 → Place → Edge → Type 0
IsWrongTaker u p e = (e.takes ≡ true) × ((reader : ℕ) × IsToBlame u p e reader)

-- none is to blame, or the edge takes and this one is to blame, and none of a lower label
abbrev pub IsReaderAt : Unit1 → Place → Edge → Option ℕ → Type 0
IsReaderAt u p e r = MatchOption r (¬ IsWrongTaker u p e) (λ l. (e.takes ≡ true) × IsLeastOf (IsToBlame u p e) l)

-- the taker itself, where it may not take or is not once among the users of the port
abbrev pub IsOwnFault : List ℕ → ℕ → Bool → ℕ → Type 0
IsOwnFault users node may l = (l ≡ node) × ((may ≡ false) ⊎ (length (filter (λ m. m == node) users) ≢ 1))

-- the taker itself, another taker of the port, or another user that does not come before the taker
abbrev pub IsReader : Graph → List ℕ → List ℕ → ℕ → Bool → ℕ → Type 0
IsReader g users takers node may l = IsOwnFault users node may l ⊎ (IsAmong takers (λ m. m ≢ node) l ⊎ IsAmong users (IsAfter g node) l)

-- ---- a graph

-- the edges of the graph that take
abbrev pub taking : List Edge → List Edge
taking es = filter (λ e. e.takes) es

-- what is known of a graph whose takers are looked at
pub record IsLookedAt (g : Graph) (labels : List ℕ) (lists : Lists) (users takers : PortUsers) : Type 0 where
  pub order : IsInOrder g
  pub net : IsNetOf g labels lists
  pub users_are : HasUsers (out-Graph g).edges users
  pub takers_are : HasUsers (taking (out-Graph g).edges) takers

-- this is where the first edge that may not take ends, with the least label of a node that is to blame
pub record IsFirstTaker (u : Unit1) (p : Place) (t : BadTaker) : Type 0 where
  pub edge : Edge
  pub first : IsFirst (IsWrongTaker u p) (out-Graph p.graph).edges edge
  pub node : t.node ≡ edge.node
  pub port : t.port ≡ edge.port
  pub reader : IsLeastOf (IsToBlame u p edge) t.reader

-- each taking edge may take, or this is the first that may not
abbrev pub FirstTaker : Unit1 → Place → Option BadTaker → Type 0
FirstTaker u p r = MatchOption r (All (λ e. ¬ IsWrongTaker u p e) (out-Graph p.graph).edges) (IsFirstTaker u p)
