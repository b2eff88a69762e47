-- What is noted of one edge, and what stands then.
use Rattle.std.specs.Prelude.{◌≡◌, ◌≢◌, ℕ, ◌<◌, ◌≤◌, length, slice_index, Bool, true, List, [], ◌∷◌, All, Contains}
use Rattle.std.specs.List.{list_any}
use Rattle.std.specs.List.Sorted.{IsStrictlyIncreasing}
use Rattle.if1_graph.specs.declared.graph.Edge.{Edge}
use Rattle.if1_graph.specs.declared.graph.Graph.{Graph}
use Rattle.if1_graph.specs.declared.graph.Graph.TheViews.{out-Graph}
use Rattle.if1_order.specs.Orders.{node_labels}
use Rattle.if1_order.specs.Walks.{Lists}
use Rattle.marks_made.specs.Ways.{Leads}
use Rattle.marks_made.specs.Made.{Orders, links, is_edge, answer, after, ordered}
use Rattle.marks_made.specs.Laws.{IsMarkable}
use Rattle.if1_reach.specs.Users.{users_in}
use Rattle.if1_reach.specs.Nets.{AreLinked}
use Rattle.if1_reach.specs.Paths.{IsPath}
use Rattle.take_marks.specs.Standing.{Stands, AreRising, top}
use Rattle.take_marks.specs.Whys.{answer_of, HasWay}
use Rattle.take_marks.specs.declared.why.Why.{Why}
use Rattle.take_marks.specs.declared.why.Why.TheVariants as why

-- labels that do not fall, with the boundary last
abbrev pub IsRow : List ℕ → Type 0
IsRow [] = Unit {0}
IsRow (x ∷ xs) = ((y : ℕ) → Contains xs y → y ≢ 0 → (1 ≤ x) × (x ≤ y)) × IsRow xs

-- ordering edges lead from nodes to nodes and close no cycle
pub record AreOrdersSound (g : Graph) (os : Orders) : Type 0 where
  pub named : (o : ℕ × ℕ) → Contains os o → Contains (node_labels g) o.0 × Contains (node_labels g) o.1
  pub acyclic : (l : ℕ) → ¬ Leads (links g os) l l

-- an edge of the graph that may take, and the users of its port
pub record IsLookedAt (g : Graph) (may : Edge → Bool) (os : Orders) (e : Edge) (users : List ℕ) (node : ℕ) : Type 0 where
  pub markable : IsMarkable g may
  pub rising : IsStrictlyIncreasing (node_labels g)
  pub sources : (l m : ℕ) → list_any (is_edge l m) (out-Graph g).edges ≡ true → Contains (node_labels g) l
  pub sound : AreOrdersSound g os
  pub there : Contains (out-Graph g).edges e
  pub may_take : may e ≡ true
  pub leads : e.node ≡ node
  pub users_are : users ≡ users_in (out-Graph g).edges e.from
  pub row : IsRow users

pub record IsAnswered (g : Graph) (may : Edge → Bool) (os : Orders) (e : Edge) (lists : Lists) (befores : List (List ℕ)) (why : Why) : Type 0 where
  pub is : answer g may os e ≡ answer_of why
  pub stands : Stands g (after g may os e) lists befores
  pub way : HasWay g os e why

abbrev pub IsJudged : List ℕ → List ℕ → ℕ → Lists → List (List ℕ) → Lists → List (List ℕ) → Why → Type 0
IsJudged labels users node old oldest new newest why =
    (g : Graph) (may : Edge → Bool) (os : Orders) (e : Edge) → labels ≡ node_labels g → IsLookedAt g may os e users node → Stands g os old oldest → IsAnswered g may os e new newest why

abbrev pub AreThere : List ℕ → List ℕ → Type 0
AreThere labels users = All (λ l. l ≢ 0 → Contains labels l) users

-- ---- where the other users are nodes

-- the other users of the edge's port
pub record AreOthers (g : Graph) (os : Orders) (others : List ℕ) (node : ℕ) : Type 0 where
  pub rising : IsStrictlyIncreasing (node_labels g)
  pub linked : AreLinked (node_labels g) (links g os)
  pub sound : AreOrdersSound g os
  pub inner : node ≢ 0
  pub up : AreRising others
  pub few : (k : ℕ) → k < length others → slice_index others k ≤ top

-- the taker leads to no other user, and the ordering edges are entered, or there is a path to one
abbrev pub IsTriedAs : Graph → (Edge → Bool) → Orders → List ℕ → ℕ → Lists → List (List ℕ) → Why → Type 0
IsTriedAs g may os others node new newest why.Taken =
    ((l : ℕ) → Contains others l → ¬ Leads (links g os) node l) × Stands g (ordered g node others os) new newest
IsTriedAs g may os others node new newest (why.Blocked path) =
    ((l : ℕ) × Contains others l × IsPath (links g os) node l path) × Stands g os new newest
IsTriedAs g may os others node new newest _ = ⊥

abbrev pub IsTried : List ℕ → List ℕ → ℕ → Lists → List (List ℕ) → Lists → List (List ℕ) → Why → Type 0
IsTried labels others node old oldest new newest why =
    (g : Graph) (may : Edge → Bool) (os : Orders) → labels ≡ node_labels g → IsMarkable g may → AreOthers g os others node → Stands g os old oldest → IsTriedAs g may os others node new newest why
