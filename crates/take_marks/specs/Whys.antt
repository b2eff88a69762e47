-- What is noted of an edge, and the way that a blocked one goes.
use Rattle.std.specs.Prelude.{◌≡◌, ℕ, List, [], ◌∷◌, MatchBool, Bool, map, Contains, ◌==◌}
use Rattle.if1_graph.specs.declared.graph.Edge.{Edge}
use Rattle.if1_graph.specs.declared.graph.Graph.{Graph}
use Rattle.if1_graph.specs.declared.graph.Graph.TheViews.{out-Graph}
use Rattle.marks_made.specs.Ways.{Links}
use Rattle.marks_made.specs.Made.{Answer, Orders, links, others}
use Rattle.marks_made.specs.Made as made
use Rattle.marks_made.specs.Laws.{IsMarkable}
use Rattle.if1_reach.specs.Paths.{IsPath}
use Rattle.take_marks.specs.declared.why.Why.{Why}
use Rattle.take_marks.specs.declared.why.Why.TheVariants as why

abbrev pub answer_of : Why → Answer
answer_of why.Kept = made.Kept
answer_of why.Taken = made.Taken
answer_of why.Twice = made.Twice
answer_of (why.Blocked path) = made.Blocked

-- from the node to a user of the port; to the boundary every node leads
abbrev pub IsWayTo : Links → ℕ → ℕ → List ℕ → Type 0
IsWayTo ls t user path = MatchBool (user == 0) (path ≡ t ∷ 0 ∷ []) (IsPath ls t user path)

-- the path leads from where the edge ends to another user of its port
pub record IsWayOut (g : Graph) (os : Orders) (e : Edge) (path : List ℕ) : Type 0 where
  pub user : ℕ
  pub there : Contains (others g e) user
  pub way : IsWayTo (links g os) e.node user path

abbrev pub HasWay : Graph → Orders → Edge → Why → Type 0
HasWay g os e (why.Blocked path) = IsWayOut g os e path
HasWay g os e _ = Unit {0}

-- of each edge, whether it may take, by a test that the marks made ask for
pub record IsMarkableBy (g : Graph) (flags : List Bool) : Type 0 where
  pub may : Edge → Bool
  pub markable : IsMarkable g may
  pub are : flags ≡ map may (out-Graph g).edges
