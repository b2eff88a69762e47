-- What is noted of an edge of a graph, whether it may take or not.
use Rattle.std.specs.Prelude.{◌≡◌, ℕ, Bool, List, [], ◌++◌, map, drop, length}
use Rattle.if1_graph.specs.declared.graph.Edge.{Edge}
use Rattle.if1_graph.specs.declared.graph.Graph.{Graph}
use Rattle.if1_graph.specs.declared.graph.Graph.TheViews.{out-Graph}
use Rattle.if1_order.specs.Walks.{Lists}
use Rattle.marks_made.specs.Made.{Answer, Orders, answered, orders, made, made_orders}
use Rattle.marks_made.specs.Laws.{IsMarkable}
use Rattle.take_marks.specs.declared.why.Why.{Why}
use Rattle.take_marks.specs.Standing.{Stands}
use Rattle.take_marks.specs.Whys.{answer_of}
use Rattle.take_marks.specs.Made.{HaveWays}
use Rattle.take_marks.specs.Judged.{AreOrdersSound, IsAnswered}

abbrev pub IsNoted : Graph → Edge → Bool → Lists → List (List ℕ) → Lists → List (List ℕ) → Why → Type 0
IsNoted g e flag old oldest new newest why =
    (may : Edge → Bool) (os : Orders) → IsMarkable g may → may e ≡ flag → AreOrdersSound g os → Stands g os old oldest → IsAnswered g may os e new newest why

abbrev pub notes_of : List (Edge × Answer) → List Answer
notes_of xs = map (λ (x : Edge × Answer). x.1) xs

-- after the notes on the first n edges: with the notes on the others they are all, and so are the ordering edges
pub record IsRun (g : Graph) (may : Edge → Bool) (n : ℕ) (lists : Lists) (befores : List (List ℕ)) (whys : List Why) : Type 0 where
  pub now : Orders
  pub sound : AreOrdersSound g now
  pub stands : Stands g now lists befores
  pub answers : map answer_of whys ++ notes_of (answered g may now (drop n (out-Graph g).edges)) ≡ notes_of (made g may)
  pub order : orders g may now (drop n (out-Graph g).edges) ≡ made_orders g may
  pub ways : HaveWays g now (out-Graph g).edges whys
  pub count : length whys ≡ n

abbrev pub HasRun : Graph → List Bool → ℕ → Lists → List (List ℕ) → Lists → List (List ℕ) → List Why → Type 0
HasRun g flags n old oldest lists befores whys =
    (may : Edge → Bool) → IsMarkable g may → flags ≡ map may (out-Graph g).edges → Stands g [] old oldest → IsRun g may n lists befores whys
