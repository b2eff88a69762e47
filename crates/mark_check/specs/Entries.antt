-- The entries of the ordering lists of a graph, in order, and which of them is the first that is wrong.
use Rattle.std.specs.Prelude.{◌≡◌, ℕ, ◌⊎◌, List, ◌∷◌, ◌++◌, map, Contains, MatchOption, Option, None, All}
use Rattle.std.specs.List.{flat_map}
use Rattle.if1_graph.specs.declared.graph.Graph.{Graph}
use Rattle.if1_graph.specs.declared.graph.Graph.TheViews.{out-Graph}
use Rattle.if1_graph.specs.declared.graph.Node.{Node, out-Node}
use Rattle.if1_graph.specs.Units.{label_of, node_at}
use Rattle.if1_order.specs.Orders.{node_labels, IsLinked}
use Rattle.if1_order.specs.Walks.{Lists, Leads, feeders_of}
use Rattle.if1_order.specs.Feeders.{IsPlace}
use Rattle.if1_components.specs.Components.{AreComponents}
use Rattle.if1_marks.specs.Orders.{Precedes}
use Rattle.if1_reach.specs.Nets.{IsNet, links_in}
use Rattle.mark_check.specs.declared.lists.Cycles.{Cycles}
use Rattle.mark_check.specs.declared.lists.Cycles.TheVariants.{Nowhere, Numbered}

-- of a node, its label and each label on its list
abbrev pub entries_of : Node → List (ℕ × ℕ)
entries_of n = map (λ l. (label_of n, l)) (out-Node n).before

abbrev pub entries : List Node → List (ℕ × ℕ)
entries ns = flat_map entries_of ns

-- the label on the list is none of a node of the graph, or the node comes before it
abbrev pub IsWrong : Graph → ℕ × ℕ → Type 0
IsWrong g at = (node_at (out-Graph g).nodes at.1 ≡ None) ⊎ Precedes g at.0 at.1

-- the nodes of a graph by label, whose edges lead from nodes to nodes, and lists of places with its edges and ordering lists
pub record IsNetOf (g : Graph) (labels : List ℕ) (lists : Lists) : Type 0 where
  pub is : labels ≡ node_labels g
  pub linked : IsLinked g
  pub net : IsNet (node_labels g) lists (links_in g)

-- the first member that has a property
pub record IsFirst {A : Type 0} (P : A → Type 0) (xs : List A) (x : A) : Type 0 where
  pub before : List A
  pub after : List A
  pub is : xs ≡ before ++ x ∷ after
  pub holds : P x
  pub none : All (λ y. ¬ P y) before

-- no entry is wrong, or this one is the first
abbrev pub FirstWrong : Graph → List (ℕ × ℕ) → Option (ℕ × ℕ) → Type 0
FirstWrong g xs r = MatchOption r (All (λ at. ¬ IsWrong g at) xs) (IsFirst (IsWrong g) xs)

-- no place leads to itself, or numbers tell which lead to each other
abbrev pub AreCyclesOf : Lists → Cycles → Type 0
AreCyclesOf lists Nowhere = (s : ℕ) → ¬ Leads lists s s
AreCyclesOf lists (Numbered numbers) = AreComponents lists numbers

-- where the label is that of a node, a link leads from there to this place
abbrev pub IsLinkedFrom : List ℕ → Lists → ℕ → ℕ → Type 0
IsLinkedFrom labels lists at label = (place : ℕ) → IsPlace labels place label → Contains (feeders_of lists at) place

-- of the labels on the list of one node none is wrong, or this one is the first
abbrev pub FirstOnList : Graph → ℕ → List ℕ → Option ℕ → Type 0
FirstOnList g m ls r = MatchOption r (All (λ l. ¬ IsWrong g (m, l)) ls) (IsFirst (λ l. IsWrong g (m, l)) ls)
