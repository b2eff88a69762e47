-- A sort of places along the links of a graph is a firing order.
use Rattle.std.proofs.Common.{◌≡◌, ℕ, ◌<◌, List, length, slice_index, subst, arith}
use Rattle.std.specs.List.Sorted.{IsStrictlyIncreasing}
use Rattle.std.proofs.lemmas.List.{length-map}
use Rattle.if1_graph.specs.declared.graph.Graph.{Graph}
use Rattle.if1_graph.specs.declared.graph.Graph.TheViews.{out-Graph}
use Rattle.if1_graph.specs.Units.{label_of}
use Rattle.if1_marks.specs.Orders.{Precedes}
use Rattle.if1_order.specs.Orders.{node_labels}
use Rattle.if1_order.specs.Walks.{IsSorted, Leads, Lists}
use Rattle.if1_reach.proofs.Labelled.{from-links, same-default}
use Rattle.if1_reach.proofs.Links.{to-labels}
use Rattle.if1_reach.specs.Nets.{IsNet, links_in}
use Rattle.firing_order.specs.Orders.{IsFiringOrder}

labels-long : (g : Graph) → length (node_labels g) ≡ length (out-Graph g).nodes
labels-long g = length-map (out-Graph g).nodes label_of

-- with these labels, lists and places
pub sorted-order : (g : Graph) (labels : List ℕ) (lists : Lists) (os : List ℕ) → labels ≡ node_labels g → IsNet labels lists (links_in g) → IsSorted lists os → IsFiringOrder g os
sorted-order g labels lists os is net sorted =
    let n = subst (λ z. IsNet z lists (links_in g)) is net in
    let fit = n.fit in
    let long = labels-long g in
    record {
      once = sorted.once;
      these = λ k. ((λ c. let lt = (sorted.these k).0 c in omega (arith, lt, fit, long)), λ lt. (sorted.these k).1 (omega (arith, lt, fit, long)));
      after = λ j s lt there link. sorted.after j s lt (n.complete s (slice_index os j) (omega (arith, there, long)) (in-labels j lt) link);
    }
  where
    in-labels : (j : ℕ) → j < length os → slice_index os j < length (node_labels g)
    in-labels j lt =
        let n = subst (λ z. IsNet z lists (links_in g)) is net in
        let below = (sorted.these (slice_index os j)).0 (j, lt, same-default os j (slice_index os j) 0 lt) in
        let fit = n.fit in omega (arith, below, fit)

pub no-circle : (g : Graph) (labels : List ℕ) (lists : Lists) (s : ℕ) → IsStrictlyIncreasing (node_labels g) → ((l : ℕ) → ¬ Precedes g l l) → labels ≡ node_labels g → IsNet labels lists (links_in g) → Leads lists s s → ⊥
no-circle g labels lists s up acyclic is net leads = acyclic (slice_index labels s) (from-links g up (to-labels labels lists (links_in g) net leads))
