-- The trees of a ready unit have distinct labels and no cycle.
use Rattle.std.proofs.Common.{ℕ, zero, suc, ◌<◌, ◌≢◌, List, [], ◌∷◌, map, Option, Some, None, inl, inr}
use Rattle.graph_meaning.specs.Entered.{Entered, NoNode, Steps, Left, Unshown, GraphStep, SliceStep, IsIn, IsFresh, IsDistinct, AreDistinct, Falls, InnerAcyclic, AreAcyclic, IsAcyclic}
use Rattle.graph_meaning.specs.Carried.{Carried}
use Rattle.graph_meaning.specs.Forms.{Form, Next, Enter, Iterate, Leave, next_of, first, follow, gather}
use Rattle.graph_meaning.specs.Demand.{Kind, Plain, Whole, Vertex, Net, Network, Cut, Of, waits, all, operands, of_node, leads_to, dem, Grow, compound, steps_of, node_tree, nodes_tree, graph_tree, on_results, tree_from, tree, IsLabel, LabelsOnce, EachNode}
use Rattle.graph_meaning.proofs.Ranks.{IsRanked, AreRanked}

pub on-results-all : {A : Type 0} (P : Steps → Type 0) → P Unshown → (f : A → Steps) → ((a : A) → P (f a)) → (o : Option A) → P (on_results o f)
on-results-all P d f h None = d
on-results-all P d f h (Some a) = h a

record GoodParts (p : Steps) : Type 0 where
  distinct : AreDistinct p
  acyclic : AreAcyclic p

pub record GoodFrame (f : Entered) : Type 0 where
  pub distinct : IsDistinct f
  pub acyclic : IsAcyclic f

nothing : (rank : ℕ → ℕ) × Falls rank NoNode
nothing = ((λ n. n), tt)

compound-fresh : (v : Vertex) (p : Steps) (r : Entered) (n : ℕ) → n ≢ v.label → IsFresh n r → IsFresh n (compound v p r)
compound-fresh v Left r n ne f = (ne, f)
compound-fresh v Unshown r n ne f = (ne, f)
compound-fresh v (GraphStep t a q) r n ne f = (ne, f)
compound-fresh v (SliceStep cs q) r n ne f = (ne, f)

node-fresh : (grow : Grow) (v : Vertex) (k : Kind) (o : Option (List Carried)) (r : Entered) (n : ℕ) → n ≢ v.label → IsFresh n r → IsFresh n (node_tree grow v k o r)
node-fresh grow v (Plain row shape) o r n ne f = (ne, f)
node-fresh grow v (Whole form) o r n ne f = compound-fresh v (steps_of grow form o) r n ne f

nodes-fresh : (grow : Grow) (ks : Vertex → Option (List Carried)) (vs : List Vertex) (n : ℕ) → (IsLabel vs n → ⊥) → IsFresh n (nodes_tree grow ks vs)
nodes-fresh grow ks [] n h = tt
nodes-fresh grow ks (v ∷ vs) n h = node-fresh grow v v.kind (ks v) (nodes_tree grow ks vs) n (λ e. h (inl e)) (nodes-fresh grow ks vs n (λ x. h (inr x)))

record Inner (f : Entered) : Type 0 where
  distinct : IsDistinct f
  inner : InnerAcyclic f

compound-good : (v : Vertex) (p : Steps) (r : Entered) → GoodParts p → IsFresh v.label r → Inner r → Inner (compound v p r)
compound-good v Left r g f i = record { distinct = (f, tt, tt, i.distinct); inner = (nothing, tt, tt, i.inner) }
compound-good v Unshown r g f i = record { distinct = (f, tt, tt, i.distinct); inner = (nothing, tt, tt, i.inner) }
compound-good v (GraphStep t a q) r g f i = record { distinct = (f, g.distinct.0, g.distinct.1, i.distinct); inner = (g.acyclic.0, g.acyclic.1, g.acyclic.2, i.inner) }
compound-good v (SliceStep cs q) r g f i = record { distinct = (f, tt, g.distinct, i.distinct); inner = (nothing, tt, g.acyclic, i.inner) }

parts-of-good : (grow : Grow) → ((form : Form) (ks : List Carried) (next : Next) → GoodParts (grow form ks next)) → (form : Form) (o : Option (List Carried)) → GoodParts (steps_of grow form o)
parts-of-good grow h form None = record { distinct = tt; acyclic = tt }
parts-of-good grow h form (Some ks) = h form ks (next_of (first form ks))

node-good : (grow : Grow) → ((form : Form) (ks : List Carried) (next : Next) → GoodParts (grow form ks next)) → (v : Vertex) (k : Kind) (o : Option (List Carried)) (r : Entered) → IsFresh v.label r → Inner r → Inner (node_tree grow v k o r)
node-good grow h v (Plain row shape) o r f i = record { distinct = (f, i.distinct); inner = i.inner }
node-good grow h v (Whole form) o r f i = compound-good v (steps_of grow form o) r (parts-of-good grow h form o) f i

nodes-good : (grow : Grow) → ((form : Form) (ks : List Carried) (next : Next) → GoodParts (grow form ks next)) → (ks : Vertex → Option (List Carried)) (vs : List Vertex) → LabelsOnce vs → Inner (nodes_tree grow ks vs)
nodes-good grow h ks [] once = record { distinct = tt; inner = tt }
nodes-good grow h ks (v ∷ vs) once = node-good grow h v v.kind (ks v) (nodes_tree grow ks vs) (nodes-fresh grow ks vs v.label once.0) (nodes-good grow h ks vs once.1)

compound-falls : (rank : ℕ → ℕ) (v : Vertex) (p : Steps) (r : Entered) → ((n : ℕ) → IsIn n (waits v) → rank n < rank v.label) → Falls rank r → Falls rank (compound v p r)
compound-falls rank v Left r h f = (h, f)
compound-falls rank v Unshown r h f = (h, f)
compound-falls rank v (GraphStep t a q) r h f = (h, f)
compound-falls rank v (SliceStep cs q) r h f = (h, f)

node-falls : (grow : Grow) (rank : ℕ → ℕ) (v : Vertex) (k : Kind) (o : Option (List Carried)) (r : Entered) → ((n : ℕ) → IsIn n (waits v) → rank n < rank v.label) → Falls rank r → Falls rank (node_tree grow v k o r)
node-falls grow rank v (Plain row shape) o r h f = (h, f)
node-falls grow rank v (Whole form) o r h f = compound-falls rank v (steps_of grow form o) r h f

nodes-fall : (grow : Grow) (rank : ℕ → ℕ) (ks : Vertex → Option (List Carried)) (vs : List Vertex) → EachNode (λ v. (n : ℕ) → IsIn n (waits v) → rank n < rank v.label) vs → Falls rank (nodes_tree grow ks vs)
nodes-fall grow rank ks [] h = tt
nodes-fall grow rank ks (v ∷ vs) h = node-falls grow rank v v.kind (ks v) (nodes_tree grow ks vs) h.0 (nodes-fall grow rank ks vs h.1)

graph-good : (grow : Grow) (of : Of) (ins : List Carried) → ((form : Form) (ks : List Carried) (next : Next) → GoodParts (grow form ks next)) → (graph : Net) → IsRanked graph → GoodFrame (graph_tree grow of ins graph)
graph-good grow of ins h graph ready =
    let ks : Vertex → Option (List Carried) = λ v. operands of graph ins v.ins in
    let i = nodes-good grow h ks graph.nodes ready.once in
    record { distinct = i.distinct; acyclic = ((ready.rank, nodes-fall grow ready.rank ks graph.nodes ready.falls), i.inner) }

module _ (cut : Cut) (u : Network) (ready : AreRanked u) where
  frame-good : (grow : Grow) (of : Of) (ins : List Carried) → ((form : Form) (ks : List Carried) (next : Next) → GoodParts (grow form ks next)) → (g : ℕ) → GoodFrame (graph_tree grow of ins (u g))
  frame-good grow of ins h g = graph-good grow of ins h (u g) (ready g)

  parts-good : (n : ℕ) (form : Form) (ks : List Carried) (next : Next) → GoodParts (tree_from cut n u form ks next)
  parts-good zero form ks next = record { distinct = tt; acyclic = tt }
  parts-good (suc n) form ks (Leave rs) = record { distinct = tt; acyclic = tt }
  parts-good (suc n) form ks (Enter t g ins stage) =
      let a = frame-good (tree_from cut n u) (of_node (leads_to n u)) ins (parts-good n) g in
      let b = on-results-all GoodParts (record { distinct = tt; acyclic = tt }) _ (λ rs. parts-good n form ks (follow form ks stage rs)) (dem n u g ins) in
      record { distinct = (a.distinct, b.distinct); acyclic = (a.acyclic.0, a.acyclic.1, b.acyclic) }
  parts-good (suc n) form ks (Iterate g row rows ms) =
      let b = on-results-all GoodParts (record { distinct = tt; acyclic = tt }) _ (λ rs. parts-good n form ks (gather form ks ms rs)) (all (map (λ ins. dem n u g ins) (row ∷ rows))) in
      record { distinct = b.distinct; acyclic = b.acyclic }

  pub tree-good : (n g : ℕ) (ins : List Carried) → GoodFrame (tree cut n u g ins)
  tree-good n g ins = frame-good (tree_from cut n u) (of_node (leads_to n u)) ins (parts-good n) g
