-- A graph that is entered stands as it should: none of its items was claimed.
use Rattle.std.proofs.Common.{◌≡◌, ℕ, Bool, true, false, eqb, if◌then◌else◌, List, [], ◌∷◌, Option, Some, ◌⊎◌, inl, inr, refl, sym, ap, ◌∙◌, subst}
use Rattle.std.proofs.lemmas.Bool.{eq-eqb}
use Rattle.graph_meaning.specs.Carried.{Carried}
use Rattle.graph_meaning.specs.Entered.{Entered, NoNode, WholeNode, Steps, Left, Unshown, GraphStep, SliceStep, Item, IsIn, Has}
use Rattle.graph_meaning.specs.Demand.{Kind, Plain, Whole, Vertex, Network, Cut, IsCut, at_label, waits, waits_of, operands, of_node, leads_to, Grow, compound, steps_of, node_tree, nodes_tree, tree_from, tree, IsLabel, EachNode}
use Rattle.graph_meaning.proofs.ItemsOnce.{part-facts}
use Rattle.graph_meaning.proofs.Ranks.{AreRanked}
use Rattle.run_states.specs.Standing.{Path, plug, label_of, IsOuter, Test, IsNode, LiveStands}
use Rattle.run_states.specs.Phases.{last_by, last_of, labels_of, entered_live}
use Rattle.run_states.proofs.Ready.{unmade}
use Rattle.run_states.proofs.Nodes.{same-label}
use Rattle.run_states.proofs.Phases.{is-node}

-- an item of a graph's tree is one of a node of the graph
node-labels : (grow : Grow) (v : Vertex) (k : Kind) (o : Option (List Carried)) (rest : Entered) (i : Item) (w : Option ℕ) → Has (node_tree grow v k o rest) i w → (label_of i ≡ v.label) ⊎ Has rest i w
node-labels grow v (Plain row shape) o rest i w (inl h) = inl (ap label_of h.0)
node-labels grow v (Plain row shape) o rest i w (inr h) = inr h
node-labels grow v (Whole form) o rest i w h = whole (steps_of grow form o) h
  where
    of-whole : (a : Entered) (p : Steps) → Has (WholeNode v.label (waits v) a p rest) i w → (label_of i ≡ v.label) ⊎ Has rest i w
    of-whole a p (inl h) = inl (ap label_of h.0)
    of-whole a p (inr (inl h)) = inl (ap label_of h.1)
    of-whole a p (inr (inr (inl h))) = inl (sym (same-label i) ∙ (part-facts p v.label 1 i w h).label)
    of-whole a p (inr (inr (inr h))) = inr h

    whole : (s : Steps) → Has (compound v s rest) i w → (label_of i ≡ v.label) ⊎ Has rest i w
    whole Left h = of-whole NoNode Left h
    whole Unshown h = of-whole NoNode Unshown h
    whole (GraphStep t a p) h = of-whole a p h
    whole (SliceStep cs p) h = of-whole NoNode (SliceStep cs p) h

pub labelled-in : (grow : Grow) (ks : Vertex → Option (List Carried)) (vs : List Vertex) (i : Item) (w : Option ℕ) → Has (nodes_tree grow ks vs) i w → IsIn (label_of i) (labels_of vs)
labelled-in grow ks [] i w h = absurd h
labelled-in grow ks (v ∷ vs) i w h = go (node-labels grow v v.kind (ks v) (nodes_tree grow ks vs) i w h) (labelled-in grow ks vs i w)
  where
    go : (label_of i ≡ v.label) ⊎ Has (nodes_tree grow ks vs) i w → (Has (nodes_tree grow ks vs) i w → IsIn (label_of i) (labels_of vs)) → IsIn (label_of i) (labels_of (v ∷ vs))
    go (inl e) rec = inl e
    go (inr x) rec = inr (rec x)

in-labels : (vs : List Vertex) (n : ℕ) → IsLabel vs n → IsIn n (labels_of vs)
in-labels [] n h = h
in-labels (v ∷ vs) n (inl e) = inl e
in-labels (v ∷ vs) n (inr h) = inr (in-labels vs n h)

-- the vertex of a label, with what holds of each
pub vertex-at : (P : Vertex → Type 0) (vs : List Vertex) → EachNode P vs → (l : ℕ) → IsIn l (labels_of vs) → (v : Vertex) × (at_label vs l ≡ Some v) × P v
vertex-at P [] each l h = absurd h
vertex-at P (v ∷ vs) each l h = go (eqb v.label l) refl h (λ i. vertex-at P vs each.1 l i)
  where
    go : (b : Bool) → eqb v.label l ≡ b → (l ≡ v.label) ⊎ IsIn l (labels_of vs) → (IsIn l (labels_of vs) → (w : Vertex) × (at_label vs l ≡ Some w) × P w) → (w : Vertex) × ((if eqb v.label l then Some v else at_label vs l) ≡ Some w) × P w
    go true e h rec = (v, ap (λ b. if b then Some v else at_label vs l) e, each.0)
    go false e (inl q) rec = absurd (clash e (eq-eqb v.label l (sym q)))
      where
        clash : eqb v.label l ≡ false → eqb v.label l ≡ true → ⊥
        clash a b = let c = sym a ∙ b in cc
    go false e (inr i) rec = let r = rec i in (r.0, ap (λ b. if b then Some v else at_label vs l) e ∙ r.1, r.2)

last-label : (k : Kind) (l : ℕ) → (label_of (last_by k l) ≡ l) × IsOuter (last_by k l)
last-label (Plain row shape) l = (refl, tt)
last-label (Whole form) l = (refl, tt)

module _ (cut : Cut) (u : Network) (is-cut : IsCut cut) (ready : AreRanked u) (g : ℕ) (ins : List Carried) (p : Path) (c m : Test) where
  abbrev Named : Vertex → Type 0
  Named v = (n : ℕ) → IsIn n (waits v) → IsLabel (u g).nodes n

  at-label : (l : ℕ) → IsIn l (labels_of (u g).nodes) → (v : Vertex) × (at_label (u g).nodes l ≡ Some v) × Named v
  at-label l i = vertex-at Named (u g).nodes (ready g).named l i

  pub entered-lives : ((i : Item) → m i ≡ true → c i ≡ true) → ((i : Item) → c (plug p i) ≡ false) → LiveStands c m (entered_live cut u g ins p)
  entered-lives mc fresh =
      record {
        labelled = λ i ex. labelled-in (tree_from cut ex.0 u) (λ w. operands (of_node (leads_to ex.0 u)) (u g) ins w.ins) (u g).nodes i ex.1 ex.2;
        waits_in = λ l n i w. let v = at-label l i in in-labels (u g).nodes n (v.2 n (subst (λ o. IsIn n (waits_of o)) v.1 w));
        node = λ l i. let v = at-label l i in subst (λ o. IsNode (λ n. tree cut n u g ins) l (waits_of o) (λ k. last_of (at_label (u g).nodes k) k)) (sym v.1) (is-node cut u is-cut ready g ins v.0 l v.1 v.2);
        last_own = λ l i. let v = at-label l i in subst (λ o. (label_of (last_of o l) ≡ l) × IsOuter (last_of o l)) (sym v.1) (last-label v.0.kind l);
        state = λ l i. ((λ j e. fresh j), unmade c m mc (plug p (last_of (at_label (u g).nodes l) l)) (fresh (last_of (at_label (u g).nodes l) l)));
      }
