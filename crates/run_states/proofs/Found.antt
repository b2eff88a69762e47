-- Which items the trees of a graph have, by what its nodes do.
use Rattle.std.proofs.Common.{◌≡◌, ℕ, zero, suc, ◌+◌, false, List, [], ◌∷◌, map, slice_get, Option, Some, None, inl, inr, refl, sym, ap, ◌∙◌, subst, arith}
use Rattle.graph_meaning.specs.Carried.{Carried}
use Rattle.graph_meaning.specs.Entered.{Entered, NoNode, WholeNode, Steps, Left, Unshown, Item, Node, Entry, Slice, Inside, IsSlice, Has, StepsHave}
use Rattle.graph_meaning.specs.Forms.{Form, First, Next, Enter, Iterate, Leave as Leaves, Begins, Skips, next_of, first, follow, gather}
use Rattle.graph_meaning.specs.Demand.{Kind, Plain, Whole, Vertex, Network, Cut, at_label, waits, all, operands, of_node, leads_to, dem, compound, node_tree, on_results, slice_cost, tree_from, tree, EachNode}
use Rattle.graph_meaning.specs.Histories.{is_slice}
use Rattle.graph_meaning.proofs.Ranks.{AreRanked}
use Rattle.graph_meaning.proofs.Wellformed.{tree-good}
use Rattle.run_states.specs.Standing.{label_of}
use Rattle.run_states.specs.Phases.{Comes, skips, begins, enters, iterates}
use Rattle.run_states.specs.Paths.{IsWhole, EntersAt, at_first, at_step, IsItem, a_node, an_entry, a_leaving}
use Rattle.run_states.proofs.Nodes.{same-label, has-node}
use Rattle.run_states.proofs.Entering.{labelled-in, vertex-at}
use Rattle.run_states.proofs.Phases.{found-label, found-node}

-- an item of the tree of a depth, with its own firings there
pub data Found (cut : Cut) (u : Network) (g : ℕ) (ins : List Carried) : Item → Option ℕ → Type 0 where
  of_graph : (i : Item) (w : Option ℕ) → (is_slice i ≡ false) × IsItem cut u g ins i → Found cut u g ins i w
  of_slice : (l k r : ℕ) (form : Form) (ks : List Carried) (h : ℕ) (row : List Carried) (rows : List (List Carried)) (ms : List Carried) (part : List (List Carried)) (m : ℕ)
      → IsWhole u g ins l form ks
      → Comes u form ks k (Iterate h row rows ms)
      → slice_get (cut (row ∷ rows)) r ≡ Some part
      → Found cut u g ins (Slice l (suc k) r) (slice_cost (λ is. tree cut m u h is) part)
  of_inner : (l k : ℕ) (e : Item) (form : Form) (ks : List Carried) (h : ℕ) (is : List Carried) (m : ℕ) (i : Item) (w : Option ℕ)
      → IsWhole u g ins l form ks
      → EntersAt u form ks l k e h is
      → Has (tree cut m u h is) i w
      → Found cut u g ins (Inside l k i) w

-- ---- slices

sliced-at : (f : List (List Carried) → Option ℕ) (cut : List (List (List Carried))) (l k s : ℕ) (i : Item) (w : Option ℕ) → IsSlice l k s (map f cut) i w
    → (r : ℕ) × (part : List (List Carried)) × (slice_get cut r ≡ Some part) × (i ≡ Slice l k (s + r)) × (w ≡ f part)
sliced-at f [] l k s i w h = absurd h
sliced-at f (part ∷ cut) l k s i w (inl h) = (0, part, refl, h.0 ∙ ap (Slice l k) (omega arith), h.1)
sliced-at f (part ∷ cut) l k s i w (inr h) =
    let x = sliced-at f cut l k (suc s) i w h in
    (suc x.0, x.1, x.2, x.3 ∙ ap (Slice l k) (omega arith), x.4)

-- ---- the steps of a node

module _ (cut : Cut) (u : Network) (g : ℕ) (ins : List Carried) (l : ℕ) (form : Form) (ks : List Carried) (is-whole : IsWhole u g ins l form ks) where
  abbrev Here : Item → Option ℕ → Type 0
  Here = Found cut u g ins

  abbrev Plainly : Item → Type 0
  Plainly i = (is_slice i ≡ false) × IsItem cut u g ins i

  -- what stands behind results, where they are given
  after-results : (k : ℕ) {A : Type 0} (o : Option A) (f : A → Steps) (i : Item) (w : Option ℕ) → StepsHave l k (on_results o f) i w → ((a : A) → o ≡ Some a → StepsHave l k (f a) i w → Here i w) → Here i w
  after-results k None f i w h on = absurd h
  after-results k (Some a) f i w h on = on a refl h

  pub steps-found : (n k : ℕ) (next : Next) → Comes u form ks k next → (i : Item) (w : Option ℕ) → StepsHave l (suc k) (tree_from cut n u form ks next) i w → Here i w
  steps-found zero k next c i w h = absurd h
  steps-found (suc n) k (Leaves rs) c i w h = of_graph i w (subst Plainly (sym h.0) (refl, a_leaving l k form ks rs is-whole c))
  steps-found (suc n) k (Enter t j js stage) c i w (inl h) = of_graph i w (subst Plainly (sym h.0) (refl, an_entry l k form ks t j js stage is-whole c))
  steps-found (suc n) k (Enter t j js stage) c i w (inr (inl h)) =
      subst (λ z. Here z w) (sym h.1) (of_inner l (suc k) (Entry t l (suc k)) form ks j js n h.0 w is-whole (at_step k t j js stage c) h.2)
  steps-found (suc n) k (Enter t j js stage) c i w (inr (inr h)) =
      after-results (suc (suc k)) (dem n u j js) (λ rs. tree_from cut n u form ks (follow form ks stage rs)) i w h
      (λ rs e x. steps-found n (suc k) (follow form ks stage rs) (enters k t j js stage rs c (n, e)) i w x)
  steps-found (suc n) k (Iterate j row rows ms) c i w (inl h) =
      let x = sliced-at (slice_cost (λ is. tree cut n u j is)) (cut (row ∷ rows)) l (suc k) 0 i w h in
      let at : i ≡ Slice l (suc k) x.0 = x.3 ∙ ap (Slice l (suc k)) (omega arith) in
      subst (λ z. Here z w) (sym at) (subst (Here (Slice l (suc k) x.0)) (sym x.4) (of_slice l k x.0 form ks j row rows ms x.1 n is-whole c x.2))
  steps-found (suc n) k (Iterate j row rows ms) c i w (inr h) =
      after-results (suc (suc k)) (all (map (λ is. dem n u j is) (row ∷ rows))) (λ rs. tree_from cut n u form ks (gather form ks ms rs)) i w h
      (λ rs e x. steps-found n (suc k) (gather form ks ms rs) (iterates k j row rows ms rs c (n, e)) i w x)

  -- the node that has these steps, alone
  module _ (v : Vertex) (label : v.label ≡ l) (at-l : at_label (u g).nodes l ≡ Some v) where
    own-item : (i : Item) (w : Option ℕ) → i ≡ Node v.label → Here i w
    own-item i w e = of_graph i w (subst Plainly (sym (e ∙ ap Node label)) (refl, a_node l v at-l))

    alone : (a : Entered) (p : Steps) (i : Item) (w : Option ℕ) → Has (WholeNode v.label (waits v) a p NoNode) i w
        → ((j : Item) → i ≡ Inside l 0 j → Has a j w → Here i w) → (StepsHave l 1 p i w → Here i w) → Here i w
    alone a p i w (inl h) first rest = own-item i w h.0
    alone a p i w (inr (inl h)) first rest = first h.0 (h.1 ∙ ap (λ z. Inside z 0 h.0) label) h.2
    alone a p i w (inr (inr (inl h))) first rest = rest (subst (λ z. StepsHave z 1 p i w) label h)
    alone a p i w (inr (inr (inr h))) first rest = absurd h

    none : (p : Steps) (i : Item) (w : Option ℕ) → Has (WholeNode v.label (waits v) NoNode p NoNode) i w → (StepsHave l 1 p i w → Here i w) → Here i w
    none p i w h rest = alone NoNode p i w h (λ j e x. absurd x) rest

    pub begun : (n : ℕ) (f : First) → first form ks ≡ f → (i : Item) (w : Option ℕ) → Has (compound v (tree_from cut n u form ks (next_of f)) NoNode) i w → Here i w
    begun zero f e i w h = none Unshown i w h (λ x. absurd x)
    begun (suc n) (Skips rs) e i w h = none Left i w h (λ x. steps-found (suc n) 0 (Leaves rs) (skips rs e) i w x)
    begun (suc n) (Begins j js stage) e i w h =
        alone (tree cut n u j js) (on_results (dem n u j js) (λ rs. tree_from cut n u form ks (follow form ks stage rs))) i w h
        (λ y q x. subst (λ z. Here z w) (sym q) (of_inner l 0 (Node l) form ks j js n y w is-whole (at_first j js stage e) x))
        (λ x. after-results 1 (dem n u j js) (λ rs. tree_from cut n u form ks (follow form ks stage rs)) i w x (λ rs q y. steps-found n 0 (follow form ks stage rs) (begins j js stage rs e (n, q)) i w y))

-- ---- a whole graph

module _ (cut : Cut) (u : Network) (ready : AreRanked u) (g : ℕ) (ins : List Carried) (n : ℕ) where
  by-kind : (v : Vertex) (l : ℕ) → at_label (u g).nodes l ≡ Some v → (k : Kind) → v.kind ≡ k → (o : Option (List Carried)) → operands (of_node (leads_to n u)) (u g) ins v.ins ≡ o
      → (i : Item) (w : Option ℕ) → Has (node_tree (tree_from cut n u) v k o NoNode) i w → Found cut u g ins i w
  by-kind v l at-l (Plain row shape) is o given i w (inl h) =
      of_graph i w (subst (λ z. (is_slice z ≡ false) × IsItem cut u g ins z) (sym (h.0 ∙ ap Node (found-label (u g).nodes l v at-l))) (refl, a_node l v at-l))
  by-kind v l at-l (Plain row shape) is o given i w (inr h) = absurd h
  by-kind v l at-l (Whole form) is None given i w (inl h) =
      of_graph i w (subst (λ z. (is_slice z ≡ false) × IsItem cut u g ins z) (sym (h.0 ∙ ap Node (found-label (u g).nodes l v at-l))) (refl, a_node l v at-l))
  by-kind v l at-l (Whole form) is None given i w (inr (inl h)) = absurd h.2
  by-kind v l at-l (Whole form) is None given i w (inr (inr (inl h))) = absurd h
  by-kind v l at-l (Whole form) is None given i w (inr (inr (inr h))) = absurd h
  by-kind v l at-l (Whole form) is (Some ks) given i w h =
      begun cut u g ins l form ks (record { node = v; found = at-l; kind = is; given = (n, given) }) v (found-label (u g).nodes l v at-l) at-l n (first form ks) refl i w h

  -- each item of a tree is found
  pub found : (i : Item) (w : Option ℕ) → Has (tree cut n u g ins) i w → Found cut u g ins i w
  found i w h =
      let x = vertex-at (λ v. v ≡ v) (u g).nodes (each (u g).nodes) (label_of i) (labelled-in (tree_from cut n u) (λ v. operands (of_node (leads_to n u)) (u g) ins v.ins) (u g).nodes i w h) in
      let own = has-node (tree cut n u g ins) (tree-good cut u ready n g ins).distinct (label_of i) _ (found-node (tree_from cut n u) (λ v. operands (of_node (leads_to n u)) (u g) ins v.ins) (u g).nodes (label_of i) x.0 x.1) i w h (same-label i) in
      by-kind x.0 (label_of i) x.1 x.0.kind refl (operands (of_node (leads_to n u)) (u g) ins x.0.ins) refl i w own
    where
      each : (vs : List Vertex) → EachNode (λ v. v ≡ v) vs
      each [] = tt
      each (v ∷ vs) = (refl, each vs)
