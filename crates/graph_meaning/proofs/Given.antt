-- Where the nodes that a node waits for have their outputs, its operands are given; so what is open lies deep.
use Rattle.std.proofs.Common.{◌≡◌, ℕ, zero, suc, ◌-◌, ◌<◌, ◌≤◌, Bool, true, List, [], ◌∷◌, ◌++◌, length, map, get_or, Option, Some, None, inl, inr, refl, ap, ◌∙◌, subst, arith, is_some}
use Rattle.graph_meaning.specs.Entered.{Entered, Steps, Left, Unshown, GraphStep, SliceStep, IsIn, IsWhole, AreWhole}
use Rattle.graph_meaning.specs.Carried.{Carried, Unfilled}
use Rattle.graph_meaning.specs.NodeValues.{op}
use Rattle.graph_meaning.specs.Forms.{Form, Next, Enter, Iterate, Leave, next_of, first, follow, gather}
use Rattle.graph_meaning.specs.Demand.{Source, Port, Fixed, Kind, Plain, Whole, Vertex, Net, Network, Cut, Of, at_label, data_labels, waits, and_then, all, outputs, demanded, operands, of_kind, of_node, leads_to, dem, Grow, compound, steps_of, node_tree, nodes_tree, on_results, tree_from, IsLabel, EachNode}
use Rattle.graph_meaning.proofs.Finding.{label-found, all-found}
use Rattle.graph_meaning.proofs.Ranks.{IsRanked}
use Rattle.graph_meaning.proofs.Depths.{outputs-below, demanded-below, all-below}
use Rattle.graph_meaning.specs.Growing.{OutAt, Fills, OpenAt, OpenSteps}

-- a list of operands is given if each is
pub given-all : {A B : Type 0} (f : A → Option B) (xs : List A) (x : A) → (a : B) × (f x ≡ Some a) → (as₁ : List B) × (all (map f xs) ≡ Some as₁) → (as₁ : List B) × (all (map f (x ∷ xs)) ≡ Some as₁)
given-all f xs x a r = (a.0 ∷ r.0, ap (λ o. and_then o (λ y. and_then (all (map f xs)) (λ rest. Some (y ∷ rest)))) a.1 ∙ ap (λ o. and_then o (λ rest. Some (a.0 ∷ rest))) r.1)

some-of : {A : Type 0} (o : Option A) → is_some o ≡ true → (a : A) × (o ≡ Some a)
some-of None e = absurd cc
some-of (Some a) e = (a, refl)

-- what is whole from here on has results
abbrev pub Ends : Steps → Type 0
Ends Left = Unit {0}
Ends Unshown = ⊥
Ends (GraphStep t a q) = Ends q
Ends (SliceStep cs q) = Ends q

pub whole-ends : (p : Steps) → AreWhole p → Ends p
whole-ends Left h = tt
whole-ends Unshown h = absurd h
whole-ends (GraphStep t a q) h = whole-ends q h.1
whole-ends (SliceStep cs q) h = whole-ends q h.1

module _ (cut : Cut) (u : Network) where
  pub ends-leads : (n : ℕ) (form : Form) (ks : List Carried) (next : Next) → Ends (tree_from cut n u form ks next) → (rs : List Carried) × (leads_to n u form ks next ≡ Some rs)
  ends-leads zero form ks next h = absurd h
  ends-leads (suc n) form ks (Leave rs) h = (rs, refl)
  ends-leads (suc n) form ks (Enter t g ins stage) h = go (dem n u g ins) (λ rs. tree_from cut n u form ks (follow form ks stage rs)) (λ rs. leads_to n u form ks (follow form ks stage rs)) (λ rs. ends-leads n form ks (follow form ks stage rs)) h
    where
      go : (o : Option (List Carried)) (t : List Carried → Steps) (l : List Carried → Option (List Carried)) → ((rs : List Carried) → Ends (t rs) → (r : List Carried) × (l rs ≡ Some r)) → Ends (on_results o t) → (r : List Carried) × (and_then o l ≡ Some r)
      go None t l k h = absurd h
      go (Some rs) t l k h = k rs h
  ends-leads (suc n) form ks (Iterate g row rows ms) h = go (all (map (λ ins. dem n u g ins) (row ∷ rows))) (λ rs. tree_from cut n u form ks (gather form ks ms rs)) (λ rs. leads_to n u form ks (gather form ks ms rs)) (λ rs. ends-leads n form ks (gather form ks ms rs)) h
    where
      go : (o : Option (List (List Carried))) (t : List (List Carried) → Steps) (l : List (List Carried) → Option (List Carried)) → ((rs : List (List Carried)) → Ends (t rs) → (r : List Carried) × (l rs ≡ Some r)) → Ends (on_results o t) → (r : List Carried) × (and_then o l ≡ Some r)
      go None t l k h = absurd h
      go (Some rs) t l k h = k rs h

-- one graph, on its inputs
module _ (of : Of) (graph : Net) (ready : IsRanked graph) (ins : List Carried) where
  K : ℕ
  K = length graph.nodes

  -- the node of this label has its outputs
  abbrev pub has_outputs : ℕ → Bool
  has_outputs l = is_some (outputs (demanded of graph.nodes ins (ready.rank l)) of (at_label graph.nodes l))

  filled : (far : ℕ) (os : List Source) → ((m : ℕ) → IsIn m (data_labels os) → ready.rank m < far) → ((m : ℕ) → IsIn m (data_labels os) → has_outputs m ≡ true) → (ks : List Carried) × (all (map (demanded of graph.nodes ins far) os) ≡ Some ks)
  filled far [] lt h = ([], refl)
  filled far (Fixed w ∷ os) lt h = given-all (demanded of graph.nodes ins far) os (Fixed w) (w, refl) (filled far os lt h)
  filled far (Port zero p ∷ os) lt h = given-all (demanded of graph.nodes ins far) os (Port zero p) (get_or ins (p - 1) Unfilled, refl) (filled far os lt h)
  filled far (Port (suc l) p ∷ os) lt h =
      given-all (demanded of graph.nodes ins far) os (Port (suc l) p) (one far (lt (suc l) (inl refl))) (filled far os (λ m i. lt m (inr i)) (λ m i. h m (inr i)))
    where
      one : (far : ℕ) → ready.rank (suc l) < far → (a : Carried) × (demanded of graph.nodes ins far (Port (suc l) p) ≡ Some a)
      one zero lt = absurd (omega (arith, lt))
      one (suc far) lt =
          let o = some-of _ (h (suc l) (inl refl)) in
          let e = outputs-below of of (λ v ks b e. e) (demanded of graph.nodes ins (ready.rank (suc l))) (demanded of graph.nodes ins far) (demanded-below of of (λ v ks b e. e) graph.nodes ins (ready.rank (suc l)) far (omega (arith, lt))) (at_label graph.nodes (suc l)) o.0 o.1 in
          (get_or o.0 (p - 1) Unfilled, ap (λ x. and_then x (λ os. Some (get_or os (p - 1) Unfilled))) e)

data-left : (n : ℕ) (a b : List ℕ) → IsIn n a → IsIn n (a ++ b)
data-left n [] b h = absurd h
data-left n (x ∷ a) b (inl h) = inl h
data-left n (x ∷ a) b (inr h) = inr (data-left n a b h)

each-at : (P : Vertex → Type 0) (vs : List Vertex) (l : ℕ) → EachNode P vs → IsLabel vs l → (v : Vertex) × P v × (l ≡ v.label)
each-at P [] l h i = absurd i
each-at P (v ∷ vs) l h (inl e) = (v, h.0, e)
each-at P (v ∷ vs) l h (inr i) = each-at P vs l h.1 i

each-map : (P Q : Vertex → Type 0) → ((v : Vertex) → P v → Q v) → (vs : List Vertex) → EachNode P vs → EachNode Q vs
each-map P Q f [] h = tt
each-map P Q f (v ∷ vs) h = (f v h.0, each-map P Q f vs h.1)

pub each-both : (P Q : Vertex → Type 0) (vs : List Vertex) → EachNode P vs → EachNode Q vs → EachNode (λ v. P v × Q v) vs
each-both P Q [] h k = tt
each-both P Q (v ∷ vs) h k = ((h.0, k.0), each-both P Q vs h.1 k.1)

module _ (cut : Cut) (u : Network) (n : ℕ) (graph : Net) (ready : IsRanked graph) (ins : List Carried) where
  abbrev pub meaning : Of
  meaning = of_node (leads_to n u)

  abbrev pub grown : Grow
  grown = tree_from cut n u

  abbrev pub known : Vertex → Option (List Carried)
  known v = operands meaning graph ins v.ins

  abbrev pub out : ℕ → Bool
  out = has_outputs meaning graph ready ins

  -- what is known of a node of the graph
  abbrev pub Facts : Vertex → Type 0
  Facts v = (at_label graph.nodes v.label ≡ Some v) × (((m : ℕ) → IsIn m (waits v) → IsLabel graph.nodes m) × ((m : ℕ) → IsIn m (waits v) → ready.rank m < ready.rank v.label))

  pub facts : EachNode Facts graph.nodes
  facts = each-both _ _ graph.nodes (all-found graph.nodes ready.once) (each-both _ _ graph.nodes ready.named ready.falls)

  -- the node goes on to its results
  abbrev pub KindEnds : Kind → Option (List Carried) → Type 0
  KindEnds (Plain row shape) ks = Unit {0}
  KindEnds (Whole form) ks = Ends (steps_of grown form ks)

  kind-gives : (k : Kind) (ks : List Carried) → KindEnds k (Some ks) → (rs : List Carried) × (of_kind (leads_to n u) k ks ≡ Some rs)
  kind-gives (Plain row shape) ks h = (op row shape ks, refl)
  kind-gives (Whole form) ks h = ends-leads cut u n form ks (next_of (first form ks)) h

  abbrev pub Outs : Vertex → Type 0
  Outs v = (m : ℕ) → IsIn m (data_labels v.ins) → out m ≡ true

  -- with the outputs of the nodes before it a node has its operands
  pub node-known : (v : Vertex) → Facts v → Outs v → (ks : List Carried) × (known v ≡ Some ks)
  node-known v f outs = filled meaning graph ready ins (length graph.nodes) v.ins (λ m i. ready.short m (f.1.0 m (data-left m (data_labels v.ins) v.before i))) outs

  pub node-out : (v : Vertex) → Facts v → Outs v → KindEnds v.kind (known v) → out v.label ≡ true
  node-out v f outs ends =
      let x = filled meaning graph ready ins (ready.rank v.label) v.ins (λ m i. f.1.1 m (data-left m (data_labels v.ins) v.before i)) outs in
      let le : ready.rank v.label ≤ length graph.nodes = omega (arith, ready.short v.label (label-found graph.nodes v.label v f.0)) in
      let e = all-below (demanded meaning graph.nodes ins (ready.rank v.label)) (demanded meaning graph.nodes ins (length graph.nodes)) (demanded-below meaning meaning (λ w ks b h. h) graph.nodes ins (ready.rank v.label) (length graph.nodes) le) v.ins x.0 x.1 in
      let g = kind-gives v.kind x.0 (subst (KindEnds v.kind) e ends) in
      ap is_some (ap (outputs (demanded meaning graph.nodes ins (ready.rank v.label)) meaning) f.0 ∙ (ap (λ o. and_then o (meaning v)) x.1 ∙ g.1))

  -- the nodes of a whole tree
  compound-ends : (v : Vertex) (p : Steps) (r : Entered) → IsWhole (compound v p r) → Ends p × IsWhole r
  compound-ends v Left r h = (tt, h.2)
  compound-ends v Unshown r h = absurd h.1
  compound-ends v (GraphStep t a q) r h = (whole-ends q h.1, h.2)
  compound-ends v (SliceStep cs q) r h = (whole-ends (SliceStep cs q) h.1, h.2)

  node-ends : (v : Vertex) (k : Kind) (o : Option (List Carried)) (r : Entered) → IsWhole (node_tree grown v k o r) → KindEnds k o × IsWhole r
  node-ends v (Plain row shape) o r h = (tt, h)
  node-ends v (Whole form) o r h = compound-ends v (steps_of grown form o) r h

  nodes-end : (vs : List Vertex) → IsWhole (nodes_tree grown known vs) → EachNode (λ v. KindEnds v.kind (known v)) vs
  nodes-end [] h = tt
  nodes-end (v ∷ vs) h = let x = node-ends v v.kind (known v) (nodes_tree grown known vs) h in (x.0, nodes-end vs x.1)

  -- in a whole tree every node has its outputs
  all-out : IsWhole (nodes_tree grown known graph.nodes) → (r l : ℕ) → ready.rank l < r → IsLabel graph.nodes l → out l ≡ true
  all-out whole zero l lt i = absurd (omega (arith, lt))
  all-out whole (suc r) l lt i =
      let x = each-at _ graph.nodes l (each-both _ _ graph.nodes facts (nodes-end graph.nodes whole)) i in
      ap out x.2 ∙ node-out x.0 x.1.0 (λ m j. let w = data-left m (data_labels x.0.ins) x.0.before j in all-out whole r m (omega (arith, lt, x.1.0.1.1 m w, ap ready.rank x.2)) (x.1.0.1.0 m w)) x.1.1

  -- and the graph its results
  pub whole-results : IsWhole (nodes_tree grown known graph.nodes) → (rs : List Carried) × (operands meaning graph ins graph.results ≡ Some rs)
  whole-results whole =
      filled meaning graph ready ins (length graph.nodes) graph.results (λ m i. ready.short m (ready.results_named m i))
      (λ m i. all-out whole (suc (ready.rank m)) m (omega arith) (ready.results_named m i))

  -- a node has its operands and its outputs
  abbrev pub Full : Vertex → Type 0
  Full v = (ks : List Carried) × (rs : List Carried) × (known v ≡ Some ks) × (meaning v ks ≡ Some rs)

  full : IsWhole (nodes_tree grown known graph.nodes) → (v : Vertex) → Facts v × KindEnds v.kind (known v) → Full v
  full whole v x =
      let k = node-known v x.0 (λ m i. all-out whole (suc (ready.rank m)) m (omega arith) (x.0.1.0 m (data-left m (data_labels v.ins) v.before i))) in
      let r = kind-gives v.kind k.0 (subst (KindEnds v.kind) k.1 x.1) in
      (k.0, r.0, k.1, r.1)

  pub nodes-full : IsWhole (nodes_tree grown known graph.nodes) → EachNode Full graph.nodes
  nodes-full whole = each-map _ Full (full whole) graph.nodes (each-both _ _ graph.nodes facts (nodes-end graph.nodes whole))

  -- where a node's label is, there are its outputs
  compound-at : (v : Vertex) (p : Steps) (r : Entered) (m : ℕ) → OutAt out (compound v p r) m → (m ≡ v.label → out v.label ≡ true) × OutAt out r m
  compound-at v Left r m h = h
  compound-at v Unshown r m h = h
  compound-at v (GraphStep t a q) r m h = h
  compound-at v (SliceStep cs q) r m h = h

  node-at : (v : Vertex) (k : Kind) (o : Option (List Carried)) (r : Entered) (m : ℕ) → OutAt out (node_tree grown v k o r) m → (m ≡ v.label → out v.label ≡ true) × OutAt out r m
  node-at v (Plain row shape) o r m h = h
  node-at v (Whole form) o r m h = compound-at v (steps_of grown form o) r m h

  out-at : (vs : List Vertex) (m : ℕ) → IsLabel vs m → OutAt out (nodes_tree grown known vs) m → out m ≡ true
  out-at [] m i h = absurd i
  out-at (v ∷ vs) m (inl e) h = ap out e ∙ (node-at v v.kind (known v) (nodes_tree grown known vs) m h).0 e
  out-at (v ∷ vs) m (inr i) h = out-at vs m i (node-at v v.kind (known v) (nodes_tree grown known vs) m h).1

  abbrev pub whole_tree : Entered
  whole_tree = nodes_tree grown known graph.nodes

  pub outs-of : (v : Vertex) → Facts v → Fills out whole_tree (waits v) → Outs v
  outs-of v f fills m i = let w = data-left m (data_labels v.ins) v.before i in out-at graph.nodes m (f.1.0 m w) (fills m w)

  -- what is asked of a node's parts, at depth d + 1
  abbrev pub OpenFirst : ℕ → ℕ → Steps → Type 0
  OpenFirst d l Left = out l ≡ true
  OpenFirst d l Unshown = ⊥
  OpenFirst d l (GraphStep t a q) = ((o : ℕ → Bool) × OpenAt o a d a) × (IsWhole a → OpenSteps d q) × (AreWhole q → out l ≡ true)
  OpenFirst d l (SliceStep cs q) = ⊥

  pub compound-open : (d : ℕ) (v : Vertex) (p : Steps) (r : Entered) → (Fills out whole_tree (waits v) → OpenFirst d v.label p) → OpenAt out whole_tree (suc d) r → OpenAt out whole_tree (suc d) (compound v p r)
  compound-open d v Left r h o = ((λ f. ((out, tt), (λ w. tt), (λ w. h f))), o)
  compound-open d v Unshown r h o = ((λ f. absurd (h f)), o)
  compound-open d v (GraphStep t a q) r h o = (h, o)
  compound-open d v (SliceStep cs q) r h o = ((λ f. absurd (h f)), o)

  pub compound-zero : (v : Vertex) (p : Steps) (r : Entered) → OpenAt out whole_tree 0 r → OpenAt out whole_tree 0 (compound v p r)
  compound-zero v Left r o = tt
  compound-zero v Unshown r o = tt
  compound-zero v (GraphStep t a q) r o = tt
  compound-zero v (SliceStep cs q) r o = tt
