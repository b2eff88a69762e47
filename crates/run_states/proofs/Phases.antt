-- The trees of a run give what a table needs to know of its nodes.
use Rattle.std.proofs.Common.{◌≡◌, ℕ, zero, suc, ◌+◌, ◌≤◌, Bool, true, false, eqb, if◌then◌else◌, List, [], ◌∷◌, map, length, Option, Some, None, ◌⊎◌, inl, inr, refl, sym, ap, ◌∙◌, subst, arith}
use Rattle.std.proofs.lemmas.Bool.{eq-eqb, eqb-true}
use Rattle.graph_meaning.specs.Carried.{Carried}
use Rattle.graph_meaning.specs.NodeValues.{Shape}
use Rattle.if1_graph.specs.declared.op.Simple.{Simple}
use Rattle.graph_meaning.specs.Entered.{Entered, NoNode, SimpleNode, WholeNode, Steps, Left, Unshown, GraphStep, SliceStep, Item, Node, Entry, Slice, Leave, Inside, entry_fires, IsIn, IsSlice, Has, StepsHave, IsLast, Fed, OfStep, OfSlices, After, AfterSteps, IsDistinct}
use Rattle.graph_meaning.specs.Histories.{Run, Exists, Follows, OwnFirings}
use Rattle.graph_meaning.specs.Growing.{GrowsSteps, leaves, deeper, part, slices}
use Rattle.graph_meaning.specs.Forms.{Form, Next, Enter, Iterate, Leave as Leaves, Begins, Skips, Stage, next_of, first, follow, gather}
use Rattle.graph_meaning.specs.Demand.{Kind, Plain, Whole, Vertex, Network, Cut, IsCut, at_label, waits, all, operands, of_node, leads_to, dem, Grow, compound, steps_of, node_tree, nodes_tree, on_results, slice_cost, graph_tree, tree_from, tree, IsLabel, LabelsOnce}
use Rattle.graph_meaning.proofs.Growth.{has-grows, after-grows, last-stays, after-parts-facts}
use Rattle.graph_meaning.proofs.Depths.{operands-below, node-below, dem-below, all-below, tree-grows}
use Rattle.graph_meaning.proofs.Ranks.{AreRanked}
use Rattle.graph_meaning.proofs.Wellformed.{tree-good}
use Rattle.run_states.specs.Standing.{label_of, AtLeast, IsOuter, IsNode, IsStep, GoesOn, Later, after_one, after_all, Open, IsAmong}
use Rattle.run_states.specs.Phases.{Results, Operands, Comes, skips, begins, enters, iterates, ranges, opens_of, last_by, last_of}
use Rattle.run_states.proofs.Deeper.{slice-grows, results-grow, steps-grow}
use Rattle.run_states.proofs.Lookups.{eqb-other}
use Rattle.run_states.proofs.Nodes.{same-label, at-part, NodeAt, node-has, has-node, node-after, after-node, Part, OfGraph, OfRange, Of, FollowedBy, InsideAfter, Enclosed, first-encloses, first-followed, next-encloses, next-followed, slices-followed}

-- ---- what an item of later steps comes after

abbrev SlicesThere : Steps → Type 0
SlicesThere Left = Unit {0}
SlicesThere Unshown = Unit {0}
SlicesThere (GraphStep t a p) = SlicesThere p
SlicesThere (SliceStep [] p) = ⊥
SlicesThere (SliceStep (c ∷ cs) p) = SlicesThere p

range-of : (l k r : ℕ) (cs : List (Option ℕ)) (i : Item) (w : Option ℕ) → IsSlice l k r cs i w → (s : ℕ) × (i ≡ Slice l k s)
range-of l k r [] i w h = absurd h
range-of l k r (c ∷ cs) i w (inl h) = (r, h.0)
range-of l k r (c ∷ cs) i w (inr h) = range-of l k (suc r) cs i w h

-- the item is one by which these steps begin
abbrev Opening : Steps → ℕ → ℕ → Item → Type 0
Opening Left l k i = i ≡ Leave l
Opening Unshown l k i = ⊥
Opening (GraphStep t a p) l k i = i ≡ Entry t l k
Opening (SliceStep cs p) l k i = (w : Option ℕ) × IsSlice l k 0 cs i w

opening-after : (q : Steps) (l k : ℕ) (b : Item → Type 0) (i j : Item) → Opening q l k i → b j → AfterSteps q l k b i j
opening-after Left l k b i j o h = (o, h)
opening-after Unshown l k b i j o h = absurd o
opening-after (GraphStep t a p) l k b i j o h = inl (o, h)
opening-after (SliceStep cs p) l k b i j o h = let r = range-of l k 0 cs i o.0 o.1 in inl (r.0, r.1, h)

weaker : (k : ℕ) (i : Item) → AtLeast (suc k) i → AtLeast k i
weaker k (Node n) h = h
weaker k (Entry s n m) h = omega (arith, h)
weaker k (Slice n m r) h = omega (arith, h)
weaker k (Leave n) h = tt
weaker k (Inside n m i) h = omega (arith, h)

-- an item of these steps is one by which they begin, or comes after one of them
abbrev Comes_later : Steps → ℕ → ℕ → (Item → Type 0) → Item → Type 0
Comes_later q l k b i = (j : Item) × AfterSteps q l k b i j × (label_of j ≡ l) × AtLeast k j

steps-follow : (q : Steps) (l k : ℕ) (b : Item → Type 0) → SlicesThere q → (i : Item) (w : Option ℕ) → StepsHave l k q i w → Opening q l k i ⊎ Comes_later q l k b i
steps-follow Left l k b s i w h = inl h.0
steps-follow Unshown l k b s i w h = absurd h
steps-follow (GraphStep t a p) l k b s i w (inl h) = inl h.0
steps-follow (GraphStep t a p) l k b s i w (inr (inl h)) = inr (Entry t l k, inr (inl (h.0, h.1, inl refl)), refl, omega arith)
steps-follow (GraphStep t a p) l k b s i w (inr (inr h)) = go (steps-follow p l (suc k) (OfStep (Entry t l k) l k a) s i w h)
  where
    go : Opening p l (suc k) i ⊎ Comes_later p l (suc k) (OfStep (Entry t l k) l k a) i → Opening (GraphStep t a p) l k i ⊎ Comes_later (GraphStep t a p) l k b i
    go (inl o) = inr (Entry t l k, inr (inr (opening-after p l (suc k) (OfStep (Entry t l k) l k a) i (Entry t l k) o (inl refl))), refl, omega arith)
    go (inr x) = inr (x.0, inr (inr x.1), x.2, weaker k x.0 x.3)
steps-follow (SliceStep [] p) l k b s i w h = absurd s
steps-follow (SliceStep (c ∷ cs) p) l k b s i w (inl h) = inl (w, h)
steps-follow (SliceStep (c ∷ cs) p) l k b s i w (inr h) = go (steps-follow p l (suc k) (OfSlices l k (c ∷ cs)) s i w h)
  where
    go : Opening p l (suc k) i ⊎ Comes_later p l (suc k) (OfSlices l k (c ∷ cs)) i → Opening (SliceStep (c ∷ cs) p) l k i ⊎ Comes_later (SliceStep (c ∷ cs) p) l k b i
    go (inl o) = inr (Slice l k 0, inr (opening-after p l (suc k) (OfSlices l k (c ∷ cs)) i (Slice l k 0) o (c, inl (refl, refl))), refl, omega arith)
    go (inr x) = inr (x.0, inr x.1, x.2, weaker k x.0 x.3)

-- what begins still begins at a greater depth
opening-grows : (q r : Steps) → GrowsSteps q r → (l k : ℕ) (i : Item) → Opening q l k i → Opening r l k i
opening-grows q r leaves l k i o = o
opening-grows q r deeper l k i o = absurd o
opening-grows q r (part a p) l k i o = o
opening-grows q r (slices c p) l k i o = slice-grows c l k 0 i o.0 o.1

module _ (cut : Cut) (u : Network) (is-cut : IsCut cut) where
  on-there : {A : Type 0} (o : Option A) (f : A → Steps) → ((a : A) → SlicesThere (f a)) → SlicesThere (on_results o f)
  on-there None f h = tt
  on-there (Some a) f h = h a

  one-there : {A : Type 0} (f : A → Option ℕ) (xs : List A) (p : Steps) → ((y : A) × (ys : List A) × (xs ≡ y ∷ ys)) → SlicesThere p → SlicesThere (SliceStep (map f xs) p)
  one-there f xs p h s = subst (λ z. SlicesThere (SliceStep (map f z) p)) (sym h.2) s

  there : (n : ℕ) (form : Form) (ks : List Carried) (next : Next) → SlicesThere (tree_from cut n u form ks next)
  there zero form ks next = tt
  there (suc n) form ks (Leaves rs) = tt
  there (suc n) form ks (Enter t g ins stage) = on-there (dem n u g ins) (λ rs. tree_from cut n u form ks (follow form ks stage rs)) (λ rs. there n form ks (follow form ks stage rs))
  there (suc n) form ks (Iterate g row rows ms) =
      one-there _ (cut (row ∷ rows)) _ (is-cut.some row rows)
      (on-there (all (map (λ ins. dem n u g ins) (row ∷ rows))) (λ rs. tree_from cut n u form ks (gather form ks ms rs)) (λ rs. there n form ks (gather form ks ms rs)))

-- ---- a node of a graph's trees

node-here : (grow : Grow) (w : Vertex) (k : Kind) (o : Option (List Carried)) (rest : Entered) (l : ℕ) → w.label ≡ l → NodeAt (node_tree grow w k o rest) l (node_tree grow w k o NoNode)
node-here grow w (Plain row shape) o rest l e = inl (e, refl)
node-here grow w (Whole form) o rest l e = whole (steps_of grow form o)
  where
    whole : (s : Steps) → NodeAt (compound w s rest) l (compound w s NoNode)
    whole Left = inl (e, refl)
    whole Unshown = inl (e, refl)
    whole (GraphStep t a p) = inl (e, refl)
    whole (SliceStep cs p) = inl (e, refl)

node-later : (grow : Grow) (w : Vertex) (k : Kind) (o : Option (List Carried)) (rest : Entered) (l : ℕ) (x : Entered) → NodeAt rest l x → NodeAt (node_tree grow w k o rest) l x
node-later grow w (Plain row shape) o rest l x h = inr h
node-later grow w (Whole form) o rest l x h = whole (steps_of grow form o)
  where
    whole : (s : Steps) → NodeAt (compound w s rest) l x
    whole Left = inr h
    whole Unshown = inr h
    whole (GraphStep t a p) = inr h
    whole (SliceStep cs p) = inr h

pub found-label : (vs : List Vertex) (l : ℕ) (v : Vertex) → at_label vs l ≡ Some v → v.label ≡ l
found-label [] l v e = absurd cc
found-label (w ∷ vs) l v e = go (eqb w.label l) (eqb-true w.label l) e (found-label vs l v)
  where
    go : (b : Bool) → (b ≡ true → w.label ≡ l) → (if b then Some w else at_label vs l) ≡ Some v → (at_label vs l ≡ Some v → v.label ≡ l) → v.label ≡ l
    go true s is rec = let same : w ≡ v = cc in sym (ap (λ z. z.label) same) ∙ s refl
    go false s is rec = rec is

pub found-node : (grow : Grow) (ks : Vertex → Option (List Carried)) (vs : List Vertex) (l : ℕ) (v : Vertex) → at_label vs l ≡ Some v → NodeAt (nodes_tree grow ks vs) l (node_tree grow v v.kind (ks v) NoNode)
found-node grow ks [] l v e = absurd cc
found-node grow ks (w ∷ vs) l v e = go (eqb w.label l) (eqb-true w.label l) e (found-node grow ks vs l v)
  where
    go : (b : Bool) → (b ≡ true → w.label ≡ l) → (if b then Some w else at_label vs l) ≡ Some v → (at_label vs l ≡ Some v → NodeAt (nodes_tree grow ks vs) l (node_tree grow v v.kind (ks v) NoNode)) → NodeAt (nodes_tree grow ks (w ∷ vs)) l (node_tree grow v v.kind (ks v) NoNode)
    go true s is rec =
        let same : w ≡ v = cc in
        subst (λ z. NodeAt (nodes_tree grow ks (w ∷ vs)) l (node_tree grow z z.kind (ks z) NoNode)) same (node-here grow w w.kind (ks w) (nodes_tree grow ks vs) l (s refl))
    go false s is rec = node-later grow w w.kind (ks w) (nodes_tree grow ks vs) l _ (rec is)

module _ (cut : Cut) (u : Network) (is-cut : IsCut cut) (ready : AreRanked u) (g : ℕ) (ins : List Carried) (v : Vertex) (l : ℕ) (at-l : at_label (u g).nodes l ≡ Some v) where
  -- the run of the graph, and the node of it alone
  abbrev pub run : Run
  run n = tree cut n u g ins

  abbrev pub own : ℕ → Entered
  own n = node_tree (tree_from cut n u) v v.kind (operands (of_node (leads_to n u)) (u g) ins v.ins) NoNode

  pub node-at : (n : ℕ) → NodeAt (tree cut n u g ins) l (own n)
  node-at n = found-node (tree_from cut n u) (λ w. operands (of_node (leads_to n u)) (u g) ins w.ins) (u g).nodes l v at-l

  distinct : (n : ℕ) → IsDistinct (tree cut n u g ins)
  distinct n = (tree-good cut u ready n g ins).distinct

  -- an item of the node, at every greater depth
  deep-has : (n m : ℕ) → n ≤ m → (i : Item) (w : Option ℕ) → Has (tree cut n u g ins) i w → label_of i ≡ l → (x : Option ℕ) × Has (own m) i x
  deep-has n m le i w h lab =
      let r = has-grows (tree-grows cut n m le u g ins) i w h in
      (r.0, has-node (tree cut m u g ins) (distinct m) l (own m) (node-at m) i r.0 r.1 (same-label i ∙ lab))

  own-has : (m : ℕ) (i : Item) (w : Option ℕ) → Has (own m) i w → Exists (λ n. tree cut n u g ins) i
  own-has m i w h = (m, w, node-has (tree cut m u g ins) l (own m) (node-at m) i w h)

  deep-after : (n m : ℕ) → n ≤ m → (i j : Item) → After (tree cut n u g ins) (tree cut n u g ins) i j → label_of i ≡ l → After (tree cut m u g ins) (own m) i j
  deep-after n m le i j h lab =
      let grows = tree-grows cut n m le u g ins in
      let a = after-grows grows (tree cut n u g ins) (tree cut m u g ins) (last-stays grows) (λ _. ⊥) i j h in
      after-node (tree cut m u g ins) (tree cut m u g ins) (distinct m) l (own m) (node-at m) i j a (same-label i ∙ lab)

  own-after : (m : ℕ) (i j : Item) → After (tree cut m u g ins) (own m) i j → Follows (λ n. tree cut n u g ins) i j
  own-after m i j h = (m, node-after (tree cut m u g ins) (tree cut m u g ins) l (own m) (node-at m) i j h)

  -- ---- phases

  -- after step k the node does this next
  pub record Phase (form : Form) (ks : List Carried) (k : ℕ) (next : Next) : Type 0 where
    pub at : ℕ → ℕ
    pub high : (m : ℕ) → m ≤ at m
    pub far : ℕ
    pub part_at : ℕ → Part
    pub followed : (m : ℕ) → far ≤ m → FollowedBy (own (at m)) l k (part_at m) (tree_from cut m u form ks next)

  -- step k of the node entered this graph
  pub record Entering (k : ℕ) (entry : Item) (h : ℕ) (is : List Carried) : Type 0 where
    pub at : ℕ → ℕ
    pub high : (m : ℕ) → m ≤ at m
    pub far : ℕ
    pub later : ℕ → Steps
    pub encloses : (m : ℕ) → far ≤ m → Enclosed (own (at m)) l k entry (tree cut m u h is)
    pub followed : (m : ℕ) → far ≤ m → FollowedBy (own (at m)) l k (OfGraph entry (tree cut m u h is)) (later m)
    pub grows : (m n : ℕ) → m ≤ n → GrowsSteps (later m) (later n)
    pub there_is : (m : ℕ) → SlicesThere (later m)

  is-step : (k : ℕ) (entry : Item) (h : ℕ) (is : List Carried) → label_of entry ≡ l → Entering k entry h is → IsStep (λ n. tree cut n u g ins) (λ n. tree cut n u h is) l k entry
  is-step k entry h is entry-l e =
      record {
        inward = λ i x. let m = x.0 + e.far in
            let r = deep-has x.0 (e.at m) (omega (arith, e.high m)) (Inside l k i) x.1 x.2 refl in (m, r.0, (e.encloses m (omega arith)).into i r.0 r.1);
        outward = λ i x. let m = x.0 + e.far in
            let r = has-grows (tree-grows cut x.0 m (omega arith) u h is) i x.1 x.2 in
            own-has (e.at m) (Inside l k i) r.0 ((e.encloses m (omega arith)).out i r.0 r.1);
        after = λ i j f. let m = f.0 + e.far in
            let a = deep-after f.0 (e.at m) (omega (arith, e.high m)) (Inside l k i) j f.1 refl in after m i j ((e.encloses m (omega arith)).after (tree cut (e.at m) u g ins) i j a);
        after_inside = λ i j f. let m = f.0 + e.far in
            let grows = tree-grows cut f.0 m (omega arith) u h is in
            let a = after-grows grows (tree cut f.0 u h is) (tree cut m u h is) (last-stays grows) (λ _. ⊥) i j f.1 in
            own-after (e.at m) (Inside l k i) (Inside l k j) ((e.encloses m (omega arith)).back (tree cut (e.at m) u g ins) i (Inside l k j) (inr (j, refl, a)));
        here = λ i x lab le. let m = x.0 + e.far in
            let r = deep-has x.0 (e.at m) (omega (arith, e.high m)) i x.1 x.2 lab in (e.encloses m (omega arith)).here i r.0 r.1 le;
        beyond = λ i x lab le. let m = x.0 + e.far in
            let r = deep-has x.0 (e.at m) (omega (arith, e.high m)) i x.1 x.2 lab in
            let fb = e.followed m (omega arith) in
            beyond m (omega arith) i (steps-follow (e.later m) l (suc k) (OfStep entry l k (tree cut m u h is)) (e.there_is m) i r.0 (fb.into i r.0 r.1 le));
      }
    where
      after : (m : ℕ) (i j : Item) → InsideAfter (tree cut m u h is) entry l k i j → (j ≡ entry) ⊎ ((j' : Item) × (j ≡ Inside l k j') × Follows (λ n. tree cut n u h is) i j')
      after m i j (inl q) = inl q
      after m i j (inr q) = inr (q.0, q.1, (m, q.2))

      beyond : (m : ℕ) → e.far ≤ m → (i : Item) → Opening (e.later m) l (suc k) i ⊎ Comes_later (e.later m) l (suc k) (OfStep entry l k (tree cut m u h is)) i
          → ((j : Item) × Follows (λ n. tree cut n u g ins) i j × (label_of j ≡ l) × AtLeast (suc k) j) ⊎ ((j : Item) → Exists (λ n. tree cut n u h is) j → Follows (λ n. tree cut n u g ins) i (Inside l k j))
      beyond m le i (inr q) = inl (q.0, own-after (e.at m) i q.0 ((e.followed m le).back (tree cut (e.at m) u g ins) i q.0 q.1), q.2, q.3)
      beyond m le i (inl o) = inr all-of
        where
          all-of : (j : Item) → Exists (λ n. tree cut n u h is) j → Follows (λ n. tree cut n u g ins) i (Inside l k j)
          all-of j x =
              let p = m + x.0 in
              let r = has-grows (tree-grows cut x.0 p (omega arith) u h is) j x.1 x.2 in
              let o' = opening-grows (e.later m) (e.later p) (e.grows m p (omega arith)) l (suc k) i o in
              own-after (e.at p) i (Inside l k j) ((e.followed p (omega (arith, le))).back (tree cut (e.at p) u g ins) i (Inside l k j)
              (opening-after (e.later p) l (suc k) (OfStep entry l k (tree cut p u h is)) i (Inside l k j) o' (inr (j, r.0, refl, r.1))))

  -- the items inside have the firings that they have there
  fires-out : (k : ℕ) (entry : Item) (h : ℕ) (is : List Carried) → Entering k entry h is → (i : Item) (c : ℕ) → OwnFirings (λ n. tree cut n u h is) i c → OwnFirings (λ n. tree cut n u g ins) (Inside l k i) c
  fires-out k entry h is e i c x =
      let m = x.0 + e.far in
      let r = has-grows (tree-grows cut x.0 m (omega arith) u h is) i (Some c) x.1 in
      let o = (e.encloses m (omega arith)).out i r.0 r.1 in
      (e.at m, subst (Has (tree cut (e.at m) u g ins) (Inside l k i)) r.2 (node-has (tree cut (e.at m) u g ins) l (own (e.at m)) (node-at (e.at m)) (Inside l k i) r.0 o))

  -- what goes on after the results of a graph
  abbrev then_of : Form → List Carried → ℕ → List Carried → Stage → ℕ → Steps
  then_of form ks h is stage m = on_results (dem m u h is) (λ rs. tree_from cut m u form ks (follow form ks stage rs))

  then-grows : (form : Form) (ks : List Carried) (h : ℕ) (is : List Carried) (stage : Stage) (m n : ℕ) → m ≤ n → GrowsSteps (then_of form ks h is stage m) (then_of form ks h is stage n)
  then-grows form ks h is stage m n le =
      results-grow (dem m u h is) (dem n u h is) _ _ (dem-below m n le u h is) (λ rs. steps-grow cut u m n le form ks (follow form ks stage rs))

  then-there : (form : Form) (ks : List Carried) (h : ℕ) (is : List Carried) (stage : Stage) (m : ℕ) → SlicesThere (then_of form ks h is stage m)
  then-there form ks h is stage m = on-there cut u is-cut (dem m u h is) (λ rs. tree_from cut m u form ks (follow form ks stage rs)) (λ rs. there cut u is-cut m form ks (follow form ks stage rs))

  -- from a phase that enters a graph, into it
  enter-next : (form : Form) (ks : List Carried) (k : ℕ) (t : Bool) (h : ℕ) (is : List Carried) (stage : Stage) → Phase form ks k (Enter t h is stage) → Entering (suc k) (Entry t l (suc k)) h is
  enter-next form ks k t h is stage p =
      record {
        at = λ m. p.at (suc m);
        high = λ m. let a = p.high (suc m) in omega (arith, a);
        far = p.far;
        later = then_of form ks h is stage;
        encloses = λ m le. next-encloses (own (p.at (suc m))) l k (p.part_at (suc m)) t (tree cut m u h is) (then_of form ks h is stage m) (p.followed (suc m) (omega (arith, le)));
        followed = λ m le. next-followed (own (p.at (suc m))) l k (p.part_at (suc m)) t (tree cut m u h is) (then_of form ks h is stage m) (p.followed (suc m) (omega (arith, le)));
        grows = then-grows form ks h is stage;
        there_is = then-there form ks h is stage;
      }

  -- and with its results on
  go-on : (form : Form) (ks : List Carried) (k : ℕ) (entry : Item) (h : ℕ) (is : List Carried) (stage : Stage) (rs : List Carried) (e : Entering k entry h is) → ((m : ℕ) → e.later m ≡ then_of form ks h is stage m) → Results u h is rs → Phase form ks k (follow form ks stage rs)
  go-on form ks k entry h is stage rs e same res =
      record {
        at = e.at;
        high = e.high;
        far = e.far + res.0;
        part_at = λ m. OfGraph entry (tree cut m u h is);
        followed = λ m le. subst (FollowedBy (own (e.at m)) l k (OfGraph entry (tree cut m u h is)))
            (same m ∙ ap (λ o. on_results o (λ qs. tree_from cut m u form ks (follow form ks stage qs))) (dem-below res.0 m (omega (arith, le)) u h is rs res.1))
            (e.followed m (omega (arith, le)));
      }

  go-on-rows : (form : Form) (ks : List Carried) (k h : ℕ) (row : List Carried) (rows : List (List Carried)) (ms : List Carried) (lists : List (List Carried)) → Phase form ks k (Iterate h row rows ms) → ((n : ℕ) × (all (map (λ is. dem n u h is) (row ∷ rows)) ≡ Some lists)) → Phase form ks (suc k) (gather form ks ms lists)
  go-on-rows form ks k h row rows ms lists p res =
      record {
        at = λ m. p.at (suc m);
        high = λ m. let a = p.high (suc m) in omega (arith, a);
        far = p.far + res.0;
        part_at = λ m. OfRange (map (slice_cost (λ is. graph_tree (tree_from cut m u) (of_node (leads_to m u)) is (u h))) (cut (row ∷ rows)));
        followed = λ m le. subst (FollowedBy (own (p.at (suc m))) l (suc k) (OfRange (map (slice_cost (λ is. graph_tree (tree_from cut m u) (of_node (leads_to m u)) is (u h))) (cut (row ∷ rows)))))
            (ap (λ o. on_results o (λ qs. tree_from cut m u form ks (gather form ks ms qs))) (all-below (λ is. dem res.0 u h is) (λ is. dem m u h is) (dem-below res.0 m (omega (arith, le)) u h) (row ∷ rows) lists res.1))
            (slices-followed (own (p.at (suc m))) l k (p.part_at (suc m)) _ _ (p.followed (suc m) (omega (arith, le))));
      }

  -- a compound node, with its operands
  module _ (form : Form) (ks : List Carried) (is-whole : v.kind ≡ Whole form) (given : Operands u g ins v ks) where
    steps-at : (m : ℕ) → given.0 ≤ m → own m ≡ compound v (tree_from cut m u form ks (next_of (first form ks))) NoNode
    steps-at m le =
        ap (λ k. node_tree (tree_from cut m u) v k (operands (of_node (leads_to m u)) (u g) ins v.ins) NoNode) is-whole
        ∙ ap (λ o. compound v (steps_of (tree_from cut m u) form o) NoNode)
        (operands-below (of_node (leads_to given.0 u)) (of_node (leads_to m u)) (node-below given.0 m le u) (u g) ins v.ins ks given.1)

    v-label : v.label ≡ l
    v-label = found-label (u g).nodes l v at-l

    begin-first : (h : ℕ) (is : List Carried) (stage : Stage) → first form ks ≡ Begins h is stage → Entering 0 (Node l) h is
    begin-first h is stage e =
        record {
          at = suc;
          high = λ m. omega arith;
          far = given.0;
          later = then_of form ks h is stage;
          encloses = λ m le. subst (λ o. Enclosed o l 0 (Node l) (tree cut m u h is)) (sym (shape m le)) (first-encloses l (waits v) (tree cut m u h is) (then_of form ks h is stage m));
          followed = λ m le. subst (λ o. FollowedBy o l 0 (OfGraph (Node l) (tree cut m u h is)) (then_of form ks h is stage m)) (sym (shape m le)) (first-followed l (waits v) (tree cut m u h is) (then_of form ks h is stage m));
          grows = then-grows form ks h is stage;
          there_is = then-there form ks h is stage;
        }
      where
        shape : (m : ℕ) → given.0 ≤ m → own (suc m) ≡ WholeNode l (waits v) (tree cut m u h is) (then_of form ks h is stage m) NoNode
        shape m le =
            steps-at (suc m) (omega (arith, le))
            ∙ (ap (λ f. compound v (tree_from cut (suc m) u form ks (next_of f)) NoNode) e
            ∙ ap (λ z. WholeNode z (waits v) (tree cut m u h is) (then_of form ks h is stage m) NoNode) v-label)

    skip-first : (rs : List Carried) → first form ks ≡ Skips rs → Phase form ks 0 (Leaves rs)
    skip-first rs e =
        record {
          at = suc;
          high = λ m. omega arith;
          far = suc given.0;
          part_at = λ m. OfGraph (Node l) NoNode;
          followed = λ m le. followed m le;
        }
      where
        shape : (m : ℕ) → given.0 ≤ m → own (suc m) ≡ WholeNode l (waits v) NoNode Left NoNode
        shape m le =
            steps-at (suc m) (omega (arith, le))
            ∙ (ap (λ f. compound v (tree_from cut (suc m) u form ks (next_of f)) NoNode) e
            ∙ ap (λ z. WholeNode z (waits v) NoNode Left NoNode) v-label)

        followed : (m : ℕ) → suc given.0 ≤ m → FollowedBy (own (suc m)) l 0 (OfGraph (Node l) NoNode) (tree_from cut m u form ks (Leaves rs))
        followed zero le = absurd (omega (arith, le))
        followed (suc m) le = subst (λ o. FollowedBy o l 0 (OfGraph (Node l) NoNode) Left) (sym (shape (suc m) (omega (arith, le)))) (first-followed l (waits v) NoNode Left)

    -- what comes is a phase
    pub phase : (k : ℕ) (next : Next) → Comes u form ks k next → Phase form ks k next
    unfolding begin-first enter-next
    phase k next (skips rs e) = skip-first rs e
    phase k next (begins h is stage rs e res) = go-on form ks 0 (Node l) h is stage rs (begin-first h is stage e) (λ m. refl) res
    phase k next (enters n t h is stage rs c res) = go-on form ks (suc n) (Entry t l (suc n)) h is stage rs (enter-next form ks n t h is stage (phase n (Enter t h is stage) c)) (λ m. refl) res
    phase k next (iterates n h row rows ms lists c res) = go-on-rows form ks n h row rows ms lists (phase n (Iterate h row rows ms) c) res

    -- the graph that a node entered first, and each that it entered later, is a step of the run
    pub first-is-step : (h : ℕ) (is : List Carried) (stage : Stage) → first form ks ≡ Begins h is stage → IsStep (λ n. tree cut n u g ins) (λ n. tree cut n u h is) l 0 (Node l)
    first-is-step h is stage e = is-step 0 (Node l) h is refl (begin-first h is stage e)

    pub entered-is-step : (k : ℕ) (t : Bool) (h : ℕ) (is : List Carried) (stage : Stage) → Comes u form ks k (Enter t h is stage) → IsStep (λ n. tree cut n u g ins) (λ n. tree cut n u h is) l (suc k) (Entry t l (suc k))
    entered-is-step k t h is stage c = is-step (suc k) (Entry t l (suc k)) h is refl (enter-next form ks k t h is stage (phase k (Enter t h is stage) c))

    pub first-fires : (h : ℕ) (is : List Carried) (stage : Stage) → first form ks ≡ Begins h is stage → (i : Item) (c : ℕ) → OwnFirings (λ n. tree cut n u h is) i c → OwnFirings (λ n. tree cut n u g ins) (Inside l 0 i) c
    first-fires h is stage e = fires-out 0 (Node l) h is (begin-first h is stage e)

    pub entered-fires : (k : ℕ) (t : Bool) (h : ℕ) (is : List Carried) (stage : Stage) → Comes u form ks k (Enter t h is stage) → (i : Item) (c : ℕ) → OwnFirings (λ n. tree cut n u h is) i c → OwnFirings (λ n. tree cut n u g ins) (Inside l (suc k) i) c
    entered-fires k t h is stage c = fires-out (suc k) (Entry t l (suc k)) h is (enter-next form ks k t h is stage (phase k (Enter t h is stage) c))

    -- the items by which the node goes on
    among-ranges : (k r n : ℕ) (cs : List (Option ℕ)) → length cs ≡ n → (i : Item) (w : Option ℕ) → IsSlice l k r cs i w → IsAmong i (ranges l k r n)
    among-ranges k r n [] e i w h = absurd h
    among-ranges k r zero (c ∷ cs) e i w h = absurd (omega (arith, e))
    among-ranges k r (suc n) (c ∷ cs) e i w (inl h) = (Open, inl (h.0, refl))
    among-ranges k r (suc n) (c ∷ cs) e i w (inr h) = let x = among-ranges k (suc r) n cs (omega (arith, e)) i w h in (x.0, inr x.1)

    ranges-among : (k r n : ℕ) (cs : List (Option ℕ)) → length cs ≡ n → (i : Item) → IsAmong i (ranges l k r n) → (w : Option ℕ) × IsSlice l k r cs i w
    ranges-among k r zero cs e i h = absurd h.1
    ranges-among k r (suc n) [] e i h = absurd (omega (arith, e))
    ranges-among k r (suc n) (c ∷ cs) e i (s, inl h) = (c, inl (h.0, refl))
    ranges-among k r (suc n) (c ∷ cs) e i (s, inr h) = let x = ranges-among k (suc r) n cs (omega (arith, e)) i (s, h) in (x.0, inr x.1)

    mapped-length : {A B : Type 0} (f : A → B) (xs : List A) → length (map f xs) ≡ length xs
    mapped-length f [] = refl
    mapped-length f (x ∷ xs) = ap suc (mapped-length f xs)

    -- the openings of these steps, of which one depth is enough
    record OpensAs (k : ℕ) (next : Next) (m : ℕ) : Type 0 where
      into : (i : Item) → IsAmong i (opens_of cut l k next) → Opening (tree_from cut m u form ks next) l k i
      out : (i : Item) → Opening (tree_from cut m u form ks next) l k i → IsAmong i (opens_of cut l k next)

    opens-at : (k m : ℕ) (next : Next) → OpensAs k next (suc m)
    opens-at k m (Leaves rs) = record { into = into; out = λ i h. (Open, inl (h, refl)) }
      where
        into : (i : Item) → IsAmong i (opens_of cut l k (Leaves rs)) → i ≡ Leave l
        into i (s, inl h) = h.0
        into i (s, inr h) = absurd h
    opens-at k m (Enter t h is stage) = record { into = into; out = λ i h. (Open, inl (h, refl)) }
      where
        into : (i : Item) → IsAmong i (opens_of cut l k (Enter t h is stage)) → i ≡ Entry t l k
        into i (s, inl h) = h.0
        into i (s, inr h) = absurd h
    opens-at k m (Iterate h row rows ms) = record { into = λ i a. ranges-among k 0 _ _ (mapped-length _ (cut (row ∷ rows))) i a; out = λ i o. among-ranges k 0 _ _ (mapped-length _ (cut (row ∷ rows))) i o.0 o.1 }

    -- an opening is an item of this node's step
    opening-facts : (q : Steps) (k : ℕ) (i : Item) → Opening q l k i → (label_of i ≡ l) × AtLeast k i × IsOuter i
    opening-facts Left k i o = subst (λ z. (label_of z ≡ l) × AtLeast k z × IsOuter z) (sym o) (refl, tt, tt)
    opening-facts Unshown k i o = absurd o
    opening-facts (GraphStep t a p) k i o = subst (λ z. (label_of z ≡ l) × AtLeast k z × IsOuter z) (sym o) (refl, omega arith, tt)
    opening-facts (SliceStep cs p) k i o = let r = range-of l k 0 cs i o.0 o.1 in subst (λ z. (label_of z ≡ l) × AtLeast k z × IsOuter z) (sym r.1) (refl, omega arith, tt)

    opening-has : (q : Steps) (k : ℕ) (i : Item) → Opening q l k i → (w : Option ℕ) × StepsHave l k q i w
    opening-has Left k i o = (Some 0, (o, refl))
    opening-has Unshown k i o = absurd o
    opening-has (GraphStep t a p) k i o = (Some (entry_fires t), inl (o, refl))
    opening-has (SliceStep cs p) k i o = (o.0, inl o.1)

    -- what an opening comes after is of the step before
    opening-before : (q : Steps) (k : ℕ) (b : Item → Type 0) (i j : Item) → Opening q l k i → AfterSteps q l k b i j → b j
    opening-before Left k b i j o h = h.1
    opening-before Unshown k b i j o h = absurd h
    opening-before (GraphStep t a p) k b i j o (inl h) = h.1
    opening-before (GraphStep t a p) k b i j o (inr (inl h)) = cannot (sym o ∙ h.1)
      where
        cannot : {P : Type 0} → Entry t l k ≡ Inside l k h.0 → P
        cannot e = absurd (never e)
          where
            never : Entry t l k ≡ Inside l k h.0 → ⊥
            never e = cc
    opening-before (GraphStep t a p) k b i j o (inr (inr h)) = absurd (let x = subst (AtLeast (suc k)) o (at-part (suc k) i (after-parts-facts p l (suc k) _ i j h).1) in omega (arith, x))
    opening-before (SliceStep cs p) k b i j o (inl h) = h.2
    opening-before (SliceStep cs p) k b i j o (inr h) =
        let r = range-of l k 0 cs i o.0 o.1 in
        absurd (let x = subst (AtLeast (suc k)) r.1 (at-part (suc k) i (after-parts-facts p l (suc k) _ i j h).1) in omega (arith, x))

    -- an item of these steps is an opening, or comes after all of them, or after one of a later step
    data Further (q : Steps) (k : ℕ) (b : Item → Type 0) (i : Item) : Type 0 where
      is_opening : Opening q l k i → Further q k b i
      past_all : ((e : Item) → Opening q l k e → AfterSteps q l k b i e) → Further q k b i
      past_one : (j : Item) → AfterSteps q l k b i j → label_of j ≡ l → AtLeast k j → ¬ Opening q l k j → Further q k b i

    further : (q : Steps) (k : ℕ) (b : Item → Type 0) → SlicesThere q → (i : Item) (w : Option ℕ) → StepsHave l k q i w → Further q k b i
    further Left k b s i w h = is_opening h.0
    further Unshown k b s i w h = absurd h
    further (GraphStep t a p) k b s i w (inl h) = is_opening h.0
    further (GraphStep t a p) k b s i w (inr (inl h)) = past_all (λ e o. inr (inl (h.0, h.1, inl o)))
    further (GraphStep t a p) k b s i w (inr (inr h)) = go (steps-follow p l (suc k) (OfStep (Entry t l k) l k a) s i w h)
      where
        go : Opening p l (suc k) i ⊎ Comes_later p l (suc k) (OfStep (Entry t l k) l k a) i → Further (GraphStep t a p) k b i
        go (inl o) = past_all (λ e oe. inr (inr (opening-after p l (suc k) (OfStep (Entry t l k) l k a) i e o (inl oe))))
        go (inr x) = past_one x.0 (inr (inr x.1)) x.2 (weaker k x.0 x.3) (λ o. let y = subst (AtLeast (suc k)) o x.3 in omega (arith, y))
    further (SliceStep [] p) k b s i w h = absurd s
    further (SliceStep (c ∷ cs) p) k b s i w (inl h) = is_opening (w, h)
    further (SliceStep (c ∷ cs) p) k b s i w (inr h) = go (steps-follow p l (suc k) (OfSlices l k (c ∷ cs)) s i w h)
      where
        go : Opening p l (suc k) i ⊎ Comes_later p l (suc k) (OfSlices l k (c ∷ cs)) i → Further (SliceStep (c ∷ cs) p) k b i
        go (inl o) = past_all (λ e oe. inr (opening-after p l (suc k) (OfSlices l k (c ∷ cs)) i e o (oe.0, oe.1)))
        go (inr x) = past_one x.0 (inr x.1) x.2 (weaker k x.0 x.3) (λ o. let r = range-of l k 0 (c ∷ cs) x.0 o.0 o.1 in let y = subst (AtLeast (suc k)) r.1 x.3 in omega (arith, y))

    -- a node goes on by the items that its phase says
    pub goes-on : (k : ℕ) (next : Next) → Comes u form ks k next → GoesOn (λ n. tree cut n u g ins) l (suc k) (opens_of cut l (suc k) next)
    goes-on k next c = by (phase k next c)
      where
        by : Phase form ks k next → GoesOn (λ n. tree cut n u g ins) l (suc k) (opens_of cut l (suc k) next)
        by p =
            record {
              exists = λ e am. let m = suc p.far in
                  let o = (opens-at (suc k) p.far next).into e am in
                  let q = tree_from cut m u form ks next in
                  let h = opening-has q (suc k) e o in
                  let f = opening-facts q (suc k) e o in
                  (own-has (p.at m) e h.0 ((p.followed m (omega arith)).out e h.0 h.1), f.0, f.1, f.2);
              after = λ e j am fo. let m = suc (fo.0 + p.far) in
                  let q = tree_from cut m u form ks next in
                  let o = (opens-at (suc k) (fo.0 + p.far) next).into e am in
                  let f = opening-facts q (suc k) e o in
                  let fb = p.followed m (omega arith) in
                  let a = fb.after (tree cut (p.at m) u g ins) e j f.1 (deep-after fo.0 (p.at m) (omega (arith, p.high m)) e j fo.1 f.0) in
                  let b = fb.before j (opening-before q (suc k) (Of l k (p.part_at m)) e j o a) in
                  (own-has (p.at m) j b.0.0 b.0.1, b.1, b.2);
              only = λ i ex lab le. let m = suc (ex.0 + p.far) in
                  let q = tree_from cut m u form ks next in
                  let fb = p.followed m (omega arith) in
                  let r = deep-has ex.0 (p.at m) (omega (arith, p.high m)) i ex.1 ex.2 lab in
                  kinds m (opens-at (suc k) (ex.0 + p.far) next) fb i (further q (suc k) (Of l k (p.part_at m)) (there cut u is-cut m form ks next) i r.0 (fb.into i r.0 r.1 le));
            }
          where
            kinds : (m : ℕ) → OpensAs (suc k) next m → FollowedBy (own (p.at m)) l k (p.part_at m) (tree_from cut m u form ks next) → (i : Item) → Further (tree_from cut m u form ks next) (suc k) (Of l k (p.part_at m)) i → IsAmong i (opens_of cut l (suc k) next) ⊎ Later (λ n. tree cut n u g ins) l (suc k) (opens_of cut l (suc k) next) i
            kinds m os fb i (is_opening o) = inl (os.out i o)
            kinds m os fb i (past_all every) = inr (after_all (λ e am. own-after (p.at m) i e (fb.back (tree cut (p.at m) u g ins) i e (every e (os.into e am)))))
            kinds m os fb i (past_one j a lab le no-open) = inr (after_one j (own-after (p.at m) i j (fb.back (tree cut (p.at m) u g ins) i j a)) lab le (λ am. no-open (os.into j am)))

-- ---- a node, of any kind

-- the last item of a node of a graph's trees
last-kind : (grow : Grow) (w : Vertex) (k : Kind) (o : Option (List Carried)) (rest : Entered) (n : ℕ) (j : Item) → IsLast (node_tree grow w k o rest) n j → ((n ≡ w.label) × (j ≡ last_by k w.label)) ⊎ IsLast rest n j
last-kind grow w (Plain row shape) o rest n j h = h
last-kind grow w (Whole form) o rest n j h = whole (steps_of grow form o) h
  where
    whole : (s : Steps) → IsLast (compound w s rest) n j → ((n ≡ w.label) × (j ≡ Leave w.label)) ⊎ IsLast rest n j
    whole Left h = h
    whole Unshown h = h
    whole (GraphStep t a p) h = h
    whole (SliceStep cs p) h = h

kind-last : (grow : Grow) (w : Vertex) (k : Kind) (o : Option (List Carried)) (rest : Entered) (n : ℕ) (j : Item) → ((n ≡ w.label) × (j ≡ last_by k w.label)) ⊎ IsLast rest n j → IsLast (node_tree grow w k o rest) n j
kind-last grow w (Plain row shape) o rest n j h = h
kind-last grow w (Whole form) o rest n j h = whole (steps_of grow form o)
  where
    whole : (s : Steps) → IsLast (compound w s rest) n j
    whole Left = h
    whole Unshown = h
    whole (GraphStep t a p) = h
    whole (SliceStep cs p) = h

label-in : (grow : Grow) (ks : Vertex → Option (List Carried)) (vs : List Vertex) (n : ℕ) (j : Item) → IsLast (nodes_tree grow ks vs) n j → IsLabel vs n
label-in grow ks [] n j h = h
label-in grow ks (w ∷ vs) n j h = go (last-kind grow w w.kind (ks w) (nodes_tree grow ks vs) n j h) (label-in grow ks vs n j)
  where
    go : ((n ≡ w.label) × (j ≡ last_by w.kind w.label)) ⊎ IsLast (nodes_tree grow ks vs) n j → (IsLast (nodes_tree grow ks vs) n j → IsLabel vs n) → IsLabel (w ∷ vs) n
    go (inl x) rec = inl x.0
    go (inr x) rec = inr (rec x)

last-is : (grow : Grow) (ks : Vertex → Option (List Carried)) (vs : List Vertex) → LabelsOnce vs → (n : ℕ) (j : Item) → IsLast (nodes_tree grow ks vs) n j → j ≡ last_of (at_label vs n) n
last-is grow ks [] once n j h = absurd h
last-is grow ks (w ∷ vs) once n j h = go (last-kind grow w w.kind (ks w) (nodes_tree grow ks vs) n j h) (last-is grow ks vs once.1 n j) (label-in grow ks vs n j)
  where
    go : ((n ≡ w.label) × (j ≡ last_by w.kind w.label)) ⊎ IsLast (nodes_tree grow ks vs) n j → (IsLast (nodes_tree grow ks vs) n j → j ≡ last_of (at_label vs n) n) → (IsLast (nodes_tree grow ks vs) n j → IsLabel vs n) → j ≡ last_of (if eqb w.label n then Some w else at_label vs n) n
    go (inl x) rec lab =
        x.1 ∙ (ap (last_by w.kind) (sym x.0) ∙ ap (λ b. last_of (if b then Some w else at_label vs n) n) (sym (eq-eqb w.label n (sym x.0))))
    go (inr x) rec lab =
        let ne : ¬ (w.label ≡ n) = λ e. once.0 (subst (IsLabel vs) (sym e) (lab x)) in
        rec x ∙ ap (λ b. last_of (if b then Some w else at_label vs n) n) (sym (eqb-other w.label n ne))

is-last : (grow : Grow) (ks : Vertex → Option (List Carried)) (vs : List Vertex) → LabelsOnce vs → (n : ℕ) → IsLabel vs n → IsLast (nodes_tree grow ks vs) n (last_of (at_label vs n) n)
is-last grow ks [] once n i = absurd i
is-last grow ks (w ∷ vs) once n (inl e) =
    kind-last grow w w.kind (ks w) (nodes_tree grow ks vs) n _
    (inl (e, ap (λ b. last_of (if b then Some w else at_label vs n) n) (eq-eqb w.label n (sym e)) ∙ ap (last_by w.kind) e))
is-last grow ks (w ∷ vs) once n (inr i) =
    let ne : ¬ (w.label ≡ n) = λ e. once.0 (subst (IsLabel vs) (sym e) i) in
    kind-last grow w w.kind (ks w) (nodes_tree grow ks vs) n _
    (inr (subst (IsLast (nodes_tree grow ks vs) n) (ap (λ b. last_of (if b then Some w else at_label vs n) n) (sym (eqb-other w.label n ne))) (is-last grow ks vs once.1 n i)))

module _ (cut : Cut) (u : Network) (is-cut : IsCut cut) (ready : AreRanked u) (g : ℕ) (ins : List Carried) (v : Vertex) (l : ℕ) (at-l : at_label (u g).nodes l ≡ Some v) (named : (n : ℕ) → IsIn n (waits v) → IsLabel (u g).nodes n) where
  -- what is first of a node, alone
  data Alone (o : Entered) : Type 0 where
    simple : o ≡ SimpleNode v.label (waits v) NoNode → Alone o
    whole : (a : Entered) (p : Steps) → o ≡ WholeNode v.label (waits v) a p NoNode → SlicesThere p → Alone o

  alone : (m : ℕ) → Alone (own cut u is-cut ready g ins v l at-l m)
  alone m = by v.kind
    where
      steps : (s : Steps) → SlicesThere s → Alone (compound v s NoNode)
      steps Left h = whole NoNode Left refl tt
      steps Unshown h = whole NoNode Unshown refl tt
      steps (GraphStep t a p) h = whole a p refl h
      steps (SliceStep cs p) h = whole NoNode (SliceStep cs p) refl h

      of : (form : Form) (o : Option (List Carried)) → SlicesThere (steps_of (tree_from cut m u) form o)
      of form None = tt
      of form (Some ks) = there cut u is-cut m form ks (next_of (first form ks))

      by : (k : Kind) → Alone (node_tree (tree_from cut m u) v k (operands (of_node (leads_to m u)) (u g) ins v.ins) NoNode)
      by (Plain row shape) = simple refl
      by (Whole form) = steps (steps_of (tree_from cut m u) form (operands (of_node (leads_to m u)) (u g) ins v.ins)) (of form (operands (of_node (leads_to m u)) (u g) ins v.ins))

  v-is : v.label ≡ l
  v-is = found-label (u g).nodes l v at-l

  abbrev last : ℕ → Item
  last n = last_of (at_label (u g).nodes n) n

  own-node : (o : Entered) → Alone o → (w : Option ℕ) × Has o (Node l) w
  own-node o (simple e) = (Some 1, subst (λ z. Has z (Node l) (Some 1)) (sym e) (inl (ap Node (sym v-is), refl)))
  own-node o (whole a p e s) = (Some 1, subst (λ z. Has z (Node l) (Some 1)) (sym e) (inl (ap Node (sym v-is), refl)))

  own-fed : (t o : Entered) → Alone o → (j : Item) → After t o (Node l) j → Fed t (waits v) j
  own-fed t o (simple e) j h = go (subst (λ z. After t z (Node l) j) e h)
    where
      go : After t (SimpleNode v.label (waits v) NoNode) (Node l) j → Fed t (waits v) j
      go (inl x) = x.1
      go (inr x) = absurd x
  own-fed t o (whole a p e s) j h = go (subst (λ z. After t z (Node l) j) e h)
    where
      go : After t (WholeNode v.label (waits v) a p NoNode) (Node l) j → Fed t (waits v) j
      go (inl x) = x.1
      go (inr (inl x)) = absurd (node-not v.label 0 x.0 x.1)
        where
          node-not : (n k : ℕ) (i : Item) → Node l ≡ Inside n k i → ⊥
          node-not n k i q = cc
      go (inr (inr (inl x))) = absurd ((at-part 1 (Node l) (after-parts-facts p v.label 1 _ (Node l) j x).1))
      go (inr (inr (inr x))) = absurd x

  fed-own : (t o : Entered) → Alone o → (j : Item) → Fed t (waits v) j → After t o (Node l) j
  fed-own t o (simple e) j h = subst (λ z. After t z (Node l) j) (sym e) (inl (ap Node (sym v-is), h))
  fed-own t o (whole a p e s) j h = subst (λ z. After t z (Node l) j) (sym e) (inl (ap Node (sym v-is), h))

  own-inner : (t o : Entered) → Alone o → (i : Item) (w : Option ℕ) → Has o i w → AtLeast 0 i → (j : Item) × After t o i j × (label_of j ≡ v.label)
  own-inner t o (simple e) i w h le = go (subst (λ z. Has z i w) e h)
    where
      go : Has (SimpleNode v.label (waits v) NoNode) i w → (j : Item) × After t o i j × (label_of j ≡ v.label)
      go (inl x) = absurd (subst (AtLeast 0) x.0 le)
      go (inr x) = absurd x
  own-inner t o (whole a p e s) i w h le = subst (λ z. (j : Item) × After t z i j × (label_of j ≡ v.label)) (sym e) (go (subst (λ z. Has z i w) e h))
    where
      later : Opening p v.label 1 i ⊎ Comes_later p v.label 1 (OfStep (Node v.label) v.label 0 a) i → (j : Item) × After t (WholeNode v.label (waits v) a p NoNode) i j × (label_of j ≡ v.label)
      later (inl o) = (Node v.label, inr (inr (inl (opening-after p v.label 1 (OfStep (Node v.label) v.label 0 a) i (Node v.label) o (inl refl)))), refl)
      later (inr x) = (x.0, inr (inr (inl x.1)), x.2)

      go : Has (WholeNode v.label (waits v) a p NoNode) i w → (j : Item) × After t (WholeNode v.label (waits v) a p NoNode) i j × (label_of j ≡ v.label)
      go (inl x) = absurd (subst (AtLeast 0) x.0 le)
      go (inr (inl x)) = (Node v.label, inr (inl (x.0, x.1, inl refl)), refl)
      go (inr (inr (inl x))) = later (steps-follow p v.label 1 (OfStep (Node v.label) v.label 0 a) s i w x)
      go (inr (inr (inr x))) = absurd x

  -- a node of the graph is a node of its run
  pub is-node : IsNode (λ n. tree cut n u g ins) l (waits v) (λ n. last_of (at_label (u g).nodes n) n)
  is-node =
      record {
        exists = let h = own-node (own cut u is-cut ready g ins v l at-l 0) (alone 0) in own-has cut u is-cut ready g ins v l at-l 0 (Node l) h.0 h.1;
        after = λ j f.
            let a = deep-after cut u is-cut ready g ins v l at-l f.0 f.0 (omega arith) (Node l) j f.1 refl in
            let fed = own-fed (tree cut f.0 u g ins) (own cut u is-cut ready g ins v l at-l f.0) (alone f.0) j a in
            (fed.0, fed.1, last-is (tree_from cut f.0 u) (λ w. operands (of_node (leads_to f.0 u)) (u g) ins w.ins) (u g).nodes (ready g).once fed.0 j fed.2);
        waits = λ n i.
            own-after cut u is-cut ready g ins v l at-l 0 (Node l) (last n)
            (fed-own (tree cut 0 u g ins) (own cut u is-cut ready g ins v l at-l 0) (alone 0) (last n)
            (n, i, is-last (tree_from cut 0 u) (λ w. operands (of_node (leads_to 0 u)) (u g) ins w.ins) (u g).nodes (ready g).once n (named n i)));
        inner = λ i ex lab le.
            let r = deep-has cut u is-cut ready g ins v l at-l ex.0 ex.0 (omega arith) i ex.1 ex.2 lab in
            let x = own-inner (tree cut ex.0 u g ins) (own cut u is-cut ready g ins v l at-l ex.0) (alone ex.0) i r.0 r.1 le in
            (x.0, own-after cut u is-cut ready g ins v l at-l ex.0 i x.0 x.1, x.2 ∙ v-is);
      }

  -- a simple node has one item
  pub only-node : (row : Simple) (shape : Shape) → v.kind ≡ Plain row shape → (i : Item) → Exists (λ n. tree cut n u g ins) i → label_of i ≡ l → i ≡ Node l
  only-node row shape is i ex lab =
      let r = deep-has cut u is-cut ready g ins v l at-l ex.0 ex.0 (omega arith) i ex.1 ex.2 lab in
      go r.0 (subst (λ k. Has (node_tree (tree_from cut ex.0 u) v k (operands (of_node (leads_to ex.0 u)) (u g) ins v.ins) NoNode) i r.0) is r.1)
    where
      go : (w : Option ℕ) → Has (SimpleNode v.label (waits v) NoNode) i w → i ≡ Node l
      go w (inl h) = h.0 ∙ ap Node v-is
      go w (inr h) = absurd h

  pub last-node : (row : Simple) (shape : Shape) → v.kind ≡ Plain row shape → last_of (at_label (u g).nodes l) l ≡ Node l
  last-node row shape is = ap (λ o. last_of o l) at-l ∙ ap (λ k. last_by k l) is
