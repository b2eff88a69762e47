-- The trees of a ready unit are those of one run.
use Rattle.std.proofs.Common.{◌≡◌, ℕ, zero, suc, Bool, true, false, List, [], ◌∷◌, ◌++◌, map, Option, Some, None, refl, sym, subst}
use Rattle.graph_meaning.specs.Entered.{Entered, Steps, SliceStep, IsWhole, all_given, cost, plus}
use Rattle.graph_meaning.specs.Carried.{Carried}
use Rattle.graph_meaning.specs.Forms.{Form, Next, Enter, Iterate, Leave, First, Begins, Skips, next_of, first, follow, gather}
use Rattle.graph_meaning.specs.Demand.{Kind, Plain, Whole, Vertex, Net, Network, Cut, waits, all, dem, steps_of, node_tree, nodes_tree, on_results, slice_cost, tree_from, tree, EachNode, flatten, IsCut}
use Rattle.graph_meaning.proofs.Ranks.{IsRanked, AreRanked}
use Rattle.graph_meaning.proofs.Depths.{plus-left, plus-right, cost-whole, tree-grows}
use Rattle.graph_meaning.proofs.Wellformed.{tree-good}
use Rattle.graph_meaning.specs.Growing.{Fills, OpenAt, OpenSteps, IsOpenBelow}
use Rattle.graph_meaning.proofs.Given.{given-all, Ends, whole-ends, Facts, facts, KindEnds, known, out, node-known, node-out, whole_tree, outs-of, OpenFirst, compound-open, compound-zero, whole-results}
use Rattle.graph_meaning.specs.Growing.{IsExecution}

module _ (cut : Cut) (is_cut : IsCut cut) (u : Network) (ready : AreRanked u) where
  -- where a tree is whole, the graph's results are given
  pub whole-dem : (n g : ℕ) (ins : List Carried) → IsWhole (tree cut n u g ins) → (rs : List Carried) × (dem n u g ins ≡ Some rs)
  whole-dem n g ins whole = whole-results cut u n (u g) (ready g) ins whole

  rows-known : (n g : ℕ) (rows : List (List Carried)) (rest : List (List Carried)) (c : ℕ) → slice_cost (λ ins. tree cut n u g ins) rows ≡ Some c → (xs : List (List Carried)) × (all (map (λ ins. dem n u g ins) rest) ≡ Some xs) → (xs : List (List Carried)) × (all (map (λ ins. dem n u g ins) (rows ++ rest)) ≡ Some xs)
  rows-known n g [] rest c e h = h
  rows-known n g (ins ∷ rows) rest c e h =
      let a = plus-left (plus (Some 1) (cost (tree cut n u g ins))) (slice_cost (λ ins. tree cut n u g ins) rows) c e in
      let b = plus-right (plus (Some 1) (cost (tree cut n u g ins))) (slice_cost (λ ins. tree cut n u g ins) rows) c e in
      let x = plus-right (Some 1) (cost (tree cut n u g ins)) a.0 a.1 in
      given-all (λ ins. dem n u g ins) (rows ++ rest) ins (whole-dem n g ins (cost-whole (tree cut n u g ins) x.0 x.1)) (rows-known n g rows rest b.0 b.1 h)

  slices-known : (n g : ℕ) (cs : List (List (List Carried))) → all_given (map (slice_cost (λ ins. tree cut n u g ins)) cs) → (xs : List (List Carried)) × (all (map (λ ins. dem n u g ins) (flatten cs)) ≡ Some xs)
  slices-known n g [] h = ([], refl)
  slices-known n g (rows ∷ cs) h = go (slice_cost (λ ins. tree cut n u g ins) rows) (rows-known n g rows (flatten cs)) h (slices-known n g cs)
    where
      go : (o : Option ℕ) → ((c : ℕ) → o ≡ Some c → (xs : List (List Carried)) × (all (map (λ ins. dem n u g ins) (flatten cs)) ≡ Some xs) → (xs : List (List Carried)) × (all (map (λ ins. dem n u g ins) (rows ++ flatten cs)) ≡ Some xs)) → all_given (o ∷ map (slice_cost (λ ins. tree cut n u g ins)) cs) → (all_given (map (slice_cost (λ ins. tree cut n u g ins)) cs) → (xs : List (List Carried)) × (all (map (λ ins. dem n u g ins) (flatten cs)) ≡ Some xs)) → (xs : List (List Carried)) × (all (map (λ ins. dem n u g ins) (rows ++ flatten cs)) ≡ Some xs)
      go None k h t = absurd h
      go (Some c) k h t = k c refl (t h)

  on-known : {A : Type 0} (d : ℕ) (o : Option A) (f : A → Steps) → ((a : A) → OpenSteps d (f a)) → (a : A) × (o ≡ Some a) → OpenSteps d (on_results o f)
  on-known d o f h x = subst (λ y. OpenSteps d (on_results y f)) (sym x.1) (h x.0)

  abbrev PartsOpen : ℕ → Type 0
  PartsOpen n = (form : Form) (ks : List Carried) (next : Next) → OpenSteps n (tree_from cut n u form ks next)

  -- the parts of a node after its first, and all parts, from those of the depth below
  module _ (d : ℕ) (frames : (g : ℕ) (ins : List Carried) → IsOpenBelow d (tree cut d u g ins)) (parts : PartsOpen d) where
    parts-open-next : PartsOpen (suc d)
    parts-open-next form ks (Leave rs) = tt
    parts-open-next form ks (Enter t g ins stage) =
        (frames g ins, λ whole. on-known d (dem d u g ins) _ (λ rs. parts form ks (follow form ks stage rs)) (whole-dem d g ins whole))
    parts-open-next form ks (Iterate g row rows ms) =
        let c = is_cut.some row rows in
        go (cut (row ∷ rows)) c.0 c.1 c.2 (is_cut.joins (row ∷ rows))
      where
        q : Steps
        q = on_results (all (map (λ ins. dem d u g ins) (row ∷ rows))) (λ rs. tree_from cut d u form ks (gather form ks ms rs))

        go : (cs : List (List (List Carried))) (s : List (List Carried)) (others : List (List (List Carried))) → cs ≡ s ∷ others → flatten cs ≡ row ∷ rows → OpenSteps (suc d) (SliceStep (map (slice_cost (λ ins. tree cut d u g ins)) cs) q)
        go [] s others e j = absurd cc
        go (s' ∷ others') s others e j = λ given.
            on-known d (all (map (λ ins. dem d u g ins) (row ∷ rows))) _ (λ rs. parts form ks (gather form ks ms rs))
            (subst (λ rs. (xs : List (List Carried)) × (all (map (λ ins. dem d u g ins) rs) ≡ Some xs)) j (slices-known d g (s' ∷ others') given))

    module _ (graph : Net) (is_ready : IsRanked graph) (ins : List Carried) where
      abbrev told : Vertex → Option (List Carried)
      told = known cut u (suc d) graph is_ready ins

      abbrev has_out : ℕ → Bool
      has_out = out cut u (suc d) graph is_ready ins

      abbrev the_whole : Entered
      the_whole = whole_tree cut u (suc d) graph is_ready ins

      entered : (form : Form) (l : ℕ) (ks : List Carried) (f : First) → (Ends (tree_from cut (suc d) u form ks (next_of f)) → has_out l ≡ true) → OpenFirst cut u (suc d) graph is_ready ins d l (tree_from cut (suc d) u form ks (next_of f))
      entered form l ks (Skips rs) h = h tt
      entered form l ks (Begins g is stage) h =
          let x = parts-open-next form ks (Enter false g is stage) in (x.0, x.1, λ whole. h (whole-ends _ whole))

      -- a compound node
      opened : (v : Vertex) (form : Form) → Facts cut u (suc d) graph is_ready ins v → (Ends (steps_of (tree_from cut (suc d) u) form (told v)) → KindEnds cut u (suc d) graph is_ready ins v.kind (told v)) → Fills has_out the_whole (waits v) → OpenFirst cut u (suc d) graph is_ready ins d v.label (steps_of (tree_from cut (suc d) u) form (told v))
      opened v form f ends fills =
          let outs = outs-of cut u (suc d) graph is_ready ins v f fills in
          let k = node-known cut u (suc d) graph is_ready ins v f outs in
          let given : Ends (steps_of (tree_from cut (suc d) u) form (told v)) → has_out v.label ≡ true = λ e. node-out cut u (suc d) graph is_ready ins v f outs (ends e) in
          subst (λ o. OpenFirst cut u (suc d) graph is_ready ins d v.label (steps_of (tree_from cut (suc d) u) form o)) (sym k.1)
          (entered form v.label k.0 (first form k.0)
          (λ e. given (subst (λ o. Ends (steps_of (tree_from cut (suc d) u) form o)) (sym k.1) e)))

      node-open : (v : Vertex) (k : Kind) → v.kind ≡ k → Facts cut u (suc d) graph is_ready ins v → (r : Entered) → OpenAt has_out the_whole (suc d) r → OpenAt has_out the_whole (suc d) (node_tree (tree_from cut (suc d) u) v k (told v) r)
      node-open v (Plain row shape) e f r h =
          ((λ fills. node-out cut u (suc d) graph is_ready ins v f (outs-of cut u (suc d) graph is_ready ins v f fills) (subst (λ k. KindEnds cut u (suc d) graph is_ready ins k (told v)) (sym e) tt)), h)
      node-open v (Whole form) e f r h = compound-open cut u (suc d) graph is_ready ins d v _ r (opened v form f (λ x. subst (λ k. KindEnds cut u (suc d) graph is_ready ins k (told v)) (sym e) x)) h

      nodes-open : (vs : List Vertex) → EachNode (Facts cut u (suc d) graph is_ready ins) vs → OpenAt has_out the_whole (suc d) (nodes_tree (tree_from cut (suc d) u) told vs)
      nodes-open [] f = tt
      nodes-open (v ∷ vs) f = node-open v v.kind refl f.0 (nodes_tree (tree_from cut (suc d) u) told vs) (nodes-open vs f.1)

    frames-open-next : (g : ℕ) (ins : List Carried) → IsOpenBelow (suc d) (tree cut (suc d) u g ins)
    frames-open-next g ins = (has_out (u g) (ready g) ins, nodes-open (u g) (ready g) ins (u g).nodes (facts cut u (suc d) (u g) (ready g) ins))

  -- at depth 0
  module _ (graph : Net) (is_ready : IsRanked graph) (ins : List Carried) where
    abbrev told0 : Vertex → Option (List Carried)
    told0 = known cut u 0 graph is_ready ins

    abbrev out0 : ℕ → Bool
    out0 = out cut u 0 graph is_ready ins

    abbrev whole0 : Entered
    whole0 = whole_tree cut u 0 graph is_ready ins

    node-open0 : (v : Vertex) (k : Kind) → v.kind ≡ k → Facts cut u 0 graph is_ready ins v → (r : Entered) → OpenAt out0 whole0 0 r → OpenAt out0 whole0 0 (node_tree (tree_from cut 0 u) v k (told0 v) r)
    node-open0 v (Plain row shape) e f r h =
        ((λ fills. node-out cut u 0 graph is_ready ins v f (outs-of cut u 0 graph is_ready ins v f fills) (subst (λ k. KindEnds cut u 0 graph is_ready ins k (told0 v)) (sym e) tt)), h)
    node-open0 v (Whole form) e f r h = compound-zero cut u 0 graph is_ready ins v _ r h

    nodes-open0 : (vs : List Vertex) → EachNode (Facts cut u 0 graph is_ready ins) vs → OpenAt out0 whole0 0 (nodes_tree (tree_from cut 0 u) told0 vs)
    nodes-open0 [] f = tt
    nodes-open0 (v ∷ vs) f = node-open0 v v.kind refl f.0 (nodes_tree (tree_from cut 0 u) told0 vs) (nodes-open0 vs f.1)

  both-open : (n : ℕ) → ((g : ℕ) (ins : List Carried) → IsOpenBelow n (tree cut n u g ins)) × PartsOpen n
  both-open zero = ((λ g ins. (out0 (u g) (ready g) ins, nodes-open0 (u g) (ready g) ins (u g).nodes (facts cut u 0 (u g) (ready g) ins))), (λ form ks next. tt))
  both-open (suc n) = let x = both-open n in (frames-open-next n x.0 x.1, parts-open-next n x.0 x.1)

  -- the trees of a graph on its inputs are those of one run
  pub execution : (g : ℕ) (ins : List Carried) → IsExecution (λ n. tree cut n u g ins)
  execution g ins =
      record {
        grows = λ n m le. tree-grows cut n m le u g ins;
        distinct = λ n. (tree-good cut u ready n g ins).distinct;
        acyclic = λ n. (tree-good cut u ready n g ins).acyclic;
        open_below = λ n. (both-open n).0 g ins;
      }
