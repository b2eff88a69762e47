-- The trees of a run: between two turns of a node there are few items without a firing.
use Rattle.std.proofs.Common.{◌≡◌, ℕ, zero, suc, ◌+◌, ◌≤◌, true, false, List, [], ◌∷◌, map, length, Option, Some, None, ap, arith}
use Rattle.std.proofs.lemmas.List.{length-map}
use Rattle.graph_meaning.specs.Carried.{Carried}
use Rattle.graph_meaning.specs.Entered.{Entered, NoNode, SimpleNode, WholeNode, Steps, Left, Unshown, GraphStep, SliceStep}
use Rattle.graph_meaning.specs.Forms.{Form, First, Begins, Skips, Next, Enter, Iterate, Leave, next_of, first, follow, gather}
use Rattle.graph_meaning.specs.Demand.{Kind, Plain, Whole, Vertex, Network, Cut, IsCut, all, operands, of_node, leads_to, dem, Grow, compound, steps_of, node_tree, nodes_tree, slice_cost, tree_from, tree}
use Rattle.graph_meaning.proofs.Wellformed.{on-results-all}
use Rattle.run_tables.specs.Bounds.{AreFew}
use Rattle.run_tables.proofs.Budgets.{after, budget, after-most, follow-pace, gather-pace}

-- From here on there are at most so many items without a firing up to the next turn, where there are at most so many slices. The
-- turn begins with slices + 2 more.
abbrev mutual
  pub HasFew : ℕ → Entered → Type 0
  HasFew slices NoNode = Unit {0}
  HasFew slices (SimpleNode l ws rest) = HasFew slices rest
  HasFew slices (WholeNode l ws inner next rest) = HasFew slices inner × StepsFew slices (slices + 2) next × HasFew slices rest

  pub StepsFew : ℕ → ℕ → Steps → Type 0
  StepsFew slices b Left = 1 ≤ b
  StepsFew slices b Unshown = Unit {0}
  StepsFew slices b (GraphStep true inner next) = HasFew slices inner × StepsFew slices (slices + 2) next
  StepsFew slices b (GraphStep false inner next) = (d : ℕ) × (suc d ≤ b) × HasFew slices inner × StepsFew slices d next
  StepsFew slices b (SliceStep cs next) = (1 ≤ length cs) × (length cs + 2 ≤ b) × StepsFew slices 2 next

more-steps : (slices b d : ℕ) (p : Steps) → b ≤ d → StepsFew slices b p → StepsFew slices d p
more-steps slices b d Left le h = omega (arith, le, h)
more-steps slices b d Unshown le h = tt
more-steps slices b d (GraphStep true inner next) le h = h
more-steps slices b d (GraphStep false inner next) le h = (h.0, omega (arith, le, h.1), h.2, h.3)
more-steps slices b d (SliceStep cs next) le h = (h.0, omega (arith, le, h.1), h.2)

-- the steps of a node, with the graph that its own item enters
abbrev BeginsFew : ℕ → Steps → Type 0
BeginsFew slices Left = Unit {0}
BeginsFew slices Unshown = Unit {0}
BeginsFew slices (GraphStep t inner next) = HasFew slices inner × StepsFew slices (slices + 2) next
BeginsFew slices (SliceStep cs next) = ⊥

compound-few : (slices : ℕ) (v : Vertex) (p : Steps) (r : Entered) → BeginsFew slices p → HasFew slices r → HasFew slices (compound v p r)
compound-few slices v Left r h k = (tt, omega arith, k)
compound-few slices v Unshown r h k = (tt, tt, k)
compound-few slices v (GraphStep t inner next) r h k = (h.0, h.1, k)
compound-few slices v (SliceStep cs next) r h k = absurd h

module _ (slices : ℕ) (grow : Grow) (begins : (form : Form) (ks : List Carried) (f : First) → BeginsFew slices (grow form ks (next_of f))) where
  begun-few : (form : Form) (o : Option (List Carried)) → BeginsFew slices (steps_of grow form o)
  begun-few form None = tt
  begun-few form (Some ks) = begins form ks (first form ks)

  node-few : (v : Vertex) (k : Kind) (o : Option (List Carried)) (r : Entered) → HasFew slices r → HasFew slices (node_tree grow v k o r)
  node-few v (Plain row shape) o r h = h
  node-few v (Whole form) o r h = compound-few slices v (steps_of grow form o) r (begun-few form o) h

  nodes-few : (ks : Vertex → Option (List Carried)) (vs : List Vertex) → HasFew slices (nodes_tree grow ks vs)
  nodes-few ks [] = tt
  nodes-few ks (v ∷ vs) = node-few v v.kind (ks v) (nodes_tree grow ks vs) (nodes-few ks vs)

module _ (cut : Cut) (slices : ℕ) (is-cut : IsCut cut) (few : AreFew slices cut) (u : Network) where
  -- there is a slice of some iterations
  some-slice : (row : List Carried) (rows : List (List Carried)) → 1 ≤ length (cut (row ∷ rows))
  some-slice row rows = let x = is-cut.some row rows in let e : length (cut (row ∷ rows)) ≡ suc (length x.1) = ap length x.2 in omega (arith, e)

  pub some-slices : 1 ≤ slices
  some-slices = let a = some-slice [] [] in let b = few ([] ∷ []) in omega (arith, a, b)

  mutual
    begins-few : (n : ℕ) (form : Form) (ks : List Carried) (f : First) → BeginsFew slices (tree_from cut n u form ks (next_of f))
    begins-few zero form ks (Skips rs) = tt
    begins-few zero form ks (Begins g ins stage) = tt
    begins-few (suc n) form ks (Skips rs) = tt
    begins-few (suc n) form ks (Begins g ins stage) = (
      nodes-few slices (tree_from cut n u) (begins-few n) (λ v. operands (of_node (leads_to n u)) (u g) ins v.ins) (u g).nodes,
      on-results-all (StepsFew slices (slices + 2)) tt (λ rs. tree_from cut n u form ks (follow form ks stage rs))
          (λ rs. more-steps slices (budget slices (follow form ks stage rs)) (slices + 2) (tree_from cut n u form ks (follow form ks stage rs)) (omega (arith, follow-pace slices form ks stage rs, after-most slices stage some-slices)) (steps-few n form ks (follow form ks stage rs)))
          (dem n u g ins),
    )

    steps-few : (n : ℕ) (form : Form) (ks : List Carried) (next : Next) → StepsFew slices (budget slices next) (tree_from cut n u form ks next)
    steps-few zero form ks next = tt
    steps-few (suc n) form ks (Leave rs) = omega arith
    steps-few (suc n) form ks (Enter true g ins stage) = (
      nodes-few slices (tree_from cut n u) (begins-few n) (λ v. operands (of_node (leads_to n u)) (u g) ins v.ins) (u g).nodes,
      on-results-all (StepsFew slices (slices + 2)) tt (λ rs. tree_from cut n u form ks (follow form ks stage rs))
          (λ rs. more-steps slices (budget slices (follow form ks stage rs)) (slices + 2) (tree_from cut n u form ks (follow form ks stage rs)) (omega (arith, follow-pace slices form ks stage rs, after-most slices stage some-slices)) (steps-few n form ks (follow form ks stage rs)))
          (dem n u g ins),
    )
    steps-few (suc n) form ks (Enter false g ins stage) = (
      after slices stage,
      omega arith,
      nodes-few slices (tree_from cut n u) (begins-few n) (λ v. operands (of_node (leads_to n u)) (u g) ins v.ins) (u g).nodes,
      on-results-all (StepsFew slices (after slices stage)) tt (λ rs. tree_from cut n u form ks (follow form ks stage rs))
          (λ rs. more-steps slices (budget slices (follow form ks stage rs)) (after slices stage) (tree_from cut n u form ks (follow form ks stage rs)) (follow-pace slices form ks stage rs) (steps-few n form ks (follow form ks stage rs)))
          (dem n u g ins),
    )
    steps-few (suc n) form ks (Iterate g row rows ms) =
        let costs : List (Option ℕ) = map (slice_cost (λ ins. tree cut n u g ins)) (cut (row ∷ rows)) in
        let as-long : length costs ≡ length (cut (row ∷ rows)) = length-map (cut (row ∷ rows)) (slice_cost (λ ins. tree cut n u g ins)) in
        let a = some-slice row rows in
        let b = few (row ∷ rows) in
        let c : 1 ≤ length costs = omega (arith, as-long, a) in
        let d : length costs + 2 ≤ slices + 2 = omega (arith, as-long, b) in (
          c,
          d,
          on-results-all (StepsFew slices 2) tt (λ rs. tree_from cut n u form ks (gather form ks ms rs))
              (λ rs. more-steps slices (budget slices (gather form ks ms rs)) 2 (tree_from cut n u form ks (gather form ks ms rs)) (gather-pace slices form ks ms rs) (steps-few n form ks (gather form ks ms rs)))
              (all (map (λ ins. dem n u g ins) (row ∷ rows))),
        )

  pub tree-few : (n g : ℕ) (ins : List Carried) → HasFew slices (tree cut n u g ins)
  tree-few n g ins = nodes-few slices (tree_from cut n u) (begins-few n) (λ v. operands (of_node (leads_to n u)) (u g) ins v.ins) (u g).nodes
