-- The cost is the same however the iterations are cut into slices.
use Rattle.std.proofs.Common.{◌≡◌, ℕ, zero, suc, Bool, List, [], ◌∷◌, ◌++◌, map, Option, Some, None, refl, sym, ap, ◌∙◌, arith}
use Rattle.graph_meaning.specs.Entered.{Entered, Steps, Left, Unshown, GraphStep, SliceStep, cost, steps_cost, slices_cost, plus, entry_fires}
use Rattle.graph_meaning.specs.Carried.{Carried}
use Rattle.graph_meaning.specs.Forms.{Form, Next, Enter, Iterate, Leave, next_of, first, follow, gather}
use Rattle.graph_meaning.specs.Demand.{Kind, Plain, Whole, Vertex, Network, Cut, all, operands, of_node, leads_to, dem, Grow, compound, steps_of, node_tree, nodes_tree, on_results, slice_cost, tree_from, tree, flatten, IsCut}

plus-assoc : (a b c : Option ℕ) → plus a (plus b c) ≡ plus (plus a b) c
plus-assoc None b c = refl
plus-assoc (Some a) None c = refl
plus-assoc (Some a) (Some b) None = refl
plus-assoc (Some a) (Some b) (Some c) = ap Some (omega arith)

plus-zero : (a : Option ℕ) → plus (Some 0) a ≡ a
plus-zero None = refl
plus-zero (Some a) = ap Some (omega arith)

slice-append : (body : List Carried → Entered) (a b : List (List Carried)) → slice_cost body (a ++ b) ≡ plus (slice_cost body a) (slice_cost body b)
slice-append body [] b = sym (plus-zero (slice_cost body b))
slice-append body (x ∷ a) b =
    ap (plus (plus (Some 1) (cost (body x)))) (slice-append body a b) ∙ plus-assoc (plus (Some 1) (cost (body x))) (slice_cost body a) (slice_cost body b)

slices-flat : (body : List Carried → Entered) (cs : List (List (List Carried))) → slices_cost (map (slice_cost body) cs) ≡ slice_cost body (flatten cs)
slices-flat body [] = refl
slices-flat body (c ∷ cs) = ap (plus (slice_cost body c)) (slices-flat body cs) ∙ sym (slice-append body c (flatten cs))

slice-same : (body body' : List Carried → Entered) → ((ins : List Carried) → cost (body ins) ≡ cost (body' ins)) → (rows : List (List Carried)) → slice_cost body rows ≡ slice_cost body' rows
slice-same body body' h [] = refl
slice-same body body' h (x ∷ rows) = ap (λ c. plus (plus (Some 1) c) (slice_cost body rows)) (h x) ∙ ap (plus (plus (Some 1) (cost (body' x)))) (slice-same body body' h rows)

-- the same steps with the same costs
data Alike : Steps → Steps → Type 0 where
  leaves : Alike Left Left
  deeper : Alike Unshown Unshown
  part : {t : Bool} {a b : Entered} {p q : Steps} → cost a ≡ cost b → steps_cost p ≡ steps_cost q → Alike (GraphStep t a p) (GraphStep t b q)
  slices : {cs ds : List (Option ℕ)} {p q : Steps} → slices_cost cs ≡ slices_cost ds → steps_cost p ≡ steps_cost q → Alike (SliceStep cs p) (SliceStep ds q)

alike-cost : {p q : Steps} → Alike p q → steps_cost p ≡ steps_cost q
alike-cost leaves = refl
alike-cost deeper = refl
alike-cost (part {t = t} {b = b} {p = p} e f) = ap (λ x. plus (Some (entry_fires t)) (plus x (steps_cost p))) e ∙ ap (λ x. plus (Some (entry_fires t)) (plus (cost b) x)) f
alike-cost (slices {ds = ds} {p = p} e f) = ap (λ x. plus x (steps_cost p)) e ∙ ap (plus (slices_cost ds)) f

compound-alike : (v : Vertex) (p q : Steps) (r s : Entered) → Alike p q → cost r ≡ cost s → cost (compound v p r) ≡ cost (compound v q s)
compound-alike v p q r s leaves e = ap (λ x. plus (Some 1) (plus (Some 0) (plus (Some 0) x))) e
compound-alike v p q r s deeper e = refl
compound-alike v p q r s (part {a = a} {b = b} {p = p'} {q = q'} f g) e =
    ap (λ x. plus (Some 1) (plus x (plus (steps_cost p') (cost r)))) f ∙ (ap (λ x. plus (Some 1) (plus (cost b) (plus x (cost r)))) g ∙ ap (λ x. plus (Some 1) (plus (cost b) (plus (steps_cost q') x))) e)
compound-alike v p q r s (slices {cs = cs} {ds = ds} {p = p'} {q = q'} f g) e =
    ap (λ x. plus (Some 1) (plus (Some 0) (plus x (cost r)))) (alike-cost (slices {cs = cs} {ds = ds} {p = p'} {q = q'} f g)) ∙ ap (λ x. plus (Some 1) (plus (Some 0) (plus (steps_cost (SliceStep ds q')) x))) e

abbrev GrowAlike : Grow → Grow → Type 0
GrowAlike grow grow' = (form : Form) (ks : List Carried) (next : Next) → Alike (grow form ks next) (grow' form ks next)

parts-of-alike : (grow grow' : Grow) → GrowAlike grow grow' → (form : Form) (o : Option (List Carried)) → Alike (steps_of grow form o) (steps_of grow' form o)
parts-of-alike grow grow' h form None = deeper
parts-of-alike grow grow' h form (Some ks) = h form ks (next_of (first form ks))

node-alike : (grow grow' : Grow) → GrowAlike grow grow' → (v : Vertex) (k : Kind) (o : Option (List Carried)) (r s : Entered) → cost r ≡ cost s → cost (node_tree grow v k o r) ≡ cost (node_tree grow' v k o s)
node-alike grow grow' h v (Plain row shape) o r s e = ap (plus (Some 1)) e
node-alike grow grow' h v (Whole form) o r s e = compound-alike v _ _ r s (parts-of-alike grow grow' h form o) e

nodes-alike : (grow grow' : Grow) → GrowAlike grow grow' → (ks : Vertex → Option (List Carried)) (vs : List Vertex) → cost (nodes_tree grow ks vs) ≡ cost (nodes_tree grow' ks vs)
nodes-alike grow grow' h ks [] = refl
nodes-alike grow grow' h ks (v ∷ vs) = node-alike grow grow' h v v.kind (ks v) _ _ (nodes-alike grow grow' h ks vs)

on-results-same : {A : Type 0} (o : Option A) (f f' : A → Steps) → ((a : A) → steps_cost (f a) ≡ steps_cost (f' a)) → steps_cost (on_results o f) ≡ steps_cost (on_results o f')
on-results-same None f f' h = refl
on-results-same (Some a) f f' h = h a

module _ (cut cut' : Cut) (is_cut : IsCut cut) (is_cut' : IsCut cut') where
  parts-alike : (n : ℕ) (u : Network) → GrowAlike (tree_from cut n u) (tree_from cut' n u)
  parts-alike zero u form ks next = deeper
  parts-alike (suc n) u form ks (Leave rs) = leaves
  parts-alike (suc n) u form ks (Enter t g ins stage) =
      part (nodes-alike (tree_from cut n u) (tree_from cut' n u) (parts-alike n u) (λ w. operands (of_node (leads_to n u)) (u g) ins w.ins) (u g).nodes)
      (on-results-same (dem n u g ins) _ _ (λ rs. alike-cost (parts-alike n u form ks (follow form ks stage rs))))
  parts-alike (suc n) u form ks (Iterate g row rows ms) =
      let body : List Carried → Entered = λ ins. tree cut n u g ins in
      let body' : List Carried → Entered = λ ins. tree cut' n u g ins in
      slices
      (slices-flat body (cut (row ∷ rows)) ∙ (ap (slice_cost body) (is_cut.joins (row ∷ rows))
      ∙ (slice-same body body' (λ ins. nodes-alike (tree_from cut n u) (tree_from cut' n u) (parts-alike n u) (λ w. operands (of_node (leads_to n u)) (u g) ins w.ins) (u g).nodes) (row ∷ rows)
      ∙ (ap (slice_cost body') (sym (is_cut'.joins (row ∷ rows))) ∙ sym (slices-flat body' (cut' (row ∷ rows)))))))
      (on-results-same (all (map (λ ins. dem n u g ins) (row ∷ rows))) _ _ (λ rs. alike-cost (parts-alike n u form ks (gather form ks ms rs))))

  pub same-cost : (n : ℕ) (u : Network) (g : ℕ) (ins : List Carried) → cost (tree cut n u g ins) ≡ cost (tree cut' n u g ins)
  same-cost n u g ins = nodes-alike (tree_from cut n u) (tree_from cut' n u) (parts-alike n u) (λ w. operands (of_node (leads_to n u)) (u g) ins w.ins) (u g).nodes
