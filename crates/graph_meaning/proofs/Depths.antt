-- What is given at one depth is given at every greater one, and trees grow with the depth.
use Rattle.std.proofs.Common.{◌≡◌, ℕ, zero, suc, ◌≤◌, List, [], ◌∷◌, length, map, Option, Some, None, refl, sym, ap, ◌∙◌, subst, arith}
use Rattle.graph_meaning.specs.Entered.{Entered, NoNode, SimpleNode, WholeNode, Steps, Left, Unshown, GraphStep, SliceStep, cost, steps_cost, slices_cost, plus, entry_fires, IsWhole, AreWhole, all_given}
use Rattle.graph_meaning.specs.Carried.{Carried}
use Rattle.graph_meaning.specs.Forms.{Form, Next, Enter, Iterate, Leave, next_of, first, follow, gather}
use Rattle.graph_meaning.specs.Demand.{Source, Port, Fixed, Kind, Plain, Whole, Vertex, Net, Network, Cut, Of, at_label, and_then, all, outputs, demanded, operands, graph_meaning, Rest, of_kind, of_node, leads_to, dem, Grow, compound, steps_of, node_tree, nodes_tree, graph_tree, on_results, slice_cost, tree_from, tree}
use Rattle.graph_meaning.specs.Growing.{Grows, empty, simple, unknown, compound as compound_grows, GrowsSteps, leaves, deeper, part, slices, GrowsCosts, no_cost, open_cost, known_cost}
use Rattle.graph_meaning.proofs.Growth.{whole-grows}

-- the second is given where the first is, and is the same
abbrev pub Below : {A : Type 0} → Option A → Option A → Type 0
Below {A = A} o o' = (a : A) → o ≡ Some a → o' ≡ Some a

pub then-below : {A B : Type 0} (o o' : Option A) (f f' : A → Option B) → Below o o' → ((a : A) → Below (f a) (f' a)) → Below (and_then o f) (and_then o' f')
then-below None o' f f' h k b e = absurd cc
then-below (Some a) o' f f' h k b e = ap (λ x. and_then x f') (h a refl) ∙ k a b e

pub all-below : {A B : Type 0} (f g : A → Option B) → ((x : A) → Below (f x) (g x)) → (xs : List A) → Below (all (map f xs)) (all (map g xs))
all-below f g h [] = λ b e. e
all-below f g h (x ∷ xs) =
    then-below (f x) (g x) _ _ (h x) (λ a. then-below (all (map f xs)) (all (map g xs)) _ _ (all-below f g h xs) (λ r b e. e))

pub of-kind-below : (r r' : Rest) → ((f : Form) (ks : List Carried) (next : Next) → Below (r f ks next) (r' f ks next)) → (k : Kind) (ks : List Carried) → Below (of_kind r k ks) (of_kind r' k ks)
of-kind-below r r' h (Plain row shape) ks = λ b e. e
of-kind-below r r' h (Whole form) ks = h form ks (next_of (first form ks))

abbrev pub OfBelow : Of → Of → Type 0
OfBelow of of' = (v : Vertex) (ks : List Carried) → Below (of v ks) (of' v ks)

pub outputs-below : (of of' : Of) → OfBelow of of' → (d d' : Source → Option Carried) → ((o : Source) → Below (d o) (d' o)) → (v : Option Vertex) → Below (outputs d of v) (outputs d' of' v)
outputs-below of of' h d d' k None = λ b e. absurd cc
outputs-below of of' h d d' k (Some v) = then-below (all (map d v.ins)) (all (map d' v.ins)) (of v) (of' v) (all-below d d' k v.ins) (h v)

pub demanded-below : (of of' : Of) → OfBelow of of' → (vs : List Vertex) (ins : List Carried) (far far' : ℕ) → far ≤ far' → (o : Source) → Below (demanded of vs ins far o) (demanded of' vs ins far' o)
demanded-below of of' h vs ins far far' le (Fixed v) = λ b e. e
demanded-below of of' h vs ins far far' le (Port zero p) = λ b e. e
demanded-below of of' h vs ins zero far' le (Port (suc l) p) = λ b e. absurd cc
demanded-below of of' h vs ins (suc far) zero le (Port (suc l) p) = λ b e. absurd (omega (arith, le))
demanded-below of of' h vs ins (suc far) (suc far') le (Port (suc l) p) =
    then-below (outputs (demanded of vs ins far) of (at_label vs (suc l))) (outputs (demanded of' vs ins far') of' (at_label vs (suc l))) _ _
    (outputs-below of of' h (demanded of vs ins far) (demanded of' vs ins far') (demanded-below of of' h vs ins far far' (omega (arith, le))) (at_label vs (suc l)))
    (λ os b e. e)

pub operands-below : (of of' : Of) → OfBelow of of' → (g : Net) (ins : List Carried) (os : List Source) → Below (operands of g ins os) (operands of' g ins os)
operands-below of of' h g ins os =
    all-below (demanded of g.nodes ins (length g.nodes)) (demanded of' g.nodes ins (length g.nodes)) (demanded-below of of' h g.nodes ins (length g.nodes) (length g.nodes) (omega arith)) os

meaning-below : (of of' : Of) → OfBelow of of' → (u : Network) (ins : List Carried) (g : ℕ) → Below (graph_meaning of u ins g) (graph_meaning of' u ins g)
meaning-below of of' h u ins g = operands-below of of' h (u g) ins (u g).results

pub leads-below : (n m : ℕ) → n ≤ m → (u : Network) (form : Form) (ks : List Carried) (next : Next) → Below (leads_to n u form ks next) (leads_to m u form ks next)
leads-below zero m le u form ks next = λ b e. absurd cc
leads-below (suc n) zero le u form ks next = λ b e. absurd (omega (arith, le))
leads-below (suc n) (suc m) le u form ks (Leave rs) = λ b e. e
leads-below (suc n) (suc m) le u form ks (Enter t g ins stage) =
    then-below _ _ _ _
    (meaning-below (of_node (leads_to n u)) (of_node (leads_to m u)) (λ v' ks'. of-kind-below (leads_to n u) (leads_to m u) (leads-below n m (omega (arith, le)) u) v'.kind ks') u ins g)
    (λ rs. leads-below n m (omega (arith, le)) u form ks (follow form ks stage rs))
leads-below (suc n) (suc m) le u form ks (Iterate g row rows ms) =
    then-below _ _ _ _
    (all-below _ _ (λ ins. meaning-below (of_node (leads_to n u)) (of_node (leads_to m u)) (λ v' ks'. of-kind-below (leads_to n u) (leads_to m u) (leads-below n m (omega (arith, le)) u) v'.kind ks') u ins g) (row ∷ rows))
    (λ rs. leads-below n m (omega (arith, le)) u form ks (gather form ks ms rs))

pub node-below : (n m : ℕ) → n ≤ m → (u : Network) → OfBelow (of_node (leads_to n u)) (of_node (leads_to m u))
node-below n m le u v ks = of-kind-below (leads_to n u) (leads_to m u) (leads-below n m le u) v.kind ks

-- a value given at one depth is given at every greater one
pub dem-below : (n m : ℕ) → n ≤ m → (u : Network) (g : ℕ) (ins : List Carried) → Below (dem n u g ins) (dem m u g ins)
dem-below n m le u g ins = meaning-below (of_node (leads_to n u)) (of_node (leads_to m u)) (node-below n m le u) u ins g

-- a cost is given only of a whole tree
pub plus-left : (a b : Option ℕ) (c : ℕ) → plus a b ≡ Some c → (x : ℕ) × (a ≡ Some x)
plus-left None b c e = absurd cc
plus-left (Some x) b c e = (x, refl)

pub plus-right : (a b : Option ℕ) (c : ℕ) → plus a b ≡ Some c → (x : ℕ) × (b ≡ Some x)
plus-right None b c e = absurd cc
plus-right (Some x) None c e = absurd cc
plus-right (Some x) (Some y) c e = (y, refl)

slices-whole : (cs : List (Option ℕ)) (c : ℕ) → slices_cost cs ≡ Some c → all_given cs
slices-whole [] c e = tt
slices-whole (None ∷ cs) c e = absurd cc
slices-whole (Some n ∷ cs) c e = let x = plus-right (Some n) (slices_cost cs) c e in slices-whole cs x.0 x.1

mutual
  pub cost-whole : (f : Entered) (c : ℕ) → cost f ≡ Some c → IsWhole f
  cost-whole NoNode c e = tt
  cost-whole (SimpleNode l ws rest) c e = let x = plus-right (Some 1) (cost rest) c e in cost-whole rest x.0 x.1
  cost-whole (WholeNode l ws first next rest) c e =
      let x = plus-right (Some 1) (plus (cost first) (plus (steps_cost next) (cost rest))) c e in
      let a = plus-left (cost first) (plus (steps_cost next) (cost rest)) x.0 x.1 in
      let y = plus-right (cost first) (plus (steps_cost next) (cost rest)) x.0 x.1 in
      let p = plus-left (steps_cost next) (cost rest) y.0 y.1 in
      let r = plus-right (steps_cost next) (cost rest) y.0 y.1 in
      (cost-whole first a.0 a.1, parts-cost-whole next p.0 p.1, cost-whole rest r.0 r.1)

  parts-cost-whole : (p : Steps) (c : ℕ) → steps_cost p ≡ Some c → AreWhole p
  parts-cost-whole Left c e = tt
  parts-cost-whole Unshown c e = absurd cc
  parts-cost-whole (GraphStep t inside next) c e =
      let x = plus-right (Some (entry_fires t)) (plus (cost inside) (steps_cost next)) c e in
      let a = plus-left (cost inside) (steps_cost next) x.0 x.1 in
      let b = plus-right (cost inside) (steps_cost next) x.0 x.1 in
      (cost-whole inside a.0 a.1, parts-cost-whole next b.0 b.1)
  parts-cost-whole (SliceStep cs next) c e =
      let a = plus-left (slices_cost cs) (steps_cost next) c e in
      let b = plus-right (slices_cost cs) (steps_cost next) c e in
      (slices-whole cs a.0 a.1, parts-cost-whole next b.0 b.1)

pub cost-below : (f g : Entered) → Grows f g → Below (cost f) (cost g)
cost-below f g h c e = sym (ap cost (whole-grows h (cost-whole f c e))) ∙ e

plus-below : (a b x y : Option ℕ) → Below a x → Below b y → Below (plus a b) (plus x y)
plus-below None b x y h k c e = absurd cc
plus-below (Some a) None x y h k c e = absurd cc
plus-below (Some a) (Some b) x y h k c e = ap (λ z. plus z y) (h a refl) ∙ (ap (plus (Some a)) (k b refl) ∙ e)

slice-cost-below : (body body' : List Carried → Entered) → ((ins : List Carried) → Grows (body ins) (body' ins)) → (rows : List (List Carried)) → Below (slice_cost body rows) (slice_cost body' rows)
slice-cost-below body body' h [] = λ c e. e
slice-cost-below body body' h (ins ∷ rows) =
    plus-below _ _ _ _ (plus-below (Some 1) (cost (body ins)) (Some 1) (cost (body' ins)) (λ c e. e) (cost-below (body ins) (body' ins) (h ins))) (slice-cost-below body body' h rows)

costs-grow : (f f' : List (List Carried) → Option ℕ) → ((rows : List (List Carried)) → Below (f rows) (f' rows)) → (cut : List (List (List Carried))) → GrowsCosts (map f cut) (map f' cut)
costs-grow f f' h [] = no_cost
costs-grow f f' h (rows ∷ cut) = go (f rows) (f' rows) (h rows) (costs-grow f f' h cut)
  where
    go : (o o' : Option ℕ) → Below o o' → GrowsCosts (map f cut) (map f' cut) → GrowsCosts (o ∷ map f cut) (o' ∷ map f' cut)
    go None o' b g = open_cost g
    go (Some n) o' b g = subst (λ x. GrowsCosts (Some n ∷ map f cut) (x ∷ map f' cut)) (sym (b n refl)) (known_cost g)

on-results-grow : {A : Type 0} (o o' : Option A) (f f' : A → Steps) → Below o o' → ((a : A) → GrowsSteps (f a) (f' a)) → GrowsSteps (on_results o f) (on_results o' f')
on-results-grow None o' f f' b h = deeper
on-results-grow (Some a) o' f f' b h = subst (λ x. GrowsSteps (f a) (on_results x f')) (sym (b a refl)) (h a)

abbrev GrowBelow : Grow → Grow → Type 0
GrowBelow grow grow' = (form : Form) (ks : List Carried) (next : Next) → GrowsSteps (grow form ks next) (grow' form ks next)

from-nothing : (v : Vertex) (p : Steps) (r r' : Entered) → Grows r r' → Grows (compound v Unshown r) (compound v p r')
from-nothing v Left r r' g = unknown g
from-nothing v Unshown r r' g = unknown g
from-nothing v (GraphStep t a q) r r' g = unknown g
from-nothing v (SliceStep cs q) r r' g = unknown g

compound-grows : (v : Vertex) (p p' : Steps) (r r' : Entered) → GrowsSteps p p' → Grows r r' → Grows (compound v p r) (compound v p' r')
compound-grows v p p' r r' leaves g = compound_grows empty leaves g
compound-grows v p p' r r' deeper g = from-nothing v p' r r' g
compound-grows v p p' r r' (part a q) g = compound_grows a q g
compound-grows v p p' r r' (slices c q) g = compound_grows empty (slices c q) g

parts-of-grow : (grow grow' : Grow) → GrowBelow grow grow' → (form : Form) (o o' : Option (List Carried)) → Below o o' → GrowsSteps (steps_of grow form o) (steps_of grow' form o')
parts-of-grow grow grow' h form None o' b = deeper
parts-of-grow grow grow' h form (Some ks) o' b = subst (λ x. GrowsSteps (steps_of grow form (Some ks)) (steps_of grow' form x)) (sym (b ks refl)) (h form ks (next_of (first form ks)))

node-grows : (grow grow' : Grow) → GrowBelow grow grow' → (v : Vertex) (k : Kind) (o o' : Option (List Carried)) → Below o o' → (r r' : Entered) → Grows r r' → Grows (node_tree grow v k o r) (node_tree grow' v k o' r')
node-grows grow grow' h v (Plain row shape) o o' b r r' g = simple g
node-grows grow grow' h v (Whole form) o o' b r r' g = compound-grows v _ _ r r' (parts-of-grow grow grow' h form o o' b) g

nodes-grow : (grow grow' : Grow) → GrowBelow grow grow' → (ks ks' : Vertex → Option (List Carried)) → ((v : Vertex) → Below (ks v) (ks' v)) → (vs : List Vertex) → Grows (nodes_tree grow ks vs) (nodes_tree grow' ks' vs)
nodes-grow grow grow' h ks ks' b [] = empty
nodes-grow grow grow' h ks ks' b (v ∷ vs) = node-grows grow grow' h v v.kind (ks v) (ks' v) (b v) _ _ (nodes-grow grow grow' h ks ks' b vs)

graph-grows : (grow grow' : Grow) → GrowBelow grow grow' → (of of' : Of) → OfBelow of of' → (ins : List Carried) (g : Net) → Grows (graph_tree grow of ins g) (graph_tree grow' of' ins g)
graph-grows grow grow' h of of' k ins g = nodes-grow grow grow' h (λ v. operands of g ins v.ins) (λ v. operands of' g ins v.ins) (λ v. operands-below of of' k g ins v.ins) g.nodes

module _ (cut : Cut) where
  parts-grow : (n m : ℕ) → n ≤ m → (u : Network) → GrowBelow (tree_from cut n u) (tree_from cut m u)
  parts-grow zero m le u form ks next = deeper
  parts-grow (suc n) zero le u form ks next = absurd (omega (arith, le))
  parts-grow (suc n) (suc m) le u form ks (Leave rs) = leaves
  parts-grow (suc n) (suc m) le u form ks (Enter t g ins stage) =
      part (graph-grows (tree_from cut n u) (tree_from cut m u) (parts-grow n m (omega (arith, le)) u) (of_node (leads_to n u)) (of_node (leads_to m u)) (node-below n m (omega (arith, le)) u) ins (u g))
      (on-results-grow (dem n u g ins) (dem m u g ins) _ _ (dem-below n m (omega (arith, le)) u g ins) (λ rs. parts-grow n m (omega (arith, le)) u form ks (follow form ks stage rs)))
  parts-grow (suc n) (suc m) le u form ks (Iterate g row rows ms) =
      slices (costs-grow _ _ (slice-cost-below _ _ (λ ins. graph-grows (tree_from cut n u) (tree_from cut m u) (parts-grow n m (omega (arith, le)) u) (of_node (leads_to n u)) (of_node (leads_to m u)) (node-below n m (omega (arith, le)) u) ins (u g))) (cut (row ∷ rows)))
      (on-results-grow (all (map (λ ins. dem n u g ins) (row ∷ rows))) (all (map (λ ins. dem m u g ins) (row ∷ rows))) _ _ (all-below (λ ins. dem n u g ins) (λ ins. dem m u g ins) (dem-below n m (omega (arith, le)) u g) (row ∷ rows)) (λ rs. parts-grow n m (omega (arith, le)) u form ks (gather form ks ms rs)))

  -- the tree grows with the depth
  pub tree-grows : (n m : ℕ) → n ≤ m → (u : Network) (g : ℕ) (ins : List Carried) → Grows (tree cut n u g ins) (tree cut m u g ins)
  tree-grows n m le u g ins =
      graph-grows (tree_from cut n u) (tree_from cut m u) (parts-grow n m le u) (of_node (leads_to n u)) (of_node (leads_to m u)) (node-below n m le u) ins (u g)
