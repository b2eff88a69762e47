-- The graphs of a ready unit by their numbers, and their nodes in an order.
use Rattle.std.proofs.Common.{◌≡◌, ◌==◌, ℕ, suc, ◌<◌, ◌≤◌, cond, Bool, true, false, List, [], ◌∷◌, find, slice_get, option_map, Option, Some, None, ◌⊎◌, inl, inr, Contains, refl, sym, ap, ◌∙◌, subst, arith}
use Rattle.std.proofs.lemmas.Bool.{eq-eqb}
use Rattle.if1_graph.specs.declared.graph.Graph.{Graph}
use Rattle.if1_graph.specs.declared.graph.Graph.TheViews.{out-Graph}
use Rattle.if1_graph.specs.declared.graph.Node.{Node, out-Node}
use Rattle.if1_graph.specs.declared.graph.Unit1.{Unit1}
use Rattle.if1_graph.specs.declared.op.Compound.{Compound}
use Rattle.if1_graph.specs.declared.op.Part.{Part}
use Rattle.if1_graph.specs.Formed.{IsFormed}
use Rattle.if1_graph.specs.Ports.{part_of}
use Rattle.if1_graph.specs.Ready.{IsReady}
use Rattle.if1_graph.specs.Units.{Function, Inside, Place, label_of, node_at, number_of, places, sizes}
use Rattle.graph_meaning.proofs.Tests.{no-both, same-number}
use Rattle.graph_meaning.proofs.Lists.{found-in, here-or-there, in-none}
use Rattle.graph_meaning.proofs.Numbers.{numbers-own, one-place}
use Rattle.graph_meaning.proofs.Units.{at-node}
use Rattle.graph_meaning.specs.Demand.{EachNode, Vertex, at_label}
use Rattle.graph_meaning.specs.Networks.{net_of, network, vertex_of}
use Rattle.made_store.specs.OrderedMeaningOrders.{IsInOrder}
use Rattle.unit_laws.proofs.TypedEdges.{graph-formed}
use Rattle.unit_laws.proofs.TypedNodes.{node-found}
use Rattle.unit_laws.proofs.TypedPlans.{net-found, part-place}
use Rattle.unit_plan.specs.Plans.{place_of, plain_as, plain_in, plain_of}
use Rattle.unit_plan.specs.Shares.{kind_or, kind_there}

-- what is in a list and passes is found there, or something before it
pub find-there : {A : Type 0} (test : A → Bool) (xs : List A) (x : A) → Contains xs x → test x ≡ true → (y : A) × (find test xs ≡ Some y)
find-there test [] x h t = in-none x h
find-there test (y ∷ xs) x h t = go (test y) refl (here-or-there y xs x h) (λ later. find-there test xs x later t)
  where
    go : (b : Bool) → test y ≡ b → (y ≡ x) ⊎ Contains xs x → (Contains xs x → (z : _) × (find test xs ≡ Some z)) → (z : _) × (cond b (Some y) (find test xs) ≡ Some z)
    go true e h rest = (y, refl)
    go false e (inl same) rest = absurd (no-both (test y) (ap test same ∙ t) e)
    go false e (inr later) rest = rest later

-- ---- places

pub place-found : (u : Unit1) → IsFormed u → (p : Place) → Contains (places u) p → place_of u (number_of p) ≡ Some p
place-found u formed p h =
    let x = find-there (λ q. number_of q == number_of p) (places u) p h (eq-eqb (number_of p) (number_of p) refl) in
    let y = found-in (λ q. number_of q == number_of p) (places u) x.0 x.1 in
    x.1 ∙ ap Some (one-place u formed x.0 p y.0 h (same-number (number_of x.0) (number_of p) y.1))

-- numbers are from 1 to the count of graphs
pub number-within : (u : Unit1) → IsFormed u → (p : Place) → Contains (places u) p → (1 ≤ number_of p) × (number_of p < suc (sizes u.graphs))
number-within u formed p h =
    let a = (numbers-own u formed).above p h in
    let b = (numbers-own u formed).below p h in
    (a, omega (arith, b))

module _ (u : Unit1) (ready : IsReady u) (p : Place) (place : Contains (places u) p) where
  abbrev g : ℕ
  g = number_of p

  abbrev nodes : List Node
  nodes = (out-Graph p.graph).nodes

  pub net-is : network u (number_of p) ≡ net_of u p.graph
  net-is = net-found u ready p place

  -- a node that is found by its label is one of the graph's
  pub record IsNodeOf (v : Vertex) : Type 0 where
    pub node : Node
    pub there : Contains (out-Graph p.graph).nodes node
    pub found : node_at (out-Graph p.graph).nodes v.label ≡ Some node
    pub same : v ≡ vertex_of u p.graph node

  pub node-of : (l : ℕ) (v : Vertex) → at_label (network u (number_of p)).nodes l ≡ Some v → (n : Node) × Contains (out-Graph p.graph).nodes n × (node_at (out-Graph p.graph).nodes l ≡ Some n) × (v ≡ vertex_of u p.graph n)
  node-of l v e = go (node_at nodes l) refl (sym (at-node u p.graph nodes l) ∙ (sym (ap (λ n. at_label n.nodes l) net-is) ∙ e))
    where
      some-same : (a b : Vertex) → Some a ≡ Some b → a ≡ b
      some-same a b e = cc

      go : (o : Option Node) → node_at nodes l ≡ o → option_map (vertex_of u p.graph) o ≡ Some v → (n : Node) × Contains nodes n × (node_at nodes l ≡ Some n) × (v ≡ vertex_of u p.graph n)
      go None f h = absurd (let x : None ≡ Some v = h in cc)
      go (Some n) f h = (n, (found-in (λ m. label_of m == l) nodes n f).0, f, sym (some-same (vertex_of u p.graph n) v h))

  -- what holds of each node of the graph holds of each in an order
  pub each-in-order : (Q : Vertex → Type 0) → ((n : Node) → Contains (out-Graph p.graph).nodes n → Q (vertex_of u p.graph n)) → (vs : List Vertex) → IsInOrder (network u (number_of p)) vs → EachNode Q vs
  each-in-order Q f vs order = go vs order.nodes
    where
      go : (ws : List Vertex) → EachNode (λ v. (v.label ≡ 0 → ⊥) × (at_label (network u (number_of p)).nodes v.label ≡ Some v)) ws → EachNode Q ws
      go [] h = tt
      go (w ∷ ws) h = let x = node-of w.label w h.0.1 in (subst Q (sym x.3) (f x.0 x.1), go ws h.1)

  module _ (n : Node) (inside : Contains (out-Graph p.graph).nodes n) where
    -- a node of the graph is found by its label
    pub at-own : at_label (network u (number_of p)).nodes (label_of n) ≡ Some (vertex_of u p.graph n)
    at-own = ap (λ x. at_label x.nodes (label_of n)) net-is ∙ (at-node u p.graph nodes (label_of n) ∙ ap (option_map (vertex_of u p.graph)) (node-found u ready p place n inside))

    -- and does what it does there
    pub own-kind : kind_there (network u (number_of p)) (vertex_of u p.graph n) ≡ (vertex_of u p.graph n).kind
    own-kind = ap (kind_or (vertex_of u p.graph n).kind) at-own

    -- ---- its parts

    module _ (k : ℕ) (s : Graph) (e : slice_get (out-Node n).subs k ≡ Some s) where
      abbrev at_part : Place
      at_part = record { graph = s; home = Inside p.graph n k }

      pub part-in : Contains (places u) (record { graph = s; home = Inside p.graph n k })
      part-in = part-place u ready p place n inside k s e

      -- its number is greater
      pub part-rises : (number_of p < (out-Graph s).number) × ((out-Graph s).number < suc (sizes u.graphs))
      part-rises =
          let a = (graph-formed u ready at_part part-in).number in
          let b = (number-within u ready.formed at_part part-in).1 in
          (omega (arith, a), b)

      pub part-found : place_of u (out-Graph s).number ≡ Some (record { graph = s; home = Inside p.graph n k })
      part-found = place-found u ready.formed at_part part-in

      module _ (c : Compound) (x : Part) (is : part_of n k ≡ Some (c, x)) where
        pub part-plain : plain_of u (out-Graph s).number ≡ plain_as p.graph n (Some (c, x))
        part-plain = ap plain_in part-found ∙ ap (plain_as p.graph n) is

-- a function is no returns
pub function-plain : (u : Unit1) → IsReady u → (k : ℕ) (f : Graph) → Contains (places u) (record { graph = f; home = Function k }) → plain_of u (out-Graph f).number ≡ None
function-plain u ready k f h = ap plain_in (place-found u ready.formed (record { graph = f; home = Function k }) h)
