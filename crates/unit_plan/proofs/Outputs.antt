-- How many outputs the nodes of a ready unit have, and that none but these are read.
use Rattle.std.proofs.Common.{◌≡◌, ℕ, zero, suc, ◌≤◌, List, [], ◌∷◌, map, length, option_map, Option, Some, None, Contains, refl, sym, ap, ◌∙◌, subst, arith}
use Rattle.std.specs.Prelude.{unwrap_or}
use Rattle.flow_value.specs.declared.operation.Scalar1.TheVariants as one
use Rattle.flow_value.specs.declared.operation.Scalar2.TheVariants as two
use Rattle.if1_graph.specs.declared.graph.Edge.{Edge}
use Rattle.if1_graph.specs.declared.graph.Graph.{Graph}
use Rattle.if1_graph.specs.declared.graph.Graph.TheViews.{out-Graph}
use Rattle.if1_graph.specs.declared.graph.Node.{Node, out-Node}
use Rattle.if1_graph.specs.declared.graph.Origin.TheVariants as origin
use Rattle.if1_graph.specs.declared.graph.Unit1.{Unit1}
use Rattle.if1_graph.specs.declared.op.Compound.{Compound}
use Rattle.if1_graph.specs.declared.op.Compound.TheVariants as compound
use Rattle.if1_graph.specs.declared.op.Simple.{Simple}
use Rattle.if1_graph.specs.declared.op.Simple.TheVariants as simple
use Rattle.if1_graph.specs.Formed.{IsOrigin}
use Rattle.if1_graph.specs.Ops.{compound_at, simple_at}
use Rattle.if1_graph.specs.Ports.{IsFilledAs, IsThere, IsUpTo, carried, count_from, fields_of, given_outputs, outputs, outputs_as, results_of}
use Rattle.if1_graph.specs.Ready.{IsReady}
use Rattle.if1_graph.specs.Rows.{row_of}
use Rattle.if1_graph.specs.Types.{Member}
use Rattle.if1_graph.specs.Typing.{FitsNode}
use Rattle.if1_graph.specs.Units.{Place, edge_into, label_of, number_of, places, results}
use Rattle.graph_meaning.specs.Demand.{EachNode, Fixed, Port, Source, Vertex, at_label}
use Rattle.graph_meaning.specs.Laws.{outputs_by}
use Rattle.graph_meaning.specs.Networks.{fields_shape, kind_as, kind_of, network, simple_kind, source_at, sources, vertex_of}
use Rattle.made_store.specs.OrderedMeaningOrders.{IsInOrder}
use Rattle.made_store.specs.Orders.{AreOutputs}
use Rattle.unit_laws.proofs.TypeLists.{out_rec}
use Rattle.unit_laws.proofs.TypedCalls.{called, callee-net, callee-there}
use Rattle.unit_laws.proofs.TypedEdges.{IsValueWant, edge-formed, edge-there, found-edge}
use Rattle.unit_laws.proofs.TypedNodes.{first-edge, node-filled, want-is, wanted-at}
use Rattle.unit_laws.proofs.TypedPlans.{results-are}
use Rattle.unit_plan.proofs.Found.{each-in-order, net-is, node-of}
use Rattle.unit_plan.proofs.Sources.{by-edge, in-ins, in-sources}
use Rattle.unit_plan.specs.Plans.{outputs_in}

-- ---- lengths

pub mapped-long : {A B : Type 0} (f : A → B) (xs : List A) → length (map f xs) ≡ length xs
mapped-long f [] = refl
mapped-long f (x ∷ xs) = ap suc (mapped-long f xs)

count-long : (first n : ℕ) → length (count_from first n) ≡ n
count-long first zero = refl
count-long first (suc n) = ap suc (count-long (suc first) n)

pub sources-long : (u : Unit1) (g : Graph) (l first n : ℕ) → length (sources u g l first n) ≡ n
sources-long u g l first n = mapped-long (source_at u g l) (count_from first n) ∙ count-long first n

module _ (u : Unit1) (ready : IsReady u) (p : Place) (place : Contains (places u) p) where
  -- a graph has as many results as it has ports
  pub results-long : length (network u (number_of p)).results ≡ results p.graph
  results-long = ap (λ n. length n.results) (net-is u ready p place) ∙ sources-long u p.graph 0 1 (results p.graph)

  module _ (n : Node) (inside : Contains (out-Graph p.graph).nodes n) where
    abbrev l : ℕ
    l = label_of n

    of-compound : (c : Compound) (o : Option Simple) → outputs_as u p.graph n (Some c) o ≡ Some (outputs_in u (kind_as u p.graph n (Some c) o))
    of-compound compound.Select o = refl
    of-compound compound.TagCase o = refl
    of-compound compound.LoopA o = refl
    of-compound compound.LoopB o = refl
    of-compound compound.ForAll o = refl

    of-call : compound_at (out-Node n).op ≡ None → simple_at (out-Node n).op ≡ Some simple.Call → given_outputs u p.graph l (row_of simple.Call).gives ≡ Some (outputs_in u (simple_kind u p.graph l simple.Call))
    of-call none is =
        let f = called u ready p place n inside is none in
        let there = callee-there u ready p place n inside is none in
        let net = callee-net u ready p place n inside is none in
        let count = results-are u ready _ there ∙ ap (λ o. unwrap_or (option_map length (results_of o)) (results f.function)) f.own in
        ap (λ o. option_map length (results_of o)) f.known ∙ ap Some (sym (ap (λ n. length n.results) net ∙ (sources-long u f.function 0 1 (results f.function) ∙ count)))

    fields-known : compound_at (out-Node n).op ≡ None → simple_at (out-Node n).op ≡ Some simple.RElements → (fs : List Member) × (fields_of (carried u p.graph l 1) ≡ Some fs)
    fields-known none is =
        let filled = subst (λ x. IsFilledAs u p.graph n None x) is (subst (λ c. IsFilledAs u p.graph n c (simple_at (out-Node n).op)) none (node-filled u ready p place n inside)) in
        let e = first-edge p.graph l 1 filled.ports 0 (omega arith) in
        let x = wanted-at u ready p place n inside 1 e.0 e.1 (subst (λ w. IsValueWant w) (sym (want-is u ready p place n inside 1 simple.RElements is)) tt) in
        let h = subst (λ y. FitsNode u p.graph l None y 1 x.sort) is (subst (λ c. FitsNode u p.graph l c (simple_at (out-Node n).op) 1 x.sort) none x.fits) in
        (h.0, ap fields_of (x.carries ∙ ap Some h.1) ∙ rw (out_rec h.0) refl)

    of-simple : (o : Simple) → compound_at (out-Node n).op ≡ None → simple_at (out-Node n).op ≡ Some o → given_outputs u p.graph l (row_of o).gives ≡ Some (outputs_in u (simple_kind u p.graph l o))
    of-simple (simple.One one.Neg) none is = refl
    of-simple (simple.One one.Abs) none is = refl
    of-simple (simple.One one.Not) none is = refl
    of-simple (simple.One one.Int) none is = refl
    of-simple (simple.One one.Bool) none is = refl
    of-simple (simple.One one.Char) none is = refl
    of-simple (simple.One one.IsError) none is = refl
    of-simple (simple.Two two.Plus) none is = refl
    of-simple (simple.Two two.Minus) none is = refl
    of-simple (simple.Two two.Times) none is = refl
    of-simple (simple.Two two.Div) none is = refl
    of-simple (simple.Two two.Mod) none is = refl
    of-simple (simple.Two two.Max) none is = refl
    of-simple (simple.Two two.Min) none is = refl
    of-simple (simple.Two two.Equal) none is = refl
    of-simple (simple.Two two.NotEqual) none is = refl
    of-simple (simple.Two two.Less) none is = refl
    of-simple (simple.Two two.LessEqual) none is = refl
    of-simple simple.Call none is = of-call none is
    of-simple simple.RElements none is = let f = fields-known none is in ap (option_map length) f.1 ∙ ap (λ o. Some (outputs_by (row_of simple.RElements).gives (fields_shape o))) (sym f.1)
    of-simple _ none is = refl

    pub outputs-known : outputs u p.graph n ≡ Some (outputs_in u (vertex_of u p.graph n).kind)
    outputs-known = go (compound_at (out-Node n).op) (simple_at (out-Node n).op) refl refl
      where
        go : (c : Option Compound) (o : Option Simple) → compound_at (out-Node n).op ≡ c → simple_at (out-Node n).op ≡ o → outputs_as u p.graph n c o ≡ Some (outputs_in u (kind_as u p.graph n c o))
        go (Some c) o e f = of-compound c o
        go None (Some o) e f = of-simple o e f
        go None None e f =
            absurd (subst (λ x. IsFilledAs u p.graph n None x) f (subst (λ c. IsFilledAs u p.graph n c (simple_at (out-Node n).op)) e (node-filled u ready p place n inside)))

  -- ---- what is read is there

  some-is : (a b : ℕ) → Some a ≡ Some b → a ≡ b
  some-is a b e = cc

  abbrev Reads : List Source → Type 0
  Reads os = AreOutputs (λ v. outputs_in u v.kind) (network u (number_of p)) os

  reads-more : (o : Source) (os : List Source) → Reads (o ∷ []) → Reads os → Reads (o ∷ os)
  reads-more (Fixed c) os a b = b
  reads-more (Port zero q) os a b = b
  reads-more (Port (suc l) q) os a b = (a.0, b)

  known-up : (o : Option ℕ) (n q : ℕ) → o ≡ Some n → IsUpTo o q → q ≤ n
  known-up None n q e h = absurd (let x : None ≡ Some n = e in cc)
  known-up (Some m) n q e h = let s = some-is m n e in omega (arith, s, h)

  some-node : (a b : Node) → Some a ≡ Some b → a ≡ b
  some-node a b e = cc

  edge-reads : (l port : ℕ) (e : Edge) → edge_into p.graph l port ≡ Some e → (m q : ℕ) → e.from ≡ origin.Port m q → Reads (Port m q ∷ [])
  edge-reads l port e is zero q from = tt
  edge-reads l port e is (suc m) q from = (at, tt)
    where
      at : (v : Vertex) → at_label (network u (number_of p)).nodes (suc m) ≡ Some v → (1 ≤ q) × (q ≤ outputs_in u v.kind)
      at v f =
          let x = node-of u ready p place (suc m) v f in
          let c = (found-edge u ready p place l port e is).0 in
          let t = subst (IsThere u p) from (edge-there u ready p place e c) in
          let o = subst (λ y. IsOrigin u p.graph e y) from (edge-formed u ready p place e c).source in
          let same : Some t.0 ≡ Some x.0 = sym t.1 ∙ x.2 in
          let y = outputs-known x.0 x.1 in
          (o.1.0, subst (λ z. q ≤ outputs_in u z.kind) (sym x.3) (known-up (outputs u p.graph x.0) (outputs_in u (vertex_of u p.graph x.0).kind) q y (subst (λ z. IsUpTo (outputs u p.graph z) q) (some-node t.0 x.0 same) t.2)))

  source-reads : (l port : ℕ) → Reads (source_at u p.graph l port ∷ [])
  source-reads l port = by-edge Reads tt reads-more u p.graph l port (λ c. tt) (edge-reads l port)

  -- nodes and results read outputs that are there
  pub nodes-read : (vs : List Vertex) → IsInOrder (network u (number_of p)) vs → EachNode (λ v. AreOutputs (λ v. outputs_in u v.kind) (network u (number_of p)) v.ins) vs
  nodes-read vs order = each-in-order u ready p place (λ v. Reads v.ins) (λ n c. in-ins Reads tt reads-more u p.graph (label_of n) (kind_of u p.graph n) (λ port le. source-reads (label_of n) port)) vs order

  pub results-read : AreOutputs (λ v. outputs_in u v.kind) (network u (number_of p)) (network u (number_of p)).results
  results-read = subst (λ n. Reads n.results) (sym (net-is u ready p place)) (in-sources Reads tt reads-more u p.graph 0 1 (results p.graph) (λ port le. source-reads 0 port))
