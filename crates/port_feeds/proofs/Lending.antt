-- Which part of a compound node owns what, and so which port lends an input of a part.
use Rattle.std.proofs.Common.{◌≡◌, ◌∙◌, ◌≤◌, ◌&&◌, ◌==◌, ℕ, zero, suc, Bool, true, false, List, [], map, slice_get, slice_index_or, option_map, option_and_then, if◌then◌else◌, Option, Some, None, AllPairs, Contains, refl, sym, ap, subst, arith}
use Rattle.std.proofs.lemmas.List.Elements.{All-contains}
use Rattle.std.proofs.lemmas.Option.{get_or_from_slice_get, slice_get-map}
use Rattle.if1_graph.specs.declared.graph.Edge.{Edge}
use Rattle.if1_graph.specs.declared.graph.Graph.{Graph}
use Rattle.if1_graph.specs.declared.graph.Graph.TheViews.{out-Graph}
use Rattle.if1_graph.specs.declared.graph.Node.{Node, out-Node}
use Rattle.if1_graph.specs.declared.graph.Origin.TheVariants as origin
use Rattle.if1_graph.specs.declared.graph.Unit1.{Unit1}
use Rattle.if1_graph.specs.declared.op.Compound.{Compound}
use Rattle.if1_graph.specs.declared.op.Part.{Part}
use Rattle.if1_graph.specs.declared.op.Part.TheVariants as part
use Rattle.if1_graph.specs.Formed.{IsFormed, IsGraph, IsNode}
use Rattle.if1_graph.specs.Normal.{IsNormal, IsNormalGraph, Precedes}
use Rattle.if1_graph.specs.Ops.{compound_at, simple_at}
use Rattle.if1_graph.specs.Parts.{part_at}
use Rattle.if1_graph.specs.Ports.{part_of}
use Rattle.if1_graph.specs.Tables.{◌>>=◌}
use Rattle.if1_graph.specs.Units.{Inside, Place, edge_into, label_of, node_at, number_of, places, width}
use Rattle.if1_ports.proofs.Right.{node_found}
use Rattle.if1_marks.specs.Aggregates.{is_aggregate}
use Rattle.if1_marks.specs.Given.{called, consumes, consumes_node, is_call_as, is_consumed_by, is_consuming, is_given_to_called}
use Rattle.if1_marks.specs.Owned.{is_owned, is_owned_as, is_owned_in}
use Rattle.if1_marks.proofs.Lent.{are-lent}
use Rattle.if1_marks.proofs.Tests.{same-number}
use Rattle.graph_meaning.proofs.Lists.{found-in}
use Rattle.unit_laws.proofs.TypedNodes.{port-filled, width-over}
use Rattle.storage_flags.specs.Flags.{AreRows, consumers_of}
use Rattle.port_feeds.specs.Found.{if_leading}
use Rattle.port_feeds.specs.Lenders.{aggregate_from, does_own, input_lender, port_left, unless_owned, IsNodeIn}
use Rattle.port_feeds.proofs.Search.{leading-is}

no-lender : (b : Bool) → unless_owned b None ≡ None
no-lender true = refl
no-lender false = refl

-- ---- what a part owns of the node's inputs

abbrev second : Option (Compound × Part) → Option Part
second None = None
second (Some cp) = Some cp.1

module _ (u : Unit1) (outer : Graph) (n : Node) (k port : ℕ) (g : Graph) (within : port ≤ width outer (label_of n)) where
  in-part : (c : Compound) (x : Part) → part_of n k ≡ Some (c, x) → is_owned_in u outer n g c x port ≡ (does_own (Some x) && is_consumed_by u n port)
  in-part c part.Selector e = refl
  in-part c part.Alternative e = refl
  in-part c part.Arm e = refl
  in-part c part.Generator e = refl
  in-part c part.Initialization e = refl
  in-part c part.Test e = refl
  in-part c part.Body e = sym (ap (λ o. is_owned_as u outer n g o port) e) ∙ (are-lent u g port).kept outer n k (c, part.Body) e tt within
  in-part c part.Returns e = sym (ap (λ o. is_owned_as u outer n g o port) e) ∙ (are-lent u g port).kept outer n k (c, part.Returns) e tt within

  owned-by : (o : Option (Compound × Part)) → part_of n k ≡ o → is_owned_as u outer n g o port ≡ (does_own (second o) && is_consumed_by u n port)
  owned-by None e = refl
  owned-by (Some cp) e = in-part cp.0 cp.1 e

  owned-is : is_owned u (record { graph = g; home = Inside outer n k }) (origin.Port 0 port) ≡ (does_own (second (part_of n k)) && is_consumed_by u n port)
  owned-is = owned-by (part_of n k) refl

-- ---- what an edge into a node is told to consume

by-label : (u : Unit1) (g : Graph) (n : Node) (m port : ℕ) → 1 ≤ m → node_at (out-Graph g).nodes m ≡ Some n → consumes u g m port ≡ consumes_node u g (Some n) port
by-label u g n zero port h e = absurd (omega (arith, h))
by-label u g n (suc m) port h e = ap (λ o. consumes_node u g o port) e

by-compound : (u : Unit1) (g : Graph) (n : Node) (c : Compound) (port : ℕ) → compound_at (out-Node n).op ≡ Some c → consumes_node u g (Some n) port ≡ is_consumed_by u n port
by-compound u g n c port is =
    ap (λ b. if b then is_given_to_called u (called u g (label_of n)) port else is_consumed_by u n port) (ap (λ o. is_call_as o (simple_at (out-Node n).op)) is)

-- the part at a place, of a node that may be none of compounds
part-by : (o : Option Compound) (k : ℕ) → (o >>= λ c. part_at c k) ≡ second (o >>= λ c. part_at c k >>= λ x. Some (c, x))
part-by None k = refl
part-by (Some c) k = go (part_at c k)
  where
    go : (p : Option Part) → p ≡ second (p >>= λ x. Some (c, x))
    go None = refl
    go (Some x) = refl

module _ (u : Unit1) (formed : IsFormed u) (normal : IsNormal u) (p : Place) (there : Contains (places u) p) (n : Node) (inside : Contains (out-Graph p.graph).nodes n) (k port : ℕ) (g : Graph) where
  abbrev l : ℕ
  l = label_of n

  abbrev here : Place
  here = record { graph = g; home = Inside p.graph n k }

  graph-at : IsGraph u p
  graph-at = All-contains (IsGraph u) (places u) p formed.graphs there

  labelled : 1 ≤ l
  labelled = (All-contains IsNode (out-Graph p.graph).nodes n graph-at.nodes inside).label.0

  found : node_at (out-Graph p.graph).nodes l ≡ Some n
  found = node_found (out-Graph p.graph).nodes n (All-contains (IsNormalGraph u) (places u) p normal there).nodes inside

  -- where the node has parts, the edge tells whether the node consumes
  tells : (o : Option Compound) → compound_at (out-Node n).op ≡ o → (does_own (o >>= λ c. part_at c k) && consumes u p.graph l port) ≡ (does_own (o >>= λ c. part_at c k) && is_consumed_by u n port)
  tells None e = refl
  tells (Some c) e = ap (λ b. does_own (part_at c k) && b) (by-label u p.graph n l port labelled found ∙ by-compound u p.graph n c port e)

  module _ (e : Edge) (at : edge_into p.graph l port ≡ Some e) where
    ends : (e.node ≡ l) × (e.port ≡ port)
    ends = go (e.node == l) (e.port == port) refl refl (found-in (λ x. (x.node == l) && (x.port == port)) (out-Graph p.graph).edges e at).1
      where
        go : (a b : Bool) → (e.node == l) ≡ a → (e.port == port) ≡ b → a && b ≡ true → (e.node ≡ l) × (e.port ≡ port)
        go true true x y h = (same-number e.node l x, same-number e.port port y)
        go true false x y h = absurd cc
        go false b x y h = absurd cc

    consuming : is_aggregate u.types e.ty ≡ true → is_consuming u p.graph e ≡ consumes u p.graph l port
    consuming a = ap (λ b. b && consumes u p.graph e.node e.port) a ∙ (ap (λ m. consumes u p.graph m e.port) ends.0 ∙ ap (consumes u p.graph l) ends.1)

    owns : (b : Bool) → (is_aggregate u.types e.ty ≡ true → b ≡ is_consuming u p.graph e) → is_aggregate u.types e.ty ≡ true → (does_own (compound_at (out-Node n).op >>= λ c. part_at c k) && b) ≡ is_owned u here (origin.Port 0 port)
    owns b is a =
        ap (λ b. does_own (compound_at (out-Node n).op >>= λ c. part_at c k) && b) (is a ∙ consuming a)
        ∙ (tells (compound_at (out-Node n).op) refl
        ∙ (ap (λ x. does_own x && is_consumed_by u n port) (part-by (compound_at (out-Node n).op) k)
        ∙ sym (owned-is u p.graph n k port g (width-over p.graph l port (port-filled p.graph l port e at)))))

    lent-by : (b : Bool) → b ≡ is_consuming u p.graph e → (a : Bool) → is_aggregate u.types e.ty ≡ a
        → unless_owned (does_own (compound_at (out-Node n).op >>= λ c. part_at c k) && b) (aggregate_from u.types (Some e)) ≡ unless_owned (is_owned u here (origin.Port 0 port)) (aggregate_from u.types (Some e))
    lent-by b is true a = ap (λ o. unless_owned o (aggregate_from u.types (Some e))) (owns b (λ h. is) a)
    lent-by b is false a =
        let none = ap (λ (c : Bool). if c then port_left e.from else None) a in
        ap (unless_owned (does_own (compound_at (out-Node n).op >>= λ c. part_at c k) && b)) none
        ∙ (no-lender (does_own (compound_at (out-Node n).op >>= λ c. part_at c k) && b)
        ∙ (sym (no-lender (is_owned u here (origin.Port 0 port))) ∙ sym (ap (unless_owned (is_owned u here (origin.Port 0 port))) none)))

  lent-at : (o : Option Edge) (rows : List (List Bool)) (i : ℕ) → AreRows u (consumers_of u) rows → option_and_then (if_leading l port) (slice_get (out-Graph p.graph).edges i) ≡ o → edge_into p.graph l port ≡ o
      → unless_owned (does_own (compound_at (out-Node n).op >>= λ c. part_at c k) && slice_index_or (slice_index_or rows (number_of p) []) i false) (aggregate_from u.types o) ≡ unless_owned (is_owned u here (origin.Port 0 port)) (aggregate_from u.types o)
  lent-at None rows i are is at =
      no-lender (does_own (compound_at (out-Node n).op >>= λ c. part_at c k) && slice_index_or (slice_index_or rows (number_of p) []) i false) ∙ sym (no-lender (is_owned u here (origin.Port 0 port)))
  lent-at (Some e) rows i are is at =
      let stands = leading-is l port (slice_get (out-Graph p.graph).edges i) e is in
      let flag =
      ap (λ (r : List Bool). slice_index_or r i false) (are p there)
      ∙ get_or_from_slice_get (map (is_consuming u p.graph) (out-Graph p.graph).edges) i (is_consuming u p.graph e) false (slice_get-map (is_consuming u p.graph) (out-Graph p.graph).edges i ∙ ap (option_map (is_consuming u p.graph)) stands) in
      lent-by e at (slice_index_or (slice_index_or rows (number_of p) []) i false) flag (is_aggregate u.types e.ty) refl

  lender-is : (o : Option Edge) (rows : List (List Bool)) (i : ℕ) → AreRows u (consumers_of u) rows → option_and_then (if_leading l port) (slice_get (out-Graph p.graph).edges i) ≡ o → edge_into p.graph l port ≡ o
      → unless_owned (does_own (compound_at (out-Node n).op >>= λ c. part_at c k) && slice_index_or (slice_index_or rows (number_of p) []) i false) (aggregate_from u.types o) ≡ input_lender u here port
  lender-is o rows i are is at = lent-at o rows i are is at ∙ ap (λ o. unless_owned (is_owned u here (origin.Port 0 port)) (aggregate_from u.types o)) (sym at)

-- for a graph that is one of the unit's
module _ (u : Unit1) (formed : IsFormed u) (normal : IsNormal u) (outer : Graph) (n : Node) (of : IsNodeIn u outer n) where
  pub in-order : AllPairs Precedes (out-Graph outer).edges
  in-order = subst (λ h. AllPairs Precedes (out-Graph h).edges) of.2 (All-contains (IsNormalGraph u) (places u) of.0 normal of.1).edges

  abbrev Lends : Graph → (k port : ℕ) → Graph → List (List Bool) → (i : ℕ) → Type 0
  Lends outer k port g rows i =
      unless_owned (does_own (compound_at (out-Node n).op >>= λ c. part_at c k) && slice_index_or (slice_index_or rows (out-Graph outer).number []) i false) (aggregate_from u.types (edge_into outer (label_of n) port))
      ≡ input_lender u (record { graph = g; home = Inside outer n k }) port

  pub lends : (k port : ℕ) (g : Graph) (rows : List (List Bool)) (i : ℕ) → AreRows u (consumers_of u) rows → option_and_then (if_leading (label_of n) port) (slice_get (out-Graph outer).edges i) ≡ edge_into outer (label_of n) port → Lends outer k port g rows i
  lends k port g rows i are at =
      subst (λ h. Contains (out-Graph h).nodes n → option_and_then (if_leading (label_of n) port) (slice_get (out-Graph h).edges i) ≡ edge_into h (label_of n) port → Lends h k port g rows i) of.2
      (λ inside at. lender-is u formed normal of.0 of.1 n inside k port g (edge_into (of.0).graph (label_of n) port) rows i are at refl) of.3 at
