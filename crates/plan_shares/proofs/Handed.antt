-- What a node hands to its parts by marks, and what its parts own.
use Rattle.std.proofs.Common.{◌≡◌, ℕ, zero, suc, ◌≤◌, ◌&&◌, ◌||◌, not, if◌then◌else◌, Bool, true, false, List, find, Option, Some, None, Contains, refl, sym, ap, ◌∙◌, subst, arith, ◌==◌}
use Rattle.std.specs.Prelude.{slice_get}
use Rattle.std.proofs.lemmas.List.Elements.{All-contains}
use Rattle.if1_graph.specs.declared.graph.Edge.{Edge}
use Rattle.if1_graph.specs.declared.graph.Graph.{Graph}
use Rattle.if1_graph.specs.declared.graph.Graph.TheViews.{out-Graph}
use Rattle.if1_graph.specs.declared.graph.Node.{Node, out-Node}
use Rattle.if1_graph.specs.declared.graph.Unit1.{Unit1}
use Rattle.if1_graph.specs.declared.op.Compound.{Compound}
use Rattle.if1_graph.specs.Formed.{IsGraph}
use Rattle.if1_graph.specs.Ops.{compound_at, simple_at}
use Rattle.if1_graph.specs.Ports.{part_of}
use Rattle.if1_graph.specs.Ready.{IsReady}
use Rattle.if1_graph.specs.Units.{IsNumbered, Inside, Place, edge_into, label_of, node_at, number_of, places}
use Rattle.if1_marks.proofs.Tests.{both-left, both-right, no-both}
use Rattle.if1_marks.specs.Given.{consumes, consumes_node, is_call, is_call_as, is_consumed_by, is_given_to_called, called, is_used_inside}
use Rattle.if1_marks.specs.Owned.{is_input_owned, is_owned_as}
use Rattle.if1_marks.specs.Sound.{AreMarksRight, IsSound, IsTakerRight}
use Rattle.graph_meaning.proofs.Lists.{found-in}
use Rattle.graph_meaning.proofs.Units.{same-number}
use Rattle.graph_meaning.specs.Networks.{number_or_zero, part as part_number}
use Rattle.graph_meaning.specs.Storage.{is_left}
use Rattle.graph_meaning.specs.StorageUnits.{carries_aggregate, in_graph, storage_of, takes, test_in}
use Rattle.made_store.specs.Marks.{owned_in, owned_inputs}
use Rattle.unit_laws.proofs.TypedEdges.{node-formed}
use Rattle.unit_laws.proofs.TypedNodes.{node-found}
use Rattle.unit_laws.proofs.TypedPlans.{part-place}
use Rattle.plan_shares.proofs.Homes.{places-found}
use Rattle.plan_shares.proofs.Inputs.{IsPassedOn, consumed-carried}
use Rattle.plan_shares.specs.Parts.{is_handed, is_read_in}

-- ---- tests of a graph by its number

module _ (u : Unit1) (ready : IsReady u) where
  module _ (p : Place) (place : Contains (places u) p) where
    found : find (λ q. number_of q == number_of p) (places u) ≡ Some p
    found = places-found u p ready.formed place

    pub test-at : (test : Graph → Bool) → in_graph u (number_of p) test ≡ test p.graph
    test-at test = ap (λ o. test_in o test) found

    pub owned-at : (port : ℕ) → owned_inputs u (number_of p) port ≡ is_input_owned u p.graph p.home port
    owned-at port = ap (λ o. owned_in u o port) found

  -- no graph has number 0
  not-numbered : (o : Option Place) → find (λ q. number_of q == 0) (places u) ≡ o → o ≡ None
  not-numbered None e = refl
  not-numbered (Some q) e =
      let x = found-in (λ q. number_of q == 0) (places u) q e in
      let zero : number_of q ≡ 0 = same-number (number_of q) 0 x.1 in
      let n : IsNumbered u q = (All-contains (IsGraph u) (places u) q ready.formed.graphs x.0).number in
      absurd (omega (arith, zero, n))

  pub none-zero : find (λ q. number_of q == 0) (places u) ≡ None
  none-zero = not-numbered (find (λ q. number_of q == 0) (places u)) refl

  zero-owns : (port : ℕ) → owned_inputs u 0 port ≡ false
  zero-owns port = ap (λ o. owned_in u o port) none-zero

  zero-reads : (port : ℕ) → is_read_in u 0 port ≡ false
  zero-reads port = ap (λ o. test_in o (λ h. is_used_inside h port)) none-zero

  -- ---- parts of a node

  module _ (p : Place) (place : Contains (places u) p) (n : Node) (inside : Contains (out-Graph p.graph).nodes n) where
    abbrev subs : List Graph
    subs = (out-Node n).subs

    pub graph-owns : (k : ℕ) (s : Graph) → slice_get subs k ≡ Some s → (port : ℕ) → owned_inputs u (out-Graph s).number port ≡ is_owned_as u p.graph n s (part_of n k) port
    graph-owns k s at port = owned-at (record { graph = s; home = Inside p.graph n k }) (part-place u ready p place n inside k s at) port

    pub part-owns : (k port : ℕ) → owned_inputs u (part_number subs k) port ≡ true → (s : Graph) × (slice_get subs k ≡ Some s) × (is_owned_as u p.graph n s (part_of n k) port ≡ true)
    part-owns k port e = go (slice_get subs k) refl e
      where
        go : (o : Option Graph) → slice_get subs k ≡ o → owned_inputs u (number_or_zero o) port ≡ true → (s : Graph) × (slice_get subs k ≡ Some s) × (is_owned_as u p.graph n s (part_of n k) port ≡ true)
        go None at e = absurd (no-both (owned_inputs u 0 port) e (zero-owns port))
        go (Some s) at e = (s, at, sym (graph-owns k s at port) ∙ e)

    pub part-reads : (k port : ℕ) → is_read_in u (part_number subs k) port ≡ true → (s : Graph) × (slice_get subs k ≡ Some s) × (is_used_inside s port ≡ true)
    part-reads k port e = go (slice_get subs k) refl e
      where
        go : (o : Option Graph) → slice_get subs k ≡ o → is_read_in u (number_or_zero o) port ≡ true → (s : Graph) × (slice_get subs k ≡ Some s) × (is_used_inside s port ≡ true)
        go None at e = absurd (no-both (is_read_in u 0 port) e (zero-reads port))
        go (Some s) at e = (s, at, sym (test-at (record { graph = s; home = Inside p.graph n k }) (part-place u ready p place n inside k s at) (λ h. is_used_inside h port)) ∙ e)

    -- ---- what a compound node is given

    consumes-labelled : (l port : ℕ) → 1 ≤ l → consumes u p.graph l port ≡ consumes_node u p.graph (node_at (out-Graph p.graph).nodes l) port
    consumes-labelled zero port le = absurd (omega (arith, le))
    consumes-labelled (suc l) port le = refl

    pub consumes-here : (port : ℕ) → consumes u p.graph (label_of n) port ≡ consumes_node u p.graph (Some n) port
    consumes-here port = consumes-labelled (label_of n) port (node-formed u ready p place n inside).label.0 ∙ ap (λ o. consumes_node u p.graph o port) (node-found u ready p place n inside)

    module _ (c : Compound) (is : compound_at (out-Node n).op ≡ Some c) (port : ℕ) where
      no-call : is_call n ≡ false
      no-call = ap (λ o. is_call_as o (simple_at (out-Node n).op)) is

      pub given-is : (storage_of u).is_given (number_of p) (label_of n) port ≡ is_consumed_by u n port
      given-is =
          test-at p place (λ g. consumes u g (label_of n) port)
          ∙ (consumes-here port ∙ ap (λ b. if b then is_given_to_called u (called u p.graph (label_of n)) port else is_consumed_by u n port) no-call)

      handed : (a b c : Bool) → a ≡ true → b ≡ true → (a && (b && not c)) || c ≡ true
      handed true true true e f = refl
      handed true true false e f = refl
      handed a false c e f = absurd cc
      handed false b c e f = absurd cc

      -- what it consumes it hands on
      pub hands-on : IsPassedOn c port → is_consumed_by u n port ≡ true → is_handed u (number_of p) (label_of n) port ≡ true
      hands-on h e =
          handed ((storage_of u).is_given (number_of p) (label_of n) port) ((storage_of u).is_aggregate (number_of p) (label_of n) port) ((storage_of u).is_taken (number_of p) (label_of n) port)
          (given-is ∙ e) (test-at p place (λ g. carries_aggregate u (edge_into g (label_of n) port)) ∙ consumed-carried u ready p place n inside port c is h e)

  -- ---- what takes

  module _ (sound : IsSound u) (p : Place) (place : Contains (places u) p) where
    taken-consumed : (l port : ℕ) (o : Option Edge) → edge_into p.graph l port ≡ o → takes o ≡ true → consumes u p.graph l port ≡ true
    taken-consumed l port None f t = absurd cc
    taken-consumed l port (Some e) f t =
        let x = found-in (λ e. (e.node == l) && (e.port == port)) (out-Graph p.graph).edges e f in
        let right = All-contains (λ e. e.takes ≡ true → IsTakerRight u p e) (out-Graph p.graph).edges e (All-contains (AreMarksRight u) (places u) p sound place).takers x.0 t in
        let eaten = consumed-by e right in
        subst (λ m. consumes u p.graph m port ≡ true) (same-number e.node l (both-left (e.node == l) (e.port == port) x.1))
        (subst (λ q. consumes u p.graph e.node q ≡ true) (same-number e.port port (both-right (e.node == l) (e.port == port) x.1)) eaten)
      where
        consumed-by : (e : Edge) → IsTakerRight u p e → consumes u p.graph e.node e.port ≡ true
        consumed-by e right = both-right _ (consumes u p.graph e.node e.port) right.may.0

    pub taken-given : (l port : ℕ) → (storage_of u).is_taken (number_of p) l port ≡ true → (storage_of u).is_given (number_of p) l port ≡ true
    taken-given l port t =
        test-at p place (λ g. consumes u g l port)
        ∙ taken-consumed l port (edge_into p.graph l port) refl (sym (test-at p place (λ g. takes (edge_into g l port))) ∙ t)

    handed-given : (a b c : Bool) → (c ≡ true → a ≡ true) → (a && b) || c ≡ true → a ≡ true
    handed-given true b c h e = refl
    handed-given false b true h e = h refl
    handed-given false b false h e = absurd cc

    -- what a compound node hands on it consumes
    pub handed-consumed : (n : Node) → Contains (out-Graph p.graph).nodes n → (c : Compound) → compound_at (out-Node n).op ≡ Some c → (port : ℕ) → is_handed u (number_of p) (label_of n) port ≡ true → is_consumed_by u n port ≡ true
    handed-consumed n inside c is port e =
        sym (given-is p place n inside c is port)
        ∙ handed-given ((storage_of u).is_given (number_of p) (label_of n) port) (is_left (storage_of u) (number_of p) (label_of n) port) ((storage_of u).is_taken (number_of p) (label_of n) port) (taken-given (label_of n) port) e
