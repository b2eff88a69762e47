-- What the ports of a graph of a translated unit carry, by the lowered graph.
use Rattle.std.proofs.Common.{◌≡◌, ℕ, zero, suc, ◌+◌, ◌<◌, inl, inr, cond, List, [], ◌∷◌, ◌++◌, slice_get, Option, Some, None, refl, sym, ap, subst, ◌∙◌, arith}
use Rattle.std.specs.Prelude.{All, find, IsSome}
use Rattle.std.proofs.lemmas.Bool.Decides.{eqb_tells}
use Rattle.std.proofs.lemmas.List.Elements.{All-head, All-tail}
use Rattle.if1_graph.specs.declared.graph.Edge.{Edge}
use Rattle.if1_graph.specs.declared.graph.Graph.{Graph}
use Rattle.if1_graph.specs.declared.graph.Graph.TheViews.{out-Graph}
use Rattle.if1_graph.specs.declared.graph.Node.{Node}
use Rattle.if1_graph.specs.declared.graph.Origin.{Origin}
use Rattle.if1_graph.specs.declared.graph.Origin.TheVariants as origin
use Rattle.if1_graph.specs.declared.graph.Unit1.{Unit1}
use Rattle.if1_graph.specs.declared.op.Simple.TheVariants as simple
use Rattle.if1_graph.specs.Formed.{function_named}
use Rattle.if1_graph.specs.Ops.{reducer_at}
use Rattle.if1_graph.specs.Ports.{carried as carried_in, text_of, literal_at, callee as callee_in}
use Rattle.if1_graph.specs.Tables.{◌>>=◌}
use Rattle.if1_graph.specs.Types.{Sort, sort_at}
use Rattle.if1_graph.specs.Typing.{known}
use Rattle.typed_tree.specs.declared.program.Program.{Program}
use Rattle.lowering.specs.declared.feed.Feed.{Feed}
use Rattle.lowering.specs.declared.feed.Feed.TheVariants.{Literal, Named, Absent, Port}
use Rattle.lowering.specs.declared.feed.Carried.{Carried}
use Rattle.lowering.specs.declared.feed.Carried.TheVariants.{Callee}
use Rattle.lowering.specs.declared.feed.Wire.{Wire}
use Rattle.lowering.specs.declared.graph.Action.{Action}
use Rattle.lowering.specs.declared.graph.Action.TheVariants.{Row, Call, Whole}
use Rattle.lowering.specs.declared.graph.LoweredNode.{LoweredNode}
use Rattle.lowering.specs.declared.graph.LoweredGraph.{LoweredGraph}
use Rattle.lowering.specs.Feeds.{one_carried, carried}
use Rattle.lowering.specs.Graphs.{callee}
use Rattle.lowering.specs.Programs.{graphs, graph_at}
use Rattle.lowering.specs.Types.{label_of}
use Rattle.lowered_units.specs.Fitting.{IsFitting}
use Rattle.lowered_units.specs.Units.{constant_text, origin_of, called_name, edge, edge_if, edges_into, node_edges, IsTranslated}
use Rattle.lowered_units.proofs.Blocks.{to_port, find-filtered}
use Rattle.lowered_units.proofs.Programs.{functions}
use Rattle.lowered_ready.specs.Sorts.{callee_sort, sort_of}
use Rattle.lowered_ready.specs.SortLaws.{HasSort, HasHeaderSort, IsNodeSorted, IsGraphSorted, IsReadBack}
use Rattle.lowered_ready.specs.Ports.{sort_if, sort_in, sort_into, reducer_of, reducer_in, IsReduction, IsNameKnown, IsKnown, IsNamedRight}
use Rattle.lowered_ready.specs.Shapes.{IsGraphOf}
use Rattle.lowered_ready.proofs.Ends.{IsAtNode, boundary-edges}
use Rattle.lowered_ready.proofs.Callees.{IsFound, called-graph, call-name}

-- ---- lists

pub all-at : {A : Type 0} (P : A → Type 0) (xs : List A) (i : ℕ) (x : A) → All P xs → slice_get xs i ≡ Some x → P x
all-at P [] i x h e = absurd cc
all-at P (y ∷ xs) zero x h e = subst P (same e) (All-head P y xs h)
  where
    same : Some y ≡ Some x → y ≡ x
    same e = cc
all-at P (y ∷ xs) (suc i) x h e = all-at P xs i x (All-tail P y xs h) e

pub all-left : {A : Type 0} (P : A → Type 0) (xs ys : List A) → All P (xs ++ ys) → (x : A) (rest : List A) → xs ≡ x ∷ rest → P x
all-left P [] ys h x rest e = absurd cc
all-left P (y ∷ xs) ys h x rest e = subst P (same e) (All-head P y (xs ++ ys) h)
  where
    same : y ∷ xs ≡ x ∷ rest → y ≡ x
    same e = cc

pub all-right : {A : Type 0} (P : A → Type 0) (xs ys : List A) → All P (xs ++ ys) → All P ys
all-right P [] ys h = h
all-right P (x ∷ xs) ys h = all-right P xs ys (All-tail P x (xs ++ ys) h)

-- ---- the edge into a port

skips : (o : Option Origin) (node k ty i : ℕ) (es : List Edge) → (k ≡ i → ⊥) → find (to_port i) (edge_if node k ty o ++ es) ≡ find (to_port i) es
skips None node k ty i es d = refl
skips (Some o) node k ty i es d =
    elim (eqb_tells k i) [
      | inl t ↦ absurd (d t.1)
      | inr f ↦ ap (λ b. cond b (Some (edge node k ty o)) (find (to_port i) es)) f.0
    ]

here : (o : Origin) (node k ty i : ℕ) (es : List Edge) → k ≡ i → find (to_port i) (edge_if node k ty (Some o) ++ es) ≡ Some (edge node k ty o)
here o node k ty i es e =
    elim (eqb_tells k i) [
      | inl t ↦ ap (λ b. cond b (Some (edge node k ty o)) (find (to_port i) es)) t.0
      | inr f ↦ absurd (f.1 e)
    ]

-- a called function is one of so many
abbrev pub IsCalledIn : ℕ → Action → Type 0
IsCalledIn count (Call f) = f < count
IsCalledIn count a = Unit {0}

module _ (p : Program) where
  below : (node k i : ℕ) (ws : List Wire) → i < k → find (to_port i) (edges_into p node k ws) ≡ None
  below node k i [] h = refl
  below node k i (w ∷ ws) h = skips (origin_of w.feed) node k (label_of p w.ty) i (edges_into p node (suc k) ws) (λ e. omega (arith, e, h)) ∙ below node (suc k) i ws (omega (arith, h))

  module _ (u : Unit1) where
    abbrev sort : Carried → Sort
    sort c = sort_of p c

    abbrev told : Option Edge → Option Sort
    told o = o >>= λ (e : Edge). sort_at u.types e.ty

    pub first-sort : (f : Feed) (c : Carried) (more : List Carried) → All (HasSort p u) (one_carried f c ++ more) → (o : Origin) → origin_of f ≡ Some o → HasSort p u c
    first-sort Absent c more h o e = absurd cc
    first-sort (Literal x) c more h o e = All-head (HasSort p u) c more h
    first-sort (Named x) c more h o e = All-head (HasSort p u) c more h
    first-sort (Port up n q) c more h o e = All-head (HasSort p u) c more h

    -- what a port carries into which these wires lead, from a port on
    block-sort : (node k : ℕ) (ws : List Wire) → All (HasSort p u) (carried ws) → (j i : ℕ) → i ≡ k + j → told (find (to_port i) (edges_into p node k ws)) ≡ sort_in sort ws (suc j)
    block-sort node k [] h j i e = refl
    block-sort node k (w ∷ ws) h zero i e = one w.feed w.ty h
      where
        one : (f : Feed) (c : Carried) → All (HasSort p u) (one_carried f c ++ carried ws) → told (find (to_port i) (edge_if node k (label_of p c) (origin_of f) ++ edges_into p node (suc k) ws)) ≡ sort_if sort f c
        one Absent c h = ap told (below node (suc k) i ws (omega (arith, e)))
        one (Literal x) c h = ap told (here (origin.Lit (constant_text x)) node k (label_of p c) i (edges_into p node (suc k) ws) (omega (arith, e))) ∙ All-head (HasSort p u) c (carried ws) h
        one (Named x) c h = ap told (here (origin.Lit x) node k (label_of p c) i (edges_into p node (suc k) ws) (omega (arith, e))) ∙ All-head (HasSort p u) c (carried ws) h
        one (Port up n q) c h = ap told (here (origin.Port n q) node k (label_of p c) i (edges_into p node (suc k) ws) (omega (arith, e))) ∙ All-head (HasSort p u) c (carried ws) h
    block-sort node k (w ∷ ws) h (suc j) i e =
        ap told (skips (origin_of w.feed) node k (label_of p w.ty) i (edges_into p node (suc k) ws) (λ s. omega (arith, s, e)))
        ∙ block-sort node (suc k) ws (all-right (HasSort p u) (one_carried w.feed w.ty) (carried ws) h) j i (omega (arith, e))

    from-one : (node : ℕ) (ws : List Wire) → All (HasSort p u) (carried ws) → (i : ℕ) → told (find (to_port i) (edges_into p node 1 ws)) ≡ sort_in sort ws i
    from-one node ws h zero = ap told (below node 1 0 ws (omega arith))
    from-one node ws h (suc j) = block-sort node 1 ws h j (suc j) (omega arith)

    node-sort : (node : ℕ) (a : Action) (ws : List Wire) → All (HasSort p u) (callee a ++ carried ws) → (i : ℕ) → told (find (to_port i) (node_edges p node a ws)) ≡ sort_into sort a ws i
    node-sort node (Row op) ws h i = from-one node ws h i
    node-sort node (Whole c gs arms given outs) ws h i = from-one node ws h i
    node-sort node (Call f) ws h zero =
        ap told (skips (Some (origin.Lit (called_name p (slice_get p.functions f)))) node 1 (label_of p (Callee f)) 0 (edges_into p node 2 ws) (λ e. omega (arith, e)) ∙ below node 2 0 ws (omega arith))
    node-sort node (Call f) ws h (suc zero) =
        ap told (here (origin.Lit (called_name p (slice_get p.functions f))) node 1 (label_of p (Callee f)) 1 (edges_into p node 2 ws) refl) ∙ All-head (HasSort p u) (Callee f) (carried ws) h
    node-sort node (Call f) ws h (suc (suc j)) =
        ap told (skips (Some (origin.Lit (called_name p (slice_get p.functions f)))) node 1 (label_of p (Callee f)) (suc (suc j)) (edges_into p node 2 ws) (λ e. omega (arith, e)))
        ∙ block-sort node 2 ws (All-tail (HasSort p u) (Callee f) (carried ws) h) j (suc (suc j)) (omega arith)

    module _ (back : IsReadBack p u) where
      pub sorted-at : (q : ℕ) (d : LoweredGraph) → graph_at p q ≡ Some d → IsGraphSorted p u d
      sorted-at zero d e = absurd cc
      sorted-at (suc q) d e = all-at (IsGraphSorted p u) (graphs p) q d back.graphs e

      -- ---- what a graph carries

      module _ (g : Graph) (d : LoweredGraph) (a : IsGraphOf p g d) where
        sorted : IsGraphSorted p u d
        sorted = sorted-at (out-Graph g).number d a.there

        pub node-sorted : (i : ℕ) (n : Node) (v : LoweredNode) → IsAtNode p g d a i n v → IsNodeSorted p u v
        node-sorted i n v h = all-at (IsNodeSorted p u) d.nodes i v sorted.nodes h.lowered

        pub results-sorted : All (HasSort p u) (carried d.results)
        results-sorted = sorted.results

        pub node-carries : (i : ℕ) (n : Node) (v : LoweredNode) → IsAtNode p g d a i n v → (port : ℕ) → carried_in u g (suc i) port ≡ sort_into sort v.action v.ins port
        node-carries i n v h port =
            ap told (find-filtered (suc i) port (out-Graph g).edges ∙ ap (find (to_port port)) h.edges) ∙ node-sort (suc i) v.action v.ins (node-sorted i n v h) port

        pub result-carries : (port : ℕ) → carried_in u g 0 port ≡ sort_in sort d.results port
        result-carries port =
            ap told (find-filtered 0 port (out-Graph g).edges ∙ ap (find (to_port port)) (boundary-edges p g d a)) ∙ from-one 0 d.results results-sorted port

        -- ---- what is known of a node

        reduction-known : (i : ℕ) (n : Node) (v : LoweredNode) → IsAtNode p g d a i n v → (es : List Edge) → es ≡ edges_into p (suc i) 1 v.ins → node_edges p (suc i) v.action v.ins ≡ es → IsReduction v.ins
            → (literal_at g (suc i) 1 >>= reducer_at) ≡ reducer_in v.ins
        reduction-known i n v h es s k r =
            ap (λ o. (o >>= λ (e : Edge). text_of e.from) >>= reducer_at) (find-filtered (suc i) 1 (out-Graph g).edges ∙ ap (find (to_port 1)) (h.edges ∙ (k ∙ s)))
            ∙ by v.ins r
          where
            by : (ws : List Wire) → IsReduction ws → ((find (to_port 1) (edges_into p (suc i) 1 ws) >>= λ (e : Edge). text_of e.from) >>= reducer_at) ≡ reducer_in ws
            by [] r = absurd cc
            by (w ∷ ws) r = one w.feed w.ty r
              where
                one : (f : Feed) (c : Carried) → IsSome (reducer_of f) → ((find (to_port 1) (edge_if (suc i) 1 (label_of p c) (origin_of f) ++ edges_into p (suc i) 2 ws) >>= λ (e : Edge). text_of e.from) >>= reducer_at) ≡ reducer_of f
                one (Named x) c r = ap (λ o. (o >>= λ (e : Edge). text_of e.from) >>= reducer_at) (here (origin.Lit x) (suc i) 1 (label_of p c) 1 (edges_into p (suc i) 2 ws) refl)
                one Absent c r = absurd cc
                one (Literal x) c r = absurd cc
                one (Port up m q) c r = absurd cc

        module _ (fit : IsFitting p) (t : IsTranslated p u) where
          call-known : (i : ℕ) (n : Node) (v : LoweredNode) → IsAtNode p g d a i n v → (f : ℕ) → v.action ≡ Call f → f < functions p fit → callee_in u g (suc i) ≡ Some (sort (Callee f))
          call-known i n v h f e l =
              let k = called-graph p u fit t f l in
              let found : IsFound p u fit t f k.0 = k.1 in
              ap (λ o. o >>= λ name. function_named u.graphs name >>= λ (x : Graph). sort_at u.types (out-Graph x).fun) (call-name p g d a i n v h f e)
              ∙ (ap (λ o. o >>= λ (x : Graph). sort_at u.types (out-Graph x).fun) found.found
              ∙ (ap (sort_at u.types) found.is.fun
              ∙ (all-at (HasHeaderSort p u) p.functions f found.function back.headers found.is.there
              ∙ ap (λ o. Some (callee_sort p o)) (sym found.is.there))))

          pub node-known : (i : ℕ) (n : Node) (v : LoweredNode) → IsAtNode p g d a i n v → IsNamedRight sort v.action v.ins → IsCalledIn (functions p fit) v.action → IsKnown sort v.action v.ins (known u g (suc i))
          node-known i n v h r c = record { at = node-carries i n v h; name = by v.action refl r c }
            where
              by : (b : Action) → v.action ≡ b → IsNamedRight sort b v.ins → IsCalledIn (functions p fit) b → IsNameKnown sort b v.ins (known u g (suc i))
              by (Call f) e r c = call-known i n v h f e c
              by (Row (simple.Reduce x)) e r c = reduction-known i n v h (edges_into p (suc i) 1 v.ins) refl (ap (λ b. node_edges p (suc i) b v.ins) e) r
              by (Row op) e r c = tt
              by (Whole x gs arms given outs) e r c = tt
