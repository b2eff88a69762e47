-- Nodes of a graph and what is collected for them, one more.
use Rattle.std.proofs.Common.{◌≡◌, ℕ, ◌+◌, Bool, List, [], ◌∷◌, ◌++◌, length, Option, Some, None, ◌⊎◌, inl, inr, refl, sym, ap, ◌∙◌, subst, arith}
use Rattle.std.proofs.lemmas.List.{append-nil, append_assoc, length-append}
use Rattle.if1_graph.specs.declared.graph.Unit1.{Unit1}
use Rattle.graph_meaning.specs.Demand.{Vertex}
use Rattle.graph_meaning.specs.Storage.{is_left}
use Rattle.graph_meaning.specs.StorageUnits.{storage_of}
use Rattle.run_code.specs.Made.{Plan}
use Rattle.plan_data.specs.Settings.{Shares}
use Rattle.plan_data.specs.declared.plan.PlanData.{PlanData}
use Rattle.plan_data.specs.declared.plan.PlanNode.{PlanNode}
use Rattle.plan_data.specs.Stands.{AreNodes, IsNode}
use Rattle.told_rows.specs.Plans.{collects_in, nodes_by}
use Rattle.told_rows.specs.Returns.{node_collects, nodes_collects, refolded_node, refolded_nodes}
use Rattle.told_rows.specs.Grows.{IsPair}
use Rattle.plan_nodes.proofs.Vertices.{vertex_as, vertex_collects}

-- ---- vertices

module _ (plain : ℕ) (left : (node port : ℕ) → Bool) where
  collected-more : (vs : List Vertex) (v : Vertex) → nodes_collects plain left (vs ++ v ∷ []) ≡ nodes_collects plain left vs ++ node_collects plain left v v.kind
  collected-more [] v = append-nil (node_collects plain left v v.kind)
  collected-more (w ∷ vs) v =
      ap (λ cs. node_collects plain left w w.kind ++ cs) (collected-more vs v)
      ∙ sym (append_assoc (node_collects plain left w w.kind) (nodes_collects plain left vs) (node_collects plain left v v.kind))

  refolded-more : (k : ℕ) (vs : List Vertex) (v : Vertex) → refolded_nodes plain left k (vs ++ v ∷ []) ≡ refolded_nodes plain left k vs ++ refolded_node plain left (k + length (nodes_collects plain left vs)) v v.kind ∷ []
  refolded-more k [] v = let e : k ≡ k + 0 = omega arith in ap (λ i. refolded_node plain left i v v.kind ∷ []) e
  refolded-more k (w ∷ vs) v =
      let n = length (node_collects plain left w w.kind) in
      let long = length-append (node_collects plain left w w.kind) (nodes_collects plain left vs) in
      let e : (k + length (node_collects plain left w w.kind)) + length (nodes_collects plain left vs) ≡ k + length (node_collects plain left w w.kind ++ nodes_collects plain left vs) = omega (arith, long) in
      ap (λ ws. refolded_node plain left k w w.kind ∷ ws) (refolded-more (k + n) vs v ∙ ap (λ i. refolded_nodes plain left (k + n) vs ++ refolded_node plain left i v v.kind ∷ []) e)

module _ (u : Unit1) (g : ℕ) where
  abbrev left_in : (node port : ℕ) → Bool
  left_in = is_left (storage_of u) g

  pub vertices-more : (plain : Option ℕ) (vs : List Vertex) (v : Vertex) → nodes_by u g plain (vs ++ v ∷ []) ≡ nodes_by u g plain vs ++ vertex_as left_in plain (length (collects_in u g plain vs)) v v.kind ∷ []
  vertices-more None vs v = refl
  vertices-more (Some plain) vs v =
      let e : 0 + length (nodes_collects plain left_in vs) ≡ length (nodes_collects plain left_in vs) = omega arith in
      refolded-more plain left_in 0 vs v ∙ ap (λ i. refolded_nodes plain left_in 0 vs ++ refolded_node plain left_in i v v.kind ∷ []) e

  pub collects-more : (plain : Option ℕ) (vs : List Vertex) (v : Vertex) → collects_in u g plain (vs ++ v ∷ []) ≡ collects_in u g plain vs ++ vertex_collects left_in plain v v.kind
  collects-more None vs v = refl
  collects-more (Some plain) vs v = collected-more plain left_in vs v

-- ---- nodes

module _ (D : PlanData) (P : Plan) (S : Shares) (g : ℕ) (m : PlanNode) (w : Vertex) where
  pub nodes-more : (ns : List PlanNode) (vs : List Vertex) → AreNodes D P S g ns vs → IsNode D P S g m w → AreNodes D P S g (ns ++ m ∷ []) (vs ++ w ∷ [])
  nodes-more [] [] h one = (one, tt)
  nodes-more [] (v ∷ vs) h one = absurd h
  nodes-more (n ∷ ns) [] h one = absurd h
  nodes-more (n ∷ ns) (v ∷ vs) h one = (h.0, nodes-more ns vs h.1 one)

  -- a pair is one of those before, or the last one
  pair-more : (ns : List PlanNode) (vs : List Vertex) → AreNodes D P S g ns vs → (n : PlanNode) (v : Vertex) → IsPair (ns ++ m ∷ []) (vs ++ w ∷ []) n v → IsPair ns vs n v ⊎ ((n ≡ m) × (v ≡ w))
  pair-more [] [] h n v (inl e) = inr e
  pair-more [] [] h n v (inr e) = absurd e
  pair-more [] (y ∷ vs) h n v pair = absurd h
  pair-more (x ∷ ns) [] h n v pair = absurd h
  pair-more (x ∷ ns) (y ∷ vs) h n v (inl e) = inl (inl e)
  pair-more (x ∷ ns) (y ∷ vs) h n v (inr later) =
      elim (pair-more ns vs h.1 n v later) [
        | inl there ↦ inl (inr there)
        | inr last ↦ inr last
      ]

  -- what is so of each pair is so with this one
  pub pairs-more : (Q : PlanNode → Vertex → Type 0) (ns : List PlanNode) (vs : List Vertex) → AreNodes D P S g ns vs → ((n : PlanNode) (v : Vertex) → IsPair ns vs n v → Q n v) → Q m w
      → (n : PlanNode) (v : Vertex) → IsPair (ns ++ m ∷ []) (vs ++ w ∷ []) n v → Q n v
  pairs-more Q ns vs h all one n v pair =
      elim (pair-more ns vs h n v pair) [
        | inl there ↦ all n v there
        | inr last ↦ subst (λ z. Q z v) (sym last.0) (subst (Q m) (sym last.1) one)
      ]
