-- Nodes and edges of a translated unit stand in the order of the text.
use Rattle.std.proofs.Common.{◌≡◌, ℕ, zero, suc, ◌+◌, ◌<◌, ◌≤◌, ◌⊎◌, inl, inr, List, [], ◌∷◌, ◌++◌, map, length, slice_get, Option, Some, None, refl, sym, ap, ◌∙◌, arith}
use Rattle.std.specs.Prelude.{All, AllPairs, slice_index}
use Rattle.std.specs.List.Sorted.{IsStrictlyIncreasing}
use Rattle.std.proofs.lemmas.List.Elements.{All-nil, All-cons, All-head, All-tail, All-append}
use Rattle.std.proofs.lemmas.List.Kept.{AllPairs-cons}
use Rattle.if1_graph.specs.declared.graph.Edge.{Edge}
use Rattle.if1_graph.specs.declared.graph.Node.{Node}
use Rattle.if1_graph.specs.declared.graph.Origin.{Origin}
use Rattle.if1_graph.specs.declared.graph.Origin.TheVariants as origin
use Rattle.if1_graph.specs.Normal.{Precedes}
use Rattle.if1_graph.specs.Ports.{count_from}
use Rattle.if1_graph.specs.Units.{label_of}
use Rattle.typed_tree.specs.declared.program.Program.{Program}
use Rattle.lowering.specs.declared.feed.Carried.TheVariants.{Callee}
use Rattle.lowering.specs.declared.feed.Wire.{Wire}
use Rattle.lowering.specs.declared.graph.Action.{Action}
use Rattle.lowering.specs.declared.graph.Action.TheVariants.{Row, Call, Whole}
use Rattle.lowering.specs.declared.graph.LoweredNode.{LoweredNode}
use Rattle.lowering.specs.Types.{label_of as type_label_of}
use Rattle.lowered_units.specs.Units.{called_name, origin_of, edge, edge_if, edges_into, node_edges, edges_of}
use Rattle.lowered_units.proofs.Named.{Match, label-at}

-- ---- labels

index-of : (l n k : ℕ) → k < n → slice_index (count_from l n) k ≡ l + k
index-of l zero k h = absurd (omega (arith, h))
index-of l (suc n) zero h = omega arith
index-of l (suc n) (suc k) h = index-of (suc l) n k (omega (arith, h)) ∙ omega arith

length-from : (l n : ℕ) → length (count_from l n) ≡ n
length-from l zero = refl
length-from l (suc n) = ap suc (length-from (suc l) n)

pub rising : (l n : ℕ) → IsStrictlyIncreasing (count_from l n)
rising l n k h =
    let e = length-from l n in
    omega (arith, h, e, index-of l n k (omega (arith, h, e)), index-of l n (k + 1) (omega (arith, h, e)))

pub labels-are : (label : ℕ) (ns : List Node) (vs : List LoweredNode) → Match label ns vs → map label_of ns ≡ count_from label (length vs)
labels-are label [] [] m = refl
labels-are label [] (v ∷ vs) m = absurd m
labels-are label (n ∷ ns) [] m = absurd m
labels-are label (n ∷ ns) (v ∷ vs) m = ap (λ l. l ∷ map label_of ns) (label-at label n v m.0) ∙ ap (λ l. label ∷ l) (labels-are (suc label) ns vs m.1)

-- ---- edges

pairs-both : (R : Edge → Edge → Type 0) (xs ys : List Edge) → AllPairs R xs → AllPairs R ys → All (λ x. All (R x) ys) xs → AllPairs R (xs ++ ys)
pairs-both R [] ys a b c = b
pairs-both R (x ∷ xs) ys a b c =
    AllPairs-cons R x (xs ++ ys) (All-append (R x) xs ys (first R x xs a) (All-head (λ x. All (R x) ys) x xs c)) (pairs-both R xs ys (rest R x xs a) b (All-tail (λ x. All (R x) ys) x xs c))
  where
    first : (R : Edge → Edge → Type 0) (x : Edge) (xs : List Edge) → AllPairs R (x ∷ xs) → All (R x) xs
    first R x xs a = λ k d h. a 0 (suc k) d (omega arith) (omega (arith, h))

    rest : (R : Edge → Edge → Type 0) (x : Edge) (xs : List Edge) → AllPairs R (x ∷ xs) → AllPairs R xs
    rest R x xs a = λ i j d h k. a (suc i) (suc j) d (omega (arith, h)) (omega (arith, k))

pairs-one : (R : Edge → Edge → Type 0) (x : Edge) → AllPairs R (x ∷ [])
pairs-one R x i j d h k = absurd (omega (arith, h, k))

pairs-none : (R : Edge → Edge → Type 0) → AllPairs R []
pairs-none R i j d h k = absurd (omega (arith, k))

all-weaker : (P Q : Edge → Type 0) → ((e : Edge) → P e → Q e) → (es : List Edge) → All P es → All Q es
all-weaker P Q f [] a = All-nil Q
all-weaker P Q f (e ∷ es) a = All-cons Q e es (f e (All-head P e es a)) (all-weaker P Q f es (All-tail P e es a))

-- at a node, from a port on
abbrev FromPort : ℕ → ℕ → Edge → Type 0
FromPort node port e = (e.node ≡ node) × (port ≤ e.port)

-- at a node from a label on, or at the boundary
abbrev FromNode : ℕ → Edge → Type 0
FromNode label e = (label ≤ e.node) ⊎ (e.node ≡ 0)

module _ (p : Program) where
  block-from : (node port : ℕ) (ws : List Wire) → All (FromPort node port) (edges_into p node port ws)
  block-from node port [] = All-nil (FromPort node port)
  block-from node port (w ∷ ws) =
      All-append (FromPort node port) (edge_if node port (type_label_of p w.ty) (origin_of w.feed)) (edges_into p node (suc port) ws) (one (origin_of w.feed))
      (all-weaker (FromPort node (suc port)) (FromPort node port) (λ e h. (h.0, omega (arith, h.1))) (edges_into p node (suc port) ws) (block-from node (suc port) ws))
    where
      one : (o : Option Origin) → All (FromPort node port) (edge_if node port (type_label_of p w.ty) o)
      one None = All-nil (FromPort node port)
      one (Some o) = All-cons (FromPort node port) (edge node port (type_label_of p w.ty) o) [] (refl, omega arith) (All-nil (FromPort node port))

  block-sorted : (node port : ℕ) (ws : List Wire) → AllPairs Precedes (edges_into p node port ws)
  block-sorted node port [] = pairs-none Precedes
  block-sorted node port (w ∷ ws) =
      pairs-both Precedes (edge_if node port (type_label_of p w.ty) (origin_of w.feed)) (edges_into p node (suc port) ws) (one (origin_of w.feed)) (block-sorted node (suc port) ws) (before (origin_of w.feed))
    where
      one : (o : Option Origin) → AllPairs Precedes (edge_if node port (type_label_of p w.ty) o)
      one None = pairs-none Precedes
      one (Some o) = pairs-one Precedes (edge node port (type_label_of p w.ty) o)

      before : (o : Option Origin) → All (λ x. All (Precedes x) (edges_into p node (suc port) ws)) (edge_if node port (type_label_of p w.ty) o)
      before None = All-nil (λ x. All (Precedes x) (edges_into p node (suc port) ws))
      before (Some o) =
          let e = edge node port (type_label_of p w.ty) o in
          All-cons (λ x. All (Precedes x) (edges_into p node (suc port) ws)) e []
          (all-weaker (FromPort node (suc port)) (Precedes e) (λ f h. inl (sym h.0, omega (arith, h.1))) (edges_into p node (suc port) ws) (block-from node (suc port) ws))
          (All-nil (λ x. All (Precedes x) (edges_into p node (suc port) ws)))

  node-from : (label : ℕ) (a : Action) (ws : List Wire) → All (FromPort label 1) (node_edges p label a ws)
  node-from label (Row op) ws = block-from label 1 ws
  node-from label (Call f) ws =
      All-cons (FromPort label 1) _ (edges_into p label 2 ws) (refl, omega arith) (all-weaker (FromPort label 2) (FromPort label 1) (λ e h. (h.0, omega (arith, h.1))) (edges_into p label 2 ws) (block-from label 2 ws))
  node-from label (Whole c gs arms given outs) ws = block-from label 1 ws

  node-sorted : (label : ℕ) (a : Action) (ws : List Wire) → AllPairs Precedes (node_edges p label a ws)
  node-sorted label (Row op) ws = block-sorted label 1 ws
  node-sorted label (Call f) ws =
      let call = edge label 1 (type_label_of p (Callee f)) (origin.Lit (called_name p (slice_get p.functions f))) in
      AllPairs-cons Precedes call (edges_into p label 2 ws) (all-weaker (FromPort label 2) (Precedes call) (λ e h. inl (sym h.0, omega (arith, h.1))) (edges_into p label 2 ws) (block-from label 2 ws)) (block-sorted label 2 ws)
  node-sorted label (Whole c gs arms given outs) ws = block-sorted label 1 ws

  edges-from : (label : ℕ) (vs : List LoweredNode) (results : List Wire) → All (FromNode label) (edges_of p label vs results)
  edges-from label [] results = all-weaker (FromPort 0 1) (FromNode label) (λ e h. inr h.0) (edges_into p 0 1 results) (block-from 0 1 results)
  edges-from label (v ∷ vs) results =
      All-append (FromNode label) (node_edges p label v.action v.ins) (edges_of p (suc label) vs results)
      (all-weaker (FromPort label 1) (FromNode label) (λ e h. inl (omega (arith, h.0))) (node_edges p label v.action v.ins) (node-from label v.action v.ins))
      (all-weaker (FromNode (suc label)) (FromNode label) (λ e h. elim h [ inl l ↦ inl (omega (arith, l)) | inr z ↦ inr z ]) (edges_of p (suc label) vs results) (edges-from (suc label) vs results))

  pub edges-sorted : (label : ℕ) (vs : List LoweredNode) (results : List Wire) → 1 ≤ label → AllPairs Precedes (edges_of p label vs results)
  edges-sorted label [] results one = block-sorted 0 1 results
  edges-sorted label (v ∷ vs) results one =
      pairs-both Precedes (node_edges p label v.action v.ins) (edges_of p (suc label) vs results) (node-sorted label v.action v.ins) (edges-sorted (suc label) vs results (omega arith))
      (all-weaker (FromPort label 1) (λ x. All (Precedes x) (edges_of p (suc label) vs results))
      (λ x h. all-weaker (FromNode (suc label)) (Precedes x) (λ e k. inr (omega (arith, h.0, one), elim k [ inl l ↦ inl (omega (arith, l, h.0)) | inr z ↦ inr z ])) (edges_of p (suc label) vs results) (edges-from (suc label) vs results))
      (node_edges p label v.action v.ins) (node-from label v.action v.ins))
