-- No two depths give different sums.
use Rattle.std.proofs.Common.{◌≡◌, ℕ, ◌+◌, List, [], ◌∷◌, Some, refl, sym, ap, ◌∙◌, subst, arith}
use Rattle.graph_meaning.specs.Carried.{Carried}
use Rattle.graph_meaning.specs.Forms.{Form, Next, Enter, Iterate, Leave, next_of, first, follow, gather}
use Rattle.graph_meaning.specs.Demand.{Source, Kind, Plain, Whole, Vertex, Network, of_node, leads_to, dem}
use Rattle.graph_meaning.specs.Plain.{CarryAll, Outputs, MeanAll}
use Rattle.graph_meaning.specs.Storage.{Weights, NodesAdd, no_node, a_node, InnerAdds, of_simple, of_whole, LaterAdds, of_leaving, of_graph, of_deeper, of_iterations, RowsAdd, of_no_row, of_row, GraphAdds, of_nodes}
use Rattle.graph_meaning.specs.Laws.{IsSumOne, IsCostOne}
use Rattle.graph_meaning.proofs.Depths.{all-below, node-below, of-kind-below, leads-below, dem-below, operands-below}
use Rattle.graph_meaning.proofs.PlainValues.{operands-given, rows-given, outputs-at}
use Rattle.graph_meaning.proofs.PlainCosts.{nodes-from}

some-same : {A : Type 0} (a b : A) → Some a ≡ Some b → a ≡ b
some-same a b e = cc

-- ---- values are one

module _ (u : Network) where
  operands-one : (n m g : ℕ) (ins : List Carried) (os : List Source) (cs ds : List Carried) → CarryAll u n g ins os cs → CarryAll u m g ins os ds → cs ≡ ds
  operands-one n m g ins os cs ds a b =
      let x = operands-given u n g ins os cs a in
      let y = operands-given u m g ins os ds b in
      let k = x.0 + y.0 in
      some-same cs ds (sym (operands-below (of_node (leads_to x.0 u)) (of_node (leads_to k u)) (node-below x.0 k (omega arith) u) (u g) ins os cs x.1)
      ∙ operands-below (of_node (leads_to y.0 u)) (of_node (leads_to k u)) (node-below y.0 k (omega arith) u) (u g) ins os ds y.1)

  outputs-one : (n m : ℕ) (kind : Kind) (ks rs os : List Carried) → Outputs u n kind ks rs → Outputs u m kind ks os → rs ≡ os
  outputs-one n m kind ks rs os a b =
      let x = outputs-at u n kind ks rs a in
      let y = outputs-at u m kind ks os b in
      let k = x.0 + y.0 in
      some-same rs os (sym (of-kind-below (leads_to x.0 u) (leads_to k u) (leads-below x.0 k (omega arith) u) kind ks rs x.1)
      ∙ of-kind-below (leads_to y.0 u) (leads_to k u) (leads-below y.0 k (omega arith) u) kind ks os y.1)

  rows-one : (n m g : ℕ) (rows lists others : List (List Carried)) → MeanAll u n g rows lists → MeanAll u m g rows others → lists ≡ others
  rows-one n m g rows lists others a b =
      let x = rows-given u n g rows lists a in
      let y = rows-given u m g rows others b in
      let k = x.0 + y.0 in
      some-same lists others (sym (all-below (λ ins. dem x.0 u g ins) (λ ins. dem k u g ins) (dem-below x.0 k (omega arith) u g) rows lists x.1)
      ∙ all-below (λ ins. dem y.0 u g ins) (λ ins. dem k u g ins) (dem-below y.0 k (omega arith) u g) rows others y.1)

-- ---- what a sum consists of

module _ (u : Network) (w : Weights) where
  abbrev NodesIn : ℕ → ℕ → List Carried → List Vertex → ℕ → Type 0
  NodesIn n g ins [] s = 0 ≡ s
  NodesIn n g ins (v ∷ vs) s = (ks : List Carried) × (rs : List Carried) × (c : ℕ) × (d : ℕ) × CarryAll u n g ins v.ins ks × Outputs u n v.kind ks rs × InnerAdds u w n v.kind ks c × NodesAdd u w n g ins vs d × (w.of_node g v ks rs + (c + d) ≡ s)

  nodes-in : (n g : ℕ) (ins : List Carried) (vs : List Vertex) (s : ℕ) → NodesAdd u w n g ins vs s → NodesIn n g ins vs s
  nodes-in _ _ _ _ _ (no_node n g ins) = refl
  nodes-in _ _ _ _ _ (a_node n g ins v vs ks rs c d a b i r) = (ks, rs, c, d, a, b, i, r, refl)

  abbrev InnerIn : ℕ → Kind → List Carried → ℕ → Type 0
  InnerIn n (Plain row shape) ks s = 0 ≡ s
  InnerIn n (Whole form) ks s = LaterAdds u w n form ks (next_of (first form ks)) s

  inner-in : (n : ℕ) (kind : Kind) (ks : List Carried) (s : ℕ) → InnerAdds u w n kind ks s → InnerIn n kind ks s
  inner-in _ _ _ _ (of_simple n row shape ks) = refl
  inner-in _ _ _ _ (of_whole n form ks c a) = a

  abbrev LaterIn : Form → List Carried → Next → ℕ → Type 0
  LaterIn form ks (Leave rs) s = 0 ≡ s
  LaterIn form ks (Enter t g ins stage) s = (n : ℕ) × (ms : List Carried) × (c : ℕ) × (d : ℕ) × CarryAll u n g ins (u g).results ms × GraphAdds u w n g ins c × LaterAdds u w n form ks (follow form ks stage ms) d × (c + d ≡ s)
  LaterIn form ks (Iterate g row rows ms) s = (n : ℕ) × (lists : List (List Carried)) × (c : ℕ) × (d : ℕ) × MeanAll u n g (row ∷ rows) lists × RowsAdd u w n g (row ∷ rows) c × LaterAdds u w n form ks (gather form ks ms lists) d × (c + d ≡ s)

  later-in : (n : ℕ) (form : Form) (ks : List Carried) (next : Next) (s : ℕ) → LaterAdds u w n form ks next s → LaterIn form ks next s
  later-in _ _ _ _ _ (of_leaving n form ks rs) = refl
  later-in _ _ _ _ _ (of_graph n form ks t g ins stage ms c d b a x r) = (n, ms, c, d, a, x, r, refl)
  later-in _ _ _ _ _ (of_deeper n form ks t g ins stage ms c d b a x r) = (n, ms, c, d, a, x, r, refl)
  later-in _ _ _ _ _ (of_iterations n form ks g row rows ms lists c d a x r) = (n, lists, c, d, a, x, r, refl)

  abbrev RowsIn : ℕ → ℕ → List (List Carried) → ℕ → Type 0
  RowsIn n g [] s = 0 ≡ s
  RowsIn n g (ins ∷ rows) s = (c : ℕ) × (d : ℕ) × GraphAdds u w n g ins c × RowsAdd u w n g rows d × (c + d ≡ s)

  rows-in : (n g : ℕ) (rows : List (List Carried)) (s : ℕ) → RowsAdd u w n g rows s → RowsIn n g rows s
  rows-in _ _ _ _ (of_no_row n g) = refl
  rows-in _ _ _ _ (of_row n g ins rows c d a r) = (c, d, a, r, refl)

  graph-in : (n g : ℕ) (ins : List Carried) (s : ℕ) → GraphAdds u w n g ins s → (rs : List Carried) × (c : ℕ) × CarryAll u n g ins (u g).results rs × NodesAdd u w n g ins (u g).nodes c × (w.of_results g rs + c ≡ s)
  graph-in _ _ _ _ (of_nodes n g ins rs c a r) = (rs, c, a, r, refl)

  mutual
    nodes-one : (n g : ℕ) (ins : List Carried) (vs : List Vertex) (s : ℕ) → NodesAdd u w n g ins vs s → (m t : ℕ) → NodesIn m g ins vs t → s ≡ t
    nodes-one _ _ _ _ _ (no_node n g ins) m t q = q
    nodes-one _ _ _ _ _ (a_node n g ins v vs ks rs c d a b i r) m t q =
        let e = operands-one u m n g ins v.ins q.0 ks q.4 a in
        let f = outputs-one u m n v.kind ks q.1 rs (subst (λ x. Outputs u m v.kind x q.1) e q.5) b in
        let x = inner-one n v.kind ks c i m q.2 (inner-in m v.kind ks q.2 (subst (λ x. InnerAdds u w m v.kind x q.2) e q.6)) in
        let y = nodes-one n g ins vs d r m q.3 (nodes-in m g ins vs q.3 q.7) in
        ap (λ z. w.of_node g v ks rs + (z + d)) x ∙ (ap (λ z. w.of_node g v ks rs + (q.2 + z)) y
        ∙ (ap (λ z. w.of_node g v z rs + (q.2 + q.3)) (sym e) ∙ (ap (λ z. w.of_node g v q.0 z + (q.2 + q.3)) (sym f) ∙ q.8)))

    inner-one : (n : ℕ) (kind : Kind) (ks : List Carried) (s : ℕ) → InnerAdds u w n kind ks s → (m t : ℕ) → InnerIn m kind ks t → s ≡ t
    inner-one _ _ _ _ (of_simple n row shape ks) m t q = q
    inner-one _ _ _ _ (of_whole n form ks c a) m t q = later-one n form ks (next_of (first form ks)) c a t (later-in m form ks (next_of (first form ks)) t q)

    later-one : (n : ℕ) (form : Form) (ks : List Carried) (next : Next) (s : ℕ) → LaterAdds u w n form ks next s → (t : ℕ) → LaterIn form ks next t → s ≡ t
    later-one _ _ _ _ _ (of_leaving n form ks rs) t q = q
    later-one _ _ _ _ _ (of_graph n form ks turn g ins stage ms c d b a x r) t q =
        let e = operands-one u q.0 n g ins (u g).results q.1 ms q.4 a in
        let y = graph-one n g ins c x q.0 q.2 (graph-in q.0 g ins q.2 q.5) in
        let z = later-one n form ks (follow form ks stage ms) d r q.3 (later-in q.0 form ks (follow form ks stage ms) q.3 (subst (λ x. LaterAdds u w q.0 form ks (follow form ks stage x) q.3) e q.6)) in
        ap (λ k. k + d) y ∙ (ap (λ k. q.2 + k) z ∙ q.7)
    later-one _ _ _ _ _ (of_deeper n form ks turn g ins stage ms c d b a x r) t q =
        let e = operands-one u q.0 n g ins (u g).results q.1 ms q.4 a in
        let y = graph-one n g ins c x q.0 q.2 (graph-in q.0 g ins q.2 q.5) in
        let z = later-one n form ks (follow form ks stage ms) d r q.3 (later-in q.0 form ks (follow form ks stage ms) q.3 (subst (λ x. LaterAdds u w q.0 form ks (follow form ks stage x) q.3) e q.6)) in
        ap (λ k. k + d) y ∙ (ap (λ k. q.2 + k) z ∙ q.7)
    later-one _ _ _ _ _ (of_iterations n form ks g row rows ms lists c d a x r) t q =
        let e = rows-one u q.0 n g (row ∷ rows) q.1 lists q.4 a in
        let y = all-rows-one n g (row ∷ rows) c x q.0 q.2 (rows-in q.0 g (row ∷ rows) q.2 q.5) in
        let z = later-one n form ks (gather form ks ms lists) d r q.3 (later-in q.0 form ks (gather form ks ms lists) q.3 (subst (λ x. LaterAdds u w q.0 form ks (gather form ks ms x) q.3) e q.6)) in
        ap (λ k. k + d) y ∙ (ap (λ k. q.2 + k) z ∙ q.7)

    all-rows-one : (n g : ℕ) (rows : List (List Carried)) (s : ℕ) → RowsAdd u w n g rows s → (m t : ℕ) → RowsIn m g rows t → s ≡ t
    all-rows-one _ _ _ _ (of_no_row n g) m t q = q
    all-rows-one _ _ _ _ (of_row n g ins rows c d a r) m t q =
        ap (λ k. k + d) (graph-one n g ins c a m q.0 (graph-in m g ins q.0 q.2)) ∙ (ap (λ k. q.0 + k) (all-rows-one n g rows d r m q.1 (rows-in m g rows q.1 q.3)) ∙ q.4)

    graph-one : (n g : ℕ) (ins : List Carried) (s : ℕ) → GraphAdds u w n g ins s → (m t : ℕ) → (rs : List Carried) × (c : ℕ) × CarryAll u m g ins (u g).results rs × NodesAdd u w m g ins (u g).nodes c × (w.of_results g rs + c ≡ t) → s ≡ t
    graph-one _ _ _ _ (of_nodes n g ins rs c a r) m t q =
        let e = operands-one u m n g ins (u g).results q.0 rs q.2 a in
        ap (λ k. w.of_results g rs + k) (nodes-one n g ins (u g).nodes c r m q.1 (nodes-in m g ins (u g).nodes q.1 q.3)) ∙ (ap (λ x. w.of_results g x + q.1) (sym e) ∙ q.4)

pub sum-one : IsSumOne
sum-one u w g ins n m s t a b = graph-one u w n g ins s a m t (graph-in u w m g ins t b)

pub cost-one : IsCostOne
cost-one u g ins n m c d a b =
    let x = nodes-from u n g ins (u g).nodes c a in
    let y = nodes-from u m g ins (u g).nodes d b in
    let k = x.0 + y.0 in
    some-same c d (sym (x.1 k (omega arith)) ∙ y.1 k (omega arith))
