-- What goes in an order has the results, the cost and the sums of the definitions of record.
use Rattle.std.proofs.Common.{◌⊎◌, get_or, ◌-◌, ◌≡◌, ℕ, zero, suc, ◌+◌, ◌≤◌, Bool, true, false, List, [], ◌∷◌, Some, inl, inr, refl, sym, ap, ◌∙◌, subst, arith}
use Rattle.graph_meaning.specs.Carried.{Carried, Unfilled}
use Rattle.graph_meaning.specs.Entered.{entry_fires}
use Rattle.graph_meaning.specs.Forms.{Form, Next, Stage, Enter, Iterate, Leave, next_of, first, follow, gather}
use Rattle.graph_meaning.specs.Demand.{Source, Port, Fixed, Kind, Plain, Whole, Vertex, Network, EachNode, at_label}
use Rattle.graph_meaning.specs.Plain.{is_deeper, Carries, fixed, input, output, CarryAll, no_port, port, Outputs, simple, whole, Leads, leaves, enters, enters_deeper, iterates, MeanAll, no_row, a_row, Means, Costs, NodesFire, no_node, a_node, InnerFires, of_simple, of_whole, LaterFires, of_leaving, of_graph, of_deeper, of_iterations, RowsFire, of_no_row, of_row}
use Rattle.graph_meaning.specs.Storage.{Weights, NodesAdd, InnerAdds, LaterAdds, RowsAdd, GraphAdds}
use Rattle.graph_meaning.specs.Storage as adds
use Rattle.graph_meaning.proofs.SumsOnce.{sum-one}
use Rattle.ordered_meaning.specs.Ordered.{Bindings, Inputs, Fired, bound, ReadsAll, Tally, Total, nothing, with_both, and_results, Rest, KindYields, NodesYield, GraphYields, RowsYield, Yields}
use Rattle.ordered_meaning.proofs.Bound.{same-some, none-some, bound-by}
use Rattle.ordered_meaning.proofs.Shuffled.{Shuffled, same, swapped, under, joined, IsListed}

-- the sum, read as a number, is one by these weights
pub record Reading (T : Tally) (w : Weights) : Type 0 where
  pub reads : T.Sum → ℕ
  pub none_is : reads T.none ≡ 0
  pub plus_is : (a b : T.Sum) → reads (T.plus a b) ≡ reads a + reads b
  pub node_is : (g : ℕ) (v : Vertex) (ks rs : List Carried) → reads (T.of_node g v ks rs) ≡ w.of_node g v ks rs
  pub results_is : (g : ℕ) (rs : List Carried) → reads (T.of_results g rs) ≡ w.of_results g rs

-- ---- nodes in another order

module _ (u : Network) (n g : ℕ) (ins : List Carried) where
  as-cost : (vs : List Vertex) (c d : ℕ) → c ≡ d → NodesFire u n g ins vs c → NodesFire u n g ins vs d
  as-cost vs c d e h = subst (NodesFire u n g ins vs) e h

  -- what the fires of nodes consist of
  abbrev pub FireIn : List Vertex → ℕ → Type 0
  FireIn [] c = c ≡ 0
  FireIn (v ∷ vs) c = (one : ℕ) × (later : ℕ) × InnerFires u n g ins v.kind v.ins one × NodesFire u n g ins vs later × (c ≡ 1 + (one + later))

fire-in : (u : Network) (n g : ℕ) (ins : List Carried) (vs : List Vertex) (c : ℕ) → NodesFire u n g ins vs c → FireIn u n g ins vs c
fire-in u _ _ _ _ _ (no_node n g ins) = refl
fire-in u _ _ _ _ _ (a_node n g ins v vs c d a b) = (c, d, a, b, refl)

shuffle-fires : (u : Network) (n g : ℕ) (ins : List Carried) (vs ws : List Vertex) → Shuffled vs ws → (c : ℕ) → NodesFire u n g ins vs c → NodesFire u n g ins ws c
shuffle-fires u n g ins _ _ (same vs) c h = h
shuffle-fires u n g ins _ _ (swapped v w vs) c h =
    let a = fire-in u n g ins (v ∷ w ∷ vs) c h in
    let b = fire-in u n g ins (w ∷ vs) a.1 a.3 in
    let e = a.4 in
    let f = b.4 in
    as-cost u n g ins (w ∷ v ∷ vs) (1 + (b.0 + (1 + (a.0 + b.1)))) c (omega (arith, e, f)) (a_node n g ins w (v ∷ vs) b.0 (1 + (a.0 + b.1)) b.2 (a_node n g ins v vs a.0 b.1 a.2 b.3))
shuffle-fires u n g ins _ _ (under v vs ws s) c h =
    let a = fire-in u n g ins (v ∷ vs) c h in
    as-cost u n g ins (v ∷ ws) (1 + (a.0 + a.1)) c (sym a.4) (a_node n g ins v ws a.0 a.1 a.2 (shuffle-fires u n g ins vs ws s a.1 a.3))
shuffle-fires u n g ins _ _ (joined vs ws xs s t) c h = shuffle-fires u n g ins ws xs t c (shuffle-fires u n g ins vs ws s c h)

module _ (u : Network) (w : Weights) (n g : ℕ) (ins : List Carried) where
  -- what a sum over nodes consists of
  abbrev pub AddIn : List Vertex → ℕ → Type 0
  AddIn [] s = s ≡ 0
  AddIn (v ∷ vs) s = (ks : List Carried) × (rs : List Carried) × (c : ℕ) × (d : ℕ) × CarryAll u n g ins v.ins ks × Outputs u n v.kind ks rs × InnerAdds u w n v.kind ks c × NodesAdd u w n g ins vs d × (s ≡ w.of_node g v ks rs + (c + d))

add-in : (u : Network) (w : Weights) (n g : ℕ) (ins : List Carried) (vs : List Vertex) (s : ℕ) → NodesAdd u w n g ins vs s → AddIn u w n g ins vs s
add-in u w _ _ _ _ _ (adds.no_node n g ins) = refl
add-in u w _ _ _ _ _ (adds.a_node n g ins v vs ks rs c d a b i r) = (ks, rs, c, d, a, b, i, r, refl)

shuffle-adds : (u : Network) (w : Weights) (n g : ℕ) (ins : List Carried) (vs ws : List Vertex) → Shuffled vs ws → (s : ℕ) → NodesAdd u w n g ins vs s → NodesAdd u w n g ins ws s
shuffle-adds u w n g ins _ _ (same vs) s h = h
shuffle-adds u w n g ins _ _ (swapped v x vs) s h =
    let a = add-in u w n g ins (v ∷ x ∷ vs) s h in
    let b = add-in u w n g ins (x ∷ vs) a.3 a.7 in
    let e = a.8 in
    let f = b.8 in
    let p = w.of_node g v a.0 a.1 in
    let q = w.of_node g x b.0 b.1 in
    subst (NodesAdd u w n g ins (x ∷ v ∷ vs)) (moves s p a.2 a.3 q b.2 b.3 e f)
    (adds.a_node n g ins x (v ∷ vs) b.0 b.1 b.2 (p + (a.2 + b.3)) b.4 b.5 b.6 (adds.a_node n g ins v vs a.0 a.1 a.2 b.3 a.4 a.5 a.6 b.7))
  where
    moves : (s p c d q c' d' : ℕ) → s ≡ p + (c + d) → d ≡ q + (c' + d') → q + (c' + (p + (c + d'))) ≡ s
    moves s p c d q c' d' e f = omega (arith, e, f)
shuffle-adds u w n g ins _ _ (under v vs ws t) s h =
    let a = add-in u w n g ins (v ∷ vs) s h in
    subst (NodesAdd u w n g ins (v ∷ ws)) (sym a.8) (adds.a_node n g ins v ws a.0 a.1 a.2 a.3 a.4 a.5 a.6 (shuffle-adds u w n g ins vs ws t a.3 a.7))
shuffle-adds u w n g ins _ _ (joined vs ws xs a b) s h = shuffle-adds u w n g ins ws xs b s (shuffle-adds u w n g ins vs ws a s h)

-- ---- the recursion

module _ (T : Tally) (w : Weights) (r : Reading T w) where
  abbrev pub sum_of : Total T → ℕ
  sum_of c = r.reads c.sum

  none-read : (c : Total T) → c ≡ nothing T → sum_of c ≡ 0
  none-read c e = ap (λ (x : Total T). r.reads x.sum) e ∙ r.none_is

  both-read : (c a b : Total T) (f : ℕ) (s : T.Sum) (k : ℕ) → r.reads s ≡ k → c ≡ with_both T f s a b → sum_of c ≡ k + (sum_of a + sum_of b)
  both-read c a b f s k is e =
      ap (λ (x : Total T). r.reads x.sum) e ∙ (r.plus_is s (T.plus a.sum b.sum) ∙ (ap (λ x. x + r.reads (T.plus a.sum b.sum)) is ∙ ap (λ x. k + x) (r.plus_is a.sum b.sum)))

  -- two totals and no more
  two-read : (c a b : Total T) (f : ℕ) → c ≡ with_both T f T.none a b → sum_of c ≡ sum_of a + sum_of b
  two-read c a b f e = both-read c a b f T.none 0 r.none_is e ∙ omega arith

  results-read : (c a : Total T) (g : ℕ) (rs : List Carried) → c ≡ and_results T a (T.of_results g rs) → sum_of c ≡ w.of_results g rs + sum_of a
  results-read c a g rs e =
      ap (λ (x : Total T). r.reads x.sum) e ∙ (r.plus_is a.sum (T.of_results g rs) ∙ (ap (λ x. sum_of a + x) (r.results_is g rs) ∙ turned (sum_of a) (w.of_results g rs)))
    where
      turned : (a b : ℕ) → a + b ≡ b + a
      turned a b = omega arith

  module _ (u : Network) (order : ℕ → List Vertex) (ok : (g : ℕ) → IsListed (u g) (order g)) where
    -- from some depth on
    abbrev pub From : (ℕ → Type 0) → Type 0
    From P = (m : ℕ) × ((d : ℕ) → m ≤ d → P d)

    abbrev pub Leading : Form → List Carried → Next → List Carried → Total T → Type 0
    Leading form ks next rs c = From (λ d. Leads u d form ks next rs × LaterFires u d form ks next c.fires × LaterAdds u w d form ks next (sum_of c))

    module _ (rest : Rest T) (bears : (form : Form) (ks : List Carried) (next : Next) (rs : List Carried) (c : Total T) → rest form ks next rs c → Leading form ks next rs c) where
      module _ (g : ℕ) (ins : List Carried) where
        abbrev pub Stands : Bindings → Type 0
        Stands env = (l p : ℕ) (k : Carried) → bound env l p ≡ Some k → From (λ d. Carries u d g ins (Port l p) k)

        pub read-all : (env : Bindings) → Stands env → (os : List Source) (ks : List Carried) → ReadsAll env os ks → From (λ d. CarryAll u d g ins os ks)
        read-all env h [] [] r = (0, λ d le. no_port d g ins)
        read-all env h [] (k ∷ ks) r = absurd r
        read-all env h (o ∷ os) [] r = absurd r
        read-all env h (Fixed c ∷ os) (k ∷ ks) r =
            let x = read-all env h os ks r.1 in
            (x.0, λ d le. subst (λ z. CarryAll u d g ins (Fixed c ∷ os) (z ∷ ks)) (sym r.0) (port d g ins (Fixed c) os c ks (fixed d g ins c) (x.1 d le)))
        read-all env h (Port l p ∷ os) (k ∷ ks) r =
            let x = read-all env h os ks r.1 in
            let y = h l p k r.0 in
            (x.0 + y.0, λ d le. port d g ins (Port l p) os k ks (y.1 d (omega (arith, le))) (x.1 d (omega (arith, le))))

        pub stands-inputs : Stands (Inputs ins)
        stands-inputs zero p k h = (0, λ d le. subst (Carries u d g ins (Port 0 p)) (same-some (get_or ins (p - 1) Unfilled) k h) (input d g ins p))
        stands-inputs (suc l) p k h = absurd (none-some k h)

        kind-bears : (k : Kind) (os : List Source) (ks rs : List Carried) (c : Total T) → From (λ d. CarryAll u d g ins os ks) → KindYields T rest k ks rs c
            → From (λ d. Outputs u d k ks rs × InnerFires u d g ins k os c.fires × InnerAdds u w d k ks (sum_of c))
        kind-bears (Plain row shape) os ks rs c r h = (
          0,
          λ d le. (
            subst (Outputs u d (Plain row shape) ks) (sym h.0) (simple d row shape ks),
            subst (InnerFires u d g ins (Plain row shape) os) (sym (ap (λ (x : Total T). x.fires) h.1)) (of_simple d g ins row shape os),
            subst (InnerAdds u w d (Plain row shape) ks) (sym (none-read c h.1)) (adds.of_simple d row shape ks),
          ),
        )
        kind-bears (Whole form) os ks rs c r h =
            let x = bears form ks (next_of (first form ks)) rs c h in (
              x.0 + r.0,
              λ d le.
                  let y = x.1 d (omega (arith, le)) in
                  (whole d form ks rs y.0, of_whole d g ins form os ks c.fires (r.1 d (omega (arith, le))) y.1, adds.of_whole d form ks (sum_of c) y.2),
            )

        pub nodes-bear : (vs : List Vertex) → EachNode (λ v. (l : ℕ) × (v.label ≡ suc l) × (at_label (u g).nodes (suc l) ≡ Some v)) vs → (env after : Bindings) (c : Total T) → Stands env → NodesYield T rest g env vs after c
            → Stands after × From (λ d. NodesFire u d g ins vs c.fires × NodesAdd u w d g ins vs (sum_of c))
        nodes-bear [] lab env after c h go =
            (subst Stands (sym go.0) h, (0, λ d le. (subst (NodesFire u d g ins []) (sym (ap (λ (x : Total T). x.fires) go.1)) (no_node d g ins), subst (NodesAdd u w d g ins []) (sym (none-read c go.1)) (adds.no_node d g ins))))
        nodes-bear (v ∷ vs) lab env after c h go =
            let rs = go.0 in
            let node = go.3 in
            let carry = read-all env h v.ins node.operands node.reads in
            let k = kind-bears v.kind v.ins node.operands rs go.1 carry node.gives in
            let later = nodes-bear vs lab.1 (Fired v.label rs env) after go.2 (outs rs node.operands carry k) go.4 in (
              later.0,
              (
                carry.0 + (k.0 + later.1.0),
                λ d le.
                    let a = k.1 d (omega (arith, le)) in
                    let b = later.1.1 d (omega (arith, le)) in (
                      subst (NodesFire u d g ins (v ∷ vs)) (sym (ap (λ (x : Total T). x.fires) go.5)) (a_node d g ins v vs go.1.fires go.2.fires a.1 b.0),
                      subst (NodesAdd u w d g ins (v ∷ vs)) (sym (both-read c go.1 go.2 1 (T.of_node g v node.operands rs) (w.of_node g v node.operands rs) (r.node_is g v node.operands rs) go.5))
                          (adds.a_node d g ins v vs node.operands rs (sum_of go.1) (sum_of go.2) (carry.1 d (omega (arith, le))) a.0 a.2 b.1),
                    ),
              ),
            )
          where
            outs : (rs ks : List Carried) → From (λ d. CarryAll u d g ins v.ins ks) → From (λ d. Outputs u d v.kind ks rs × InnerFires u d g ins v.kind v.ins go.1.fires × InnerAdds u w d v.kind ks (sum_of go.1)) → Stands (Fired v.label rs env)
            outs rs ks r k l p x has = one (bound-by v.label rs env l p x has)
              where
                one : ((l ≡ v.label) × (x ≡ get_or rs (p - 1) Unfilled)) ⊎ ((l ≡ v.label → ⊥) × (bound env l p ≡ Some x)) → From (λ d. Carries u d g ins (Port l p) x)
                one (inr b) = h l p x b.1
                one (inl b) = (
                  r.0 + k.0,
                  λ d le. subst (λ z. Carries u d g ins (Port z p) x) (sym (b.0 ∙ lab.0.1))
                      (subst (λ z. Carries u d g ins (Port (suc lab.0.0) p) z) (sym b.1)
                      (output d g ins lab.0.0 p v ks rs lab.0.2 (r.1 d (omega (arith, le))) ((k.1 d (omega (arith, le))).0))),
                )

      pub graph-bears : (g : ℕ) (ins rs : List Carried) (c : Total T) → GraphYields T u order rest g ins rs c → From (λ d. Means u d g ins rs × Costs u d g ins c.fires × GraphAdds u w d g ins (sum_of c))
      graph-bears g ins rs c h =
          let o = ok g in
          let x = nodes-bear g ins (order g) o.labelled (Inputs ins) h.0 h.1 (stands-inputs g ins) h.2 in
          let res = read-all g ins h.0 x.0 (u g).results rs h.3 in (
            x.1.0 + res.0,
            λ d le.
                let carry = res.1 d (omega (arith, le)) in
                let a = x.1.1 d (omega (arith, le)) in (
                  carry,
                  subst (NodesFire u d g ins (u g).nodes) (sym (ap (λ (x : Total T). x.fires) h.4)) (shuffle-fires u d g ins (order g) (u g).nodes o.shuffled h.1.fires a.0),
                  subst (GraphAdds u w d g ins) (sym (results-read c h.1 g rs h.4)) (adds.of_nodes d g ins rs (sum_of h.1) carry (shuffle-adds u w d g ins (order g) (u g).nodes o.shuffled (sum_of h.1) a.1)),
                ),
          )

      rows-bear : (g : ℕ) (rows lists : List (List Carried)) (c : Total T) → RowsYield T u order rest g rows lists c → From (λ d. MeanAll u d g rows lists × RowsFire u d g rows c.fires × RowsAdd u w d g rows (sum_of c))
      rows-bear g [] lists c h =
          (0, λ d le. (subst (MeanAll u d g []) (sym h.0) (no_row d g), subst (RowsFire u d g []) (sym (ap (λ (x : Total T). x.fires) h.1)) (of_no_row d g), subst (RowsAdd u w d g []) (sym (none-read c h.1)) (adds.of_no_row d g)))
      rows-bear g (row ∷ rows) lists c h =
          let x = graph-bears g row h.0 h.2 h.4 in
          let y = rows-bear g rows h.1 h.3 h.5 in (
            x.0 + y.0,
            λ d le.
                let a = x.1 d (omega (arith, le)) in
                let b = y.1 d (omega (arith, le)) in (
                  subst (MeanAll u d g (row ∷ rows)) (sym h.6) (a_row d g row h.0 rows h.1 a.0 b.0),
                  subst (RowsFire u d g (row ∷ rows)) (sym (ap (λ (x : Total T). x.fires) h.7)) (of_row d g row rows h.2.fires h.3.fires a.1 b.1),
                  subst (RowsAdd u w d g (row ∷ rows)) (sym (two-read c h.2 h.3 1 h.7)) (adds.of_row d g row rows (sum_of h.2) (sum_of h.3) a.2 b.2),
                ),
          )

    enter-bears : (form : Form) (ks : List Carried) (t : Bool) (g : ℕ) (ins : List Carried) (stage : Stage) (rs ms : List Carried) (c inner later : Total T)
        → From (λ d. Means u d g ins ms × Costs u d g ins inner.fires × GraphAdds u w d g ins (sum_of inner)) → Leading form ks (follow form ks stage ms) rs later → c ≡ with_both T (entry_fires t) T.none inner later → Leading form ks (Enter t g ins stage) rs c
    enter-bears form ks t g ins stage rs ms c inner later x y e = go (is_deeper form t) refl
      where
        fires-are : c.fires ≡ entry_fires t + (inner.fires + later.fires)
        fires-are = ap (λ (x : Total T). x.fires) e

        sums-are : sum_of c ≡ sum_of inner + sum_of later
        sums-are = two-read c inner later (entry_fires t) e

        go : (b : Bool) → is_deeper form t ≡ b → Leading form ks (Enter t g ins stage) rs c
        go false is = (
          x.0 + y.0,
          λ d le.
              let a = x.1 d (omega (arith, le)) in
              let b = y.1 d (omega (arith, le)) in (
                enters d form ks t g ins stage ms rs is a.0 b.0,
                subst (LaterFires u d form ks (Enter t g ins stage)) (sym fires-are) (of_graph d form ks t g ins stage ms inner.fires later.fires is a.1 a.0 b.1),
                subst (LaterAdds u w d form ks (Enter t g ins stage)) (sym sums-are) (adds.of_graph d form ks t g ins stage ms (sum_of inner) (sum_of later) is a.0 a.2 b.2),
              ),
        )
        go true is = (suc (x.0 + y.0), λ d le. deep d le)
          where
            deep : (d : ℕ) → suc (x.0 + y.0) ≤ d → Leads u d form ks (Enter t g ins stage) rs × LaterFires u d form ks (Enter t g ins stage) c.fires × LaterAdds u w d form ks (Enter t g ins stage) (sum_of c)
            deep zero le = absurd (omega (arith, le))
            deep (suc d) le =
                let a = x.1 d (omega (arith, le)) in
                let b = y.1 d (omega (arith, le)) in (
                  enters_deeper d form ks t g ins stage ms rs is a.0 b.0,
                  subst (LaterFires u (suc d) form ks (Enter t g ins stage)) (sym fires-are) (of_deeper d form ks t g ins stage ms inner.fires later.fires is a.1 a.0 b.1),
                  subst (LaterAdds u w (suc d) form ks (Enter t g ins stage)) (sym sums-are) (adds.of_deeper d form ks t g ins stage ms (sum_of inner) (sum_of later) is a.0 a.2 b.2),
                )

    pub yields-bear : (n : ℕ) (form : Form) (ks : List Carried) (next : Next) (rs : List Carried) (c : Total T) → Yields T u order n form ks next rs c → Leading form ks next rs c
    yields-bear zero form ks next rs c h = absurd h
    yields-bear (suc n) form ks (Leave outs) rs c h = (
      0,
      λ d le. (
        subst (Leads u d form ks (Leave outs)) (sym h.0) (leaves d form ks outs),
        subst (LaterFires u d form ks (Leave outs)) (sym (ap (λ (x : Total T). x.fires) h.1)) (of_leaving d form ks outs),
        subst (LaterAdds u w d form ks (Leave outs)) (sym (none-read c h.1)) (adds.of_leaving d form ks outs),
      ),
    )
    yields-bear (suc n) form ks (Enter t g ins stage) rs c h =
        enter-bears form ks t g ins stage rs h.0 c h.1 h.2 (graph-bears (Yields T u order n) (yields-bear n) g ins h.0 h.1 h.3) (yields-bear n form ks (follow form ks stage h.0) rs h.2 h.4) h.5
    yields-bear (suc n) form ks (Iterate g row rows ms) rs c h =
        let x = rows-bear (Yields T u order n) (yields-bear n) g (row ∷ rows) h.0 h.1 h.3 in
        let y = yields-bear n form ks (gather form ks ms h.0) rs h.2 h.4 in
        let e : c.fires ≡ h.1.fires + h.2.fires = ap (λ (x : Total T). x.fires) h.5 ∙ omega arith in (
          x.0 + y.0,
          λ d le.
              let a = x.1 d (omega (arith, le)) in
              let b = y.1 d (omega (arith, le)) in (
                iterates d form ks g row rows ms h.0 rs a.0 b.0,
                subst (LaterFires u d form ks (Iterate g row rows ms)) (sym e) (of_iterations d form ks g row rows ms h.0 h.1.fires h.2.fires a.1 a.0 b.1),
                subst (LaterAdds u w d form ks (Iterate g row rows ms)) (sym (two-read c h.1 h.2 0 h.5)) (adds.of_iterations d form ks g row rows ms h.0 (sum_of h.1) (sum_of h.2) a.0 a.2 b.2),
              ),
        )

    -- all three from some depth on
    pub graph-from : (n g : ℕ) (ins rs : List Carried) (c : Total T) → GraphYields T u order (Yields T u order n) g ins rs c → From (λ d. Means u d g ins rs × Costs u d g ins c.fires × GraphAdds u w d g ins (sum_of c))
    graph-from n g ins rs c h = graph-bears (Yields T u order n) (yields-bear n) g ins rs c h

pub recorded : (T : Tally) (u : Network) (order : ℕ → List Vertex) → ((g : ℕ) → IsListed (u g) (order g))
    → (n g : ℕ) (ins rs : List Carried) (c : Total T) → GraphYields T u order (Yields T u order n) g ins rs c
    → (w : Weights) (r : Reading T w) → (d : ℕ) × Means u d g ins rs × Costs u d g ins c.fires × GraphAdds u w d g ins (r.reads c.sum)
recorded T u order ok n g ins rs c h w r =
    let x = graph-from T w r u order ok n g ins rs c h in
    let y = x.1 x.0 (omega arith) in
    (x.0, y.0, y.1, y.2)

-- to the sums of record, where there are some
pub one : (T : Tally) (u : Network) (order : ℕ → List Vertex) → ((g : ℕ) → IsListed (u g) (order g))
    → (n g : ℕ) (ins rs : List Carried) (t : Total T) → GraphYields T u order (Yields T u order n) g ins rs t
    → (w : Weights) (r : Reading T w) (d s : ℕ) → GraphAdds u w d g ins s → r.reads t.sum ≡ s
one T u order ok n g ins rs t h w r d s a =
    let x = recorded T u order ok n g ins rs t h w r in
    sum-one u w g ins x.0 d (r.reads t.sum) s x.3 a
