-- Where the definition of record gives a cost, the graph goes at this cost in an order.
use Rattle.std.proofs.Common.{◌≡◌, ℕ, suc, ◌+◌, Bool, List, [], ◌∷◌, inl, length, Some, refl, sym, ap, ◌∙◌, subst, arith}
use Rattle.graph_meaning.specs.Carried.{Carried}
use Rattle.graph_meaning.specs.NodeValues.{op}
use Rattle.graph_meaning.specs.Entered.{entry_fires}
use Rattle.graph_meaning.specs.Forms.{Form, Next, Stage, Enter, next_of, first, follow, gather}
use Rattle.graph_meaning.specs.Demand.{Source, Kind, Vertex, Network, EachNode, at_label, data_labels, of_node, leads_to, demanded}
use Rattle.graph_meaning.specs.Plain.{CarryAll, MeanAll, no_row, a_row, Costs, NodesFire, no_node, a_node, InnerFires, of_simple, of_whole, LaterFires, of_leaving, of_graph, of_deeper, of_iterations, RowsFire, of_no_row, of_row}
use Rattle.graph_meaning.specs.Storage.{Weights}
use Rattle.graph_meaning.proofs.Depths.{all-below, demanded-below, node-below}
use Rattle.graph_meaning.proofs.PlainValues.{operands-given}
use Rattle.ordered_meaning.specs.Ordered.{Bindings, Inputs, Fired, Tally, Total, nothing, with_both, and_results, KindYields, NodeYields, NodesYield, GraphYields, RowsYield, Yields}
use Rattle.ordered_meaning.specs.Orders.{IsAlong}
use Rattle.ordered_meaning.proofs.Bound.{Tells, tells-inputs, tells-outputs, tells-after, labels_after, label-after, in-left, read-bound}
use Rattle.ordered_meaning.proofs.Shuffled.{Shuffled, same, swapped, under, joined, back, IsListed}
use Rattle.ordered_meaning.proofs.Growing.{kind-on, nodes-on, graph-on, rows-on, yields-on}
use Rattle.ordered_meaning.proofs.Recorded.{Reading, Leading, Stands, stands-inputs, read-all, nodes-bear, graph-bears, yields-bear}

some-same : {A : Type 0} (a b : A) → Some a ≡ Some b → a ≡ b
some-same a b e = cc

-- what ports carry is one
one-carry : (u : Network) (g : ℕ) (ins : List Carried) (os : List Source) (n m : ℕ) (ks ls : List Carried) → CarryAll u n g ins os ks → CarryAll u m g ins os ls → ks ≡ ls
one-carry u g ins os n m ks ls a b =
    let x = operands-given u n g ins os ks a in
    let y = operands-given u m g ins os ls b in
    let d = x.0 + y.0 in
    let far = length (u g).nodes in
    some-same ks ls
    (sym (all-below (demanded (of_node (leads_to x.0 u)) (u g).nodes ins far) (demanded (of_node (leads_to d u)) (u g).nodes ins far)
    (demanded-below (of_node (leads_to x.0 u)) (of_node (leads_to d u)) (node-below x.0 d (omega arith) u) (u g).nodes ins far far (omega arith)) os ks x.1)
    ∙ all-below (demanded (of_node (leads_to y.0 u)) (u g).nodes ins far) (demanded (of_node (leads_to d u)) (u g).nodes ins far)
    (demanded-below (of_node (leads_to y.0 u)) (of_node (leads_to d u)) (node-below y.0 d (omega arith) u) (u g).nodes ins far far (omega arith)) os ls y.1)

-- the sums that nothing adds to, so that the direction to the record can be used without a reading of its own
abbrev no_weights : Weights
no_weights = record { of_node = λ g v ks rs. 0; of_results = λ g rs. 0 }

abbrev no_reading : (T : Tally) → Reading T no_weights
no_reading T = record { reads = λ s. 0; none_is = refl; plus_is = λ a b. refl; node_is = λ g v ks rs. refl; results_is = λ g rs. refl }

module _ (T : Tally) (u : Network) (order : ℕ → List Vertex) where
  -- where its operands are given, the node goes on, at so many inner firings
  abbrev pub YieldsAt : ℕ → List Carried → Kind → List Source → ℕ → Type 0
  YieldsAt g ins k os c = (ks : List Carried) (m : ℕ) → CarryAll u m g ins os ks → (n : ℕ) × (rs : List Carried) × (t : Total T) × KindYields T (Yields T u order n) k ks rs t × (t.fires ≡ c)

  abbrev pub AllYield : ℕ → List Carried → List Vertex → ℕ → Type 0
  AllYield g ins [] c = c ≡ 0
  AllYield g ins (v ∷ vs) c = (one : ℕ) × (later : ℕ) × YieldsAt g ins v.kind v.ins one × AllYield g ins vs later × (c ≡ 1 + (one + later))

  shuffle-to : (g : ℕ) (ins : List Carried) (vs ws : List Vertex) → Shuffled vs ws → (c : ℕ) → AllYield g ins vs c → AllYield g ins ws c
  shuffle-to g ins _ _ (same vs) c h = h
  shuffle-to g ins _ _ (swapped v w vs) c h =
      let b = h.3 in
      let e = h.4 in
      let f = b.4 in
      (b.0, 1 + (h.0 + b.1), b.2, (h.0, b.1, h.2, b.3, refl), omega (arith, e, f))
  shuffle-to g ins _ _ (under v vs ws s) c h = (h.0, h.1, h.2, shuffle-to g ins vs ws s h.1 h.3, h.4)
  shuffle-to g ins _ _ (joined vs ws xs s t) c h = shuffle-to g ins ws xs t c (shuffle-to g ins vs ws s c h)

  module _ (ok : (g : ℕ) → IsListed (u g) (order g)) where
    bears : (n : ℕ) (form : Form) (ks : List Carried) (next : Next) (rs : List Carried) (c : Total T) → Yields T u order n form ks next rs c → Leading T no_weights (no_reading T) u order ok form ks next rs c
    bears n = yields-bear T no_weights (no_reading T) u order ok n

    abbrev Standing : ℕ → List Carried → Bindings → Type 0
    Standing g ins env = Stands T no_weights (no_reading T) u order ok (Yields T u order 0) (bears 0) g ins env

    nodes-yield : (g : ℕ) (ins : List Carried) (vs : List Vertex) → EachNode (λ v. (l : ℕ) × (v.label ≡ suc l) × (at_label (u g).nodes (suc l) ≡ Some v)) vs → (before : List ℕ) → IsAlong before vs
        → (env : Bindings) → Tells before env → Standing g ins env → (c : ℕ) → AllYield g ins vs c
        → (n : ℕ) × (after : Bindings) × (t : Total T) × NodesYield T (Yields T u order n) g env vs after t × (t.fires ≡ c)
    nodes-yield g ins [] lab before ord env t st c h = (0, env, nothing T, (refl, refl), sym h)
    nodes-yield g ins (v ∷ vs) lab before ord env t st c h =
        let ks = read-bound before env t v.ins (λ n i. ord.0 n (in-left n (data_labels v.ins) v.before i)) in
        let r = read-all T no_weights (no_reading T) u order ok (Yields T u order 0) (bears 0) g ins env st v.ins ks.0 ks.1 in
        let k = h.2 ks.0 r.0 (r.1 r.0 (omega arith)) in
        let rs = k.1 in
        let inner = k.2 in
        let node : NodeYields T (Yields T u order k.0) env v rs inner = record { operands = ks.0; reads = ks.1; gives = k.3 } in
        let now = Fired v.label rs env in
        let b = nodes-bear T no_weights (no_reading T) u order ok (Yields T u order k.0) (bears k.0) g ins (v ∷ []) (lab.0, tt) env now (with_both T 1 (T.of_node g v ks.0 rs) inner (nothing T)) st (rs, inner, nothing T, node, (refl, refl), refl) in
        let more = nodes-yield g ins vs lab.1 (v.label ∷ before) ord.2 now (tells-outputs v.label rs before env t) b.0 h.1 h.3 in
        let n = k.0 + more.0 in
        let later = more.2 in
        let sum = h.4 in
        let x = k.4 in
        let y = more.4 in (
          n,
          more.1,
          with_both T 1 (T.of_node g v ks.0 rs) inner later,
          (
            rs,
            inner,
            later,
            record { operands = ks.0; reads = ks.1; gives = kind-on T u order (Yields T u order k.0) (Yields T u order n) (yields-on T u order k.0 n (omega arith)) v.kind ks.0 rs inner k.3 },
            nodes-on T u order (Yields T u order more.0) (Yields T u order n) (yields-on T u order more.0 n (omega arith)) g now vs more.1 later more.3,
            refl,
          ),
          ap (λ z. 1 + (z + later.fires)) x ∙ (ap (λ z. 1 + (h.0 + z)) y ∙ sym sum),
        )

    -- the graph goes to some results
    some-yield : (g : ℕ) (ins : List Carried) (c : ℕ) → AllYield g ins (u g).nodes c → (n : ℕ) × (rs : List Carried) × (t : Total T) × GraphYields T u order (Yields T u order n) g ins rs t × (t.fires ≡ c)
    some-yield g ins c h =
        let o = ok g in
        let x = nodes-yield g ins (order g) o.labelled [] o.along (Inputs ins) (tells-inputs ins) (stands-inputs T no_weights (no_reading T) u order ok (Yields T u order 0) (bears 0) g ins) c (shuffle-to g ins (u g).nodes (order g) (back (order g) (u g).nodes o.shuffled) c h) in
        let res = read-bound (labels_after [] (order g)) x.1 (tells-after T (Yields T u order x.0) g [] (order g) (Inputs ins) x.1 x.2 (tells-inputs ins) x.3) (u g).results (λ n i. label-after [] (order g) n (inl (o.results n i))) in
        (x.0, res.0, and_results T x.2 (T.of_results g res.0), (x.1, x.2, x.3, res.1, refl), x.4)

    graph-yields : (g : ℕ) (ins ms : List Carried) (c m : ℕ) → AllYield g ins (u g).nodes c → CarryAll u m g ins (u g).results ms → (n : ℕ) × (t : Total T) × GraphYields T u order (Yields T u order n) g ins ms t × (t.fires ≡ c)
    graph-yields g ins ms c m h carry =
        let x = some-yield g ins c h in
        let r = graph-bears T no_weights (no_reading T) u order ok (Yields T u order x.0) (bears x.0) g ins x.1 x.2 x.3 in
        let e = one-carry u g ins (u g).results r.0 m x.1 ms ((r.1 r.0 (omega arith)).0) carry in
        (x.0, x.2, subst (λ y. GraphYields T u order (Yields T u order x.0) g ins y x.2) e x.3, x.4)

    -- what goes on from here, at so many firings
    abbrev pub YieldsOn : Form → List Carried → Next → ℕ → Type 0
    YieldsOn form ks next c = (n : ℕ) × (rs : List Carried) × (t : Total T) × Yields T u order n form ks next rs t × (t.fires ≡ c)

    both-fires : (e : ℕ) (a b : Total T) (c d : ℕ) → a.fires ≡ c → b.fires ≡ d → e + (a.fires + b.fires) ≡ e + (c + d)
    both-fires e a b c d p q = ap (λ z. e + (z + b.fires)) p ∙ ap (λ z. e + (c + z)) q

    enter-yields : (form : Form) (ks : List Carried) (t : Bool) (g : ℕ) (ins : List Carried) (stage : Stage) (ms : List Carried) (c d m : ℕ) → AllYield g ins (u g).nodes c → CarryAll u m g ins (u g).results ms
        → YieldsOn form ks (follow form ks stage ms) d → YieldsOn form ks (Enter t g ins stage) (entry_fires t + (c + d))
    enter-yields form ks t g ins stage ms c d m nodes carry later =
        let x = graph-yields g ins ms c m nodes carry in
        let n = x.0 + later.0 in (
          suc n,
          later.1,
          with_both T (entry_fires t) T.none x.1 later.2,
          (
            ms,
            x.1,
            later.2,
            graph-on T u order (Yields T u order x.0) (Yields T u order n) (yields-on T u order x.0 n (omega arith)) g ins ms x.1 x.2,
            yields-on T u order later.0 n (omega arith) form ks (follow form ks stage ms) later.1 later.2 later.3,
            refl,
          ),
          both-fires (entry_fires t) x.1 later.2 c d x.3 later.4,
        )

    -- what the results of several rows consist of
    abbrev MeanIn : ℕ → ℕ → List (List Carried) → List (List Carried) → Type 0
    MeanIn n g [] lists = lists ≡ []
    MeanIn n g (row ∷ rows) lists = (rs : List Carried) × (more : List (List Carried)) × CarryAll u n g row (u g).results rs × MeanAll u n g rows more × (lists ≡ rs ∷ more)

    mean-in : (n g : ℕ) (rows lists : List (List Carried)) → MeanAll u n g rows lists → MeanIn n g rows lists
    mean-in _ _ _ _ (no_row n g) = refl
    mean-in _ _ _ _ (a_row n g ins rs rows lists a b) = (rs, lists, a, b, refl)

    mutual
      nodes-to : (n g : ℕ) (ins : List Carried) (vs : List Vertex) (c : ℕ) → NodesFire u n g ins vs c → AllYield g ins vs c
      nodes-to _ _ _ _ _ (no_node n g ins) = refl
      nodes-to _ _ _ _ _ (a_node n g ins v vs c d a b) = (c, d, inner-to n g ins v.kind v.ins c a, nodes-to n g ins vs d b, refl)

      inner-to : (n g : ℕ) (ins : List Carried) (k : Kind) (os : List Source) (c : ℕ) → InnerFires u n g ins k os c → YieldsAt g ins k os c
      inner-to _ _ _ _ _ _ (of_simple n g ins row shape os) ks m carry = (0, op row shape ks, nothing T, (refl, refl), refl)
      inner-to _ _ _ _ _ _ (of_whole n g ins form os ls c a b) ks m carry =
          let x = later-to n form ls (next_of (first form ls)) c b in
          (x.0, x.1, x.2, subst (λ y. Yields T u order x.0 form y (next_of (first form y)) x.1 x.2) (one-carry u g ins os n m ls ks a carry) x.3, x.4)

      later-to : (n : ℕ) (form : Form) (ks : List Carried) (next : Next) (c : ℕ) → LaterFires u n form ks next c → YieldsOn form ks next c
      later-to _ _ _ _ _ (of_leaving n form ks rs) = (1, rs, nothing T, (refl, refl), refl)
      later-to _ _ _ _ _ (of_graph n form ks t g ins stage ms c d is a b later) = enter-yields form ks t g ins stage ms c d n (nodes-to n g ins (u g).nodes c a) b (later-to n form ks (follow form ks stage ms) d later)
      later-to _ _ _ _ _ (of_deeper n form ks t g ins stage ms c d is a b later) = enter-yields form ks t g ins stage ms c d n (nodes-to n g ins (u g).nodes c a) b (later-to n form ks (follow form ks stage ms) d later)
      later-to _ _ _ _ _ (of_iterations n form ks g row rows ms lists c d a b later) =
          let x = rows-to n g (row ∷ rows) c a n lists b in
          let y = later-to n form ks (gather form ks ms lists) d later in
          let k = x.0 + y.0 in (
            suc k,
            y.1,
            with_both T 0 T.none x.1 y.2,
            (
              lists,
              x.1,
              y.2,
              rows-on T u order (Yields T u order x.0) (Yields T u order k) (yields-on T u order x.0 k (omega arith)) g (row ∷ rows) lists x.1 x.2,
              yields-on T u order y.0 k (omega arith) form ks (gather form ks ms lists) y.1 y.2 y.3,
              refl,
            ),
            both-fires 0 x.1 y.2 c d x.3 y.4 ∙ omega arith,
          )

      rows-to : (n g : ℕ) (rows : List (List Carried)) (c : ℕ) → RowsFire u n g rows c → (m : ℕ) (lists : List (List Carried)) → MeanAll u m g rows lists
          → (n : ℕ) × (t : Total T) × RowsYield T u order (Yields T u order n) g rows lists t × (t.fires ≡ c)
      rows-to _ _ _ _ (of_no_row n g) m lists b = (0, nothing T, (mean-in m g [] lists b, refl), refl)
      rows-to _ _ _ _ (of_row n g ins rows c d a more) m lists b =
          let z = mean-in m g (ins ∷ rows) lists b in
          let x = graph-yields g ins z.0 c m (nodes-to n g ins (u g).nodes c a) z.2 in
          let y = rows-to n g rows d more m z.1 z.3 in
          let k = x.0 + y.0 in (
            k,
            with_both T 1 T.none x.1 y.1,
            (
              z.0,
              z.1,
              x.1,
              y.1,
              graph-on T u order (Yields T u order x.0) (Yields T u order k) (yields-on T u order x.0 k (omega arith)) g ins z.0 x.1 x.2,
              rows-on T u order (Yields T u order y.0) (Yields T u order k) (yields-on T u order y.0 k (omega arith)) g rows z.1 y.1 y.2,
              z.4,
              refl,
            ),
            both-fires 1 x.1 y.1 c d x.3 y.3,
          )

    -- the cost alone tells that there are results and sums
    pub yields-where-costed : (e g : ℕ) (ins : List Carried) (c : ℕ) → Costs u e g ins c → (n : ℕ) × (rs : List Carried) × (t : Total T) × GraphYields T u order (Yields T u order n) g ins rs t × (t.fires ≡ c)
    yields-where-costed e g ins c costs = some-yield g ins c (nodes-to e g ins (u g).nodes c costs)
