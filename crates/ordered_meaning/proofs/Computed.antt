-- The ordered meaning, computed.
use Rattle.std.proofs.Common.{◌≡◌, ℕ, zero, suc, List, [], ◌∷◌, Option, Some, None, refl, sym, ap, ◌∙◌, subst}
use Rattle.graph_meaning.specs.Carried.{Carried}
use Rattle.graph_meaning.specs.NodeValues.{op}
use Rattle.graph_meaning.specs.Entered.{entry_fires}
use Rattle.graph_meaning.specs.Forms.{Form, Next, Enter, Iterate, Leave, next_of, first, follow, gather}
use Rattle.graph_meaning.specs.Demand.{Source, Port, Fixed, Kind, Plain, Whole, Vertex, Network, and_then}
use Rattle.graph_meaning.proofs.PlainValues.{and-then-some}
use Rattle.ordered_meaning.proofs.Bound.{same-some, none-some}
use Rattle.ordered_meaning.specs.Ordered.{Bindings, Inputs, Fired, bound, ReadsAll, Tally, Total, nothing, with_both, and_results, Rest, KindYields, NodesYield, GraphYields, RowsYield, Yields, MeansInOrder}

abbrev pub read : Bindings → Source → Option Carried
read env (Fixed c) = Some c
read env (Port l p) = bound env l p

abbrev pub read_all : Bindings → List Source → Option (List Carried)
read_all env [] = Some []
read_all env (o ∷ os) = and_then (read env o) (λ k. and_then (read_all env os) (λ ks. Some (k ∷ ks)))

all-read : (env : Bindings) (os : List Source) (ks : List Carried) → read_all env os ≡ Some ks → ReadsAll env os ks
all-read env [] ks e = subst (ReadsAll env []) (same-some [] ks e) tt
all-read env (Fixed c ∷ os) ks e =
    let y = and-then-some (read_all env os) (λ ks. Some (c ∷ ks)) ks e in
    subst (ReadsAll env (Fixed c ∷ os)) (same-some (c ∷ y.0) ks y.2) (refl, all-read env os y.0 y.1)
all-read env (Port l p ∷ os) ks e =
    let x = and-then-some (bound env l p) (λ k. and_then (read_all env os) (λ ks. Some (k ∷ ks))) ks e in
    let y = and-then-some (read_all env os) (λ ks. Some (x.0 ∷ ks)) ks x.2 in
    subst (ReadsAll env (Port l p ∷ os)) (same-some (x.0 ∷ y.0) ks y.2) (x.1, all-read env os y.0 y.1)

module _ (T : Tally) (u : Network) (order : ℕ → List Vertex) where
  -- results with a total
  abbrev pub Answer : Type 0
  Answer = Option (List Carried × Total T)

  abbrev pub Run : Type 0
  Run = Form → List Carried → Next → Option (List Carried × Total T)

  abbrev pub kind_run : Run → Kind → List Carried → Answer
  kind_run run (Plain row shape) ks = Some (op row shape ks, nothing T)
  kind_run run (Whole form) ks = run form ks (next_of (first form ks))

  abbrev pub nodes_run : Run → ℕ → Bindings → List Vertex → Option (Bindings × Total T)
  nodes_run run g env [] = Some (env, nothing T)
  nodes_run run g env (v ∷ vs) =
      and_then (read_all env v.ins) (λ ks. and_then (kind_run run v.kind ks) (λ x. and_then (nodes_run run g (Fired v.label x.0 env) vs) (λ y. Some (y.0, with_both T 1 (T.of_node g v ks x.0) x.1 y.1))))

  abbrev pub graph_run : Run → ℕ → List Carried → Answer
  graph_run run g ins = and_then (nodes_run run g (Inputs ins) (order g)) (λ x. and_then (read_all x.0 (u g).results) (λ rs. Some (rs, and_results T x.1 (T.of_results g rs))))

  abbrev pub rows_run : Run → ℕ → List (List Carried) → Option (List (List Carried) × Total T)
  rows_run run g [] = Some ([], nothing T)
  rows_run run g (row ∷ rows) = and_then (graph_run run g row) (λ x. and_then (rows_run run g rows) (λ y. Some (x.0 ∷ y.0, with_both T 1 T.none x.1 y.1)))

  abbrev pub steps_run : ℕ → Run
  steps_run zero form ks next = None
  steps_run (suc n) form ks (Leave outs) = Some (outs, nothing T)
  steps_run (suc n) form ks (Enter t g ins stage) =
      and_then (graph_run (steps_run n) g ins) (λ x. and_then (steps_run n form ks (follow form ks stage x.0)) (λ y. Some (y.0, with_both T (entry_fires t) T.none x.1 y.1)))
  steps_run (suc n) form ks (Iterate g row rows ms) =
      and_then (rows_run (steps_run n) g (row ∷ rows)) (λ x. and_then (steps_run n form ks (gather form ks ms x.0)) (λ y. Some (y.0, with_both T 0 T.none x.1 y.1)))

  -- ---- what is computed is so

  pair-same : {A : Type 0} (x y : A × Total T) → Some x ≡ Some y → (x.0 ≡ y.0) × (x.1 ≡ y.1)
  pair-same x y e = let s = same-some x y e in (ap (λ z. z.0) s, ap (λ z. z.1) s)

  module _ (run : Run) (rest : Rest T) (stands : (form : Form) (ks : List Carried) (next : Next) (rs : List Carried) (t : Total T) → run form ks next ≡ Some (rs, t) → rest form ks next rs t) where
    kind-stands : (k : Kind) (ks rs : List Carried) (t : Total T) → kind_run run k ks ≡ Some (rs, t) → KindYields T rest k ks rs t
    kind-stands (Plain row shape) ks rs t e = let p = pair-same {A = List Carried} (op row shape ks, nothing T) (rs, t) e in (sym p.0, sym p.1)
    kind-stands (Whole form) ks rs t e = stands form ks (next_of (first form ks)) rs t e

    nodes-stand : (g : ℕ) (env : Bindings) (vs : List Vertex) (after : Bindings) (t : Total T) → nodes_run run g env vs ≡ Some (after, t) → NodesYield T rest g env vs after t
    nodes-stand g env [] after t e = let p = pair-same {A = Bindings} (env, nothing T) (after, t) e in (sym p.0, sym p.1)
    nodes-stand g env (v ∷ vs) after t e =
        let x = and-then-some (read_all env v.ins) (λ ks. and_then (kind_run run v.kind ks) (λ x. and_then (nodes_run run g (Fired v.label x.0 env) vs) (λ y. Some (y.0, with_both T 1 (T.of_node g v ks x.0) x.1 y.1)))) (after, t) e in
        let y = and-then-some (kind_run run v.kind x.0) (λ z. and_then (nodes_run run g (Fired v.label z.0 env) vs) (λ y. Some (y.0, with_both T 1 (T.of_node g v x.0 z.0) z.1 y.1))) (after, t) x.2 in
        let z = and-then-some (nodes_run run g (Fired v.label y.0.0 env) vs) (λ z. Some (z.0, with_both T 1 (T.of_node g v x.0 y.0.0) y.0.1 z.1)) (after, t) y.2 in
        let p = pair-same {A = Bindings} (z.0.0, with_both T 1 (T.of_node g v x.0 y.0.0) y.0.1 z.0.1) (after, t) z.2 in (
          y.0.0,
          y.0.1,
          z.0.1,
          record { operands = x.0; reads = all-read env v.ins x.0 x.1; gives = kind-stands v.kind x.0 y.0.0 y.0.1 y.1 },
          subst (λ a. NodesYield T rest g (Fired v.label y.0.0 env) vs a z.0.1) p.0 (nodes-stand g (Fired v.label y.0.0 env) vs z.0.0 z.0.1 z.1),
          sym p.1,
        )

    graph-stands : (g : ℕ) (ins rs : List Carried) (t : Total T) → graph_run run g ins ≡ Some (rs, t) → GraphYields T u order rest g ins rs t
    graph-stands g ins rs t e =
        let x = and-then-some (nodes_run run g (Inputs ins) (order g)) (λ x. and_then (read_all x.0 (u g).results) (λ rs. Some (rs, and_results T x.1 (T.of_results g rs)))) (rs, t) e in
        let y = and-then-some (read_all x.0.0 (u g).results) (λ rs. Some (rs, and_results T x.0.1 (T.of_results g rs))) (rs, t) x.2 in
        let p = pair-same {A = List Carried} (y.0, and_results T x.0.1 (T.of_results g y.0)) (rs, t) y.2 in
        (x.0.0, x.0.1, nodes-stand g (Inputs ins) (order g) x.0.0 x.0.1 x.1, all-read x.0.0 (u g).results rs (y.1 ∙ ap Some p.0), sym p.1 ∙ ap (λ z. and_results T x.0.1 (T.of_results g z)) p.0)

    rows-stand : (g : ℕ) (rows lists : List (List Carried)) (t : Total T) → rows_run run g rows ≡ Some (lists, t) → RowsYield T u order rest g rows lists t
    rows-stand g [] lists t e = let p = pair-same {A = List (List Carried)} ([], nothing T) (lists, t) e in (sym p.0, sym p.1)
    rows-stand g (row ∷ rows) lists t e =
        let x = and-then-some (graph_run run g row) (λ x. and_then (rows_run run g rows) (λ y. Some (x.0 ∷ y.0, with_both T 1 T.none x.1 y.1))) (lists, t) e in
        let y = and-then-some (rows_run run g rows) (λ y. Some (x.0.0 ∷ y.0, with_both T 1 T.none x.0.1 y.1)) (lists, t) x.2 in
        let p = pair-same {A = List (List Carried)} (x.0.0 ∷ y.0.0, with_both T 1 T.none x.0.1 y.0.1) (lists, t) y.2 in
        (x.0.0, y.0.0, x.0.1, y.0.1, graph-stands g row x.0.0 x.0.1 x.1, rows-stand g rows y.0.0 y.0.1 y.1, sym p.0, sym p.1)

  steps-stand : (n : ℕ) (form : Form) (ks : List Carried) (next : Next) (rs : List Carried) (t : Total T) → steps_run n form ks next ≡ Some (rs, t) → Yields T u order n form ks next rs t
  steps-stand zero form ks next rs t e = absurd (none-some (rs, t) e)
  steps-stand (suc n) form ks (Leave outs) rs t e = let p = pair-same {A = List Carried} (outs, nothing T) (rs, t) e in (sym p.0, sym p.1)
  steps-stand (suc n) form ks (Enter b g ins stage) rs t e =
      let x = and-then-some (graph_run (steps_run n) g ins) (λ x. and_then (steps_run n form ks (follow form ks stage x.0)) (λ y. Some (y.0, with_both T (entry_fires b) T.none x.1 y.1))) (rs, t) e in
      let y = and-then-some (steps_run n form ks (follow form ks stage x.0.0)) (λ y. Some (y.0, with_both T (entry_fires b) T.none x.0.1 y.1)) (rs, t) x.2 in
      let p = pair-same {A = List Carried} (y.0.0, with_both T (entry_fires b) T.none x.0.1 y.0.1) (rs, t) y.2 in (
        x.0.0,
        x.0.1,
        y.0.1,
        graph-stands (steps_run n) (Yields T u order n) (steps-stand n) g ins x.0.0 x.0.1 x.1,
        subst (λ z. Yields T u order n form ks (follow form ks stage x.0.0) z y.0.1) p.0 (steps-stand n form ks (follow form ks stage x.0.0) y.0.0 y.0.1 y.1),
        sym p.1,
      )
  steps-stand (suc n) form ks (Iterate g row rows ms) rs t e =
      let x = and-then-some (rows_run (steps_run n) g (row ∷ rows)) (λ x. and_then (steps_run n form ks (gather form ks ms x.0)) (λ y. Some (y.0, with_both T 0 T.none x.1 y.1))) (rs, t) e in
      let y = and-then-some (steps_run n form ks (gather form ks ms x.0.0)) (λ y. Some (y.0, with_both T 0 T.none x.0.1 y.1)) (rs, t) x.2 in
      let p = pair-same {A = List Carried} (y.0.0, with_both T 0 T.none x.0.1 y.0.1) (rs, t) y.2 in (
        x.0.0,
        x.0.1,
        y.0.1,
        rows-stand (steps_run n) (Yields T u order n) (steps-stand n) g (row ∷ rows) x.0.0 x.0.1 x.1,
        subst (λ z. Yields T u order n form ks (gather form ks ms x.0.0) z y.0.1) p.0 (steps-stand n form ks (gather form ks ms x.0.0) y.0.0 y.0.1 y.1),
        sym p.1,
      )

  -- what so many steps compute is the ordered meaning
  pub computed : (n g : ℕ) (ins rs : List Carried) (t : Total T) → graph_run (steps_run n) g ins ≡ Some (rs, t) → MeansInOrder T u order g ins rs t
  computed n g ins rs t e = (n, graph-stands (steps_run n) (Yields T u order n) (steps-stand n) g ins rs t e)
