-- What stands with a number of steps stands with every greater one.
use Rattle.std.proofs.Common.{ℕ, zero, suc, ◌≤◌, List, [], ◌∷◌, arith}
use Rattle.graph_meaning.specs.Carried.{Carried}
use Rattle.graph_meaning.specs.Forms.{Form, Next, Enter, Iterate, Leave, next_of, first, follow, gather}
use Rattle.graph_meaning.specs.Demand.{Kind, Plain, Whole, Vertex, Network}
use Rattle.ordered_meaning.specs.Ordered.{Bindings, Inputs, Fired, Tally, Total, Rest, KindYields, NodesYield, GraphYields, RowsYield, Yields}

module _ (T : Tally) (u : Network) (order : ℕ → List Vertex) where
  Grows : Rest T → Rest T → Type 0
  Grows a b = (form : Form) (ks : List Carried) (next : Next) (rs : List Carried) (c : Total T) → a form ks next rs c → b form ks next rs c

  module _ (a b : Rest T) (up : (form : Form) (ks : List Carried) (next : Next) (rs : List Carried) (c : Total T) → a form ks next rs c → b form ks next rs c) where
    pub kind-on : (k : Kind) (ks rs : List Carried) (c : Total T) → KindYields T a k ks rs c → KindYields T b k ks rs c
    kind-on (Plain row shape) ks rs c h = h
    kind-on (Whole form) ks rs c h = up form ks (next_of (first form ks)) rs c h

    pub nodes-on : (g : ℕ) (env : Bindings) (vs : List Vertex) (after : Bindings) (c : Total T) → NodesYield T a g env vs after c → NodesYield T b g env vs after c
    nodes-on g env [] after c h = h
    nodes-on g env (v ∷ vs) after c h = (
      h.0,
      h.1,
      h.2,
      record { operands = h.3.operands; reads = h.3.reads; gives = kind-on v.kind h.3.operands h.0 h.1 h.3.gives },
      nodes-on g (Fired v.label h.0 env) vs after h.2 h.4,
      h.5,
    )

    pub graph-on : (g : ℕ) (ins rs : List Carried) (c : Total T) → GraphYields T u order a g ins rs c → GraphYields T u order b g ins rs c
    graph-on g ins rs c h = (h.0, h.1, nodes-on g (Inputs ins) (order g) h.0 h.1 h.2, h.3, h.4)

    pub rows-on : (g : ℕ) (rows lists : List (List Carried)) (c : Total T) → RowsYield T u order a g rows lists c → RowsYield T u order b g rows lists c
    rows-on g [] lists c h = h
    rows-on g (row ∷ rows) lists c h = (h.0, h.1, h.2, h.3, graph-on g row h.0 h.2 h.4, rows-on g rows h.1 h.3 h.5, h.6, h.7)

  pub yields-on : (n m : ℕ) → n ≤ m → (form : Form) (ks : List Carried) (next : Next) (rs : List Carried) (c : Total T) → Yields T u order n form ks next rs c → Yields T u order m form ks next rs c
  yields-on zero m le form ks next rs c h = absurd h
  yields-on (suc n) zero le form ks next rs c h = absurd (omega (arith, le))
  yields-on (suc n) (suc m) le form ks (Leave outs) rs c h = h
  yields-on (suc n) (suc m) le form ks (Enter t g ins stage) rs c h =
      let on = yields-on n m (omega (arith, le)) in
      (h.0, h.1, h.2, graph-on (Yields T u order n) (Yields T u order m) on g ins h.0 h.1 h.3, on form ks (follow form ks stage h.0) rs h.2 h.4, h.5)
  yields-on (suc n) (suc m) le form ks (Iterate g row rows ms) rs c h =
      let on = yields-on n m (omega (arith, le)) in
      (h.0, h.1, h.2, rows-on (Yields T u order n) (Yields T u order m) on g (row ∷ rows) h.0 h.1 h.3, on form ks (gather form ks ms h.0) rs h.2 h.4, h.5)
