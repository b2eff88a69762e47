-- A compound node has no more graphs inside than the unit has graphs, and its association list names none but these.
use Rattle.std.proofs.Common.{◌≡◌, ℕ, suc, ◌+◌, ◌<◌, ◌≤◌, List, [], ◌∷◌, ◌++◌, length, None, refl, ap, arith}
use Rattle.std.specs.Prelude.{All, ◌^◌}
use Rattle.std.proofs.lemmas.List.{length-append}
use Rattle.std.proofs.lemmas.List.Elements.{All-nil, All-cons, All-head, All-tail, All-append, All-weaker}
use Rattle.type_table.specs.declared.form.Form.{Form}
use Rattle.typed_tree.specs.declared.program.Function.{Function}
use Rattle.lowering.specs.declared.feed.Wire.{Wire}
use Rattle.lowering.specs.declared.graph.Action.{Action}
use Rattle.lowering.specs.declared.graph.Action.TheVariants.{Row, Call, Whole}
use Rattle.lowering.specs.declared.graph.LoweredNode.{LoweredNode}
use Rattle.lowering.specs.declared.graph.LoweredGraph.{LoweredGraph}
use Rattle.lowering.specs.declared.graph.Lowered.{Lowered}
use Rattle.lowering.specs.Graphs.{size, numbers, closed, closed_nodes, closed_graphs, inputs}
use Rattle.lowering.specs.TooMany.{most_graphs, graph_ports, graphs_over}
use Rattle.lowered_units.proofs.Built.{Fills, fills_row, fills_reduction, fills_call, Built, b_only, b_then, b_node, b_whole, b_tag, AllBuilt, no_graph, a_graph}
use Rattle.lowered_units.proofs.Forming.{IsSmallAction, HasSmallAction, few-over}

-- at most so many graphs inside, and arms among them
abbrev pub IsCounted : ℕ → Action → Type 0
IsCounted most (Whole c gs arms given outs) = (length gs ≤ most) × All (λ k. k ≤ most) arms
IsCounted most a = Unit {0}

abbrev pub IsNodeCounted : ℕ → LoweredNode → Type 0
IsNodeCounted most v = IsCounted most v.action

abbrev pub IsGraphCounted : ℕ → LoweredGraph → Type 0
IsGraphCounted most d = All (IsNodeCounted most) d.nodes

counted-small : (most : ℕ) (a : Action) → most < 2 ^ 32 → IsCounted most a → IsSmallAction a
counted-small most (Row op) few h = tt
counted-small most (Call f) few h = tt
counted-small most (Whole c gs arms given outs) few h = (omega (arith, few, h.0), All-weaker (λ k. k ≤ most) (λ k. k < 2 ^ 32) (λ k y. omega (arith, few, y)) arms h.1)

pub nodes-small : (vs : List LoweredNode) → All (IsNodeCounted most_graphs) vs → All HasSmallAction vs
nodes-small vs h = All-weaker (IsNodeCounted most_graphs) HasSmallAction (λ v y. counted-small most_graphs v.action (omega arith) y) vs h

closed-counted : (most : ℕ) (ks : List Wire) (first own : ℕ) (vs : List LoweredNode) → All (IsNodeCounted most) vs → All (IsNodeCounted most) (closed_nodes ks first own vs)
closed-counted most ks first own [] h = All-nil (IsNodeCounted most)
closed-counted most ks first own (v ∷ vs) h =
    All-cons (IsNodeCounted most) _ (closed_nodes ks first own vs) (All-head (IsNodeCounted most) v vs h) (closed-counted most ks first own vs (All-tail (IsNodeCounted most) v vs h))

length-numbers : (q : ℕ) (ms : List Lowered) → length (numbers q ms) ≡ length ms
length-numbers q [] = refl
length-numbers q (m ∷ ms) = ap suc (length-numbers (q + size m) ms)

as-many : (ks : List Wire) (first own : ℕ) (ms : List Lowered) → length ms ≤ length (closed_graphs ks first own ms)
as-many ks first own [] = omega arith
as-many ks first own (m ∷ ms) =
    let rest = as-many ks first own ms in
    let both = length-append m.graphs (closed_graphs ks first own ms) in
    omega (arith, rest, both)

one-counted : (most n q : ℕ) (ms : List Lowered) (gs : List LoweredGraph) (arms : List ℕ) → length ms ≤ length gs → length gs ≤ most → All (λ k. k ≤ length ms) arms → (length (numbers q ms) ≤ most) × All (λ k. k ≤ most) arms
one-counted most n q ms gs arms s few h =
    let same = length-numbers q ms in
    (omega (arith, same, s, few), All-weaker (λ k. k ≤ length ms) (λ k. k ≤ most) (λ k y. omega (arith, s, few, y)) arms h)

module _ (forms : List Form) (functions most : ℕ) where
  plain-counted : (a : Action) (ws : List Wire) → Fills forms functions a ws → IsCounted most a
  plain-counted _ _ (fills_row op ws h k) = tt
  plain-counted _ _ (fills_reduction g name ws h k) = tt
  plain-counted _ _ (fills_call f ws h k) = tt

  mutual
    counted : (n q : ℕ) (m : Lowered) → Built forms functions n q m → length m.graphs ≤ most → All (IsNodeCounted most) m.nodes × All (IsGraphCounted most) m.graphs
    counted _ _ _ (b_only n q ws h) few = (All-nil (IsNodeCounted most), All-nil (IsGraphCounted most))
    counted _ _ _ (b_then n q a b h k) few =
        let both = length-append a.graphs b.graphs in
        let l = counted n q a h (omega (arith, few, both)) in
        let r = counted (n + length a.nodes) (q + length a.graphs) b k (omega (arith, few, both)) in
        (All-append (IsNodeCounted most) a.nodes b.nodes l.0 r.0, All-append (IsGraphCounted most) a.graphs b.graphs l.1 r.1)
    counted _ _ _ (b_node n q act ins port ts h one k) few = (All-cons (IsNodeCounted most) _ [] (plain-counted act ins h) (All-nil (IsNodeCounted most)), All-nil (IsGraphCounted most))
    counted _ _ _ (b_whole n q c ms arms given ts h s l k) few =
        let ks = inputs ms in
        (All-cons (IsNodeCounted most) _ [] (one-counted most n q ms (closed_graphs ks 0 (length ks) ms) arms (as-many ks 0 (length ks) ms) few l) (All-nil (IsNodeCounted most)), all-counted ks 0 (length ks) q ms h few)
    counted _ _ _ (b_tag n q u ms arms ts g h s l k) few =
        let ks = inputs ms in
        (All-cons (IsNodeCounted most) _ [] (one-counted most n q ms (closed_graphs ks 1 0 ms) arms (as-many ks 1 0 ms) few l) (All-nil (IsNodeCounted most)), all-counted ks 1 0 q ms h few)

    pub all-counted : (ks : List Wire) (first own q : ℕ) (ms : List Lowered) → AllBuilt forms functions q ms → length (closed_graphs ks first own ms) ≤ most → All (IsGraphCounted most) (closed_graphs ks first own ms)
    all-counted ks first own _ _ (no_graph q) few = All-nil (IsGraphCounted most)
    all-counted ks first own _ _ (a_graph q m ms h r) few =
        let both = length-append m.graphs (closed_graphs ks first own ms) in
        let here = counted 0 (suc q) m h (omega (arith, few, both)) in
        All-cons (IsGraphCounted most) (closed ks first own m) (m.graphs ++ closed_graphs ks first own ms) (closed-counted most ks first own m.nodes here.0)
        (All-append (IsGraphCounted most) m.graphs (closed_graphs ks first own ms) here.1 (all-counted ks first own (q + size m) ms r (omega (arith, few, both))))

pub few-in-all : (fs : List Function) (ms : List Lowered) (before ports : ℕ) → length fs ≡ length ms → before ≤ most_graphs → graphs_over fs ms before ports ≡ None → before + length (closed_graphs [] 0 0 ms) ≤ most_graphs
few-in-all [] [] before ports l k e = omega (arith, k)
few-in-all [] (m ∷ ms) before ports l k e = absurd (omega (arith, l))
few-in-all (f ∷ fs) [] before ports l k e = absurd (omega (arith, l))
few-in-all (f ∷ fs) (m ∷ ms) before ports l k e =
    let all = few-over f fs m ms before ports e in
    let both = length-append m.graphs (closed_graphs [] 0 0 ms) in
    let rest = few-in-all fs ms (before + size m) (ports + graph_ports (closed_graphs [] 0 0 (m ∷ []))) (omega (arith, l)) all.few_graphs all.rest in
    omega (arith, both, rest)
