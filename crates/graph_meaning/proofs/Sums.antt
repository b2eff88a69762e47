-- Where the cost of a graph without a cycle is defined, each sum by its recursion is.
use Rattle.std.proofs.Common.{◌≡◌, ℕ, zero, suc, ◌+◌, ◌≤◌, Bool, true, false, List, [], ◌∷◌, map, Option, Some, None, refl, subst, arith}
use Rattle.graph_meaning.specs.Entered.{Entered, Steps, Left, Unshown, GraphStep, SliceStep, cost, plus, IsWhole, AreWhole, all_given}
use Rattle.graph_meaning.specs.Carried.{Carried}
use Rattle.graph_meaning.specs.Forms.{Form, Next, Stage, Enter, Iterate, Leave, next_of, first, follow, gather}
use Rattle.graph_meaning.specs.Demand.{Kind, Plain, Whole, Vertex, Network, all, operands, of_node, leads_to, dem, compound, steps_of, node_tree, nodes_tree, on_results, slice_cost, tree_from, tree, EachNode}
use Rattle.graph_meaning.specs.Plain.{is_deeper}
use Rattle.graph_meaning.specs.Storage.{Weights, NodesAdd, no_node, a_node, InnerAdds, of_simple, of_whole, LaterAdds, of_leaving, of_graph, of_deeper, of_iterations, RowsAdd, of_no_row, of_row, GraphAdds, of_nodes, copying, writing, capped}
use Rattle.graph_meaning.specs.Laws.{AreSumsDefined, AreCopiesDefined}
use Rattle.graph_meaning.proofs.Ranks.{AreRanked, ranked}
use Rattle.graph_meaning.proofs.Depths.{plus-left, plus-right, cost-whole}
use Rattle.graph_meaning.proofs.Given.{Full, nodes-full, whole-results}
use Rattle.graph_meaning.proofs.PlainValues.{operands-stand, rows-stand, leads, node-outputs}
use Rattle.graph_meaning.proofs.PlainCosts.{one, nodes-from}

compound-whole : (v : Vertex) (p : Steps) (r : Entered) → IsWhole (compound v p r) → AreWhole p × IsWhole r
compound-whole v Left r h = (tt, h.2)
compound-whole v Unshown r h = absurd h.1
compound-whole v (GraphStep t a q) r h = ((h.0, h.1), h.2)
compound-whole v (SliceStep cs q) r h = (h.1, h.2)

results-whole : {A : Type 0} (o : Option A) (f : A → Steps) → AreWhole (on_results o f) → (a : A) × (o ≡ Some a) × AreWhole (f a)
results-whole None f h = absurd h
results-whole (Some a) f h = (a, refl, h)

given-some : (o : Option ℕ) → all_given (o ∷ []) → (c : ℕ) × (o ≡ Some c)
given-some None h = absurd h
given-some (Some c) h = (c, refl)

module _ (u : Network) (ready : AreRanked u) (w : Weights) where
  -- what m steps show whole has a sum at each depth from m on
  abbrev AddsFrom : ℕ → Type 0
  AddsFrom m = (n : ℕ) → m ≤ n → (form : Form) (ks : List Carried) (next : Next) → AreWhole (tree_from one m u form ks next) → (s : ℕ) × LaterAdds u w n form ks next s

  module _ (m : ℕ) (h : AddsFrom m) (n : ℕ) (le : m ≤ n) where
    inner-adds : (v : Vertex) (k : Kind) (ks : List Carried) (rest : Entered) → IsWhole (node_tree (tree_from one m u) v k (Some ks) rest) → (s : ℕ) × InnerAdds u w n k ks s × IsWhole rest
    inner-adds v (Plain row shape) ks rest whole = (0, of_simple n row shape ks, whole)
    inner-adds v (Whole form) ks rest whole =
        let x = compound-whole v (steps_of (tree_from one m u) form (Some ks)) rest whole in
        let s = h n le form ks (next_of (first form ks)) x.0 in
        (s.0, of_whole n form ks s.0 s.1, x.1)

    nodes-add : (g : ℕ) (ins : List Carried) (vs : List Vertex) → EachNode (Full one u m (u g) (ready g) ins) vs
        → IsWhole (nodes_tree (tree_from one m u) (λ v. operands (of_node (leads_to m u)) (u g) ins v.ins) vs) → (s : ℕ) × NodesAdd u w n g ins vs s
    nodes-add g ins [] f whole = (0, no_node n g ins)
    nodes-add g ins (v ∷ vs) f whole =
        let x = f.0 in
        let rest = nodes_tree (tree_from one m u) (λ v. operands (of_node (leads_to m u)) (u g) ins v.ins) vs in
        let i = inner-adds v v.kind x.0 rest (subst (λ o. IsWhole (node_tree (tree_from one m u) v v.kind o rest)) x.2 whole) in
        let r = nodes-add g ins vs f.1 i.2 in
        (w.of_node g v x.0 x.1 + (i.0 + r.0), a_node n g ins v vs x.0 x.1 i.0 r.0 (operands-stand u m n le g ins v.ins x.0 x.2) (node-outputs u m (leads u m) n le v x.0 x.1 x.3) i.1 r.1)

    graph-adds : (g : ℕ) (ins : List Carried) → IsWhole (tree one m u g ins) → (s : ℕ) × GraphAdds u w n g ins s
    graph-adds g ins whole =
        let x = nodes-add g ins (u g).nodes (nodes-full one u m (u g) (ready g) ins whole) whole in
        let r = whole-results one u m (u g) (ready g) ins whole in
        (w.of_results g r.0 + x.0, of_nodes n g ins r.0 x.0 (operands-stand u m n le g ins (u g).results r.0 r.1) x.1)

    rows-add : (g : ℕ) (rows : List (List Carried)) (c : ℕ) → slice_cost (λ ins. tree one m u g ins) rows ≡ Some c → (s : ℕ) × RowsAdd u w n g rows s
    rows-add g [] c e = (0, of_no_row n g)
    rows-add g (ins ∷ rows) c e =
        let a = plus-left (plus (Some 1) (cost (tree one m u g ins))) (slice_cost (λ ins. tree one m u g ins) rows) c e in
        let b = plus-right (plus (Some 1) (cost (tree one m u g ins))) (slice_cost (λ ins. tree one m u g ins) rows) c e in
        let d = plus-right (Some 1) (cost (tree one m u g ins)) a.0 a.1 in
        let x = graph-adds g ins (cost-whole (tree one m u g ins) d.0 d.1) in
        let r = rows-add g rows b.0 b.1 in
        (x.0 + r.0, of_row n g ins rows x.0 r.0 x.1 r.1)

  entered : (m : ℕ) → AddsFrom m → (form : Form) (ks : List Carried) (t : Bool) (g : ℕ) (ins : List Carried) (stage : Stage) (ms : List Carried)
      → IsWhole (tree one m u g ins) → dem m u g ins ≡ Some ms → AreWhole (tree_from one m u form ks (follow form ks stage ms))
      → (n : ℕ) → suc m ≤ n → (b : Bool) → is_deeper form t ≡ b → (s : ℕ) × LaterAdds u w n form ks (Enter t g ins stage) s
  entered m h form ks t g ins stage ms a f r n le false b =
      let e : m ≤ n = omega (arith, le) in
      let x = graph-adds m h n e g ins a in
      let y = h n e form ks (follow form ks stage ms) r in
      (x.0 + y.0, of_graph n form ks t g ins stage ms x.0 y.0 b (operands-stand u m n e g ins (u g).results ms f) x.1 y.1)
  entered m h form ks t g ins stage ms a f r zero le true b = absurd (omega (arith, le))
  entered m h form ks t g ins stage ms a f r (suc n) le true b =
      let e : m ≤ n = omega (arith, le) in
      let x = graph-adds m h n e g ins a in
      let y = h n e form ks (follow form ks stage ms) r in
      (x.0 + y.0, of_deeper n form ks t g ins stage ms x.0 y.0 b (operands-stand u m n e g ins (u g).results ms f) x.1 y.1)

  later-adds : (m : ℕ) → AddsFrom m
  later-adds zero n le form ks next whole = absurd whole
  later-adds (suc m) n le form ks (Leave rs) whole = (0, of_leaving n form ks rs)
  later-adds (suc m) n le form ks (Enter t g ins stage) whole =
      let r = results-whole (dem m u g ins) (λ rs. tree_from one m u form ks (follow form ks stage rs)) whole.1 in
      entered m (later-adds m) form ks t g ins stage r.0 whole.0 r.1 r.2 n le (is_deeper form t) refl
  later-adds (suc m) n le form ks (Iterate g row rows ms) whole =
      let e : m ≤ n = omega (arith, le) in
      let c = given-some (slice_cost (λ ins. tree one m u g ins) (row ∷ rows)) whole.0 in
      let r = results-whole (all (map (λ ins. dem m u g ins) (row ∷ rows))) (λ rs. tree_from one m u form ks (gather form ks ms rs)) whole.1 in
      let x = rows-add m (later-adds m) n e g (row ∷ rows) c.0 c.1 in
      let y = later-adds m n e form ks (gather form ks ms r.0) r.2 in
      (x.0 + y.0, of_iterations n form ks g row rows ms r.0 x.0 y.0 (rows-stand u m n e g (row ∷ rows) r.0 r.1) x.1 y.1)

pub sums-defined : AreSumsDefined
sums-defined u w g ins c n orderly costs =
    let x = nodes-from u n g ins (u g).nodes c costs in
    let s = graph-adds u (ranked u orderly) w x.0 (later-adds u (ranked u orderly) w x.0) x.0 (omega arith) g ins (cost-whole (tree one x.0 u g ins) c (x.1 x.0 (omega arith))) in
    (x.0, s.0, s.1)

pub copies-defined : AreCopiesDefined
copies-defined storage u g ins c n orderly costs =
    let a = sums-defined u (copying storage) g ins c n orderly costs in
    let b = sums-defined u (writing storage) g ins c n orderly costs in
    ((a.0, capped a.1, (a.1, a.2, refl)), (b.0, capped b.1, (b.1, b.2, refl)))
