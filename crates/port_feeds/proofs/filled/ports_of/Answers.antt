use Rattle.std.proofs.Common.{◌∷◌, [], ◌++◌, List, All, Contains, None, length, map, filter, replicate, ◌==◌, ◌+◌, ◌-◌, ◌≡◌, AllPairs, sym, ap, ◌∙◌, subst, arith}
use Rattle.std.proofs.lemmas.List.{length-append, length-replicate}
use Rattle.gapped.specs.Spread.{spread}
use Rattle.gapped.proofs.Spreading.{spread-more}
use Rattle.if1_graph.specs.declared.graph.Edge.{Edge}
use Rattle.if1_graph.specs.Normal.{Precedes}
use Rattle.if1_graph.specs.Ports.{inputs}
use Rattle.if1_graph.specs.Units.{Place, greatest, places, width}
use Rattle.graph_meaning.specs.Networks.{sources}
use Rattle.graph_meaning.specs.StorageUnits.{storage_of}
use Rattle.if1_graph.specs.declared.graph.Graph.TheViews.{out-Graph}
use Rattle.plan_data.specs.Parts.{IsBelow}
use Rattle.plan_builder.specs.Feeds.{IsInput}
use Rattle.plan_builder.specs.Outlets.{cells_of}
use Rattle.port_feeds.specs.declared.filled.Filled.{Filled}
use Rattle.port_feeds.specs.Filled.{AreFilled, ArePorts, AreTold, IsPort}
use Rattle.port_feeds.specs.Found.{edge_found}
use Rattle.port_feeds.proofs.Right.{edges-in-order, right-none}
use Rattle.port_feeds.proofs.Rows.{below-of, filled-of, ports-behind, ports-joined, ports-later, there-of, told-of}
use Rattle.port_feeds.proofs.filled.ports_of.Goals as goal

pub edges_into-requires : goal.edges_into-requires
edges_into-requires c =
    subst (AllPairs Precedes) (sym c.as_slice-edges.ensures) (edges-in-order c.args.unit.now c.unit-whole.ensures.normal c.args.graph.now c.args.outlets.now c.requires.place)

pub port_behind-next-requires-clause-order : goal.port_behind-next-requires-clause-order
port_behind-next-requires-clause-order c =
    subst (AllPairs Precedes) (sym c.as_slice-edges.ensures) (edges-in-order c.args.unit.now c.unit-whole.ensures.normal c.args.graph.now c.args.outlets.now c.requires.place)

pub loop-place-preserved : goal.loop-place-preserved
loop-place-preserved c =
    let u = c.args.unit.now in
    let g = c.args.graph.now in
    let x = c.args.outlets.now in
    let l = c.args.label in
    let inv = c.loop-place.invariant in
    let cs = c.port_at.new.literals in
    let none = c.unfilled-none.result in
    let f = c.in_ok-port.port in
    let n = c.port_behind-next.result in
    let k = n - c.loop-place.place - 1 in
    let before = spread none c.loop-place.gaps c.loop-place.ports in
    let long = inv.long in
    let even = inv.even in
    let behind = c.port_behind-next.ensures.behind in
    let up = c.port_behind-next.ensures.up in
    let gaps : c.add.new.self ≡ c.loop-place.gaps ++ k ∷ [] = c.in_ok-add.ensures.ok in
    let ports : c.add-in-loop-place.new.self ≡ c.loop-place.ports ++ f ∷ [] = c.in_ok-add-2.ensures.ok in
    let all : spread none c.add.new.self c.add-in-loop-place.new.self ≡ before ++ (replicate k none ++ (f ∷ [])) =
    ap (λ z. spread none z c.add-in-loop-place.new.self) gaps ∙ (ap (spread none (c.loop-place.gaps ++ k ∷ [])) ports ∙ spread-more none c.loop-place.gaps c.loop-place.ports k f even) in
    let a = length-append before (replicate k none ++ (f ∷ [])) in
    let b = length-append (replicate k none) (f ∷ []) in
    let d = length-replicate k none in
    let e = ap length all in
    let more = ap length gaps ∙ length-append c.loop-place.gaps (k ∷ []) in
    let others = ap length ports ∙ length-append c.loop-place.ports (f ∷ []) in
    let later = ports-later u g x l c.loop-place.literals cs c.port_at.ensures.kept 1 before inv.right in
    let w = c.unfilled-none.ensures in
    record {
      long = omega (arith, a, b, d, e, long, behind);
      up = up;
      even = omega (arith, more, others, even);
      kept = λ D h. inv.kept D (c.port_at.ensures.kept D h);
      right = subst (ArePorts u g x cs l 1) (sym all)
          (ports-joined u g x l cs 1 (c.loop-place.place + 1) before (replicate k none ++ (f ∷ [])) later (omega (arith, long))
          (ports-behind u g x l cs (c.loop-place.place + 1) k none f
          (λ j from to.
          let free = subst (λ (es : List Edge). edge_found es l j ≡ None) c.as_slice-edges.ensures (c.port_behind-next.ensures.between j (omega (arith, from)) (omega (arith, to, behind))) in
          right-none u c.unit-whole.ensures.ready g x c.requires.place cs l j none free w.fed w.below w.input w.takes w.consumed w.aggregate)
          (subst (λ j. IsPort u g x cs l j f) (omega (arith, behind)) c.in_ok-port.ensures.right)));
    }

pub returns-clause-filled : goal.returns-clause-filled
returns-clause-filled c D P S zero lits laid =
    let u = c.args.unit.now in
    let g = c.args.graph.now in
    let l = c.args.label in
    let wide = c.greatest_port-width.ensures
    ∙ ap (λ (es : List Edge). greatest (map (λ e. e.port) es)) (c.edges_into.ensures ∙ ap (λ (es : List Edge). filter (λ e. e.node == l) es) c.as_slice-edges.ensures) in
    let end = c.loop-place-test.false in
    let long = c.loop-place.invariant.long in
    let up = c.loop-place.invariant.up in
    let xs = spread c.unfilled-none.result c.loop-place.gaps c.loop-place.ports in
    subst (λ ys. AreFilled D P S (storage_of u) (out-Graph g).number l 1 ys (sources u g l 1 (width g l))) (sym c.new.ensures)
    (subst (λ n. AreFilled D P S (storage_of u) (out-Graph g).number l 1 xs (sources u g l 1 n)) (omega (arith, wide, up, end, long))
    (filled-of u g c.args.outlets.now l c.loop-place.literals 1 xs c.loop-place.invariant.right D P S zero lits laid))

pub returns-clause-long : goal.returns-clause-long
returns-clause-long c =
    let wide = c.greatest_port-width.ensures
    ∙ ap (λ (es : List Edge). greatest (map (λ e. e.port) es)) (c.edges_into.ensures ∙ ap (λ (es : List Edge). filter (λ e. e.node == c.args.label) es) c.as_slice-edges.ensures) in
    let end = c.loop-place-test.false in
    let long = c.loop-place.invariant.long in
    let up = c.loop-place.invariant.up in
    let same = ap length c.new.ensures in
    omega (arith, same, wide, up, end, long)

pub returns-clause-below : goal.returns-clause-below
returns-clause-below c =
    subst (λ ys. All (λ (y : Filled). IsBelow (cells_of c.args.outlets.now.widths c.args.outlets.now.order) y.feed) ys) (sym c.new.ensures)
    (below-of c.args.unit.now c.args.graph.now c.args.outlets.now c.args.label c.loop-place.literals 1 (spread c.unfilled-none.result c.loop-place.gaps c.loop-place.ports) c.loop-place.invariant.right)

pub returns-clause-there : goal.returns-clause-there
returns-clause-there c =
    subst (λ ys. (p : Place) → Contains (places c.args.unit.now) p → p.graph ≡ c.args.graph.now → All (λ (y : Filled). IsInput (inputs c.args.unit.now p) y.feed) ys) (sym c.new.ensures)
    (there-of c.args.unit.now c.args.graph.now c.args.outlets.now c.args.label c.loop-place.literals 1 (spread c.unfilled-none.result c.loop-place.gaps c.loop-place.ports) c.loop-place.invariant.right)

pub returns-clause-told : goal.returns-clause-told
returns-clause-told c =
    subst (AreTold (storage_of c.args.unit.now) (out-Graph c.args.graph.now).number c.args.label 1) (sym c.new.ensures)
    (told-of c.args.unit.now c.args.graph.now c.args.outlets.now c.args.label c.loop-place.literals 1 (spread c.unfilled-none.result c.loop-place.gaps c.loop-place.ports) c.loop-place.invariant.right)
