-- The graphs of a unit, as they are lent.
use Rattle.std.proofs.Common.{◌≡◌, ◌∙◌, ℕ, ◌<◌, List, AllPairs, length, get_or, Bor, sym, ap, subst, arith}
use Rattle.std.proofs.lemmas.List.{get_or-map, length-map}
use Rattle.std.proofs.lemmas.List.Elements.{All-contains, Contains-get_or}
use Rattle.if1_graph.specs.declared.graph.Graph.{Graph}
use Rattle.if1_graph.specs.declared.graph.Graph.TheViews.{out-Graph}
use Rattle.if1_graph.specs.declared.graph.Unit1.{Unit1}
use Rattle.if1_graph.specs.Normal.{IsNormal, IsNormalGraph, Precedes}
use Rattle.if1_graph.specs.Units.{Place, places, Function}
use Rattle.mark_check.specs.Graphs.{lent, unit_graphs}
use Rattle.node_works.specs.Tables.{IsGraphOf}

pub graph-of : (u : Unit1) (gs : List (Bor Graph)) → lent gs ≡ unit_graphs u → (i : ℕ) (r : Bor Graph) → i < length gs → r ≡ get_or gs i r → IsGraphOf u r.now
graph-of u gs are i r lt is =
    let long = sym (length-map gs (λ (g : Bor Graph). g.now)) ∙ (ap length are ∙ length-map (places u) (λ (p : Place). p.graph)) in
    let low : i < length (places u) = omega (arith, lt, long) in
    let p : Place = get_or (places u) i (record { graph = r.now; home = Function 0 }) in
    let here : get_or (lent gs) i r.now ≡ r.now = get_or-map (λ (g : Bor Graph). g.now) gs i r r.now lt ∙ ap (λ (g : Bor Graph). g.now) (sym is) in
    let there : get_or (unit_graphs u) i r.now ≡ p.graph = get_or-map (λ (p : Place). p.graph) (places u) i (record { graph = r.now; home = Function 0 }) r.now low in
    (p, Contains-get_or (places u) i (record { graph = r.now; home = Function 0 }) low, sym there ∙ (ap (λ (hs : List Graph). get_or hs i r.now) (sym are) ∙ here))

pub edges-follow : (u : Unit1) → IsNormal u → (g : Graph) → IsGraphOf u g → AllPairs Precedes (out-Graph g).edges
edges-follow u normal g here =
    subst (λ (g : Graph). AllPairs Precedes (out-Graph g).edges) here.2 (All-contains (IsNormalGraph u) (places u) here.0 normal here.1).edges
