-- Where edges lead from lower labels to higher ones, no node reaches itself.
use Rattle.std.proofs.Common.{◌∙◌, sym, ℕ, ◌<◌, arith}
use Rattle.std.proofs.lemmas.List.Elements.{All-contains}
use Rattle.if1_graph.specs.declared.graph.Graph.{Graph}
use Rattle.if1_graph.specs.declared.graph.Graph.TheViews.{out-Graph}
use Rattle.if1_graph.specs.Cycles.{Feeds, Reaches}
use Rattle.if1_graph.specs.Cycles as cycles
use Rattle.if1_order.specs.Orders.{HasNoCircle}
use Rattle.if1_order.specs.Rising.{LeadsOn, AllLeadOn}

feeds_on : (g : Graph) → AllLeadOn (out-Graph g).edges → (l m : ℕ) → Feeds g l m → l < m
feeds_on g all l m f =
    let on : l < f.edge.node = All-contains LeadsOn (out-Graph g).edges f.edge all f.there l f.source (λ z. f.no_boundary (sym f.target ∙ z)) in
    omega (arith, on, f.target)

reaches_on : (g : Graph) → AllLeadOn (out-Graph g).edges → {l m : ℕ} → Reaches g l m → l < m
reaches_on g all {l = l} {m = m} (cycles.edge f) = feeds_on g all l m f
reaches_on g all {l = l} {m = n} (cycles.path {m = m} f r) = omega (arith, feeds_on g all l m f, reaches_on g all r)

pub none_circles : (g : Graph) → AllLeadOn (out-Graph g).edges → HasNoCircle g
none_circles g all l r = omega (arith, reaches_on g all r)
