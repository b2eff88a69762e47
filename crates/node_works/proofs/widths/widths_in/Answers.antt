use Rattle.std.proofs.Common.{◌≡◌, ◌∙◌, ◌+◌, ◌<◌, ◌∷◌, ◌++◌, [], ℕ, List, get_or, length, map, take, ap, sym, subst}
use Rattle.std.proofs.lemmas.List.{map-append, take_more}
use Rattle.if1_graph.specs.declared.graph.Graph.TheViews.{out-Graph}
use Rattle.if1_graph.specs.declared.graph.Node.{Node}
use Rattle.graph_meaning.specs.Networks.{kind_of}
use Rattle.unit_plan.specs.Plans.{outputs_in}
use Rattle.node_works.proofs.widths.widths_in.Goals as goal

pub loop-node-preserved : goal.loop-node-preserved
loop-node-preserved c u t ready =
    let ns = (out-Graph c.args.graph.now).nodes in
    let i = c.loop-node.node-index in
    let n = c.node-item.result in
    let f : Node → ℕ = λ n. outputs_in u (kind_of u c.args.graph.now n) in
    let more : take (i + 1) ns ≡ take i ns ++ n ∷ [] =
    take_more ns i n (subst (λ (ns : List Node). i < length ns) c.as_slice-node-items.ensures c.loop-node-test.true)
    ∙ ap (λ x. take i ns ++ x ∷ []) (sym (c.node-item.is ∙ ap (λ (ns : List Node). get_or ns i n) c.as_slice-node-items.ensures)) in
    c.in_ok-add.ensures.ok
    ∙ ap (λ ws. ws ++ c.width_of.result ∷ []) (c.loop-node.invariant u t ready)
    ∙ ap (λ w. map f (take i ns) ++ w ∷ []) (c.width_of.ensures u t ready)
    ∙ sym (ap (map f) more ∙ map-append f (take i ns) (n ∷ []))
