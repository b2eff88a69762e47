use Rattle.std.proofs.Common.{◌∙◌, ◌++◌, ◌∷◌, [], List, map, take, ap}
use Rattle.lowering.specs.declared.feed.Wire.{Wire}
use Rattle.lowering.specs.Feeds.{into}
use Rattle.lower_nodes.proofs.Lists.{map_snoc}
use Rattle.lower_nodes.proofs.wiring.inside.Goals as goal

pub loop-w-preserved : goal.loop-w-preserved
loop-w-preserved c =
    let ws = c.args.wires.now in
    let i = c.loop-w.w-index in
    c.in_ok-add.ensures.ok
    ∙ ap (λ (k : List Wire). k ++ c.in_ok-into.field-0 ∷ []) c.loop-w.invariant
    ∙ ap (λ (w : Wire). map into (take i ws) ++ w ∷ []) (c.in_ok-into.ensures ∙ ap into c.w-item.is)
    ∙ map_snoc into ws i c.w-item.result c.loop-w-test.true
