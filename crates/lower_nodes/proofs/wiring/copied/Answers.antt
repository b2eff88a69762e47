use Rattle.std.proofs.Common.{◌∙◌, ◌++◌, ◌∷◌, [], List, take, ap, sym}
use Rattle.std.proofs.lemmas.List.{take_more}
use Rattle.lowering.specs.declared.feed.Wire.{Wire}
use Rattle.lower_nodes.proofs.wiring.copied.Goals as goal

pub loop-w-preserved : goal.loop-w-preserved
loop-w-preserved c =
    let ws = c.args.wires.now in
    let i = c.loop-w.w-index in
    c.in_ok-add.ensures.ok
    ∙ ap (λ (k : List Wire). k ++ c.in_ok-copy_wire.field-0 ∷ []) c.loop-w.invariant
    ∙ ap (λ (w : Wire). take i ws ++ w ∷ []) (c.in_ok-copy_wire.ensures ∙ c.w-item.is)
    ∙ sym (take_more ws i c.w-item.result c.loop-w-test.true)
