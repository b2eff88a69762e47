use Rattle.std.proofs.Common.{◌+◌, List, ◌∙◌, ap, sym, drop}
use Rattle.lowering.specs.declared.feed.Wire.{Wire}
use Rattle.lowering.specs.Feeds.{outsides, distinct}
use Rattle.lowered_data.proofs.Lists.{rest_is, one_more}
use Rattle.lowered_data.proofs.keys.Keys.add_all.Goals as goal

pub loop-w-preserved : goal.loop-w-preserved
loop-w-preserved c =
    let ws = c.args.wires.now in
    let rest = drop (c.loop-w.w-index + 1) ws in
    ap (λ (ks : List Wire). distinct ks (outsides rest)) c.in_ok-add_outside.ensures
    ∙ sym (one_more c.loop-w.self c.w-item.result rest)
    ∙ ap (λ (us : List Wire). distinct c.loop-w.self (outsides us)) (sym (rest_is ws c.loop-w.w-index c.w-item.result c.loop-w-test.true c.w-item.is))
    ∙ c.loop-w.invariant
