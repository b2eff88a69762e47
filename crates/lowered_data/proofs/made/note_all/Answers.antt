use Rattle.std.proofs.Common.{◌+◌, ◌++◌, ◌∙◌, ap, sym, drop, append-nil}
use Rattle.std.proofs.lemmas.List.{drop_all}
use Rattle.lowering.specs.Feeds.{carried}
use Rattle.lowered_data.proofs.Lists.{rest_is, carried_more}
use Rattle.lowered_data.proofs.made.note_all.Goals as goal

pub loop-w-preserved : goal.loop-w-preserved
loop-w-preserved c =
    let ws = c.args.wires.now in
    let i = c.loop-w.w-index in
    ap (λ k. k ++ carried (drop (i + 1) ws)) c.in_ok-note_one.ensures
    ∙ sym (carried_more c.loop-w.lines c.w-item.result (drop (i + 1) ws))
    ∙ ap (λ us. c.loop-w.lines ++ carried us) (sym (rest_is ws i c.w-item.result c.loop-w-test.true c.w-item.is))
    ∙ c.loop-w.invariant

pub returns : goal.returns
returns c =
    sym (append-nil c.loop-w.lines) ∙ ap (λ us. c.loop-w.lines ++ carried us) (sym (drop_all c.loop-w.w-index c.args.wires.now c.loop-w-test.false)) ∙ c.loop-w.invariant
