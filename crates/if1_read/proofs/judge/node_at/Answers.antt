use Rattle.std.proofs.Common.{◌≡◌, slice_index, sym, ◌∙◌, arith}
use Rattle.if1_graph.specs.Units.{label_of}
use Rattle.if1_read.proofs.Labels.{found_by, away_by}
use Rattle.if1_read.proofs.judge.node_at.Goals as goal

pub returns-in-Ok : goal.returns-in-Ok
returns-in-Ok c = λ is up.
    let at : slice_index c.args.labels.now c.in-Ok.place ≡ c.args.label = grind (arith, c.in-Ok.ensures.ok 0) in
    c.item_at.ensures ∙ sym (found_by label_of c.args.labels.now c.args.nodes.now c.in-Ok.place c.args.label is up c.in-Ok.ensures.bound at)

pub returns-in-Err : goal.returns-in-Err
returns-in-Err c = λ is up. sym (away_by label_of c.args.labels.now c.args.nodes.now c.args.label c.in-Err.field-0 is up c.in-Err.ensures.position)
