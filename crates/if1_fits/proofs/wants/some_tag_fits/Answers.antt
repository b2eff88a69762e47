use Rattle.std.proofs.Common.{◌∙◌, sym, arith}
use Rattle.if1_fits.specs.Views.{carried_at}
use Rattle.if1_fits.proofs.Walks.{item_got, no_more_fit, none_built, some_built}
use Rattle.if1_fits.proofs.wants.some_tag_fits.Goals as goal

pub returns-then-tag_fits : goal.returns-then-tag_fits
returns-then-tag_fits c =
    let s = c.args.sorts.now in
    sym (some_built s.shapes s.labels s.numbers c.args.edges.now s.counted c.args.tags c.edge-item.result.port (sym c.tag_fits.ensures ∙ c.if-tag_fits.true))

pub loop-edge-preserved : goal.loop-edge-preserved
loop-edge-preserved c =
    let s = c.args.sorts.now in
    no_more_fit s.shapes (carried_at s.labels s.numbers c.args.edges.now) c.args.tags c.args.edges.now c.loop-edge.edge-index c.edge-item.result c.loop-edge.invariant
    (item_got c.args.edges.now c.loop-edge.edge-index c.edge-item.result c.edge-item.result c.loop-edge-test.true c.edge-item.is)
    (sym c.tag_fits.ensures ∙ c.if-tag_fits.false)

pub returns : goal.returns
returns c =
    let s = c.args.sorts.now in
    sym (none_built s.shapes s.labels s.numbers c.args.edges.now _ c.args.tags (λ n e h got. c.loop-edge.invariant n e (let done = c.loop-edge-test.false in omega (arith, h, done)) got))
