use Rattle.std.proofs.Common.{◌≡◌, ◌-◌, suc, drop, get_or, ap, ◌∙◌, arith}
use Rattle.std.proofs.Math.Seq.{drop-cons}
use Rattle.lowering.specs.declared.feed.Carried.TheVariants.{One}
use Rattle.line_types.specs.Traces.{reversed}
use Rattle.line_labels.specs.Needs.{put, added}
use Rattle.line_walk.proofs.Lists.{one-before}
use Rattle.line_walk.proofs.nodes.add_reversed.Goals as goal

pub loop-at-preserved : goal.loop-at-preserved
loop-at-preserved c =
    let cs = c.args.carried.now in
    let at = c.loop-at.at in
    let some = c.loop-at-test.true in
    let inside = c.loop-at.invariant.1 in
    let next : at ≡ suc (at - 1) = omega (arith, some) in
    let x = get_or cs (at - 1) (One 0) in
    let cons = drop-cons cs (at - 1) (One 0) (omega (arith, some, inside)) in
    (c.in_ok-add.ensures ∙ (ap (λ ks. put ks x) (c.loop-at.invariant.0 ∙ ap (λ i. added c.args.needs.now (reversed (drop i cs))) next) ∙ one-before cs (at - 1) c.args.needs.now x cons), omega (arith, inside))
