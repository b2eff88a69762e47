use Rattle.std.proofs.Common.{◌<◌, length, slice_index, ap, sym, subst, arith, ◌∙◌}
use Rattle.if1_components.specs.Colors.{count_of}
use Rattle.if1_components.proofs.Turned.{items-of, fed-inside}
use Rattle.if1_components.proofs.Painted.{root-painted, turn-painted, all-done}
use Rattle.if1_components.proofs.colors.spread.Goals as goal

pub loop-at-init : goal.loop-at-init
loop-at-init c = root-painted c.args.lists.now c.args.root c.args.from c.args.to c.args.colors.now c.new-met.result c.paint.new.colors c.paint.new.met c.new-met.ensures c.requires.apart c.in_ok-paint.ensures

pub paint_all-requires-clause-places : goal.paint_all-requires-clause-places
paint_all-requires-clause-places c =
    let place = slice_index c.as_slice.result.now c.loop-at.at in
    let there : place < length c.args.lists.now =
    subst (λ xs. slice_index xs c.loop-at.at < length c.args.lists.now) (sym c.as_slice.ensures)
    (subst (λ n. slice_index c.loop-at.met c.loop-at.at < n) c.requires.fit (c.loop-at.invariant.0.inside c.loop-at.at (omega (arith, c.loop-at-test.true, c.len.ensures)))) in
    let e = items-of c.args.lists.now place c.index-lists-place.result c.as_slice-in-loop-at.result.now there c.index-lists-place.is c.as_slice-in-loop-at.ensures in
    fed-inside c.args.lists.now place (length c.loop-at.colors) c.as_slice-in-loop-at.result.now c.requires.inside e (sym (c.loop-at.invariant.0.fit ∙ c.requires.fit))

pub loop-at-preserved : goal.loop-at-preserved
loop-at-preserved c =
    let lt : c.loop-at.at < length c.loop-at.met = omega (arith, c.loop-at-test.true, c.len.ensures) in
    let place = slice_index c.as_slice.result.now c.loop-at.at in
    let there : place < length c.args.lists.now =
    subst (λ xs. slice_index xs c.loop-at.at < length c.args.lists.now) (sym c.as_slice.ensures)
    (subst (λ n. slice_index c.loop-at.met c.loop-at.at < n) c.requires.fit (c.loop-at.invariant.0.inside c.loop-at.at lt)) in
    let e = items-of c.args.lists.now place c.index-lists-place.result c.as_slice-in-loop-at.result.now there c.index-lists-place.is c.as_slice-in-loop-at.ensures in
    turn-painted c.args.lists.now c.args.root c.args.from c.args.to (count_of c.args.from c.args.colors.now) c.args.colors.now c.loop-at.colors c.loop-at.met c.paint_all.new.colors c.paint_all.new.met c.loop-at.at place c.as_slice-in-loop-at.result.now lt
    (ap (λ xs. slice_index xs c.loop-at.at) c.as_slice.ensures) e c.loop-at.invariant.0 c.loop-at.invariant.1 c.loop-at.invariant.2 c.in_ok-paint_all.ensures

pub returns : goal.returns
returns c =
    all-done c.args.lists.now c.args.root c.args.from c.args.to (count_of c.args.from c.args.colors.now) c.args.colors.now c.loop-at.colors c.loop-at.met c.loop-at.at c.requires.apart c.requires.from c.loop-at.invariant.2 c.loop-at.invariant.0 c.loop-at.invariant.1
    (omega (arith, c.loop-at-test.false, c.len.ensures))
