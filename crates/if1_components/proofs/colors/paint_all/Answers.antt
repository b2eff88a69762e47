use Rattle.std.proofs.Common.{◌<◌, slice_index, sym, subst}
use Rattle.if1_components.proofs.Painted.{paints-none, paints-on, paints-all}
use Rattle.if1_components.proofs.colors.paint_all.Goals as goal

pub loop-place-init : goal.loop-place-init
loop-place-init c = paints-none c.args.places.now c.args.from c.args.to c.args.colors.now c.args.met.now

pub paint-requires-clause-place : goal.paint-requires-clause-place
paint-requires-clause-place c =
    subst (λ n. slice_index c.args.places.now c.loop-place.place-index < n) (sym c.loop-place.invariant.grows.fit) (c.requires.places c.loop-place.place-index 0 c.loop-place-test.true)

pub loop-place-preserved : goal.loop-place-preserved
loop-place-preserved c =
    paints-on c.args.places.now c.loop-place.place-index c.args.from c.args.to c.args.colors.now c.args.met.now c.loop-place.colors c.loop-place.met c.paint.new.colors c.paint.new.met c.loop-place-test.true
    c.loop-place.invariant c.in_ok-paint.ensures

pub returns : goal.returns
returns c = paints-all c.args.places.now c.loop-place.place-index c.args.from c.args.to c.args.colors.now c.args.met.now c.loop-place.colors c.loop-place.met c.loop-place-test.false c.loop-place.invariant
