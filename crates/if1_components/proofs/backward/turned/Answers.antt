use Rattle.std.proofs.Common.{subst, sym}
use Rattle.if1_components.specs.Backward.{HasBack}
use Rattle.if1_components.proofs.Turned.{items-of, fed-inside, turned-none, turned-one, turned-all}
use Rattle.if1_components.proofs.backward.turned.Goals as goal

pub loop-place-init : goal.loop-place-init
loop-place-init c = turned-none c.args.lists.now c.in_ok-back.back.items c.in_ok-back.ensures

pub link_back-requires : goal.link_back-requires
link_back-requires c =
    let e = items-of c.args.lists.now c.loop-place.place c.index-lists-place.result c.as_slice.result.now c.loop-place-test.true c.index-lists-place.is c.as_slice.ensures in
    fed-inside c.args.lists.now c.loop-place.place _ c.as_slice.result.now c.requires e (sym c.loop-place.invariant.fit)

pub loop-place-preserved : goal.loop-place-preserved
loop-place-preserved c =
    let e = items-of c.args.lists.now c.loop-place.place c.index-lists-place.result c.as_slice.result.now c.loop-place-test.true c.index-lists-place.is c.as_slice.ensures in
    turned-one c.args.lists.now c.loop-place.place c.loop-place.back.items c.link_back.new.lists.items c.loop-place.invariant
    (subst (λ xs. HasBack xs c.loop-place.place c.loop-place.back.items c.link_back.new.lists.items) e c.in_ok-link_back.ensures)

pub returns : goal.returns
returns c = turned-all c.args.lists.now c.loop-place.place c.loop-place.back.items c.loop-place-test.false c.loop-place.invariant
