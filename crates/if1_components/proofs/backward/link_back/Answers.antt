use Rattle.std.proofs.Common.{◌+◌, ◌<◌, take, slice_index, refl, sym, subst}
use Rattle.if1_components.specs.Backward.{HasBack}
use Rattle.if1_components.proofs.Turned.{back-none, back-one, back-all}
use Rattle.if1_components.proofs.backward.link_back.Goals as goal

pub loop-other-init : goal.loop-other-init
loop-other-init c = back-none c.args.from.now c.args.place c.args.lists.now.items

pub link_one-requires : goal.link_one-requires
link_one-requires c = subst (λ n. slice_index c.args.from.now c.loop-other.other-index < n) (sym c.loop-other.invariant.fit) (c.requires c.loop-other.other-index 0 c.loop-other-test.true)

pub loop-other-preserved : goal.loop-other-preserved
loop-other-preserved c =
    let n = c.loop-other.other-index in
    let other = slice_index c.args.from.now n in
    let inside = subst (λ k. other < k) (sym c.loop-other.invariant.fit) (c.requires n 0 c.loop-other-test.true) in
    subst (HasBack (take (n + 1) c.args.from.now) c.args.place c.args.lists.now.items) (sym c.in_ok-link_one.ensures)
    (back-one c.args.from.now n c.args.place other c.args.lists.now.items c.loop-other.lists.items c.loop-other-test.true refl inside c.loop-other.invariant)

pub returns : goal.returns
returns c = back-all c.args.from.now c.loop-other.other-index c.args.place c.args.lists.now.items c.loop-other.lists.items c.loop-other-test.false c.loop-other.invariant
