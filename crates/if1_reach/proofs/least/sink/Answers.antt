use Rattle.std.proofs.Common.{◌≡◌, ◌-◌, ◌<◌, length, slice_index, refl, sym, ap, subst, arith}
use Rattle.if1_reach.specs.Least.{AreLowered}
use Rattle.if1_reach.proofs.Searches.{items-of}
use Rattle.if1_reach.proofs.Sinking.{sink-start, sink-next, sink-end, fed-inside}
use Rattle.if1_reach.proofs.least.sink.Goals as goal

pub loop-rank-init : goal.loop-rank-init
loop-rank-init c = sink-start c.args.lists.now c.args.ranks.now c.requires.inside c.requires.ranked c.args.first c.args.end c.args.weights.now c.requires.fit c.args.end refl

pub lower-requires : goal.lower-requires
lower-requires c =
    let place = slice_index c.as_slice.result.now (c.loop-rank.rank - 1) in
    let there : place < length c.args.lists.now = subst (λ xs. slice_index xs (c.loop-rank.rank - 1) < length c.args.lists.now) (sym c.as_slice.ensures) (c.requires.ranked.inside (c.loop-rank.rank - 1) (omega (arith, c.loop-rank-test.true, c.loop-rank.invariant.high, c.requires.end))) in
    fed-inside c.args.lists.now place (length c.loop-rank.weights) c.as_slice-in-loop-rank-2.result.now c.requires.inside
    (items-of c.args.lists.now place c.index-lists-place.result c.as_slice-in-loop-rank-2.result.now there c.index-lists-place.is c.as_slice-in-loop-rank-2.ensures) (sym c.loop-rank.invariant.fit)

pub loop-rank-preserved : goal.loop-rank-preserved
loop-rank-preserved c =
    let next = c.loop-rank.rank - 1 in
    let place = slice_index c.as_slice.result.now next in
    let short : next < length c.args.ranks.now.order = omega (arith, c.loop-rank-test.true, c.loop-rank.invariant.high, c.requires.end) in
    let there : place < length c.args.lists.now = subst (λ xs. slice_index xs next < length c.args.lists.now) (sym c.as_slice.ensures) (c.requires.ranked.inside next short) in
    let items = items-of c.args.lists.now place c.index-lists-place.result c.as_slice-in-loop-rank-2.result.now there c.index-lists-place.is c.as_slice-in-loop-rank-2.ensures in
    sink-next c.args.lists.now c.args.ranks.now c.requires.inside c.requires.ranked c.args.first c.args.end c.args.weights.now c.loop-rank.rank c.loop-rank.weights c.loop-rank.invariant next place (slice_index c.as_slice-in-loop-rank.result.now place)
    (omega (arith, c.loop-rank-test.true)) (omega (arith, c.loop-rank-test.true)) there
    (subst (λ xs. slice_index c.args.ranks.now.ranks (slice_index xs next) ≡ next) (sym c.as_slice.ensures) (c.requires.ranked.ranked next short))
    (ap (λ xs. slice_index xs place) c.as_slice-in-loop-rank.ensures)
    c.lower.new.weights (subst (λ fs. AreLowered fs (slice_index c.as_slice-in-loop-rank.result.now place) c.loop-rank.weights c.lower.new.weights) items c.lower.ensures)

pub returns : goal.returns
returns c = sink-end c.args.lists.now c.args.ranks.now c.requires.inside c.requires.ranked c.args.first c.args.end c.args.weights.now c.loop-rank.rank c.loop-rank.weights c.loop-rank.invariant c.loop-rank-test.false
