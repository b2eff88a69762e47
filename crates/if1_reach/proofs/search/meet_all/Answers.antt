use Rattle.std.proofs.Common.{length, sym, ap, subst, arith, Contains, slice_index_or}
use Rattle.if1_order.specs.Walks.{feeders_of}
use Rattle.if1_reach.proofs.Searches.{adds-on, met-next, all-met, items-of, fed-by, at-same}
use Rattle.if1_reach.proofs.search.meet_all.Goals as goal

pub meet-requires-clause-place : goal.meet-requires-clause-place
meet-requires-clause-place c =
    let e = items-of c.args.lists.now c.args.at c.index-lists-at.result c.as_slice-feeder-items.result.now c.requires.at c.index-lists-at.is c.as_slice-feeder-items.ensures in
    c.requires.inside (slice_index_or c.as_slice-feeder-items.result.now c.loop-feeder.feeder-index 0) c.args.at
    (subst (λ fs. Contains fs (slice_index_or c.as_slice-feeder-items.result.now c.loop-feeder.feeder-index 0)) e (fed-by c.as_slice-feeder-items.result.now c.loop-feeder.feeder-index c.loop-feeder-test.true))

pub meet-requires-clause-follows : goal.meet-requires-clause-follows
meet-requires-clause-follows c =
    let e = items-of c.args.lists.now c.args.at c.index-lists-at.result c.as_slice-feeder-items.result.now c.requires.at c.index-lists-at.is c.as_slice-feeder-items.ensures in
    let add = c.loop-feeder.invariant.1 in (
      omega (arith, c.requires.on, add.more),
      subst (λ at. Contains (feeders_of c.args.lists.now at) (slice_index_or c.as_slice-feeder-items.result.now c.loop-feeder.feeder-index 0))
          (at-same c.args.to c.args.search.now c.loop-feeder.search c.args.at c.args.on c.requires.on c.requires.is add)
          (subst (λ fs. Contains fs (slice_index_or c.as_slice-feeder-items.result.now c.loop-feeder.feeder-index 0)) e (fed-by c.as_slice-feeder-items.result.now c.loop-feeder.feeder-index c.loop-feeder-test.true)),
    )

pub loop-feeder-preserved : goal.loop-feeder-preserved
loop-feeder-preserved c =
    let a = c.in_ok-meet.ensures in
    let e = items-of c.args.lists.now c.args.at c.index-lists-at.result c.as_slice-feeder-items.result.now c.requires.at c.index-lists-at.is c.as_slice-feeder-items.ensures in (
      a.0,
      adds-on c.args.search.now c.loop-feeder.search c.meet.new.search c.loop-feeder.invariant.1 a.1,
      met-next c.meet.new.search (feeders_of c.args.lists.now c.args.at) c.loop-feeder.feeder-index c.loop-feeder.search (slice_index_or c.as_slice-feeder-items.result.now c.loop-feeder.feeder-index 0) a.1 c.loop-feeder.invariant.2 a.2
          (ap (λ fs. slice_index_or fs c.loop-feeder.feeder-index 0) (sym e)),
    )

pub returns : goal.returns
returns c =
    let e = items-of c.args.lists.now c.args.at c.index-lists-at.result c.as_slice-feeder-items.result.now c.requires.at c.index-lists-at.is c.as_slice-feeder-items.ensures in
    let n = ap length e in (
      c.loop-feeder.invariant.0,
      c.loop-feeder.invariant.1,
      all-met c.loop-feeder.search (feeders_of c.args.lists.now c.args.at) (λ k h. c.loop-feeder.invariant.2 k (omega (arith, h, n, c.loop-feeder-test.false))),
    )
