use Rattle.std.proofs.Common.{◌≢◌, ap, subst, arith}
use Rattle.if1_reach.specs.declared.search.Met.{Met}
use Rattle.if1_reach.specs.Searches.{HaveMet, met_at}
use Rattle.if1_reach.proofs.Ways.{more-done, none-leads}
use Rattle.if1_reach.proofs.search.way.Goals as goal

pub loop-at-preserved : goal.loop-at-preserved
loop-at-preserved c =
    let a = c.in_ok-meet_all-2.ensures in
    let e = ap (λ xs. met_at xs c.loop-at.at) c.as_slice.ensures in (
      a.0,
      more-done c.args.lists.now c.args.to c.args.from c.loop-at.search c.meet_all-in-loop-at.new.search c.loop-at.at c.loop-at.invariant.1 (omega (arith, c.loop-at-test.true, c.len.ensures)) a.1
          (subst (λ (m : Met). m.place ≢ c.args.from) e c.if-met-from.false)
          (subst (λ (m : Met). HaveMet c.args.lists.now c.meet_all-in-loop-at.new.search m.place) e a.2),
    )

pub returns : goal.returns
returns c = none-leads c.args.lists.now c.args.to c.args.from c.loop-at.search c.loop-at.at c.loop-at.invariant.1 (omega (arith, c.loop-at-test.false, c.len.ensures))
