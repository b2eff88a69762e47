use Rattle.std.proofs.Common.{◌≡◌, arith}
use Rattle.if1_types.specs.Skips.{members_at}
use Rattle.if1_types.proofs.Skipping.{goes_on}
use Rattle.if1_types.proofs.numbered.Sorts.end_with.Goals as goal

pub loop-members-preserved : goal.loop-members-preserved
loop-members-preserved c =
    let ks = c.args.self.now.shapes in
    let was = c.loop-members.invariant in
    let count : c.loop-members.members ≡ members_at ks c.loop-members.end = was.count in
    let next = goes_on ks c.args.list c.loop-members.end c.further-end.result was.is (omega (arith, was.within, count)) (omega (arith, c.loop-members-test.true, count)) c.further-end.ensures.on in
    let now = c.length-members-in-loop-members.ensures.members in
    record {
      count = now;
      is = next.0;
      left = omega (arith, now, c.further-end.ensures.within);
      within = omega (arith, now, next.1, was.within, count);
    }
