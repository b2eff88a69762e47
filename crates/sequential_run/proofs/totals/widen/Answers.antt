use Rattle.std.proofs.Common.{◌+◌, length, ◌∙◌, arith}
use Rattle.run_cells.specs.declared.cell.Cell.TheVariants as cell
use Rattle.sequential.proofs.LoadSteps.{one-longer}
use Rattle.sequential.proofs.CallSteps.{one-more}
use Rattle.sequential_run.proofs.totals.widen.Goals as goal

pub loop-preserved : goal.loop-preserved
loop-preserved c =
    let l = c.loop in
    let new = c.push.new.self.items in
    let n = length c.args.cells.now.items in
    let long = one-longer new l.cells.items cell.Empty (n + l.counter) c.in_ok-push.ensures.items l.invariant.size in
    let test = c.loop-test.true in
    let end = l.auto.counter-end in
    record {
      heap = one-more new l.cells.items c.in_ok-push.ensures.items ∙ l.invariant.heap;
      size = omega (arith, long);
      most = omega (arith, test, end);
    }
