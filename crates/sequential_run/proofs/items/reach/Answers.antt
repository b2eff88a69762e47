use Rattle.std.proofs.Common.{◌-◌, ◌≤◌, length, subst, sym, arith}
use Rattle.sequential_run.specs.Ready.{IsReady}
use Rattle.sequential_run.specs.Whole.{step_at}
use Rattle.sequential_run.proofs.More.{ready-more}
use Rattle.sequential_run.proofs.items.reach.Goals as goal

pub iterates-requires-clause-ready : goal.iterates-requires-clause-ready
iterates-requires-clause-ready g c = λ κs h.
    let m = c.args.machine.now in
    let code = c.args.code.now in
    let can = c.requires in
    let B = can.blocks in
    let block = can.stands.block in
    let wide : B.room m.pc ≤ length m.cells.items - m.base = omega (arith, block) in
    subst (IsReady code (length m.cells.items - m.base)) (sym c.step_here-this.ensures) (ready-more code (B.room m.pc) (length m.cells.items - m.base) wide (step_at code m.pc) (can.whole.ready m.pc can.stands.there))
