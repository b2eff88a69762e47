use Rattle.std.proofs.Common.{rules, Fits, w64, ◌+◌, refl, sym, arith}
use Rattle.flow_value.specs.declared.value.Val.TheVariants as val
use Rattle.if1_graph.specs.declared.op.Simple.TheVariants as simple
use Rattle.step_code.specs.declared.step.Step.TheVariants as step
use Rattle.sequential.specs.declared.machine.Machine.{Machine}
use Rattle.sequential.specs.declared.machine.Turn.TheVariants as turn
use Rattle.sequential.proofs.Same.{are-for-all}
use Rattle.sequential_fire.proofs.MakeSteps.{made-goes}
use Rattle.sequential_fire.proofs.TakeSteps.{take-over}
use Rattle.sequential_fire.proofs.making.fire_union.Goals as goal

pub returns-then-machine-limit-clause-does : goal.returns-then-machine-limit-clause-does
returns-then-machine-limit-clause-does c =
    let a = c.args in
    let over = c.if-machine-limit.true in
    take-over a.code.now a.limit a.machine.now a.machine.now simple.RBuild a.written a.shape a.ins a.many a.out a.kept a.counted (omega (arith, over))

pub returns-in-Some-clause-does : goal.returns-in-Some-clause-does
returns-in-Some-clause-does c =
    let a = c.args in
    let m = a.machine.now in
    let u = c.in-Some.union in
    let new : Machine = record { pc = m.pc + 1; base = m.base; cells = c.put.new.cells; calls = m.calls; fires = m.fires + 1; copies = m.copies; results = m.results } in
    let no = c.if-machine-limit.false in
    let small : Fits w64 m.copies = search rules in
    are-for-all a.code.now a.limit (step.Fire simple.RBuild a.written a.shape a.ins a.many a.out 1 a.kept a.counted) m turn.Goes new
    (made-goes a.code.now a.limit m new a.written a.shape a.ins a.many a.out a.kept a.counted simple.RBuild c.numbered_cell-cell.result (val.Uni u.tag (val.Int u.number)) c.as_slice.result.now c.operands_from.result.now
    c.as_slice.ensures.value c.operands_from.ensures c.numbered_cell-cell.ensures c.in-Some.ensures.union c.in-Some.ensures.uncopied c.requires.counted
    c.requires.out (sym c.put.ensures.cells) (omega (arith, no)) small.fits (omega arith) (omega arith) (record { base = refl; calls = refl }) refl)
