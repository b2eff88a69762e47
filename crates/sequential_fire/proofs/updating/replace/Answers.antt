use Rattle.std.proofs.Common.{rules, Fits, w64, ◌+◌, ◌-◌, length, slice_set, subst, refl, sym, ap, ◌∙◌, arith}
use Rattle.flow_value.specs.declared.operands.Shape.TheVariants as shape
use Rattle.flow_value.specs.declared.value.Val.TheVariants as val
use Rattle.if1_graph.specs.declared.op.Simple.TheVariants as simple
use Rattle.run_cells.specs.declared.cell.Cell.TheVariants as cell
use Rattle.step_code.specs.declared.code.Operand.TheVariants as operand
use Rattle.step_code.specs.declared.step.Step.TheVariants as step
use Rattle.step_code.specs.declared.step.Written.TheVariants as written
use Rattle.step_code.specs.Reading.{listed}
use Rattle.sequential.specs.Inside.{IsInside}
use Rattle.sequential.specs.declared.machine.Machine.{Machine}
use Rattle.sequential.specs.declared.machine.Turn.TheVariants as turn
use Rattle.sequential.proofs.Same.{are-for-all}
use Rattle.sequential_fire.specs.Updating.{IsReady}
use Rattle.sequential_fire.proofs.TakeSteps.{take-over}
use Rattle.sequential_fire.proofs.UpdateSteps.{update-goes, are-inside}
use Rattle.sequential_fire.proofs.updating.replace.Goals as goal

pub returns-then-machine-limit-clause-does : goal.returns-then-machine-limit-clause-does
returns-then-machine-limit-clause-does c =
    let a = c.args in
    let over = c.if-machine-limit.true in
    take-over a.code.now a.limit a.machine.now a.machine.now simple.AReplace written.Nothing shape.Plain a.ins 3 a.out a.kept a.counted (omega (arith, over))

pub point_of-requires-clause-array : goal.point_of-requires-clause-array
point_of-requires-clause-array c =
    let a = c.args in
    let m = a.machine.now in
    let p = operand.Looks a.place in
    let e = operand.Looks a.element in
    let i = are-inside a.code.now (length m.cells.items - m.base) (listed a.code.now a.ins 3) a.array p e c.requires.operands c.requires.inside in
    let lt = i.0 in
    let long = ap length c.as_slice.ensures.value in
    omega (arith, lt, long)

pub point_of-requires-clause-place : goal.point_of-requires-clause-place
point_of-requires-clause-place c =
    let a = c.args in
    let m = a.machine.now in
    let p = operand.Looks a.place in
    let e = operand.Looks a.element in
    subst (λ xs. IsInside a.code.now (length xs - m.base) p) (sym c.as_slice.ensures.value)
    (are-inside a.code.now (length m.cells.items - m.base) (listed a.code.now a.ins 3) a.array p e c.requires.operands c.requires.inside).1

pub point_of-requires-clause-element : goal.point_of-requires-clause-element
point_of-requires-clause-element c =
    let a = c.args in
    let m = a.machine.now in
    let p = operand.Looks a.place in
    let e = operand.Looks a.element in
    subst (λ xs. IsInside a.code.now (length xs - m.base) e) (sym c.as_slice.ensures.value)
    (are-inside a.code.now (length m.cells.items - m.base) (listed a.code.now a.ins 3) a.array p e c.requires.operands c.requires.inside).2

pub box_out-boxed-requires-clause-inside : goal.box_out-boxed-requires-clause-inside
box_out-boxed-requires-clause-inside c =
    let a = c.args in
    let m = a.machine.now in
    let p = operand.Looks a.place in
    let e = operand.Looks a.element in
    let i = are-inside a.code.now (length m.cells.items - m.base) (listed a.code.now a.ins 3) a.array p e c.requires.operands c.requires.inside in
    let lt = i.0 in
    omega (arith, lt)

pub box_out-boxed-requires-clause-boxed : goal.box_out-boxed-requires-clause-boxed
box_out-boxed-requires-clause-boxed c =
    let a = c.args in
    let m = a.machine.now in
    let p = operand.Looks a.place in
    let e = operand.Looks a.element in
    (subst (λ xs. IsReady a.code.now m.base a.array p e xs c.in-Some.point.at (val.Int c.in-Some.point.number)) c.as_slice.ensures.value c.in-Some.ensures).boxed

pub returns-in-Some-clause-does : goal.returns-in-Some-clause-does
returns-in-Some-clause-does c =
    let a = c.args in
    let m = a.machine.now in
    let p = operand.Looks a.place in
    let e = operand.Looks a.element in
    let mid = c.box_out-boxed.new.cells.items in
    let new : Machine = record { pc = m.pc + 1; base = m.base; cells = c.put_fresh.new.cells; calls = m.calls; fires = m.fires + 1; copies = m.copies; results = m.results } in
    let no = c.if-machine-limit.false in
    let small : Fits w64 m.copies = search rules in
    let out = c.requires.out in
    let size = c.box_out-boxed.ensures.size in
    let i = are-inside a.code.now (length m.cells.items - m.base) (listed a.code.now a.ins 3) a.array p e c.requires.operands c.requires.inside in
    let lt = i.0 in
    are-for-all a.code.now a.limit (step.Fire simple.AReplace written.Nothing shape.Plain a.ins 3 a.out 1 a.kept a.counted) m turn.Goes new
    (update-goes a.code.now a.limit m new written.Nothing shape.Plain a.ins 3 a.out a.kept a.counted a.array p e c.box_out-boxed.result (val.Int c.in-Some.point.number) c.in-Some.point.at
    c.requires.operands c.requires.counted tt tt c.box_out-boxed.ensures.value
    (subst (λ xs. IsReady a.code.now m.base a.array p e xs c.in-Some.point.at (val.Int c.in-Some.point.number)) c.as_slice.ensures.value c.in-Some.ensures)
    mid c.box_out-boxed.ensures.cells (ap (λ w. slice_set mid (m.base + a.out) (cell.Owned w)) (sym c.updated_at-changed.ensures) ∙ sym c.put_fresh.ensures.cells) (omega (arith, lt)) (omega (arith, out, size)) (omega (arith, no)) small.fits (omega arith) (omega arith) (record { base = refl; calls = refl }) refl)
