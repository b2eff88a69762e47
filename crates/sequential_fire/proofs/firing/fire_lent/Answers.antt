use Rattle.std.proofs.Common.{◌+◌, length, length-take, drop, refl, ap, ◌∙◌, arith}
use Rattle.graph_meaning.specs.NodeValues.{op}
use Rattle.node_ops.specs.Operands.{shape_of}
use Rattle.run_cells.specs.Held.{heap_of}
use Rattle.step_code.specs.Reading.{listed}
use Rattle.sequential.specs.Loading.{seen_of}
use Rattle.sequential.specs.declared.machine.Machine.{Machine}
use Rattle.sequential_fire.proofs.LentSteps.{lent-goes, lent-over, as-wide, given-there, added-there}
use Rattle.sequential_fire.proofs.firing.fire_lent.Goals as goal

pub returns-then-machine-limit-clause-does : goal.returns-then-machine-limit-clause-does
returns-then-machine-limit-clause-does c =
    let a = c.args in
    let over = c.if-machine-limit.true in
    lent-over a.code.now a.limit a.machine.now a.machine.now a.row a.written a.shape a.ins a.many a.out a.width a.kept a.counted (omega (arith, over))

pub outputs-requires-clause-ports : goal.outputs-requires-clause-ports
outputs-requires-clause-ports c =
    let e = ap length c.operands_from-operands.ensures in
    let many = length-take c.args.many (drop c.args.ins c.args.code.now.operands) in
    let few = c.ranges.many.fits in
    omega (arith, e, many, few)

pub unload-requires : goal.unload-requires
unload-requires c =
    let m = c.args.machine.now in
    let a = c.args in
    let made = c.outputs.new.made.items in
    let are = given-there a.code.now m.base a.row a.shape made c.as_slice.result.now m.cells.items c.operands_from-operands.result.now (listed a.code.now a.ins a.many) c.as_slice.ensures.value c.operands_from-operands.ensures c.in_ok-outputs.ensures in
    let long = as-wide a.row a.shape (seen_of a.code.now m.base (heap_of m.cells.items) (listed a.code.now a.ins a.many)) a.width made are c.requires.width in
    let out = c.requires.out in
    omega (arith, out, long)

pub returns-clause-does : goal.returns-clause-does
returns-clause-does c =
    let m = c.args.machine.now in
    let a = c.args in
    let made = c.outputs.new.made.items in
    let are = given-there a.code.now m.base a.row a.shape made c.as_slice.result.now m.cells.items c.operands_from-operands.result.now (listed a.code.now a.ins a.many) c.as_slice.ensures.value c.operands_from-operands.ensures c.in_ok-outputs.ensures in
    let new : Machine = record { pc = m.pc + 1; base = m.base; cells = c.unload.new.cells; calls = m.calls; fires = m.fires + 1; copies = c.saturating_add-machine.result; results = c.unload.new.loaded } in
    let no = c.if-machine-limit.false in
    lent-goes a.code.now a.limit m new a.row a.written a.shape a.ins a.many a.out a.width a.kept a.counted made are c.requires.width (λ hands rs e. c.unload.ensures.heap hands rs e) (omega (arith, no)) (omega arith) (omega arith) (record { base = refl; calls = refl })
    (c.saturating_add-machine.ensures ∙ added-there a.code.now m.base a.counted a.width c.in_ok-copies.copies m.copies c.as_slice-2.result.now m.cells.items c.as_slice-3.result.now made c.operands_from-operands.result.now (listed a.code.now a.ins a.many)
    (op a.row (shape_of a.shape) (seen_of a.code.now m.base (heap_of m.cells.items) (listed a.code.now a.ins a.many))) c.as_slice-2.ensures.value c.operands_from-operands.ensures c.as_slice-3.ensures.value are c.in_ok-copies.ensures)
