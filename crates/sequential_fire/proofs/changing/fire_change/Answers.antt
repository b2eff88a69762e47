use Rattle.std.proofs.Common.{rules, Fits, w64, ◌+◌, ◌-◌, length, subst, refl, sym, ap, arith}
use Rattle.step_code.specs.declared.step.Step.TheVariants as step
use Rattle.step_code.specs.Reading.{listed}
use Rattle.sequential.specs.Loading.{AreInside}
use Rattle.sequential.specs.declared.machine.Machine.{Machine}
use Rattle.sequential.specs.declared.machine.Turn.TheVariants as turn
use Rattle.sequential.proofs.Same.{are-for-all}
use Rattle.sequential_fire.specs.Changing.{AreAtHand, further_of, ports_of}
use Rattle.sequential_fire.proofs.TakeSteps.{take-over}
use Rattle.sequential_fire.proofs.ChangeSteps.{change-goes, inside-first}
use Rattle.sequential_fire.proofs.changing.fire_change.Goals as goal

pub returns-then-machine-limit-clause-does : goal.returns-then-machine-limit-clause-does
returns-then-machine-limit-clause-does c =
    let a = c.args in
    let over = c.if-machine-limit.true in
    take-over a.code.now a.limit a.machine.now a.machine.now a.row a.written a.shape a.ins a.many a.out a.kept a.counted (omega (arith, over))

pub at_hand-requires-clause-first : goal.at_hand-requires-clause-first
at_hand-requires-clause-first c =
    let a = c.args in
    let m = a.machine.now in
    let i = inside-first a.code.now (length m.cells.items - m.base) (listed a.code.now a.ins a.many) a.change.first (further_of a.change.further) c.requires.operands c.requires.inside in
    let lt = i.0 in
    let e = ap length c.as_slice.ensures.value in
    omega (arith, lt, e)

pub at_hand-requires-clause-further : goal.at_hand-requires-clause-further
at_hand-requires-clause-further c =
    let a = c.args in
    let m = a.machine.now in
    subst (λ xs. AreInside a.code.now (length xs - m.base) (further_of a.change.further)) (sym c.as_slice.ensures.value)
    (inside-first a.code.now (length m.cells.items - m.base) (listed a.code.now a.ins a.many) a.change.first (further_of a.change.further) c.requires.operands c.requires.inside).1

pub box_out-boxed-requires-clause-inside : goal.box_out-boxed-requires-clause-inside
box_out-boxed-requires-clause-inside c =
    let a = c.args in
    let m = a.machine.now in
    let i = inside-first a.code.now (length m.cells.items - m.base) (listed a.code.now a.ins a.many) a.change.first (further_of a.change.further) c.requires.operands c.requires.inside in
    let lt = i.0 in
    omega (arith, lt)

pub box_out-boxed-requires-clause-boxed : goal.box_out-boxed-requires-clause-boxed
box_out-boxed-requires-clause-boxed c =
    let a = c.args in
    let m = a.machine.now in
    (subst (λ xs. AreAtHand a.code.now m.base a.change.first (further_of a.change.further) xs (ports_of c.in-Some.ports)) c.as_slice.ensures.value c.in-Some.ensures).boxed

pub returns-in-Some-clause-does : goal.returns-in-Some-clause-does
returns-in-Some-clause-does c =
    let a = c.args in
    let m = a.machine.now in
    let mid = c.box_out-boxed.new.cells.items in
    let new : Machine = record { pc = m.pc + 1; base = m.base; cells = c.put.new.cells; calls = m.calls; fires = m.fires + 1; copies = m.copies; results = m.results } in
    let no = c.if-machine-limit.false in
    let small : Fits w64 m.copies = search rules in
    let out = c.requires.out in
    let size = c.box_out-boxed.ensures.size in
    let i = inside-first a.code.now (length m.cells.items - m.base) (listed a.code.now a.ins a.many) a.change.first (further_of a.change.further) c.requires.operands c.requires.inside in
    let lt = i.0 in
    let there = subst (λ xs. AreAtHand a.code.now m.base a.change.first (further_of a.change.further) xs (ports_of c.in-Some.ports)) c.as_slice.ensures.value c.in-Some.ensures in
    are-for-all a.code.now a.limit (step.Fire a.row a.written a.shape a.ins a.many a.out 1 a.kept a.counted) m turn.Goes new
    (change-goes a.code.now a.limit m new a.row a.written a.shape a.ins a.many a.out a.kept a.counted a.change.first (further_of a.change.further) c.box_out-boxed.result c.changed_by-changed.result
    c.requires.operands c.requires.counted c.requires.uncopied c.box_out-boxed.ensures.value c.requires.row (ports_of c.in-Some.ports) there.given c.changed_by-changed.ensures
    mid c.box_out-boxed.ensures.cells (sym c.put.ensures.cells) (omega (arith, lt)) (omega (arith, out, size)) (omega (arith, no)) small.fits (omega arith) (omega arith) (record { base = refl; calls = refl }) refl)
