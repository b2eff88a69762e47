use Rattle.std.proofs.Common.{length, subst, refl, sym, ap, ◌∙◌, arith}
use Rattle.step_code.specs.Reading.{AreClear, listed}
use Rattle.sequential.specs.declared.machine.Machine.{Machine}
use Rattle.sequential_loops.specs.Keeping.{BringsOver}
use Rattle.sequential_loops.proofs.OverSteps.{keep-over}
use Rattle.sequential_loops.proofs.keeping.carry.Goals as goal

pub bring_over-requires-clause-clear : goal.bring_over-requires-clause-clear
bring_over-requires-clause-clear c =
    let e = ap length c.operands_from.ensures in
    subst (λ n. AreClear c.args.out n c.operands_from.result.now) (c.requires.long ∙ sym e) (subst (AreClear c.args.out c.args.many) (sym c.operands_from.ensures) c.requires.clear)

pub bring_over-requires-clause-room : goal.bring_over-requires-clause-room
bring_over-requires-clause-room c =
    let e = ap length c.operands_from.ensures in
    let long = c.requires.long in
    let out = c.requires.out in
    omega (arith, e, long, out)

pub returns-clause-does : goal.returns-clause-does
returns-clause-does c =
    let m = c.args.machine.now in
    let a = c.args in
    let code = a.code.now in
    let os = listed code a.froms a.many in
    let new : Machine = record { pc = a.next; base = m.base; cells = c.bring_over.new.cells; calls = m.calls; fires = m.fires; copies = c.bring_over.new.copies; results = m.results } in
    keep-over code a.limit m new a.collects a.froms a.many a.out a.next a.begins c.requires.long
    (subst (λ n. BringsOver code m.base a.out n os m.cells.items c.bring_over.new.cells.items m.copies c.bring_over.new.copies) (sym c.requires.long)
    (subst (λ xs. BringsOver code m.base a.out (length xs) xs m.cells.items c.bring_over.new.cells.items m.copies c.bring_over.new.copies) c.operands_from.ensures c.in_ok-bring_over.ensures.over))
    refl refl (record { base = refl; calls = refl })
