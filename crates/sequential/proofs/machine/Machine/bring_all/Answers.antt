use Rattle.std.proofs.Common.{rules, Fits, w64, refl}
use Rattle.sequential.specs.declared.machine.Machine.{Machine}
use Rattle.sequential.proofs.MoveSteps.{hop-goes}
use Rattle.sequential.proofs.machine.Machine.bring_all.Goals as goal

pub returns-then-many-eq0-clause-does : goal.returns-then-many-eq0-clause-does
returns-then-many-eq0-clause-does c =
    let m = c.args.self.now in
    let a = c.args in
    let new : Machine = record { pc = a.next; base = m.base; cells = m.cells; calls = m.calls; fires = m.fires; copies = m.copies; results = m.results } in
    let small : Fits w64 m.copies = search rules in
    hop-goes a.code.now a.limit m new a.froms a.many a.out a.width a.next c.if-many-eq0.true c.requires.width refl small.fits refl refl refl (record { base = refl; calls = refl })
