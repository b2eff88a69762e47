use Rattle.std.proofs.Common.{[], length, subst, refl, sym, ap, ◌∙◌, arith}
use Rattle.sequential.specs.Loading.{Loads}
use Rattle.sequential.specs.declared.machine.Machine.{Machine}
use Rattle.sequential.proofs.MoveSteps.{placed-none, move-goes}
use Rattle.sequential.proofs.machine.Machine.bring_many.Goals as goal

pub unload-requires : goal.unload-requires
unload-requires c =
    let out = c.requires.out in
    let width = c.requires.width in
    let long = c.in_ok-load.ensures.long in
    let list = ap length c.operands_from.ensures in
    let size = c.in_ok-load.ensures.size in
    omega (arith, out, width, long, list, size)

pub returns-clause-does : goal.returns-clause-does
returns-clause-does c =
    let m = c.args.self.now in
    let a = c.args in
    let new : Machine = record { pc = a.next; base = m.base; cells = c.unload.new.cells; calls = m.calls; fires = m.fires; copies = c.load.new.copies; results = c.unload.new.loaded } in
    move-goes a.code.now a.limit m new a.froms a.many a.out a.width a.next c.load.new.loaded.items c.load.new.cells.items c.requires.width
    (subst (λ os. Loads a.code.now m.base os m.cells.items c.load.new.loaded.items c.load.new.cells.items m.copies c.load.new.copies) c.operands_from.ensures c.in_ok-load.ensures.loads)
    (λ rs e. c.unload.ensures.heap [] rs (e ∙ sym (placed-none rs))) refl refl (record { base = refl; calls = refl })
