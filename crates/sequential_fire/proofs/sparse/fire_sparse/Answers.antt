use Rattle.std.proofs.Common.{rules, Fits, w64, ◌+◌, ◌∙◌, subst, refl, sym, arith}
use Rattle.std.specs.Vec.{with_item}
use Rattle.sequential.specs.Loading.{Loads}
use Rattle.sequential.specs.declared.machine.Machine.{Machine}
use Rattle.sequential_fire.proofs.SparseSteps.{sparse-goes, sparse-over}
use Rattle.sequential_fire.proofs.sparse.fire_sparse.Goals as goal

pub returns-then-machine-limit-clause-does : goal.returns-then-machine-limit-clause-does
returns-then-machine-limit-clause-does c =
    let a = c.args in
    let over = c.if-machine-limit.true in
    sparse-over a.code.now a.limit a.machine.now a.machine.now a.row a.gaps a.ins a.many a.out a.copies (omega (arith, over))

pub returns-clause-does : goal.returns-clause-does
returns-clause-does c =
    let m = c.args.machine.now in
    let a = c.args in
    let new : Machine = record { pc = m.pc + 1; base = m.base; cells = with_item c.load.new.cells (m.base + a.out) c.in_ok-cell.cell; calls = m.calls; fires = m.fires + 1; copies = c.sum_of-machine.result; results = c.changed.new.loaded } in
    let no = c.if-machine-limit.false in
    let small : Fits w64 m.copies = search rules in
    let out = c.requires.out in
    let size = c.in_ok-load.ensures.size in
    sparse-goes a.code.now a.limit m new a.row a.gaps a.ins a.many a.out a.copies c.row_of.result c.shape_of.result c.load.new.loaded.items c.load.new.cells.items c.in_ok-cell.cell c.load.new.copies c.row_of.ensures.is c.shape_of.ensures small.fits
    (subst (λ os. Loads a.code.now m.base os m.cells.items c.load.new.loaded.items c.load.new.cells.items m.copies c.load.new.copies) (c.as_slice.ensures ∙ c.in_ok-operands.ensures) c.in_ok-load.ensures.loads)
    c.in_ok-cell.ensures (omega (arith, out, size)) refl (omega (arith, no)) (omega arith) (omega arith) (record { base = refl; calls = refl }) (sym c.sum_of-machine.ensures)
