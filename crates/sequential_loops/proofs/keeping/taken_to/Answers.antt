use Rattle.std.proofs.Common.{subst, sym}
use Rattle.run_cells.specs.Held.{heap_of}
use Rattle.step_code.specs.declared.code.Operand.{Operand}
use Rattle.sequential_loops.specs.Keeping.{IsOver}
use Rattle.sequential_loops.proofs.OverSteps.{over-swapped}
use Rattle.sequential_loops.proofs.keeping.taken_to.Goals as goal

pub returns-in-Takes-clause-brings : goal.returns-in-Takes-clause-brings
returns-in-Takes-clause-brings c =
    let a = c.args in
    subst (λ (o : Operand). IsOver a.code.now a.base o a.to (heap_of a.cells.now.items) (heap_of c.swap.new.self.items)) (sym c.in-Takes.is)
    (over-swapped a.code.now a.base a.to c.in-Takes.cell a.cells.now.items c.swap.new.self.items c.swap.ensures.by_index)
