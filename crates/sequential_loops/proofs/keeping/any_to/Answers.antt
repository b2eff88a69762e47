use Rattle.sequential_loops.proofs.OverSteps.{over-laid}
use Rattle.sequential_loops.proofs.keeping.any_to.Goals as goal

pub returns-clause-brings : goal.returns-clause-brings
returns-clause-brings c =
    let a = c.args in
    over-laid a.code.now a.base a.to a.from a.cells.now.items c.brought.new.cells.items c.lay.new.cells.items c.in_ok-cell.cell c.in_ok-cell.ensures.value c.in_ok-cell.ensures.left c.lay.ensures.here c.lay.ensures.others
