use Rattle.run_cells.specs.Held.{heap_of}
use Rattle.sequential.specs.Loading.{seen_of}
use Rattle.sequential_fire.proofs.RangeRows.{for-range}
use Rattle.sequential_fire.proofs.ranges.range_of.Goals as goal

pub returns-in-RangeGenerate : goal.returns-in-RangeGenerate
returns-in-RangeGenerate c =
    let a = c.args in
    for-range c.range_on.result a.row (seen_of a.code.now a.base (heap_of a.cells.now) a.operands.now) c.in-RangeGenerate.is c.range_on.ensures
