use Rattle.graph_meaning.specs.NodeValues.{op}
use Rattle.node_ops.specs.Operands.{shape_of}
use Rattle.run_cells.specs.Held.{heap_of}
use Rattle.sequential.specs.Loading.{seen_of}
use Rattle.sequential_fire.proofs.RangeRows.{only-held}
use Rattle.sequential_fire.proofs.outputs.outputs.Goals as goal

pub returns-in-Some : goal.returns-in-Some
returns-in-Some c =
    let a = c.args in
    only-held c.only.result c.only.new.made.items c.in-Some.cell (op a.row (shape_of a.shape) (seen_of a.code.now a.base (heap_of a.cells.now) a.operands.now)) c.only.ensures (c.in-Some.ensures (shape_of a.shape))
