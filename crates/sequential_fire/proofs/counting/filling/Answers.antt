use Rattle.std.proofs.Common.{sym, ap, arith}
use Rattle.graph_meaning.specs.Storage.{capped}
use Rattle.run_cells.specs.Held.{heap_of}
use Rattle.sequential.specs.Agrees.{owned_all}
use Rattle.sequential_fire.proofs.CountRows.{filling-few, filling-many}
use Rattle.sequential_fire.proofs.counting.filling.Goals as goal

pub returns-in_default : goal.returns-in_default
returns-in_default c =
    let a = c.args in
    let most = c.in_default.len_below in
    ap capped (sym (filling-few a.code.now a.base (heap_of a.cells.now) a.operands.now (owned_all a.made.now) (omega (arith, most))))

pub returns-in_default-2 : goal.returns-in_default-2
returns-in_default-2 c =
    let a = c.args in
    let least = c.in_default.len_at_least in
    ap capped (sym (filling-many a.code.now a.base (heap_of a.cells.now) a.operands.now (owned_all a.made.now) (omega (arith, least))))
