use Rattle.if1_read.proofs.TypeLabels.{there_by, mark_by, clear_by, not_clear_by}
use Rattle.if1_read.proofs.table.Table.is_clear.Goals as goal

pub returns-then-is_type : goal.returns-then-is_type
returns-then-is_type c = λ sound.
    clear_by c.args.self.now c.args.label c.is_type.result c.mark_of.result sound
    (there_by c.args.self.now c.as_slice.result.now c.args.label c.is_type.result sound c.as_slice.ensures c.is_type.ensures) c.if-is_type.true
    (mark_by c.args.self.now c.as_slice-then-is_type.result.now c.as_slice-then-is_type-2.result.now c.args.label c.mark_of.result sound
    c.as_slice-then-is_type.ensures c.as_slice-then-is_type-2.ensures c.mark_of.ensures)

pub returns-else-is_type : goal.returns-else-is_type
returns-else-is_type c = λ sound.
    not_clear_by c.args.self.now c.args.label c.is_type.result
    (there_by c.args.self.now c.as_slice.result.now c.args.label c.is_type.result sound c.as_slice.ensures c.is_type.ensures) c.if-is_type.false
