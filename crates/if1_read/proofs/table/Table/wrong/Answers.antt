use Rattle.std.proofs.Common.{ap, not}
use Rattle.if1_read.proofs.TypeLabels.{there_by, mark_by, clear_by}
use Rattle.if1_read.proofs.table.Table.wrong.Goals as goal

pub returns-else-mark_of-clause-clear : goal.returns-else-mark_of-clause-clear
returns-else-mark_of-clause-clear c = λ _ sound.
    (clear_by c.args.self.now c.args.label c.is_type.result c.mark_of.result sound
    (there_by c.args.self.now c.as_slice.result.now c.args.label c.is_type.result sound c.as_slice.ensures c.is_type.ensures) c.if-not-is_type.false
    (mark_by c.args.self.now c.as_slice-else-not-is_type.result.now c.as_slice-else-not-is_type-2.result.now c.args.label c.mark_of.result sound
    c.as_slice-else-not-is_type.ensures c.as_slice-else-not-is_type-2.ensures c.mark_of.ensures)).0 (ap not c.if-mark_of.false)
