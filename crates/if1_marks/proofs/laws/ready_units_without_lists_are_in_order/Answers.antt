use Rattle.if1_marks.proofs.Unlisted.{right-without-lists}
use Rattle.if1_marks.proofs.laws.ready_units_without_lists_are_in_order.Goals as goal

pub returns : goal.returns
returns c = right-without-lists
