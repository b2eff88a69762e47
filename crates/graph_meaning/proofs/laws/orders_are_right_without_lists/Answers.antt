use Rattle.if1_marks.proofs.Unlisted.{right-without-lists}
use Rattle.graph_meaning.proofs.laws.orders_are_right_without_lists.Goals as goal

pub returns : goal.returns
returns c = right-without-lists
