use Rattle.ordered_meaning.proofs.Same.{sums-of-record}
use Rattle.ordered_meaning.proofs.laws.sums_in_order_are_of_record.Goals as goal

pub returns : goal.returns
returns c = sums-of-record
