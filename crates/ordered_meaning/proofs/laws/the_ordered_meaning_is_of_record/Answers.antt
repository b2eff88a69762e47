use Rattle.ordered_meaning.proofs.Same.{of-record}
use Rattle.ordered_meaning.proofs.laws.the_ordered_meaning_is_of_record.Goals as goal

pub returns : goal.returns
returns c = of-record
