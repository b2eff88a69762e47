use Rattle.run_tables.proofs.Items.{sums-of-items}
use Rattle.run_tables.proofs.sums_laws.sums_are_of_items.Goals as goal

pub returns : goal.returns
returns c = sums-of-items
