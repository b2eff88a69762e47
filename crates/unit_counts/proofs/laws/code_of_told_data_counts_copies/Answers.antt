use Rattle.unit_counts.proofs.Counts.{code-counts}
use Rattle.unit_counts.proofs.laws.code_of_told_data_counts_copies.Goals as goal

pub returns : goal.returns
returns c = code-counts
