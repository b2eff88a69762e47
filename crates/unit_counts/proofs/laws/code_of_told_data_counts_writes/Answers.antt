use Rattle.unit_counts.proofs.Written.{code-writes}
use Rattle.unit_counts.proofs.laws.code_of_told_data_counts_writes.Goals as goal

pub returns : goal.returns
returns c = code-writes
