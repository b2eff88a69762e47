use Rattle.std.proofs.Common.{ap, ◌∙◌}
use Rattle.step_code.specs.Laid.{copied_at}
use Rattle.row_counts.proofs.Weighed.{counted-is}
use Rattle.row_counts.proofs.counts.counted_of.Goals as goal

pub returns-clause-copied : goal.returns-clause-copied
returns-clause-copied c = λ s g l code ms w ks rs e f. ap (λ x. copied_at code x ms w ks rs) c.counted_by_row.ensures ∙ counted-is s g l code ms w ks rs c.args.told c.args.marks c.args.row e f
