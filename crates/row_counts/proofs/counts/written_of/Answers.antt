use Rattle.std.proofs.Common.{ap, ◌∙◌}
use Rattle.step_code.specs.Laid.{written_at}
use Rattle.row_counts.proofs.Weighed.{written-is}
use Rattle.row_counts.proofs.counts.written_of.Goals as goal

pub returns-clause-written : goal.returns-clause-written
returns-clause-written c = λ s g l e ks rs. ap (λ x. written_at x ks rs) c.written_by_row.ensures ∙ written-is s g l c.args.row c.args.joined e ks rs
