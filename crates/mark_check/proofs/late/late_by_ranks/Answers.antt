use Rattle.std.proofs.Common.{subst}
use Rattle.mark_check.specs.Least.{IsLeast, IsAmong}
use Rattle.mark_check.specs.Late.{IsLow, IsLate}
use Rattle.mark_check.proofs.Early.{late-after}
use Rattle.mark_check.proofs.late.late_by_ranks.Goals as goal

pub returns-clause-late : goal.returns-clause-late
returns-clause-late c = λ g o w.
    late-after g o c.args.labels.now c.args.lists.now w c.args.ranks.now c.requires.ranked c.the_place-taker.result c.args.node c.the_place-taker.ensures c.args.users.now c.lowest-first.result
    (subst (λ xs. IsLow c.args.labels.now xs c.args.users.now c.lowest-first.result) c.as_slice.ensures c.lowest-first.ensures.low) c.tell.new.weights c.tell.ensures c.least_late.result
    (subst (λ ws. IsLeast (IsAmong c.args.users.now (IsLate c.args.labels.now c.args.ranks.now.ranks ws c.the_place-taker.result c.args.node)) c.least_late.result) c.as_slice-3.ensures
    (subst (λ rs. IsLeast (IsAmong c.args.users.now (IsLate c.args.labels.now rs c.as_slice-3.result.now c.the_place-taker.result c.args.node)) c.least_late.result) c.as_slice-2.ensures c.least_late.ensures))
