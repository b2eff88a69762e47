use Rattle.std.proofs.Common.{subst, sym, None}
use Rattle.mark_check.specs.Least.{IsLeast, IsAmong}
use Rattle.mark_check.specs.Late.{IsAfter}
use Rattle.mark_check.proofs.Early.{none-after-end}
use Rattle.mark_check.proofs.late.late_user.Goals as goal

pub returns-then-node-eq0-clause-late : goal.returns-then-node-eq0-clause-late
returns-then-node-eq0-clause-late c = λ g o w. subst (λ n. IsLeast (IsAmong c.args.users.now (IsAfter g n)) None) (sym c.if-node-eq0.true) (none-after-end g o c.args.users.now)
