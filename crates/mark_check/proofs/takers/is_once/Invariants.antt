use Rattle.std.proofs.Common.{◌≡◌, ◌≤◌, length, take, filter, ◌==◌}
use Rattle.mark_check.proofs.takers.is_once.Given as goal

abbrev pub invariant-loop-user : goal.invariant-loop-user
invariant-loop-user l = record { is : l.count ≡ length (filter (λ k. k == l.node) (take l.user-index l.users)); few : l.count ≤ l.user-index }
