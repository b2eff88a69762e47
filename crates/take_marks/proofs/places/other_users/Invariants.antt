use Rattle.std.proofs.Common.{◌≡◌, not, take, filter, ◌==◌}
use Rattle.take_marks.proofs.places.other_users.Given as goal

abbrev pub invariant-loop-user : goal.invariant-loop-user
invariant-loop-user l = l.others ≡ filter (λ k. not (k == l.node)) (take l.user-index l.users)
