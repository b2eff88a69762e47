use Rattle.std.proofs.Common.{◌≡◌, drop}
use Rattle.std.specs.List.{list_all}
use Rattle.if1_marks.specs.Owned.{is_last_value}
use Rattle.may_take.proofs.owned.are_last_values.Given as goal

abbrev pub invariant-loop-user : goal.invariant-loop-user
invariant-loop-user l = list_all (is_last_value l.graph) (drop l.user-index l.users) ≡ list_all (is_last_value l.graph) l.users
