use Rattle.std.proofs.Common.{◌≡◌, drop}
use Rattle.std.specs.List.{list_all}
use Rattle.mean_call.specs.Known.{is_known}
use Rattle.mean_call.proofs.known.are_known.Given as goal

-- the numbers that are left decide
abbrev pub invariant-loop-number : goal.invariant-loop-number
invariant-loop-number l = list_all (is_known l.known) l.numbers ≡ list_all (is_known l.known) (drop l.number-index l.numbers)
