use Rattle.std.proofs.Common.{◌≡◌, drop}
use Rattle.std.specs.List.{find}
use Rattle.mean_call.specs.Calls.{is_elsewhere}
use Rattle.mean_call.proofs.linking.first_elsewhere.Given as goal

-- the functions that are left decide
abbrev pub invariant-loop-function : goal.invariant-loop-function
invariant-loop-function l = find is_elsewhere l.functions ≡ find is_elsewhere (drop l.function-index l.functions)
