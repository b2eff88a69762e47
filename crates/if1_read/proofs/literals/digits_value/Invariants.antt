use Rattle.std.proofs.Common.{◌≡◌, ◌≤◌, drop}
use Rattle.std.specs.List.{fold}
use Rattle.if1_graph.specs.Literals.{digits_value}
use Rattle.if1_read.proofs.Reading.{with_digit}
use Rattle.if1_read.proofs.literals.digits_value.Given as goal

-- the digits that are left decide
abbrev pub invariant-loop-digit : goal.invariant-loop-digit
invariant-loop-digit l = (l.value ≤ 18446744073709551615) × (digits_value l.digits ≡ fold with_digit l.value (drop l.digit-index l.digits))
