use Rattle.std.proofs.Common.{◌≡◌, ◌≤◌, ◌+◌, ◌-◌, ◌*◌, drop}
use Rattle.std.specs.List.{fold}
use Rattle.if1_graph.specs.Numbers.{row_value}
use Rattle.if1_graph.proofs.number.row_value.Given as goal

-- the digits that are left decide
abbrev pub invariant-loop-digit : goal.invariant-loop-digit
invariant-loop-digit l = (l.value ≤ 4294967295) × (row_value l.digits ≡ fold (λ n d. 10 * n + (d - 48)) l.value (drop l.digit-index l.digits))
