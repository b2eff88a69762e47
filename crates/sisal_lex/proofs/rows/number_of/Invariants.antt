use Rattle.std.proofs.Common.{◌≡◌, ◌≤◌, ◌∷◌, ◌+◌, ◌-◌, ◌*◌, drop}
use Rattle.std.specs.List.{fold}
use Rattle.sisal_lex.specs.Tokens.{number_value}
use Rattle.sisal_lex.proofs.rows.number_of.Given as goal

-- the digits that are left decide
abbrev pub invariant-loop-byte : goal.invariant-loop-byte
invariant-loop-byte l = (l.value ≤ 9223372036854775807) × (number_value (l.first ∷ l.others) ≡ fold (λ n d. 10 * n + (d - 48)) l.value (drop l.byte-index l.others))
