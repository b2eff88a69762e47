use Rattle.std.proofs.Common.{◌≡◌, ◌-◌, ◌<◌, ◌^◌, drop, length}
use Rattle.value_text.specs.Tokens.{number_from}
use Rattle.value_text.proofs.token.digits.Given as goal

abbrev pub invariant-loop-at : goal.invariant-loop-at
invariant-loop-at l = record {
  read : number_from 0 (drop l.fn.from l.text) ≡ number_from l.n (drop l.at l.text);
  small : l.n < 2 ^ 64;
}

abbrev pub decreases-loop-at : goal.decreases-loop-at
decreases-loop-at l = length l.text - l.at
