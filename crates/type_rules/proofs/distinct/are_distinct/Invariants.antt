use Rattle.std.proofs.Common.{◌≡◌, ◌≤◌, true, drop, length}
use Rattle.type_rules.specs.Records.{are_distinct}
use Rattle.type_rules.proofs.Twice.{Seen}
use Rattle.type_rules.proofs.distinct.are_distinct.Given as goal

-- the numbers from this place on are seen, and none of them stands twice
abbrev pub invariant-loop-at : goal.invariant-loop-at
invariant-loop-at l = record {
  within : l.at ≤ length l.numbers;
  seen : Seen l.behind.keys (drop l.at l.numbers);
  whole : are_distinct (drop l.at l.numbers) ≡ true;
}

abbrev pub decreases-loop-at : goal.decreases-loop-at
decreases-loop-at l = l.at
