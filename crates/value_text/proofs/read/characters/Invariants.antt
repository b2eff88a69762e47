use Rattle.std.proofs.Common.{◌≡◌, ◌-◌, ◌≤◌, drop}
use Rattle.value_text.specs.Reading.{many_in, no_gap, char_item}
use Rattle.value_text.proofs.Parts.{joined}
use Rattle.value_text.proofs.read.characters.Given as goal

abbrev pub invariant-loop : goal.invariant-loop
invariant-loop l = record {
  within : l.counter ≤ l.most;
  rest_to_come : joined l.items (many_in no_gap char_item 34 (l.most - l.counter) (drop l.at l.text)) ≡ many_in no_gap char_item 34 l.most (drop l.fn.from l.text);
}
