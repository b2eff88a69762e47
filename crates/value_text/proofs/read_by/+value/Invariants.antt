use Rattle.std.proofs.Common.{◌≡◌, ◌+◌, ◌*◌, ◌-◌, ◌≤◌, drop, length}
use Rattle.value_text.specs.Tokens.{past_blanks}
use Rattle.value_text.specs.Numbered.{Numbered}
use Rattle.value_text.specs.Reading.{many_in}
use Rattle.value_text.specs.ReadingBy.{members_by, part_by}
use Rattle.value_text.proofs.Parts.{joined}
use Rattle.value_text.proofs.read_by.+value.Given as goal

abbrev pub invariant-parts-loop : goal.invariant-parts-loop
invariant-parts-loop g l = record {
  within : l.counter ≤ l.most;
  rest_to_come : joined l.items (many_in past_blanks (part_by (g.T.NumberedTypes.seen l.types) l.levels l.element) l.close (l.most - l.counter) (drop l.at l.text)) ≡ many_in past_blanks (part_by (g.T.NumberedTypes.seen l.types) l.levels l.element) l.close l.most (drop l.fn.from l.text);
}

abbrev pub invariant-members_of-loop-i : goal.invariant-members_of-loop-i
invariant-members_of-loop-i g l = record {
  within : l.i ≤ length ((g.T.NumberedTypes.seen l.types).members l.number);
  rest_to_come : joined l.items (members_by (part_by (g.T.NumberedTypes.seen l.types) l.levels) (drop l.i ((g.T.NumberedTypes.seen l.types).members l.number)) (drop l.at l.text)) ≡ members_by (part_by (g.T.NumberedTypes.seen l.types) l.levels) ((g.T.NumberedTypes.seen l.types).members l.number) (drop l.fn.from l.text);
}

abbrev pub decreases-value : goal.decreases-value
decreases-value g l = l.below * 5 + 4

abbrev pub decreases-typed : goal.decreases-typed
decreases-typed g l = l.below * 5 + 3

abbrev pub decreases-array : goal.decreases-array
decreases-array g l = l.below * 5 + 2

abbrev pub decreases-stream : goal.decreases-stream
decreases-stream g l = l.below * 5 + 2

abbrev pub decreases-record : goal.decreases-record
decreases-record g l = l.below * 5 + 2

abbrev pub decreases-union : goal.decreases-union
decreases-union g l = l.below * 5 + 2

abbrev pub decreases-content : goal.decreases-content
decreases-content g l = l.below * 5 + 1

abbrev pub decreases-parts : goal.decreases-parts
decreases-parts g l = l.levels * 5 + 1

abbrev pub decreases-members_of : goal.decreases-members_of
decreases-members_of g l = l.levels * 5 + 1

abbrev pub decreases-part : goal.decreases-part
decreases-part g l = l.levels * 5
