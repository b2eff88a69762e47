use Rattle.std.proofs.Common.{◌≡◌, ◌+◌, ◌*◌, ◌-◌, ◌≤◌, drop, length}
use Rattle.value_text.specs.Tokens.{past_blanks}
use Rattle.value_text.specs.Reading.{many_in, fields_in, part_in}
use Rattle.value_text.proofs.Parts.{joined}
use Rattle.value_text.proofs.read.+value.Given as goal

abbrev pub invariant-parts-loop : goal.invariant-parts-loop
invariant-parts-loop l = record {
  within : l.counter ≤ l.most;
  rest_to_come : joined l.items (many_in past_blanks (part_in l.levels l.ty) l.close (l.most - l.counter) (drop l.at l.text)) ≡ many_in past_blanks (part_in l.levels l.ty) l.close l.most (drop l.fn.from l.text);
}

abbrev pub invariant-fields_of-loop-i : goal.invariant-fields_of-loop-i
invariant-fields_of-loop-i l = record {
  within : l.i ≤ length l.fields;
  rest_to_come : joined l.items (fields_in (part_in l.levels) (drop l.i l.fields) (drop l.at l.text)) ≡ fields_in (part_in l.levels) l.fields (drop l.fn.from l.text);
}

abbrev pub decreases-value : goal.decreases-value
decreases-value l = l.below * 5 + 4

abbrev pub decreases-typed : goal.decreases-typed
decreases-typed l = l.below * 5 + 3

abbrev pub decreases-array : goal.decreases-array
decreases-array l = l.below * 5 + 2

abbrev pub decreases-stream : goal.decreases-stream
decreases-stream l = l.below * 5 + 2

abbrev pub decreases-record : goal.decreases-record
decreases-record l = l.below * 5 + 2

abbrev pub decreases-union : goal.decreases-union
decreases-union l = l.below * 5 + 2

abbrev pub decreases-content : goal.decreases-content
decreases-content l = l.below * 5 + 1

abbrev pub decreases-parts : goal.decreases-parts
decreases-parts l = l.levels * 5 + 1

abbrev pub decreases-fields_of : goal.decreases-fields_of
decreases-fields_of l = l.levels * 5 + 1

abbrev pub decreases-part : goal.decreases-part
decreases-part l = l.levels * 5
