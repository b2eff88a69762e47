use Rattle.std.proofs.Common.{◌≡◌, ◌+◌, ◌*◌, ◌-◌, ◌≤◌, drop}
use Rattle.value_text.specs.SurveyingBy.{fields_if, look_by, parts_look_by}
use Rattle.value_text.proofs.Joins.{joined_looks}
use Rattle.value_text.proofs.survey_by.+survey.Given as goal

abbrev pub invariant-parts-loop-count : goal.invariant-parts-loop-count
invariant-parts-loop-count g l = record {
  within : l.count ≤ l.most;
  rest_to_come : joined_looks l.count l.misfit (parts_look_by (look_by (g.T.NumberedTypes.seen l.types) l.levels) l.each (fields_if (g.T.NumberedTypes.seen l.types) l.of) l.close (l.most - l.count) l.count (drop l.at l.text)) ≡ parts_look_by (look_by (g.T.NumberedTypes.seen l.types) l.levels) l.each (fields_if (g.T.NumberedTypes.seen l.types) l.of) l.close l.most 0 (drop l.fn.from l.text);
}

abbrev pub decreases-survey_by : goal.decreases-survey_by
decreases-survey_by g l = l.levels * 6

abbrev pub decreases-level : goal.decreases-level
decreases-level g l = l.below * 6 + 5

abbrev pub decreases-by_front : goal.decreases-by_front
decreases-by_front g l = l.below * 6 + 4

abbrev pub decreases-array : goal.decreases-array
decreases-array g l = l.below * 6 + 3

abbrev pub decreases-stream : goal.decreases-stream
decreases-stream g l = l.below * 6 + 3

abbrev pub decreases-record : goal.decreases-record
decreases-record g l = l.below * 6 + 3

abbrev pub decreases-union : goal.decreases-union
decreases-union g l = l.below * 6 + 3

abbrev pub decreases-parts : goal.decreases-parts
decreases-parts g l = l.levels * 6 + 1
