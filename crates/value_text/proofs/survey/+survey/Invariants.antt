use Rattle.std.proofs.Common.{◌≡◌, ◌+◌, ◌*◌, ◌-◌, ◌≤◌, drop}
use Rattle.std.specs.Option.{option_copied}
use Rattle.value_text.specs.Surveying.{look, parts_look}
use Rattle.value_text.proofs.Joins.{joined_looks}
use Rattle.value_text.proofs.survey.+survey.Given as goal

abbrev pub invariant-parts-loop-count : goal.invariant-parts-loop-count
invariant-parts-loop-count l = record {
  within : l.count ≤ l.most;
  rest_to_come : joined_looks l.count l.misfit (parts_look (look l.levels) (option_copied l.ty) l.fields l.close (l.most - l.count) l.count (drop l.at l.text)) ≡ parts_look (look l.levels) (option_copied l.ty) l.fields l.close l.most 0 (drop l.fn.from l.text);
}

abbrev pub decreases-survey : goal.decreases-survey
decreases-survey l = l.levels * 6

abbrev pub decreases-level : goal.decreases-level
decreases-level l = l.below * 6 + 5

abbrev pub decreases-by_front : goal.decreases-by_front
decreases-by_front l = l.below * 6 + 4

abbrev pub decreases-array : goal.decreases-array
decreases-array l = l.below * 6 + 3

abbrev pub decreases-stream : goal.decreases-stream
decreases-stream l = l.below * 6 + 3

abbrev pub decreases-record : goal.decreases-record
decreases-record l = l.below * 6 + 3

abbrev pub decreases-union : goal.decreases-union
decreases-union l = l.below * 6 + 3

abbrev pub decreases-parts : goal.decreases-parts
decreases-parts l = l.levels * 6 + 1
