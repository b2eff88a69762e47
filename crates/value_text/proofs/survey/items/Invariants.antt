use Rattle.std.proofs.Common.{◌≡◌, ◌-◌, ◌≤◌, drop}
use Rattle.value_text.specs.Surveying.{items_look}
use Rattle.value_text.proofs.Joins.{counted}
use Rattle.value_text.proofs.survey.items.Given as goal

abbrev pub invariant-loop-count : goal.invariant-loop-count
invariant-loop-count l = record {
  within : l.count ≤ l.most;
  rest_to_come : counted l.count (items_look (l.most - l.count) (drop l.at l.text)) ≡ items_look l.most (drop l.fn.from l.text);
}
