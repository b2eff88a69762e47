use Rattle.std.proofs.Common.{◌≡◌, ◌∙◌, refl, sym, Option, Some, None, drop, rules, arith}
use Rattle.value_text.specs.Tokens.{sign_in, item_in}
use Rattle.value_text.proofs.Joins.{items_more}
use Rattle.value_text.proofs.survey.items.Goals as goal

pub loop-count-preserved : goal.loop-count-preserved
loop-count-preserved c =
    let text = c.args.text.now in
    let open_yet : sign_in 34 (drop c.loop-count.at text) ≡ None = search rules in
    let read : item_in 34 (drop c.loop-count.at text) ≡ Some (c.in_ok-behind.field-0-0, drop c.in_ok-behind.behind text) = search rules in
    let step = items_more c.args.most c.loop-count.count (drop c.loop-count.at text) c.in_ok-behind.field-0-0 (drop c.in_ok-behind.behind text) c.loop-count-test.true open_yet read in
    record {
      within = omega arith;
      rest_to_come = sym step ∙ c.loop-count.invariant.rest_to_come;
    }
