use Rattle.std.proofs.Common.{◌≡◌, ◌∙◌, refl, sym, Option, Some, None, drop, rules, arith}
use Rattle.flow_value.specs.declared.value.Val.TheVariants as val
use Rattle.value_text.specs.Tokens.{sign_in, item_in}
use Rattle.value_text.specs.Reading.{no_gap, char_item}
use Rattle.value_text.proofs.Parts.{many_more}
use Rattle.value_text.proofs.read.characters.Goals as goal

pub loop-preserved : goal.loop-preserved
loop-preserved c =
    let text = c.args.text.now in
    let open_yet : sign_in 34 (drop c.loop.at text) ≡ None = search rules in
    let item : item_in 34 (drop c.loop.at text) ≡ Some (c.in-Some-item.c, drop c.in-Some-item.behind text) = search rules in
    let read : char_item (drop c.loop.at text) ≡ Some (val.Char c.in-Some-item.c, drop c.in-Some-item.behind text) = rw item refl in
    let step = many_more no_gap char_item 34 c.args.most c.loop.counter (drop c.loop.at text) c.loop.items (val.Char c.in-Some-item.c) (drop c.in-Some-item.behind text) c.loop-test.true open_yet read in
    record {
      within = omega arith;
      rest_to_come = rw c.in_ok-add.ensures.ok (sym step ∙ c.loop.invariant.rest_to_come);
    }
