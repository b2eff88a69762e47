use Rattle.std.proofs.Common.{◌≡◌, ◌∙◌, refl, sym, ap, Option, Some, None, drop, slice_get, rules, arith}
use Rattle.value_text.specs.Tokens.{past_blanks, sign_in, placed}
use Rattle.value_text.specs.Reading.{many_in, bound_in, array_of, array_read}
use Rattle.value_text.specs.ReadingBy.{part_by}
use Rattle.value_text.proofs.Parts.{joined, many_more, array_found, stream_found}
use Rattle.value_text.proofs.JoinsBy.{part_value_by, members_more, members_none}
use Rattle.value_text.proofs.read_by.+value.Goals as goal

pub array-returns-in_default-array_of : goal.array-returns-in_default-array_of
array-returns-in_default-array_of g t c =
    let text = c.args.text.now in
    let part = part_by (g.T.NumberedTypes.seen c.args.types.now) c.args.below c.args.element in
    let opened : bound_in (drop c.args.at text) ≡ Some (c.in-Some.lo, drop c.in-Some.behind text) = search rules in
    let read : many_in past_blanks part 93 4194304 (past_blanks (drop c.in-Some.behind text)) ≡ Some (c.in-Some-2.items, drop c.in-Some-2.end text) = search rules in
    let none : array_of c.in-Some.lo c.in-Some-2.items ≡ None = search rules in
    array_found part (drop c.args.at text) c.in-Some.lo (drop c.in-Some.behind text) c.in-Some-2.items (drop c.in-Some-2.end text) opened read ∙ rw none refl

pub array-returns : goal.array-returns
array-returns g t c =
    let text = c.args.text.now in
    let part = part_by (g.T.NumberedTypes.seen c.args.types.now) c.args.below c.args.element in
    let opened : bound_in (drop c.args.at text) ≡ Some (c.in-Some.lo, drop c.in-Some.behind text) = search rules in
    let read : many_in past_blanks part 93 4194304 (past_blanks (drop c.in-Some.behind text)) ≡ Some (c.in-Some-2.items, drop c.in-Some-2.end text) = search rules in
    let some : array_of c.in-Some.lo c.in-Some-2.items ≡ Some c.in-Some-array_of.v = search rules in
    array_found part (drop c.args.at text) c.in-Some.lo (drop c.in-Some.behind text) c.in-Some-2.items (drop c.in-Some-2.end text) opened read ∙ rw some refl

pub part-returns : goal.part-returns
part-returns g t c = rw (part_value_by (g.T.NumberedTypes.seen c.args.types.now) c.args.levels c.args.number (drop c.args.at c.args.text.now) c.if-levels-eq0.false) c.value.ensures

pub parts-loop-preserved : goal.parts-loop-preserved
parts-loop-preserved g t c =
    let text = c.args.text.now in
    let part = part_by (g.T.NumberedTypes.seen c.args.types.now) c.args.levels c.args.element in
    let open_yet : sign_in c.args.close (drop c.loop.at text) ≡ None = search rules in
    let read : part (drop c.loop.at text) ≡ Some (c.in-Some-2.v, drop c.in-Some-2.behind text) = search rules in
    let step = many_more past_blanks part c.args.close c.args.most c.loop.counter (drop c.loop.at text) c.loop.items c.in-Some-2.v (drop c.in-Some-2.behind text) c.loop-test.true open_yet read in
    record {
      within = omega arith;
      rest_to_come = rw (c.in_ok-add.ensures.ok, ← c.skip-at.ensures) (sym step ∙ c.loop.invariant.rest_to_come);
    }

pub stream-returns : goal.stream-returns
stream-returns g t c =
    let text = c.args.text.now in
    let part = part_by (g.T.NumberedTypes.seen c.args.types.now) c.args.below c.args.element in
    let opened : sign_in 123 (drop c.args.at text) ≡ Some (drop c.in-Some.open text) = search rules in
    let read : many_in past_blanks part 125 4194304 (past_blanks (drop c.in-Some.open text)) ≡ Some (c.in-Some-2.items, drop c.in-Some-2.end text) = search rules in
    stream_found part (drop c.args.at text) (drop c.in-Some.open text) c.in-Some-2.items (drop c.in-Some-2.end text) opened read

pub members_of-returns-in_default-2 : goal.members_of-returns-in_default-2
members_of-returns-in_default-2 g t c =
    let text = c.args.text.now in
    let seen = g.T.NumberedTypes.seen c.args.types.now in
    let part = part_by seen c.args.levels in
    let there : slice_get (seen.members c.args.number) c.loop-i.i ≡ Some c.in-Some.member = search rules in
    let unread : part c.in-Some.member (past_blanks (drop c.loop-i.at text)) ≡ None = search rules in
    sym c.loop-i.invariant.rest_to_come ∙ ap (joined c.loop-i.items) (members_none part (seen.members c.args.number) c.loop-i.i c.in-Some.member (drop c.loop-i.at text) there unread)

pub members_of-loop-i-preserved : goal.members_of-loop-i-preserved
members_of-loop-i-preserved g t c =
    let text = c.args.text.now in
    let seen = g.T.NumberedTypes.seen c.args.types.now in
    let part = part_by seen c.args.levels in
    let there : slice_get (seen.members c.args.number) c.loop-i.i ≡ Some c.in-Some.member = search rules in
    let read : part c.in-Some.member (past_blanks (drop c.loop-i.at text)) ≡ Some (c.in-Some-2.v, drop c.in-Some-2.behind text) = search rules in
    let step = members_more part (seen.members c.args.number) c.loop-i.i c.in-Some.member (drop c.loop-i.at text) c.loop-i.items c.in-Some-2.v (drop c.in-Some-2.behind text) there read in
    record {
      within = omega (arith, c.loop-i-test.true, c.count_of-i-end.ensures);
      rest_to_come = rw c.in_ok-add.ensures.ok (sym step ∙ c.loop-i.invariant.rest_to_come);
    }
