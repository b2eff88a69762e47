use Rattle.std.proofs.Common.{◌≡◌, ◌∙◌, refl, sym, ap, false, true, [], length, Option, Some, None, drop, rules, arith}
use Rattle.flow_value.specs.Bounds.{is_within as within_bounds}
use Rattle.value_text.specs.Tokens.{sign_in, past_blanks}
use Rattle.value_text.specs.Reading.{bound_in}
use Rattle.value_text.specs.Faults.{unless_own}
use Rattle.value_text.specs.SurveyingBy.{element_if, item_if, fields_if, look_by, parts_look_by, type_by}
use Rattle.value_text.proofs.JoinsBy.{parts_more_by, array_looked, stream_looked, record_looked}
use Rattle.value_text.proofs.survey_by.+survey.Goals as goal

pub parts-loop-count-preserved : goal.parts-loop-count-preserved
parts-loop-count-preserved g t c =
    let text = c.args.text.now in
    let seen = g.T.NumberedTypes.seen c.args.types.now in
    let fields = fields_if seen c.args.of in
    let open_yet : sign_in c.args.close (drop c.loop-count.at text) ≡ None = search rules in
    let read : look_by seen c.args.levels (type_by c.args.each fields c.loop-count.count) (drop c.loop-count.at text) ≡ Some (c.in_ok-inside.inside, drop c.in_ok-inside.behind text) = search rules in
    let step = parts_more_by (look_by seen c.args.levels) c.args.each fields c.args.close c.args.most c.loop-count.count c.loop-count.misfit c.in_ok-inside.inside (drop c.loop-count.at text) (drop c.in_ok-inside.behind text) c.loop-count-test.true open_yet read in
    record {
      within = omega arith;
      rest_to_come = rw (c.first-misfit.ensures, ← c.skip-at.ensures) (sym step ∙ c.loop-count.invariant.rest_to_come);
    }

pub array-returns-then-not-array_fits : goal.array-returns-then-not-array_fits
array-returns-then-not-array_fits g t c =
    let text = c.args.text.now in
    let part = look_by (g.T.NumberedTypes.seen c.args.types.now) c.args.below in
    let opened : bound_in (drop c.args.at text) ≡ Some (c.in_ok-lo.lo, drop c.in_ok-lo.behind text) = search rules in
    let read : parts_look_by part (element_if c.args.form) [] 93 4194304 0 (past_blanks (drop c.in_ok-lo.behind text)) ≡ Some ((c.in_ok-count.count, c.in_ok-count.inside), drop c.in_ok-count.end text) = search rules in
    let wide : within_bounds c.in_ok-lo.lo c.in_ok-count.count ≡ false = search rules in
    array_looked part c.args.form (drop c.args.at text) c.in_ok-lo.lo (drop c.in_ok-lo.behind text) c.in_ok-count.count c.in_ok-count.inside (drop c.in_ok-count.end text) opened read ∙ rw wide refl

pub array-returns : goal.array-returns
array-returns g t c =
    let text = c.args.text.now in
    let part = look_by (g.T.NumberedTypes.seen c.args.types.now) c.args.below in
    let opened : bound_in (drop c.args.at text) ≡ Some (c.in_ok-lo.lo, drop c.in_ok-lo.behind text) = search rules in
    let read : parts_look_by part (element_if c.args.form) [] 93 4194304 0 (past_blanks (drop c.in_ok-lo.behind text)) ≡ Some ((c.in_ok-count.count, c.in_ok-count.inside), drop c.in_ok-count.end text) = search rules in
    let fits : within_bounds c.in_ok-lo.lo c.in_ok-count.count ≡ true = search rules in
    array_looked part c.args.form (drop c.args.at text) c.in_ok-lo.lo (drop c.in_ok-lo.behind text) c.in_ok-count.count c.in_ok-count.inside (drop c.in_ok-count.end text) opened read
    ∙ rw (fits, c.unless_own.ensures, c.is_array.ensures) refl

pub record-returns : goal.record-returns
record-returns g t c =
    let text = c.args.text.now in
    let seen = g.T.NumberedTypes.seen c.args.types.now in
    let part = look_by seen c.args.below in
    let opened : sign_in 60 (drop c.args.at text) ≡ Some (drop c.in_ok-open.open text) = search rules in
    let read : parts_look_by part None (fields_if seen c.args.number) 62 4194304 0 (past_blanks (drop c.in_ok-open.open text)) ≡ Some ((c.in_ok-count.count, c.in_ok-count.inside), drop c.in_ok-count.end text) = search rules in
    record_looked seen part c.args.number (drop c.args.at text) (drop c.in_ok-open.open text) c.in_ok-count.count c.in_ok-count.inside (drop c.in_ok-count.end text) opened read
    ∙ rw (c.unless_own.ensures, c.is_record.ensures) refl

pub stream-returns : goal.stream-returns
stream-returns g t c =
    let text = c.args.text.now in
    let part = look_by (g.T.NumberedTypes.seen c.args.types.now) c.args.below in
    let opened : sign_in 123 (drop c.args.at text) ≡ Some (drop c.in_ok-open.open text) = search rules in
    let read : parts_look_by part (item_if c.args.form) [] 125 4194304 0 (past_blanks (drop c.in_ok-open.open text)) ≡ Some ((c.in_ok-inside.field-0-0-0, c.in_ok-inside.inside), drop c.in_ok-inside.end text) = search rules in
    stream_looked part c.args.form (drop c.args.at text) (drop c.in_ok-open.open text) c.in_ok-inside.field-0-0-0 c.in_ok-inside.inside (drop c.in_ok-inside.end text) opened read
    ∙ rw (c.unless_own.ensures, c.is_stream.ensures) refl
