use Rattle.std.proofs.Common.{◌<◌, ◌≤◌, ◌+◌, length, subst, arith}
use Rattle.std.proofs.Math.ListN.{drop_of_length-le}
use Rattle.value_text.specs.Grammar.{reads_value}
use Rattle.mean_call.specs.Words.{IsWordRefusal, AreMisread}
use Rattle.mean_call.proofs.Reading.{decides_next, decides_last, refused_here, as_many, stands_at, given_up, of_refusal, of_value}
use Rattle.mean_call.proofs.arguments.read_all.Goals as goal

pub returns-in_err-value-clause-refused : goal.returns-in_err-value-clause-refused
returns-in_err-value-clause-refused g c = λ tys h.
    let ts = g.T.NumberedTypes.seen c.args.types.now in
    let many = as_many ts c.args.numbers.now tys h in
    let place : c.loop-i.i < length c.args.numbers.now = omega (arith, c.requires, c.loop-i-test.true) in
    let within : c.loop-i.i < length tys = omega (arith, place, many) in
    let at = stands_at ts c.args.numbers.now tys c.loop-i.i c.number_at-number.result h place (c.number_at-number.ensures c.number_at-number.result) in
    let why = of_refusal (IsWordRefusal c.as_slice.result.now at.type (c.loop-i.i + 1)) c.argument.result c.in_err-value.field-0.0 c.in_err-value.was (c.argument.ensures.refused at.type at.stands) in
    let word = subst (λ w. IsWordRefusal w at.type (c.loop-i.i + 1) c.in_err-value.field-0.0) c.as_slice.ensures why in
    given_up (AreMisread c.args.words.now tys) c.from_residual-in_err-value.result c.in_err-value.field-0.0 c.from_residual-in_err-value.ensures.1
    (refused_here c.args.words.now tys c.loop-i.i c.loop-i.values c.index-words-i.result at.type c.in_err-value.field-0.0 c.loop-i-test.true within c.index-words-i.is at.is word (c.loop-i.invariant tys h))

pub loop-i-preserved : goal.loop-i-preserved
loop-i-preserved g c = λ tys h.
    let ts = g.T.NumberedTypes.seen c.args.types.now in
    let many = as_many ts c.args.numbers.now tys h in
    let place : c.loop-i.i < length c.args.numbers.now = omega (arith, c.requires, c.loop-i-test.true) in
    let within : c.loop-i.i < length tys = omega (arith, place, many) in
    let at = stands_at ts c.args.numbers.now tys c.loop-i.i c.number_at-number.result h place (c.number_at-number.ensures c.number_at-number.result) in
    let told = of_value (reads_value c.as_slice.result.now at.type) c.argument.result c.in_ok-value.value c.in_ok-value.was (c.argument.ensures.read at.type at.stands) in
    let read = subst (λ w. reads_value w at.type c.in_ok-value.value) c.as_slice.ensures told in
    decides_next c.args.words.now tys c.loop-i.i c.loop-i.values c.add.new.self c.index-words-i.result at.type c.in_ok-value.value c.loop-i-test.true within c.index-words-i.is at.is read c.in_ok-add.ensures.ok (c.loop-i.invariant tys h)

pub returns-clause-read : goal.returns-clause-read
returns-clause-read g c = λ tys h.
    let many = as_many (g.T.NumberedTypes.seen c.args.types.now) c.args.numbers.now tys h in
    let past : length tys ≤ c.loop-i.i = omega (arith, many, c.requires, c.loop-i-test.false) in
    decides_last c.args.words.now tys c.loop-i.i c.loop-i.values (drop_of_length-le c.args.words.now c.loop-i-test.false) (drop_of_length-le tys past) (c.loop-i.invariant tys h)
