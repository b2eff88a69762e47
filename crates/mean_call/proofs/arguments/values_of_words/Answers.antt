use Rattle.std.proofs.Common.{◌≡◌, refl, sym, length, arith}
use Rattle.mean_call.proofs.Reading.{as_many, misread_all}
use Rattle.mean_call.proofs.arguments.values_of_words.Goals as goal

pub returns-then-words-numbers-clause-refused : goal.returns-then-words-numbers-clause-refused
returns-then-words-numbers-clause-refused g c = λ tys h.
    (as_many (g.T.NumberedTypes.seen c.args.types.now) c.args.numbers.now tys h, refl, λ same. c.if-words-numbers.true (sym same))

pub returns-clause-refused : goal.returns-clause-refused
returns-clause-refused g c = λ tys h.
    let many = as_many (g.T.NumberedTypes.seen c.args.types.now) c.args.numbers.now tys h in
    let same : length c.args.words.now ≡ length tys = omega (arith, many, c.if-words-numbers.false) in
    misread_all c.args.words.now tys c.read_all.result same (c.read_all.ensures.refused tys h)
