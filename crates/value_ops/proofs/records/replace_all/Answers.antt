use Rattle.std.proofs.Common.{◌≡◌, [], drop, sym, ap, ◌∙◌, rules}
use Rattle.value_ops.specs.Aggregates.{replaced}
use Rattle.value_ops.proofs.Joinings.{replaced-short}
use Rattle.value_ops.proofs.records.replace_all.Goals as goal

pub returns-in-None : goal.returns-in-None
returns-in-None c =
    let ps = drop c.loop-place.place-index c.args.places.now in
    let short = replaced-short c.args.places.now c.loop-place.place-index c.loop-place.fields c.loop-place-test.true in
    let none : c.loop-place.given ≡ [] = search (rules, c.in-None.ensures) in
    sym short ∙ ap (λ vs. replaced ps vs c.loop-place.fields) (sym none) ∙ c.loop-place.invariant
