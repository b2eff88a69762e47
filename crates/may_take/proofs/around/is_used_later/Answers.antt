use Rattle.std.proofs.Common.{◌∙◌, ◌+◌, ◌||◌, drop, sym, ap}
use Rattle.std.specs.List.{list_any}
use Rattle.if1_marks.specs.Given.{Inside}
use Rattle.may_take.specs.declared.looking.Looked.{Looked}
use Rattle.may_take.specs.Ports.{has}
use Rattle.may_take.specs.Around.{insides}
use Rattle.may_take.proofs.Parts.{insides-from}
use Rattle.may_take.proofs.around.is_used_later.Goals as goal

pub returns-then-has : goal.returns-then-has
returns-then-has c =
    let rest = list_any (λ (g : Inside). g.is_used c.args.port) (drop (c.loop-place.place + 1) (insides c.args.parts.now)) in
    sym (sym c.loop-place.invariant
    ∙ ap (list_any (λ (g : Inside). g.is_used c.args.port)) (insides-from c.args.parts.now c.loop-place.place c.index-parts-place.result c.loop-place-test.true c.index-parts-place.is)
    ∙ ap (λ b. b || rest) (ap (λ (r : Looked). has r.inputs.used c.args.port) c.index-parts-place.is ∙ (sym c.has.ensures ∙ c.if-has.true)))

pub loop-place-preserved : goal.loop-place-preserved
loop-place-preserved c =
    let rest = list_any (λ (g : Inside). g.is_used c.args.port) (drop (c.loop-place.place + 1) (insides c.args.parts.now)) in
    sym (ap (list_any (λ (g : Inside). g.is_used c.args.port)) (insides-from c.args.parts.now c.loop-place.place c.index-parts-place.result c.loop-place-test.true c.index-parts-place.is)
    ∙ ap (λ b. b || rest) (ap (λ (r : Looked). has r.inputs.used c.args.port) c.index-parts-place.is ∙ (sym c.has.ensures ∙ c.if-has.false)))
    ∙ c.loop-place.invariant
