use Rattle.std.proofs.Common.{◌∙◌, ◌+◌, ◌||◌, ◌++◌, drop, sym, ap}
use Rattle.std.specs.List.{list_any}
use Rattle.if1_marks.specs.Given.{Inside}
use Rattle.may_take.specs.declared.looking.Looked.{Looked}
use Rattle.may_take.specs.Around.{insides}
use Rattle.may_take.specs.Ports.{has}
use Rattle.may_take.proofs.Parts.{insides-from}
use Rattle.may_take.proofs.Sets.{has-append, or-grouped}
use Rattle.may_take.proofs.around.given_in_some.Goals as goal

pub loop-place-preserved : goal.loop-place-preserved
loop-place-preserved c = λ port.
    let old = c.loop-place.ports in
    let r = c.index-parts-place.result in
    let rest = list_any (λ (g : Inside). g.is_given port) (drop (c.loop-place.place + 1) (insides c.args.parts.now)) in
    ap (λ ls. has ls port || rest) (c.in_ok-extend.ensures.ok ∙ ap (λ ls. old ++ ls) (c.as_slice.ensures ∙ ap (λ (r : Looked). r.inputs.given) (sym c.index-parts-place.is)))
    ∙ ap (λ b. b || rest) (has-append old r.inputs.given port)
    ∙ or-grouped (has old port) (has r.inputs.given port) rest
    ∙ ap (λ b. has old port || b) (sym (ap (list_any (λ (g : Inside). g.is_given port)) (insides-from c.args.parts.now c.loop-place.place r c.loop-place-test.true c.index-parts-place.is)))
    ∙ c.loop-place.invariant port
