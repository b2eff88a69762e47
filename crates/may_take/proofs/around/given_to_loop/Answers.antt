use Rattle.std.proofs.Common.{◌∙◌, ◌&&◌, not, drop, sym, ap}
use Rattle.std.specs.List.{list_any}
use Rattle.std.proofs.lemmas.Result.{IfOk-weaker}
use Rattle.if1_marks.specs.Given.{Inside}
use Rattle.may_take.specs.Around.{insides}
use Rattle.may_take.specs.Ports.{has}
use Rattle.may_take.proofs.Parts.{loop-given, none-given}
use Rattle.may_take.proofs.around.given_to_loop.Goals as goal

pub returns-in-Some : goal.returns-in-Some
returns-in-Some c =
    IfOk-weaker c.unused_later.result _ _
    (λ r h port.
    h port
    ∙ ap (λ ls. has ls port && not (list_any (λ (g : Inside). g.is_used port) (drop 1 (insides c.args.parts.now)))) c.as_slice.ensures
    ∙ loop-given c.args.parts.now c.in-Some.first.now c.in-Some.ensures port)
    c.unused_later.ensures

pub returns-in-None : goal.returns-in-None
returns-in-None c = λ port. c.of.ensures port ∙ ap (λ ls. has ls port) c.new.ensures ∙ sym (none-given c.args.parts.now c.in-None.ensures port)
