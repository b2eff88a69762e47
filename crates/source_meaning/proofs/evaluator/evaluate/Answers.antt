use Rattle.std.proofs.Common.{◌≡◌, ◌≤◌, ◌++◌, Some, sym, ap, ◌∙◌, arith}
use Rattle.source_meaning.specs.Slots.{given_values}
use Rattle.meaning.specs.Meaning.{calls}
use Rattle.source_meaning.specs.Pending.{Program}
use Rattle.source_meaning.proofs.Rests.{found, too_long}
use Rattle.source_meaning.proofs.evaluator.evaluate.Goals as goal

pub returns-in_ok-add_values-in-On-clause-found : goal.returns-in_ok-add_values-in-On-clause-found
returns-in_ok-add_values-in-On-clause-found c =
    let p : Program = c.as_slice-functions.result.now in
    let m = c.in_ok-start.ensures.moves c.in-On.is in
    let f = found p c.args.function c.new-2.result c.args.args c.new.result.items (given_values c.start.new.state.given) c.start.new.state.steps c.new.ensures.items m in
    let b : c.start.new.state.steps ≤ c.args.limit = c.in_ok-start.ensures.bound (omega arith) in
    let v : c.add_values.new.items ≡ given_values c.start.new.state.given = c.in_ok-add_values-in-On.ensures ∙ ap (λ x. x ++ given_values c.start.new.state.given) c.new-values.ensures in
    (b, (f.0, ap (λ q. calls f.0 q c.args.function c.args.args) (sym c.as_slice-functions.ensures) ∙ f.1 ∙ ap (λ x. Some (x, c.start.new.state.steps)) (sym v)))

pub returns-in-Limit-clause-turn_limit : goal.returns-in-Limit-clause-turn_limit
returns-in-Limit-clause-turn_limit c = λ e n steps values h.
    too_long c.args.limit c.as_slice-functions.result.now c.args.function c.new-2.result c.args.args c.new.result.items c.new.ensures.items (c.in_ok-start.ensures.limit c.in-Limit.is) n steps values
    (ap (λ q. calls n q c.args.function c.args.args) c.as_slice-functions.ensures ∙ h)
