use Rattle.std.proofs.Common.{rules, ◌≡◌, ◌<◌, ◌+◌, ◌∙◌, ℕ, List, ap, sym}
use Rattle.flow_value.specs.declared.value.Val.{Val}
use Rattle.flow_value.specs.declared.cause.Cause.TheVariants as cause
use Rattle.meaning.specs.Words.{failed}
use Rattle.source_meaning.specs.Slots.{given_values}
use Rattle.source_meaning.specs.Pending.{rest}
use Rattle.source_meaning.proofs.Wholes.{whole}
use Rattle.source_meaning.proofs.Laws.{passes_now}
use Rattle.source_meaning.proofs.Rests.{stepped}
use Rattle.source_meaning.proofs.Follows.{whole_as}
use Rattle.source_meaning.proofs.finish.give_stub.Goals as goal

pub returns-then-not-count-clause-limit : goal.returns-then-not-count-clause-limit
returns-then-not-count-clause-limit c = λ g p.
    let old = c.args.state.now in
    let k : ℕ = c.args.results in
    let over : c.args.limit < old.steps + k = search rules in
    passes_now c.args.limit old.steps k _ (λ n. rest n p old.frames.items old.names (failed k cause.Explicit)) over
    (λ n. stepped old.steps k (failed k cause.Explicit) (rest n p old.frames.items old.names))

pub returns-clause-same : goal.returns-clause-same
returns-clause-same c = λ g n p.
    let old = c.args.state.now in
    let new = c.give_failed.new.state in
    let k : ℕ = c.args.results in
    let vs : List Val = failed k cause.Explicit in
    let steps : new.steps ≡ old.steps + k = search rules in
    let frames : new.frames.items ≡ old.frames.items = ap (λ v. v.items) (c.give_failed.ensures.frames ∙ c.count.ensures.frames) in
    let names : new.names ≡ old.names = search rules in
    let values : given_values new.given ≡ vs = search rules in
    stepped old.steps k vs (rest n p old.frames.items old.names)
    ∙ whole_as n p (old.steps + k) new.steps old.frames.items old.names new.names vs (given_values new.given) steps names values
    ∙ ap (λ fs. whole n p new.steps fs new.names (given_values new.given)) (sym frames)
