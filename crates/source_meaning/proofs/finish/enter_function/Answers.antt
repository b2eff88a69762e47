use Rattle.std.proofs.Common.{length, sym, subst}
use Rattle.flow_value.specs.declared.cause.Cause.TheVariants as cause
use Rattle.meaning.specs.Timed.{given, plus, andthen, Passes}
use Rattle.meaning.specs.Words.{failed}
use Rattle.meaning.specs.Meaning.{meaning, results_of}
use Rattle.source_meaning.specs.Pending.{rest}
use Rattle.source_meaning.proofs.finish.enter_function.Goals as goal

pub returns-in_ok-going-in-None-clause-limit : goal.returns-in_ok-going-in-None-clause-limit
returns-in_ok-going-in-None-clause-limit c = λ g p.
    let old = c.args.state.now in
    let f = c.args.function.now in
    subst (λ o. Passes c.args.limit (λ n. plus old.steps (andthen (results_of (length f.results) o (meaning n p) c.args.values) (rest n p old.frames.items old.names)))) (sym c.in-None.is)
    (subst (λ k. Passes c.args.limit (λ n. plus old.steps (andthen (plus k (given (failed k cause.Explicit))) (rest n p old.frames.items old.names)))) c.len.ensures
    (c.in_ok-going-in-None.ensures.limit g p))
