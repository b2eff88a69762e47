use Rattle.std.proofs.Common.{◌≡◌, ◌≤◌}
use Rattle.std.proofs.lemmas.Result.{IfOk-weaker, IfErr-weaker}
use Rattle.source_meaning.specs.declared.evaluator.MeanFault.TheVariants as fault
use Rattle.meaning.specs.Meaning.{calls}
use Rattle.meaning_laws.specs.Laws.{Program, IsGiven, PassesAlways}
use Rattle.meaning.specs.Plain.{plain_calls}
use Rattle.meaning_laws.proofs.Agree.{calls_same, limits_same}
use Rattle.meaning_laws.proofs.laws.plain_mean.Goals as goal

pub returns-clause-found : goal.returns-clause-found
returns-clause-found c =
    let p : Program = c.args.program.now.functions in
    IfOk-weaker c.mean.result
    (λ r. (r.steps ≤ c.args.limit) × IsGiven (λ n. calls n p c.args.function c.args.args) r.values r.steps)
    (λ r. (r.steps ≤ c.args.limit) × IsGiven (λ n. plain_calls n p c.args.function c.args.args) r.values r.steps)
    (λ r h. (h.0, (calls_same p c.args.function c.args.args r.values r.steps).1 h.1)) c.mean.ensures.found

pub returns-clause-turn_limit : goal.returns-clause-turn_limit
returns-clause-turn_limit c =
    let p : Program = c.args.program.now.functions in
    IfErr-weaker c.mean.result
    (λ e. e ≡ fault.TurnLimit → PassesAlways c.args.limit (λ n. calls n p c.args.function c.args.args))
    (λ e. e ≡ fault.TurnLimit → PassesAlways c.args.limit (λ n. plain_calls n p c.args.function c.args.args))
    (λ e h is. (limits_same p c.args.function c.args.args c.args.limit).1 (h is)) c.mean.ensures.turn_limit
