use Rattle.std.proofs.Common.{◌≡◌, ◌∙◌, ℕ, ap, Option, Some, None, drop}
use Rattle.value_text.specs.Tokens.{placed}
use Rattle.value_text.specs.SurveyingBy.{look_by}
use Rattle.value_text.proofs.VerdictBy.{too_large_by, wrong_shape_by}
use Rattle.value_text.proofs.read_by.shape_fault.Goals as goal

pub returns-in-None : goal.returns-in-None
returns-in-None g c =
    let ts = g.T.NumberedTypes.seen c.args.types.now in
    let nothing : Option (Option ℕ × ℕ) = None in
    let told : look_by ts 64 (Some c.args.number) (drop c.skip.result c.args.text.now) ≡ placed c.args.text.now c.survey_by.result = c.survey_by.ensures in
    let none : placed c.args.text.now c.survey_by.result ≡ placed c.args.text.now nothing = ap (λ (x : Option (Option ℕ × ℕ)). placed c.args.text.now x) c.in-None.is in
    too_large_by ts c.args.number c.args.text.now c.requires.spelled (ap (look_by ts 64 (Some c.args.number)) c.skip.ensures ∙ (told ∙ none))

pub returns-in-Some : goal.returns-in-Some
returns-in-Some g c =
    let ts = g.T.NumberedTypes.seen c.args.types.now in
    let found : Option (Option ℕ × ℕ) = Some (c.in-Some.misfit, c.in-Some.field-0-1) in
    let told : look_by ts 64 (Some c.args.number) (drop c.skip.result c.args.text.now) ≡ placed c.args.text.now c.survey_by.result = c.survey_by.ensures in
    let some : placed c.args.text.now c.survey_by.result ≡ placed c.args.text.now found = ap (λ (x : Option (Option ℕ × ℕ)). placed c.args.text.now x) c.in-Some.is in
    rw (c.saturating_sub.ensures, c.unwrap_or.ensures)
    (wrong_shape_by ts c.args.number c.args.text.now c.in-Some.misfit (drop c.in-Some.field-0-1 c.args.text.now) c.requires.spelled c.requires.unread (ap (look_by ts 64 (Some c.args.number)) c.skip.ensures ∙ (told ∙ some)))
