use Rattle.std.proofs.Common.{◌≡◌, ◌∙◌, ℕ, List, refl, sym, ap, Option, Some, None, drop, rules}
use Rattle.value_text.specs.Tokens.{past_blanks, placed}
use Rattle.value_text.specs.Surveying.{Look, look}
use Rattle.value_text.proofs.Verdict.{too_large, wrong_shape}
use Rattle.value_text.proofs.read.shape_fault.Goals as goal

pub returns-in-None : goal.returns-in-None
returns-in-None c =
    let told : look 64 (Some c.args.ty.now) (drop c.skip.result c.args.text.now) ≡ placed c.args.text.now c.survey.result = c.survey.ensures in
    let nothing : Option (Option ℕ × ℕ) = None in
    let seen : placed c.args.text.now c.survey.result ≡ placed c.args.text.now nothing = ap (λ (x : Option (Option ℕ × ℕ)). placed c.args.text.now x) c.in-None.is in
    too_large c.args.text.now c.args.ty.now c.requires.spelled (ap (look 64 (Some c.args.ty.now)) c.skip.ensures ∙ told ∙ seen)

pub returns-in-Some : goal.returns-in-Some
returns-in-Some c =
    let told : look 64 (Some c.args.ty.now) (drop c.skip.result c.args.text.now) ≡ placed c.args.text.now c.survey.result = c.survey.ensures in
    let found : Option (Option ℕ × ℕ) = Some (c.in-Some.misfit, c.in-Some.field-0-1) in
    let seen : placed c.args.text.now c.survey.result ≡ placed c.args.text.now found = ap (λ (x : Option (Option ℕ × ℕ)). placed c.args.text.now x) c.in-Some.is in
    rw (c.saturating_sub.ensures, c.unwrap_or.ensures)
    (wrong_shape c.args.text.now c.args.ty.now c.in-Some.misfit (drop c.in-Some.field-0-1 c.args.text.now) c.requires.spelled c.requires.unread (ap (look 64 (Some c.args.ty.now)) c.skip.ensures ∙ told ∙ seen))
