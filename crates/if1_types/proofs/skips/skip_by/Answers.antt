use Rattle.std.proofs.Common.{◌∙◌, sym, subst}
use Rattle.if1_types.specs.Skips.{IsFurther}
use Rattle.if1_types.proofs.Skipping.{behind_further, further_then}
use Rattle.if1_types.proofs.skips.skip_by.Goals as goal

pub returns-in-Some : goal.returns-in-Some
returns-in-Some c =
    let ks = c.args.shapes.now in
    let l = c.args.list in
    let rest : IsFurther ks l c.args.rest = subst (IsFurther ks l) (sym c.requires.behind) (behind_further ks c.requires.told l) in
    let once : IsFurther ks c.args.rest c.args.once = c.requires.further c.args.rest c.args.once c.requires.once in
    let twice : IsFurther ks c.args.once c.in-Some.twice = c.requires.further c.args.once c.in-Some.twice (sym c.skip_at.ensures ∙ c.in-Some.is) in
    further_then ks l c.args.once c.in-Some.twice
    (further_then ks l c.args.rest c.args.once rest (λ h. once) (c.is_even.ensures.rest c.if-is_even.true))
    (λ h. twice) (c.is_even.ensures.once c.if-is_even.true)
