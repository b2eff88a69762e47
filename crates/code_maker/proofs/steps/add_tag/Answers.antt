use Rattle.std.proofs.Common.{refl, ◌∙◌}
use Rattle.std.proofs.lemmas.Result.{on_ok_weaker}
use Rattle.code_maker.proofs.Adding.{tag-grows}
use Rattle.code_maker.specs.Seats.{starts_from}
use Rattle.std.proofs.Common.{◌≡◌, ◌++◌, ◌∷◌, [], subst, true}
use Rattle.step_code.specs.declared.step.Step.TheVariants as step
use Rattle.code_maker.proofs.Standing.{starts-long}
use Rattle.code_maker.proofs.steps.add_tag.Goals as goal

pub returns : goal.returns
returns c =
    on_ok_weaker c.add.result
    (λ e P o lives owns. tag-grows c.args.plan.now c.requires.formed P c.args.draft.now _ o lives owns c.args.handled c.args.union (starts_from c.args.plan.now c.args.arms.now c.args.begin) c.in_ok-targets.targets c.in_ok-many.many c.args.content c.args.out c.args.width c.args.next (subst (λ q. c.add.new.self ≡ c.args.draft.now.steps ++ step.Tag q c.in_ok-targets.targets c.in_ok-many.many c.args.content true c.args.out c.args.width c.args.next ∷ []) c.operand.ensures e) refl c.in_ok-add_starts.ensures refl (c.in_ok-targets.ensures ∙ c.len.ensures) (c.in_ok-many.ensures ∙ starts-long c.args.plan.now c.args.arms.now c.args.begin))
    c.add.ensures.ok
