use Rattle.std.proofs.Common.{refl, ◌∙◌}
use Rattle.std.proofs.lemmas.Result.{on_ok_weaker}
use Rattle.code_maker.proofs.Adding.{branch-grows}
use Rattle.plan_data.specs.declared.plan.Handled.TheVariants as handled
use Rattle.code_maker.specs.Seats.{starts_from}
use Rattle.std.proofs.Common.{◌≡◌, ◌++◌, ◌∷◌, [], subst}
use Rattle.step_code.specs.declared.step.Step.TheVariants as step
use Rattle.code_maker.proofs.Standing.{starts-long}
use Rattle.code_maker.proofs.steps.add_branch.Goals as goal

pub returns : goal.returns
returns c =
    on_ok_weaker c.add.result
    (λ e P o lives owns. branch-grows c.args.plan.now c.requires.formed P c.args.draft.now _ o lives owns handled.Looks c.args.selector (starts_from c.args.plan.now c.args.arms.now c.args.begin) c.in_ok-targets.targets c.in_ok-many.many c.args.out c.args.width c.args.next (subst (λ q. c.add.new.self ≡ c.args.draft.now.steps ++ step.Branch q c.in_ok-targets.targets c.in_ok-many.many c.args.out c.args.width c.args.next ∷ []) c.operand.ensures e) refl c.in_ok-add_starts.ensures refl (c.in_ok-targets.ensures ∙ c.len.ensures) (c.in_ok-many.ensures ∙ starts-long c.args.plan.now c.args.arms.now c.args.begin))
    c.add.ensures.ok
