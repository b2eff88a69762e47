use Rattle.std.proofs.Common.{refl}
use Rattle.std.proofs.lemmas.Result.{on_ok_weaker}
use Rattle.code_maker.proofs.Adding.{test-grows}
use Rattle.plan_data.specs.declared.plan.Handled.TheVariants as handled
use Rattle.std.proofs.Common.{◌≡◌, ◌++◌, ◌∷◌, [], subst}
use Rattle.step_code.specs.declared.step.Step.TheVariants as step
use Rattle.code_maker.proofs.steps.add_test.Goals as goal

pub returns : goal.returns
returns c =
    on_ok_weaker c.add.result
    (λ e P o lives owns. test-grows c.args.plan.now c.requires P c.args.draft.now _ o lives owns handled.Looks c.args.test c.args.turn c.args.leave c.args.out c.args.width c.args.next (subst (λ q. c.add.new.self ≡ c.args.draft.now.steps ++ step.Test q c.args.turn c.args.leave c.args.out c.args.width c.args.next ∷ []) c.operand.ensures e) refl refl refl)
    c.add.ensures.ok
