use Rattle.std.proofs.Common.{refl, ◌∙◌}
use Rattle.std.proofs.lemmas.Result.{on_ok_weaker}
use Rattle.code_maker.proofs.Adding.{fire-grows}
use Rattle.code_maker.proofs.steps.add_fire.Goals as goal

pub returns : goal.returns
returns c =
    on_ok_weaker c.add.result
    (λ e P o lives owns told. fire-grows c.args.plan.now c.requires.formed P c.args.draft.now _ o lives owns c.args.args.now c.args.first c.args.ports.now c.args.row c.args.shape c.args.written c.args.counted c.args.out c.args.width c.in_ok-ins.ins c.in_ok-many.many told e c.in_ok-add_ports.ensures refl refl (c.in_ok-ins.ensures ∙ c.len.ensures) c.in_ok-many.ensures)
    c.add.ensures.ok
