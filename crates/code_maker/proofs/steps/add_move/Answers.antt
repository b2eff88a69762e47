use Rattle.std.proofs.Common.{refl, ◌∙◌}
use Rattle.std.proofs.lemmas.Result.{on_ok_weaker}
use Rattle.code_maker.proofs.Adding.{move-grows}
use Rattle.code_maker.proofs.steps.add_move.Goals as goal

pub returns : goal.returns
returns c =
    on_ok_weaker c.add.result
    (λ e P o lives owns. move-grows c.args.plan.now c.requires.formed P c.args.draft.now _ o lives owns c.args.args.now c.args.first c.args.ports.now c.args.out c.args.width c.args.next c.in_ok-froms.froms c.in_ok-many.many e c.in_ok-add_ports.ensures refl refl (c.in_ok-froms.ensures ∙ c.len.ensures) c.in_ok-many.ensures)
    c.add.ensures.ok
