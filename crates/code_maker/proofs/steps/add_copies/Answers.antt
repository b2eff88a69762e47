use Rattle.std.proofs.Common.{refl, ◌∙◌}
use Rattle.std.proofs.lemmas.Result.{on_ok_weaker}
use Rattle.code_maker.proofs.Adding.{move-grows}
use Rattle.code_maker.specs.Seats.{copied_ports}
use Rattle.code_maker.proofs.steps.add_copies.Goals as goal

pub returns : goal.returns
returns c =
    on_ok_weaker c.add.result
    (λ e P o lives owns. move-grows c.args.plan.now c.requires.formed P c.args.draft.now _ o lives owns c.args.args.now c.args.first (copied_ports c.args.ports.now) c.args.out c.args.many c.args.next c.in_ok-froms.froms c.args.many e c.in_ok-add_copied.ensures refl refl (c.in_ok-froms.ensures ∙ c.len.ensures) c.requires.many)
    c.add.ensures.ok
