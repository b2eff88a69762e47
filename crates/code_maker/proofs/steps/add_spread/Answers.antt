use Rattle.std.proofs.Common.{refl, ◌∙◌}
use Rattle.std.proofs.lemmas.Result.{on_ok_weaker}
use Rattle.code_maker.proofs.Adding.{spread-grows}
use Rattle.code_maker.proofs.steps.add_spread.Goals as goal

pub returns : goal.returns
returns c =
    on_ok_weaker c.add.result
    (λ e P o lives owns. spread-grows c.args.plan.now c.requires.formed P c.args.draft.now _ o lives owns c.args.args.now c.args.first c.args.ports.now c.args.collects.now c.args.to c.args.turns c.args.out c.args.width c.args.next c.in_ok-froms.froms c.in_ok-many.many c.in_ok-start.start c.in_ok-count.count e c.in_ok-add_ports.ensures refl c.in_ok-add_collects.ensures (c.in_ok-froms.ensures ∙ c.len.ensures) c.in_ok-many.ensures (c.in_ok-start.ensures ∙ c.len-2.ensures) c.in_ok-count.ensures)
    c.add.ensures.ok
