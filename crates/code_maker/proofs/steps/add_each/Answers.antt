use Rattle.std.proofs.Common.{refl, ◌∙◌}
use Rattle.std.proofs.lemmas.Result.{on_ok_weaker}
use Rattle.code_maker.proofs.Adding.{each-grows}
use Rattle.code_maker.proofs.steps.add_each.Goals as goal

pub returns : goal.returns
returns c =
    on_ok_weaker c.add.result
    (λ e D P o lives owns formed. each-grows D formed P c.args.draft.now _ o lives owns c.args.many c.args.from c.args.count c.args.turn c.args.leave c.in_ok-multiples.multiples e c.in_ok-add_looked.ensures refl refl (c.in_ok-multiples.ensures ∙ c.len.ensures))
    c.add.ensures.ok
