use Rattle.std.proofs.Common.{refl, ◌∙◌}
use Rattle.std.proofs.lemmas.Result.{on_ok_weaker}
use Rattle.code_maker.proofs.Adding.{sparse-grows}
use Rattle.code_maker.proofs.sparse.add_sparse.Goals as goal

pub returns : goal.returns
returns c =
    let a = c.args in
    on_ok_weaker c.add.result
    (λ e P o lives owns told. sparse-grows a.plan.now c.requires.formed P a.draft.now _ o lives owns a.args.now a.first a.filler a.gaps.now a.items.now a.node.row a.out a.node.copies c.in_ok-numbers.numbers c.in_ok-ins.ins c.in_ok-many.many c.requires.unfilled c.requires.even told
    e c.in_ok-add_ports.ensures c.in_ok-extend.ensures.ok refl (c.in_ok-ins.ensures ∙ c.len.ensures) c.in_ok-many.ensures (c.in_ok-numbers.ensures ∙ c.len-2.ensures))
    c.add.ensures.ok
