use Rattle.std.proofs.Common.{◌+◌, [], ◌∷◌, ◌++◌, sym, ap, ◌∙◌, append_assoc}
use Rattle.step_code.specs.declared.code.Operand.TheVariants as operand
use Rattle.code_maker.specs.Seats.{looked_at}
use Rattle.code_maker.proofs.Lists.{looked_push}
use Rattle.code_maker.proofs.draft.add_looked.Goals as goal

pub loop-count-preserved : goal.loop-count-preserved
loop-count-preserved c =
    let i = c.args.from in
    let n = c.loop-count.count in
    let old = c.args.operands.now in
    c.in_ok-add.ensures.ok
    ∙ (ap (λ q. q ++ operand.Looks (i + n) ∷ []) c.loop-count.invariant ∙ (append_assoc old (looked_at i n) (operand.Looks (i + n) ∷ []) ∙ ap (λ q. old ++ q) (sym (looked_push i n))))
