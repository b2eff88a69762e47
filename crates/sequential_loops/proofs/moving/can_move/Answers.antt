use Rattle.std.proofs.Common.{drop, refl, subst, sym}
use Rattle.step_code.specs.declared.code.Operand.{Operand}
use Rattle.sequential_loops.specs.Moving.{CanMove}
use Rattle.sequential_loops.proofs.moving.can_move.Goals as goal

pub returns-then-is_among : goal.returns-then-is_among
returns-then-is_among c = λ e.
    subst (λ (o : Operand). CanMove c.args.from c.args.many o (drop c.args.next c.args.operands.now)) (sym c.in-Looks.is) (c.if-is_among.ensures.first refl, c.if-is_among.ensures.last refl, c.are_unread.ensures e)
