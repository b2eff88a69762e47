use Rattle.std.proofs.Common.{◌≤◌, ◌+◌, length, sym, subst}
use Rattle.sisal_check.proofs.Functions.{as_many_given}
use Rattle.sisal_check.proofs.bodies.add_item.Goals as goal

pub add_function-requires-clause-room : goal.add_function-requires-clause-room
add_function-requires-clause-room c =
    subst (λ n. length c.args.all.now + n ≤ length c.args.given.now.functions.now) (sym (as_many_given c.args.item.now c.in-Function.f c.in-Function.is)) c.requires.room
