use Rattle.std.proofs.Common.{sym, subst}
use Rattle.if1_reach.specs.Users.{HasUsers}
use Rattle.mark_check.specs.Takers.{taking}
use Rattle.mark_check.proofs.Blamed.{taking-more}
use Rattle.mark_check.proofs.takers.note_taker.Goals as goal

pub returns-clause-taken : goal.returns-clause-taken
returns-clause-taken c = λ es h. subst (λ xs. HasUsers xs c.note_edge.new.users) (sym (taking-more es c.args.edge.now c.if-not-edge.false)) (c.in_ok-note_edge.ensures.1 (taking es) h)
