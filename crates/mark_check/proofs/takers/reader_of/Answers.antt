use Rattle.mark_check.proofs.Blamed.{readers-found}
use Rattle.mark_check.proofs.takers.reader_of.Goals as goal

pub returns-clause-reader : goal.returns-clause-reader
returns-clause-reader c = λ g o w.
    readers-found g c.args.users.now c.args.takers.now c.args.node c.args.may c.own_fault-own.result c.least_other-taker.result c.late_user-late.result c.lesser-others.result c.lesser.result
    c.own_fault-own.ensures c.least_other-taker.ensures (c.late_user-late.ensures.late g o w) c.lesser-others.ensures c.lesser.ensures
