use Rattle.std.proofs.Common.{rules}
use Rattle.loop_folds.proofs.Added.{added-late, added-kept, added-dropped, added-failed}
use Rattle.loop_folds.proofs.clause.put_cell.Goals as goal

pub returns-in-Some-clause-added : goal.returns-in-Some-clause-added
returns-in-Some-clause-added c = rw c.in-Some.is (λ cells is. added-late _ _ cells _ is)

pub returns-in_ok-put-in-Kept-clause-added : goal.returns-in_ok-put-in-Kept-clause-added
returns-in_ok-put-in-Kept-clause-added c = rw (c.in-None.is, c.in-Kept.is) (λ cells is. added-kept c.args.making.now c.put.new.self cells c.args.v (search rules) is)

pub returns-in-Dropped-clause-added : goal.returns-in-Dropped-clause-added
returns-in-Dropped-clause-added c = rw (c.in-None.is, c.in-Dropped.is) (λ cells is. added-dropped _ cells _ is)

pub returns-in-Failed-clause-added : goal.returns-in-Failed-clause-added
returns-in-Failed-clause-added c = rw (c.in-None.is, c.in-Failed.is) (λ cells is. added-failed _ cells _ _ is)
