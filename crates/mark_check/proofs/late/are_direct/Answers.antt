use Rattle.std.proofs.Common.{◌+◌, arith, sym, subst}
use Rattle.mark_check.specs.Late.{AreStamps}
use Rattle.mark_check.proofs.Early.{direct-before}
use Rattle.mark_check.proofs.late.are_direct.Goals as goal

pub returns-clause-direct : goal.returns-clause-direct
returns-clause-direct c = λ h g w.
    direct-before g c.args.labels.now c.args.lists.now w c.as_slice.result.now c.args.users.now c.the_place-taker.result c.args.node (c.the_place-taker.result + 1) c.the_place-taker.ensures
    (subst (AreStamps c.args.lists.now) (sym c.as_slice.ensures) c.stamp.ensures.right) (omega arith) (c.are_stamped.ensures h)
