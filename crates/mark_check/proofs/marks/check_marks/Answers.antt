use Rattle.std.proofs.Common.{subst, sym}
use Rattle.if1_graph.specs.Normal.{IsNormal}
use Rattle.if1_marks.specs.Sound.{IsSound}
use Rattle.mark_check.specs.Marks.{IsFirstFault, IsBad}
use Rattle.mark_check.proofs.Whole.{fault-unsound, passed-on}
use Rattle.mark_check.proofs.marks.check_marks.Goals as goal

pub check-requires-clause-normal : goal.check-requires-clause-normal
check-requires-clause-normal c = subst IsNormal (sym c.unit-2.ensures.unit) c.unit-2.ensures.normal

pub returns-in_err-check-clause-unsound : goal.returns-in_err-check-clause-unsound
returns-in_err-check-clause-unsound c =
    passed-on (λ f. IsBad f → ¬ IsSound c.args.unit) c.from_residual.result c.in_err-check.field-0.0 c.from_residual.ensures.1
    (fault-unsound c.args.unit c.unit-2.ensures.ready c.in_err-check.field-0.0 (subst (λ u. IsFirstFault u c.in_err-check.field-0.0) c.unit-2.ensures.unit c.in_err-check.ensures.fault))
