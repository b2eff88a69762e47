-- Each arm is one action.
use Rattle.sisal_expr_acts.proofs.cases.perform_case.Goals as goal

pub returns-in-Case : goal.returns-in-Case
returns-in-Case c = rw c.in-Case.is c.tag_case.ensures

pub returns-in-NameSubject : goal.returns-in-NameSubject
returns-in-NameSubject c = rw c.in-NameSubject.is c.name_subject.ensures

pub returns-in-OtherSubject : goal.returns-in-OtherSubject
returns-in-OtherSubject c = rw c.in-OtherSubject.is c.other_subject.ensures

pub returns-in-Bound : goal.returns-in-Bound
returns-in-Bound c = rw c.in-Bound.is c.bound_content.ensures

pub returns-in-Rest : goal.returns-in-Rest
returns-in-Rest c = rw c.in-Rest.is c.rest_of_name.ensures

pub returns-in-NoArms : goal.returns-in-NoArms
returns-in-NoArms c = rw c.in-NoArms.is c.no_arms.ensures

pub returns-in-MoreArms : goal.returns-in-MoreArms
returns-in-MoreArms c = rw c.in-MoreArms.is c.more_arms.ensures

pub returns-in-OneArm : goal.returns-in-OneArm
returns-in-OneArm c = rw c.in-OneArm.is c.one_arm.ensures

pub returns-in-Otherwise : goal.returns-in-Otherwise
returns-in-Otherwise c = rw c.in-Otherwise.is c.otherwise.ensures
