use Rattle.std.proofs.Common.{◌^◌, refl, subst}
use Rattle.unit_types.specs.Rests.{AreSized}
use Rattle.unit_types.proofs.Lists.{if_ok_weaker}
use Rattle.unit_types.proofs.Faults.{faults_weaker}
use Rattle.unit_types.proofs.Accepting.{union_tag}
use Rattle.unit_types.proofs.Steps.{without_type, leads_as}
use Rattle.unit_types.proofs.Refusals.{refuses_tags, refuses_at}
use Rattle.unit_types.proofs.step.without_type.Goals as goal

pub end_group-requires-clause-few : goal.end_group-requires-clause-few
end_group-requires-clause-few c = (subst (AreSized (2 ^ 32)) c.innermost-members.ensures c.requires.few).0

pub returns-clause-leads : goal.returns-clause-leads
returns-clause-leads c = if_ok_weaker c.end_group.result
    (λ later f known t w. leads_as refl refl c.innermost-members.ensures
    (without_type known c.args.types.now c.end_group.new.types c.innermost-members.result c.innermost-members.new.stack t later c.end_group.new.stack (union_tag c.args.stack.now c.innermost-members.result c.innermost-members.new.stack c.innermost-members.ensures c.requires.union) (f known t w)))
    c.end_group.ensures.leads

pub returns-clause-refuses : goal.returns-clause-refuses
returns-clause-refuses c = faults_weaker c.end_group.result
    (λ rule line f known t w. refuses_at refl c.innermost-members.ensures
    (refuses_tags known c.args.types.now c.innermost-members.result c.innermost-members.new.stack t rule line (union_tag c.args.stack.now c.innermost-members.result c.innermost-members.new.stack c.innermost-members.ensures c.requires.union) (f known t w)))
    c.end_group.ensures.refuses
