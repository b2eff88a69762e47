use Rattle.std.proofs.Common.{◌^◌, refl, subst}
use Rattle.unit_types.specs.Rests.{AreSized}
use Rattle.unit_types.proofs.Lists.{if_ok_weaker}
use Rattle.unit_types.proofs.Faults.{faults_weaker}
use Rattle.unit_types.proofs.Steps.{leads_as}
use Rattle.unit_types.proofs.Refusals.{refuses_at}
use Rattle.unit_types.proofs.step.end_type.Goals as goal

pub end_type_in-requires-clause-few : goal.end_type_in-requires-clause-few
end_type_in-requires-clause-few c = subst (AreSized (2 ^ 32)) c.in-Some.ensures c.requires.few

pub returns-clause-leads : goal.returns-clause-leads
returns-clause-leads c = if_ok_weaker c.end_type_in.result (λ later f known t w. leads_as refl refl c.in-Some.ensures (f known t w)) c.end_type_in.ensures.leads

pub returns-clause-refuses : goal.returns-clause-refuses
returns-clause-refuses c = faults_weaker c.end_type_in.result (λ rule line f known t w. refuses_at refl c.in-Some.ensures (f known t w)) c.end_type_in.ensures.refuses
