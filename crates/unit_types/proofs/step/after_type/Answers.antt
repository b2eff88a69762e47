use Rattle.unit_types.proofs.Lists.{if_ok_weaker}
use Rattle.unit_types.proofs.Faults.{faults_weaker}
use Rattle.unit_types.proofs.step.after_type.Goals as goal

pub returns-clause-leads : goal.returns-clause-leads
returns-clause-leads c = if_ok_weaker c.end_type.result (λ later f known. f known c.args.token.now c.in-Sign.is) c.end_type.ensures.leads

pub returns-clause-refuses : goal.returns-clause-refuses
returns-clause-refuses c = faults_weaker c.end_type.result (λ rule line f known. f known c.args.token.now c.in-Sign.is) c.end_type.ensures.refuses
