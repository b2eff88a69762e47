use Rattle.std.proofs.Common.{refl, drop, length, ◌-◌}
use Rattle.unit_types.proofs.Lists.{if_ok_weaker}
use Rattle.unit_types.proofs.Faults.{faults_weaker}
use Rattle.unit_types.proofs.Refusals.{refuses_name}
use Rattle.unit_types.proofs.step.begin.Goals as goal

pub returns-in-Word-clause-leads : goal.returns-in-Word-clause-leads
returns-in-Word-clause-leads c = if_ok_weaker c.begin_by_word.result
    (λ later f os. f (drop (length c.args.named.now - c.args.known) c.args.named.now) c.args.types.now os c.args.token.now c.in-Word.is refl) c.begin_by_word.ensures.leads

pub returns-in-Word-clause-refuses : goal.returns-in-Word-clause-refuses
returns-in-Word-clause-refuses c = faults_weaker c.begin_by_word.result
    (λ rule line f os. f (drop (length c.args.named.now - c.args.known) c.args.named.now) c.args.types.now os c.args.token.now c.in-Word.is refl) c.begin_by_word.ensures.refuses

pub returns-in-Id-clause-leads : goal.returns-in-Id-clause-leads
returns-in-Id-clause-leads c = if_ok_weaker c.begin_by_name.result (λ later f os. f os c.args.token.now c.in-Id.is) c.begin_by_name.ensures.leads

pub returns-in-Id-clause-refuses : goal.returns-in-Id-clause-refuses
returns-in-Id-clause-refuses c = faults_weaker c.begin_by_name.result
    (λ rule line u os. refuses_name (drop (length c.args.named.now - c.args.known) c.args.named.now) c.args.types.now os c.args.token.now c.in-Id.name c.args.token.now.line rule line c.in-Id.is refl u)
    c.begin_by_name.ensures.unknown
