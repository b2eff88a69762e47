use Rattle.std.proofs.Common.{refl, drop, length, ◌-◌}
use Rattle.unit_types.proofs.Lists.{if_ok_weaker}
use Rattle.unit_types.proofs.Faults.{faults_weaker, no_faults}
use Rattle.unit_types.specs.Accepting.{shapes_of}
use Rattle.unit_types.proofs.Accepting.{bracket_opens}
use Rattle.unit_types.proofs.Steps.{leads_from}
use Rattle.unit_types.proofs.Refusals.{refuses_at}
use Rattle.unit_types.proofs.step.step.Goals as goal

pub returns-in-Type-clause-leads : goal.returns-in-Type-clause-leads
returns-in-Type-clause-leads c = if_ok_weaker c.begin.result (λ later f. leads_from c.in-Type.is (f c.args.stack.now)) c.begin.ensures.leads

pub returns-in-Type-clause-refuses : goal.returns-in-Type-clause-refuses
returns-in-Type-clause-refuses c = faults_weaker c.begin.result (λ rule line f. refuses_at c.in-Type.is refl (f c.args.stack.now)) c.begin.ensures.refuses

pub returns-in-Bracket-clause-leads : goal.returns-in-Bracket-clause-leads
returns-in-Bracket-clause-leads c = if_ok_weaker c.enter.result
    (λ later f. leads_from c.in-Bracket.is (f (drop (length c.args.named.now - c.args.known) c.args.named.now) c.args.types.now c.args.token.now
    (bracket_opens c.args.next c.in-Bracket.opener c.in-Bracket.line (shapes_of c.args.stack.now) c.args.token.now.kind c.in-Bracket.is c.requires.goes))) c.enter.ensures.leads

pub returns-in-Bracket-clause-refuses : goal.returns-in-Bracket-clause-refuses
returns-in-Bracket-clause-refuses c = no_faults _ c.enter.result c.enter.ensures.memory

pub returns-in-Name-clause-leads : goal.returns-in-Name-clause-leads
returns-in-Name-clause-leads c = if_ok_weaker c.add_name.result
    (λ later f. leads_from c.in-Name.is (f (drop (length c.args.named.now - c.args.known) c.args.named.now) c.args.types.now)) c.add_name.ensures.name

pub returns-in-Name-clause-refuses : goal.returns-in-Name-clause-refuses
returns-in-Name-clause-refuses c = no_faults _ c.add_name.result c.add_name.ensures.memory

pub returns-in-AfterName-clause-leads : goal.returns-in-AfterName-clause-leads
returns-in-AfterName-clause-leads c = if_ok_weaker c.after_name.result
    (λ later f. leads_from c.in-AfterName.is (f (drop (length c.args.named.now - c.args.known) c.args.named.now))) c.after_name.ensures.leads

pub returns-in-AfterName-clause-refuses : goal.returns-in-AfterName-clause-refuses
returns-in-AfterName-clause-refuses c = faults_weaker c.after_name.result
    (λ rule line f. refuses_at c.in-AfterName.is refl (f (drop (length c.args.named.now - c.args.known) c.args.named.now))) c.after_name.ensures.refuses

pub returns-in-After-clause-leads : goal.returns-in-After-clause-leads
returns-in-After-clause-leads c = if_ok_weaker c.after_type.result
    (λ later f. leads_from c.in-After.is (f (drop (length c.args.named.now - c.args.known) c.args.named.now))) c.after_type.ensures.leads

pub returns-in-After-clause-refuses : goal.returns-in-After-clause-refuses
returns-in-After-clause-refuses c = faults_weaker c.after_type.result
    (λ rule line f. refuses_at c.in-After.is refl (f (drop (length c.args.named.now - c.args.known) c.args.named.now))) c.after_type.ensures.refuses

pub returns-in-AfterSemicolon-clause-leads : goal.returns-in-AfterSemicolon-clause-leads
returns-in-AfterSemicolon-clause-leads c = if_ok_weaker c.after_semicolon.result
    (λ later f. leads_from c.in-AfterSemicolon.is (f (drop (length c.args.named.now - c.args.known) c.args.named.now))) c.after_semicolon.ensures.leads

pub returns-in-AfterSemicolon-clause-refuses : goal.returns-in-AfterSemicolon-clause-refuses
returns-in-AfterSemicolon-clause-refuses c = faults_weaker c.after_semicolon.result
    (λ rule line f. refuses_at c.in-AfterSemicolon.is refl (f (drop (length c.args.named.now - c.args.known) c.args.named.now))) c.after_semicolon.ensures.refuses
