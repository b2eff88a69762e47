use Rattle.std.proofs.Common.{◌^◌, refl, ap, subst, ◌∙◌, ◌∷◌}
use Rattle.sisal_lex.specs.declared.token.Kind.TheVariants as kind
use Rattle.unit_types.specs.Accepting.{shapes_of}
use Rattle.unit_types.specs.Rests.{AreSized}
use Rattle.unit_types.proofs.Accepting.{sequence_closes}
use Rattle.unit_types.proofs.Lists.{if_ok_weaker}
use Rattle.unit_types.proofs.Faults.{faults_weaker}
use Rattle.unit_types.proofs.Steps.{leads_as}
use Rattle.unit_types.proofs.Refusals.{refuses_at}
use Rattle.unit_types.proofs.step.end_type_in.Goals as goal

pub end_group-requires-clause-few : goal.end_group-requires-clause-few
end_group-requires-clause-few c = (subst (λ o. AreSized (2 ^ 32) (o ∷ c.args.stack.now)) c.in-Members.is c.requires.few).0

pub returns-in-Sequence-clause-leads : goal.returns-in-Sequence-clause-leads
returns-in-Sequence-clause-leads c = if_ok_weaker c.close_sequence.result
    (λ later f known t w. leads_as refl refl (ap (λ o. o ∷ c.args.stack.now) c.in-Sequence.is) (f known c.args.stack.now t (w ∙ ap kind.Sign (sequence_closes c.args.innermost c.in-Sequence.sequence (shapes_of c.args.stack.now) c.args.sign c.in-Sequence.is c.requires.goes)))) c.close_sequence.ensures.leads

pub returns-in-Sequence-clause-refuses : goal.returns-in-Sequence-clause-refuses
returns-in-Sequence-clause-refuses c = faults_weaker c.close_sequence.result
    (λ rule line f known t w. refuses_at refl (ap (λ o. o ∷ c.args.stack.now) c.in-Sequence.is) (f known c.args.stack.now t (w ∙ ap kind.Sign (sequence_closes c.args.innermost c.in-Sequence.sequence (shapes_of c.args.stack.now) c.args.sign c.in-Sequence.is c.requires.goes)))) c.close_sequence.ensures.refuses

pub returns-in-Members-clause-leads : goal.returns-in-Members-clause-leads
returns-in-Members-clause-leads c = if_ok_weaker c.end_group.result
    (λ later f known t w. leads_as refl refl (ap (λ o. o ∷ c.args.stack.now) c.in-Members.is) (f known t w)) c.end_group.ensures.leads

pub returns-in-Members-clause-refuses : goal.returns-in-Members-clause-refuses
returns-in-Members-clause-refuses c = faults_weaker c.end_group.result
    (λ rule line f known t w. refuses_at refl (ap (λ o. o ∷ c.args.stack.now) c.in-Members.is) (f known t w)) c.end_group.ensures.refuses
