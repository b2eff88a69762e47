use Rattle.std.proofs.Common.{ap, ◌∙◌}
use Rattle.sisal_lex.specs.declared.token.Kind.TheVariants as kind
use Rattle.unit_types.specs.Rests.{begun}
use Rattle.unit_types.proofs.Lists.{if_ok_weaker}
use Rattle.unit_types.proofs.Faults.{faults_weaker}
use Rattle.unit_types.proofs.Steps.{begins}
use Rattle.unit_types.proofs.Refusals.{refuses_real}
use Rattle.unit_types.proofs.step.begin_by_word.Goals as goal

pub returns-clause-leads : goal.returns-clause-leads
returns-clause-leads c = if_ok_weaker c.begin_by.result
    (λ later e known forms os t w q. begins known forms os t c.first_of.result later (w ∙ ap kind.Word c.first_of.ensures) (ap (begun c.first_of.result) q ∙ e))
    c.begin_by.ensures.begun

pub returns-clause-refuses : goal.returns-clause-refuses
returns-clause-refuses c = faults_weaker c.begin_by.result
    (λ rule l r known forms os t w q. refuses_real known forms os t c.first_of.result c.args.line rule l (w ∙ ap kind.Word c.first_of.ensures) q r)
    c.begin_by.ensures.real
