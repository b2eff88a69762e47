use Rattle.std.proofs.Common.{arith}
use Rattle.unit_types.proofs.Lists.{if_ok_weaker}
use Rattle.breaking_laws.specs.Parts.{no_elements}
use Rattle.typing_laws.specs.Looping.{over_elements}
use Rattle.sisal_check.proofs.Parts.{one_item}
use Rattle.sisal_check.proofs.Forms.{faults_weaker}
use Rattle.sisal_check.proofs.generators.goes_over.Goals as goal

pub returns-in-len1-clause-over : goal.returns-in-len1-clause-over
returns-in-len1-clause-over c = if_ok_weaker c.elements.result (λ r p. over_elements _ (one_item c.args.bounds.now c.in-len1.len_at_least c.in-len1.len_below) p) c.elements.ensures.element

pub returns-in-len1-clause-breaks : goal.returns-in-len1-clause-breaks
returns-in-len1-clause-breaks c =
    faults_weaker c.elements.result _ _ (λ rule line q. record { is_rule = q.0; is_line = q.1; no_source = no_elements _ (one_item c.args.bounds.now c.in-len1.len_at_least c.in-len1.len_below) q.2 }) c.elements.ensures.breaks
