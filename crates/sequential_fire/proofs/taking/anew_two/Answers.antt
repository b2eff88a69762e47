use Rattle.std.proofs.Common.{[], ◌∷◌, ap, ◌∙◌}
use Rattle.flow_value.specs.Lent.{operand_value}
use Rattle.sequential.proofs.Rows.{has-one}
use Rattle.sequential.specs.Firing.{value_operand}
use Rattle.sequential_fire.proofs.TakeSteps.{anew-gives}
use Rattle.sequential_fire.proofs.taking.anew_two.Goals as goal

pub fire_one-requires-clause-one : goal.fire_one-requires-clause-one
fire_one-requires-clause-one c = has-one c.args.row c.requires

pub returns : goal.returns
returns c = λ k l is is2.
    anew-gives c.args.row c.requires c.args.shape c.in_ok-value.value c.in_ok-cell.cell (operand_value c.or_absent.result ∷ operand_value c.or_absent-2.result ∷ []) (k ∷ l ∷ [])
    (ap (λ v. v ∷ operand_value c.or_absent-2.result ∷ []) (c.or_absent.ensures ∙ c.in_ok-first.ensures k is) ∙ ap (λ v. value_operand k ∷ v ∷ []) (c.or_absent-2.ensures ∙ c.in_ok-second.ensures l is2)) c.in_ok-cell.ensures c.in_ok-value.ensures
