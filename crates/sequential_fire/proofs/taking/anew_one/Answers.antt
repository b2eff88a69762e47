use Rattle.std.proofs.Common.{[], ◌∷◌, ap, ◌∙◌}
use Rattle.flow_value.specs.Lent.{operand_value}
use Rattle.sequential.proofs.Rows.{has-one}
use Rattle.sequential_fire.proofs.TakeSteps.{anew-gives}
use Rattle.sequential_fire.proofs.taking.anew_one.Goals as goal

pub fire_one-requires-clause-one : goal.fire_one-requires-clause-one
fire_one-requires-clause-one c = has-one c.args.row c.requires

pub returns : goal.returns
returns c = λ k is.
    anew-gives c.args.row c.requires c.args.shape c.in_ok-value.value c.in_ok-cell.cell (operand_value c.or_absent.result ∷ []) (k ∷ []) (ap (λ v. v ∷ []) (c.or_absent.ensures ∙ c.in_ok-first.ensures k is)) c.in_ok-cell.ensures c.in_ok-value.ensures
