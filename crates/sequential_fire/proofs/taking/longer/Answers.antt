use Rattle.std.proofs.Common.{[], ◌∷◌, inr, ap, ◌∙◌}
use Rattle.flow_value.specs.Lent.{operand_value}
use Rattle.sequential_fire.proofs.TakeSteps.{taken-gives}
use Rattle.sequential_fire.proofs.taking.longer.Goals as goal

pub returns : goal.returns
returns c = λ k l is is2.
    taken-gives c.args.row (inr c.requires) c.args.shape c.args.boxed c.in_ok-changed.changed (operand_value c.or_absent.result ∷ []) (l ∷ []) k (ap (λ v. v ∷ []) (c.or_absent.ensures ∙ c.in_ok-second.ensures l is2)) is c.in_ok-changed.ensures
