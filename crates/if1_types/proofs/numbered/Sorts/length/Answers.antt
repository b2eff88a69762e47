use Rattle.std.proofs.Common.{◌∙◌, ap}
use Rattle.if1_types.specs.Shapes.{members_in}
use Rattle.if1_types.proofs.Views.{members_told}
use Rattle.if1_types.proofs.numbered.Sorts.length.Goals as goal

pub returns-clause-of : goal.returns-clause-of
returns-clause-of c = λ ts is. c.members.ensures ∙ ap members_in is.stands.is ∙ members_told ts
