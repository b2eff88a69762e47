use Rattle.std.proofs.Common.{List}
use Rattle.flow_value.specs.declared.ty.Ty.{Ty}
use Rattle.value_text.specs.Numbered.{StandForAll}
use Rattle.mean_call.proofs.Reading.{Decides}
use Rattle.mean_call.proofs.arguments.read_all.Given as goal

abbrev pub invariant-loop-i : goal.invariant-loop-i
invariant-loop-i g l = (tys : List Ty) → StandForAll (g.T.NumberedTypes.seen l.types) l.numbers tys → Decides l.words tys l.i l.values
