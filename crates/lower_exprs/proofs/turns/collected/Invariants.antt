use Rattle.std.proofs.Common.{◌≡◌, ◌++◌, List, drop}
use Rattle.type_table.specs.declared.form.Form.{Form}
use Rattle.lowering.specs.Loops.{loop_name, collected}
use Rattle.lower_exprs.specs.Phrased.{phrases}
use Rattle.lower_exprs.proofs.turns.collected.Given as goal

abbrev pub invariant-loop-at : goal.invariant-loop-at
invariant-loop-at l = (forms : List Form) → l.places ++ collected (loop_name l.around l.count) l.next (drop l.at l.negated) (phrases forms (drop l.at l.parts)) ≡ collected (loop_name l.around l.count) l.count l.negated (phrases forms l.parts)
