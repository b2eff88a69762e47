use Rattle.std.proofs.Common.{◌≡◌, ◌++◌, drop}
use Rattle.sisal_top.specs.Outputs.{lines}
use Rattle.sisal_top.proofs.printing.print_all.Given as goal

-- the lines so far, and those to come, are all lines
abbrev pub invariant-loop-value : goal.invariant-loop-value
invariant-loop-value l = l.text ++ lines (drop l.value-index l.values) ≡ lines l.values
