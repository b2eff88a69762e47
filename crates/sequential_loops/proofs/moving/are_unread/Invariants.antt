use Rattle.std.proofs.Common.{drop}
use Rattle.step_code.specs.declared.code.Code.{Code}
use Rattle.step_code.specs.declared.code.Operand.TheVariants as variants
use Rattle.sequential.specs.Loading.{AllApart}
use Rattle.sequential_loops.proofs.moving.are_unread.Given as goal

-- whether what is left does not read the cell decides
abbrev pub invariant-loop-place : goal.invariant-loop-place
invariant-loop-place l = (code : Code) → AllApart code (variants.Takes l.cell) (drop l.place l.operands) → AllApart code (variants.Takes l.cell) (drop l.next l.operands)
