use Rattle.std.proofs.Common.{◌≡◌, drop}
use Rattle.if1_valid.specs.Params.{function_in}
use Rattle.if1_arguments.proofs.arguments.label_of.Given as goal

-- the functions that are left decide
abbrev pub invariant-loop-graph : goal.invariant-loop-graph
invariant-loop-graph l = function_in l.graphs l.number ≡ function_in (drop l.graph-index l.graphs) l.number
