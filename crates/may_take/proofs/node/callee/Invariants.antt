use Rattle.std.proofs.Common.{◌≡◌, drop}
use Rattle.may_take.specs.Looked.{callee_in}
use Rattle.may_take.proofs.node.callee.Given as goal

abbrev pub invariant-loop-edge : goal.invariant-loop-edge
invariant-loop-edge l = callee_in l.functions (drop l.edge-index l.inputs) ≡ callee_in l.functions l.inputs
