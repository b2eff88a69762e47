use Rattle.std.proofs.Common.{◌≡◌, drop}
use Rattle.lowered_data.specs.Scopes.{with_names}
use Rattle.lowered_data.proofs.names.Names.define.Given as goal

abbrev pub invariant-loop-w : goal.invariant-loop-w
invariant-loop-w l = with_names l.self (drop l.w-index l.wires) ≡ with_names l.fn.self l.wires
