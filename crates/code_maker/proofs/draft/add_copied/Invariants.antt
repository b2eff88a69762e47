use Rattle.std.proofs.Common.{◌≡◌, ◌-◌, ◌^◌, ◌++◌, map, drop}
use Rattle.plan_data.specs.Parts.{AreBelow}
use Rattle.code_maker.specs.Seats.{copied_ports, laid}
use Rattle.code_maker.proofs.draft.add_copied.Given as goal

abbrev pub invariant-loop-port : goal.invariant-loop-port
invariant-loop-port l =
    record {
      below : AreBelow (2 ^ 32 - l.first) (drop l.port-index l.ports);
      same : l.operands ++ map (laid l.plan l.args l.first) (copied_ports (drop l.port-index l.ports)) ≡ l.initial.operands ++ map (laid l.plan l.args l.first) (copied_ports l.ports);
    }
