use Rattle.std.proofs.Common.{◌≡◌, ◌-◌, ◌^◌, ◌++◌, map, drop}
use Rattle.plan_data.specs.Parts.{AreBelow}
use Rattle.code_maker.specs.Seats.{laid}
use Rattle.code_maker.proofs.draft.add_ports.Given as goal

abbrev pub invariant-loop-port : goal.invariant-loop-port
invariant-loop-port l =
    record {
      below : AreBelow (2 ^ 32 - l.first) (drop l.port-index l.ports);
      same : l.operands ++ map (laid l.plan l.args l.first) (drop l.port-index l.ports) ≡ l.initial.operands ++ map (laid l.plan l.args l.first) l.ports;
    }
