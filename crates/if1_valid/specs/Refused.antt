-- Why a formed unit in normal order is no valid one: the first rule that does not hold of the whole unit, and where.
use Rattle.if1_graph.specs.declared.fault.If1Fault.{If1Fault}
use Rattle.if1_graph.specs.declared.fault.If1Fault.TheVariants as fault
use Rattle.if1_graph.specs.declared.graph.Unit1.{Unit1}
use Rattle.if1_graph.specs.Ready.{PortsHold, TypesHold, BreaksPorts, BreaksTypes, IsOnCycle}

-- ports are looked at for the whole unit first, then types, then cycles; faults of lines are none of units
abbrev pub IsRefused : Unit1 → If1Fault → Type 0
IsRefused u (fault.Ports graph node) = BreaksPorts u graph node
IsRefused u (fault.TypeOf graph node) = PortsHold u × BreaksTypes u graph node
IsRefused u (fault.Cycle graph node) = PortsHold u × TypesHold u × IsOnCycle u graph node
IsRefused u fault.NoMemory = Unit {0}
IsRefused u _ = ⊥
