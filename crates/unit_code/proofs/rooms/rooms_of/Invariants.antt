use Rattle.unit_code.proofs.RoomTables.{AreRooms}
use Rattle.unit_code.proofs.rooms.rooms_of.Given as goal

abbrev pub invariant-loop-graph : goal.invariant-loop-graph
invariant-loop-graph l = AreRooms l.plan l.graph l.rooms
