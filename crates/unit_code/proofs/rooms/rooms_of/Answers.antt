use Rattle.unit_code.proofs.RoomTables.{no-rooms, room-more}
use Rattle.unit_code.proofs.rooms.rooms_of.Goals as goal

pub loop-graph-init : goal.loop-graph-init
loop-graph-init c = no-rooms c.args.plan.now c.in_ok-rooms.rooms c.in_ok-rooms.ensures

pub loop-graph-preserved : goal.loop-graph-preserved
loop-graph-preserved c = room-more c.args.plan.now c.loop-graph.graph c.room_of.result c.loop-graph.rooms _ c.loop-graph.invariant c.room_of.ensures c.in_ok-add.ensures.ok
