use Rattle.std.proofs.Common.{IsTrue, sym, subst}
use Rattle.std.specs.List.{list_all}
use Rattle.segment.specs.Places.{is_written, RoomView}
use Rattle.segment.proofs.Room.seal.Goals as goal

-- src/lib.rt:90:9
pub attach-requires : goal.attach-requires
attach-requires g c =
    let all = subst (λ (v : RoomView g.row.T.Denot). IsTrue (list_all is_written v.places)) (sym c.self.view_is) c.requires.written in
    (c.self.invariant.0, c.self.invariant.1, c.self.invariant.2, all)
