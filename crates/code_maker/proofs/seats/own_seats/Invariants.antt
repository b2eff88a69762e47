use Rattle.std.proofs.Common.{◌≡◌, ◌+◌, ◌-◌, ◌^◌, ◌≤◌, ◌++◌, map, drop}
use Rattle.plan_data.specs.Parts.{AreBelow, count_true, picks_of}
use Rattle.code_maker.specs.Seats.{own_seats, seats_at}
use Rattle.code_maker.proofs.seats.own_seats.Given as goal

abbrev pub invariant-loop-port : goal.invariant-loop-port
invariant-loop-port l =
    record {
      below : AreBelow (2 ^ 32 - l.first) (drop l.port-index l.ports);
      cells : l.own + count_true (map picks_of (drop l.port-index l.ports)) ≤ 2 ^ 32 - 1;
      same : l.list ++ own_seats (map picks_of (drop l.port-index l.ports)) (seats_at l.args l.first (drop l.port-index l.ports)) l.own ≡ own_seats (map picks_of l.ports) (seats_at l.args l.first l.ports) l.from;
    }
