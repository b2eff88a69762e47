use Rattle.std.proofs.Common.{◌≡◌, ◌+◌, ◌-◌, ◌^◌, ◌≤◌, ◌++◌, drop, take}
use Rattle.plan_data.specs.Parts.{AreColumnsBelow}
use Rattle.code_maker.specs.Seats.{stand_from}
use Rattle.code_maker.proofs.seats.with_stand.Given as goal

abbrev pub invariant-loop-seat : goal.invariant-loop-seat
invariant-loop-seat l = l.list ≡ take l.seat-index l.seats

abbrev pub invariant-loop-collect : goal.invariant-loop-collect
invariant-loop-collect l =
    record {
      own : l.own ≤ l.from + l.collect-index;
      below : AreColumnsBelow (2 ^ 32 - l.values) (drop l.collect-index l.collects);
      same : l.list ++ stand_from (drop l.collect-index l.collects) l.own l.values ≡ l.seats ++ stand_from l.collects l.from l.values;
    }
