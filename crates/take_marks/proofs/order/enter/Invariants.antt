use Rattle.std.proofs.Common.{◌≡◌}
use Rattle.take_marks.specs.Standing.{HasEntered}
use Rattle.take_marks.proofs.Entered.{last_of}
use Rattle.take_marks.proofs.order.enter.Given as goal

abbrev pub invariant-loop-index : goal.invariant-loop-index
invariant-loop-index l =
    record {
      entered : HasEntered l.users l.places l.taker l.weights l.index l.fn.lists.items l.fn.befores.items l.lists.items l.befores.items;
      last : l.last ≡ last_of l.users l.index;
    }
