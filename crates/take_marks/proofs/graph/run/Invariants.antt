use Rattle.std.proofs.Common.{◌≡◌, length}
use Rattle.if1_order.specs.Walks.{AreInside}
use Rattle.if1_reach.specs.Ranks.{IsRanked}
use Rattle.take_marks.specs.Noted.{HasRun}
use Rattle.take_marks.proofs.graph.run.Given as goal

abbrev pub invariant-loop-index : goal.invariant-loop-index
invariant-loop-index l =
    record {
      inside : AreInside l.lists.items;
      fit : length l.lists.items ≡ length l.labels;
      ranked : IsRanked l.lists.items l.ranks;
      weights : length l.weights ≡ length l.lists.items;
      befores : length l.befores.items ≡ length l.lists.items;
      count : length l.whys ≡ l.index;
      run : HasRun l.graph l.flags l.index l.fn.lists.items l.fn.befores.items l.lists.items l.befores.items l.whys;
    }
