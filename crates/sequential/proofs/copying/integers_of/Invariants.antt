use Rattle.std.proofs.Common.{◌≡◌, take}
use Rattle.flow_value.specs.Leaves.{leaf_count_of_all}
use Rattle.sequential.proofs.copying.integers_of.Given as goal

abbrev pub invariant-loop-item : goal.invariant-loop-item
invariant-loop-item l =
    record {
      items : l.copies ≡ take l.item-index l.items;
      leaves : leaf_count_of_all l.copies ≡ l.item-index;
    }
