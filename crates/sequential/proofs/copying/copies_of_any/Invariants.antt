use Rattle.std.proofs.Common.{◌≡◌, take}
use Rattle.sequential.proofs.copying.copies_of_any.Given as goal

abbrev pub invariant-loop-item : goal.invariant-loop-item
invariant-loop-item l = l.copies ≡ take l.item-index l.items
