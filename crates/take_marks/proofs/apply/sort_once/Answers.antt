use Rattle.std.proofs.lemmas.List.Filters.{dedup_is}
use Rattle.take_marks.proofs.Once.{sorted-once}
use Rattle.take_marks.proofs.apply.sort_once.Goals as goal

pub returns : goal.returns
returns c = sorted-once _ _ _ c.sort_unstable.ensures.permutation c.sort_unstable.ensures.sorted (dedup_is _ _ _ c.dedup.ensures.filtered)
