use Rattle.std.proofs.lemmas.List.Filters.{dedup_is}
use Rattle.if1_graph.proofs.Rising.{sorted_once}
use Rattle.if1_graph.proofs.pragma.sort_once.Goals as goal

pub returns : goal.returns
returns c = sorted_once _ _ _ c.sort_unstable.ensures.permutation c.sort_unstable.ensures.sorted (dedup_is _ _ _ c.dedup.ensures.filtered)
