use Rattle.std.proofs.lemmas.List.Filters.{dedup_is}
use Rattle.may_take.proofs.Sets.{once-up, once-same}
use Rattle.may_take.proofs.port_set.sort_once.Goals as goal

pub returns-clause-up : goal.returns-clause-up
returns-clause-up c = once-up c.args.ports.now.items _ _ c.sort_unstable.ensures.sorted (dedup_is _ _ _ c.dedup.ensures.filtered)

pub returns-clause-same : goal.returns-clause-same
returns-clause-same c = once-same _ _ _ c.sort_unstable.ensures.permutation (dedup_is _ _ _ c.dedup.ensures.filtered)
