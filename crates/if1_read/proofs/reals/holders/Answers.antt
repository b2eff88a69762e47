use Rattle.std.proofs.lemmas.List.Sorted.{All-permutation}
use Rattle.if1_read.specs.Spread.{LeadsTo}
use Rattle.if1_read.proofs.reals.holders.Goals as goal

pub returns : goal.returns
returns c = λ is up.
    All-permutation (LeadsTo c.args.types.now) c.loop-place.pairs.items c.sort.new.self.items c.in_ok-sort.ensures.permutation (c.loop-place.invariant is up)
