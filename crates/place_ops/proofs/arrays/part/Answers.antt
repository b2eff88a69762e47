use Rattle.std.proofs.Common.{rules}
use Rattle.std.proofs.lemmas.List.{drop-take}
use Rattle.place_ops.proofs.arrays.part.Goals as goal

pub returns : goal.returns
returns c = search (rules, drop-take)
