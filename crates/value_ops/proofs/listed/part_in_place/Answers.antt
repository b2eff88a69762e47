use Rattle.std.proofs.Common.{rules}
use Rattle.std.proofs.lemmas.List.{drop-take}
use Rattle.value_ops.proofs.listed.part_in_place.Goals as goal

pub returns : goal.returns
returns c = search (rules, drop-take)
