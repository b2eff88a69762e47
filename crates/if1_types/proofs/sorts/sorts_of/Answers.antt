use Rattle.std.proofs.Common.{length, ap, arith}
use Rattle.if1_types.specs.Shapes.{trees_in}
use Rattle.if1_types.proofs.Sorted.{are_sorts, they_stand}
use Rattle.if1_types.proofs.Views.{are_read}
use Rattle.if1_types.proofs.sorts.sorts_of.Goals as goal

pub found_in-requires-clause-room : goal.found_in-requires-clause-room
found_in-requires-clause-room c = omega (arith, c.requires.few, ap (λ ks. length (trees_in ks)) c.new-shapes.ensures)

pub sort_numbers-requires-clause-room : goal.sort_numbers-requires-clause-room
sort_numbers-requires-clause-room c = omega (arith, c.requires.few, c.in_ok-found.ensures.grows, ap (λ ks. length (trees_in ks)) c.new-shapes.ensures)

pub returns-clause-numbers : goal.returns-clause-numbers
returns-clause-numbers c =
    are_sorts (trees_in c.sort_numbers.new.shapes) c.args.types.now c.in_ok-numbers.numbers c.in_ok-found.found.labels
    c.requires.rising c.in_ok-skips.ensures.once c.in_ok-found.ensures.labels c.in_ok-numbers.ensures

pub returns-clause-stand : goal.returns-clause-stand
returns-clause-stand c = they_stand c.sort_numbers.new.shapes c.args.types.now c.in_ok-numbers.numbers c.in_ok-found.found.labels c.in_ok-found.ensures.labels c.in_ok-numbers.ensures

pub returns-clause-read : goal.returns-clause-read
returns-clause-read c = are_read c.sort_numbers.new.shapes c.in_ok-skips.ensures.keys
