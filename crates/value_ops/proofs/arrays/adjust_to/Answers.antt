use Rattle.std.proofs.Common.{◌≡◌, ◌≤◌, true, length, arith, rules}
use Rattle.std.proofs.lemmas.Int.{ints}
use Rattle.value_ops.specs.Operand.{array_of, items_of}
use Rattle.value_ops.specs.Aggregates.{are_places}
use Rattle.value_ops.proofs.Parts.{part-length, part-within}
use Rattle.value_ops.proofs.arrays.adjust_to.Goals as goal

pub natural_of-count-requires : goal.natural_of-count-requires
natural_of-count-requires c =
    let within : are_places (array_of c.args.a) c.args.lo c.args.hi ≡ true = search (rules, c.if-not-are_places_of.ensures) in
    let fits = part-length (array_of c.args.a) c.args.lo c.args.hi within in
    let few : length (items_of c.args.a.items) ≤ 4194304 = c.requires.few in
    omega (arith, ints)

pub kept_part-requires : goal.kept_part-requires
kept_part-requires c =
    let within : are_places (array_of c.args.a) c.args.lo c.args.hi ≡ true = search (rules, c.if-not-are_places_of.ensures) in
    let fits = part-within (array_of c.args.a) c.args.lo c.args.hi within in
    search (rules, fits)
