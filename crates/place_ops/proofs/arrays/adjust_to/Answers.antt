use Rattle.std.proofs.Common.{◌≡◌, ◌≤◌, true, length, arith, rules}
use Rattle.std.proofs.lemmas.Int.{ints}
use Rattle.value_ops.specs.Aggregates.{are_places}
use Rattle.value_ops.proofs.Parts.{part-length, part-within}
use Rattle.place_ops.proofs.arrays.adjust_to.Goals as goal

pub natural_of-count-requires : goal.natural_of-count-requires
natural_of-count-requires c =
    let within : are_places c.args.a c.args.lo c.args.hi ≡ true = search (rules, c.if-not-are_places_in.ensures) in
    let fits = part-length c.args.a c.args.lo c.args.hi within in
    let few : length c.args.a.items ≤ 4194304 = search (rules, c.into_parts-items.ensures.fits.few) in
    omega (arith, ints)

pub part-requires : goal.part-requires
part-requires c =
    let within : are_places c.args.a c.args.lo c.args.hi ≡ true = search (rules, c.if-not-are_places_in.ensures) in
    let fits = part-within c.args.a c.args.lo c.args.hi within in
    search (rules, fits)
