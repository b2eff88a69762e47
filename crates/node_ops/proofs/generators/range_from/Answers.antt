use Rattle.std.proofs.Common.{◌≡◌, pos, ◌+ℤ◌, ◌-ℤ◌, ◌≤ℤ◌, rules, arith}
use Rattle.std.proofs.lemmas.Int.{ints}
use Rattle.value_ops.specs.Aggregates.{places}
use Rattle.node_ops.proofs.Listing.{natural_below, few-range}
use Rattle.node_ops.proofs.generators.range_from.Goals as goal

pub rising_from-requires : goal.rising_from-requires
rising_from-requires c =
    let below : (c.args.lo +ℤ pos (places c.args.lo c.args.hi)) ≤ℤ pos 9223372036854775808 =
    natural_below ((c.args.hi +ℤ pos 1) -ℤ c.args.lo) c.args.lo (omega (arith, ints)) (omega (arith, ints)) in
    let count : c.natural_of.result ≡ places c.args.lo c.args.hi = search rules in
    omega (arith, ints)

pub returns : goal.returns
returns c =
    let few : ((c.args.hi +ℤ pos 1) -ℤ c.args.lo) ≤ℤ pos 4194304 = omega (arith, ints) in
    let all = few-range c.args.lo c.args.hi few in
    search (rules, all)
