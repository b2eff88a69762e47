use Rattle.std.proofs.Common.{rules, SFits, ◌≡◌, pos, ◌+ℤ◌, to_z, of_z, w64, ◌∙◌, ap, arith}
use Rattle.std.proofs.lemmas.Int.{ints, to_z-of_z}
use Rattle.std.specs.Int.{saturate_signed}
use Rattle.flow_value.specs.declared.value.Val.TheVariants as val
use Rattle.sequential_fire.proofs.given.number_at.Goals as goal

pub returns : goal.returns
returns c =
    let few = c.ranges.place.fits in
    let fits = c.ranges.lo.sfits in
    let same : SFits w64 c.saturating_add.result = search rules in
    let e : to_z w64 (of_z w64 c.args.lo) +ℤ to_z w64 c.args.place ≡ c.args.lo +ℤ pos c.args.place = omega (arith, ints, few, fits) in
    ap val.Int (to_z-of_z w64 c.saturating_add.result same ∙ c.saturating_add.ensures ∙ ap (saturate_signed w64) e)
