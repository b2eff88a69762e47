use Rattle.std.proofs.Common.{rules, SFits, ◌≡◌, pos, ◌+ℤ◌, to_z, of_z, w64, ◌∙◌, sym, ap, arith}
use Rattle.std.proofs.lemmas.Int.{ints, to_z-of_z}
use Rattle.std.specs.Int.{saturate_signed}
use Rattle.flow_value.specs.declared.value.Val.TheVariants as val
use Rattle.run_store.specs.Carried.{Value}
use Rattle.run_cells.proofs.Rising.{rising-at, rising-behind}
use Rattle.run_cells.proofs.seen.number.Goals as goal

pub returns-then-place-count : goal.returns-then-place-count
returns-then-place-count c =
    let lt = c.if-place-count.true in
    let few = c.ranges.count.fits in
    let fits = c.ranges.lo.sfits in
    let same : SFits w64 c.saturating_add.result = search rules in
    let e : to_z w64 (of_z w64 c.args.lo) +ℤ to_z w64 c.args.place ≡ c.args.lo +ℤ pos c.args.place = omega (arith, ints, lt, few, fits) in
    c.integer.ensures ∙ (ap (λ z. Value (val.Int z)) (to_z-of_z w64 c.saturating_add.result same ∙ c.saturating_add.ensures ∙ ap (saturate_signed w64) e) ∙ sym (rising-at c.args.lo c.args.count c.args.place c.if-place-count.true))

pub returns-else-place-count : goal.returns-else-place-count
returns-else-place-count c = let no = c.if-place-count.false in sym (rising-behind c.args.lo c.args.count c.args.place (omega (arith, no)))
