use Rattle.std.proofs.Common.{◌≡◌, ◌+◌, pos, ◌+ℤ◌, ◌++◌, ◌∷◌, [], to_z, of_z, w64, subst, sym, ap, ◌∙◌}
use Rattle.std.proofs.lemmas.Int.{to_z-of_z}
use Rattle.std.specs.Int.{saturate_signed}
use Rattle.flow_value.specs.declared.value.Val.TheVariants as val
use Rattle.run_cells.specs.Held.{rising_in}
use Rattle.sequential_fire.proofs.Numbers.{rising-more}
use Rattle.sequential_fire.proofs.given.rising.Goals as goal

pub loop-place-preserved : goal.loop-place-preserved
loop-place-preserved c =
    let l = c.loop-place in
    let lo = c.args.lo in
    let same : to_z w64 (of_z w64 lo) ≡ lo = to_z-of_z w64 lo c.ranges.lo in
    let number = subst (λ z. c.number_at.result ≡ val.Int (saturate_signed w64 (z +ℤ pos l.place))) same c.number_at.ensures in
    let before = subst (λ z. l.items ≡ rising_in z l.place) same l.invariant in
    subst (λ z. c.add.new.self ≡ rising_in z (l.place + 1)) (sym same)
    (c.in_ok-add.ensures.ok ∙ (ap (λ vs. vs ++ c.number_at.result ∷ []) before ∙ (ap (λ v. rising_in lo l.place ++ v ∷ []) number ∙ sym (rising-more lo l.place))))
