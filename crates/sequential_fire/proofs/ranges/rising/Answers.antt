use Rattle.std.proofs.Common.{◌≡◌, true, false, pos, ◌+ℤ◌, ◌-ℤ◌, SFits, to_z, of_z, w64, subst, ap, ◌∙◌, rules}
use Rattle.std.specs.Int.{w128}
use Rattle.std.proofs.lemmas.Int.{to_z-of_z}
use Rattle.flow_value.specs.Bounds.{is_few}
use Rattle.value_ops.specs.Aggregates.{natural}
use Rattle.graph_meaning.specs.Carried.{Many}
use Rattle.run_cells.specs.Held.{rising_in}
use Rattle.run_store.specs.Stored as stored
use Rattle.sequential_fire.proofs.RangeRows.{range-held, range-spoiled}
use Rattle.sequential_fire.proofs.ranges.rising.Goals as goal

pub returns-in-Some : goal.returns-in-Some
returns-in-Some c =
    let lo = c.args.lo in
    let hi = c.args.hi in
    let z = c.room.result in
    let fits : SFits w128 z = search rules in
    let count : to_z w128 (of_z w128 z) ≡ (hi +ℤ pos 1) -ℤ lo =
    to_z-of_z w128 z fits ∙ (c.room.ensures ∙ (ap (λ h. (h +ℤ pos 1) -ℤ to_z w64 (of_z w64 lo)) (to_z-of_z w64 hi c.ranges.hi) ∙ ap (λ l. (hi +ℤ pos 1) -ℤ l) (to_z-of_z w64 lo c.ranges.lo))) in
    ap (λ l. stored.Owns (Many (rising_in l c.in-Some.count))) (to_z-of_z w64 lo c.ranges.lo)
    ∙ range-held lo hi c.in-Some.count c.ranges.lo c.ranges.hi (c.in-Some.ensures.0 ∙ ap natural count) (subst (λ y. is_few (natural y) ≡ true) count c.in-Some.ensures.1)

pub returns-in-None : goal.returns-in-None
returns-in-None c =
    let lo = c.args.lo in
    let hi = c.args.hi in
    let z = c.room.result in
    let fits : SFits w128 z = search rules in
    let count : to_z w128 (of_z w128 z) ≡ (hi +ℤ pos 1) -ℤ lo =
    to_z-of_z w128 z fits ∙ (c.room.ensures ∙ (ap (λ h. (h +ℤ pos 1) -ℤ to_z w64 (of_z w64 lo)) (to_z-of_z w64 hi c.ranges.hi) ∙ ap (λ l. (hi +ℤ pos 1) -ℤ l) (to_z-of_z w64 lo c.ranges.lo))) in
    range-spoiled lo hi (subst (λ y. is_few (natural y) ≡ false) count c.in-None.ensures)
