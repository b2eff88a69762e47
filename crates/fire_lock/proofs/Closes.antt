-- At the end the pass with all numbers has seen the whole history, and the slot has the machine that this leads to.
use Rattle.std.proofs.Common.{◌≡◌, ℕ, List, sym, ap, subst, arith, le_refl}
use mathlib.Core.Logic.{dite}
use mathlib.Core.Option.{some}
use native.Mathlib.Decide.{ℕ_discrete}
use lib.ListN.{get_elem?}
use Rattle.atomic_table.specs.Table.{Final, Seen}
use Rattle.fire_lock.specs.declared.entry.Entry.{Entry}
use Rattle.fire_lock.specs.declared.view.View.{View}
use Rattle.fire_lock.specs.declared.view.Place.{Place}
use Rattle.fire_lock.specs.History.{own, Continues, Reached}
use Rattle.fire_lock.specs.Rules.{Rests, Kept}
use Rattle.fire_lock.proofs.Owned.{none_left}
use Rattle.fire_lock.proofs.Seats.{holds_not}

pub closes_it : {M E R : Type 0} (starts : M → Type 0) (plays : M → ℕ → E → R → M → Type 0) (passes : ℕ) (origin : M) (id : ℕ) (v : View M E R) (ws : List ℕ) (xs : List (Place M E R))
    → Rests v → v.from ≡ 0 → v.until ≡ passes → Final (Seen (Kept starts plays passes origin) id v) ws xs
    → (p : Place M E R) × (get_elem? xs 0 ≡ some p) × starts origin × Reached plays origin v.seen p.machine × (own 0 passes v.seen ≡ v.seen)
closes_it {M} {E} {R} starts plays passes origin id v ws xs rests zero_from all_until f =
    let s = f.0 in let b = f.1.0 in let at = f.1.1 in let fit = b.each id v at in let bit = b.bit in let some_numbers = rests.2 in
    let free : b.held ≡ 0 = dite (ℕ_discrete b.held 0) (λ z. z) (λ held.
    let one : b.held ≡ 1 = omega arith in let o = b.owner one in let u = b.each b.holder o.0 o.1 in let up = u.until in let nonempty = o.3 in
    absurd (holds_not starts plays passes origin s b id v at rests.0 one (b.single b.holder id o.0.from o.0 v o.1 at (le_refl o.0.from, nonempty) (omega arith, omega arith)))) in
    let whole : v.seen ≡ b.log = none_left 0 passes v.seen b.log (subst (λ (z : ℕ × ℕ). Continues z.0 z.1 v.seen b.log) (λ i. (zero_from i, all_until i)) fit.seen) b.all in
    let home = b.home free in (
      home.0,
      f.4 0 home.0 (ap (λ l. get_elem? l 0) home.1),
      b.began,
      subst (λ (y : List (Entry E R) × M). Reached plays origin y.0 y.1) (λ i. (sym whole i, sym home.2 i)) b.led,
      subst (λ (l : List (Entry E R)). own 0 passes l ≡ l) (sym whole) b.all,
    )
