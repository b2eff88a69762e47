-- A seat gives its greatest number away.
use Rattle.std.proofs.Common.{◌≡◌, ℕ, ◌+◌, ◌-◌, ◌≤◌, List, [], ◌∷◌, ◌++◌, length, set, sym, refl, ◌∙◌, subst, ⊎_elim, arith, le_refl}
use mathlib.Core.Option.{some}
use lib.ListN.{get_elem?}
use Rattle.atomic_table.specs.Table.{Splits}
use Rattle.atomic_table.proofs.Lists.{set_else, at_longer}
use Rattle.fire_lock.specs.declared.view.View.{View}
use Rattle.fire_lock.specs.Rules.{In, Rests, Fits, Kept, cut_left, cut_right}
use Rattle.fire_lock.proofs.Lists.{at_end, not_none}
use Rattle.fire_lock.proofs.Owned.{within}
use Rattle.fire_lock.proofs.Seats.{Single, seats_stay, holds_not, other_views}

module _ {M E R : Type 0} where
  -- the old seat that had the number, and of the two new ones the first hasn't the greatest
  was : (vs : List (View M E R)) (id : ℕ) (v : View M E R) → get_elem? vs id ≡ some v → v.from + 2 ≤ v.until → Single vs → (i n : ℕ) (x : View M E R) → get_elem? (set vs id (cut_left v)) i ≡ some x → In x n
      → ((x' : View M E R) × (get_elem? vs i ≡ some x') × In x' n) × ¬ (n + 1 ≡ v.until)
  was vs id v at two one i n x e = seats_stay (λ i x. In x n → ((x' : View M E R) × (get_elem? vs i ≡ some x') × In x' n) × ¬ (n + 1 ≡ v.until)) vs id (cut_left v)
      (λ p. let q = p.1 in ((v, at, (p.0, omega arith)), λ h. omega arith))
      (λ i x other e p. ((x, e, p), λ h. let q = p.1 in other (one i id n x v e at p (omega arith, omega arith)))) i x e

  single_apart : (vs : List (View M E R)) (id : ℕ) (v : View M E R) → get_elem? vs id ≡ some v → v.from + 2 ≤ v.until → Single vs → Single (set vs id (cut_left v) ++ cut_right v ∷ [])
  single_apart vs id v at two one i j n x y a b p q = let l = set vs id (cut_left v) in ⊎_elim
      (λ (ia : get_elem? l i ≡ some x). let f = was vs id v at two one i n x ia p in ⊎_elim
      (λ (jb : get_elem? l j ≡ some y). let g = was vs id v at two one j n y jb q in one i j n f.0.0 g.0.0 f.0.1 g.0.1 f.0.2 g.0.2)
      (λ (jb : (j ≡ length l) × (cut_right v ≡ y)). let q' = subst (λ z. In z n) (sym jb.1) q in let q0 = q'.0 in let q1 = q'.1 in absurd (f.1 (omega arith)))
      (at_end l (cut_right v) y j b))
      (λ (ia : (i ≡ length l) × (cut_right v ≡ x)). ⊎_elim
      (λ (jb : get_elem? l j ≡ some y). let g = was vs id v at two one j n y jb q in let p' = subst (λ z. In z n) (sym ia.1) p in let p0 = p'.0 in let p1 = p'.1 in absurd (g.1 (omega arith)))
      (λ (jb : (j ≡ length l) × (cut_right v ≡ y)). ia.0 ∙ sym jb.0)
      (at_end l (cut_right v) y j b))
      (at_end l (cut_right v) x i a)

pub splits_it : {M E R : Type 0} (starts : M → Type 0) (plays : M → ℕ → E → R → M → Type 0) (passes : ℕ) (origin : M) (id : ℕ) (v : View M E R) → Rests v → v.from + 2 ≤ v.until
    → Splits (Kept starts plays passes origin) id v (cut_left v) (cut_right v)
splits_it {M} {E} {R} starts plays passes origin id v rests two s b at =
    let fit = b.each id v at in let up = fit.until in
    let left : View M E R = cut_left v in let right : View M E R = cut_right v in
    other_views starts plays passes origin s (record { words = s.words; homes = s.homes; views = set s.views id left ++ right ∷ [] }) b refl refl
    (λ h. let o = b.owner h in (
      o.0,
      at_longer (set s.views id left) (right ∷ []) b.holder o.0
          (set_else s.views id b.holder left (holds_not starts plays passes origin s b id v at rests.0 h) ∙ o.1),
      o.2,
      o.3,
    ))
    (λ j y found. ⊎_elim
    (λ l. seats_stay (Fits b.log origin b.now b.held b.holder passes) s.views id left
    (record {
      seen = within v.from v.until v.from (v.until - 1) (le_refl v.from) (omega arith) v.seen b.log fit.seen;
      start = fit.start;
      turn = fit.turn;
      halves = λ h e. not_none v.halves h rests.1 e;
      until = omega arith;
    })
    (λ j y other e. b.each j y e) j y l)
    (λ (t : (j ≡ length (set s.views id left)) × (right ≡ y)). subst (Fits b.log origin b.now b.held b.holder passes j) t.1 (record {
      seen = within v.from v.until (v.until - 1) v.until (omega arith) (le_refl v.until) v.seen b.log fit.seen;
      start = fit.start;
      turn = λ m e. not_none v.turn m rests.0 e;
      halves = λ h e. not_none v.halves h rests.1 e;
      until = fit.until;
    }))
    (at_end (set s.views id left) right y j found))
    (single_apart s.views id v at two b.single)
