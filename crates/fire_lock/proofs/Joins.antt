-- A seat takes in the next one, and then learns that what both had seen lives on.
use Rattle.std.proofs.Common.{◌≡◌, ℕ, ◌<◌, ◌≤◌, ◌≢◌, ◌⊎◌, inl, inr, List, get_or, set, sym, refl, ap, ◌∙◌, subst, ⊎_elim, arith, lt_of_not-le, unwrap_or, Option, None}
use mathlib.Core.Logic.{dite}
use mathlib.Core.Option.{none, some}
use native.Mathlib.Decide.{dec_le}
use lib.ListN.{get_elem?}
use lib.Seq.{set-get_or}
use Rattle.atomic_table.specs.Table.{step, keeps, Allows, Joins}
use Rattle.atomic_table.proofs.Lists.{at_set, set_else}
use Rattle.fire_lock.specs.declared.view.View.{View}
use Rattle.fire_lock.specs.declared.view.Halves.{Halves}
use Rattle.fire_lock.specs.History.{Continues}
use Rattle.fire_lock.specs.Rules.{Sat, In, Rests, LivesOn, Fits, Kept, spent, glued, settles}
use Rattle.fire_lock.proofs.Lists.{not_none}
use Rattle.fire_lock.proofs.Owned.{own_nobody, longer_continues}
use Rattle.fire_lock.proofs.Seats.{Single, seats_stay, single_set, holds_not, other_views}

order : (m n : ℕ) → (m < n) ⊎ (n ≤ m)
order m n = dite (dec_le n m) (λ l. inr l) (λ g. inl (lt_of_not-le g))

module _ {M E R : Type 0} where
  -- whose number it was
  was : (vs : List (View M E R)) (id other : ℕ) (v w : View M E R) → w.from ≡ v.until → (n i : ℕ) (x : View M E R) → get_elem? (set (set vs id (glued v w)) other spent) i ≡ some x → In x n
      → ((i ≡ id) × (In v n ⊎ In w n)) ⊎ ((i ≢ id) × (i ≢ other) × (get_elem? vs i ≡ some x))
  was vs id other v w next n i x e = seats_stay (λ i x. In x n → ((i ≡ id) × (In v n ⊎ In w n)) ⊎ ((i ≢ id) × (i ≢ other) × (get_elem? vs i ≡ some x))) (set vs id (glued v w)) other spent
      (λ p. let q = p.1 in absurd (omega arith))
      (λ i x far e p. ⊎_elim (λ (t : (i ≡ id) × (glued v w ≡ x)). let p' = subst (λ z. In z n) (sym t.1) p in inl (t.0, split p'.0 p'.1 next))
      (λ (t : (i ≢ id) × (get_elem? vs i ≡ some x)). inr (t.0, far, t.1)) (at_set vs id i (glued v w) x e)) i x e
    where
      split : v.from ≤ n → n < w.until → w.from ≡ v.until → In v n ⊎ In w n
      split l h e = ⊎_elim (λ (lt : n < v.until). inl (l, lt)) (λ (ge : v.until ≤ n). inr (omega arith, h)) (order n v.until)

  single_joined : (vs : List (View M E R)) (id other : ℕ) (v w : View M E R) → get_elem? vs id ≡ some v → get_elem? vs other ≡ some w → w.from ≡ v.until → Single vs
      → Single (set (set vs id (glued v w)) other spent)
  single_joined vs id other v w at there next one i j n x y a b p q = ⊎_elim
      (λ (f : (i ≡ id) × (In v n ⊎ In w n)). ⊎_elim
      (λ (g : (j ≡ id) × (In v n ⊎ In w n)). f.0 ∙ sym g.0)
      (λ (g : (j ≢ id) × (j ≢ other) × (get_elem? vs j ≡ some y)). ⊎_elim
      (λ (m : In v n). absurd (g.0 (one j id n y v g.2 at q m)))
      (λ (m : In w n). absurd (g.1 (one j other n y w g.2 there q m))) f.1)
      (was vs id other v w next n j y b q))
      (λ (f : (i ≢ id) × (i ≢ other) × (get_elem? vs i ≡ some x)). ⊎_elim
      (λ (g : (j ≡ id) × (In v n ⊎ In w n)). ⊎_elim
      (λ (m : In v n). absurd (f.0 (one i id n x v f.2 at p m)))
      (λ (m : In w n). absurd (f.1 (one i other n x w f.2 there p m))) g.1)
      (λ (g : (j ≢ id) × (j ≢ other) × (get_elem? vs j ≡ some y)). one i j n x y f.2 g.2 p q)
      (was vs id other v w next n j y b q))
      (was vs id other v w next n i x a p)

module _ {M E R : Type 0} (starts : M → Type 0) (plays : M → ℕ → E → R → M → Type 0) (passes : ℕ) (origin : M) where
  pub joins_it : (id other : ℕ) (v w : View M E R) → Rests v → Rests w → w.from ≡ v.until → Joins (Kept starts plays passes origin) id v other w (glued v w) spent
  joins_it id other v w rests rests' next s b at apart there =
      let both : View M E R = glued v w in
      let there' : get_elem? s.views other ≡ some w = sym (set_else s.views id other both apart) ∙ there in
      let fv = b.each id v at in let fw = b.each other w there' in
      let l : List (View M E R) = set s.views id both in
      let whole = longer_continues v.seen w.seen b.log v.from v.until w.until fv.seen (subst (λ (z : ℕ). Continues z w.until w.seen b.log) next fw.seen) in
      other_views starts plays passes origin s (record { words = s.words; homes = s.homes; views = set l other spent }) b refl refl
      (λ h. let o = b.owner h in (
        o.0,
        set_else l other b.holder spent (holds_not starts plays passes origin s b other w there' rests'.0 h)
            ∙ (set_else s.views id b.holder both (holds_not starts plays passes origin s b id v at rests.0 h) ∙ o.1),
        o.2,
        o.3,
      ))
      (seats_stay (Fits b.log origin b.now b.held b.holder passes) l other spent
      (record {
        seen = (b.log, refl, own_nobody 0 b.log);
        start = λ m e. not_none None m refl e;
        turn = λ m e. not_none None m refl e;
        halves = λ h e. not_none None h refl e;
        until = omega arith;
      })
      (λ j y _ e. seats_stay (Fits b.log origin b.now b.held b.holder passes) s.views id both
      (record {
        seen = whole.2;
        start = fv.start;
        turn = λ m e. not_none v.turn m rests.0 e;
        halves = λ h e. subst (LivesOn both) (ap (λ (o : Option (Halves E R)). unwrap_or o (record { middle = v.until; first = v.seen; second = w.seen })) e) (whole.0, whole.1);
        until = fw.until;
      })
      (λ j y _ e. b.each j y e) j y e))
      (single_joined s.views id other v w at there' next b.single)

  pub settles_it : (slots id : ℕ) (me : Sat M E R) → me.0.turn ≡ None → Allows (Kept starts plays passes origin) slots id me 0 (λ n. n) (settles (step slots 0 0 0 none) me)
  settles_it slots id me off s b wide at small = let v : View M E R = me.0 in let fit = b.each id v at in let w : View M E R = record v { halves = None } in (
    w,
    keeps,
    tt,
    other_views starts plays passes origin s (record { words = set s.words 0 (get_or s.words 0 0); homes = s.homes; views = set s.views id w }) b (set-get_or s.words 0 0) refl
        (λ h. let o = b.owner h in (o.0, set_else s.views id b.holder w (holds_not starts plays passes origin s b id v at off h) ∙ o.1, o.2, o.3))
        (seats_stay (Fits b.log origin b.now b.held b.holder passes) s.views id w
        (record {
          seen = fit.seen;
          start = fit.start;
          turn = fit.turn;
          halves = λ h e. not_none None h refl e;
          until = fit.until;
        })
        (λ j y _ e. b.each j y e))
        (single_set s.views id v w at (λ n p. p) b.single),
    (refl, fit.halves),
  )
