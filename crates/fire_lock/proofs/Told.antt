-- What the turn of a step lets its machine do, and what a step adds to the entries of its pass.
use Rattle.std.proofs.Common.{◌≡◌, ℕ, ◌+◌, ◌<◌, ◌≤◌, List, [], ◌∷◌, ◌++◌, sym, ap, ◌∙◌, subst, arith, append-nil, le_refl, unwrap_or, None, Some}
use Rattle.atomic_table.specs.Seated.{TableId}
use Rattle.fire_lock.specs.declared.entry.Entry.{Entry}
use Rattle.fire_lock.specs.declared.view.View.{View}
use Rattle.fire_lock.specs.History.{entry, own, Reached}
use Rattle.fire_lock.specs.Passes.{PassView, Stepped}
use Rattle.fire_lock.specs.Rules.{shown, Turn}
use Rattle.fire_lock.proofs.Owned.{own_append, own_one, own_within}

module _ {M E R : Type 0} (starts : M → Type 0) (plays : M → ℕ → E → R → M → Type 0) where
  pub may_play : (can : M → ℕ → E → Type 0) (fits : List (Entry E R) → E → Type 0)
      → ((s : M) (log : List (Entry E R)) (m : M) (n : ℕ) (e : E) → starts s → Reached plays s log m → fits (own n (n + 1) log) e → can m n e)
      → (s : M) (v w : View M E R) (m : M) (e : E) → Turn starts plays v w m → v.start ≡ Some s → v.from < v.until → fits (own v.from (v.from + 1) v.seen) e → can m v.from e
  may_play can fits law s v w m e t begun some_numbers fit =
      let l = t.led s begun in let n : ℕ = v.from in
      let same : own n (n + 1) v.seen ≡ own n (n + 1) (v.seen ++ t.between) =
      sym (own_append n (n + 1) v.seen t.between ∙ (ap (λ x. own n (n + 1) v.seen ++ x) (own_within n v.until n (n + 1) (le_refl n) (omega arith) t.between t.others) ∙ append-nil (own n (n + 1) v.seen))) in
      law s (v.seen ++ t.between) m n e l.0 l.1 (subst (λ x. fits x e) same fit)

  pub step_told : (id id' : TableId) (s : M) (p : PassView M E R) (v w x : View M E R) (m : M) (n : ℕ) (e : E) (r : R) → shown id v ≡ p → id' ≡ id → Turn starts plays v w m → v.start ≡ Some s → n ≡ v.from
      → (k k' : M) → w.turn ≡ Some k → plays k n e r k' → x ≡ record w { seen = w.seen ++ entry n e r ∷ []; turn = None } → Stepped starts plays s p e r (shown id' x)
  step_told id id' s p v w x m n e r seen_so same_table t begun here k k' on played is =
      let same : k ≡ m = ap (λ o. unwrap_or o m) (sym on ∙ ap (λ (y : View M E R). y.turn) t.view) in let l = t.led s begun in
      subst (λ (q : PassView M E R). Stepped starts plays s q e r (shown id' x)) seen_so (record {
        between = t.between;
        others = t.others;
        entered = (λ i. shown (same_table i) (is i)) ∙ (λ i. record (shown id (t.view i)) { seen = (t.view i).seen ++ entry (here i) e r ∷ [] });
        before = m;
        after = k';
        began = l.0;
        led = l.1;
        replied = subst (λ (z : M × ℕ). plays z.0 z.1 e r k') (λ i. (same i, here i)) played;
      })

  -- a step adds its entry to those of each range of the pass's numbers that has the least
  pub step_adds : (s : M) (v w : PassView M E R) (e : E) (r : R) (b : ℕ) → v.from < b → b ≤ v.until → Stepped starts plays s v e r w
      → own v.from b w.seen ≡ own v.from b v.seen ++ entry v.from e r ∷ []
  step_adds s v w e r b low high t = let a = v.from in
      ap (λ (p : PassView M E R). own a b p.seen) t.entered
      ∙ (own_append a b (v.seen ++ t.between) (entry a e r ∷ [])
      ∙ (λ i. (own_append a b v.seen t.between ∙ (ap (λ l. own a b v.seen ++ l) (own_within a v.until a b (le_refl a) high t.between t.others) ∙ append-nil (own a b v.seen))) i ++ own_one a b a e r (le_refl a) low i))
