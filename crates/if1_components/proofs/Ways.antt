-- Places that lead to each other, and what a color reaches of them.
use Rattle.std.proofs.Common.{◌≡◌, ◌≢◌, ◌∙◌, ℕ, List, slice_index, Contains, inl, inr, refl, sym, subst}
use Rattle.if1_order.specs.Walks.{Lists, feeders_of, Leads, step, onward}
use Rattle.if1_components.specs.Components.{IsMutual}
use Rattle.if1_components.specs.Backward.{AreTurned}
use Rattle.if1_components.specs.Colors.{IsSpread}

pub lead-on : (lists : Lists) → {s t u : ℕ} → Leads lists s t → Leads lists t u → Leads lists s u
lead-on lists (step c) w = onward c w
lead-on lists (onward c v) w = onward c (lead-on lists v w)

pub leads-there : (lists back : Lists) → AreTurned lists back → {s t : ℕ} → Leads lists s t → Leads back t s
leads-there lists back b (step {s = s} {t = t} c) = step (b.there s t c)
leads-there lists back b (onward {s = s} {t = t} {u = u} c v) = lead-on back (leads-there lists back b v) (step (b.there s t c))

pub leads-here : (lists back : Lists) → AreTurned lists back → {s t : ℕ} → Leads back s t → Leads lists t s
leads-here lists back b (step {s = s} {t = t} c) = step (b.here t s c)
leads-here lists back b (onward {s = s} {t = t} {u = u} c v) = lead-on lists (leads-here lists back b v) (step (b.here t s c))

-- ---- leading to each other

pub mutual-back : (lists : Lists) (x y : ℕ) → IsMutual lists x y → IsMutual lists y x
mutual-back lists x y (inl e) = inl (sym e)
mutual-back lists x y (inr (v, w)) = inr (w, v)

pub mutual-on : (lists : Lists) (x y z : ℕ) → IsMutual lists x y → IsMutual lists y z → IsMutual lists x z
mutual-on lists x y z (inl e) m = subst (λ w. IsMutual lists w z) (sym e) m
mutual-on lists x y z (inr p) (inl e) = subst (IsMutual lists x) e (inr p)
mutual-on lists x y z (inr p) (inr q) = inr (lead-on lists p.0 q.0, lead-on lists q.1 p.1)

pub mutual-there : (lists back : Lists) → AreTurned lists back → (x y : ℕ) → IsMutual lists x y → IsMutual back x y
mutual-there lists back b x y (inl e) = inl e
mutual-there lists back b x y (inr p) = inr (leads-there lists back b p.1, leads-there lists back b p.0)

pub mutual-here : (lists back : Lists) → AreTurned lists back → (x y : ℕ) → IsMutual back x y → IsMutual lists x y
mutual-here lists back b x y (inl e) = inl e
mutual-here lists back b x y (inr p) = inr (leads-here lists back b p.1, leads-here lists back b p.0)

-- ---- a color reaches the whole part of its root, where that had one color

module _ (lists : Lists) (root from to : ℕ) (old new met : List ℕ) (w : IsSpread lists root from to old new met) (known : (x : ℕ) → IsMutual lists x root → slice_index old x ≡ from) where
  turned-one : (x : ℕ) → IsMutual lists x root → slice_index new x ≢ from → slice_index new x ≡ to
  turned-one x m ne = elim (w.painted x) [ inl same ↦ absurd (ne (same ∙ known x m)) | inr p ↦ p.1 ]

  along : {x y : ℕ} → Leads lists x y → y ≡ root → Leads lists root x → slice_index new x ≡ to
  along (step {s = x} {t = y} c) e r =
      let d : Contains (feeders_of lists root) x = subst (λ z. Contains (feeders_of lists z) x) e c in
      turned-one x (inr (step d, r)) (w.closed root x (known root (inl refl)) w.rooted d)
  along (onward {s = x} {t = y} {u = z} c v) e r =
      let there = subst (Leads lists y) e v in
      let here = lead-on lists r (step c) in
      turned-one x (inr (onward c there, r)) (w.closed y x (known y (inr (there, here))) (along v e here) c)

  pub reached : (x : ℕ) → IsMutual lists x root → slice_index new x ≡ to
  reached x (inl e) = subst (λ z. slice_index new z ≡ to) (sym e) w.rooted
  reached x (inr (v, u)) = along v refl u
