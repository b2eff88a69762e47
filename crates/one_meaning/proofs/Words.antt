-- Words are read as one list of values, or have one first fault.
use Rattle.std.proofs.Common.{◌≡◌, ◌≢◌, ◌≤◌, ◌<◌, ◌∙◌, ℕ, zero, suc, ◌+◌, ◌-◌, true, false, true≢false, List, [], ◌∷◌, ◌++◌, take, length, Some, None, refl, sym, ap, subst, arith, ◌⊎◌, inl, inr}
use Rattle.std.proofs.lemmas.Option.{same_Some}
use Rattle.flow_value.specs.declared.ty.Ty.{Ty}
use Rattle.flow_value.specs.declared.value.Val.{Val}
use Rattle.value_text.specs.Grammar.{reads_value}
use Rattle.value_text.specs.Forms.{FirstBad, IsValueText}
use Rattle.value_text.specs.Faults.{MisfitAt, PastLimits, IsOfType}
use Rattle.value_text.specs.declared.fault.ValueFault.{ValueFault}
use Rattle.value_text.specs.declared.fault.ValueFault.TheVariants as faults
use Rattle.mean_call.specs.Words.{AreRead, AreRefused, IsFault, IsFirstFault}
use Rattle.mean_call.specs.declared.fault.ArgumentFault.{ArgumentFault}
use Rattle.mean_call.specs.declared.fault.ArgumentFault.TheVariants as argument
use Rattle.mean_call.specs.declared.fault.Refusal.TheVariants as refusal
use Rattle.one_meaning.specs.Laws.{AreWordsOnce}

-- what begins with more of a list begins with less of it
pub longer : {A : Type 0} (m k : ℕ) (xs ys : List A) → m ≤ k → (s : List A) × (take k xs ++ ys ≡ take m xs ++ s)
longer zero k xs ys h = (take k xs ++ ys, refl)
longer (suc m) zero xs ys h = absurd (omega (arith, h))
longer (suc m) (suc k) [] ys h = (ys, refl)
longer (suc m) (suc k) (x ∷ xs) ys h = let r = longer m k xs ys (omega (arith, h)) in (r.0, ap (λ l. x ∷ l) r.1)

no_later : (word : List ℕ) (k j : ℕ) → FirstBad word k → FirstBad word j → k < j → ⊥
no_later word k j p q h =
    let within : j ≤ length word = q.within in
    let r = longer (k + 1) j word q.before.0 (omega (arith, h)) in
    p.after (omega (arith, h, within)) r.0 (subst IsValueText r.1 q.before.1)

first_bad_one : (word : List ℕ) (k j : ℕ) → FirstBad word k → FirstBad word j → k ≡ j
first_bad_one word k j p q = by (order k j)
  where
    order : (a b : ℕ) → (a < b) ⊎ ((b < a) ⊎ (a ≡ b))
    order zero zero = inr (inr refl)
    order zero (suc b) = inl (omega arith)
    order (suc a) zero = inr (inl (omega arith))
    order (suc a) (suc b) = elim (order a b) [
      | inl h ↦ inl (omega (arith, h))
      | inr (inl h) ↦ inr (inl (omega (arith, h)))
      | inr (inr h) ↦ inr (inr (ap suc h))
    ]

    by : (k < j) ⊎ ((j < k) ⊎ (k ≡ j)) → k ≡ j
    by (inl h) = absurd (no_later word k j p q h)
    by (inr (inl h)) = absurd (no_later word j k q p h)
    by (inr (inr h)) = h

misfit_one : (word : List ℕ) (t : Ty) (k j : ℕ) → MisfitAt word t k → MisfitAt word t j → k ≡ j
misfit_one word t k j p q =
    let x = p.place p.spelled.0 p.spelled.1 in
    let y = q.place p.spelled.0 p.spelled.1 in
    x.2 ∙ ap (λ n. length word - n) (same_Some x.0 y.0 (sym x.1 ∙ y.1)) ∙ sym y.2

misfit_within : (word : List ℕ) (t : Ty) (k : ℕ) → MisfitAt word t k → PastLimits word → ⊥
misfit_within word t k p q = true≢false (sym (p.within p.spelled.0 p.spelled.1) ∙ q.past p.spelled.0 p.spelled.1)

fault_one : (word : List ℕ) (t : Ty) (f g : ValueFault) → IsFault word t f → IsFault word t g → f ≡ g
fault_one word t (faults.BadSpelling k) (faults.BadSpelling j) p q = ap faults.BadSpelling (first_bad_one word k j p q)
fault_one word t (faults.BadSpelling k) (faults.WrongShape j) p q = absurd (p.whole q.spelled)
fault_one word t (faults.BadSpelling k) faults.TooLarge p q = absurd (p.whole q.spelled)
fault_one word t (faults.BadSpelling k) faults.NoMemory p q = absurd q
fault_one word t (faults.WrongShape k) (faults.BadSpelling j) p q = absurd (q.whole p.spelled)
fault_one word t (faults.WrongShape k) (faults.WrongShape j) p q = ap faults.WrongShape (misfit_one word t k j p q)
fault_one word t (faults.WrongShape k) faults.TooLarge p q = absurd (misfit_within word t k p q)
fault_one word t (faults.WrongShape k) faults.NoMemory p q = absurd q
fault_one word t faults.TooLarge (faults.BadSpelling j) p q = absurd (q.whole p.spelled)
fault_one word t faults.TooLarge (faults.WrongShape j) p q = absurd (misfit_within word t j q p)
fault_one word t faults.TooLarge faults.TooLarge p q = refl
fault_one word t faults.TooLarge faults.NoMemory p q = absurd q
fault_one word t faults.NoMemory g p q = absurd p

module _ (fit : (bytes : List ℕ) (ty : Ty) (v : Val) → reads_value bytes ty v → IsOfType bytes ty) where
  unread : (word : List ℕ) (t : Ty) (v : Val) (f : ValueFault) → reads_value word t v → IsFault word t f → ⊥
  unread word t v (faults.BadSpelling k) r p = p.whole (fit word t v r).spelled
  unread word t v (faults.WrongShape k) r p =
      let o = fit word t v r in
      let x = p.place o.spelled.0 o.spelled.1 in
      let none = o.fits o.spelled.0 o.spelled.1 in
      let e : None ≡ Some x.0 = sym none ∙ x.1 in cc
  unread word t v faults.TooLarge r p =
      let o = fit word t v r in
      true≢false (sym (o.within o.spelled.0 o.spelled.1) ∙ p.past o.spelled.0 o.spelled.1)
  unread word t v faults.NoMemory r p = absurd p

  first_fault_one : (ws : List (List ℕ)) (ts : List Ty) (k j : ℕ) (f g : ValueFault) → IsFirstFault ws ts k f → IsFirstFault ws ts j g → (k ≡ j) × (f ≡ g)
  first_fault_one [] ts k j f g p q = absurd p
  first_fault_one (w ∷ ws) [] k j f g p q = absurd p
  first_fault_one (w ∷ ws) (t ∷ ts) zero j f g p q = absurd p
  first_fault_one (w ∷ ws) (t ∷ ts) (suc k) zero f g p q = absurd q
  first_fault_one (w ∷ ws) (t ∷ ts) (suc zero) (suc zero) f g p q = (refl, fault_one w t f g p q)
  first_fault_one (w ∷ ws) (t ∷ ts) (suc zero) (suc (suc j)) f g p q = absurd (unread w t q.0.0 f q.0.1 p)
  first_fault_one (w ∷ ws) (t ∷ ts) (suc (suc k)) (suc zero) f g p q = absurd (unread w t p.0.0 g p.0.1 q)
  first_fault_one (w ∷ ws) (t ∷ ts) (suc (suc k)) (suc (suc j)) f g p q =
      let r = first_fault_one ws ts (suc k) (suc j) f g p.1 q.1 in (ap suc r.0, r.1)

  no_fault : (ws : List (List ℕ)) (ts : List Ty) (vs : List Val) (k : ℕ) (f : ValueFault) → AreRead ws ts vs → IsFirstFault ws ts k f → ⊥
  no_fault [] ts vs k f r p = p
  no_fault (w ∷ ws) [] vs k f r p = p
  no_fault (w ∷ ws) (t ∷ ts) [] k f r p = r
  no_fault (w ∷ ws) (t ∷ ts) (v ∷ vs) zero f r p = p
  no_fault (w ∷ ws) (t ∷ ts) (v ∷ vs) (suc zero) f r p = unread w t v f r.0 p
  no_fault (w ∷ ws) (t ∷ ts) (v ∷ vs) (suc (suc k)) f r p = no_fault ws ts vs (suc k) f r.1 p.1

  as_many : (ws : List (List ℕ)) (ts : List Ty) (vs : List Val) → AreRead ws ts vs → length ws ≡ length ts
  as_many [] [] vs r = refl
  as_many [] (t ∷ ts) vs r = absurd r
  as_many (w ∷ ws) [] vs r = absurd r
  as_many (w ∷ ws) (t ∷ ts) [] r = absurd r
  as_many (w ∷ ws) (t ∷ ts) (v ∷ vs) r = ap suc (as_many ws ts vs r.1)

  read_or_refused : (ws : List (List ℕ)) (ts : List Ty) (vs : List Val) (f : ArgumentFault) → AreRead ws ts vs → AreRefused ws ts (refusal.Argument f) → ⊥
  read_or_refused ws ts vs argument.Entry r p = p
  read_or_refused ws ts vs (argument.Count wanted given) r p = p.2 (p.0 ∙ sym (as_many ws ts vs r) ∙ sym p.1)
  read_or_refused ws ts vs (argument.Value k f) r p = no_fault ws ts vs k f r p.1

  one_refusal : (ws : List (List ℕ)) (ts : List Ty) (f g : ArgumentFault) → AreRefused ws ts (refusal.Argument f) → AreRefused ws ts (refusal.Argument g) → f ≡ g
  one_refusal ws ts argument.Entry g p q = absurd p
  one_refusal ws ts (argument.Count a b) argument.Entry p q = absurd q
  one_refusal ws ts (argument.Count a b) (argument.Count c d) p q = ap (λ n. argument.Count n b) (p.0 ∙ sym q.0) ∙ ap (λ n. argument.Count c n) (p.1 ∙ sym q.1)
  one_refusal ws ts (argument.Count a b) (argument.Value k g) p q = absurd (p.2 (p.0 ∙ sym q.0 ∙ sym p.1))
  one_refusal ws ts (argument.Value k f) argument.Entry p q = absurd q
  one_refusal ws ts (argument.Value k f) (argument.Count c d) p q = absurd (q.2 (q.0 ∙ sym p.0 ∙ sym q.1))
  one_refusal ws ts (argument.Value k f) (argument.Value j g) p q =
      let r = first_fault_one ws ts k j f g p.1 q.1 in ap (λ n. argument.Value n f) r.0 ∙ ap (λ h. argument.Value j h) r.1

  pub words_once : AreWordsOnce
  words_once = record { either = read_or_refused; one = one_refusal }
