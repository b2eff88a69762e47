-- Steps put together, and what is left of a run that ends.
use Rattle.std.proofs.Common.{◌≡◌, ℕ, zero, suc, ◌+◌, ◌<◌, ◌≤◌, Bool, true, false, if◌then◌else◌, List, inl, inr, ◌⊎◌, refl, sym, ap, ◌∙◌, subst, arith, ltb}
use Rattle.std.proofs.lemmas.Bool.{lt-ltb, ltb-true}
use Rattle.run_code.specs.Carried.{Carried}
use Rattle.run_code.specs.Cells.{Cells}
use Rattle.run_code.specs.Machine.{Ends, EndsIn, Frame, Goes, Outcome, Over, Reaches, State, Weigh, added, at, counted, doing, goes_on, stays, step}
use Rattle.run_code.specs.Steps.{Code, Step}

module _ (limit : ℕ) (code : Code) where
  pub does : (x : Step) (pc base : ℕ) (cells : Cells) (calls : List Frame) (fires : ℕ) (t : Outcome) → code pc ≡ x → doing limit x pc base cells calls fires ≡ t → step limit code (at pc base cells calls fires) ≡ t
  does x pc base cells calls fires t is e = ap (λ y. doing limit y pc base cells calls fires) is ∙ e

  pub counts : (fires : ℕ) (f : ℕ → Outcome) → fires < limit → counted limit fires f ≡ f (suc fires)
  counts fires f lt = ap (λ b. if b then f (suc fires) else Over) (lt-ltb fires limit lt)

  not-both : (t : State) (x : Outcome) (rs : List Carried) (f : ℕ) → x ≡ Goes t → x ≡ Ends rs f → ⊥
  not-both t x rs f a b = two (sym a ∙ b)
    where
      two : Goes t ≡ Ends rs f → ⊥
      two e = cc

  same-turn : (t q : State) (x : Outcome) → x ≡ Goes t → x ≡ Goes q → t ≡ q
  same-turn t q x a b = two (sym a ∙ b)
    where
      two : Goes t ≡ Goes q → t ≡ q
      two e = cc

  -- after a step, fewer are left
  pub end-next : (s t : State) → step limit code s ≡ Goes t → (k : ℕ) (rs : List Carried) (f : ℕ) → EndsIn k limit code s rs f → (j : ℕ) × (suc j ≡ k) × EndsIn j limit code t rs f
  end-next s t e zero rs f h = absurd (not-both t (step limit code s) rs f e h)
  end-next s t e (suc k) rs f h = (k, refl, subst (λ x. EndsIn k limit code x rs f) (same-turn h.0 t (step limit code s) h.1 e) h.2)

  counts-or-over : (fires : ℕ) (f : ℕ → State) → (fires < limit) ⊎ (counted limit fires (λ x. Goes (f x)) ≡ Over)
  counts-or-over fires f = go (ltb fires limit) refl
    where
      go : (b : Bool) → ltb fires limit ≡ b → (fires < limit) ⊎ ((if b then Goes (f (suc fires)) else Over) ≡ Over)
      go true e = inl (ltb-true fires limit e)
      go false e = inr refl

  pub over-ends : (s : State) → step limit code s ≡ Over → (k : ℕ) (rs : List Carried) (f : ℕ) → EndsIn k limit code s rs f → ⊥
  over-ends s e zero rs f h = two (sym e ∙ h)
    where
      two : Over ≡ Ends rs f → ⊥
      two e = cc
  over-ends s e (suc k) rs f h = two h.0 (sym e ∙ h.1)
    where
      two : (t : State) → Over ≡ Goes t → ⊥
      two t e = cc

  -- a step that counts is within the limit, where the run ends
  pub within : (x : Step) (pc base : ℕ) (cells : Cells) (calls : List Frame) (fires : ℕ) (f : ℕ → State) → code pc ≡ x → doing limit x pc base cells calls fires ≡ counted limit fires (λ y. Goes (f y))
      → (k : ℕ) (rs : List Carried) (c : ℕ) → EndsIn k limit code (at pc base cells calls fires) rs c → fires < limit
  within x pc base cells calls fires f is e k rs c h = go (counts-or-over fires f)
    where
      go : (fires < limit) ⊎ (counted limit fires (λ y. Goes (f y)) ≡ Over) → fires < limit
      go (inl lt) = lt
      go (inr o) = absurd (over-ends (at pc base cells calls fires) (does x pc base cells calls fires Over is (e ∙ o)) k rs c h)

  pub one-end : (k : ℕ) (s : State) (rs rs' : List Carried) (f f' : ℕ) → step limit code s ≡ Ends rs f → EndsIn k limit code s rs' f' → (rs ≡ rs') × (f ≡ f')
  one-end zero s rs rs' f f' e h = two (sym e ∙ h)
    where
      two : Ends rs f ≡ Ends rs' f' → (rs ≡ rs') × (f ≡ f')
      two e = (cc, cc)
  one-end (suc k) s rs rs' f f' e h = absurd (clash (sym e ∙ h.1))
    where
      clash : Ends rs f ≡ Goes h.0 → ⊥
      clash e = cc

module _ (weigh : Weigh) (limit : ℕ) (code : Code) where
  pub comes-then : (s t r : State) (x y : ℕ) → Reaches weigh limit code s t x → Reaches weigh limit code t r y → Reaches weigh limit code s r (x + y)
  comes-then _ _ r _ y (stays s) b = subst (Reaches weigh limit code s r) (omega arith) b
  comes-then _ _ r _ y (goes_on s t q x e a) b =
      subst (Reaches weigh limit code s r) (omega arith) (goes_on s t r (x + y) e (comes-then t q r x y a b))

  -- one step, which adds so much
  pub one-step : (pc base : ℕ) (cells : Cells) (calls : List Frame) (fires : ℕ) (t : State) (x : Step) (y : ℕ) → code pc ≡ x → doing limit x pc base cells calls fires ≡ Goes t → added weigh x pc base cells ≡ y
      → Reaches weigh limit code (at pc base cells calls fires) t y
  one-step pc base cells calls fires t x y is e adds =
      let s = at pc base cells calls fires in
      let sum : added weigh (code pc) pc base cells ≡ y = ap (λ z. added weigh z pc base cells) is ∙ adds in
      subst (Reaches weigh limit code s t) (omega (arith, sum)) (goes_on s t t 0 (does limit code x pc base cells calls fires (Goes t) is e) (stays t))

  pub comes-as : (s : State) (pc base : ℕ) (cells : Cells) (calls : List Frame) (f f' x x' : ℕ) → f ≡ f' → x ≡ x' → Reaches weigh limit code s (at pc base cells calls f) x → Reaches weigh limit code s (at pc base cells calls f') x'
  comes-as s pc base cells calls f f' x x' e d a = subst (λ z. Reaches weigh limit code s (at pc base cells calls f') z) d (subst (λ z. Reaches weigh limit code s (at pc base cells calls z) x) e a)

  -- the end is reached from each state on the way, in no more steps
  pub end-after : (s t : State) (x : ℕ) → Reaches weigh limit code s t x → (k : ℕ) (rs : List Carried) (f : ℕ) → EndsIn k limit code s rs f → (j : ℕ) × (j ≤ k) × EndsIn j limit code t rs f
  end-after _ _ _ (stays s) k rs f h = (k, omega arith, h)
  end-after _ _ _ (goes_on s t r x e a) k rs f h =
      let n = end-next limit code s t e k rs f h in
      let y = end-after t r x a n.0 rs f n.2 in
      let less = n.1 in
      let le = y.1 in
      (y.0, omega (arith, le, less), y.2)
