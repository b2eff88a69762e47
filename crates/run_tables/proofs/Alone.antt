-- One worker comes to an end.
use Rattle.std.proofs.Common.{◌≡◌, ℕ, zero, suc, ◌+◌, ◌≤◌, ◌<◌, Bool, true, false, [], ◌∷◌, ◌⊎◌, inl, inr, refl, ap, ◌∙◌, subst, arith}
use native.Mathlib.Decide.{dec_le}
use Rattle.graph_meaning.specs.Entered.{Item}
use Rattle.graph_meaning.specs.Histories.{Run, Exists, Outcome, EndKind, TurnLimit, Claim, Idle, Ended, Finish, History, Legal, Allowed, HasEnded, IsOn, IsSettled, Gives, Claimable, ClaimedBy, IsNeverStuck, early, count, is_claimed, is_finished, Made, OverLimit, NoMemory, OutOfMemory, FinishEnds}
use Rattle.run_tables.specs.Bounds.{claims_in}
use Rattle.run_states.proofs.Ready.{clash}
use Rattle.run_states.proofs.Items.{or-same, or-more, or-cases}
use Rattle.run_tables.specs.Followed.{Rounds, none, round, ComesToEnd}

pub claimed-by : (h : History) (w : ℕ) (i : Item) → ClaimedBy h w i → is_claimed h i ≡ true
claimed-by [] w i b = absurd b
claimed-by (Claim v j ∷ h) w i (inl b) = ap (λ z. is_claimed (Claim v z ∷ h) i) b.1 ∙ or-same i (is_claimed h)
claimed-by (Claim v j ∷ h) w i (inr b) = or-more j (is_claimed h) i (claimed-by h w i b)
claimed-by (Idle v ∷ h) w i b = claimed-by h w i b
claimed-by (Ended v k ∷ h) w i b = claimed-by h w i b
claimed-by (Finish v j o ∷ h) w i b = claimed-by h w i b

module _ (run : Run) (limit : ℕ) where
  -- what was finished was claimed, and what was claimed exists
  pub finished-claimed : (h : History) → Legal run limit h → (i : Item) → is_finished h i ≡ true → is_claimed h i ≡ true
  finished-claimed [] g i e = absurd (never e)
    where
      never : false ≡ true → ⊥
      never e = cc
  finished-claimed (Claim v j ∷ h) g i e = or-more j (is_claimed h) i (finished-claimed h g.0 i e)
  finished-claimed (Idle v ∷ h) g i e = finished-claimed h g.0 i e
  finished-claimed (Ended v k ∷ h) g i e = finished-claimed h g.0 i e
  finished-claimed (Finish v j o ∷ h) g i e = go (or-cases j (is_finished h) i e) (finished-claimed h g.0 i)
    where
      go : (j ≡ i) ⊎ (is_finished h i ≡ true) → (is_finished h i ≡ true → is_claimed h i ≡ true) → is_claimed h i ≡ true
      go (inl q) rec = subst (λ z. is_claimed h z ≡ true) q (claimed-by h v j g.1.0)
      go (inr q) rec = rec q

  pub claimed-exists : (h : History) → Legal run limit h → (i : Item) → is_claimed h i ≡ true → Exists run i
  claimed-exists [] g i e = absurd (never e)
    where
      never : false ≡ true → ⊥
      never e = cc
  claimed-exists (Claim v j ∷ h) g i e = go (or-cases j (is_claimed h) i e) (claimed-exists h g.0 i)
    where
      go : (j ≡ i) ⊎ (is_claimed h i ≡ true) → (is_claimed h i ≡ true → Exists run i) → Exists run i
      go (inl q) rec = subst (Exists run) q g.1.1.0
      go (inr q) rec = rec q
  claimed-exists (Idle v ∷ h) g i e = claimed-exists h g.0 i e
  claimed-exists (Ended v k ∷ h) g i e = claimed-exists h g.0 i e
  claimed-exists (Finish v j o ∷ h) g i e = claimed-exists h g.0 i e

  not-true : (b : Bool) → ¬ (b ≡ true) → b ≡ false
  not-true true n = absurd (n refl)
  not-true false n = refl

  module _ (w : ℕ) (h : History) (legal : Legal run limit h) where
    pub rounds-legal : (n : ℕ) (k : History) → Rounds run limit w h n k → Legal run limit k
    rounds-legal _ _ none = legal
    rounds-legal _ _ (round n k i o r a b) = ((rounds-legal n k r, a), b)

    pub rounds-claim : (n : ℕ) (k : History) → Rounds run limit w h n k → n + claims_in h ≤ claims_in k
    rounds-claim _ _ none = omega arith
    rounds-claim _ _ (round n k i o r a b) = let x = rounds-claim n k r in omega (arith, x)

    module _ (stuck : IsNeverStuck run limit) (decided : (k : History) → Legal run limit k → ((e : EndKind) × HasEnded run limit k e) ⊎ IsOn run limit k) (gives : (i : Item) → Exists run i → (o : Outcome) × Gives run limit i o)
        (bound : ℕ) (few : (k : History) → Legal run limit k → claims_in k ≤ bound)
      where
        -- the work finds memory each time, and so it did
        abbrev IsClean : Type 0
        IsClean = ((i : Item) (e : Exists run i) → ¬ ((gives i e).0 ≡ NoMemory)) × (HasEnded run limit h OutOfMemory → ⊥)

        abbrev Ends : Type 0
        Ends = (n : ℕ) × (k : History) × Rounds run limit w h n k × ComesToEnd run limit w k × (IsClean → HasEnded run limit k OutOfMemory → ⊥)

        with-memory : (k : History) (i : Item) (o : Outcome) → ¬ (o ≡ NoMemory) → FinishEnds run limit k w i o OutOfMemory → ⊥
        with-memory k i (Made n) ne f = f
        with-memory k i OverLimit ne f = f
        with-memory k i NoMemory ne f = ne refl

        still-settled : (k : History) (i : Item) (o : Outcome) → IsSettled k → IsSettled (Finish w i o ∷ Claim w i ∷ k)
        still-settled k i o settled j e = go (or-cases i (is_claimed k) j e)
          where
            go : (i ≡ j) ⊎ (is_claimed k j ≡ true) → is_finished (Finish w i o ∷ Claim w i ∷ k) j ≡ true
            go (inl q) = ap (λ z. is_finished (Finish w z o ∷ Claim w z ∷ k) j) q ∙ or-same j (is_finished k)
            go (inr q) = or-more i (is_finished k) j (settled j q)

        may-finish : (k : History) (i : Item) (o : Outcome) → Legal run limit k → is_claimed k i ≡ false → Gives run limit i o → Allowed run limit (Claim w i ∷ k) (Finish w i o)
        may-finish k i o g un gs = (inl (refl, refl), not-true (is_finished k i) (λ e. clash (is_claimed k i) (finished-claimed k g i e) un), gs)

        abbrev OnFrom : ℕ → Type 0
        OnFrom fuel = (n : ℕ) (k : History) → Rounds run limit w h n k → Legal run limit k → IsSettled k → (IsClean → HasEnded run limit k OutOfMemory → ⊥) → bound < claims_in k + fuel → Ends

        to-end : (fuel : ℕ) → OnFrom fuel
        to-end zero n k r g settled clean lt = absurd (let x = few k g in omega (arith, x, lt))
        to-end (suc fuel) n k r g settled clean lt = by (decided k g) (to-end fuel)
          where
            ended-next : (i : Item) → Claimable run k i → IsOn run limit k → limit < early i + count k → ComesToEnd run limit w k
            ended-next i can on over = inr ((g, inr (on, (i, can, over))), ((TurnLimit, inr (on, refl)), λ j e. settled j e))

            still-clean : (i : Item) (o : Outcome) → ¬ (o ≡ NoMemory) → IsClean → HasEnded run limit (Finish w i o ∷ Claim w i ∷ k) OutOfMemory → ⊥
            still-clean i o ne c (inl (inl e)) = clean c e
            still-clean i o ne c (inl (inr e)) = e.1
            still-clean i o ne c (inr e) = with-memory (Claim w i ∷ k) i o ne e.1

            goes : (i : Item) → Claimable run k i → IsOn run limit k → Dec (early i + count k ≤ limit) → OnFrom fuel → Ends
            goes i can on (yes le) rec =
                let o = gives i can.0 in
                let a = may-finish k i o.0 g can.1 o.1 in
                rec (suc n) (Finish w i o.0 ∷ Claim w i ∷ k) (round n k i o.0 r (on, can, le) a) ((g, (on, can, le)), a) (still-settled k i o.0 settled) (λ c e. still-clean i o.0 (c.0 i can.0) c e) (one-more (claims_in k) fuel lt)
              where
                one-more : (c fuel : ℕ) → bound < c + suc fuel → bound < 1 + c + fuel
                one-more c fuel a = omega (arith, a)
            goes i can on (no over) rec = (n, k, r, ended-next i can on (omega (arith, over)), clean)

            by : ((e : EndKind) × HasEnded run limit k e) ⊎ IsOn run limit k → OnFrom fuel → Ends
            by (inl e) rec = (n, k, r, inl (e, settled), clean)
            by (inr on) rec = let i = stuck.some_item k g on settled in goes i.0 i.1 on (dec_le (early i.0 + count k) limit) rec

        pub comes-to-end : IsSettled h → Ends
        comes-to-end settled = to-end (suc bound) 0 h none legal settled (λ c. c.1) (omega arith)
