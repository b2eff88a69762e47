-- Cells that are alive, by test and by what it says.
use Rattle.std.proofs.Common.{◌≡◌, ℕ, zero, suc, ◌+◌, ◌-◌, ◌<◌, ◌≤◌, ◌⊎◌, inl, inr, ◌&&◌, ◌||◌, not, eqb, leb, ltb, if◌then◌else◌, Bool, true, false, List, [], ◌∷◌, length, map, get_or, refl, sym, ap, ◌∙◌, subst, arith}
use Rattle.std.proofs.lemmas.Bool.{eq-eqb, eqb-true, leb-true, le-leb, lt-ltb, ltb-false, ltb-true}
use Rattle.graph_meaning.specs.Carried.{Unfilled}
use Rattle.graph_meaning.specs.Demand.{Source, Port, Fixed, Vertex}
use Rattle.run_code.specs.Taking.{Taken, IsTaken as WasTaken}
use Rattle.run_code.specs.Cells.{Operand, At, Lit}
use Rattle.run_code.specs.Coded.{Places, operand}
use Rattle.run_code.specs.Known.{Known, Knows}
use Rattle.run_code.specs.Made.{Plan, placed, put}
use Rattle.run_store.specs.Ports.{IsAlive}
use Rattle.made_store.specs.Settings.{Shares, Cells_of, alive, any_port, cells_where, is_at, range_of, seats, stand_known, stands, was_taken}
use Rattle.made_store.specs.Shared.{AreThere}
use Rattle.run_made.specs.Plans.{Weighing}

-- ---- tests

pub or-either : (a b : Bool) → a || b ≡ true → (a ≡ true) ⊎ (b ≡ true)
or-either true b e = inl refl
or-either false b e = inr e

pub or-left : (a b : Bool) → a ≡ true → a || b ≡ true
or-left a b e = ap (λ x. x || b) e

pub or-right : (a b : Bool) → b ≡ true → a || b ≡ true
or-right true b e = refl
or-right false b e = e

pub and-both : (a b : Bool) → a && b ≡ true → (a ≡ true) × (b ≡ true)
and-both true b e = (refl, e)
and-both false b e = absurd (let x : false ≡ true = e in cc)

pub both-and : (a b : Bool) → a ≡ true → b ≡ true → a && b ≡ true
both-and a b e f = ap (λ x. x && b) e ∙ f

pub not-so : (b : Bool) → not b ≡ true → b ≡ true → ⊥
not-so true e f = absurd (let x : false ≡ true = e in cc)
not-so false e f = absurd (let x : false ≡ true = f in cc)

pub so-not : (b : Bool) → (b ≡ true → ⊥) → not b ≡ true
so-not true n = absurd (n refl)
so-not false n = refl

pub true-false : (b : Bool) → b ≡ true → b ≡ false → ⊥
true-false b e f = let x : true ≡ false = sym e ∙ f in cc

-- ---- ports

pub any-sound : (test : ℕ → Bool) (n : ℕ) → any_port test n ≡ true → (p : ℕ) × (1 ≤ p) × (p ≤ n) × (test p ≡ true)
any-sound test zero e = absurd (let x : false ≡ true = e in cc)
any-sound test (suc n) e = go (or-either (test (suc n)) (any_port test n) e) (λ h. any-sound test n h)
  where
    go : (test (suc n) ≡ true) ⊎ (any_port test n ≡ true) → (any_port test n ≡ true → (p : ℕ) × (1 ≤ p) × (p ≤ n) × (test p ≡ true)) → (p : ℕ) × (1 ≤ p) × (p ≤ suc n) × (test p ≡ true)
    go (inl h) later = (suc n, omega arith, omega arith, h)
    go (inr h) later = let x = later h in let le = x.2 in (x.0, x.1, omega (arith, le), x.3)

pub any-so : (test : ℕ → Bool) (n p : ℕ) → 1 ≤ p → p ≤ n → test p ≡ true → any_port test n ≡ true
any-so test zero p a b e = absurd (omega (arith, a, b))
any-so test (suc n) p a b e = go (ltb n p) refl (λ le. any-so test n p a le e)
  where
    below : (n p : ℕ) → ltb n p ≡ false → p ≤ n
    below n p f = let le = ltb-false n p f in omega (arith, le)

    go : (c : Bool) → ltb n p ≡ c → (p ≤ n → any_port test n ≡ true) → test (suc n) || any_port test n ≡ true
    go true f later =
        let lt = ltb-true n p f in
        let same : p ≡ suc n = omega (arith, b, lt) in
        or-left (test (suc n)) (any_port test n) (subst (λ x. test x ≡ true) same e)
    go false f later = or-right (test (suc n)) (any_port test n) (later (below n p f))

pub at-sound : (o : Operand) (i : ℕ) → is_at o i ≡ true → o ≡ At i
at-sound (At c) i e = ap At (eqb-true c i e)
at-sound (Lit k) i e = absurd (let x : false ≡ true = e in cc)

pub at-so : (o : Operand) (i : ℕ) → o ≡ At i → is_at o i ≡ true
at-so o i e = subst (λ x. is_at x i ≡ true) (sym e) (eq-eqb i i refl)

pub lit-at : (A : Type 0) (i : ℕ) → Lit Unfilled ≡ At i → A
lit-at A i e = absurd (clash e)
  where
    clash : Lit Unfilled ≡ At i → ⊥
    clash e = cc

pub lit-no : (i : ℕ) → Lit Unfilled ≡ At i → ⊥
lit-no i e = cc

pub same-cell : (a b : ℕ) → At a ≡ At b → a ≡ b
same-cell a b e = cc

pub within : (args : List Operand) (j i : ℕ) → get_or args j (Lit Unfilled) ≡ At i → j < length args
within [] j i e = lit-at (j < 0) i e
within (a ∷ args) zero i e = omega arith
within (a ∷ args) (suc j) i e = let lt = within args j i e in omega (arith, lt)

pub range-sound : (c n i : ℕ) → range_of c n i ≡ true → (c ≤ i) × (i < c + n)
range-sound c n i e = let x = and-both (leb c i) (ltb i (c + n)) e in (leb-true c i x.0, ltb-true i (c + n) x.1)

pub range-so : (c n i : ℕ) → c ≤ i → i < c + n → range_of c n i ≡ true
range-so c n i a b = both-and (leb c i) (ltb i (c + n)) (le-leb c i a) (lt-ltb i (c + n) b)

-- an operand whose port passes
pub where-sound : (test : ℕ → Bool) (args : List Operand) (i : ℕ) → cells_where test args i ≡ true → (j : ℕ) × (test (suc j) ≡ true) × (get_or args j (Lit Unfilled) ≡ At i)
where-sound test args i e =
    let x = any-sound (λ p. test p && is_at (get_or args (p - 1) (Lit Unfilled)) i) (length args) e in
    go x.0 x.1 (and-both (test x.0) (is_at (get_or args (x.0 - 1) (Lit Unfilled)) i) x.3)
  where
    go : (p : ℕ) → 1 ≤ p → (test p ≡ true) × (is_at (get_or args (p - 1) (Lit Unfilled)) i ≡ true) → (j : ℕ) × (test (suc j) ≡ true) × (get_or args j (Lit Unfilled) ≡ At i)
    go zero a h = absurd (omega (arith, a))
    go (suc j) a h = (j, h.0, at-sound (get_or args j (Lit Unfilled)) i (subst (λ x. is_at (get_or args x (Lit Unfilled)) i ≡ true) (omega arith) h.1))

pub where-so : (test : ℕ → Bool) (args : List Operand) (i j : ℕ) → test (suc j) ≡ true → get_or args j (Lit Unfilled) ≡ At i → cells_where test args i ≡ true
where-so test args i j t e =
    let lt = within args j i e in
    any-so (λ p. test p && is_at (get_or args (p - 1) (Lit Unfilled)) i) (length args) (suc j) (omega arith) (omega (arith, lt))
    (both-and (test (suc j)) (is_at (get_or args (suc j - 1) (Lit Unfilled)) i) t (at-so (get_or args (suc j - 1) (Lit Unfilled)) i (subst (λ x. get_or args x (Lit Unfilled) ≡ At i) (omega arith) e)))

pub where-as : (test other : ℕ → Bool) (args : List Operand) (i : ℕ) → ((p : ℕ) → test p ≡ true → other p ≡ true) → cells_where test args i ≡ true → cells_where other args i ≡ true
where-as test other args i less e = let x = where-sound test args i e in where-so other args i x.0 (less (suc x.0) x.1) x.2

-- ---- what was taken

pub taken-sound : (ts : Taken) (l p : ℕ) → was_taken ts l p ≡ true → WasTaken ts l p
taken-sound [] l p e = absurd (let x : false ≡ true = e in cc)
taken-sound (t ∷ ts) l p e = go (or-either (eqb l t.0 && eqb p t.1) (was_taken ts l p) e) (λ h. taken-sound ts l p h)
  where
    go : (eqb l t.0 && eqb p t.1 ≡ true) ⊎ (was_taken ts l p ≡ true) → (was_taken ts l p ≡ true → WasTaken ts l p) → WasTaken (t ∷ ts) l p
    go (inl h) later = let x = and-both (eqb l t.0) (eqb p t.1) h in inl (eqb-true l t.0 x.0, eqb-true p t.1 x.1)
    go (inr h) later = inr (later h)

pub taken-so : (ts : Taken) (l p : ℕ) → WasTaken ts l p → was_taken ts l p ≡ true
taken-so [] l p h = absurd h
taken-so (t ∷ ts) l p (inl h) = or-left (eqb l t.0 && eqb p t.1) (was_taken ts l p) (both-and (eqb l t.0) (eqb p t.1) (eq-eqb l t.0 h.0) (eq-eqb p t.1 h.1))
taken-so (t ∷ ts) l p (inr h) = or-right (eqb l t.0 && eqb p t.1) (was_taken ts l p) (taken-so ts l p h)

-- ---- alive

module _ (P : Plan) (places : Places) (taken : Taken) where
  stands-sound : (l p i : ℕ) → stands P places taken l p i ≡ true → (WasTaken taken l p → ⊥) × (places l p ≡ At i)
  stands-sound l p i e =
      let x = and-both (is_at (places l p) i) (not (was_taken taken l p)) e in
      ((λ w. not-so (was_taken taken l p) x.1 (taken-so taken l p w)), at-sound (places l p) i x.0)

  stands-so : (l p i : ℕ) → (WasTaken taken l p → ⊥) → places l p ≡ At i → stands P places taken l p i ≡ true
  stands-so l p i n e = both-and (is_at (places l p) i) (not (was_taken taken l p)) (at-so (places l p) i e) (so-not (was_taken taken l p) (λ t. n (taken-sound taken l p t)))

  known-sound : (known : Known) (i : ℕ) → stand_known P places taken known i ≡ true → (l : ℕ) × (p : ℕ) × Knows known l p × (WasTaken taken l p → ⊥) × (places l p ≡ At i)
  known-sound [] i e = absurd (let x : false ≡ true = e in cc)
  known-sound (k ∷ ks) i e = go (or-either (any_port (λ p. stands P places taken k.0 p i) k.1) (stand_known P places taken ks i) e) (λ h. known-sound ks i h)
    where
      port : (p : ℕ) → 1 ≤ p → p ≤ k.1 → stands P places taken k.0 p i ≡ true → (l : ℕ) × (p : ℕ) × Knows (k ∷ ks) l p × (WasTaken taken l p → ⊥) × (places l p ≡ At i)
      port zero a b h = absurd (omega (arith, a))
      port (suc p) a b h = let s = stands-sound k.0 (suc p) i h in (k.0, suc p, inl (refl, p, omega (arith, b), refl), s.0, s.1)

      go : (any_port (λ p. stands P places taken k.0 p i) k.1 ≡ true) ⊎ (stand_known P places taken ks i ≡ true)
          → (stand_known P places taken ks i ≡ true → (l : ℕ) × (p : ℕ) × Knows ks l p × (WasTaken taken l p → ⊥) × (places l p ≡ At i))
          → (l : ℕ) × (p : ℕ) × Knows (k ∷ ks) l p × (WasTaken taken l p → ⊥) × (places l p ≡ At i)
      go (inl h) later = let x = any-sound (λ p. stands P places taken k.0 p i) k.1 h in port x.0 x.1 x.2 x.3
      go (inr h) later = let x = later h in (x.0, x.1, inr x.2, x.3, x.4)

  known-so : (known : Known) (i l p : ℕ) → Knows known l p → (WasTaken taken l p → ⊥) → places l p ≡ At i → stand_known P places taken known i ≡ true
  known-so [] i l p h n e = absurd h
  known-so (k ∷ ks) i l p (inl h) n e =
      let lt = h.2 in
      or-left (any_port (λ p. stands P places taken k.0 p i) k.1) (stand_known P places taken ks i)
      (any-so (λ p. stands P places taken k.0 p i) k.1 (suc h.1) (omega arith) (omega (arith, lt))
      (subst (λ x. stands P places taken x (suc h.1) i ≡ true) h.0 (subst (λ x. stands P places taken l x i ≡ true) h.3 (stands-so l p i n e))))
  known-so (k ∷ ks) i l p (inr h) n e = or-right (any_port (λ p. stands P places taken k.0 p i) k.1) (stand_known P places taken ks i) (known-so ks i l p h n e)

  pub alive-sound : (keep : Cells_of) (n : ℕ) (known : Known) (i : ℕ) → alive P keep places n known taken i ≡ true → IsAlive keep places known taken i
  alive-sound keep n known i e = go (or-either (keep i) (any_port (λ p. stands P places taken 0 p i) n || stand_known P places taken known i) e)
    where
      port : (any_port (λ p. stands P places taken 0 p i) n ≡ true) ⊎ (stand_known P places taken known i ≡ true) → IsAlive keep places known taken i
      port (inl h) =
          let x = any-sound (λ p. stands P places taken 0 p i) n h in
          let s = stands-sound 0 x.0 i x.3 in
          inr (0, x.0, inl refl, s.0, s.1)
      port (inr h) = let x = known-sound known i h in inr (x.0, x.1, inr x.2, x.3, x.4)

      go : (keep i ≡ true) ⊎ (any_port (λ p. stands P places taken 0 p i) n || stand_known P places taken known i ≡ true) → IsAlive keep places known taken i
      go (inl h) = inl h
      go (inr h) = port (or-either (any_port (λ p. stands P places taken 0 p i) n) (stand_known P places taken known i) h)

  pub alive-so : (keep : Cells_of) (n : ℕ) (known : Known) (i : ℕ) → ((p : ℕ) → places 0 p ≡ At i → (1 ≤ p) × (p ≤ n)) → IsAlive keep places known taken i → alive P keep places n known taken i ≡ true
  alive-so keep n known i inputs (inl h) = or-left (keep i) (any_port (λ p. stands P places taken 0 p i) n || stand_known P places taken known i) h
  alive-so keep n known i inputs (inr (l, p, inl z, free, e)) =
      let at = inputs p (sym (ap (λ x. places x p) z) ∙ e) in
      or-right (keep i) (any_port (λ p. stands P places taken 0 p i) n || stand_known P places taken known i)
      (or-left (any_port (λ p. stands P places taken 0 p i) n) (stand_known P places taken known i)
      (any-so (λ p. stands P places taken 0 p i) n p at.0 at.1 (subst (λ x. stands P places taken x p i ≡ true) z (stands-so l p i free e))))
  alive-so keep n known i inputs (inr (l, p, inr h, free, e)) =
      or-right (keep i) (any_port (λ p. stands P places taken 0 p i) n || stand_known P places taken known i)
      (or-right (any_port (λ p. stands P places taken 0 p i) n) (stand_known P places taken known i) (known-so known i l p h free e))

-- ---- seats

module _ (P : Plan) (test : ℕ → Bool) (args : List Operand) (vs : List Vertex) (lo : ℕ) where
  -- the seat of an input
  pub seat-is : (p i : ℕ) → seats P test args vs lo 0 p ≡ At i → (j : ℕ) × (p ≡ suc j) × (test p ≡ true) × (get_or args j (Lit Unfilled) ≡ At i)
  seat-is zero i e = lit-at ((j : ℕ) × (0 ≡ suc j) × (test 0 ≡ true) × (get_or args j (Lit Unfilled) ≡ At i)) i e
  seat-is (suc p) i e = go (test (suc p)) refl e
    where
      go : (b : Bool) → test (suc p) ≡ b → (if b then get_or args p (Lit Unfilled) else Lit Unfilled) ≡ At i → (j : ℕ) × (suc p ≡ suc j) × (test (suc p) ≡ true) × (get_or args j (Lit Unfilled) ≡ At i)
      go true t h = (p, refl, t, h)
      go false t h = lit-at ((j : ℕ) × (suc p ≡ suc j) × (test (suc p) ≡ true) × (get_or args j (Lit Unfilled) ≡ At i)) i h

  pub seat-so : (j : ℕ) → test (suc j) ≡ true → seats P test args vs lo 0 (suc j) ≡ get_or args j (Lit Unfilled)
  seat-so j t = ap (λ b. if b then get_or args j (Lit Unfilled) else Lit Unfilled) t

  pub seat-inputs : (i p : ℕ) → seats P test args vs lo 0 p ≡ At i → (1 ≤ p) × (p ≤ length args)
  seat-inputs i p e =
      let x = seat-is p i e in
      let same = x.1 in
      let lt = within args x.0 i x.3 in
      (omega (arith, same), omega (arith, same, lt))

-- what is there is read where the plan says
pub reads-there : (P : Plan) (S : Shares) (W : Weighing) (g : ℕ) (args : List Operand) (vs : List Vertex) (lo : ℕ) (os : List Source) → AreThere P S W g os → map (operand (seats P (S.has g) args vs lo)) os ≡ map (operand (placed P args vs lo)) os
reads-there P S W g args vs lo [] h = refl
reads-there P S W g args vs lo (Fixed c ∷ os) h = ap (λ xs. Lit c ∷ xs) (reads-there P S W g args vs lo os h)
reads-there P S W g args vs lo (Port zero zero ∷ os) h = absurd h
reads-there P S W g args vs lo (Port zero (suc p) ∷ os) h =
    let e : suc p - 1 ≡ p = omega arith in
    ap (λ x. x ∷ map (operand (seats P (S.has g) args vs lo)) os) (seat-so P (S.has g) args vs lo p h.0 ∙ ap (λ z. get_or args z (Lit Unfilled)) (sym e))
    ∙ ap (λ xs. get_or args (suc p - 1) (Lit Unfilled) ∷ xs) (reads-there P S W g args vs lo os h.1)
reads-there P S W g args vs lo (Port (suc l) p ∷ os) h = ap (λ xs. put P vs lo (suc l) p ∷ xs) (reads-there P S W g args vs lo os h)
