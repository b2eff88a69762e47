-- What is known of cells stays true.
use Rattle.std.proofs.Common.{◌≡◌, ℕ, zero, suc, ◌+◌, ◌-◌, ◌<◌, ◌≤◌, ◌⊎◌, inl, inr, Bool, true, false, if◌then◌else◌, List, [], ◌∷◌, ◌++◌, length, map, drop, get_or, slice_get, Option, Some, None, refl, sym, ap, ◌∙◌, subst, arith, ltb, pos, negsuc}
use Rattle.std.proofs.lemmas.Bool.{ltb-true}
use Rattle.run_code.specs.Cause.{Cause}
use Rattle.run_code.specs.Val.{Val}
use Rattle.run_code.specs.Val.TheOpen.{Val-F}
use Rattle.run_code.specs.Val.TheViews as values
use Rattle.run_code.specs.Carried.{Carried, Value, Unfilled, val_of}
use Rattle.run_code.specs.NodeValues.{op}
use Rattle.run_code.specs.Forms.{errors, first_spoiled, are_as_long, places_of, items, heads}
use Rattle.run_code.proofs.Columns.{get-first}
use Rattle.run_code.proofs.Values.{by-form}
use Rattle.run_code.specs.Simple.TheVariants as simple
use Rattle.run_code.specs.Cells.{At, Cells, Operand, cells_from, look, write}
use Rattle.run_code.specs.Collections.{Collect, nothing_in, put_all, since}
use Rattle.run_code.specs.Machine.{Frame, Goes, Over, State, arm_by, arm_to, at, begun, choice, chosen, counted, counter, doing, each, elements, or_tag, returned, sized, spread_to, spreads, tagged, tested_by}
use Rattle.run_code.specs.Steps.{Add, Branch, Call, Count, Each, Fire, Keep, Move, Return, Spread, Step, Tag, Test}
use Rattle.run_laws.proofs.Cells.{Same, write-below, write-in}
use Rattle.run_laws.proofs.Rows.{are-long, map-length, write-above}
use Rattle.run_laws.specs.Facts.{Preserves, AllOf, AllPlaces, AreLong, AsLong, Content, Counted, Fact, Here, Is, IsApart, IsFine, IsKnown, IsMoved, IsRead, IsScattered, IsTrue, LeadsApart, Path, Scattered, Stays, StaysTrue, Still, Through, Touches, Uses, Waits, content, content_in, element, scattered, through}

-- ---- one fact

same-from : (cells old : Cells) (b n : ℕ) → ((j : ℕ) → j < n → cells (b + j) ≡ old (b + j)) → cells_from cells b n ≡ cells_from old b n
same-from cells old b zero h = refl
same-from cells old b (suc n) h =
    ap (λ x. x ∷ cells_from cells (suc b) n) (ap cells (omega arith) ∙ (h 0 (omega arith) ∙ ap old (omega arith)))
    ∙ ap (λ xs. old b ∷ xs) (same-from cells old (suc b) n (λ j lt. ap cells (omega arith) ∙ (h (suc j) (omega (arith, lt)) ∙ ap old (omega arith))))

-- a path leads to the same where its cells are the same
through-same : (base : ℕ) (cells old : Cells) (p : Path) → ((c : ℕ) → Uses p c → cells (base + c) ≡ old (base + c)) → through cells base p ≡ through old base p
through-same base cells old (Here c) same = same c refl
through-same base cells old (Scattered p) same = ap scattered (through-same base cells old p same)
through-same base cells old (Content p) same = ap content (through-same base cells old p same)
through-same base cells old (Counted p count) same =
    ap (λ z. element (begun z - 1) (through cells base p)) (same count (inl refl)) ∙ ap (element (begun (old (base + count)) - 1)) (through-same base cells old p (λ c u. same c (inr u)))

true-by : (base : ℕ) (cells old : Cells) (f : Fact) → ((c : ℕ) → Touches f c → cells (base + c) ≡ old (base + c)) → IsTrue base old f → IsTrue base cells f
true-by base cells old (Through a p) same h = same a (inl refl) ∙ (h ∙ sym (through-same base cells old p (λ c u. same c (inr u))))
true-by base cells old (AsLong from n) same h =
    subst (λ z. AreLong (places_of z) z) (sym (same-from cells old (base + from) n (λ j lt. ap cells (omega arith) ∙ (same (from + j) (omega arith, omega (arith, lt)) ∙ ap old (omega arith))))) h

write-out : (base out w : ℕ) (rs : List Carried) (cells : Cells) (c : ℕ) → (c < out) ⊎ (out + w ≤ c) → write (base + out) w rs cells (base + c) ≡ cells (base + c)
write-out base out w rs cells c (inl lt) = write-below (base + out) w rs cells (base + c) (omega (arith, lt))
write-out base out w rs cells c (inr le) = write-above (base + out) w rs cells (base + c) (omega (arith, le))

pick : (P : Fact → Type 0) (f : Fact) (fs : List Fact) → Is f fs → AllOf P fs → P f
pick P f [] h all = absurd h
pick P f (g ∷ fs) (inl e) all = subst P (sym e) all.0
pick P f (g ∷ fs) (inr h) all = pick P f fs h all.1

each-of : (P Q : Fact → Type 0) (fs : List Fact) → ((f : Fact) → P f → Q f) → AllOf P fs → AllOf Q fs
each-of P Q [] h all = tt
each-of P Q (f ∷ fs) h all = (h f all.0, each-of P Q fs h all.1)

module _ (facts : ℕ → List Fact) where
  -- what is known here is known there
  stays-true : (pc next out w base : ℕ) (rs : List Carried) (cells : Cells) → Stays facts pc next out w → AllOf (IsTrue base cells) (facts pc) → AllOf (IsTrue base (write (base + out) w rs cells)) (facts next)
  stays-true pc next out w base rs cells stays all =
      each-of (λ f. Is f (facts pc) × IsApart f out w) (IsTrue base (write (base + out) w rs cells)) (facts next)
      (λ f h. true-by base (write (base + out) w rs cells) cells f (λ c t. write-out base out w rs cells c (h.1 c t)) (pick (IsTrue base cells) f (facts pc) h.0 all)) stays

  stays-same : (pc next base : ℕ) (cells : Cells) → Stays facts pc next 0 0 → AllOf (IsTrue base cells) (facts pc) → AllOf (IsTrue base cells) (facts next)
  stays-same pc next base cells stays all = each-of (λ f. Is f (facts pc) × IsApart f 0 0) (IsTrue base cells) (facts next) (λ f h. pick (IsTrue base cells) f (facts pc) h.0 all) stays

  -- what is still known, and what else is
  or-still : (P : Fact → Type 0) (pc next out w base : ℕ) (rs : List Carried) (cells : Cells) → ((f : Fact) → P f → IsTrue base (write (base + out) w rs cells) f) → AllOf (λ f. P f ⊎ Still facts pc out w f) (facts next) → AllOf (IsTrue base cells) (facts pc)
      → AllOf (IsTrue base (write (base + out) w rs cells)) (facts next)
  or-still P pc next out w base rs cells new all known = each-of (λ f. P f ⊎ Still facts pc out w f) (IsTrue base (write (base + out) w rs cells)) (facts next) either all
    where
      either : (f : Fact) → P f ⊎ Still facts pc out w f → IsTrue base (write (base + out) w rs cells) f
      either f (inl p) = new f p
      either f (inr h) = true-by base (write (base + out) w rs cells) cells f (λ c t. write-out base out w rs cells c (h.1 c t)) (pick (IsTrue base cells) f (facts pc) h.0 known)

  -- what can be read so is what the cell has
  pub read-is : (pc base : ℕ) (cells : Cells) (c : ℕ) (p : Path) → AllOf (IsTrue base cells) (facts pc) → IsRead facts pc c p → cells (base + c) ≡ through cells base p
  read-is pc base cells c p known (inl e) = sym (ap (through cells base) e)
  read-is pc base cells c p known (inr h) = pick (IsTrue base cells) (Through c p) (facts pc) h known

  -- a cell that is written with what is read through a path that is left alone
  written-through : (out w base q : ℕ) (rs : List Carried) (cells : Cells) (p : Path) (k : Carried) → q < w → get_or rs q Unfilled ≡ k → k ≡ through cells base p → LeadsApart p out w
      → IsTrue base (write (base + out) w rs cells) (Through (out + q) p)
  written-through out w base q rs cells p k lt is e apart =
      (ap (write (base + out) w rs cells) (omega arith) ∙ write-in (base + out) w rs cells q lt) ∙ (is ∙ (e ∙ sym (through-same base (write (base + out) w rs cells) cells p (λ c u. write-out base out w rs cells c (apart c u)))))

  looked-at : (base : ℕ) (cells : Cells) (froms : List Operand) (q : ℕ) → q < length froms → get_or (map (look cells base) froms) q Unfilled ≡ look cells base (get_or froms q (At 0))
  looked-at base cells [] q lt = absurd (omega (arith, lt))
  looked-at base cells (a ∷ froms) zero lt = refl
  looked-at base cells (a ∷ froms) (suc q) lt = looked-at base cells froms q (omega (arith, lt))

  moved-true : (pc many out w base : ℕ) (froms : List Operand) (rs : List Carried) (cells : Cells) → many ≤ w → ((q : ℕ) → q < many → q < length froms → get_or rs q Unfilled ≡ get_or (map (look cells base) froms) q Unfilled) → AllOf (IsTrue base cells) (facts pc)
      → (f : Fact) → IsMoved facts pc froms many out w f → IsTrue base (write (base + out) w rs cells) f
  moved-true pc many out w base froms rs cells le given known f m =
      let q = m.0 in
      let lt = m.3 in
      subst (IsTrue base (write (base + out) w rs cells)) (sym m.8)
      (written-through out w base q rs cells m.2 (cells (base + m.1)) (omega (arith, lt, le))
      (given q m.3 m.5 ∙ (looked-at base cells froms q m.5 ∙ ap (look cells base) m.4)) (read-is pc base cells m.1 m.2 known m.6) m.7)

  waits-on : (base : ℕ) (calls : List Frame) (cells old : Cells) → Same base cells old → Waits facts base calls old → Waits facts base calls cells
  waits-on base [] cells old same h = tt
  waits-on base (o ∷ os) cells old same h =
      let le = h.0 in (
        h.0,
        each-of (λ f. IsTrue o.base old f × IsApart f o.out o.width × ((c : ℕ) → Touches f c → o.base + c < base)) (λ f. IsTrue o.base cells f × IsApart f o.out o.width × ((c : ℕ) → Touches f c → o.base + c < base)) (facts o.pc)
            (λ f x. (true-by o.base cells old f (λ c t. same (o.base + c) (x.2 c t)) x.0, x.1, x.2)) h.1,
        waits-on o.base os cells old (λ j lt. same j (omega (arith, lt, le))) h.2,
      )

  above : (base out w : ℕ) (rs : List Carried) (cells : Cells) → Same base (write (base + out) w rs cells) cells
  above base out w rs cells j lt = write-below (base + out) w rs cells j (omega (arith, lt))

  -- to a place, with so much written
  writes : (pc next out w base : ℕ) (rs : List Carried) (cells : Cells) (calls : List Frame) (fires : ℕ) → Stays facts pc next out w → IsKnown facts (at pc base cells calls fires) → (f : ℕ) → IsKnown facts (at next base (write (base + out) w rs cells) calls f)
  writes pc next out w base rs cells calls fires stays k f =
      record { here = stays-true pc next out w base rs cells stays k.here; waiting = waits-on base calls (write (base + out) w rs cells) cells (above base out w rs cells) k.waiting }

  writes-new : (P : Fact → Type 0) (pc next out w base : ℕ) (rs : List Carried) (cells : Cells) (calls : List Frame) (fires : ℕ) → ((f : Fact) → P f → IsTrue base (write (base + out) w rs cells) f) → AllOf (λ f. P f ⊎ Still facts pc out w f) (facts next)
      → IsKnown facts (at pc base cells calls fires) → (f : ℕ) → IsKnown facts (at next base (write (base + out) w rs cells) calls f)
  writes-new P pc next out w base rs cells calls fires new all k f =
      record { here = or-still P pc next out w base rs cells new all k.here; waiting = waits-on base calls (write (base + out) w rs cells) cells (above base out w rs cells) k.waiting }

  goes : (pc next base : ℕ) (cells : Cells) (calls : List Frame) (fires : ℕ) → Stays facts pc next 0 0 → IsKnown facts (at pc base cells calls fires) → (f : ℕ) → IsKnown facts (at next base cells calls f)
  goes pc next base cells calls fires stays k f = record { here = stays-same pc next base cells stays k.here; waiting = k.waiting }

  counted-fine : (limit fires : ℕ) (f : ℕ → State) → ((n : ℕ) → IsKnown facts (f n)) → IsFine facts (counted limit fires (λ n. Goes (f n)))
  counted-fine limit fires f h = go (ltb fires limit)
    where
      go : (b : Bool) → IsFine facts (if b then Goes (f (suc fires)) else Over)
      go true = h (suc fires)
      go false = tt

  -- ---- where a value leads

  by-place : (limit pc out w next base : ℕ) (cells : Cells) (calls : List Frame) (fires : ℕ) (ts : List ℕ) (i : ℕ) → AllPlaces (λ t. Stays facts pc t 0 0) ts → Stays facts pc next out w → IsKnown facts (at pc base cells calls fires)
      → IsFine facts (chosen limit (or_tag (slice_get ts i)) out w next base cells calls fires)
  by-place limit pc out w next base cells calls fires [] i places stays k = writes pc next out w base (errors w _) cells calls fires stays k fires
  by-place limit pc out w next base cells calls fires (t ∷ ts) zero places stays k = goes pc t base cells calls fires places.0 k fires
  by-place limit pc out w next base cells calls fires (t ∷ ts) (suc i) places stays k = by-place limit pc out w next base cells calls fires ts i places.1 stays k

  branch-form : (limit pc out w next base : ℕ) (cells : Cells) (calls : List Frame) (fires : ℕ) (ts : List ℕ) → AllPlaces (λ t. Stays facts pc t 0 0) ts → Stays facts pc next out w → IsKnown facts (at pc base cells calls fires)
      → (y : Val-F Val) → IsFine facts (chosen limit (choice ts (values.roll-Val y)) out w next base cells calls fires)
  unfolding values.roll-Val denote.Hole.Carrier.roll
  branch-form limit pc out w next base cells calls fires ts places stays k (Val-F.Int (pos i)) = by-place limit pc out w next base cells calls fires ts i places stays k
  branch-form limit pc out w next base cells calls fires ts places stays k (Val-F.Int (negsuc i)) = writes pc next out w base (errors w _) cells calls fires stays k fires
  branch-form limit pc out w next base cells calls fires ts places stays k (Val-F.Err d) = writes pc next out w base (errors w d) cells calls fires stays k fires
  branch-form limit pc out w next base cells calls fires ts places stays k (Val-F.Bool v) = writes pc next out w base (errors w _) cells calls fires stays k fires
  branch-form limit pc out w next base cells calls fires ts places stays k (Val-F.Char n) = writes pc next out w base (errors w _) cells calls fires stays k fires
  branch-form limit pc out w next base cells calls fires ts places stays k Val-F.Null = writes pc next out w base (errors w _) cells calls fires stays k fires
  branch-form limit pc out w next base cells calls fires ts places stays k (Val-F.Arr a) = writes pc next out w base (errors w _) cells calls fires stays k fires
  branch-form limit pc out w next base cells calls fires ts places stays k (Val-F.Rec vs) = writes pc next out w base (errors w _) cells calls fires stays k fires
  branch-form limit pc out w next base cells calls fires ts places stays k (Val-F.Uni t v) = writes pc next out w base (errors w _) cells calls fires stays k fires
  branch-form limit pc out w next base cells calls fires ts places stays k (Val-F.Stream vs) = writes pc next out w base (errors w _) cells calls fires stays k fires

  test-form : (limit pc turn leave out w next base : ℕ) (cells : Cells) (calls : List Frame) (fires : ℕ) → Stays facts pc turn 0 0 → Stays facts pc leave 0 0 → Stays facts pc next out w → IsKnown facts (at pc base cells calls fires)
      → (y : Val-F Val) → IsFine facts (chosen limit (tested_by turn leave (values.roll-Val y)) out w next base cells calls fires)
  unfolding values.roll-Val denote.Hole.Carrier.roll
  test-form limit pc turn leave out w next base cells calls fires a b stays k (Val-F.Bool true) = counted-fine limit fires (λ f. at turn base cells calls f) (λ f. goes pc turn base cells calls fires a k f)
  test-form limit pc turn leave out w next base cells calls fires a b stays k (Val-F.Bool false) = goes pc leave base cells calls fires b k fires
  test-form limit pc turn leave out w next base cells calls fires a b stays k (Val-F.Err d) = writes pc next out w base (errors w d) cells calls fires stays k fires
  test-form limit pc turn leave out w next base cells calls fires a b stays k (Val-F.Int n) = writes pc next out w base (errors w _) cells calls fires stays k fires
  test-form limit pc turn leave out w next base cells calls fires a b stays k (Val-F.Char n) = writes pc next out w base (errors w _) cells calls fires stays k fires
  test-form limit pc turn leave out w next base cells calls fires a b stays k Val-F.Null = writes pc next out w base (errors w _) cells calls fires stays k fires
  test-form limit pc turn leave out w next base cells calls fires a b stays k (Val-F.Arr x) = writes pc next out w base (errors w _) cells calls fires stays k fires
  test-form limit pc turn leave out w next base cells calls fires a b stays k (Val-F.Rec vs) = writes pc next out w base (errors w _) cells calls fires stays k fires
  test-form limit pc turn leave out w next base cells calls fires a b stays k (Val-F.Uni t v) = writes pc next out w base (errors w _) cells calls fires stays k fires
  test-form limit pc turn leave out w next base cells calls fires a b stays k (Val-F.Stream vs) = writes pc next out w base (errors w _) cells calls fires stays k fires

  by-arm : (P : Fact → Type 0) (pc content out w next base : ℕ) (cells : Cells) (calls : List Frame) (fires : ℕ) (v : Val) → ((f : Fact) → P f → IsTrue base (write (base + content) 1 (Value v ∷ []) cells) f) → (ts : List ℕ) (i : ℕ)
      → AllPlaces (λ t. AllOf (λ f. P f ⊎ Still facts pc content 1 f) (facts t)) ts → Stays facts pc next out w → IsKnown facts (at pc base cells calls fires)
      → IsFine facts (tagged (arm_to v (slice_get ts i)) content out w next base cells calls fires)
  by-arm P pc content out w next base cells calls fires v new [] i places stays k = writes pc next out w base (errors w _) cells calls fires stays k fires
  by-arm P pc content out w next base cells calls fires v new (t ∷ ts) zero places stays k = writes-new P pc t content 1 base (Value v ∷ []) cells calls fires new places.0 k fires
  by-arm P pc content out w next base cells calls fires v new (t ∷ ts) (suc i) places stays k = by-arm P pc content out w next base cells calls fires v new ts i places.1 stays k

  tag-form : (P : Fact → Type 0) (pc content out w next base : ℕ) (cells : Cells) (calls : List Frame) (fires : ℕ) (ts : List ℕ) → AllPlaces (λ t. AllOf (λ f. P f ⊎ Still facts pc content 1 f) (facts t)) ts → Stays facts pc next out w → IsKnown facts (at pc base cells calls fires)
      → (y : Val-F Val) → ((tag : ℕ) (v : Val) → y ≡ Val-F.Uni tag v → (f : Fact) → P f → IsTrue base (write (base + content) 1 (Value v ∷ []) cells) f) → IsFine facts (tagged (arm_by ts y) content out w next base cells calls fires)
  tag-form P pc content out w next base cells calls fires ts places stays k (Val-F.Uni tag v) new = by-arm P pc content out w next base cells calls fires v (new tag v refl) ts tag places stays k
  tag-form P pc content out w next base cells calls fires ts places stays k (Val-F.Err d) new = writes pc next out w base (errors w d) cells calls fires stays k fires
  tag-form P pc content out w next base cells calls fires ts places stays k (Val-F.Int n) new = writes pc next out w base (errors w _) cells calls fires stays k fires
  tag-form P pc content out w next base cells calls fires ts places stays k (Val-F.Bool v) new = writes pc next out w base (errors w _) cells calls fires stays k fires
  tag-form P pc content out w next base cells calls fires ts places stays k (Val-F.Char n) new = writes pc next out w base (errors w _) cells calls fires stays k fires
  tag-form P pc content out w next base cells calls fires ts places stays k Val-F.Null new = writes pc next out w base (errors w _) cells calls fires stays k fires
  tag-form P pc content out w next base cells calls fires ts places stays k (Val-F.Arr a) new = writes pc next out w base (errors w _) cells calls fires stays k fires
  tag-form P pc content out w next base cells calls fires ts places stays k (Val-F.Rec vs) new = writes pc next out w base (errors w _) cells calls fires stays k fires
  tag-form P pc content out w next base cells calls fires ts places stays k (Val-F.Stream vs) new = writes pc next out w base (errors w _) cells calls fires stays k fires

  -- ---- multiples that are brought on

  written-from : (base to n m : ℕ) (ms more : List Carried) (cells : Cells) → length ms ≡ n → cells_from (write (base + to) (n + m) (ms ++ more) cells) (base + to) n ≡ ms
  written-from base to n m ms more cells e = go n ms (base + to) (λ j lt. write-in (base + to) (n + m) (ms ++ more) cells j (omega (arith, lt)) ∙ get-first ms more j (omega (arith, lt, e))) e
    where
      now : Cells
      now = write (base + to) (n + m) (ms ++ more) cells

      go : (n : ℕ) (ks : List Carried) (b : ℕ) → ((j : ℕ) → j < n → now (b + j) ≡ get_or ks j Unfilled) → length ks ≡ n → cells_from now b n ≡ ks
      go zero [] b h e = refl
      go zero (k ∷ ks) b h e = absurd (omega (arith, e))
      go (suc n) [] b h e = absurd (omega (arith, e))
      go (suc n) (k ∷ ks) b h e =
          ap (λ x. x ∷ cells_from now (suc b) n) (ap now (omega arith) ∙ h 0 (omega arith)) ∙ ap (λ xs. k ∷ xs) (go n ks (suc b) (λ j lt. ap now (omega arith) ∙ h (suc j) (omega (arith, lt))) (omega (arith, e)))

  spread-fine : (pc : ℕ) (froms : List Operand) (cs : List Collect) (to turns out w next base : ℕ) (cells : Cells) (calls : List Frame) (fires : ℕ) → Preserves facts pc (Spread froms cs to turns out w next) → IsKnown facts (at pc base cells calls fires)
      → IsFine facts (spread_to (spreads (first_spoiled (map (look cells base) froms)) (map (look cells base) froms) turns) (map (look cells base) froms) cs to out w next base cells calls fires)
  spread-fine pc froms cs to turns out w next base cells calls fires knows k = go (first_spoiled ms)
    where
      ms : List Carried
      ms = map (look cells base) froms

      n : ℕ
      n = length froms

      e : length ms ≡ n
      e = map-length (look cells base) froms

      first : Cells
      first = write (base + to) (length ms + length cs) (ms ++ nothing_in cs) cells

      now : Cells
      now = write (base + (to + (length ms + length cs))) 1 (counter 0 ∷ []) first

      made-long : are_as_long ms ≡ true → IsTrue base now (AsLong to n)
      made-long long =
          let given : cells_from now (base + to) n ≡ ms =
          same-from now first (base + to) n (λ j lt. write-below (base + (to + (length ms + length cs))) 1 (counter 0 ∷ []) first ((base + to) + j) (omega (arith, lt, e)))
          ∙ (ap (λ x. cells_from (write (base + to) (x + length cs) (ms ++ nothing_in cs) cells) (base + to) n) e ∙ written-from base to n (length cs) ms (nothing_in cs) cells e) in
          subst (λ z. AreLong (places_of z) z) (sym given) (are-long ms long)

      moved : (f : Fact) → IsMoved facts pc froms n to (suc (n + length cs)) f → IsTrue base now f
      moved f m = subst (IsTrue base now) (sym m.8) (true-by base now first (Through (to + m.0) m.2) (λ c t. write-out base (to + (length ms + length cs)) 1 (counter 0 ∷ []) first c (place c t)) was)
        where
          lt : m.0 < n
          lt = m.3

          less : m.0 < length ms
          less = omega (arith, lt, e)

          lower : (c : ℕ) → (c < to) ⊎ (to + suc (n + length cs) ≤ c) → (c < to) ⊎ (to + (length ms + length cs) ≤ c)
          lower c (inl x) = inl x
          lower c (inr x) = inr (omega (arith, x, e))

          was : IsTrue base first (Through (to + m.0) m.2)
          was = written-through to (length ms + length cs) base m.0 (ms ++ nothing_in cs) cells m.2 (cells (base + m.1)) (omega (arith, less))
              (get-first ms (nothing_in cs) m.0 less ∙ (looked-at base cells froms m.0 m.5 ∙ ap (look cells base) m.4)) (read-is pc base cells m.1 m.2 k.here m.6) (λ c u. lower c (m.7 c u))

          higher : (c : ℕ) → (c < to) ⊎ (to + suc (n + length cs) ≤ c) → (c < to + (length ms + length cs)) ⊎ ((to + (length ms + length cs)) + 1 ≤ c)
          higher c (inl x) = inl (omega (arith, x))
          higher c (inr x) = inr (omega (arith, x, e))

          place : (c : ℕ) → Touches (Through (to + m.0) m.2) c → (c < to + (length ms + length cs)) ⊎ ((to + (length ms + length cs)) + 1 ≤ c)
          place c (inl is) = inl (omega (arith, is, less))
          place c (inr u) = higher c (m.7 c u)

      kept : (f : Fact) → Is f (facts pc) × IsApart f to (suc (n + length cs)) → IsTrue base now f
      kept f h = true-by base now cells f (λ c t. one c (h.1 c t)) (pick (IsTrue base cells) f (facts pc) h.0 k.here)
        where
          one : (c : ℕ) → (c < to) ⊎ (to + suc (n + length cs) ≤ c) → now (base + c) ≡ cells (base + c)
          one c (inl lt) = write-out base (to + (length ms + length cs)) 1 (counter 0 ∷ []) first c (inl (omega (arith, lt))) ∙ write-out base to (length ms + length cs) (ms ++ nothing_in cs) cells c (inl lt)
          one c (inr le) = write-out base (to + (length ms + length cs)) 1 (counter 0 ∷ []) first c (inr (omega (arith, le, e))) ∙ write-out base to (length ms + length cs) (ms ++ nothing_in cs) cells c (inr (omega (arith, le, e)))

      either : are_as_long ms ≡ true → (f : Fact) → (f ≡ AsLong to n) ⊎ (IsMoved facts pc froms n to (suc (n + length cs)) f ⊎ Still facts pc to (suc (n + length cs)) f) → IsTrue base now f
      either long f (inl is) = subst (IsTrue base now) (sym is) (made-long long)
      either long f (inr (inl m)) = moved f m
      either long f (inr (inr h)) = kept f h

      by-size : (b : Bool) → are_as_long ms ≡ b → IsFine facts (spread_to (sized b turns) ms cs to out w next base cells calls fires)
      by-size true long = record {
        here = each-of (λ f. (f ≡ AsLong to n) ⊎ (IsMoved facts pc froms n to (suc (n + length cs)) f ⊎ Still facts pc to (suc (n + length cs)) f)) (IsTrue base now) (facts turns) (either long) knows.0;
        waiting = waits-on base calls now first (above base (to + (length ms + length cs)) 1 (counter 0 ∷ []) first) (waits-on base calls first cells (above base to (length ms + length cs) (ms ++ nothing_in cs) cells) k.waiting);
      }
      by-size false long = writes pc next out w base (errors w _) cells calls fires knows.1 k fires

      go : (o : Option Cause) → IsFine facts (spread_to (spreads o ms turns) ms cs to out w next base cells calls fires)
      go (Some c) = writes pc next out w base (errors w c) cells calls fires knows.1 k fires
      go None = by-size (are_as_long ms) refl

  -- ---- elements

  drop-one : (i : ℕ) (vs : List Val) → i < length vs → (v : Val) × (rest : List Val) × (drop i vs ≡ v ∷ rest)
  drop-one i [] lt = absurd (omega (arith, lt))
  drop-one zero (v ∷ vs) lt = (v, vs, refl)
  drop-one (suc i) (v ∷ vs) lt = drop-one i vs (omega (arith, lt))

  one-of : (i k : ℕ) (ms : List Carried) (q : ℕ) → AreLong k ms → i < k → q < length ms → get_or (elements i ms) q Unfilled ≡ element i (get_or ms q Unfilled)
  one-of i k [] q long lt less = absurd (omega (arith, less))
  one-of i k (m ∷ ms) zero long lt less =
      let e = long.0 in
      let x = drop-one i (items m) (omega (arith, e, lt)) in
      ap (λ z. get_or (heads (z ∷ map (drop i) (map items ms))) 0 Unfilled) x.2 ∙ sym (ap (λ z. get_or (heads (z ∷ [])) 0 Unfilled) x.2)
  one-of i k (m ∷ ms) (suc q) long lt less =
      let e = long.0 in
      let x = drop-one i (items m) (omega (arith, e, lt)) in
      ap (λ z. get_or (heads (z ∷ map (drop i) (map items ms))) (suc q) Unfilled) x.2 ∙ one-of i k ms q long.1 lt (omega (arith, less))

  from-length : (cells : Cells) (b n : ℕ) → length (cells_from cells b n) ≡ n
  from-length cells b zero = refl
  from-length cells b (suc n) = ap suc (from-length cells (suc b) n)

  from-at : (cells : Cells) (b n q : ℕ) → q < n → get_or (cells_from cells b n) q Unfilled ≡ cells (b + q)
  from-at cells b zero q lt = absurd (omega (arith, lt))
  from-at cells b (suc n) zero lt = ap cells (omega arith)
  from-at cells b (suc n) (suc q) lt = from-at cells (suc b) n q (omega (arith, lt)) ∙ ap cells (omega arith)

  each-fine : (limit pc n from count turn leave base i : ℕ) (cells : Cells) (calls : List Frame) (fires : ℕ) → Preserves facts pc (Each n from count turn leave) → IsKnown facts (at pc base cells calls fires)
      → IsFine facts (each (ltb i (places_of (cells_from cells (base + from) n))) i (cells_from cells (base + from) n) limit n count turn leave base cells calls fires)
  each-fine limit pc n from count turn leave base i cells calls fires knows k = go (ltb i (places_of ms)) refl
    where
      ms : List Carried
      ms = cells_from cells (base + from) n

      rs : List Carried
      rs = counter (suc i) ∷ elements i ms

      now : Cells
      now = write (base + count) (suc n) rs cells

      New : Fact → Type 0
      New f = (q : ℕ) × (p : Path) × (q < n) × Is (AsLong from n) (facts pc) × IsRead facts pc (from + q) p × LeadsApart p count (suc n) × (f ≡ Through (suc count + q) (Counted p count))

      counted-is : now (base + count) ≡ counter (suc i)
      counted-is = ap now (omega arith) ∙ write-in (base + count) (suc n) rs cells 0 (omega arith)

      one-less : i ≡ suc i - 1
      one-less = omega arith

      element-true : i < places_of ms → (f : Fact) → New f → IsTrue base now f
      element-true lt f x =
          let q = x.0 in
          let p = x.1 in
          let less = x.2 in
          let long = pick (IsTrue base cells) (AsLong from n) (facts pc) x.3 k.here in
          let many = from-length cells (base + from) n in
          subst (IsTrue base now) (sym x.6)
          ((ap now (omega arith) ∙ write-in (base + count) (suc n) rs cells (suc q) (omega (arith, less)))
          ∙ (one-of i (places_of ms) ms q long lt (omega (arith, less, many))
          ∙ (ap (element i) (from-at cells (base + from) n q less ∙ (ap cells (omega arith) ∙ read-is pc base cells (from + q) p k.here x.4))
          ∙ (ap (element i) (sym (through-same base now cells p (λ c u. write-out base count (suc n) rs cells c (x.5 c u))))
          ∙ (ap (λ z. element z (through now base p)) one-less ∙ sym (ap (λ z. element (begun z - 1) (through now base p)) counted-is))))))

      go : (b : Bool) → ltb i (places_of ms) ≡ b → IsFine facts (each b i ms limit n count turn leave base cells calls fires)
      go false e = goes pc leave base cells calls fires knows.1 k fires
      go true e = counted-fine limit fires (λ f. at turn base now calls f) (λ f. writes-new New pc turn count (suc n) base rs cells calls fires (element-true (ltb-true i (places_of ms) e)) knows.0 k f)

  -- ---- calls

  call-fine : (limit pc entry size out w base : ℕ) (args : List Operand) (cells : Cells) (calls : List Frame) (fires : ℕ) → Preserves facts pc (Call entry size args out w) → IsKnown facts (at pc base cells calls fires)
      → (f : ℕ) → IsKnown facts (at entry (base + size) (write (base + size) (length args) (map (look cells base) args) cells) (record { pc = suc pc; base = base; out = out; width = w } ∷ calls) f)
  call-fine limit pc entry size out w base args cells calls fires knows k f =
      let now = write (base + size) (length args) (map (look cells base) args) cells in
      record {
        here = subst (AllOf (IsTrue (base + size) now)) (sym knows.0) tt;
        waiting = (
          omega arith,
          each-of (λ f. Still facts pc out w f × ((c : ℕ) → Touches f c → c < size)) (λ f. IsTrue base now f × IsApart f out w × ((c : ℕ) → Touches f c → base + c < base + size)) (facts (suc pc))
              (λ f x. (
                true-by base now cells f (λ c t. let lt = x.1 c t in write-below (base + size) (length args) (map (look cells base) args) cells (base + c) (omega (arith, lt))) (pick (IsTrue base cells) f (facts pc) x.0.0 k.here),
                x.0.1,
                (λ c t. let lt = x.1 c t in omega (arith, lt)),
              )) knows.1,
          waits-on base calls now cells (above base size (length args) (map (look cells base) args) cells) k.waiting,
        );
      }

  return-fine : (pc base : ℕ) (rs : List Carried) (cells : Cells) (calls : List Frame) (fires : ℕ) → Waits facts base calls cells → IsFine facts (returned rs calls cells fires)
  return-fine pc base rs cells [] fires h = tt
  return-fine pc base rs cells (o ∷ os) fires h =
      record {
        here = each-of (λ f. IsTrue o.base cells f × IsApart f o.out o.width × ((c : ℕ) → Touches f c → o.base + c < base)) (IsTrue o.base (write (o.base + o.out) o.width rs cells)) (facts o.pc)
            (λ f x. true-by o.base (write (o.base + o.out) o.width rs cells) cells f (λ c t. write-out o.base o.out o.width rs cells c (x.1 c t)) x.0) h.1;
        waiting = waits-on o.base os (write (o.base + o.out) o.width rs cells) cells (above o.base o.out o.width rs cells) h.2;
      }

  step-fine : (limit pc base : ℕ) (cells : Cells) (calls : List Frame) (fires : ℕ) (x : Step) → Preserves facts pc x → IsKnown facts (at pc base cells calls fires) → IsFine facts (doing limit x pc base cells calls fires)
  step-fine limit pc base cells calls fires (Fire row shape ins out w) knows k =
      let rs = op row shape (map (look cells base) ins) in
      counted-fine limit fires (λ f. at (suc pc) base (write (base + out) w rs cells) calls f)
      (λ f. writes-new (λ f. (row ≡ simple.AScatter) × IsScattered facts pc ins out w f) pc (suc pc) out w base rs cells calls fires (λ f m. scattered-true f m.0 m.1) knows k f)
    where
      scattered-true : (f : Fact) → row ≡ simple.AScatter → IsScattered facts pc ins out w f → IsTrue base (write (base + out) w (op row shape (map (look cells base) ins)) cells) f
      scattered-true f is m =
          subst (IsTrue base (write (base + out) w (op row shape (map (look cells base) ins)) cells)) (first-place ∙ sym m.6)
          (written-through out w base 0 (op row shape (map (look cells base) ins)) cells (Scattered m.1) (scattered (cells (base + m.0))) m.2
          (ap (λ z. get_or (op z shape (map (look cells base) ins)) 0 Unfilled) is ∙ ap (λ z. get_or (op simple.AScatter shape (map (look cells base) z)) 0 Unfilled) m.3)
          (ap scattered (read-is pc base cells m.0 m.1 k.here m.4)) m.5)
        where
          first-place : Through (out + 0) (Scattered m.1) ≡ Through out (Scattered m.1)
          first-place = let e : out + 0 ≡ out = omega arith in ap (λ z. Through z (Scattered m.1)) e
  step-fine limit pc base cells calls fires Count knows k = counted-fine limit fires (λ f. at (suc pc) base cells calls f) (λ f. goes pc (suc pc) base cells calls fires knows k f)
  step-fine limit pc base cells calls fires (Move froms out w next) knows k =
      let rs = map (look cells base) froms in
      writes-new (IsMoved facts pc froms w out w) pc next out w base rs cells calls fires (moved-true pc w out w base froms rs cells (omega arith) (λ q lt less. refl) k.here) knows k fires
  step-fine limit pc base cells calls fires (Tag union ts out out' w next) knows k =
      tag-form (λ f. (c : ℕ) × (p : Path) × (union ≡ At c) × IsRead facts pc c p × LeadsApart p out 1 × (f ≡ Through out (Content p))) pc out out' w next base cells calls fires ts knows.0 knows.1 k (values.out-Val (val_of (look cells base union)))
      (λ tag v e f m. content-true tag v e f m)
    where
      content-true : (tag : ℕ) (v : Val) → values.out-Val (val_of (look cells base union)) ≡ Val-F.Uni tag v → (f : Fact) → (c : ℕ) × (p : Path) × (union ≡ At c) × IsRead facts pc c p × LeadsApart p out 1 × (f ≡ Through out (Content p))
          → IsTrue base (write (base + out) 1 (Value v ∷ []) cells) f
      content-true tag v e f m =
          subst (IsTrue base (write (base + out) 1 (Value v ∷ []) cells)) (first-place ∙ sym m.5)
          (written-through out 1 base 0 (Value v ∷ []) cells (Content m.1) (Value v) (omega arith) refl
          (sym (ap content_in e) ∙ ap content (ap (look cells base) m.2 ∙ read-is pc base cells m.0 m.1 k.here m.3)) m.4)
        where
          first-place : Through (out + 0) (Content m.1) ≡ Through out (Content m.1)
          first-place = let e : out + 0 ≡ out = omega arith in ap (λ z. Through z (Content m.1)) e
  step-fine limit pc base cells calls fires (Branch sel ts out w next) knows k =
      by-form (λ v. IsFine facts (chosen limit (choice ts v) out w next base cells calls fires)) (branch-form limit pc out w next base cells calls fires ts knows.0 knows.1 k) (val_of (look cells base sel))
  step-fine limit pc base cells calls fires (Test test turn leave out w next) knows k =
      by-form (λ v. IsFine facts (chosen limit (tested_by turn leave v) out w next base cells calls fires)) (test-form limit pc turn leave out w next base cells calls fires knows.0 knows.1 knows.2 k) (val_of (look cells base test))
  step-fine limit pc base cells calls fires (Keep begins cs froms out next) knows k =
      writes pc next out (length froms + length cs) base (map (look cells base) froms ++ put_all cs (map (look cells base) froms) (since begins cs (cells_from cells (base + (out + length froms)) (length cs)))) cells calls fires knows k fires
  step-fine limit pc base cells calls fires (Spread froms cs to turns out w next) knows k = spread-fine pc froms cs to turns out w next base cells calls fires knows k
  step-fine limit pc base cells calls fires (Each n from count turn leave) knows k = each-fine limit pc n from count turn leave base (begun (cells (base + count))) cells calls fires knows k
  step-fine limit pc base cells calls fires (Add cs froms out next) knows k =
      writes pc next out (length cs) base (put_all cs (map (look cells base) froms) (cells_from cells (base + out) (length cs))) cells calls fires knows k fires
  step-fine limit pc base cells calls fires (Call entry size args out w) knows k =
      counted-fine limit fires (λ f. at entry (base + size) (write (base + size) (length args) (map (look cells base) args) cells) (record { pc = suc pc; base = base; out = out; width = w } ∷ calls) f)
      (λ f. call-fine limit pc entry size out w base args cells calls fires knows k f)
  step-fine limit pc base cells calls fires (Return froms) knows k = return-fine pc base (map (look cells base) froms) cells calls fires k.waiting

pub stays-known : StaysTrue
stays-known facts limit code knows s k = step-fine facts limit s.pc s.base s.cells s.calls s.fires (code s.pc) (knows s.pc) k
