-- A machine on a block that stands alone is never stuck where no step takes what the block is lent. In blocks of calls, as of the same
-- function once more, steps take what is owned there.
use Rattle.std.proofs.Common.{◌≡◌, ℕ, zero, suc, ◌+◌, ◌<◌, ◌≤◌, ◌⊎◌, ◌&&◌, inl, inr, Bool, true, false, if◌then◌else◌, eqb, leb, ltb, List, [], ◌∷◌, length, get_or, refl, sym, ap, ◌∙◌, subst, arith}
use Rattle.std.proofs.lemmas.Bool.{eqb-false, le-leb, leb-true, ltb-false, ltb-true}
use Rattle.graph_meaning.specs.Carried.{Carried, Unfilled}
use Rattle.run_code.specs.Cells.{At, Lit, Operand}
use Rattle.run_code.specs.Machine.{Frame, Weigh}
use Rattle.run_code.specs.Steps.{Add, Branch, Call, Count, Each, Fire, Keep, Move, Return, Spread, Step, Tag, Test}
use Rattle.run_store.proofs.Fitting.{all-below, cleared-below, puts-below, set-here}
use Rattle.run_store.proofs.Refining.{Calling, Leaving, Writing, kinds}
use Rattle.run_store.proofs.Supply.{does-safe}
use Rattle.run_store.specs.Effects.{Enters, Writes, effect, reads_of}
use Rattle.run_store.specs.Lively.{AllMayBe, AreWaiting, CallsLively, Follows, IsGiven, IsLive, IsLively, IsSafe, IsSupplied, Live, MayBe, Returns}
use Rattle.run_store.specs.Refines.{IsTaken}
use Rattle.run_store.specs.Stored.{AtLimit, Cell, Copies, CopiesOf, Gift, Hand, Handling, Heap, Looks, LooksAt, Mode, Onward, Owns, Stored, StoredOutcome, Takes, all_kept, apply_stored, are_ready, cleared, copied_by_step, counted_stored, doing_stored, hand_in, handed, is_full, is_owner, is_plain, looked_lent, mode_at, on, placed, put_from, returned_stored, seen, seen_all, set, tail, taken, unless_plain, where_ready}
use Rattle.run_ranges.proofs.Owners.{LeadsOnlyTo, puts-before}
use Rattle.run_code.specs.Coded.{Layout}
use Rattle.run_store.specs.Whole.{StopsStored}
use Rattle.run_ranges.specs.Alone.{AreRangesAloneDecided, IsSuppliedAlone, collections_at, only_from}
use Rattle.run_ranges.specs.Owned.{ComesFirst, StandsBefore}
use Rattle.run_ranges.specs.Ranges.{ForAllAt, iterations}
use Rattle.run_ranges.proofs.Meeting.{decided-by}

-- ---- what is put

-- a test that owners pass
abbrev IsTest : (Cell → Bool) → Type 0
IsTest test = (c : Carried) → test (Owns c) ≡ true

module _ (test : Cell → Bool) (is : IsTest test) where
  put-passes : (out i w : ℕ) (rs : List Carried) (h : Heap) (j : ℕ) → ((out + i ≤ j) × (j < (out + i) + w)) ⊎ (test (h j) ≡ true) → test (put_from all_kept out i w [] rs h j) ≡ true
  put-passes out i zero rs h j (inl x) = let a = x.0 in let b = x.1 in absurd (omega (arith, a, b))
  put-passes out i zero rs h j (inr t) = t
  put-passes out i (suc w) rs h j f = go (eqb j (out + i)) refl f (put-passes out (suc i) w rs (set (out + i) (Owns (get_or rs i Unfilled)) h) j)
    where
      c : Cell
      c = Owns (get_or rs i Unfilled)

      past : (b : Bool) → ltb (out + i) j ≡ b → (j ≡ out + i → ⊥) → out + i ≤ j → out + suc i ≤ j
      past true e n le = let lt = ltb-true (out + i) j e in omega (arith, lt)
      past false e n le = let up = ltb-false (out + i) j e in absurd (n (omega (arith, up, le)))

      go : (b : Bool) → eqb j (out + i) ≡ b → ((out + i ≤ j) × (j < (out + i) + suc w)) ⊎ (test (h j) ≡ true)
          → (((out + suc i ≤ j) × (j < (out + suc i) + w)) ⊎ (test (set (out + i) c h j) ≡ true) → test (put_from all_kept out (suc i) w [] rs (set (out + i) c h) j) ≡ true)
          → test (put_from all_kept out (suc i) w [] rs (set (out + i) c h) j) ≡ true
      go true e f then₁ = then₁ (inr (ap (λ b. test (if b then c else h j)) e ∙ is (get_or rs i Unfilled)))
      go false e (inr t) then₁ = then₁ (inr (ap (λ b. test (if b then c else h j)) e ∙ t))
      go false e (inl x) then₁ = let b = x.1 in then₁ (inl (past (ltb (out + i) j) refl (eqb-false j (out + i) e) x.0, omega (arith, b)))

-- what is given is owned where it is put
gift-owned : (out k w : ℕ) (hands : List Hand) (rs : List Carried) (h : Heap) (i : ℕ) → i < w → get_or hands i Gift ≡ Gift → is_owner (put_from all_kept out k w hands rs h (out + (k + i))) ≡ true
gift-owned out k zero hands rs h i lt e = absurd (omega (arith, lt))
gift-owned out k (suc w) hands rs h zero lt e =
    let c = placed true (hand_in hands) (get_or rs k Unfilled) in
    ap is_owner (puts-before all_kept out (suc k) w (tail hands) rs (set (out + k) c h) (out + (k + 0)) (omega arith) ∙ (ap (set (out + k) c h) (omega arith) ∙ set-here (out + k) c h))
    ∙ ap (λ o. is_owner (placed true o (get_or rs k Unfilled))) (first hands e)
  where
    first : (hands : List Hand) → get_or hands 0 Gift ≡ Gift → hand_in hands ≡ Gift
    first [] e = refl
    first (o ∷ os) e = e
gift-owned out k (suc w) hands rs h (suc i) lt e =
    let c = placed true (hand_in hands) (get_or rs k Unfilled) in
    ap (λ j. is_owner (put_from all_kept out (suc k) w (tail hands) rs (set (out + k) c h) j)) (omega arith) ∙ gift-owned out (suc k) w (tail hands) rs (set (out + k) c h) i (omega (arith, lt)) (later hands e)
  where
    later : (hands : List Hand) → get_or hands (suc i) Gift ≡ Gift → get_or (tail hands) i Gift ≡ Gift
    later [] e = refl
    later (o ∷ os) e = e

given-gift : (h : Heap) (base : ℕ) (ms : List Mode) (args : List Operand) (i : ℕ) → IsGiven (get_or ms i Looks) → get_or (handed h base ms args) i Gift ≡ Gift
given-gift h base ms [] i g = refl
given-gift h base [] (a ∷ args) i g = absurd g
given-gift h base (m ∷ ms) (a ∷ args) (suc i) g = given-gift h base ms args i g
given-gift h base (m ∷ ms) (a ∷ args) zero g = plainly (is_plain (seen h base m a)) (looked_lent h base m a) (none m g)
  where
    none : (m : Mode) → IsGiven m → looked_lent h base m a ≡ Gift
    none Looks g = absurd g
    none (LooksAt p) g = absurd g
    none Copies g = refl
    none Takes g = refl
    none (CopiesOf p) g = refl

    plainly : (b : Bool) (o : Hand) → o ≡ Gift → unless_plain b o ≡ Gift
    plainly true o e = refl
    plainly false o e = e

-- ---- which cells pass, by the open calls

-- where each open call goes on, these cells pass the test, but for what the call gives
abbrev pub AllWait : (Cell → Bool) → (List Frame → Live) → (base : ℕ) → List Frame → Heap → Type 0
AllWait test some base [] h = Unit {0}
AllWait test some base (o ∷ os) h =
    (o.base ≤ base) × ((i : ℕ) → IsLive (some os) o.pc i → ((o.out ≤ i) × (i < o.out + o.width)) ⊎ ((o.base + i < base) × (test (h (o.base + i)) ≡ true))) × AllWait test some o.base os h

pub record AllPass (test : Cell → Bool) (some : List Frame → Live) (pc base : ℕ) (h : Heap) (calls : List Frame) : Type 0 where
  pub here : (i : ℕ) → IsLive (some calls) pc i → test (h (base + i)) ≡ true
  pub waiting : AllWait test some base calls h

module _ (test : Cell → Bool) (is : IsTest test) (some : List Frame → Live) where
  wait-as : (base : ℕ) (calls : List Frame) (now old : Heap) → ((j : ℕ) → j < base → now j ≡ old j) → AllWait test some base calls old → AllWait test some base calls now
  wait-as base [] now old same w = tt
  wait-as base (o ∷ os) now old same w = let le = w.0 in (w.0, (λ i l. go i (w.1 i l)), wait-as o.base os now old (λ j lt. same j (omega (arith, lt, le))) w.2)
    where
      go : (i : ℕ) → ((o.out ≤ i) × (i < o.out + o.width)) ⊎ ((o.base + i < base) × (test (old (o.base + i)) ≡ true)) → ((o.out ≤ i) × (i < o.out + o.width)) ⊎ ((o.base + i < base) × (test (now (o.base + i)) ≡ true))
      go i (inl x) = inl x
      go i (inr x) = inr (x.0, ap test (same (o.base + i) x.0) ∙ x.1)

  -- where a block was left
  return-passes : (base : ℕ) (h gone : Heap) (o : Frame) (os : List Frame) (rs : List Carried) → ((j : ℕ) → j < base → gone j ≡ h j) → AllWait test some base (o ∷ os) h
      → AllPass test some o.pc o.base (put_from all_kept (o.base + o.out) 0 o.width [] rs gone) os
  return-passes base h gone o os rs same w =
      let le = w.0 in
      record {
        here = λ i l. put-passes test is (o.base + o.out) 0 o.width rs gone (o.base + i) (go i (w.1 i l));
        waiting = wait-as o.base os (put_from all_kept (o.base + o.out) 0 o.width [] rs gone) h (λ j lt. puts-below all_kept (o.base + o.out) 0 o.width [] rs gone j (omega (arith, lt)) ∙ same j (omega (arith, lt, le))) w.2;
      }
    where
      go : (i : ℕ) → ((o.out ≤ i) × (i < o.out + o.width)) ⊎ ((o.base + i < base) × (test (h (o.base + i)) ≡ true))
          → (((o.base + o.out) + 0 ≤ o.base + i) × (o.base + i < ((o.base + o.out) + 0) + o.width)) ⊎ (test (gone (o.base + i)) ≡ true)
      go i (inl x) = let a = x.0 in let b = x.1 in inl (omega (arith, a), omega (arith, b))
      go i (inr x) = inr (ap test (same (o.base + i) x.0) ∙ x.1)

-- ---- one step

both-of : (a b : Bool) → a && b ≡ true → (a ≡ true) × (b ≡ true)
both-of true true e = (refl, refl)
both-of true false e = absurd cc
both-of false b e = absurd cc

and-of : (a b : Bool) → a ≡ true → b ≡ true → a && b ≡ true
and-of true true e f = refl
and-of true false e f = absurd cc
and-of false b e f = absurd cc

module _ (live own : Live) (low : ℕ) where
  -- in the block that stands alone only cells from one on are owned
  abbrev pub owned : List Frame → Live
  owned [] = only_from low own
  owned (o ∷ os) = own

  abbrev pub lives : List Frame → Live
  lives calls = live

  pub record IsFed (s : Stored) : Type 0 where
    pub full : AllPass is_full lives s.pc s.base s.heap s.calls
    pub owns : AllPass is_owner owned s.pc s.base s.heap s.calls

  pub fed-of : (s : Stored) → s.calls ≡ [] → IsSupplied live (only_from low own) s → IsFed s
  fed-of s none h =
      let full = h.full in
      let mine = h.owned in
      record {
        full = record { here = full.here; waiting = subst (λ z. AllWait is_full lives s.base z s.heap) (sym none) tt };
        owns = record { here = subst (λ z. (i : ℕ) → IsLive (owned z) s.pc i → is_owner (s.heap (s.base + i)) ≡ true) (sym none) mine.here; waiting = subst (λ z. AllWait is_owner owned s.base z s.heap) (sym none) tt };
      }

  pub supplied-of : (s : Stored) → s.calls ≡ [] → IsFed s → IsSupplied live (only_from low own) s
  supplied-of s none h =
      let full = h.full in
      let mine = h.owns in
      record {
        full = record { here = full.here; waiting = subst (λ z. AreWaiting is_full live s.base z s.heap) (sym none) tt };
        owned = record { here = subst (λ z. (i : ℕ) → IsLive (owned z) s.pc i → is_owner (s.heap (s.base + i)) ≡ true) none mine.here; waiting = subst (λ z. AreWaiting is_owner (only_from low own) s.base z s.heap) (sym none) tt };
      }

  only : (pc i : ℕ) → IsLive (only_from low own) pc i → (low ≤ i) × IsLive own pc i
  only pc i l = let b = both-of (leb low i) (own pc i) l in (leb-true low i b.0, b.1)

  as-only : (pc i : ℕ) → low ≤ i → IsLive own pc i → IsLive (only_from low own) pc i
  as-only pc i le l = and-of (leb low i) (own pc i) (le-leb low i le) l

  -- ---- what is asked of a step

  may-be : (pc : ℕ) (m : Mode) (a : Operand) → ((i : ℕ) → m ≡ Takes → a ≡ At i → low ≤ i) → MayBe live own pc m a → MayBe live (only_from low own) pc m a
  may-be pc (LooksAt p) a above l = l
  may-be pc (CopiesOf p) a above l = l
  may-be pc Looks (At i) above l = l
  may-be pc Copies (At i) above l = l
  may-be pc Takes (At i) above l = as-only pc i (above i refl refl) l
  may-be pc Looks (Lit c) above l = tt
  may-be pc Copies (Lit c) above l = tt
  may-be pc Takes (Lit c) above l = tt

  all-may-be : (pc : ℕ) (ms : List Mode) (args : List Operand) → ((i : ℕ) → IsTaken ms args i → low ≤ i) → AllMayBe live own pc ms args → AllMayBe live (only_from low own) pc ms args
  all-may-be pc ms [] above l = tt
  all-may-be pc ms (a ∷ args) above l = (may-be pc (mode_at ms) a (λ i e f. above i (inl (e, f))) l.0, all-may-be pc (tail ms) args (λ i h. above i (inr h)) l.1)

  follows-only : (H : Handling) (args : List Operand) (pc next out w : ℕ) → Follows own H args pc next out w → Follows (only_from low own) H args pc next out w
  follows-only H args pc next out w f i l = let b = only next i l in go b.0 (f i b.1)
    where
      go : low ≤ i → ((out ≤ i) × (i < out + w) × (H.keeps i ≡ true)) ⊎ (IsLive own pc i × (IsTaken H.modes args i → ⊥) × ((i < out) ⊎ (out + w ≤ i)))
          → ((out ≤ i) × (i < out + w) × (H.keeps i ≡ true)) ⊎ (IsLive (only_from low own) pc i × (IsTaken H.modes args i → ⊥) × ((i < out) ⊎ (out + w ≤ i)))
      go le (inl x) = inl x
      go le (inr x) = inr (as-only pc i le x.0, x.1, x.2)

  returns-only : (H : Handling) (args : List Operand) (pc size out w : ℕ) → Returns own H args pc size out w → Returns (only_from low own) H args pc size out w
  returns-only H args pc size out w f i l = let b = only (suc pc) i l in go b.0 (f i b.1)
    where
      go : low ≤ i → ((out ≤ i) × (i < out + w)) ⊎ (IsLive own pc i × (IsTaken H.modes args i → ⊥) × (i < size)) → ((out ≤ i) × (i < out + w)) ⊎ (IsLive (only_from low own) pc i × (IsTaken H.modes args i → ⊥) × (i < size))
      go le (inl x) = inl x
      go le (inr x) = inr (as-only pc i le x.0, x.1, x.2)

  calls-only : (H : Handling) (pc : ℕ) (x : Step) → CallsLively live own H pc x → CallsLively live (only_from low own) H pc x
  calls-only H pc (Call entry size args out w) l = (l.0, λ i z. l.1 i (only entry i z).1, l.2, returns-only H args pc size out w l.3)
  calls-only H pc (Fire row shape ins out w) l = tt
  calls-only H pc Count l = tt
  calls-only H pc (Move froms out w next) l = tt
  calls-only H pc (Tag union ts content out w next) l = tt
  calls-only H pc (Branch sel ts out w next) l = tt
  calls-only H pc (Test test turn leave out w next) l = tt
  calls-only H pc (Keep begins cs froms out next) l = tt
  calls-only H pc (Spread froms cs to turns out w next) l = tt
  calls-only H pc (Each n from count turn leave) l = tt
  calls-only H pc (Add cs froms out next) l = tt
  calls-only H pc (Return froms) l = tt

  lively-only : (H : Handling) (pc : ℕ) (x : Step) → ((i : ℕ) → IsTaken H.modes (reads_of x) i → low ≤ i) → IsLively live own H pc x → IsLively live (only_from low own) H pc x
  lively-only H pc x above l =
      record {
        reads = all-may-be pc H.modes (reads_of x) above l.reads;
        leads_on = λ next out w h. let f = l.leads_on next out w h in (f.0, follows-only H (reads_of x) pc next out w f.1);
        calls = calls-only H pc x l.calls;
      }

  lively-on : (H : Handling) (pc : ℕ) (x : Step) (calls : List Frame) → (calls ≡ [] → (i : ℕ) → IsTaken H.modes (reads_of x) i → low ≤ i) → IsLively live own H pc x → IsLively live (owned calls) H pc x
  lively-on H pc x [] above l = lively-only H pc x (above refl) l
  lively-on H pc x (o ∷ os) above l = l

  -- ---- one step

  abbrev IsSafeFed : StoredOutcome → Type 0
  IsSafeFed t = LeadsOnlyTo IsFed t

  counts-fed : (some : Live) (c : Bool) (limit fires : ℕ) (f g : ℕ → Stored) → ((n : ℕ) → IsSupplied live some (f n) → IsFed (g n)) → IsSafe live some (counted_stored c limit fires (λ n. Onward (f n))) → IsSafeFed (counted_stored c limit fires (λ n. Onward (g n)))
  counts-fed some false limit fires f g fed s = fed fires s
  counts-fed some true limit fires f g fed s = go (ltb fires limit) s
    where
      go : (b : Bool) → IsSafe live some (if b then Onward (f (suc fires)) else AtLimit) → IsSafeFed (if b then Onward (g (suc fires)) else AtLimit)
      go true s = fed (suc fires) s
      go false s = tt

  ready-of : (some : Live) (b : Bool) (t : StoredOutcome) → IsSafe live some (where_ready b t) → (b ≡ true) × IsSafe live some t
  ready-of some true t h = (refl, h)
  ready-of some false t h = absurd h

  module _ (weigh : Weigh) (limit pc base : ℕ) (h : Heap) (calls : List Frame) (fires copies : ℕ) (H : Handling) (x : Step) (lively : IsLively live own H pc x)
      (above : calls ≡ [] → (i : ℕ) → IsTaken H.modes (reads_of x) i → low ≤ i) (fed : IsFed (on pc base h calls fires copies)) where
    abbrev ks : List Carried
    ks = seen_all h base H.modes (reads_of x)

    abbrev n : ℕ
    n = copies + copied_by_step weigh x pc H ks (effect x pc ks)

    abbrev hands : List Hand
    hands = handed h base H.modes (reads_of x)

    abbrev left : Heap
    left = taken base H.modes (reads_of x) h

    abbrev full : AllPass is_full lives pc base h calls
    full = fed.full

    abbrev mine : AllPass is_owner owned pc base h calls
    mine = fed.owns

    -- as if no call were open
    bare : IsSafe live (owned calls) (doing_stored weigh limit x H pc base h [] fires copies)
    bare = does-safe live (owned calls) weigh limit pc base h [] fires copies H (record { here = full.here; waiting = tt }) (record { here = mine.here; waiting = tt }) x (lively-on H pc x calls above lively)

    ready : (are_ready h base H.modes (reads_of x) ≡ true) × IsSafe live (owned calls) (apply_stored limit (effect x pc ks) H.keeps hands pc base left [] fires n)
    ready = ready-of (owned calls) (are_ready h base H.modes (reads_of x)) (apply_stored limit (effect x pc ks) H.keeps hands pc base left [] fires n) bare

    left-below : (j : ℕ) → j < base → left j ≡ h j
    left-below j lt = all-below base H.modes (reads_of x) h j lt

    -- behind a step that writes
    wrote : (c : Bool) (next out w : ℕ) (rs : List Carried) → effect x pc ks ≡ Writes c next out w rs → IsSafeFed (apply_stored limit (Writes c next out w rs) H.keeps hands pc base left calls fires n)
    wrote c next out w rs e =
        counts-fed (owned calls) c limit fires (λ f. on next base now [] f n) (λ f. on next base now calls f n) (λ f s. let a = s.full in let b = s.owned in record {
          full = record { here = a.here; waiting = wait-as is_full (λ c. refl) lives base calls now h same full.waiting };
          owns = record { here = b.here; waiting = wait-as is_owner (λ c. refl) owned base calls now h same mine.waiting };
        }) (subst (λ z. IsSafe live (owned calls) (apply_stored limit z H.keeps hands pc base left [] fires n)) e ready.1)
      where
        now : Heap
        now = put_from (λ i. H.keeps (out + i)) (base + out) 0 w [] rs left

        same : (j : ℕ) → j < base → now j ≡ h j
        same j lt = puts-below (λ i. H.keeps (out + i)) (base + out) 0 w [] rs left j (omega (arith, lt)) ∙ left-below j lt

    -- in a called block all is there that it owns
    called : (entry size : ℕ) (args : List Operand) (out w : ℕ) → x ≡ Call entry size args out w → IsSafeFed (apply_stored limit (Enters entry size out w ks) H.keeps hands pc base left calls fires n)
    called entry size args out w is =
        counts-fed (owned calls) true limit fires (λ f. on entry (base + size) now (o ∷ []) f n) (λ f. on entry (base + size) now (o ∷ calls) f n) (λ f s. let a = s.full in let b = s.owned in let u = a.waiting in let v = b.waiting in record {
          full = record { here = a.here; waiting = (u.0, u.1, wait-as is_full (λ c. refl) lives base calls now h same full.waiting) };
          owns = record { here = inside; waiting = (v.0, v.1, wait-as is_owner (λ c. refl) owned base calls now h same mine.waiting) };
        }) (subst (λ z. IsSafe live (owned calls) (apply_stored limit (effect z pc ks) H.keeps hands pc base left [] fires n)) is ready.1)
      where
        o : Frame
        o = record { pc = suc pc; base = base; out = out; width = w }

        now : Heap
        now = put_from all_kept (base + size) 0 (length ks) hands ks left

        same : (j : ℕ) → j < base → now j ≡ h j
        same j lt = puts-below all_kept (base + size) 0 (length ks) hands ks left j (omega (arith, lt)) ∙ left-below j lt

        inside : (i : ℕ) → IsLive own entry i → is_owner (now ((base + size) + i)) ≡ true
        inside i l =
            let c = subst (CallsLively live own H pc) is lively.calls in
            let g = c.1 i l in
            let few : i < length ks = subst (λ z. i < z) (as-many H.modes (reads_of x)) (subst (λ z. i < length (reads_of z)) (sym is) g.0) in
            ap (λ j. is_owner (now ((base + size) + j))) (omega arith) ∙ gift-owned (base + size) 0 (length ks) hands ks left i few (given-gift h base H.modes (reads_of x) i g.1)
          where
            as-many : (ms : List Mode) (args : List Operand) → length args ≡ length (seen_all h base ms args)
            as-many ms [] = refl
            as-many ms (a ∷ args) = ap suc (as-many (tail ms) args)

    -- where a block is left, the one below is as it was
    returns : (os : List Frame) → AllWait is_full lives base os h → AllWait is_owner owned base os h → IsSafeFed (returned_stored ks os (cleared base left) fires n)
    returns [] a b = tt
    returns (o ∷ os) a b =
        record {
          full = return-passes is_full (λ c. refl) lives base h (cleared base left) o os ks same a;
          owns = return-passes is_owner (λ c. refl) owned base h (cleared base left) o os ks same b;
        }
      where
        same : (j : ℕ) → j < base → cleared base left j ≡ h j
        same j lt = cleared-below base left j lt ∙ left-below j lt

    pub step-fed : IsSafeFed (doing_stored weigh limit x H pc base h calls fires copies)
    step-fed =
        subst (λ b. IsSafeFed (where_ready b (apply_stored limit (effect x pc ks) H.keeps hands pc base left calls fires n))) (sym ready.0) (by-kind (kinds x pc ks))
      where
        by-kind : Writing x pc ks ⊎ (Calling x ⊎ Leaving x) → IsSafeFed (apply_stored limit (effect x pc ks) H.keeps hands pc base left calls fires n)
        by-kind (inl y) = subst (λ z. IsSafeFed (apply_stored limit z H.keeps hands pc base left calls fires n)) (sym y.5) (wrote y.0 y.1 y.2 y.3 y.4 y.5)
        by-kind (inr (inl y)) = subst (λ z. IsSafeFed (apply_stored limit (effect z pc ks) H.keeps hands pc base left calls fires n)) (sym y.5) (called y.0 y.1 y.2 y.3 y.4 y.5)
        by-kind (inr (inr y)) = subst (λ z. IsSafeFed (apply_stored limit (effect z pc ks) H.keeps hands pc base left calls fires n)) (sym y.1) (returns calls full.waiting mine.waiting)

-- ---- the laws

came-supplied : (X : Layout) (f : ForAllAt X) (handling : ℕ → Handling) (live own : Live) (limit base last cost : ℕ) (s : Stored)
    → (let low = collections_at (iterations X f) in ((t : Stored) × ComesFirst X f handling limit base last s t × StandsBefore X f base last t × IsFed live own low t) ⊎ (StopsStored X handling limit s × (limit < cost))
    → ((t : Stored) × ComesFirst X f handling limit base last s t × StandsBefore X f base last t × IsSuppliedAlone live own (iterations X f) t) ⊎ (StopsStored X handling limit s × (limit < cost)))
came-supplied X f handling live own limit base last cost s (inl h) = let stood = h.2 in inl (h.0, h.1, h.2, supplied-of live own (collections_at (iterations X f)) h.0 stood.calls_are h.3)
came-supplied X f handling live own limit base last cost s (inr h) = inr h

pub ranges-alone-decided : AreRangesAloneDecided
ranges-alone-decided p X handling facts live own limit is orderly inorder f apart above keeps base s ks ms cols i k has supplied long full results cost rows =
    let low = collections_at (iterations X f) in
    let stood = has.stands in
    came-supplied X f handling live own limit base (i + k) (s.fires + cost) s
    (decided-by (IsFed live own low) p X handling facts live own limit is orderly inorder f apart keeps
    (λ z r among fed.
    step-fed live own low X.weigh z r.pc r.base r.heap r.calls r.fires r.copies (handling r.pc) (X.code r.pc) (is.lively r.pc) (λ none j taken. let a = among none in above r.pc j a.0 a.1 taken) fed)
    base s ks ms cols i k has (fed-of live own low s stood.calls_are supplied) long full results cost rows)
