-- No step reads a cell that is empty, and none takes what is lent.
use Rattle.std.proofs.Common.{◌≡◌, ℕ, zero, suc, ◌+◌, ◌-◌, ◌<◌, ◌≤◌, ◌⊎◌, ◌&&◌, inl, inr, Bool, true, false, if◌then◌else◌, List, [], ◌∷◌, length, get_or, refl, sym, ap, ◌∙◌, subst, arith, ltb, leb, eqb}
use Rattle.std.proofs.lemmas.Bool.{lt-leb, leb-true, leb-false, eq-eqb, ne_eqb, ltb-true, ltb-false}
use Rattle.graph_meaning.specs.Carried.{Carried, Unfilled}
use Rattle.run_laws.specs.Cells.{Operand, At, Lit}
use Rattle.run_laws.specs.Machine.{Frame, Weigh}
use Rattle.run_laws.specs.Steps.{Step, Call}
use Rattle.run_laws.specs.Facts.{Path, Here, Scattered, Content, Counted, Uses}
use Rattle.run_store.specs.Effects.{reads_of, Enters, effect}
use Rattle.run_store.specs.Stored.{Cell, Empty, Owns, Refers, Heap, Mode, Looks, Copies, Takes, LooksAt, CopiesOf, mode_at, tail, set, Handling, is_open, seen, seen_all, Hand, Gift, Loan, is_plain, unless_plain, looked_lent, handed, taken, cleared, placed, hand_in, put_from, all_kept, copied_by_step, Stored, Onward, AtLimit, on, is_full, is_owner, can_be, are_ready, where_ready, counted_stored, returned_stored, apply_stored, doing_stored}
use Rattle.run_store.specs.Refines.{IsTaken}
use Rattle.run_store.specs.Lively.{Live, IsLive, MayBe, AllMayBe, Follows, Returns, IsGiven, CallsLively, IsLively, AreWaiting, ArePassed, IsSupplied, IsSafe, IsNeverStuck}
use Rattle.run_store.proofs.Effects.{do-lead}
use Rattle.run_store.proofs.Fitting.{all-below, untaken}
use Rattle.run_store.proofs.Refining.{Writing, Calling, Leaving, kinds}

-- ---- what is put passes a test, and nothing else is emptied

-- a test that owners pass
abbrev IsTest : (Cell → Bool) → Type 0
IsTest test = (c : Carried) → test (Owns c) ≡ true

full-test : IsTest is_full
full-test c = refl

owner-test : IsTest is_owner
owner-test c = refl

-- what is handed over passes where it is put
abbrev IsFine : (Cell → Bool) → Hand → Type 0
IsFine test Gift = Unit {0}
IsFine test (Loan j v) = test (Refers j v) ≡ true

module _ (test : Cell → Bool) (is : IsTest test) where
  set-passes : (i : ℕ) (c : Cell) (h : Heap) (j : ℕ) → ((eqb j i ≡ true) × (test c ≡ true)) ⊎ ((eqb j i ≡ false) × (test (h j) ≡ true)) → test (set i c h j) ≡ true
  set-passes i c h j (inl x) = ap (λ b. test (if b then c else h j)) x.0 ∙ x.1
  set-passes i c h j (inr x) = ap (λ b. test (if b then c else h j)) x.0 ∙ x.1

  placed-passes : (o : Hand) (v : Carried) (keep : Bool) → keep ≡ true → IsFine test o → test (placed keep o v) ≡ true
  placed-passes o v false e f = absurd cc
  placed-passes Gift v true e f = is v
  placed-passes (Loan j w) v true e f = f

  -- a cell that is one of so many from a place on and kept, or another that passed
  abbrev PutOrPassed : (ℕ → Bool) → ℕ → ℕ → ℕ → List Hand → Heap → ℕ → Type 0
  PutOrPassed keeps out i w hands h j =
      ((p : ℕ) × (p < w) × (j ≡ out + (i + p)) × (keeps (i + p) ≡ true) × IsFine test (get_or hands p Gift)) ⊎ (((j < out + i) ⊎ (out + (i + w) ≤ j)) × (test (h j) ≡ true))

  puts-pass : (keeps : ℕ → Bool) (out i w : ℕ) (hands : List Hand) (rs : List Carried) (h : Heap) (j : ℕ) → PutOrPassed keeps out i w hands h j → test (put_from keeps out i w hands rs h j) ≡ true
  puts-pass keeps out i zero hands rs h j (inl x) = let lt = x.1 in absurd (omega (arith, lt))
  puts-pass keeps out i zero hands rs h j (inr x) = x.1
  puts-pass keeps out i (suc w) hands rs h j f = puts-pass keeps out (suc i) w (tail hands) rs (set (out + i) c h) j (go f)
    where
      c : Cell
      c = placed (keeps i) (hand_in hands) (get_or rs i Unfilled)

      fine-first : (hands : List Hand) → IsFine test (get_or hands 0 Gift) → IsFine test (hand_in hands)
      fine-first [] f = f
      fine-first (o ∷ os) f = f

      fine-later : (hands : List Hand) (p : ℕ) → IsFine test (get_or hands (suc p) Gift) → IsFine test (get_or (tail hands) p Gift)
      fine-later [] p f = f
      fine-later (o ∷ os) p f = f

      at-first : j ≡ out + (i + 0) → keeps (i + 0) ≡ true → IsFine test (hand_in hands) → PutOrPassed keeps out (suc i) w (tail hands) (set (out + i) c h) j
      at-first e k f =
          inr (inl (omega (arith, e)), set-passes (out + i) c h j (inl (eq-eqb j (out + i) (omega (arith, e)), placed-passes (hand_in hands) (get_or rs i Unfilled) (keeps i) (ap keeps (omega arith) ∙ k) f)))

      go : PutOrPassed keeps out i (suc w) hands h j → PutOrPassed keeps out (suc i) w (tail hands) (set (out + i) c h) j
      go (inl (zero, lt, e, k, f)) = at-first e k (fine-first hands f)
      go (inl (suc p, lt, e, k, f)) = inl (p, omega (arith, lt), omega (arith, e), ap keeps (omega arith) ∙ k, fine-later hands p f)
      go (inr (inl a, t)) = inr (inl (omega (arith, a)), set-passes (out + i) c h j (inr (ne_eqb j (out + i) (λ e. absurd (omega (arith, e, a))), t)))
      go (inr (inr a, t)) = inr (inr (omega (arith, a)), set-passes (out + i) c h j (inr (ne_eqb j (out + i) (λ e. absurd (omega (arith, e, a))), t)))

  -- from the first of the list on
  put-passes : (keeps : ℕ → Bool) (out w : ℕ) (hands : List Hand) (rs : List Carried) (h : Heap) (j p : ℕ) → p < w → j ≡ out + p → keeps p ≡ true → IsFine test (get_or hands p Gift) → test (put_from keeps out 0 w hands rs h j) ≡ true
  put-passes keeps out w hands rs h j p lt e k f = puts-pass keeps out 0 w hands rs h j (inl (p, lt, omega (arith, e), ap keeps (omega arith) ∙ k, f))

  other-passes : (keeps : ℕ → Bool) (out w : ℕ) (hands : List Hand) (rs : List Carried) (h : Heap) (j : ℕ) → (j < out) ⊎ (out + w ≤ j) → test (h j) ≡ true → test (put_from keeps out 0 w hands rs h j) ≡ true
  other-passes keeps out w hands rs h j (inl a) t = puts-pass keeps out 0 w hands rs h j (inr (inl (omega (arith, a)), t))
  other-passes keeps out w hands rs h j (inr a) t = puts-pass keeps out 0 w hands rs h j (inr (inr (omega (arith, a)), t))

  -- where all is kept, a cell that passed passes
  kept-passes : (out w : ℕ) (hands : List Hand) (rs : List Carried) (h : Heap) (j : ℕ) → ((p : ℕ) → IsFine test (get_or hands p Gift)) → ((out ≤ j) × (j < out + w)) ⊎ (test (h j) ≡ true) → test (put_from all_kept out 0 w hands rs h j) ≡ true
  kept-passes out w hands rs h j fine (inl x) =
      let a = x.0 in
      let b = x.1 in
      let p = j - out in
      put-passes all_kept out w hands rs h j p (omega (arith, a, b)) (omega (arith, a, b)) refl (fine p)
  kept-passes out w hands rs h j fine (inr t) = go (leb out j) refl (ltb j (out + w)) refl
    where
      go : (a : Bool) → leb out j ≡ a → (b : Bool) → ltb j (out + w) ≡ b → test (put_from all_kept out 0 w hands rs h j) ≡ true
      go false p b q = let x = leb-false out j p in other-passes all_kept out w hands rs h j (inl (omega (arith, x))) t
      go true p false q = let x = ltb-false j (out + w) q in other-passes all_kept out w hands rs h j (inr (omega (arith, x))) t
      go true p true q =
          let a = leb-true out j p in
          let b = ltb-true j (out + w) q in
          let n = j - out in
          put-passes all_kept out w hands rs h j n (omega (arith, a, b)) (omega (arith, a, b)) refl (fine n)

none-fine : (test : Cell → Bool) (p : ℕ) → IsFine test (get_or [] p Gift)
none-fine test p = tt

-- every hand is fine for cells that are not empty
fine-full : (o : Hand) → IsFine is_full o
fine-full Gift = tt
fine-full (Loan j v) = refl

-- what is given is no loan
fine-given : (test : Cell → Bool) (h : Heap) (base : ℕ) (ms : List Mode) (args : List Operand) (p : ℕ) → IsGiven (get_or ms p Looks) → IsFine test (get_or (handed h base ms args) p Gift)
fine-given test h base ms [] p g = tt
fine-given test h base [] (a ∷ args) p g = absurd g
fine-given test h base (m ∷ ms) (a ∷ args) (suc p) g = fine-given test h base ms args p g
fine-given test h base (m ∷ ms) (a ∷ args) zero g = plainly (is_plain (seen h base m a)) (looked_lent h base m a) (lent m g)
  where
    lent : (m : Mode) → IsGiven m → looked_lent h base m a ≡ Gift
    lent Looks g = absurd g
    lent (LooksAt p) g = absurd g
    lent Copies g = refl
    lent Takes g = refl
    lent (CopiesOf p) g = refl

    plainly : (b : Bool) (o : Hand) → o ≡ Gift → IsFine test (unless_plain b o)
    plainly true o e = tt
    plainly false o e = subst (IsFine test) (sym e) tt

-- ---- one kind of cells

module _ (test : Cell → Bool) (is : IsTest test) (some : Live) (H : Handling) where
  -- calls wait as before where no cell below is emptied
  wait-as : (base : ℕ) (calls : List Frame) (now old : Heap) → ((j : ℕ) → j < base → test (old j) ≡ true → test (now j) ≡ true) → AreWaiting test some base calls old → AreWaiting test some base calls now
  wait-as base [] now old keep w = tt
  wait-as base (o ∷ os) now old keep w =
      let le = w.0 in
      (w.0, (λ i l. go i (w.1 i l)), wait-as o.base os now old (λ j lt f. keep j (omega (arith, lt, le)) f) w.2)
    where
      go : (i : ℕ) → ((o.out ≤ i) × (i < o.out + o.width)) ⊎ ((o.base + i < base) × (test (old (o.base + i)) ≡ true)) → ((o.out ≤ i) × (i < o.out + o.width)) ⊎ ((o.base + i < base) × (test (now (o.base + i)) ≡ true))
      go i (inl x) = inl x
      go i (inr x) = inr (x.0, keep (o.base + i) x.0 x.1)

  -- after a step that takes and writes
  put-supplies : (pc base : ℕ) (h : Heap) (calls : List Frame) → ArePassed test some pc base h calls → (next out w : ℕ) (args : List Operand) (rs : List Carried) → Follows some H args pc next out w
      → ArePassed test some next base (put_from (λ i. H.keeps (out + i)) (base + out) 0 w [] rs (taken base H.modes args h)) calls
  put-supplies pc base h calls passed next out w args rs follows =
      record {
        here = λ i l. go i (follows i l);
        waiting = wait-as base calls (put_from keeps (base + out) 0 w [] rs (taken base H.modes args h)) h
            (λ j lt f. other-passes test is keeps (base + out) w [] rs (taken base H.modes args h) j (inl (omega (arith, lt))) (ap test (all-below base H.modes args h j lt) ∙ f)) passed.waiting;
      }
    where
      keeps : ℕ → Bool
      keeps i = H.keeps (out + i)

      apart : (i : ℕ) → (i < out) ⊎ (out + w ≤ i) → (base + i < base + out) ⊎ ((base + out) + w ≤ base + i)
      apart i (inl x) = inl (omega (arith, x))
      apart i (inr x) = inr (omega (arith, x))

      go : (i : ℕ) → ((out ≤ i) × (i < out + w) × (H.keeps i ≡ true)) ⊎ (IsLive some pc i × (IsTaken H.modes args i → ⊥) × ((i < out) ⊎ (out + w ≤ i))) → test (put_from keeps (base + out) 0 w [] rs (taken base H.modes args h) (base + i)) ≡ true
      go i (inl x) =
          let a = x.0 in
          let b = x.1 in
          let p = i - out in
          let at : out + p ≡ i = omega (arith, a) in
          put-passes test is keeps (base + out) w [] rs (taken base H.modes args h) (base + i) p (omega (arith, a, b)) (omega (arith, a)) (ap H.keeps at ∙ x.2) tt
      go i (inr x) = other-passes test is keeps (base + out) w [] rs (taken base H.modes args h) (base + i) (apart i x.2) (ap test (untaken base H.modes args h i x.1) ∙ passed.here i x.0)

  return-supplies : (base : ℕ) (h : Heap) (o : Frame) (os : List Frame) (rs : List Carried) (args : List Operand) → AreWaiting test some base (o ∷ os) h
      → ArePassed test some o.pc o.base (put_from all_kept (o.base + o.out) 0 o.width [] rs (cleared base (taken base H.modes args h))) os
  return-supplies base h o os rs args waiting =
      record {
        here = λ i l. go i (waiting.1 i l);
        waiting = wait-as o.base os (put_from all_kept (o.base + o.out) 0 o.width [] rs gone) h
            (λ j lt f. let le = waiting.0 in kept-passes test is (o.base + o.out) o.width [] rs gone j (none-fine test) (inr (kept j (omega (arith, lt, le)) f))) waiting.2;
      }
    where
      gone : Heap
      gone = cleared base (taken base H.modes args h)

      kept : (j : ℕ) → j < base → test (h j) ≡ true → test (cleared base (taken base H.modes args h) j) ≡ true
      kept j lt f = ap (λ b. test (if b then Empty else taken base H.modes args h j)) (lt-leb base j lt) ∙ (ap test (all-below base H.modes args h j lt) ∙ f)

      go : (i : ℕ) → ((o.out ≤ i) × (i < o.out + o.width)) ⊎ ((o.base + i < base) × (test (h (o.base + i)) ≡ true)) → test (put_from all_kept (o.base + o.out) 0 o.width [] rs gone (o.base + i)) ≡ true
      go i (inl x) = let a = x.0 in let b = x.1 in kept-passes test is (o.base + o.out) o.width [] rs gone (o.base + i) (none-fine test) (inl (omega (arith, a), omega (arith, b)))
      go i (inr x) = kept-passes test is (o.base + o.out) o.width [] rs gone (o.base + i) (none-fine test) (inr (kept (o.base + i) x.0 x.1))

  -- a call's block has its arguments, and the caller waits
  call-supplies : (pc base entry size : ℕ) (args : List Operand) (out w many : ℕ) (h : Heap) (calls : List Frame) (hands : List Hand) (rs : List Carried) → ArePassed test some pc base h calls
      → ((i : ℕ) → IsLive some entry i → (i < many) × IsFine test (get_or hands i Gift)) → Returns some H args pc size out w
      → ArePassed test some entry (base + size) (put_from all_kept (base + size) 0 many hands rs (taken base H.modes args h)) (record { pc = suc pc; base = base; out = out; width = w } ∷ calls)
  call-supplies pc base entry size args out w many h calls hands rs passed inside follows =
      record {
        here = λ i l. let x = inside i l in put-passes test is all_kept (base + size) many hands rs (taken base H.modes args h) ((base + size) + i) i x.0 refl refl x.1;
        waiting = (
          omega arith,
          (λ i l. go i (follows i l)),
          wait-as base calls (put_from all_kept (base + size) 0 many hands rs (taken base H.modes args h)) h
              (λ j lt f. under j (omega (arith, lt)) (ap test (all-below base H.modes args h j lt) ∙ f)) passed.waiting,
        );
      }
    where
      under : (j : ℕ) → j < base + size → test (taken base H.modes args h j) ≡ true → test (put_from all_kept (base + size) 0 many hands rs (taken base H.modes args h) j) ≡ true
      under j lt t = other-passes test is all_kept (base + size) many hands rs (taken base H.modes args h) j (inl lt) t

      go : (i : ℕ) → ((out ≤ i) × (i < out + w)) ⊎ (IsLive some pc i × (IsTaken H.modes args i → ⊥) × (i < size))
          → ((out ≤ i) × (i < out + w)) ⊎ ((base + i < base + size) × (test (put_from all_kept (base + size) 0 many hands rs (taken base H.modes args h) (base + i)) ≡ true))
      go i (inl x) = inl x
      go i (inr x) =
          let lt = x.2 in
          inr (omega (arith, lt), under (base + i) (omega (arith, lt)) (ap test (untaken base H.modes args h i x.1) ∙ passed.here i x.0))

-- ---- both kinds

both-and : (a b : Bool) → a ≡ true → b ≡ true → a && b ≡ true
both-and true true e f = refl
both-and true false e f = absurd cc
both-and false b e f = absurd cc

module _ (live own : Live) where
  path-open : (pc base : ℕ) (h : Heap) (p : Path) → ((i : ℕ) → IsLive live pc i → is_full (h (base + i)) ≡ true) → ((i : ℕ) → Uses p i → IsLive live pc i) → is_open h base p ≡ true
  path-open pc base h (Here c) full uses = full c (uses c refl)
  path-open pc base h (Scattered p) full uses = path-open pc base h p full uses
  path-open pc base h (Content p) full uses = path-open pc base h p full uses
  path-open pc base h (Counted p count) full uses =
      both-and (is_full (h (base + count))) (is_open h base p) (full count (uses count (inl refl))) (path-open pc base h p full (λ i u. uses i (inr u)))

  one-ready : (pc base : ℕ) (h : Heap) (m : Mode) (a : Operand) → ((i : ℕ) → IsLive live pc i → is_full (h (base + i)) ≡ true) → ((i : ℕ) → IsLive own pc i → is_owner (h (base + i)) ≡ true) → MayBe live own pc m a → can_be h base m a ≡ true
  one-ready pc base h (LooksAt p) a full owned l = path-open pc base h p full l
  one-ready pc base h (CopiesOf p) a full owned l = path-open pc base h p full l
  one-ready pc base h Looks (At i) full owned l = full i l
  one-ready pc base h Copies (At i) full owned l = full i l
  one-ready pc base h Takes (At i) full owned l = owned i l
  one-ready pc base h Looks (Lit c) full owned l = refl
  one-ready pc base h Copies (Lit c) full owned l = refl
  one-ready pc base h Takes (Lit c) full owned l = refl

  all-ready : (pc base : ℕ) (h : Heap) (ms : List Mode) (args : List Operand) → ((i : ℕ) → IsLive live pc i → is_full (h (base + i)) ≡ true) → ((i : ℕ) → IsLive own pc i → is_owner (h (base + i)) ≡ true) → AllMayBe live own pc ms args
      → are_ready h base ms args ≡ true
  all-ready pc base h ms [] full owned l = refl
  all-ready pc base h ms (a ∷ args) full owned l =
      both-and (can_be h base (mode_at ms) a) (are_ready h base (tail ms) args) (one-ready pc base h (mode_at ms) a full owned l.0) (all-ready pc base h (tail ms) args full owned l.1)

  counts-safe : (c : Bool) (limit fires : ℕ) (f : ℕ → Stored) → ((n : ℕ) → IsSupplied live own (f n)) → IsSafe live own (counted_stored c limit fires (λ n. Onward (f n)))
  counts-safe false limit fires f s = s fires
  counts-safe true limit fires f s = go (ltb fires limit)
    where
      go : (b : Bool) → IsSafe live own (if b then Onward (f (suc fires)) else AtLimit)
      go true = s (suc fires)
      go false = tt

  module _ (weigh : Weigh) (limit pc base : ℕ) (h : Heap) (calls : List Frame) (fires copies : ℕ) (H : Handling) (full : ArePassed is_full live pc base h calls) (owned : ArePassed is_owner own pc base h calls) where
    seen-many : (ms : List Mode) (args : List Operand) → length (seen_all h base ms args) ≡ length args
    seen-many ms [] = refl
    seen-many ms (a ∷ args) = ap suc (seen-many (tail ms) args)

    applied-safe : (x : Step) → IsLively live own H pc x → (ks : List Carried) → length ks ≡ length (reads_of x)
        → (n : ℕ) → IsSafe live own (apply_stored limit (effect x pc ks) H.keeps (handed h base H.modes (reads_of x)) pc base (taken base H.modes (reads_of x) h) calls fires n)
    applied-safe x lively ks many n = by-kind (kinds x pc ks)
      where
        hands : List Hand
        hands = handed h base H.modes (reads_of x)

        now : Heap
        now = taken base H.modes (reads_of x) h

        by-kind : Writing x pc ks ⊎ (Calling x ⊎ Leaving x) → IsSafe live own (apply_stored limit (effect x pc ks) H.keeps hands pc base now calls fires n)
        by-kind (inl y) =
            let follows = lively.leads_on y.1 y.2 y.3 (do-lead x pc ks y.0 y.1 y.2 y.3 y.4 y.5) in
            subst (λ z. IsSafe live own (apply_stored limit z H.keeps hands pc base now calls fires n)) (sym y.5)
            (counts-safe y.0 limit fires (λ f. on y.1 base (put_from (λ i. H.keeps (y.2 + i)) (base + y.2) 0 y.3 [] y.4 now) calls f n)
            (λ f. record {
              full = put-supplies is_full full-test live H pc base h calls full y.1 y.2 y.3 (reads_of x) y.4 follows.0;
              owned = put-supplies is_owner owner-test own H pc base h calls owned y.1 y.2 y.3 (reads_of x) y.4 follows.1;
            }))
        by-kind (inr (inl y)) = subst (λ z. IsSafe live own (apply_stored limit z H.keeps hands pc base now calls fires n)) (sym (ap (λ z. effect z pc ks) y.5)) (called y.0 y.1 y.2 y.3 y.4 y.5)
          where
            called : (entry size : ℕ) (args : List Operand) (out w : ℕ) → x ≡ Call entry size args out w → IsSafe live own (apply_stored limit (Enters entry size out w ks) H.keeps hands pc base now calls fires n)
            called entry size args out w is =
                let l = subst (CallsLively live own H pc) is lively.calls in
                let as_many : length ks ≡ length args = many ∙ ap (λ z. length (reads_of z)) is in
                let same : reads_of x ≡ args = ap reads_of is in
                subst (λ z. IsSafe live own (apply_stored limit (Enters entry size out w ks) H.keeps (handed h base H.modes z) pc base (taken base H.modes z h) calls fires n)) (sym same)
                (counts-safe true limit fires
                (λ f. on entry (base + size) (put_from all_kept (base + size) 0 (length ks) (handed h base H.modes args) ks (taken base H.modes args h)) (record { pc = suc pc; base = base; out = out; width = w } ∷ calls) f n)
                (λ f. record {
                  full = call-supplies is_full full-test live H pc base entry size args out w (length ks) h calls (handed h base H.modes args) ks full
                      (λ i z. (subst (λ k. i < k) (sym as_many) (l.0 i z), fine-full (get_or (handed h base H.modes args) i Gift))) l.2;
                  owned = call-supplies is_owner owner-test own H pc base entry size args out w (length ks) h calls (handed h base H.modes args) ks owned
                      (λ i z. let g = l.1 i z in (subst (λ k. i < k) (sym as_many) g.0, fine-given is_owner h base H.modes args i g.1)) l.3;
                }))
        by-kind (inr (inr y)) = subst (λ z. IsSafe live own (apply_stored limit z H.keeps hands pc base now calls fires n)) (sym (ap (λ z. effect z pc ks) y.1)) (left calls full.waiting owned.waiting)
          where
            left : (os : List Frame) → AreWaiting is_full live base os h → AreWaiting is_owner own base os h → IsSafe live own (returned_stored ks os (cleared base now) fires n)
            left [] f o = tt
            left (o ∷ os) f w =
                record {
                  full = return-supplies is_full full-test live H base h o os ks (reads_of x) f;
                  owned = return-supplies is_owner owner-test own H base h o os ks (reads_of x) w;
                }

    pub does-safe : (x : Step) → IsLively live own H pc x → IsSafe live own (doing_stored weigh limit x H pc base h calls fires copies)
    does-safe x lively =
        subst (λ b. IsSafe live own (where_ready b (apply_stored limit (effect x pc (seen_all h base H.modes (reads_of x))) H.keeps (handed h base H.modes (reads_of x)) pc base (taken base H.modes (reads_of x) h) calls fires
        (copies + copied_by_step weigh x pc H (seen_all h base H.modes (reads_of x)) (effect x pc (seen_all h base H.modes (reads_of x)))))))
        (sym (all-ready pc base h H.modes (reads_of x) full.here owned.here lively.reads))
        (applied-safe x lively (seen_all h base H.modes (reads_of x)) (seen-many H.modes (reads_of x)) (copies + copied_by_step weigh x pc H (seen_all h base H.modes (reads_of x)) (effect x pc (seen_all h base H.modes (reads_of x)))))

pub never-stuck : IsNeverStuck
never-stuck weigh limit code handling live own lively s supplied =
    does-safe live own weigh limit s.pc s.base s.heap s.calls s.fires s.copies (handling s.pc) supplied.full supplied.owned (code s.pc) (lively s.pc)
