-- The machine whose cells own their values, along a range: it does what the machine on values does, and the cell of the count owns what
-- it has.
use Rattle.std.proofs.Common.{◌≡◌, ℕ, zero, suc, ◌+◌, ◌<◌, ◌≤◌, ◌⊎◌, inl, inr, Bool, true, false, if◌then◌else◌, ltb, List, [], ◌∷◌, ◌++◌, drop, length, map, take, get_or, refl, sym, ap, ◌∙◌, subst, arith}
use Rattle.std.proofs.lemmas.Bool.{lt-ltb, ne_eqb}
use Rattle.graph_meaning.specs.Carried.{Carried, Unfilled}
use Rattle.graph_meaning.specs.Forms.{places_of}
use Rattle.run_code.specs.Cells.{At, Cells, Operand, cells_at, cells_from, look}
use Rattle.run_code.specs.Coded.{Layout}
use Rattle.run_code.specs.Collections.{Collect, put_all}
use Rattle.run_code.specs.Machine.{Ends, Frame, Goes, Outcome, Over, State, added, at, counter, elements, step}
use Rattle.run_code.specs.Steps.{Add, Call, Each}
use Rattle.run_laws.proofs.Facts.{stays-known}
use Rattle.run_laws.specs.Facts.{AllOf, Fact, IsFine, IsKnown, IsTrue, Preserves}
use Rattle.run_store.proofs.Effects.{do-lead}
use Rattle.run_store.proofs.Fitting.{all-below, cleared-below, puts-below, set-here, set-other, untaken}
use Rattle.run_store.proofs.Refining.{Calling, Leaving, Writing, all-seen, kinds, refines}
use Rattle.run_store.specs.Lively.{IsSafe, IsSupplied, Live}
use Rattle.run_store.specs.Effects.{Effect, Writes, each_effect, effect, reads_of}
use Rattle.run_store.specs.Refines.{AreBelow, Fits, IsHandled, IsTaken, Matches}
use Rattle.run_store.specs.Stored.{AtLimit, Finished, Gift, Hand, Handling, Heap, IsOwner, Mode, Onward, Owns, Stored, StoredOutcome, Stuck, all_kept, apply_stored, are_ready, cleared, copied_by_step, counted_stored, hand_in, handed, on, placed, put_from, returned_stored, seen_all, set, step_stored, tail, taken, where_ready}
use Rattle.run_store.specs.Whole.{ReachesStored, rests, walks}
use Rattle.run_ranges.specs.Apart.{AreApart, CallsApart, IsApart, StepsApart}
use Rattle.run_ranges.proofs.Bodies.{Deep, On}

-- ---- a cell that is not read is not taken

abbrev Others : ℕ → List Operand → Type 0
Others i [] = Unit {0}
Others i (a ∷ args) = (a ≡ At i → ⊥) × Others i args

others-apart : (first last i : ℕ) → first ≤ i → i ≤ last → (args : List Operand) → AreApart first last args → Others i args
others-apart first last i le up [] h = tt
others-apart first last i le up (a ∷ args) h = (λ e. go (subst (IsApart first last) e h.0), others-apart first last i le up args h.1)
  where
    go : (i < first) ⊎ (last < i) → ⊥
    go (inl lt) = absurd (omega (arith, le, lt))
    go (inr lt) = absurd (omega (arith, up, lt))

others-both : (i : ℕ) (as₁ bs : List Operand) → Others i as₁ → Others i bs → Others i (as₁ ++ bs)
others-both i [] bs h g = g
others-both i (a ∷ as₁) bs h g = (h.0, others-both i as₁ bs h.1 g)

same-cell : (i j : ℕ) → At i ≡ At j → i ≡ j
same-cell i j e = cc

others-cells : (i from n : ℕ) → from + n ≤ i → Others i (cells_at from n)
others-cells i from zero le = tt
others-cells i from (suc n) le = (λ e. let s = same-cell from i e in absurd (omega (arith, le, s)), others-cells i (suc from) n (omega (arith, le)))

not-taken : (ms : List Mode) (args : List Operand) (i : ℕ) → Others i args → IsTaken ms args i → ⊥
not-taken ms [] i h t = t
not-taken ms (a ∷ args) i h (inl t) = h.0 t.1
not-taken ms (a ∷ args) i h (inr t) = not-taken (tail ms) args i h.1 t

-- ---- what is put

puts-above : (keeps : ℕ → Bool) (out i w : ℕ) (hands : List Hand) (rs : List Carried) (h : Heap) (j : ℕ) → (out + i) + w ≤ j → put_from keeps out i w hands rs h j ≡ h j
puts-above keeps out i zero hands rs h j le = refl
puts-above keeps out i (suc w) hands rs h j le =
    let c = placed (keeps i) (hand_in hands) (get_or rs i Unfilled) in
    puts-above keeps out (suc i) w (tail hands) rs (set (out + i) c h) j (omega (arith, le)) ∙ set-other (out + i) c h j (ne_eqb j (out + i) (λ e. absurd (omega (arith, e, le))))

pub puts-before : (keeps : ℕ → Bool) (out i w : ℕ) (hands : List Hand) (rs : List Carried) (h : Heap) (j : ℕ) → j < out + i → put_from keeps out i w hands rs h j ≡ h j
puts-before keeps out i zero hands rs h j lt = refl
puts-before keeps out i (suc w) hands rs h j lt =
    let c = placed (keeps i) (hand_in hands) (get_or rs i Unfilled) in
    puts-before keeps out (suc i) w (tail hands) rs (set (out + i) c h) j (omega (arith, lt)) ∙ set-other (out + i) c h j (ne_eqb j (out + i) (λ e. absurd (omega (arith, e, lt))))

-- the first one is kept and owned
put-owner : (keeps : ℕ → Bool) (out w : ℕ) (rs : List Carried) (h : Heap) → keeps 0 ≡ true → IsOwner (put_from keeps out 0 (suc w) [] rs h out)
put-owner keeps out w rs h kept =
    let c = placed (keeps 0) Gift (get_or rs 0 Unfilled) in
    let owns : c ≡ Owns (get_or rs 0 Unfilled) = ap (λ b. placed b Gift (get_or rs 0 Unfilled)) kept in
    let e : put_from keeps out 0 (suc w) [] rs h out ≡ c = puts-before keeps out 1 w [] rs (set (out + 0) c h) out (omega arith) ∙ (ap (set (out + 0) c h) (omega arith) ∙ set-here (out + 0) c h) in
    subst IsOwner (sym (e ∙ owns)) tt

-- ---- where an outcome goes on

ready-on : (b : Bool) (t : StoredOutcome) (r : Stored) → where_ready b t ≡ Onward r → (b ≡ true) × (t ≡ Onward r)
ready-on true t r e = (refl, e)
ready-on false t r e = absurd (let x : Stuck ≡ Onward r = e in cc)

same-onward : (s r : Stored) → Onward s ≡ Onward r → s ≡ r
same-onward s r e = cc

no-finish : (rs : List Carried) (f c : ℕ) (r : Stored) → Finished rs f c ≡ Onward r → ⊥
no-finish rs f c r e = cc

counted-onward : (c : Bool) (limit fires : ℕ) (g : ℕ → Stored) (r : Stored) → counted_stored c limit fires (λ y. Onward (g y)) ≡ Onward r → (n : ℕ) × (g n ≡ r)
counted-onward false limit fires g r e = (fires, same-onward (g fires) r e)
counted-onward true limit fires g r e = go (ltb fires limit) e
  where
    go : (b : Bool) → (if b then Onward (g (suc fires)) else AtLimit) ≡ Onward r → (n : ℕ) × (g n ≡ r)
    go true e = (suc fires, same-onward (g (suc fires)) r e)
    go false e = absurd (let x : AtLimit ≡ Onward r = e in cc)

seen-from : (cells : Cells) (base i n : ℕ) → map (look cells base) (cells_at i n) ≡ cells_from cells (base + i) n
seen-from cells base i zero = refl
seen-from cells base i (suc n) = ap (λ xs. cells (base + i) ∷ xs) (seen-from cells base (suc i) n ∙ ap (λ x. cells_from cells x n) (omega arith))

-- ---- a machine that is never stuck

-- it goes on to such a state, if it goes on
abbrev pub LeadsOnlyTo : (Stored → Type 0) → StoredOutcome → Type 0
LeadsOnlyTo Fine Stuck = ⊥
LeadsOnlyTo Fine (Onward s) = Fine s
LeadsOnlyTo Fine (Finished rs f c) = Unit {0}
LeadsOnlyTo Fine AtLimit = Unit {0}

pub safe-fine : (live own : Live) (t : StoredOutcome) → IsSafe live own t → LeadsOnlyTo (IsSupplied live own) t
safe-fine live own Stuck h = absurd h
safe-fine live own (Onward s) h = h
safe-fine live own (Finished rs f c) h = tt
safe-fine live own AtLimit h = tt

-- ---- the two machines

module _ (X : Layout) (limit : ℕ) (handling : ℕ → Handling) (facts : ℕ → List Fact) (handled : (pc : ℕ) → IsHandled X.weigh facts pc (X.code pc) (handling pc)) (preserves : (pc : ℕ) → Preserves facts pc (X.code pc)) where
  abbrev pub next : Stored → StoredOutcome
  next s = step_stored X.weigh limit X.code handling s

  pub record Alike (s : Stored) (p : State) : Type 0 where
    pub pc_is : s.pc ≡ p.pc
    pub base_is : s.base ≡ p.base
    pub calls_are : s.calls ≡ p.calls
    pub fires_are : s.fires ≡ p.fires
    pub fits : Fits s.base s.heap p.cells
    pub below : AreBelow s.base s.calls s.heap
    pub known : IsKnown facts p

  same-state : (s : Stored) (p : State) → Alike s p → at s.pc s.base p.cells s.calls s.fires ≡ p
  same-state s p a =
      ap (λ x. at x s.base p.cells s.calls s.fires) a.pc_is
      ∙ (ap (λ x. at p.pc x p.cells s.calls s.fires) a.base_is ∙ (ap (λ x. at p.pc p.base p.cells x s.fires) a.calls_are ∙ ap (λ x. at p.pc p.base p.cells p.calls x) a.fires_are))

  known-here : (s : Stored) (p : State) → Alike s p → AllOf (IsTrue s.base p.cells) (facts s.pc)
  known-here s p a =
      let k = a.known in
      subst (λ z. AllOf (IsTrue s.base p.cells) (facts z)) (sym a.pc_is) (subst (λ z. AllOf (IsTrue z p.cells) (facts p.pc)) (sym a.base_is) k.here)

  pub step-valued : (s r : Stored) (p t : State) → Alike s p → step limit X.code p ≡ Goes t → step_stored X.weigh limit X.code handling s ≡ Onward r → Alike r t
  step-valued s r p t a goes e =
      let m = refines X.weigh limit X.code handling facts handled s p.cells a.fits a.below (known-here s p a) in
      let copies = s.copies + added X.weigh (X.code s.pc) s.pc s.base p.cells in
      let went : step limit X.code (at s.pc s.base p.cells s.calls s.fires) ≡ Goes t = ap (step limit X.code) (same-state s p a) ∙ goes in
      let y = subst (Matches copies (Onward r)) went (subst (λ x. Matches copies x (step limit X.code (at s.pc s.base p.cells s.calls s.fires))) e m) in
      record { pc_is = y.0; base_is = y.1; calls_are = y.2; fires_are = y.3; fits = y.5; below = y.6; known = subst (IsFine facts) goes (stays-known facts limit X.code preserves p a.known) }

  -- and where it is never stuck, the other way round
  pub step-fine : (Fine : Stored → Type 0) (s : Stored) (p t : State) → Alike s p → step limit X.code p ≡ Goes t → LeadsOnlyTo Fine (step_stored X.weigh limit X.code handling s)
      → (r : Stored) × (step_stored X.weigh limit X.code handling s ≡ Onward r) × Fine r
  step-fine Fine s p t a goes fine =
      let m = refines X.weigh limit X.code handling facts handled s p.cells a.fits a.below (known-here s p a) in
      let went : step limit X.code (at s.pc s.base p.cells s.calls s.fires) ≡ Goes t = ap (step limit X.code) (same-state s p a) ∙ goes in
      go (step_stored X.weigh limit X.code handling s) refl (subst (Matches (s.copies + added X.weigh (X.code s.pc) s.pc s.base p.cells) (step_stored X.weigh limit X.code handling s)) went m) fine
    where
      go : (u : StoredOutcome) → step_stored X.weigh limit X.code handling s ≡ u → Matches (s.copies + added X.weigh (X.code s.pc) s.pc s.base p.cells) u (Goes t) → LeadsOnlyTo Fine u
          → (r : Stored) × (step_stored X.weigh limit X.code handling s ≡ Onward r) × Fine r
      go (Onward r) is m f = (r, is, f)
      go (Finished rs c n) is m f = absurd m
      go AtLimit is m f = absurd m
      go Stuck is m f = absurd f

  pub over-fine : (Fine : Stored → Type 0) (s : Stored) (p : State) → Alike s p → step limit X.code p ≡ Over → LeadsOnlyTo Fine (step_stored X.weigh limit X.code handling s) → step_stored X.weigh limit X.code handling s ≡ AtLimit
  over-fine Fine s p a over fine =
      let m = refines X.weigh limit X.code handling facts handled s p.cells a.fits a.below (known-here s p a) in
      let went : step limit X.code (at s.pc s.base p.cells s.calls s.fires) ≡ Over = ap (step limit X.code) (same-state s p a) ∙ over in
      go (step_stored X.weigh limit X.code handling s) refl (subst (Matches (s.copies + added X.weigh (X.code s.pc) s.pc s.base p.cells) (step_stored X.weigh limit X.code handling s)) went m) fine
    where
      go : (u : StoredOutcome) → step_stored X.weigh limit X.code handling s ≡ u → Matches (s.copies + added X.weigh (X.code s.pc) s.pc s.base p.cells) u Over → LeadsOnlyTo Fine u → step_stored X.weigh limit X.code handling s ≡ AtLimit
      go (Onward r) is m f = absurd m
      go (Finished rs c n) is m f = absurd m
      go AtLimit is m f = is
      go Stuck is m f = absurd f

  -- wherever it comes, it is still so
  step-there : (s r : Stored) (p : State) → Alike s p → step_stored X.weigh limit X.code handling s ≡ Onward r → (q : State) × Alike r q
  step-there s r p a e =
      let m = refines X.weigh limit X.code handling facts handled s p.cells a.fits a.below (known-here s p a) in
      go (step limit X.code p) refl
      (subst (λ x. Matches (s.copies + added X.weigh (X.code s.pc) s.pc s.base p.cells) x (step limit X.code p)) e
      (subst (Matches (s.copies + added X.weigh (X.code s.pc) s.pc s.base p.cells) (step_stored X.weigh limit X.code handling s)) (ap (step limit X.code) (same-state s p a)) m))
    where
      go : (u : Outcome) → step limit X.code p ≡ u → Matches (s.copies + added X.weigh (X.code s.pc) s.pc s.base p.cells) (Onward r) u → (q : State) × Alike r q
      go (Goes q) is m = (q, step-valued s r p q a is e)
      go (Ends rs c) is m = absurd m
      go Over is m = absurd m

  pub alike-on : (s r : Stored) → ReachesStored X.weigh limit X.code handling s r → (p : State) → Alike s p → (q : State) × Alike r q
  alike-on _ _ (rests s) p a = (p, a)
  alike-on _ _ (walks s u r e more) p a = let y = step-there s u p a e in alike-on u r more y.0 y.1

  module _ (turn turned first n k there leave under : ℕ) (cs : List Collect) (nexts : List Operand) (apart_is : (pc : ℕ) → turn ≤ pc → pc < turned → StepsApart turn turned first (first + (n + k)) pc (X.code pc))
      (each_is : X.code there ≡ Each n first (first + (n + k)) turn leave) (adds : X.code turned ≡ Add cs nexts (first + n) there) (cs_many : length cs ≡ k) (ahead : turn ≤ turned) (behind : turned < there)
      (results : AreApart first (first + (n + k)) nexts) (keeps : (handling there).keeps (first + (n + k)) ≡ true) where
    abbrev count : ℕ
    count = first + (n + k)

    abbrev edge : ℕ
    edge = under + count

    abbrev Deeply : (base pc : ℕ) → List Frame → Type 0
    Deeply base pc calls = Deep X limit turn turned first n k there leave under cs nexts apart_is each_is adds cs_many ahead behind base pc calls

    abbrev Onto : (pc : ℕ) → List Frame → Type 0
    Onto pc calls = On X limit turn turned first n k there leave under cs nexts apart_is each_is adds cs_many ahead behind pc calls

    -- ---- what is left when operands were taken

    body-left : (base pc : ℕ) (calls : List Frame) (ms : List Mode) (h : Heap) → Deeply base pc calls → Onto pc calls → taken base ms (reads_of (X.code pc)) h edge ≡ h edge
    body-left base pc [] ms h deep near =
        let s = apart_is pc deep.1 near in
        subst (λ z. taken base ms (reads_of (X.code pc)) h (z + count) ≡ h (z + count)) deep.0
        (untaken base ms (reads_of (X.code pc)) h count (not-taken ms (reads_of (X.code pc)) count (others-apart first count count (omega arith) (omega arith) (reads_of (X.code pc)) s.reads)))
    body-left base pc (o ∷ os) ms h deep near = all-below base ms (reads_of (X.code pc)) h edge deep.0

    -- ---- what a step in the body leaves

    put-left : (keeps : ℕ → Bool) (out w : ℕ) (hands : List Hand) (rs : List Carried) (h : Heap) → (edge < out) ⊎ (w ≡ 0) → put_from keeps out 0 w hands rs h edge ≡ h edge
    put-left keeps out w hands rs h (inl lt) = puts-below keeps out 0 w hands rs h edge lt
    put-left keeps out w hands rs h (inr z) = ap (λ n. put_from keeps out 0 n hands rs h edge) z

    write-place : (base pc : ℕ) (calls : List Frame) (c : Bool) (next out w : ℕ) (ks rs : List Carried) → effect (X.code pc) pc ks ≡ Writes c next out w rs → Deeply base pc calls → Onto pc calls → (edge < base + out) ⊎ (w ≡ 0)
    write-place base pc [] c next out w ks rs is deep near =
        let s = apart_is pc deep.1 near in
        let l = s.leads_on next out w (do-lead (X.code pc) pc ks c next out w rs is) in
        go l.2
      where
        go : (count < out) ⊎ (w ≡ 0) → (edge < base + out) ⊎ (w ≡ 0)
        go (inl lt) = let e = deep.0 in inl (omega (arith, lt, e))
        go (inr z) = inr z
    write-place base pc (o ∷ os) c next out w ks rs is deep near = let lt = deep.0 in inl (omega (arith, lt))

    call-place : (base pc : ℕ) (calls : List Frame) (entry size : ℕ) (args : List Operand) (out w : ℕ) → X.code pc ≡ Call entry size args out w → Deeply base pc calls → Onto pc calls → edge < base + size
    call-place base pc [] entry size args out w is deep near =
        let s = apart_is pc deep.1 near in
        let c = subst (CallsApart count turned pc) is s.calls in
        let e = deep.0 in
        let q = c.1 in
        omega (arith, e, q)
    call-place base pc (o ∷ os) entry size args out w is deep near = let lt = deep.0 in omega (arith, lt)

    -- a step of this machine, by what it reads
    abbrev reads : Stored → List Carried
    reads s = seen_all s.heap s.base (handling s.pc).modes (reads_of (X.code s.pc))

    abbrev left : Stored → Heap
    left s = taken s.base (handling s.pc).modes (reads_of (X.code s.pc)) s.heap

    abbrev copies_then : Stored → ℕ
    copies_then s = s.copies + copied_by_step X.weigh (X.code s.pc) s.pc (handling s.pc) (reads s) (effect (X.code s.pc) s.pc (reads s))

    abbrev applied : Stored → Effect → StoredOutcome
    applied s e = apply_stored limit e (handling s.pc).keeps (handed s.heap s.base (handling s.pc).modes (reads_of (X.code s.pc))) s.pc s.base (left s) s.calls s.fires (copies_then s)

    goes-ready : (s r : Stored) → step_stored X.weigh limit X.code handling s ≡ Onward r → (are_ready s.heap s.base (handling s.pc).modes (reads_of (X.code s.pc)) ≡ true) × (applied s (effect (X.code s.pc) s.pc (reads s)) ≡ Onward r)
    goes-ready s r e = ready-on (are_ready s.heap s.base (handling s.pc).modes (reads_of (X.code s.pc))) (applied s (effect (X.code s.pc) s.pc (reads s))) r e

    heap-of : (s r : Stored) → s ≡ r → s.heap edge ≡ r.heap edge
    heap-of s r e = ap (λ (z : Stored). z.heap edge) e

    pub body-owner : (s r : Stored) → Deeply s.base s.pc s.calls → Onto s.pc s.calls → step_stored X.weigh limit X.code handling s ≡ Onward r → r.heap edge ≡ s.heap edge
    body-owner s r deep near went = by-kind (kinds (X.code s.pc) s.pc (reads s))
      where
        does : applied s (effect (X.code s.pc) s.pc (reads s)) ≡ Onward r
        does = (goes-ready s r went).1

        kept : left s edge ≡ s.heap edge
        kept = body-left s.base s.pc s.calls (handling s.pc).modes s.heap deep near

        hands : List Hand
        hands = handed s.heap s.base (handling s.pc).modes (reads_of (X.code s.pc))

        by-kind : Writing (X.code s.pc) s.pc (reads s) ⊎ (Calling (X.code s.pc) ⊎ Leaving (X.code s.pc)) → r.heap edge ≡ s.heap edge
        by-kind (inl y) =
            let c = y.0 in
            let next = y.1 in
            let out = y.2 in
            let w = y.3 in
            let rs = y.4 in
            let some : ℕ → Bool = λ i. (handling s.pc).keeps (out + i) in
            let now = put_from some (s.base + out) 0 w [] rs (left s) in
            let g = counted-onward c limit s.fires (λ f. on next s.base now s.calls f (copies_then s)) r (sym (ap (applied s) y.5) ∙ does) in
            sym (heap-of (on next s.base now s.calls g.0 (copies_then s)) r g.1) ∙ (put-left some (s.base + out) w [] rs (left s) (write-place s.base s.pc s.calls c next out w (reads s) rs y.5 deep near) ∙ kept)
        by-kind (inr (inl y)) =
            let entry = y.0 in
            let size = y.1 in
            let o : Frame = record { pc = suc s.pc; base = s.base; out = y.3; width = y.4 } in
            let now = put_from all_kept (s.base + size) 0 (length (reads s)) hands (reads s) (left s) in
            let g = counted-onward true limit s.fires (λ f. on entry (s.base + size) now (o ∷ s.calls) f (copies_then s)) r (sym (ap (λ x. applied s (effect x s.pc (reads s))) y.5) ∙ does) in
            sym (heap-of (on entry (s.base + size) now (o ∷ s.calls) g.0 (copies_then s)) r g.1)
            ∙ (put-left all_kept (s.base + size) (length (reads s)) hands (reads s) (left s) (inl (call-place s.base s.pc s.calls entry size y.2 y.3 y.4 y.5 deep near)) ∙ kept)
        by-kind (inr (inr y)) = leaves s.calls deep (sym (ap (λ x. applied s (effect x s.pc (reads s))) y.1) ∙ does)
          where
            leaves : (os : List Frame) → Deeply s.base s.pc os → returned_stored (reads s) os (cleared s.base (left s)) s.fires (copies_then s) ≡ Onward r → r.heap edge ≡ s.heap edge
            leaves [] h e = absurd (no-finish (reads s) s.fires (copies_then s) r e)
            leaves (o ∷ os) h e =
                let gone = cleared s.base (left s) in
                let now = put_from all_kept (o.base + o.out) 0 o.width [] (reads s) gone in
                sym (heap-of (on o.pc o.base now os s.fires (copies_then s)) r (same-onward (on o.pc o.base now os s.fires (copies_then s)) r e))
                ∙ (put-left all_kept (o.base + o.out) o.width [] (reads s) gone h.1 ∙ (cleared-below s.base (left s) edge h.0 ∙ kept))

    -- behind the body its results are put below the count
    pub add-owner : (s r : Stored) → s.pc ≡ turned → s.base ≡ under → step_stored X.weigh limit X.code handling s ≡ Onward r → r.heap edge ≡ s.heap edge
    add-owner s r pc_is base_is went =
        let d = goes-ready s r went in
        let is : X.code s.pc ≡ Add cs nexts (first + n) there = ap X.code pc_is ∙ adds in
        let ms = (handling s.pc).modes in
        let some : ℕ → Bool = λ i. (handling s.pc).keeps ((first + n) + i) in
        let rs = put_all cs (take (length nexts) (reads s)) (drop (length nexts) (reads s)) in
        let now = put_from some (s.base + (first + n)) 0 (length cs) [] rs (left s) in
        let e = same-onward (on there s.base now s.calls s.fires (copies_then s)) r (sym (ap (λ x. applied s (effect x s.pc (reads s))) is) ∙ d.1) in
        let others = others-both count nexts (cells_at (first + n) (length cs)) (others-apart first count count (omega arith) (omega arith) nexts results) (others-cells count (first + n) (length cs) (omega (arith, cs_many))) in
        let none : IsTaken ms (reads_of (X.code s.pc)) count → ⊥ = subst (λ x. IsTaken ms (reads_of x) count → ⊥) (sym is) (not-taken ms (nexts ++ cells_at (first + n) (length cs)) count others) in
        let kept : left s edge ≡ s.heap edge = subst (λ z. left s (z + count) ≡ s.heap (z + count)) base_is (untaken s.base ms (reads_of (X.code s.pc)) s.heap count none) in
        sym (heap-of (on there s.base now s.calls s.fires (copies_then s)) r e) ∙ (puts-above some (s.base + (first + n)) 0 (length cs) [] rs (left s) edge (omega (arith, cs_many, base_is)) ∙ kept)

    -- an iteration is counted in its cell
    pub each-owner : (s r : Stored) (p : State) (j : ℕ) → Alike s p → s.pc ≡ there → s.base ≡ under → p.cells (under + count) ≡ counter j → j < places_of (cells_from p.cells (under + first) n) → step_stored X.weigh limit X.code handling s ≡ Onward r → IsOwner (r.heap edge)
    each-owner s r p j a pc_is base_is counts lt went =
        let d = goes-ready s r went in
        let is : X.code s.pc ≡ Each n first count turn leave = ap X.code pc_is ∙ each_is in
        let ok = handled s.pc in
        let seen = all-seen facts s.pc s.base s.heap p.cells a.fits (known-here s p a) (handling s.pc).modes (reads_of (X.code s.pc)) ok.paths d.0 in
        let read : reads s ≡ counter j ∷ cells_from p.cells (under + first) n =
        seen ∙ (ap (λ x. map (look p.cells s.base) (reads_of x)) is ∙ (ap (λ b. map (look p.cells b) (At count ∷ cells_at first n)) base_is
        ∙ (ap (λ c. c ∷ map (look p.cells under) (cells_at first n)) counts ∙ ap (λ ks. counter j ∷ ks) (seen-from p.cells under first n)))) in
        let given = cells_from p.cells (under + first) n in
        let eff : effect (X.code s.pc) s.pc (reads s) ≡ Writes true turn count (suc n) (counter (suc j) ∷ elements j given) =
        ap (λ x. effect x s.pc (reads s)) is ∙ (ap (λ ks. effect (Each n first count turn leave) s.pc ks) read ∙ ap (λ b. each_effect b j given n count turn leave) (lt-ltb j (places_of given) lt)) in
        let some : ℕ → Bool = λ i. (handling s.pc).keeps (count + i) in
        let rs = counter (suc j) ∷ elements j given in
        let now = put_from some (s.base + count) 0 (suc n) [] rs (left s) in
        let g = counted-onward true limit s.fires (λ f. on turn s.base now s.calls f (copies_then s)) r (sym (ap (applied s) eff) ∙ d.1) in
        let kept : some 0 ≡ true = ap (λ z. (handling z).keeps (count + 0)) pc_is ∙ (ap (handling there).keeps (omega arith) ∙ keeps) in
        subst IsOwner (ap now (ap (λ z. z + count) base_is) ∙ heap-of (on turn s.base now s.calls g.0 (copies_then s)) r g.1) (put-owner some (s.base + count) n rs (left s) kept)
