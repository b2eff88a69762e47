-- Whole runs of the machine whose cells own their values are whole runs of the machine on values.
use Rattle.std.proofs.Common.{◌≡◌, ℕ, suc, ◌+◌, ◌<◌, ◌≤◌, ◌⊎◌, inl, inr, Bool, true, false, if◌then◌else◌, ltb, get_or, List, length, refl, sym, ap, ◌∙◌, subst, arith}
use Rattle.std.proofs.lemmas.Bool.{lt-ltb}
use Rattle.graph_meaning.specs.Carried.{Carried, Unfilled}
use Rattle.graph_meaning.specs.Demand.{AreOrderly}
use Rattle.graph_meaning.specs.Plain.{Means, Costs}
use Rattle.graph_meaning.specs.Storage.{capped, Copies, Storage, copying}
use Rattle.run_laws.specs.Orders.{AreInOrder}
use Rattle.run_laws.specs.Cells.{Cells}
use Rattle.run_laws.specs.Coded.{Layout}
use Rattle.run_laws.specs.Machine.{State, at, Outcome, Goes, Ends, Over, step, EndsIn, Weigh, added, Reaches, stays, goes_on}
use Rattle.run_laws.specs.Steps.{Code}
use Rattle.run_laws.proofs.Backward.{ends-recorded, exact}
use Rattle.run_laws.proofs.Facts.{stays-known}
use Rattle.run_laws.proofs.Stopping.{decided}
use Rattle.run_laws.proofs.Weighing.{same-totals}
use Rattle.run_laws.specs.Facts.{Fact, AllOf, IsTrue, IsKnown, IsFine, Preserves}
use Rattle.run_laws.specs.Laws.{EndsAdding, entered, IsRecorded}
use Rattle.run_laws.specs.Stopping.{ComesToLimit}
use Rattle.graph_meaning.proofs.Taken.{sound-in-order}
use Rattle.graph_meaning.proofs.Units.{units-orderly}
use Rattle.graph_meaning.specs.Networks.{network}
use Rattle.graph_meaning.specs.StorageUnits.{storage_of}
use Rattle.run_store.proofs.Refining.{refines}
use Rattle.run_store.proofs.Supply.{never-stuck}
use Rattle.run_store.specs.Lively.{Live, IsLively, IsSupplied, IsSafe}
use Rattle.run_store.specs.Refines.{Fits, AreBelow, IsHandled, Matches}
use Rattle.run_store.specs.Stored.{View, Empty, Owns, Refers, Heap, owned_in, IsOwner, is_full, is_owner, Handling, Stored, StoredOutcome, Onward, Finished, AtLimit, Stuck, step_stored}
use Rattle.run_store.specs.Whole.{ReachesStored, rests, walks, EndsStored, StopsStored, IsStoredCode, entered_stored, Begins, first_cells, DoRunsBegin, IsCopied, IsStoreExact, AreStoreEndsRecorded, AreStoreRunsDecided, IsOfUnit, AreUnitRunsDecided}

module _ (weigh : Weigh) (limit : ℕ) (code : Code) (handling : ℕ → Handling) (facts : ℕ → List Fact) (live own : Live)
    (handled : (pc : ℕ) → IsHandled weigh facts pc (code pc) (handling pc)) (preserves : (pc : ℕ) → Preserves facts pc (code pc)) (lively : (pc : ℕ) → IsLively live own (handling pc) pc (code pc)) where
  pub record Alike (s : Stored) (p : State) : Type 0 where
    pub pc_is : s.pc ≡ p.pc
    pub base_is : s.base ≡ p.base
    pub calls_are : s.calls ≡ p.calls
    pub fires_are : s.fires ≡ p.fires
    pub fits : Fits s.base s.heap p.cells
    pub below : AreBelow s.base s.calls s.heap
    pub supplied : IsSupplied live own s
    pub known : IsKnown facts p

  abbrev adds : State → ℕ
  adds p = added weigh (code p.pc) p.pc p.base p.cells

  next : Stored → StoredOutcome
  next s = step_stored weigh limit code handling s

  same-state : (s : Stored) (p : State) → Alike s p → at s.pc s.base p.cells s.calls s.fires ≡ p
  same-state s p a =
      ap (λ x. at x s.base p.cells s.calls s.fires) a.pc_is
      ∙ (ap (λ x. at p.pc x p.cells s.calls s.fires) a.base_is ∙ (ap (λ x. at p.pc p.base p.cells x s.fires) a.calls_are ∙ ap (λ x. at p.pc p.base p.cells p.calls x) a.fires_are))

  pub known-here : (s : Stored) (p : State) → Alike s p → AllOf (IsTrue s.base p.cells) (facts s.pc)
  known-here s p a =
      let k = a.known in
      subst (λ z. AllOf (IsTrue s.base p.cells) (facts z)) (sym a.pc_is) (subst (λ z. AllOf (IsTrue z p.cells) (facts p.pc)) (sym a.base_is) k.here)

  matched : (s : Stored) (p : State) → Alike s p → Matches (s.copies + adds p) (step_stored weigh limit code handling s) (step limit code p)
  matched s p a =
      subst (λ (q : State). Matches (s.copies + added weigh (code q.pc) q.pc q.base q.cells) (step_stored weigh limit code handling s) (step limit code q)) (same-state s p a)
      (refines weigh limit code handling facts handled s p.cells a.fits a.below (known-here s p a))

  safe : (s : Stored) (p : State) → Alike s p → IsSafe live own (step_stored weigh limit code handling s)
  safe s p a = never-stuck weigh limit code handling live own lively s a.supplied

  still-known : (s : Stored) (p t : State) → Alike s p → step limit code p ≡ Goes t → IsKnown facts t
  still-known s p t a e = subst (IsFine facts) e (stays-known facts limit code preserves p a.known)

  -- a step of the machine on values is one of this machine
  step-stored : (s : Stored) (p t : State) → Alike s p → step limit code p ≡ Goes t → (r : Stored) × (step_stored weigh limit code handling s ≡ Onward r) × Alike r t × (r.copies ≡ s.copies + adds p)
  step-stored s p t a e = go (step_stored weigh limit code handling s) refl (subst (λ x. Matches (s.copies + adds p) (step_stored weigh limit code handling s) x) e (matched s p a)) (safe s p a)
    where
      go : (u : StoredOutcome) → step_stored weigh limit code handling s ≡ u → Matches (s.copies + adds p) u (Goes t) → IsSafe live own u → (r : Stored) × (step_stored weigh limit code handling s ≡ Onward r) × Alike r t × (r.copies ≡ s.copies + adds p)
      go (Onward r) is m f = (r, is, record { pc_is = m.0; base_is = m.1; calls_are = m.2; fires_are = m.3; fits = m.5; below = m.6; supplied = f; known = still-known s p t a e }, m.4)
      go (Finished rs c n) is m f = absurd m
      go AtLimit is m f = absurd m
      go Stuck is m f = absurd f

  end-stored : (s : Stored) (p : State) (rs : List Carried) (c : ℕ) → Alike s p → step limit code p ≡ Ends rs c → step_stored weigh limit code handling s ≡ Finished rs c (s.copies + adds p)
  end-stored s p rs c a e = go (step_stored weigh limit code handling s) refl (subst (λ x. Matches (s.copies + adds p) (step_stored weigh limit code handling s) x) e (matched s p a)) (safe s p a)
    where
      go : (u : StoredOutcome) → step_stored weigh limit code handling s ≡ u → Matches (s.copies + adds p) u (Ends rs c) → IsSafe live own u → step_stored weigh limit code handling s ≡ Finished rs c (s.copies + adds p)
      go (Onward r) is m f = absurd m
      go (Finished rs' c' n) is m f = is ∙ (ap (λ x. Finished x c' n) m.0 ∙ (ap (λ x. Finished rs x n) m.1 ∙ ap (λ x. Finished rs c x) m.2))
      go AtLimit is m f = absurd m
      go Stuck is m f = absurd f

  over-stored : (s : Stored) (p : State) → Alike s p → step limit code p ≡ Over → step_stored weigh limit code handling s ≡ AtLimit
  over-stored s p a e = go (step_stored weigh limit code handling s) refl (subst (λ x. Matches (s.copies + adds p) (step_stored weigh limit code handling s) x) e (matched s p a)) (safe s p a)
    where
      go : (u : StoredOutcome) → step_stored weigh limit code handling s ≡ u → Matches (s.copies + adds p) u Over → IsSafe live own u → step_stored weigh limit code handling s ≡ AtLimit
      go (Onward r) is m f = absurd m
      go (Finished rs c n) is m f = absurd m
      go AtLimit is m f = is
      go Stuck is m f = absurd f

  -- and the other way round
  pub step-valued : (s r : Stored) (p : State) → Alike s p → step_stored weigh limit code handling s ≡ Onward r → (t : State) × (step limit code p ≡ Goes t) × Alike r t × (r.copies ≡ s.copies + adds p)
  step-valued s r p a e =
      go (step limit code p) refl (subst (λ x. Matches (s.copies + adds p) x (step limit code p)) e (matched s p a)) (subst (IsSafe live own) e (safe s p a))
    where
      go : (u : Outcome) → step limit code p ≡ u → Matches (s.copies + adds p) (Onward r) u → IsSafe live own (Onward r) → (t : State) × (step limit code p ≡ Goes t) × Alike r t × (r.copies ≡ s.copies + adds p)
      go (Goes t) is m f = (t, is, record { pc_is = m.0; base_is = m.1; calls_are = m.2; fires_are = m.3; fits = m.5; below = m.6; supplied = f; known = still-known s p t a is }, m.4)
      go (Ends rs c) is m f = absurd m
      go Over is m f = absurd m

  pub end-valued : (s : Stored) (p : State) (rs : List Carried) (c n : ℕ) → Alike s p → step_stored weigh limit code handling s ≡ Finished rs c n → (step limit code p ≡ Ends rs c) × (n ≡ s.copies + adds p)
  end-valued s p rs c n a e = go (step limit code p) refl (subst (λ x. Matches (s.copies + adds p) x (step limit code p)) e (matched s p a))
    where
      go : (u : Outcome) → step limit code p ≡ u → Matches (s.copies + adds p) (Finished rs c n) u → (step limit code p ≡ Ends rs c) × (n ≡ s.copies + adds p)
      go (Goes t) is m = absurd m
      go (Ends rs' c') is m = (is ∙ (ap (λ x. Ends x c') (sym m.0) ∙ ap (λ x. Ends rs x) (sym m.1)), m.2)
      go Over is m = absurd m

  run-stored : (p t : State) (x : ℕ) → Reaches weigh limit code p t x → (s : Stored) → Alike s p → (r : Stored) × ReachesStored weigh limit code handling s r × Alike r t × (r.copies ≡ s.copies + x)
  run-stored _ _ _ (stays p) s a = (s, rests s, a, omega arith)
  run-stored _ _ _ (goes_on p t q x e b) s a =
      let y = step-stored s p t a e in
      let z = run-stored t q x b y.0 y.2 in
      let m = y.3 in
      let n = z.3 in
      (z.0, walks s y.0 z.0 y.1 z.1, z.2, omega (arith, m, n))

  run-valued : (s r : Stored) → ReachesStored weigh limit code handling s r → (p : State) → Alike s p → (t : State) × (x : ℕ) × Reaches weigh limit code p t x × Alike r t × (r.copies ≡ s.copies + x)
  run-valued _ _ (rests s) p a = (p, 0, stays p, a, omega arith)
  run-valued _ _ (walks s r q e b) p a =
      let y = step-valued s r p a e in
      let z = run-valued r q b y.0 y.2 in
      let m = y.3 in
      let n = z.4 in
      (z.0, adds p + z.1, goes_on p y.0 z.0 z.1 y.1 z.2, z.3, omega (arith, m, n))

module _ (weigh : Weigh) (limit : ℕ) (code : Code) where
  goes-ends : (t : State) (x : Outcome) (rs : List Carried) (c : ℕ) → x ≡ Goes t → x ≡ Ends rs c → ⊥
  goes-ends t x rs c a b = clash (sym a ∙ b)
    where
      clash : Goes t ≡ Ends rs c → ⊥
      clash e = cc

  same-goes : (t q : State) (x : Outcome) → x ≡ Goes t → x ≡ Goes q → t ≡ q
  same-goes t q x a b = one (sym a ∙ b)
    where
      one : Goes t ≡ Goes q → t ≡ q
      one e = cc

  pub ends-in : (p t : State) (x : ℕ) (rs : List Carried) (c : ℕ) → Reaches weigh limit code p t x → step limit code t ≡ Ends rs c → (k : ℕ) × EndsIn k limit code p rs c
  ends-in _ _ _ rs c (stays p) e = (0, e)
  ends-in _ _ _ rs c (goes_on p t q x d b) e = let y = ends-in t q x rs c b e in (suc y.0, (t, d, y.1))

  -- what is added to the end is one
  pub one-sum : (p t r : State) (x y : ℕ) (rs ls : List Carried) (c d : ℕ) → Reaches weigh limit code p t x → step limit code t ≡ Ends rs c → Reaches weigh limit code p r y → step limit code r ≡ Ends ls d
      → x + added weigh (code t.pc) t.pc t.base t.cells ≡ y + added weigh (code r.pc) r.pc r.base r.cells
  one-sum _ _ _ _ _ rs ls c d (stays p) e (stays _) f = refl
  one-sum _ _ _ _ _ rs ls c d (stays p) e (goes_on _ q r y g b) f = absurd (goes-ends q (step limit code p) rs c g e)
  one-sum _ _ _ _ _ rs ls c d (goes_on p q t x g a) e (stays _) f = absurd (goes-ends q (step limit code p) ls d g f)
  one-sum _ _ _ _ _ rs ls c d (goes_on p q t x g a) e (goes_on _ q' r y h b) f =
      let same = same-goes q' q (step limit code p) h g in
      let s = one-sum q t r x y rs ls c d a e (subst (λ z. Reaches weigh limit code z r y) same b) f in
      let here = added weigh (code p.pc) p.pc p.base p.cells in
      omega (arith, s)

module _ (s : Storage) (X : Layout) (handling : ℕ → Handling) (facts : ℕ → List Fact) (live own : Live) (limit : ℕ) (is : IsStoredCode s X handling facts live own) (f : ℕ) (ins : List Carried) (h : Heap) (cells : Cells) (begins : Begins X facts live own f ins h cells) where
  abbrev pub start : State
  start = entered X f cells

  abbrev begun : Stored
  begun = entered_stored X f h

  pub alike : Alike X.weigh limit X.code handling facts live own is.handled is.preserves is.lively begun start
  alike =
      record {
        pc_is = refl;
        base_is = refl;
        calls_are = refl;
        fires_are = refl;
        fits = begins.fits;
        below = tt;
        supplied = begins.supplied;
        known = record { here = begins.known; waiting = tt };
      }

  -- sums by the weights of the code are copies
  copies-of : (rs : List Carried) (c sum : ℕ) → IsRecorded X f ins rs c sum → IsCopied s X f ins rs c sum
  copies-of rs c sum r = (r.0, r.1, r.2, (sum, same-totals X.network X.weights (copying s) is.weighs r.0 f ins sum r.3, refl))

  -- an end of the machine on values is one of this machine
  ends-stored : (rs : List Carried) (c sum : ℕ) → EndsAdding X.weigh limit X.code start rs c sum → EndsStored X handling limit begun rs c sum
  ends-stored rs c sum run =
      let y = run-stored X.weigh limit X.code handling facts live own is.handled is.preserves is.lively start run.0 run.1 run.2 begun alike in
      let ends = end-stored X.weigh limit X.code handling facts live own is.handled is.preserves is.lively y.0 run.0 rs c y.2 run.3 in
      let n = y.3 in
      let total = run.4 in
      let same : y.0.copies + added X.weigh (X.code run.0.pc) run.0.pc run.0.base run.0.cells ≡ sum = omega (arith, n, total) in
      (y.0, y.1, ends ∙ ap (λ z. Finished rs c z) same)

  limit-stored : ComesToLimit X limit start → StopsStored X handling limit begun
  limit-stored run =
      let y = run-stored X.weigh limit X.code handling facts live own is.handled is.preserves is.lively start run.0 run.1 run.2 begun alike in
      (y.0, y.1, over-stored X.weigh limit X.code handling facts live own is.handled is.preserves is.lively y.0 run.0 y.2 run.3)

pub store-exact : IsStoreExact
store-exact s X handling facts live own limit is orderly inorder f ins h cells in_f many begins e c costs le =
    let x = exact X limit is.coded orderly inorder f ins cells in_f many begins.hold e c costs le in
    (x.0, x.1, ends-stored s X handling facts live own limit is f ins h cells begins x.0 c x.1 x.2, copies-of s X handling facts live own limit is f ins h cells begins x.0 c x.1 x.3)

pub store-ends-recorded : AreStoreEndsRecorded
store-ends-recorded s X handling facts live own limit is orderly inorder f ins rs c copies h cells in_f many begins ends =
    let p = start s X handling facts live own limit is f ins h cells begins in
    let y = run-valued X.weigh limit X.code handling facts live own is.handled is.preserves is.lively (entered_stored X f h) ends.0 ends.1 p (alike s X handling facts live own limit is f ins h cells begins) in
    let z = end-valued X.weigh limit X.code handling facts live own is.handled is.preserves is.lively ends.0 y.0 rs c copies y.3 ends.2 in
    let k = ends-in X.weigh limit X.code p y.0 y.1 rs c y.2 z.0 in
    let x = ends-recorded X limit is.coded orderly inorder k.0 f ins rs c cells in_f many begins.hold k.1 in
    let run = x.1 in
    let one = one-sum X.weigh limit X.code p y.0 run.0 y.1 run.1 rs rs c c y.2 z.0 run.2 run.3 in
    let n = y.4 in
    let m = z.1 in
    let total = run.4 in
    let sum : x.0 ≡ copies = omega (arith, one, n, m, total) in
    (subst (IsCopied s X f ins rs c) sum (copies-of s X handling facts live own limit is f ins h cells begins rs c x.0 x.2), x.3)

pub store-decided : AreStoreRunsDecided
store-decided s X handling facts live own end many limit is inside orderly inorder f ins h cells in_f as_many begins =
    go (decided X end many limit is.coded inside orderly inorder f ins cells in_f as_many begins.hold)
  where
    go : ((k : ℕ) × (rs : List Carried) × (c : ℕ) × (sum : ℕ) × EndsIn k limit X.code (entered X f cells) rs c × IsRecorded X f ins rs c sum × (c ≤ limit))
        ⊎ (ComesToLimit X limit (entered X f cells) × ((d c : ℕ) → Costs X.network d f ins c → limit < c))
        → ((rs : List Carried) × (c : ℕ) × (copies : ℕ) × EndsStored X handling limit (entered_stored X f h) rs c copies × IsCopied s X f ins rs c copies × (c ≤ limit))
        ⊎ (StopsStored X handling limit (entered_stored X f h) × ((d c : ℕ) → Costs X.network d f ins c → limit < c))
    go (inl x) =
        let r = ends-recorded X limit is.coded orderly inorder x.0 f ins x.1 x.2 cells in_f as_many begins.hold x.4 in
        inl (x.1, x.2, r.0, ends-stored s X handling facts live own limit is f ins h cells begins x.1 x.2 r.0 r.1, copies-of s X handling facts live own limit is f ins h cells begins x.1 x.2 r.0 r.2, r.3)
    go (inr x) = inr (limit-stored s X handling facts live own limit is f ins h cells begins x.0, x.1)

-- ---- units

pub unit-decided : AreUnitRunsDecided
unit-decided u X handling facts live own end many limit ready sound same inorder is inside f ins h cells in_f as_many begins =
    go (store-decided (storage_of u) X handling facts live own end many limit is inside
    (subst AreOrderly (sym same) (units-orderly u ready (sound-in-order u sound))) (subst (λ z. AreInOrder z X.order) (sym same) inorder) f ins h cells in_f as_many begins)
  where
    go : ((rs : List Carried) × (c : ℕ) × (copies : ℕ) × EndsStored X handling limit (entered_stored X f h) rs c copies × IsCopied (storage_of u) X f ins rs c copies × (c ≤ limit))
        ⊎ (StopsStored X handling limit (entered_stored X f h) × ((d c : ℕ) → Costs X.network d f ins c → limit < c))
        → ((rs : List Carried) × (c : ℕ) × (copies : ℕ) × EndsStored X handling limit (entered_stored X f h) rs c copies × IsOfUnit u f ins rs c copies × (c ≤ limit))
        ⊎ (StopsStored X handling limit (entered_stored X f h) × ((d c : ℕ) → Costs (network u) d f ins c → limit < c))
    go (inl x) =
        let r = x.4 in
        inl (
          x.0,
          x.1,
          x.2,
          x.3,
          ((r.0, subst (λ z. Means z r.0 f ins x.0) same r.1, subst (λ z. Costs z r.0 f ins x.1) same r.2), (r.0, subst (λ z. Copies (storage_of u) z r.0 f ins (capped x.2)) same r.3)),
          x.5,
        )
    go (inr x) = inr (x.0, λ d c costs. x.1 d c (subst (λ z. Costs z d f ins c) (sym same) costs))

-- ---- how a run begins

pub runs-begin : DoRunsBegin
runs-begin X facts live own f ins none lives owns =
    record {
      hold = λ i lt. refl;
      fits = record { agrees = λ i full. agree i (ltb i (length ins)) full; refers = λ i j v e. absurd (refer i j v (ltb i (length ins)) e) };
      supplied = record {
        full = record { here = λ i l. ap is_full (there (0 + i) (inside i (lives i l))); waiting = tt };
        owned = record { here = λ i l. ap is_owner (there (0 + i) (inside i (owns i l))); waiting = tt };
      };
      known = subst (AllOf (IsTrue 0 (λ i. get_or ins i Unfilled))) (sym none) tt;
    }
  where
    inside : (i : ℕ) → i < length ins → 0 + i < length ins
    inside i lt = omega (arith, lt)

    there : (i : ℕ) → i < length ins → first_cells ins i ≡ Owns (get_or ins i Unfilled)
    there i lt = ap (λ b. if b then Owns (get_or ins i Unfilled) else Empty) (lt-ltb i (length ins) lt)

    agree : (i : ℕ) (b : Bool) → IsOwner (if b then Owns (get_or ins i Unfilled) else Empty) → owned_in (if b then Owns (get_or ins i Unfilled) else Empty) ≡ get_or ins i Unfilled
    agree i true full = refl
    agree i false full = absurd full

    refer : (i j : ℕ) (v : View) (b : Bool) → (if b then Owns (get_or ins i Unfilled) else Empty) ≡ Refers j v → ⊥
    refer i j v true e = cc
    refer i j v false e = cc
