-- Runs of the code of a unit are those of the code that is made of its plan.
use Rattle.std.proofs.Common.{◌≡◌, ℕ, suc, ◌<◌, ◌≤◌, ◌⊎◌, inl, inr, Bool, true, List, [], length, get_or, refl, sym, ◌∙◌, subst, arith}
use Rattle.if1_graph.specs.declared.graph.Unit1.{Unit1}
use Rattle.if1_graph.specs.Ready.{IsReady}
use Rattle.if1_marks.proofs.Taken.{sound-in-order}
use Rattle.graph_meaning.specs.Carried.{Carried, Unfilled}
use Rattle.graph_meaning.specs.Demand.{Network, Vertex}
use Rattle.graph_meaning.specs.Entered.{IsIn}
use Rattle.graph_meaning.specs.Networks.{network}
use Rattle.graph_meaning.specs.Plain.{Costs}
use Rattle.graph_meaning.specs.StorageUnits.{storage_of}
use Rattle.ordered_meaning.specs.Orders.{AreInOrder}
use Rattle.run_code.specs.Cells.{At, Lit, cells_at}
use Rattle.run_code.specs.Coded.{Layout}
use Rattle.run_code.specs.Machine.{State, Weigh}
use Rattle.run_code.specs.Made.{Plan}
use Rattle.run_code.specs.Steps as steps
use Rattle.run_laws.specs.Facts.{Fact, Preserves}
use Rattle.run_made.specs.Plans.{IsRightPlan, Weighing, laid}
use Rattle.run_store.specs.Effects.{reads_of}
use Rattle.run_store.specs.Lively.{IsLively, Live}
use Rattle.run_store.specs.Refines.{IsHandled}
use Rattle.run_store.specs.Stored as stored
use Rattle.run_store.specs.Whole.{Begins, EndsStored, IsOfUnit, ReachesStored, StopsStored, entered_stored, first_cells, rests, walks}
use Rattle.run_store.proofs.Whole.{Alike, alike, runs-begin, start, step-valued}
use Rattle.made_store.proofs.Alive.{where-sound}
use Rattle.made_store.proofs.Functions.{entries-open}
use Rattle.made_store.proofs.Owned.{cells-is}
use Rattle.made_store.proofs.Settling.{functions-so, stand-in}
use Rattle.made_store.proofs.Units.{made-stored}
use Rattle.made_store.specs.Settings.{FunctionsSet, Shares}
use Rattle.made_store.specs.Shared.{IsShared}
use Rattle.made_store.specs.Settled.{functions_settings, handling_of, live_of, own_of}
use Rattle.unit_plan.proofs.Right.{plans-right}
use Rattle.unit_plan.proofs.Weights.{weights-alike}
use Rattle.unit_plan.specs.Plans.{Tables, functions_of, levels_of, plan_of}
use Rattle.unit_plan.specs.Shares.{shares_of, weighing}
use Rattle.plan_shares.proofs.Right.{shares-right}
use Rattle.plan_shares.proofs.Runs.{runs-decided}
use Rattle.step_code.specs.declared.code.Code.{Code}
use Rattle.step_code.specs.declared.step.Step.TheVariants as step
use Rattle.step_code.specs.Laid as laid_code
use Rattle.sequential_run.specs.Loading.{AreLentBelow}
use Rattle.sequential_run.specs.Runs.{IsDecided, weigh_of}
use Rattle.unit_runs.proofs.Alike.{do-alike}
use Rattle.unit_runs.proofs.Graphs.{graphs-bare}
use Rattle.unit_runs.proofs.Literals.{step-bare}
use Rattle.unit_runs.proofs.Uncopied.{made-bare}
use Rattle.unit_runs.specs.Alike.{AreAlike, AreLiteralsBare}
use Rattle.unit_runs.specs.Units.{may_be_literal}
use Rattle.unit_runs.specs.Runs.{AreUnitCodeRunsRecorded, CountsCopies, IsUnitCode}

-- ---- machines of which each step is the same

module _ (weigh other : Weigh) (limit : ℕ) (code same : steps.Code) (handling as_well : ℕ → stored.Handling)
    (one : (s : stored.Stored) → stored.step_stored weigh limit code handling s ≡ stored.step_stored other limit same as_well s) where
  reaches-same : (s t : stored.Stored) → ReachesStored weigh limit code handling s t → ReachesStored other limit same as_well s t
  reaches-same _ _ (rests s) = rests s
  reaches-same _ _ (walks s t r e b) = walks s t r (sym (one s) ∙ e) (reaches-same t r b)

-- ---- one end

data IsLast : stored.StoredOutcome → Type 0 where
  finished : (rs : List Carried) (f c : ℕ) → IsLast (stored.Finished rs f c)
  at_limit : IsLast stored.AtLimit

not-onward : (t : stored.Stored) (o : stored.StoredOutcome) → IsLast o → o ≡ stored.Onward t → ⊥
not-onward t _ (finished rs f c) e = cc
not-onward t _ at_limit e = cc

same-on : (s t : stored.Stored) → stored.Onward s ≡ stored.Onward t → s ≡ t
same-on s t e = cc

module _ (weigh : Weigh) (limit : ℕ) (code : steps.Code) (handling : ℕ → stored.Handling) where
  abbrev goes : stored.Stored → stored.StoredOutcome
  goes s = stored.step_stored weigh limit code handling s

  one-end : (o p : stored.StoredOutcome) → IsLast o → IsLast p → (s t r : stored.Stored) → ReachesStored weigh limit code handling s t → ReachesStored weigh limit code handling s r → goes t ≡ o → goes r ≡ p → o ≡ p
  one-end o p l m _ _ _ (rests s) (rests _) e f = sym e ∙ f
  one-end o p l m _ _ _ (rests s) (walks _ v r g b) e f = absurd (not-onward v o l (sym e ∙ g))
  one-end o p l m _ _ _ (walks s v t g a) (rests _) e f = absurd (not-onward v p m (sym f ∙ g))
  one-end o p l m _ _ _ (walks s v t g a) (walks _ w r h b) e f = one-end o p l m v t r a (subst (λ z. ReachesStored weigh limit code handling z r) (same-on w v (sym h ∙ g)) b) e f

-- ---- what is lent

module _ (weigh : Weigh) (limit : ℕ) (code : steps.Code) (handling : ℕ → stored.Handling) (facts : ℕ → List Fact) (live own : Live)
    (handled : (pc : ℕ) → IsHandled weigh facts pc (code pc) (handling pc)) (preserves : (pc : ℕ) → Preserves facts pc (code pc)) (lively : (pc : ℕ) → IsLively live own (handling pc) pc (code pc)) where
  below-all : (s t : stored.Stored) → ReachesStored weigh limit code handling s t → (p : State) → Alike weigh limit code handling facts live own handled preserves lively s p → AreLentBelow t.base t.heap
  below-all _ _ (rests s) p a i j v e = let x = a.fits.refers i j v e in (x.0, x.1)
  below-all _ _ (walks s r q e b) p a i j v f = let y = step-valued weigh limit code handling facts live own handled preserves lively s r p a e in below-all r q b y.0 y.2 i j v f

-- ---- how a run begins

made-set : (P : Plan) (S : Shares) (W : Weighing) (u : Network) (order : ℕ → List Vertex) (functions : List ℕ) (n : ℕ) → IsRightPlan P W u order functions n
    → FunctionsSet P S (handling_of (functions_settings P S n functions)) (live_of (functions_settings P S n functions)) (own_of (functions_settings P S n functions)) n functions 0
made-set P S W u order functions n right =
    let ss = functions_settings P S n functions in
    functions-so P S W u order functions (handling_of ss) (live_of ss) (own_of ss) right.sized n (λ f i. (right.graphs f i).1) functions 0 (λ x i. i) (stand-in P S W u order functions ss)

begins : (u : Unit1) (P : Plan) (S : Shares) (W : Weighing) (order : ℕ → List Vertex) (functions : List ℕ) (n : ℕ) → IsRightPlan P W (network u) order functions n → ((g : ℕ) → IsShared P S W g) → (f : ℕ) (ins : List Carried) → IsIn f functions → length ins ≡ P.params f
    → (let ss = functions_settings P S n functions in
    Begins (laid P W (network u) order functions n) (λ pc. []) (live_of ss) (own_of ss) f ins (first_cells ins) (λ i. get_or ins i Unfilled))
begins u P S W order functions n right shared f ins in_f as_many =
    let ss = functions_settings P S n functions in
    let opens = entries-open P S W (network u) order functions n (handling_of ss) (live_of ss) (own_of ss) right shared (made-set P S W (network u) order functions n right) f in_f in
    runs-begin (laid P W (network u) order functions n) (λ pc. []) (live_of ss) (own_of ss) f ins refl (λ i l. first (S.has f) i (where-sound (S.has f) (cells_at 0 (P.params f)) i (opens.0 i l)))
    (λ i l. first (S.owns f) i (where-sound (S.owns f) (cells_at 0 (P.params f)) i (opens.1 i l)))
  where
    first : (test : ℕ → Bool) (i : ℕ) → (j : ℕ) × (test (suc j) ≡ true) × (get_or (cells_at 0 (P.params f)) j (Lit Unfilled) ≡ At i) → i < length ins
    first test i x =
        let y = cells-is 0 (P.params f) x.0 i x.2 in
        let lt = y.0 in
        let e = y.1 in
        omega (arith, lt, e, as_many)

-- ---- the code of a unit

module _ (u : Unit1) (order : (graph : ℕ) → List Vertex) (t : Tables) (code : Code) (limit : ℕ) (is : IsUnitCode u order t code) (counts : CountsCopies u order t code) (ready : IsReady u) (along : AreInOrder (network u) order) where
  abbrev pub X : Layout
  X = laid (plan_of u order t) (weighing u order t) (network u) order (functions_of u) (levels_of u)

  abbrev pub handling : ℕ → stored.Handling
  handling = handling_of (functions_settings (plan_of u order t) (shares_of u order) (levels_of u) (functions_of u))

  bare : (pc : ℕ) → AreLiteralsBare (handling pc).modes (reads_of (laid_code.code_of code pc))
  bare pc =
      subst (λ z. AreLiteralsBare (handling pc).modes (reads_of z)) (sym (is.steps pc))
      (made-bare (plan_of u order t) (shares_of u order) (may_be_literal u) (levels_of u) (functions_of u) (graphs-bare u order t ready along) pc)

  pub code-alike : AreAlike (weigh_of code) X.weigh (laid_code.code_of code) X.code (laid_code.handling_of code) handling
  code-alike =
      record {
        steps = is.steps;
        handled = λ pc. record { modes = is.modes pc; puts = is.puts pc; keeps = is.keeps pc; bare = step-bare code (get_or code.steps pc (step.Return 0 0)); bare_too = bare pc };
        adds = counts;
      }

  abbrev pub OfCode : stored.Stored → stored.StoredOutcome
  OfCode s = stored.step_stored (weigh_of code) limit (laid_code.code_of code) (laid_code.handling_of code) s

  abbrev pub OfPlan : stored.Stored → stored.StoredOutcome
  OfPlan s = stored.step_stored X.weigh limit X.code handling s

  pub one : (s : stored.Stored) → OfCode s ≡ OfPlan s
  one = do-alike (weigh_of code) X.weigh limit (laid_code.code_of code) X.code (laid_code.handling_of code) handling code-alike

  to-plan : (s r : stored.Stored) → ReachesStored (weigh_of code) limit (laid_code.code_of code) (laid_code.handling_of code) s r → ReachesStored X.weigh limit X.code handling s r
  to-plan = reaches-same (weigh_of code) X.weigh limit (laid_code.code_of code) X.code (laid_code.handling_of code) handling one

  to-code : (s r : stored.Stored) → ReachesStored X.weigh limit X.code handling s r → ReachesStored (weigh_of code) limit (laid_code.code_of code) (laid_code.handling_of code) s r
  to-code = reaches-same X.weigh (weigh_of code) limit X.code (laid_code.code_of code) handling (laid_code.handling_of code) (λ s. sym (one s))

  module _ (f : ℕ) (ins : List Carried) where
    abbrev s : stored.Stored
    s = entered_stored X f (first_cells ins)

    abbrev Decided : Type 0
    Decided =
        ((rs : List Carried) × (c : ℕ) × (copies : ℕ) × EndsStored X handling limit s rs c copies × IsOfUnit u f ins rs c copies × (c ≤ limit))
        ⊎ (StopsStored X handling limit s × ((d c : ℕ) → Costs (network u) d f ins c → limit < c))

    code-decided : Decided → IsDecided code limit s
    code-decided (inl x) = let e = x.3 in inl (x.0, x.1, x.2, (e.0, to-code s e.0 e.1, one e.0 ∙ e.2))
    code-decided (inr x) = let e = x.0 in inr (e.0, to-code s e.0 e.1, one e.0 ∙ e.2)

    -- the end that was told is the one that is come to
    end-recorded : Decided → (rs : List Carried) (c copies : ℕ) (r : stored.Stored) → ReachesStored X.weigh limit X.code handling s r → OfPlan r ≡ stored.Finished rs c copies → IsOfUnit u f ins rs c copies × (c ≤ limit)
    end-recorded (inl x) rs c copies r b e =
        let y = x.3 in
        let same = one-end X.weigh limit X.code handling (stored.Finished x.0 x.1 x.2) (stored.Finished rs c copies) (finished x.0 x.1 x.2) (finished rs c copies) s y.0 r y.1 b y.2 e in
        take x.0 x.1 x.2 same x.4 x.5
      where
        take : (rs' : List Carried) (c' copies' : ℕ) → stored.Finished rs' c' copies' ≡ stored.Finished rs c copies → IsOfUnit u f ins rs' c' copies' → c' ≤ limit → IsOfUnit u f ins rs c copies × (c ≤ limit)
        take rs' c' copies' same i le =
            let a : rs' ≡ rs = cc in
            let b : c' ≡ c = cc in
            let d : copies' ≡ copies = cc in
            (subst (λ z. IsOfUnit u f ins rs c z) d (subst (λ z. IsOfUnit u f ins rs z copies') b (subst (λ z. IsOfUnit u f ins z c' copies') a i)), subst (λ z. z ≤ limit) b le)
    end-recorded (inr x) rs c copies r b e =
        let y = x.0 in
        absurd (let same = one-end X.weigh limit X.code handling stored.AtLimit (stored.Finished rs c copies) at_limit (finished rs c copies) s y.0 r y.1 b y.2 e in cc)

    stop-recorded : Decided → (r : stored.Stored) → ReachesStored X.weigh limit X.code handling s r → OfPlan r ≡ stored.AtLimit → (d c : ℕ) → Costs (network u) d f ins c → limit < c
    stop-recorded (inl x) r b e =
        let y = x.3 in
        absurd (let same = one-end X.weigh limit X.code handling (stored.Finished x.0 x.1 x.2) stored.AtLimit (finished x.0 x.1 x.2) at_limit s y.0 r y.1 b y.2 e in cc)
    stop-recorded (inr x) r b e = x.1

pub runs-recorded : AreUnitCodeRunsRecorded
runs-recorded u order t code limit ready sound along tables is counts f ins in_f as_many =
    let P = plan_of u order t in
    let S = shares_of u order in
    let W = weighing u order t in
    let n = levels_of u in
    let fs = functions_of u in
    let Y = laid P W (network u) order fs n in
    let ss = functions_settings P S n fs in
    let right = plans-right u order t ready sound along tables in
    let shared = shares-right u order t ready sound along in
    let st = made-stored P S W (network u) order fs n (storage_of u) right shared (weights-alike u order t ready (sound-in-order u sound)) in
    let b = begins u P S W order fs n right shared f ins in_f as_many in
    let d = runs-decided u order t limit ready sound along tables f ins in_f as_many in
    record {
      decided = code-decided u order t code limit is counts ready along f ins d;
      lends = λ r reach. below-all Y.weigh limit Y.code (handling_of ss) (λ pc. []) (live_of ss) (own_of ss) st.handled st.preserves st.lively
          (entered_stored Y f (first_cells ins)) r (to-plan u order t code limit is counts ready along (entered_stored Y f (first_cells ins)) r reach)
          (start (storage_of u) Y (handling_of ss) (λ pc. []) (live_of ss) (own_of ss) limit st f ins (first_cells ins) (λ i. get_or ins i Unfilled) b)
          (alike (storage_of u) Y (handling_of ss) (λ pc. []) (live_of ss) (own_of ss) limit st f ins (first_cells ins) (λ i. get_or ins i Unfilled) b);
      ends = λ rs c copies e. end-recorded u order t code limit is counts ready along f ins d rs c copies e.0 (to-plan u order t code limit is counts ready along (entered_stored Y f (first_cells ins)) e.0 e.1) (sym (one u order t code limit is counts ready along e.0) ∙ e.2);
      stops = λ e. stop-recorded u order t code limit is counts ready along f ins d e.0 (to-plan u order t code limit is counts ready along (entered_stored Y f (first_cells ins)) e.0 e.1) (sym (one u order t code limit is counts ready along e.0) ∙ e.2);
    }
