-- What runs of the code of a unit write is what the plan's lines add.
use Rattle.std.proofs.Common.{◌≡◌, ℕ, ◌+◌, Bool, true, false, if◌then◌else◌, List, [], ◌∷◌, take, length, get_or, Option, Some, None, refl, sym, ap, ◌∙◌, subst}
use Rattle.if1_graph.specs.declared.graph.Unit1.{Unit1}
use Rattle.if1_graph.specs.Ready.{IsReady}
use Rattle.if1_graph.specs.Ops.{reducer_at}
use Rattle.if1_graph.specs.declared.op.Reducer.{Reducer}
use Rattle.if1_graph.specs.declared.op.Reducer.TheVariants as reducer
use Rattle.if1_graph.specs.declared.op.Simple.{Simple}
use Rattle.if1_graph.specs.declared.op.Simple.TheVariants as simple
use Rattle.graph_meaning.specs.Carried.{Carried, Value, Many, Spoiled, Name, Unfilled}
use Rattle.graph_meaning.specs.Demand.{Kind, Plain, Whole, Vertex}
use Rattle.graph_meaning.specs.Storage.{Storage, catenation_written, elements_of, node_written, reduction_written, written_by}
use Rattle.graph_meaning.specs.StorageUnits.{storage_of}
use Rattle.graph_meaning.specs.Networks.{network}
use Rattle.ordered_meaning.specs.Orders.{AreInOrder}
use Rattle.run_code.specs.Machine.{Weigh}
use Rattle.run_code.specs.Made.{OfInputs, OfNode, OfNothing, OfResults, OfRows, Origin}
use Rattle.run_code.specs.Steps as steps
use Rattle.run_made.specs.Plans.{adds, last_line}
use Rattle.run_store.specs.Effects.{reads_of}
use Rattle.run_store.specs.Stored as stored
use Rattle.run_store.specs.Sums.{ReachesAdding, added_by, added_stored, comes, has_come}
use Rattle.run_store.specs.Whole.{entered_stored, first_cells}
use Rattle.unit_plan.specs.Plans.{Tables}
use Rattle.unit_plan.specs.Shares.{kind_there, writing_of}
use Rattle.plan_shares.proofs.Runs.{writes-of-units}
use Rattle.step_code.specs.declared.code.Code.{Code}
use Rattle.step_code.specs.declared.step.Step.{Step}
use Rattle.step_code.specs.declared.step.Step.TheVariants as step
use Rattle.step_code.specs.declared.step.Written.{Written}
use Rattle.step_code.specs.declared.step.Written.TheVariants as written
use Rattle.step_code.specs.Laid as laid_code
use Rattle.step_code.specs.Laid.{joined, joined_by, written_at, written_in}
use Rattle.sequential_run.specs.Runs.{weigh_of}
use Rattle.sequential_run.specs.Whole.{step_at}
use Rattle.sequential_run.specs.Writes.{writes_of}
use Rattle.unit_runs.proofs.Alike.{are-read, same-seen}
use Rattle.unit_runs.proofs.QuickCode.{adds-so}
use Rattle.unit_runs.proofs.Runs.{X, code-alike, handling, one}
use Rattle.unit_runs.specs.Alike.{AddsAlike, AreRead}
use Rattle.unit_runs.specs.Runs.{CountsCopies, IsUnitCode}
use Rattle.unit_runs.specs.Writes.{AreUnitCodeWritesRecorded, CountsWrites, DoesQuickCodeWrite, plan_lines, plan_writes}

-- ---- machines of which each step is the same, and adds the same

module _ (weigh other extra more : Weigh) (limit : ℕ) (code same : steps.Code) (handling as_well : ℕ → stored.Handling)
    (one : (s : stored.Stored) → stored.step_stored weigh limit code handling s ≡ stored.step_stored other limit same as_well s) (told : (s : stored.Stored) → added_stored extra code handling s ≡ added_stored more same as_well s) where
  adding-same : (s t : stored.Stored) (n : ℕ) → ReachesAdding weigh extra limit code handling s t n → ReachesAdding other more limit same as_well s t n
  adding-same _ _ _ (has_come s) = has_come s
  adding-same _ _ _ (comes s t r x e b) = subst (λ a. ReachesAdding other more limit same as_well s r (a + x)) (sym (told s)) (comes s t r x (sym (one s) ∙ e) (adding-same t r x b))

-- ---- what has no outputs writes nothing

none-joined : (o : Option Reducer) → joined_by o [] ≡ 0
none-joined None = refl
none-joined (Some reducer.Sum) = refl
none-joined (Some reducer.Product) = refl
none-joined (Some reducer.Least) = refl
none-joined (Some reducer.Greatest) = refl
none-joined (Some reducer.Catenate) = refl

no-joined : (ks : List Carried) → joined ks [] ≡ 0
no-joined [] = refl
no-joined (Value v ∷ ks) = refl
no-joined (Many vs ∷ ks) = refl
no-joined (Spoiled c ∷ ks) = refl
no-joined (Name t ∷ ks) = none-joined (reducer_at t)
no-joined (Unfilled ∷ ks) = refl

no-written-at : (x : Written) (ks : List Carried) → written_at x ks [] ≡ 0
no-written-at written.Nothing ks = refl
no-written-at written.Elements ks = refl
no-written-at written.Catenated ks = no-joined ks

no-written : (code : Code) (x : Step) (ks : List Carried) → written_in code x ks [] ≡ 0
no-written code (step.Fire row x shape ins n out w kept k) ks = no-written-at x ks
no-written code (step.One o a out) ks = refl
no-written code (step.Two o a b out) ks = refl
no-written code (step.Int i out) ks = refl
no-written code (step.Cells o i j out) ks = refl
no-written code (step.Number o i l n out) ks = refl
no-written code (step.Element ins i p out kept k) ks = refl
no-written code (step.Replace ins i p e out kept k) ks = refl
no-written code (step.Carry begins cs froms n out next) ks = refl
no-written code (step.Sparse row g ins n out copies) ks = refl
no-written code step.Count ks = refl
no-written code (step.Bring a out next) ks = refl
no-written code (step.Move froms n out w next) ks = refl
no-written code (step.Tag a ts n content keeps out w next) ks = refl
no-written code (step.Branch a ts n out w next) ks = refl
no-written code (step.Test a turn leave out w next) ks = refl
no-written code (step.Keep begins cs k froms n out next) ks = refl
no-written code (step.Spread froms n cs k to turns out w next) ks = refl
no-written code (step.Each ms n from count kept turn leave) ks = refl
no-written code (step.Add cs k froms n out next) ks = refl
no-written code (step.Push cs froms i out next) ks = refl
no-written code (step.Call entry size cells args n out w) ks = refl
no-written code (step.Return froms n) ks = refl

module _ (s : Storage) (g l : ℕ) where
  none-reduced : (o : Option Reducer) → reduction_written s o [] ≡ 0
  none-reduced None = refl
  none-reduced (Some reducer.Sum) = refl
  none-reduced (Some reducer.Product) = refl
  none-reduced (Some reducer.Least) = refl
  none-reduced (Some reducer.Greatest) = refl
  none-reduced (Some reducer.Catenate) = refl

  none-catenated : (ks : List Carried) → catenation_written s ks [] ≡ 0
  none-catenated [] = refl
  none-catenated (Value v ∷ ks) = refl
  none-catenated (Many vs ∷ ks) = refl
  none-catenated (Spoiled c ∷ ks) = refl
  none-catenated (Name t ∷ ks) = none-reduced (reducer_at t)
  none-catenated (Unfilled ∷ ks) = refl

  either-none : (b : Bool) (n : ℕ) → n ≡ 0 → (if b then 0 else n) ≡ n
  either-none true n e = sym e
  either-none false n e = refl

  no-row : (row : Simple) (ks : List Carried) → written_by s g l row ks [] ≡ 0
  no-row (simple.One o) ks = refl
  no-row (simple.Two o) ks = refl
  no-row simple.NoOp ks = refl
  no-row simple.Error ks = refl
  no-row simple.Call ks = refl
  no-row simple.ABuild ks = refl
  no-row simple.AFill ks = refl
  no-row simple.AElement ks = refl
  no-row simple.AReplace ks = refl
  no-row simple.AAddH ks = refl
  no-row simple.AAddL ks = refl
  no-row simple.ARemH ks = refl
  no-row simple.ARemL ks = refl
  no-row simple.ASetL ks = refl
  no-row simple.AAdjust ks = refl
  no-row simple.ALimL ks = refl
  no-row simple.ALimH ks = refl
  no-row simple.ASize ks = refl
  no-row simple.AIsEmpty ks = refl
  no-row simple.ACatenate ks = either-none (s.is_joined g l) (elements_of []) refl
  no-row simple.FirstValue ks = refl
  no-row simple.RestValues ks = refl
  no-row simple.RBuild ks = refl
  no-row simple.RElements ks = refl
  no-row simple.RReplace ks = refl
  no-row simple.RangeGenerate ks = refl
  no-row simple.AScatter ks = refl
  no-row simple.AGather ks = refl
  no-row simple.FinalValue ks = refl
  no-row (simple.Reduce grouping) ks = none-catenated ks

  no-kind : (k : Kind) (ks : List Carried) → node_written s g l k ks [] ≡ 0
  no-kind (Plain row shape) ks = no-row row ks
  no-kind (Whole form) ks = refl

no-adds : (u : Unit1) (o : Origin) (ks : List Carried) → adds (writing_of u) o ks [] ≡ 0
no-adds u (OfNode g v) ks = no-kind (storage_of u) g v.label (kind_there (network u g) v) ks
no-adds u (OfInputs g v) ks = refl
no-adds u (OfResults g) ks = refl
no-adds u (OfRows b r) ks = refl
no-adds u OfNothing ks = refl

-- a step adds as much by both where a simple node does
added-alike : (v w : Weigh) (x : steps.Step) (pc : ℕ) (ks : List Carried) → ((qs : List Carried) → v pc qs [] ≡ 0) → ((qs : List Carried) → w pc qs [] ≡ 0) → AddsAlike v w pc x → AreRead (reads_of x) ks → added_by v x pc ks ≡ added_by w x pc ks
added-alike v w (steps.Fire row shape ins out width) pc ks a b s r = s ks r
added-alike v w steps.Count pc ks a b s r = refl
added-alike v w (steps.Move froms out width next) pc ks a b s r = a ks ∙ sym (b ks)
added-alike v w (steps.Tag union ts content out width next) pc ks a b s r = refl
added-alike v w (steps.Branch sel ts out width next) pc ks a b s r = refl
added-alike v w (steps.Test test turn leave out width next) pc ks a b s r = refl
added-alike v w (steps.Keep begins cs froms out next) pc ks a b s r = a (take (length froms) ks) ∙ sym (b (take (length froms) ks))
added-alike v w (steps.Spread froms cs to turns out width next) pc ks a b s r = a ks ∙ sym (b ks)
added-alike v w (steps.Each n from count turn leave) pc ks a b s r = refl
added-alike v w (steps.Add cs froms out next) pc ks a b s r = a (take (length froms) ks) ∙ sym (b (take (length froms) ks))
added-alike v w (steps.Call entry size args out width) pc ks a b s r = a ks ∙ sym (b ks)
added-alike v w (steps.Return froms) pc ks a b s r = a ks ∙ sym (b ks)

-- ---- the code of a unit

module _ (u : Unit1) (order : (graph : ℕ) → List Vertex) (t : Tables) (code : Code) (limit : ℕ) (is : IsUnitCode u order t code) (counts : CountsCopies u order t code) (ready : IsReady u) (along : AreInOrder (network u) order) (writes : CountsWrites u order t code) where
  adds-one : (s : stored.Stored) → added_stored (writes_of code) (laid_code.code_of code) (laid_code.handling_of code) s ≡ added_stored (plan_writes u order t) (X u order t code limit is counts ready along).code (handling u order t code limit is counts ready along) s
  adds-one s =
      let alike = code-alike u order t code limit is counts ready along in
      let pc = s.pc in
      let x = laid_code.code_of code pc in
      let ks = stored.seen_all s.heap s.base (laid_code.handling_of code pc).modes (reads_of x) in
      added-alike (writes_of code) (plan_writes u order t) x pc ks (no-written code (step_at code pc)) (no-adds u (get_or (plan_lines u order t) pc last_line).origin) (writes pc) (are-read s.heap s.base (laid_code.handling_of code pc).modes (reads_of x) (alike.handled pc).bare)
      ∙ (ap (added_by (plan_writes u order t) x pc) (same-seen (weigh_of code) (X u order t code limit is counts ready along).weigh limit x (laid_code.handling_of code pc) (handling u order t code limit is counts ready along pc) pc s.base s.heap s.calls s.fires s.copies (alike.handled pc) (alike.adds pc))
      ∙ ap (λ y. added_by (plan_writes u order t) y pc (stored.seen_all s.heap s.base (handling u order t code limit is counts ready along pc).modes (reads_of y))) (alike.steps pc))

pub writes-recorded : AreUnitCodeWritesRecorded
writes-recorded u order t code limit ready sound along tables is counts writes f ins rs c copies n in_f as_many e =
    let Y = X u order t code limit is counts ready along in
    let H = handling u order t code limit is counts ready along in
    let same = one u order t code limit is counts ready along in
    let told = adds-one u order t code limit is counts ready along writes in
    writes-of-units u order t limit ready sound along tables f ins rs c copies n in_f as_many (
      e.0,
      e.1,
      adding-same (weigh_of code) Y.weigh (writes_of code) (plan_writes u order t) limit (laid_code.code_of code) Y.code (laid_code.handling_of code) H same told (entered_stored Y f (first_cells ins)) e.0 e.1 e.2,
      sym (same e.0) ∙ e.3,
      e.4 ∙ ap (λ a. e.1 + a) (told e.0),
    )

-- ---- code whose steps do the same

pub quick-writes : DoesQuickCodeWrite
quick-writes u order t code quick r h pc = subst (AddsAlike (writes_of quick) (plan_writes u order t) pc) (sym (r.steps pc)) (adds-so (writes_of code) (writes_of quick) (plan_writes u order t) pc (laid_code.code_of code pc) (r.writes pc) (h pc))
