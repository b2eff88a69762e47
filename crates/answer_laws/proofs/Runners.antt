-- What `if1` and `run --if1` answer to bytes is one.
use Rattle.std.proofs.Common.{◌≡◌, ◌≢◌, ◌<◌, ◌∙◌, ℕ, Bool, true, false, List, ◌++◌, Result, Ok, Err, length, refl, sym, ap, subst, arith, if◌then◌else◌}
use Rattle.if1_call.specs.Calls.{IsCanonicalOf, IsRefusedFor}
use Rattle.if1_graph.specs.declared.graph.Unit1.{Unit1}
use Rattle.if1_graph.specs.Lines.{if1_text}
use Rattle.if1_graph.specs.Ready.{IsReady}
use Rattle.if1_marks.specs.Laws.{IsUnmarkedSound}
use Rattle.if1_marks.specs.Sound.{IsSound}
use Rattle.if1_read.specs.Laws.{AcceptedHasNoFault}
use Rattle.if1_unique.specs.Laws.{IsOneUnit}
use Rattle.marks_made.specs.Units.{marks_of}
use Rattle.mean_call.specs.declared.fault.Refusal.{Refusal}
use Rattle.mean_call.specs.declared.fault.Refusal.TheVariants as refusal
use Rattle.sisal_top.specs.Calls.{Gives as GivesRun, IsRefused as HasNoTotals}
use Rattle.sisal_top.specs.RunCallTexts.{IsUnitOf as IsIf1Of, with_marks}
use Rattle.run_words.specs.declared.command.RunSet.{RunSet}
use Rattle.sisal_top.specs.Totals.{Totals}
use Rattle.unit_entry.specs.Marks.{has_marks}
use Rattle.sisal_top.specs.Outputs.{lines, totals_if}
use Rattle.sisal_top.specs.Program.{Fits, most_bytes}
use Rattle.sisal_top.specs.Status.{if1_fault, of_refusal}
use Rattle.sisal_top.specs.declared.status.Status.{Status}
use Rattle.sisal_top.specs.declared.status.Status.TheVariants as status
use Rattle.sisal_top.specs.declared.status.UnitFault.{UnitFault}
use Rattle.answer_laws.specs.Alike.{same, AreOne}
use Rattle.answer_laws.specs.Laws.{IsRunOnce}
use Rattle.answer_laws.proofs.Marked.{no_lists, no_takers}
use Rattle.answer_laws.proofs.Syntaxes.{alike_if}
use Rattle.answer_laws.proofs.Units.{faults_one, ready_refused}

long_fits : (bytes : List ℕ) → most_bytes < length bytes → Fits bytes → ⊥
long_fits bytes h f = omega (arith, h, f)

-- a reply of `if1`
pub data If1Reply (bytes : List ℕ) : Result (List ℕ) Status → Type 0 where
  long : most_bytes < length bytes → If1Reply bytes (Err status.TooLong)
  faulty : (f : UnitFault) → Fits bytes → IsRefusedFor bytes (if1_fault f) → If1Reply bytes (Err (status.If1 f))
  printed : (out : List ℕ) → Fits bytes → IsCanonicalOf bytes out → If1Reply bytes (Ok out)

-- a reply of `run --if1`
pub data RunReply (set : RunSet) (bytes : List ℕ) : Result (List ℕ) Status → Type 0 where
  too_long : most_bytes < length bytes → RunReply set bytes (Err status.TooLong)
  no_unit : (f : UnitFault) → Fits bytes → IsRefusedFor bytes (if1_fault f) → RunReply set bytes (Err (status.If1 f))
  ran : (out : List ℕ) (u : Unit1) (t : Totals) → Fits bytes → IsIf1Of bytes u → GivesRun u set t → out ≡ lines t.results ++ totals_if set.stats t → RunReply set bytes (Ok out)
  stopped : (r : Refusal) (s : Status) (u : Unit1) → r ≢ refusal.NoMemory → Fits bytes → IsIf1Of bytes u → HasNoTotals u set r → of_refusal r ≡ s → RunReply set bytes (Err s)

module _ (accepted : AcceptedHasNoFault) (one : IsOneUnit) (bytes : List ℕ) where
  canonical_one : (s t : List ℕ) → IsCanonicalOf bytes s → IsCanonicalOf bytes t → s ≡ t
  canonical_one s t a b = a.is ∙ ap if1_text (one bytes a.unit b.unit a.read b.read) ∙ sym b.is

  canonical_refused : (s : List ℕ) (f : UnitFault) → IsCanonicalOf bytes s → IsRefusedFor bytes (if1_fault f) → ⊥
  canonical_refused s f a p = ready_refused accepted one bytes f p a.unit a.read a.ready a.sound

  pub if1_one : (r s : Result (List ℕ) Status) → If1Reply bytes r → If1Reply bytes s → AreOne r s
  if1_one _ _ (long h) (long k) = same
  if1_one _ _ (long h) (faulty f k p) = absurd (long_fits bytes h k)
  if1_one _ _ (long h) (printed out k p) = absurd (long_fits bytes h k)
  if1_one _ _ (faulty f h p) (long k) = absurd (long_fits bytes k h)
  if1_one _ _ (faulty f h p) (faulty g k q) = faults_one accepted one bytes f g p q
  if1_one _ _ (faulty f h p) (printed out k q) = absurd (canonical_refused out f q p)
  if1_one _ _ (printed out h p) (long k) = absurd (long_fits bytes k h)
  if1_one _ _ (printed out h p) (faulty f k q) = absurd (canonical_refused out f p q)
  if1_one _ _ (printed out h p) (printed other k q) = canonical_one out other p q

  module _ (unmarked : IsUnmarkedSound) (once : IsRunOnce) (set : RunSet) where
    units_one : (u v : Unit1) → IsIf1Of bytes u → IsIf1Of bytes v → u ≡ v
    units_one u v a b = a.is ∙ ap with_marks (one bytes a.unit b.unit a.read b.read) ∙ sym b.is

    own_sound : (u v : Unit1) → IsReady v → u ≡ with_marks v → IsSound u → IsSound v
    own_sound u v r is s = by (has_marks v) refl (subst IsSound is s)
      where
        by : (b : Bool) → has_marks v ≡ b → IsSound (if b then v else marks_of v) → IsSound v
        by true e s = s
        by false e s = unmarked v r (no_takers v e) (no_lists v e)

    unit_refused : (f : UnitFault) (u : Unit1) → IsIf1Of bytes u → IsRefusedFor bytes (if1_fault f) → ⊥
    unit_refused f u a p = ready_refused accepted one bytes f p a.unit a.read a.ready (own_sound u a.unit a.ready a.is a.sound)

    ran_one : (out other : List ℕ) (u v : Unit1) (s t : Totals) → IsIf1Of bytes u → IsIf1Of bytes v → GivesRun u set s → GivesRun v set t
        → out ≡ lines s.results ++ totals_if set.stats s → other ≡ lines t.results ++ totals_if set.stats t → out ≡ other
    ran_one out other u v s t a b p q d e =
        d ∙ ap (λ (x : Totals). lines x.results ++ totals_if set.stats x) (once.totals v set s t (subst (λ x. GivesRun x set s) (units_one u v a b) p) q) ∙ sym e

    ran_stopped : (u v : Unit1) (t : Totals) (r : Refusal) → r ≢ refusal.NoMemory → IsIf1Of bytes u → IsIf1Of bytes v → GivesRun u set t → HasNoTotals v set r → ⊥
    ran_stopped u v t r n a b p q = n (once.either v set t r (subst (λ x. GivesRun x set t) (units_one u v a b) p) q)

    pub run_one : (r s : Result (List ℕ) Status) → RunReply set bytes r → RunReply set bytes s → AreOne r s
    run_one _ _ (too_long h) (too_long k) = same
    run_one _ _ (too_long h) (no_unit f k p) = absurd (long_fits bytes h k)
    run_one _ _ (too_long h) (ran out u t k a p e) = absurd (long_fits bytes h k)
    run_one _ _ (too_long h) (stopped r s u n k a p e) = absurd (long_fits bytes h k)
    run_one _ _ (no_unit f h p) (too_long k) = absurd (long_fits bytes k h)
    run_one _ _ (no_unit f h p) (no_unit g k q) = faults_one accepted one bytes f g p q
    run_one _ _ (no_unit f h p) (ran out u t k a q e) = absurd (unit_refused f u a p)
    run_one _ _ (no_unit f h p) (stopped r s u n k a q e) = absurd (unit_refused f u a p)
    run_one _ _ (ran out u t h a p e) (too_long k) = absurd (long_fits bytes k h)
    run_one _ _ (ran out u t h a p e) (no_unit f k q) = absurd (unit_refused f u a q)
    run_one _ _ (ran out u s h a p d) (ran other v t k b q e) = ran_one out other u v s t a b p q d e
    run_one _ _ (ran out u t h a p e) (stopped r s v n k b q d) = absurd (ran_stopped u v t r n a b p q)
    run_one _ _ (stopped r s u n h a p e) (too_long k) = absurd (long_fits bytes k h)
    run_one _ _ (stopped r s u n h a p e) (no_unit f k q) = absurd (unit_refused f u a q)
    run_one _ _ (stopped r s u n h a p e) (ran out v t k b q d) = absurd (ran_stopped v u t r n b a q p)
    run_one _ _ (stopped r s u n h a p e) (stopped o t v m k b q d) =
        alike_if s t (sym e ∙ ap of_refusal (once.refusals v set r o n m (subst (λ x. HasNoTotals x set r) (units_one u v a b) p) q) ∙ d)
