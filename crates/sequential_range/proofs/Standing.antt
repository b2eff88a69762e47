-- Where the machine stands before an iteration, so does the machine of the laws.
use Rattle.std.proofs.Common.{◌≡◌, ℕ, ◌+◌, Bool, false, ◌&&◌, inl, inr, ◌⊎◌, List, [], ◌∷◌, refl, sym, ap, ◌∙◌, subst}
use Rattle.run_code.specs.Cells.{cells_at}
use Rattle.run_code.specs.Machine.{Frame, counter}
use Rattle.run_store.specs.Effects.{reads_of}
use Rattle.run_store.specs.Stored as stored
use Rattle.run_store.specs.Whole.{rests, walks}
use Rattle.run_cells.specs.Held.{heap_of}
use Rattle.step_code.specs.declared.code.Code.{Code}
use Rattle.step_code.specs.declared.step.Step.{Step}
use Rattle.step_code.specs.declared.step.Step.TheVariants as step
use Rattle.step_code.specs.Laid.{step_in, handling_in}
use Rattle.step_code.specs.Reading.{modes_in}
use Rattle.sequential.specs.declared.machine.Machine.{Machine}
use Rattle.sequential.specs.declared.calls.OpenCall.{OpenCall}
use Rattle.sequential.specs.Agrees.{IsAt, frame_of, frames_on, frames_of}
use Rattle.sequential_run.specs.Kinds.{IsEach}
use Rattle.sequential_run.specs.Runs.{goes, Reaches}
use Rattle.sequential_run.specs.Whole.{step_at}
use Rattle.sequential_run.proofs.Going.{goes-here}
use Rattle.sequential_range.specs.Ranges.{IsBefore, IsDecided, IsBegun, Stands, count_of}

-- ---- open calls

some-frames : (os : List OpenCall) (f : Frame) (fs : List Frame) → frames_on os (f ∷ fs) ≡ [] → ⊥
some-frames [] f fs e = let x : f ∷ fs ≡ [] = e in cc
some-frames (o ∷ os) f fs e = some-frames os (frame_of o) (f ∷ fs) e

no-calls : (os : List OpenCall) → frames_of os ≡ [] → os ≡ []
no-calls [] e = refl
no-calls (o ∷ os) e = absurd (some-frames os (frame_of o) [] e)

-- ---- an Each reads its count

-- on an empty cell it does not go on
pub count-read : (code : Code) (x : Step) → IsEach x → (h : stored.Heap) (base : ℕ) → h (base + count_of x) ≡ stored.Empty → stored.are_ready h base (handling_in code x).modes (reads_of (step_in code x)) ≡ false
count-read code (step.One o a out) is h base none = absurd is
count-read code (step.Two o a b out) is h base none = absurd is
count-read code (step.Int i out) is h base none = absurd is
count-read code (step.Cells o i j out) is h base none = absurd is
count-read code (step.Number o i l n out) is h base none = absurd is
count-read code (step.Element ins i p out kept k) is h base none = absurd is
count-read code (step.Replace ins i p e out kept k) is h base none = absurd is
count-read code (step.Fire row x shape ins n out w kept k) is h base none = absurd is
count-read code (step.Sparse row g ins n out copies) is h base none = absurd is
count-read code step.Count is h base none = absurd is
count-read code (step.Bring a out next) is h base none = absurd is
count-read code (step.Move froms n out w next) is h base none = absurd is
count-read code (step.Tag a ts n content keeps out w next) is h base none = absurd is
count-read code (step.Branch a ts n out w next) is h base none = absurd is
count-read code (step.Test a turn leave out w next) is h base none = absurd is
count-read code (step.Keep begins cs k froms n out next) is h base none = absurd is
count-read code (step.Carry begins cs froms n out next) is h base none = absurd is
count-read code (step.Spread froms n cs k to turns out w next) is h base none = absurd is
count-read code (step.Each ms n from count kept turn leave) is h base none = ap (λ c. stored.is_full c && stored.are_ready h base (modes_in code ms n) (cells_at from n)) none
count-read code (step.Add cs k froms n out next) is h base none = absurd is
count-read code (step.Push cs froms i out next) is h base none = absurd is
count-read code (step.Call entry size cells args n out w) is h base none = absurd is
count-read code (step.Return froms n) is h base none = absurd is

unready : (b : Bool) (o : stored.StoredOutcome) → b ≡ false → stored.where_ready b o ≡ stored.Stuck
unready b o e = ap (λ z. stored.where_ready z o) e

module _ (code : Code) (limit each base last : ℕ) where
  at-end : (s t : stored.Stored) → Reaches code limit s t → goes code limit s ≡ stored.Stuck → IsBefore code each base last t → IsBefore code each base last s
  at-end _ _ (rests s) e b = b
  at-end _ _ (walks s v t e' r) e b = absurd (let y : stored.Stuck ≡ stored.Onward v = sym e ∙ e' in cc)

  at-limit : (s t : stored.Stored) → Reaches code limit s t → goes code limit s ≡ stored.Stuck → goes code limit t ≡ stored.AtLimit → ⊥
  at-limit _ _ (rests s) e at = let y : stored.Stuck ≡ stored.AtLimit = sym e ∙ at in cc
  at-limit _ _ (walks s v t e' r) e at = let y : stored.Stuck ≡ stored.Onward v = sym e ∙ e' in cc

  -- what is decided and does not go on is at its end
  ends-there : (s : stored.Stored) → goes code limit s ≡ stored.Stuck → IsDecided code limit each base last s → IsBefore code each base last s
  ends-there s e (inl x) = at-end s x.0 x.1.reaches e x.2
  ends-there s e (inr x) = absurd (at-limit s x.0 x.1.reaches e x.2)

  pub stands-before : IsEach (step_at code each) → (m : Machine) (s : stored.Stored) → IsBegun code limit each base last m s → Stands m each base (count_of (step_at code each)) last → IsBefore code each base last s
  stands-before is m s b x = by-count (a.within (base + count_of (step_at code each)))
    where
      a : IsAt m s
      a = b.at

      empty-stuck : s.heap (base + count_of (step_at code each)) ≡ stored.Empty → goes code limit s ≡ stored.Stuck
      empty-stuck e =
          let here : m.base + count_of (step_at code m.pc) ≡ base + count_of (step_at code each) = ap (λ z. z + count_of (step_at code m.pc)) x.block ∙ ap (λ p. base + count_of (step_at code p)) x.here in
          goes-here code limit m s a ∙ unready _ _ (count-read code (step_at code m.pc) (subst (λ p. IsEach (step_at code p)) (sym x.here) is) s.heap m.base (ap s.heap here ∙ e))

      by-count : (s.heap (base + count_of (step_at code each)) ≡ stored.Empty) ⊎ (s.heap (base + count_of (step_at code each)) ≡ heap_of m.cells.items (base + count_of (step_at code each))) → IsBefore code each base last s
      by-count (inl e) = ends-there s (empty-stuck e) b.decided
      by-count (inr e) = record { here = a.pc ∙ x.here; block = a.base ∙ x.block; alone = a.calls ∙ ap frames_of x.alone; counted = e ∙ x.counted }

  pub before-stands : (m : Machine) (s : stored.Stored) → IsAt m s → IsBefore code each base last s → Stands m each base (count_of (step_at code each)) last
  before-stands m s a b = record { here = sym a.pc ∙ b.here; block = sym a.base ∙ b.block; alone = no-calls m.calls (sym a.calls ∙ b.alone); counted = by-count (a.within (base + count_of (step_at code each))) }
    where
      by-count : (s.heap (base + count_of (step_at code each)) ≡ stored.Empty) ⊎ (s.heap (base + count_of (step_at code each)) ≡ heap_of m.cells.items (base + count_of (step_at code each))) → heap_of m.cells.items (base + count_of (step_at code each)) ≡ stored.Owns (counter last)
      by-count (inl e) = absurd (let y : stored.Empty ≡ stored.Owns (counter last) = sym e ∙ b.counted in cc)
      by-count (inr e) = sym e ∙ b.counted
