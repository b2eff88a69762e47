-- One function more.
use Rattle.std.proofs.Common.{◌≡◌, ◌<◌, ◌≤◌, ◌+◌, ℕ, suc, List, ◌∷◌, drop, length, get_or, Some, sym, ap, ◌∙◌, arith}
use Rattle.std.proofs.lemmas.List.{drop_more}
use Rattle.typed_tree.specs.declared.program.Function.{Function}
use Rattle.typed_tree.specs.declared.program.Program.{Program}
use Rattle.lowering.specs.declared.feed.Carried.{Carried}
use Rattle.lowering.specs.declared.feed.Carried.TheVariants.{Callee}
use Rattle.lowering.specs.Types.{Table, Need, with_needs}
use Rattle.lowering.specs.TooMany.{most_types, types_over}
use Rattle.line_types.specs.Traces.{function_lines, lines_of}
use Rattle.line_labels.specs.Needs.{put, added}
use Rattle.line_walk.proofs.Added.{added_both}
use Rattle.unit_labels.specs.declared.faults.TypesFault.{TypesFault}
use Rattle.unit_labels.specs.declared.faults.TypesFault.TheVariants as fault
use Rattle.unit_labels.specs.Faults.{AtLine}
use Rattle.unit_labels.specs.Entered.{callees}
use Rattle.unit_labels.proofs.Entering.{over-more, over-stop}

-- what is left begins with the function of a place
pub next : (fs : List Function) (i : ℕ) (f : Function) → i < length fs → f ≡ get_or fs i f → drop i fs ≡ f ∷ drop (i + 1) fs
next fs i f below is = drop_more fs i f below ∙ ap (λ x. x ∷ drop (i + 1) fs) (sym is)

-- what is left for these functions, the first of which comes first
module _ (one : Function → Need) (left : List Function → List Need) (front : (f : Function) (fs : List Function) → left (f ∷ fs) ≡ one f ∷ left fs) where
  pub step-table : (fs : List Function) (i : ℕ) (f : Function) (ts later : Table) → drop i fs ≡ f ∷ drop (i + 1) fs → later ≡ (one f).enters ts
      → with_needs (left (drop (i + 1) fs)) later ≡ with_needs (left (drop i fs)) ts
  step-table fs i f ts later cons made =
      ap (with_needs (left (drop (i + 1) fs))) made
      ∙ sym (ap (λ (l : List Function). with_needs (left l) ts) cons ∙ ap (λ (ns : List Need). with_needs ns ts) (front f (drop (i + 1) fs)))

  first : (fs : List Function) (i : ℕ) (f : Function) (ts : Table) → drop i fs ≡ f ∷ drop (i + 1) fs → types_over (left (drop i fs)) ts ≡ types_over (one f ∷ left (drop (i + 1) fs)) ts
  first fs i f ts cons = ap (λ (l : List Function). types_over (left l) ts) cons ∙ ap (λ (ns : List Need). types_over ns ts) (front f (drop (i + 1) fs))

  pub step-within : (fs : List Function) (i : ℕ) (f : Function) (ts later : Table) → drop i fs ≡ f ∷ drop (i + 1) fs → later ≡ (one f).enters ts → length later ≤ most_types
      → types_over (left (drop (i + 1) fs)) later ≡ types_over (left (drop i fs)) ts
  step-within fs i f ts later cons made few =
      let same : length later ≡ length ((one f).enters ts) = ap length made in
      let within : length ((one f).enters ts) ≤ most_types = omega (arith, few, same) in
      ap (types_over (left (drop (i + 1) fs))) made ∙ (sym (over-more (one f) (left (drop (i + 1) fs)) ts within) ∙ sym (first fs i f ts cons))

  pub step-stop : (fs : List Function) (i : ℕ) (f : Function) (ts : Table) → drop i fs ≡ f ∷ drop (i + 1) fs → most_types < length ((one f).enters ts)
      → types_over (left (drop i fs)) ts ≡ Some (one f).line
  step-stop fs i f ts cons past = first fs i f ts cons ∙ over-stop (one f) (left (drop (i + 1) fs)) ts past

-- the name of a function more
pub step-callee : (fs : List Function) (i : ℕ) (f : Function) (ks later : List Carried) → drop i fs ≡ f ∷ drop (i + 1) fs → later ≡ put ks (Callee i)
    → added later (callees (i + 1) (drop (i + 1) fs)) ≡ added ks (callees i (drop i fs))
step-callee fs i f ks later cons made =
    let up : i + 1 ≡ suc i = omega arith in
    ap (λ (l : List Carried). added l (callees (i + 1) (drop (i + 1) fs))) made
    ∙ (ap (λ (n : ℕ). added (put ks (Callee i)) (callees n (drop (i + 1) fs))) up ∙ sym (ap (λ (l : List Function). added ks (callees i l)) cons))

-- what the lines of a function more carry
pub step-lines : (p : Program) (fs : List Function) (i : ℕ) (f : Function) (ks later : List Carried) → drop i fs ≡ f ∷ drop (i + 1) fs → later ≡ added ks (function_lines p.types f)
    → added later (lines_of p.types (drop (i + 1) fs)) ≡ added ks (lines_of p.types (drop i fs))
step-lines p fs i f ks later cons made =
    ap (λ (l : List Carried). added l (lines_of p.types (drop (i + 1) fs))) made
    ∙ (sym (added_both ks (function_lines p.types f) (lines_of p.types (drop (i + 1) fs))) ∙ sym (ap (λ (l : List Function). added ks (lines_of p.types l)) cons))

-- what is said of the line of one fault is said of that of another
pub passed : (P Q : ℕ → Type 0) → ((line : ℕ) → P line → Q line) → (e : TypesFault) → AtLine P e → AtLine Q e
passed P Q h (fault.TooMany line) says = h line says
passed P Q h fault.NoMemory says = tt
