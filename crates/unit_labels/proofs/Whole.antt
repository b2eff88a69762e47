-- Whatever the lines and the headers of a program carry is met.
use Rattle.std.proofs.Common.{◌≡◌, ℕ, zero, suc, ◌+◌, ◌<◌, inl, inr, List, [], ◌∷◌, length, get_or, slice_get, Some, sym, ap, subst, arith}
use Rattle.std.specs.Prelude.{Contains}
use Rattle.std.proofs.lemmas.List.Elements.{All-contains}
use Rattle.typed_tree.specs.declared.program.Function.{Function}
use Rattle.typed_tree.specs.declared.program.Program.{Program}
use Rattle.lowering.specs.declared.feed.Carried.{Carried}
use Rattle.lowering.specs.declared.feed.Carried.TheVariants.{Callee}
use Rattle.lowering.specs.Graphs.{graph_lines}
use Rattle.lowering.specs.Programs.{functions_lowered}
use Rattle.lowering.specs.Types.{basics, needs, table}
use Rattle.lowering.specs.TooMany.{types_over}
use Rattle.line_types.specs.Traces.{lines_of}
use Rattle.line_types.specs.Laws.{IsTraced, AreFaultsTraced, AreLinesTraced}
use Rattle.line_types.proofs.Same.{In}
use Rattle.line_labels.specs.declared.labels.Labels.{Labels}
use Rattle.line_labels.specs.Needs.{added}
use Rattle.line_walk.proofs.Renewals.{added-has, added-keeps}
use Rattle.unit_build.specs.Labels.{unit_lines, unit_lines-is, AreLabelsOf}
use Rattle.unit_build.proofs.Labels.{labels-of}
use Rattle.unit_labels.specs.Entered.{AreEntered, callees, with_all, all_over}

-- ---- members of lists by place

from-place : (xs : List Carried) (k : ℕ) (c d : Carried) → k < length xs → get_or xs k d ≡ c → In c xs
from-place [] k c d below is = absurd (omega (arith, below))
from-place (x ∷ xs) zero c d below is = inl (sym is)
from-place (x ∷ xs) (suc k) c d below is = inr (from-place xs k c d (omega (arith, below)) is)

place-of : (xs : List Carried) (c : Carried) → In c xs → Contains xs c
place-of [] c i = absurd i
place-of (x ∷ xs) c (inl e) = (0, omega arith, sym e)
place-of (x ∷ xs) c (inr i) = let r = place-of xs c i in (suc r.0, omega (arith, r.1), r.2)

-- the name of each function is among them
callee-in : (fs : List Function) (first place : ℕ) (f : Function) → slice_get fs place ≡ Some f → In (Callee (first + place)) (callees first fs)
callee-in [] first place f there = absurd cc
callee-in (g ∷ fs) first zero f there = inl (ap Callee (omega arith))
callee-in (g ∷ fs) first (suc place) f there =
    let next : suc first + place ≡ first + suc place = omega arith in
    inr (subst (λ (n : ℕ). In (Callee n) (callees (suc first) fs)) next (callee-in fs (suc first) place f there))

start : (n : ℕ) → 0 + n ≡ n
start n = omega arith

module _ (p : Program) where
  pub whole : AreLinesTraced → (l : Labels) → AreEntered p l → l.table ≡ table p → l.needs ≡ added (added [] (callees 0 p.functions)) (lines_of p.types p.functions) → AreLabelsOf p l
  whole lines l h e is = labels-of p l e h.labels line header
    where
      among : (c : Carried) → In c (added (added [] (callees 0 p.functions)) (lines_of p.types p.functions)) → Contains l.needs c
      among c i = place-of l.needs c (subst (In c) (sym is) i)

      line : (c : Carried) → Contains (unit_lines p) c → Contains l.needs c
      line c i =
          let at : Contains (graph_lines (functions_lowered p)) c = subst (λ (cs : List Carried). Contains cs c) (unit_lines-is p) i in
          let there = All-contains (Contains (lines_of p.types p.functions)) (graph_lines (functions_lowered p)) c (lines p) at in
          among c (added-has (added [] (callees 0 p.functions)) (lines_of p.types p.functions) c (from-place (lines_of p.types p.functions) there.0 c c there.1 there.2))

      header : (place : ℕ) (f : Function) → slice_get p.functions place ≡ Some f → Contains l.needs (Callee place)
      header place f there =
          among (Callee place) (added-keeps (added [] (callees 0 p.functions)) (lines_of p.types p.functions) (Callee place)
          (added-has [] (callees 0 p.functions) (Callee place)
          (subst (λ (n : ℕ). In (Callee n) (callees 0 p.functions)) (start place) (callee-in p.functions 0 place f there))))

-- the table of a program is that of the walk
pub all-traced : IsTraced → (p : Program) → with_all p basics ≡ table p
unfolding with_all
all-traced h p = sym (h p)

-- and so is the function at which it is too large
pub over-traced : AreFaultsTraced → (p : Program) → types_over (needs p) basics ≡ all_over p basics
unfolding all_over
over-traced h p = h p
