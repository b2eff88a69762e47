-- What is collected for the nodes of a returns.
use Rattle.std.proofs.Common.{◌≡◌, ℕ, zero, suc, false, List, [], ◌∷◌, ◌++◌, map, All, Option, Some, None, refl, sym, ap, ◌∙◌, arith}
use Rattle.graph_meaning.specs.Demand.{Source}
use Rattle.run_code.specs.Made.{Plan}
use Rattle.plan_data.specs.Settings.{Shares}
use Rattle.step_code.specs.declared.step.Collect.{Collect}
use Rattle.step_code.specs.Laid.{collect_in, puts_of}
use Rattle.firing_order.specs.Returns.{collects_by, multiple, whole_of, wholes}
use Rattle.plan_data.specs.declared.plan.Port.{Port}
use Rattle.plan_data.specs.declared.plan.PlanData.{PlanData}
use Rattle.plan_data.specs.Stands.{AreFed}
use Rattle.plan_builder.specs.declared.ways.Reading.{Reading}
use Rattle.plan_builder.specs.declared.ways.Reading.TheVariants as reading
use Rattle.plan_builder.specs.Collects.{collects_of, wholes_of}
use Rattle.plan_builder.specs.Collects as made
use Rattle.plan_builder.specs.Laws.{AreCollectsOfWays}
use Rattle.plan_builder.specs.Ways.{multiple_by, read_by}
use Rattle.plan_builder.proofs.Multiples.{multiple-so}

abbrev Moves : List Collect → Type 0
Moves cs = All (λ c. puts_of c ≡ false) cs

one-moves : (c : Collect) (cs : List Collect) → puts_of c ≡ false → Moves cs → Moves (c ∷ cs)
one-moves c cs e h zero d lt = e
one-moves c cs e h (suc k) d lt = h k d (omega (arith, lt))

no-moves : Moves []
no-moves k d lt = absurd (omega (arith, lt))

first-moves : (m : Option ℕ) (cs : List Collect) → Moves cs → Moves (made.whole_of m ++ cs)
first-moves None cs h = h
first-moves (Some j) cs h = one-moves _ cs refl h

wholes-move : (plain : ℕ) (xs : List Port) → Moves (wholes_of plain xs)
wholes-move plain [] = no-moves
wholes-move plain (x ∷ xs) = first-moves (multiple_by plain x.feed) (wholes_of plain xs) (wholes-move plain xs)

all-move : (r : Reading) (plain : ℕ) (xs : List Port) → Moves (collects_of r plain xs)
all-move (reading.Last j) plain xs = one-moves _ [] refl no-moves
all-move (reading.Kept j q) plain xs = one-moves _ [] refl no-moves
all-move reading.Whole plain xs = wholes-move plain xs

first-is : (m : Option ℕ) (cs : List Collect) → map collect_in (made.whole_of m ++ cs) ≡ whole_of m (map collect_in cs)
first-is None cs = refl
first-is (Some j) cs = refl

module _ (D : PlanData) (P : Plan) (S : Shares) (g plain : ℕ) where
  wholes-are : (xs : List Port) (os : List Source) → AreFed D P S g xs os → map collect_in (wholes_of plain xs) ≡ wholes plain os
  wholes-are [] [] h = refl
  wholes-are [] (o ∷ os) h = absurd h
  wholes-are (x ∷ xs) [] h = absurd h
  wholes-are (x ∷ xs) (o ∷ os) h =
      first-is (multiple_by plain x.feed) (wholes_of plain xs)
      ∙ (ap (λ m. whole_of m (map collect_in (wholes_of plain xs))) (sym (multiple-so D P S g plain x.feed o h.0)) ∙ ap (whole_of (multiple plain o)) (wholes-are xs os h.1))

  all-are : (r : Reading) (xs : List Port) (os : List Source) → AreFed D P S g xs os → map collect_in (collects_of r plain xs) ≡ collects_by (read_by r os) plain os
  all-are (reading.Last j) xs os h = refl
  all-are (reading.Kept j q) xs [] h = refl
  all-are (reading.Kept j q) xs (o ∷ []) h = refl
  all-are (reading.Kept j q) xs (o ∷ p ∷ []) h = refl
  all-are (reading.Kept j q) xs (o ∷ p ∷ r ∷ []) h = refl
  all-are (reading.Kept j q) xs (o ∷ p ∷ r ∷ s ∷ os) h = refl
  all-are reading.Whole xs os h = wholes-are xs os h

pub collects-are : AreCollectsOfWays
collects-are D P S g plain r xs os fed = (all-are D P S g plain r xs os fed, all-move r plain xs)
