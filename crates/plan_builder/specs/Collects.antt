-- What a returns collects for its nodes, by how they read multiples.
use Rattle.std.specs.Prelude.{ℕ, false, List, [], ◌∷◌, ◌++◌, Option, Some, None}
use Rattle.step_code.specs.declared.step.Collect.{Collect}
use Rattle.step_code.specs.declared.step.Collect.TheVariants as collect
use Rattle.plan_data.specs.declared.plan.Port.{Port}
use Rattle.plan_builder.specs.declared.ways.Reading.{Reading}
use Rattle.plan_builder.specs.declared.ways.Reading.TheVariants as reading
use Rattle.plan_builder.specs.Ways.{multiple_by}

-- a multiple whole
abbrev pub whole_of : Option ℕ → List Collect
whole_of None = []
whole_of (Some j) = collect.Sifts j None false ∷ []

-- each of those that fill these ports
abbrev pub wholes_of : (plain : ℕ) → List Port → List Collect
wholes_of plain [] = []
wholes_of plain (x ∷ xs) = whole_of (multiple_by plain x.feed) ++ wholes_of plain xs

abbrev pub collects_of : Reading → (plain : ℕ) → List Port → List Collect
collects_of (reading.Last j) plain xs = collect.Final j ∷ []
collects_of (reading.Kept j q) plain xs = collect.Sifts j (Some q) false ∷ []
collects_of reading.Whole plain xs = wholes_of plain xs
