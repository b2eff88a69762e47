-- What is kept of the values of a clause.
use Rattle.std.specs.Prelude.{◌≡◌, ℕ, List, [], ◌∷◌, map, Option, Some, None}
use Rattle.std.specs.declared.snapshot.Snapshot.{Snapshot}
use Rattle.flow_value.specs.declared.cause.Cause.{Cause}
use Rattle.flow_value.specs.declared.value.Val.{Val}
use Rattle.loop_folds.specs.Kept.{kept}
use Rattle.loop_folds.specs.SumState as sum
use Rattle.loop_folds.specs.ProductState as product
use Rattle.loop_folds.specs.ExtremeState as extreme
use Rattle.loop_folds.specs.LastState as last
use Rattle.loop_folds.specs.CatenateState as catenate
use Rattle.std.specs.Int.{int_max, int_min}
use Rattle.loop_folds.specs.Clauses.{Cell, first_failure, kept_values}
use Rattle.loop_folds.specs.declared.folding.Folding.{Folding}
use Rattle.loop_folds.specs.declared.folding.Folding.TheVariants as folding
use Rattle.loop_folds.specs.declared.making.Making.{Making}
use Rattle.loop_folds.specs.declared.making.Making.TheVariants as making

abbrev pub folding_of : Making → Folding
folding_of (making.Array vs) = folding.Array
folding_of (making.Stream vs) = folding.Stream
folding_of (making.Last s) = folding.Last
folding_of (making.Sum s) = folding.Sum
folding_of (making.Product s) = folding.Product
folding_of (making.Least s) = folding.Least
folding_of (making.Greatest s) = folding.Greatest
folding_of (making.CatenateArrays s) = folding.CatenateArrays
folding_of (making.CatenateStreams first s) = folding.CatenateStreams

-- the empty stream while there is no value
abbrev pub none_of : List Val → Option (List Val)
none_of [] = Some []
none_of (v ∷ vs) = None

-- what is kept stands for these values
abbrev pub Stands : Making → List Val → Type 0
Stands (making.Array items) vs = items ≡ kept vs
Stands (making.Stream items) vs = items ≡ kept vs
Stands (making.Last s) vs = s ≡ last.state_of vs
Stands (making.Sum s) vs = s ≡ sum.state_of vs
Stands (making.Product s) vs = s ≡ product.state_of vs
Stands (making.Least s) vs = s ≡ extreme.state_of int_min vs
Stands (making.Greatest s) vs = s ≡ extreme.state_of int_max vs
Stands (making.CatenateArrays s) vs = s ≡ catenate.state_of vs
Stands (making.CatenateStreams first s) vs = (first ≡ none_of vs) × (s ≡ catenate.state_of vs)

-- how many values a reduction has counted
abbrev pub counted : Making → ℕ
counted (making.Array items) = 0
counted (making.Stream items) = 0
counted (making.Last s) = s.count
counted (making.Sum s) = s.seen.count
counted (making.Product s) = s.seen.count
counted (making.Least s) = s.seen.count
counted (making.Greatest s) = s.seen.count
counted (making.CatenateArrays s) = s.seen.count
counted (making.CatenateStreams first s) = s.seen.count

abbrev pub told : List (Snapshot Cell) → List Cell
told snapshots = map (λ s. s.value) snapshots

-- what is kept of the cells of a clause
pub record IsMaking (failure : Option Cause) (m : Making) (cells : List Cell) : Type 0 where
  pub first : failure ≡ first_failure cells
  pub stands : failure ≡ None → Stands m (kept_values cells)
