-- The iterations of a ForAll as so many workers cut them: at most four slices for each, none of them empty.
use Rattle.std.specs.Prelude.{ℕ, ◌-◌, ◌<◌, List, take, drop, length, map}
use Rattle.forall_slicer.specs.declared.Slice.{Slice}
use Rattle.forall_slicer.specs.Slices.{slices}
use Rattle.graph_meaning.specs.Carried.{Carried}
use Rattle.graph_meaning.specs.Demand.{Cut, IsCut}

abbrev pub iterations_of : List (List Carried) → Slice → List (List Carried)
iterations_of rows slice = take (slice.to - slice.from) (drop slice.from rows)

abbrev pub sliced : (workers : ℕ) → Cut
sliced workers rows = map (iterations_of rows) (slices (length rows) workers)

-- so all laws of every cut hold of the slices for each number of workers
abbrev pub AreSlicesCuts : Type 0
AreSlicesCuts = (workers : ℕ) → 0 < workers → IsCut (sliced workers)
