-- How the iterations 0 up to n of a `for` are cut into slices.
use Rattle.std.specs.Prelude.{◌≡◌, ℕ, ◌+◌, ◌*◌, ◌/◌, ◌<◌, List, [], ◌∷◌, map, min}
use Rattle.std.specs.List.{range_with_len}
use Rattle.forall_slicer.specs.declared.Slice.{Slice}

-- at most four slices for each worker, and none for no iteration
abbrev pub slice_count : ℕ → ℕ → ℕ
slice_count n workers = min n (4 * workers)

-- where slice k of `count` begins
abbrev pub cut_point : ℕ → ℕ → ℕ → ℕ
cut_point n count k = k * n / count

abbrev pub nth_slice : ℕ → ℕ → ℕ → Slice
nth_slice n count k = record { from = cut_point n count k; to = cut_point n count (k + 1) }

abbrev pub slices : ℕ → ℕ → List Slice
slices n workers = let count = slice_count n workers in map (nth_slice n count) (range_with_len 0 count)

-- a slice begins with this iteration
abbrev pub BeginsAt : (n workers place : ℕ) → Type 0
BeginsAt n workers place = (k : ℕ) × (k < slice_count n workers) × (cut_point n (slice_count n workers) k ≡ place)

-- The slices are non-empty and follow each other from `from` up to `to`.
abbrev pub Joins : ℕ → ℕ → List Slice → Type 0
Joins from to [] = from ≡ to
Joins from to (slice ∷ later) = (slice.from ≡ from) × (slice.from < slice.to) × Joins slice.to to later
