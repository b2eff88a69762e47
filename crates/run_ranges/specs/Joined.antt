-- Ranges one behind the other: the rows of both are those of the range that they are together, their costs add up, and what is collected
-- of each of them, from nothing on, is joined.
use Rattle.std.specs.Prelude.{◌≡◌, ℕ, ◌+◌, List, [], ◌∷◌, ◌++◌}
use Rattle.graph_meaning.specs.Carried.{Carried, Many}
use Rattle.graph_meaning.specs.Demand.{Network}
use Rattle.run_code.specs.Collections.{Collect, Final, Sifts, nothing_in}
use Rattle.run_ranges.specs.Ranges.{AreRowsOfRecord, put_rows, rows_from}

abbrev pub AreRangesCut : Type 0
AreRangesCut = (u : Network) (g i k l : ℕ) (ks ms : List Carried) (results : List (List Carried)) (cost : ℕ) → AreRowsOfRecord u g (rows_from i (k + l) ks ms) results cost
    → (first : List (List Carried)) × (second : List (List Carried)) × (c : ℕ) × (d : ℕ)
    × AreRowsOfRecord u g (rows_from i k ks ms) first c × AreRowsOfRecord u g (rows_from (i + k) l ks ms) second d × (results ≡ first ++ second) × (cost ≡ c + d)

-- of two collections of a result: the values of both, or the error of the first one that has one; or the last value of the second
abbrev pub joined : Collect → Carried → Carried → Carried
joined (Sifts j mask) (Many vs) (Many ws) = Many (vs ++ ws)
joined (Sifts j mask) (Many vs) k = k
joined (Sifts j mask) m k = m
joined (Final j) m k = k

abbrev pub joined_all : List Collect → List Carried → List Carried → List Carried
joined_all [] ms ks = []
joined_all (c ∷ cs) [] ks = []
joined_all (c ∷ cs) (m ∷ ms) [] = []
joined_all (c ∷ cs) (m ∷ ms) (k ∷ ks) = joined c m k ∷ joined_all cs ms ks

-- where the second range has a row
abbrev pub DoCollectionsJoin : Type 0
DoCollectionsJoin = (cs : List Collect) (first : List (List Carried)) (row : List Carried) (others : List (List Carried))
    → put_rows cs (first ++ row ∷ others) (nothing_in cs) ≡ joined_all cs (put_rows cs first (nothing_in cs)) (put_rows cs (row ∷ others) (nothing_in cs))
