-- Ranges of the iterations of a ForAll: from before one iteration to before a later one, on the machine on values.
use Rattle.std.specs.Prelude.{◌≡◌, ℕ, ◌+◌, ◌<◌, ◌≤◌, List, [], ◌∷◌, ◌++◌, map, drop}
use Rattle.graph_meaning.specs.Carried.{Carried}
use Rattle.graph_meaning.specs.Forms.{items, places_of, rows_of}
use Rattle.graph_meaning.specs.Demand.{AreOrderly, Network}
use Rattle.graph_meaning.specs.Plain.{MeanAll, RowsFire}
use Rattle.ordered_meaning.specs.Laws.{counting}
use Rattle.ordered_meaning.specs.Orders.{AreInOrder}
use Rattle.ordered_meaning.specs.Ordered.{RowsYield, Total}
use Rattle.run_code.specs.Cells.{At, Cells, Lit, Operand, cells_from, own_cells}
use Rattle.run_code.specs.Coded.{AreCoded, ForAllIs, Layout, the_for_all, yields}
use Rattle.run_code.specs.Collections.{Collect, put_all}
use Rattle.run_code.specs.Machine.{Frame, Reaches, at, counter}
use Rattle.run_laws.specs.Facts.{AreLong}

-- ---- a ForAll in code

module _ (X : Layout) where
  -- a ForAll that steps of the code do
  pub record ForAllAt : Type 0 where
    pub room : ℕ
    pub args : List Operand
    pub generator : ℕ
    pub body : ℕ
    pub returns : ℕ
    pub many : ℕ
    pub own : List Carried → List Carried → ℕ
    pub width : ℕ
    pub begin : ℕ
    pub end : ℕ
    pub low : ℕ
    pub is : ForAllIs X room args generator body returns many own width begin end low

-- What its iterations go by: the places of the Each, of the body and behind the body, the first cell of so many multiples, so many
-- collections behind them, what they collect, and the operands that are copies of the inputs.
pub record Iterations : Type 0 where
  pub each : ℕ
  pub turn : ℕ
  pub turned : ℕ
  pub first : ℕ
  pub multiples : ℕ
  pub collections : ℕ
  pub collects : List Collect
  pub copies : List Operand

module _ (X : Layout) where
  abbrev pub iterations_of : (room : ℕ) (args : List Operand) (generator body returns m : ℕ) (own : List Carried → List Carried → ℕ) (w a b lo : ℕ) → ForAllIs X room args generator body returns m own w a b lo → Iterations
  iterations_of room _ _ _ _ _ _ _ _ _ _ (the_for_all args generator body returns m own w a b lo picks mid n k made turns turn turned leave left other nodes results cs extra lists nexts lasts for_body for_returns
      start generating spreads_are made_weighs lists_many cs_many each_is body_lent turning adds turn_weighs turn_many within refolds returns_lent returning hands) =
      record { each = turns; turn = turn; turned = turned; first = mid; multiples = n; collections = k; collects = cs; copies = own_cells picks args (lo + w) }

  abbrev pub iterations : ForAllAt X → Iterations
  iterations f = iterations_of f.room f.args f.generator f.body f.returns f.many f.own f.width f.begin f.end f.low f.is

-- the cell in which the iterations are counted
abbrev pub count_of : Iterations → ℕ
count_of r = r.first + (r.multiples + r.collections)

-- ---- before an iteration

-- an operand is a literal of this value, or a cell below a number that has it
abbrev pub Holds : Cells → (base top : ℕ) → Operand → Carried → Type 0
Holds cells base top (Lit c) k = k ≡ c
Holds cells base top (At i) k = (i < top) × (cells (base + i) ≡ k)

abbrev pub HoldsAll : Cells → (base top : ℕ) → List Operand → List Carried → Type 0
HoldsAll cells base top [] [] = Unit {0}
HoldsAll cells base top [] (k ∷ ks) = ⊥
HoldsAll cells base top (a ∷ as₁) [] = ⊥
HoldsAll cells base top (a ∷ as₁) (k ∷ ks) = Holds cells base top a k × HoldsAll cells base top as₁ ks

module _ (X : Layout) (f : ForAllAt X) where
  -- the cells of a block have the inputs, their copies, the generator's multiples and what was collected, and so many iterations
  -- were begun
  pub record IsBefore (base : ℕ) (cells : Cells) (ks ms cols : List Carried) (begun : ℕ) : Type 0 where
    pub inputs : HoldsAll cells base f.low f.args ks
    pub copies : HoldsAll cells base (iterations X f).first (iterations X f).copies ks
    pub multiples : cells_from cells (base + (iterations X f).first) (iterations X f).multiples ≡ ms
    pub collected : cells_from cells (base + ((iterations X f).first + (iterations X f).multiples)) (iterations X f).collections ≡ cols
    pub counted : cells (base + count_of (iterations X f)) ≡ counter begun

-- the inputs of so many iterations from one on: what the body is lent, and an element of each multiple
abbrev pub rows_from : (first many : ℕ) → List Carried → List Carried → List (List Carried)
rows_from i k ks ms = map (λ row. ks ++ row) (rows_of k (map (drop i) (map items ms)))

-- a graph has these results on these rows by the definition of record, and they cost so much: one firing for each, and its own
abbrev pub AreRowsOfRecord : Network → (graph : ℕ) → List (List Carried) → List (List Carried) → (cost : ℕ) → Type 0
AreRowsOfRecord u g rows results cost = (d : ℕ) × (e : ℕ) × MeanAll u d g rows results × RowsFire u e g rows cost

-- with these rows of results
abbrev pub put_rows : List Collect → List (List Carried) → List Carried → List Carried
put_rows cs [] ms = ms
put_rows cs (row ∷ rows) ms = put_rows cs rows (put_all cs row ms)

-- ---- the law

module _ (X : Layout) (limit : ℕ) (f : ForAllAt X) where
  -- The machine comes from before one iteration to before the one that is so many further on, at so many firings more, with these
  -- rows of results in the collections.
  pub record Goes (base : ℕ) (cells : Cells) (calls : List Frame) (fires cost : ℕ) (ks ms cols : List Carried) (i k : ℕ) (results : List (List Carried)) : Type 0 where
    pub last : Cells
    pub adds : ℕ
    pub reaches : Reaches X.weigh limit X.code (at (iterations X f).each base cells calls fires) (at (iterations X f).each base last calls (fires + cost)) adds
    pub before : IsBefore X f base last ks ms (put_rows (iterations X f).collects results cols) (i + k)

-- So it goes where the ordered meaning gives the rows of a range, with a total within the limit: one firing for each iteration, and
-- those of its body.
abbrev pub DoRangesGo : Type 0
DoRangesGo = (X : Layout) (limit : ℕ) → AreCoded X → (f : ForAllAt X) (base : ℕ) (cells : Cells) (calls : List Frame) (fires : ℕ) (ks ms cols : List Carried) (i k : ℕ)
    → IsBefore X f base cells ks ms cols i → AreLong (places_of ms) ms → i + k ≤ places_of ms
    → (n : ℕ) (results : List (List Carried)) (c : Total (counting X.weights)) → RowsYield (counting X.weights) X.network X.order (yields X n) f.body (rows_from i k ks ms) results c
    → fires + c.fires ≤ limit → Goes X limit f base cells calls fires c.fires ks ms cols i k results

-- So it goes where by the definition of record the body has these results on the rows of a range, at a cost within the limit.
abbrev pub DoRangesOfRecordGo : Type 0
DoRangesOfRecordGo = (X : Layout) (limit : ℕ) → AreCoded X → AreOrderly X.network → AreInOrder X.network X.order
    → (f : ForAllAt X) (base : ℕ) (cells : Cells) (calls : List Frame) (fires : ℕ) (ks ms cols : List Carried) (i k : ℕ)
    → IsBefore X f base cells ks ms cols i → AreLong (places_of ms) ms → i + k ≤ places_of ms
    → (results : List (List Carried)) (cost : ℕ) → AreRowsOfRecord X.network f.body (rows_from i k ks ms) results cost
    → fires + cost ≤ limit → Goes X limit f base cells calls fires cost ks ms cols i k results
