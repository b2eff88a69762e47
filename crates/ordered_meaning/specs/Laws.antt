-- The ordered meaning and the definition of record give the same.
use Rattle.std.specs.Prelude.{◌≡◌, ℕ, ◌+◌, ◌↔◌, List}
use Rattle.graph_meaning.specs.Unit1.{Unit1}
use Rattle.graph_meaning.specs.Ready.{IsReady}
use Rattle.graph_meaning.specs.Sound.{IsSound}
use Rattle.graph_meaning.specs.Carried.{Carried}
use Rattle.graph_meaning.specs.Demand.{Vertex, Network, AreOrderly}
use Rattle.graph_meaning.specs.Networks.{network}
use Rattle.graph_meaning.specs.Plain.{Means, Costs}
use Rattle.graph_meaning.specs.Storage.{Weights, GraphAdds, Storage, node_copied, node_written, is_left, leaves_at, capped, Copies, Writes}
use Rattle.graph_meaning.specs.StorageUnits.{storage_of}
use Rattle.ordered_meaning.specs.Ordered.{Tally, Total, MeansInOrder}
use Rattle.ordered_meaning.specs.Orders.{AreInOrder}

-- ---- sums by weights

-- the sum by these weights
abbrev pub counting : Weights → Tally
counting w = record { Sum = ℕ; none = 0; plus = λ a b. a + b; of_node = λ g v ks rs. w.of_node g v ks rs; of_results = λ g rs. w.of_results g rs }

-- In every order the ordered meaning gives results with a cost and a sum exactly where some depth of the definition of record does.
abbrev pub AreSumsOfRecord : Type 0
AreSumsOfRecord = (w : Weights) (u : Network) (order : ℕ → List Vertex) → AreOrderly u → AreInOrder u order → (g : ℕ) (ins rs : List Carried) (t : Total (counting w))
    → MeansInOrder (counting w) u order g ins rs t ↔ ((d : ℕ) × Means u d g ins rs × Costs u d g ins t.fires × GraphAdds u w d g ins t.sum)

-- ---- copies and writes

pub record Moved : Type 0 where
  pub copies : ℕ
  pub writes : ℕ

abbrev pub moved : Storage → Tally
moved s =
    record {
      Sum = Moved;
      none = record { copies = 0; writes = 0 };
      plus = λ a b. record { copies = a.copies + b.copies; writes = a.writes + b.writes };
      of_node = λ g v ks rs. record { copies = node_copied s g v.label v.kind ks rs; writes = node_written s g v.label v.kind ks rs };
      of_results = λ g rs. record { copies = leaves_at (is_left s g 0) 1 rs; writes = 0 };
    }

-- in these orders the graph gives these results on its inputs, fires so often, copies so many leaves and writes so many elements
abbrev pub GivesInOrder : Storage → Network → (order : ℕ → List Vertex) → (graph : ℕ) → List Carried → List Carried → (cost copied written : ℕ) → Type 0
GivesInOrder s u order g ins rs c copied written =
    (t : Total (moved s)) × MeansInOrder (moved s) u order g ins rs t × (t.fires ≡ c) × (copied ≡ capped t.sum.copies) × (written ≡ capped t.sum.writes)

-- so it does at some depth of the definition of record
abbrev pub IsOfRecord : Storage → Network → (graph : ℕ) → List Carried → List Carried → (cost copied written : ℕ) → Type 0
IsOfRecord s u g ins rs c copied written = (d : ℕ) × Means u d g ins rs × Costs u d g ins c × Copies s u d g ins copied × Writes s u d g ins written

-- The two give the same; and where the definition of record gives a cost alone, both give results, copies and writes.
pub record AreTheSame (s : Storage) (u : Network) (order : ℕ → List Vertex) : Type 0 where
  pub same : (g : ℕ) (ins rs : List Carried) (c copied written : ℕ) → GivesInOrder s u order g ins rs c copied written ↔ IsOfRecord s u g ins rs c copied written
  pub defined : (d g : ℕ) (ins : List Carried) (c : ℕ) → Costs u d g ins c → (rs : List Carried) × (copied : ℕ) × (written : ℕ) × GivesInOrder s u order g ins rs c copied written

-- so it is in graphs without a cycle, in every order along data edges and ordering lists
abbrev pub IsOrderedMeaningOfRecord : Type 0
IsOrderedMeaningOfRecord = (s : Storage) (u : Network) (order : ℕ → List Vertex) → AreOrderly u → AreInOrder u order → AreTheSame s u order

-- and two such orders give the same
abbrev pub AreOrdersAlike : Type 0
AreOrdersAlike = (s : Storage) (u : Network) (order other : ℕ → List Vertex) → AreOrderly u → AreInOrder u order → AreInOrder u other
    → (g : ℕ) (ins rs : List Carried) (c copied written : ℕ) → GivesInOrder s u order g ins rs c copied written → GivesInOrder s u other g ins rs c copied written

-- ---- units

-- the graphs of a ready unit with sound marks have such orders
abbrev pub HaveUnitsOrders : Type 0
HaveUnitsOrders = (u : Unit1) → IsReady u → IsSound u → (order : ℕ → List Vertex) × AreInOrder (network u) order

-- in every such order the ordered meaning gives what the definition of record does
abbrev pub AreUnitsInOrder : Type 0
AreUnitsInOrder = (u : Unit1) (order : ℕ → List Vertex) → IsReady u → IsSound u → AreInOrder (network u) order → AreTheSame (storage_of u) (network u) order
