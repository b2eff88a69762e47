-- Ports in a row.
use Rattle.std.proofs.Common.{◌≡◌, ℕ, zero, suc, ◌+◌, ◌<◌, ◌≤◌, List, [], ◌∷◌, ◌++◌, length, replicate, All, Contains, subst, arith}
use Rattle.std.proofs.lemmas.List.Elements.{All-nil, All-cons}
use Rattle.if1_graph.specs.declared.graph.Graph.{Graph}
use Rattle.if1_graph.specs.declared.graph.Graph.TheViews.{out-Graph}
use Rattle.if1_graph.specs.declared.graph.Unit1.{Unit1}
use Rattle.if1_graph.specs.Ports.{inputs}
use Rattle.if1_graph.specs.Units.{Place, places}
use Rattle.graph_meaning.specs.Carried.{Unfilled}
use Rattle.graph_meaning.specs.Networks.{sources}
use Rattle.graph_meaning.specs.StorageUnits.{storage_of}
use Rattle.run_cells.specs.declared.cell.Cell.{Cell}
use Rattle.run_code.specs.Made.{Plan}
use Rattle.made_store.specs.Settings.{Shares}
use Rattle.plan_data.specs.declared.plan.PlanData.{PlanData}
use Rattle.plan_data.specs.Parts.{IsBelow, literal_in}
use Rattle.plan_builder.specs.declared.outlets.Outlets.{Outlets}
use Rattle.plan_builder.specs.Feeds.{HasLiterals, IsInput}
use Rattle.plan_builder.specs.Outlets.{AreLaid, cells_of}
use Rattle.port_feeds.specs.declared.filled.Filled.{Filled}
use Rattle.port_feeds.specs.Filled.{AreFilled, ArePorts, AreTold, IsPort}

module _ (u : Unit1) (g : Graph) (x : Outlets) (l : ℕ) where
  -- ports that nothing fills, and then one more
  pub ports-behind : (cs : List Cell) (n k : ℕ) (none f : Filled) → ((j : ℕ) → n ≤ j → j < n + k → IsPort u g x cs l j none) → IsPort u g x cs l (n + k) f → ArePorts u g x cs l n (replicate k none ++ (f ∷ []))
  ports-behind cs n zero none f gaps h = let s : n + 0 ≡ n = omega arith in (subst (λ j. IsPort u g x cs l j f) s h, tt)
  ports-behind cs n (suc k) none f gaps h =
      let s : n + suc k ≡ suc n + k = omega arith in
      (gaps n (omega arith) (omega arith), ports-behind cs (suc n) k none f (λ j a b. gaps j (omega (arith, a)) (omega (arith, b))) (subst (λ j. IsPort u g x cs l j f) s h))

  pub ports-joined : (cs : List Cell) (i n : ℕ) (fs hs : List Filled) → ArePorts u g x cs l i fs → n ≡ i + length fs → ArePorts u g x cs l n hs → ArePorts u g x cs l i (fs ++ hs)
  ports-joined cs i n [] hs a e b = let s : n ≡ i = omega (arith, e) in subst (λ j. ArePorts u g x cs l j hs) s b
  ports-joined cs i n (y ∷ ys) hs a e b = (a.0, ports-joined cs (suc i) n ys hs a.1 (omega (arith, e)) b)

  module _ (cs ds : List Cell) (kept : (D : PlanData) → HasLiterals ds D → HasLiterals cs D) where
    port-later : (i : ℕ) (f : Filled) → IsPort u g x cs l i f → IsPort u g x ds l i f
    port-later i f h = record { fed = λ D P S n formed lits laid. h.fed D P S n formed (kept D lits) laid; below = h.below; there = h.there; told = h.told }

    -- with more literals
    pub ports-later : (i : ℕ) (fs : List Filled) → ArePorts u g x cs l i fs → ArePorts u g x ds l i fs
    ports-later i [] hs = tt
    ports-later i (f ∷ fs) hs = (port-later i f hs.0, ports-later (suc i) fs hs.1)

  module _ (cs : List Cell) where
    pub filled-of : (i : ℕ) (fs : List Filled) → ArePorts u g x cs l i fs → (D : PlanData) (P : Plan) (S : Shares) → literal_in D 0 ≡ Unfilled → HasLiterals cs D → AreLaid P x (P.nodes (out-Graph g).number)
        → AreFilled D P S (storage_of u) (out-Graph g).number l i fs (sources u g l i (length fs))
    filled-of i [] hs D P S none lits laid = tt
    filled-of i (f ∷ fs) hs D P S none lits laid =
        let h = hs.0 in
        let t = h.told in
        (record { fed = h.fed D P S (out-Graph g).number none lits laid; takes = t.takes; consumed = t.consumed; aggregate = t.aggregate }, filled-of (suc i) fs hs.1 D P S none lits laid)

    pub below-of : (i : ℕ) (fs : List Filled) → ArePorts u g x cs l i fs → All (λ (f : Filled). IsBelow (cells_of x.widths x.order) f.feed) fs
    below-of i [] hs = All-nil (λ (f : Filled). IsBelow (cells_of x.widths x.order) f.feed)
    below-of i (f ∷ fs) hs = All-cons (λ (f : Filled). IsBelow (cells_of x.widths x.order) f.feed) f fs (hs.0).below (below-of (suc i) fs hs.1)

    pub there-of : (i : ℕ) (fs : List Filled) → ArePorts u g x cs l i fs → (p : Place) → Contains (places u) p → p.graph ≡ g → All (λ (f : Filled). IsInput (inputs u p) f.feed) fs
    there-of i [] hs p h same = All-nil (λ (f : Filled). IsInput (inputs u p) f.feed)
    there-of i (f ∷ fs) hs p h same = All-cons (λ (f : Filled). IsInput (inputs u p) f.feed) f fs ((hs.0).there p h same) (there-of (suc i) fs hs.1 p h same)

    pub told-of : (i : ℕ) (fs : List Filled) → ArePorts u g x cs l i fs → AreTold (storage_of u) (out-Graph g).number l i fs
    told-of i [] hs = tt
    told-of i (f ∷ fs) hs = ((hs.0).told, told-of (suc i) fs hs.1)
