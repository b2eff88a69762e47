-- The results of a graph.
use Rattle.std.proofs.Common.{◌≡◌, ◌∙◌, ℕ, suc, List, [], ◌∷◌, map, All, ap, arith}
use Rattle.if1_graph.specs.declared.graph.Unit1.{Unit1}
use Rattle.graph_meaning.specs.Demand.{Source, Vertex}
use Rattle.graph_meaning.specs.Storage.{Storage}
use Rattle.graph_meaning.specs.StorageUnits.{storage_of}
use Rattle.run_code.specs.Made.{Plan}
use Rattle.plan_data.specs.Settings.{Shares, result_modes}
use Rattle.plan_nodes.specs.Plans.{Tables, plan_of}
use Rattle.plan_nodes.specs.Shares.{shares_of}
use Rattle.plan_data.specs.declared.plan.PlanData.{PlanData}
use Rattle.plan_data.specs.Parts.{AreBelow, IsBelow, mode_of}
use Rattle.plan_data.specs.Stands.{AreFed}
use Rattle.plan_builder.proofs.Handling.{modes-are}
use Rattle.plan_builder.specs.Nodes.{AreHandled, handled_by}
use Rattle.plan_nodes.specs.Filled.{Filled}
use Rattle.plan_nodes.specs.PortFeedsFilled.{AreFilled, AreTold}
use Rattle.plan_nodes.specs.Ports.{port_by}

pub ports-fed : (D : PlanData) (P : Plan) (S : Shares) (s : Storage) (g l i : ℕ) (xs : List Filled) (os : List Source) → AreFilled D P S s g l i xs os → AreFed D P S g (map port_by xs) os
ports-fed D P S s g l i [] [] h = tt
ports-fed D P S s g l i [] (o ∷ os) h = absurd h
ports-fed D P S s g l i (x ∷ xs) [] h = absurd h
ports-fed D P S s g l i (x ∷ xs) (o ∷ os) h = (h.0.fed, ports-fed D P S s g l (suc i) xs os h.1)

pub ports-below : (cells : ℕ) (xs : List Filled) → All (λ f. IsBelow cells f.feed) xs → AreBelow cells (map port_by xs)
ports-below cells [] h = tt
ports-below cells (x ∷ xs) h = (h 0 x (omega arith), ports-below cells xs (λ k d lt. h (suc k) d (omega (arith, lt))))

module _ (u : Unit1) (order : ℕ → List Vertex) (g : ℕ) where
  abbrev S : Shares
  S = shares_of u order

  handled : (i : ℕ) (xs : List Filled) → AreTold (storage_of u) g 0 i xs → AreHandled handled_by (S.takes g 0) (S.copies g 0) i (map port_by xs)
  handled i [] h = tt
  handled i (x ∷ xs) h = (ap (λ b. handled_by b x.consumed) h.0.takes ∙ ap (handled_by ((storage_of u).is_taken g 0 i)) h.0.consumed, handled (suc i) xs h.1)

  pub results-moded : (D : PlanData) (t : Tables) (xs : List Filled) → AreFed D (plan_of u order t) S g (map port_by xs) ((plan_of u order t).results g) → AreTold (storage_of u) g 0 1 xs
      → result_modes (plan_of u order t) S g ≡ map mode_of (map port_by xs)
  results-moded D t xs fed told =
      modes-are D (plan_of u order t) S g (S.takes g 0) (S.copies g 0) 1 (map port_by xs) ((plan_of u order t).results g) fed (handled 1 xs told)
