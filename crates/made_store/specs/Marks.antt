-- Takers by the marks of a unit are last in each of its graphs.
use Rattle.std.specs.Prelude.{◌≡◌, ◌==◌, ℕ, Bool, false, true, List, [], find, Option, Some, None}
use Rattle.graph_meaning.specs.Unit1.{Unit1}
use Rattle.graph_meaning.specs.Ready.{IsReady}
use Rattle.graph_meaning.specs.Units.{Place, number_of, places}
use Rattle.graph_meaning.specs.Owned.{is_input_owned}
use Rattle.graph_meaning.specs.Sound.{IsSound}
use Rattle.graph_meaning.specs.Demand.{EachNode, Vertex}
use Rattle.graph_meaning.specs.Networks.{network}
use Rattle.graph_meaning.specs.StorageUnits.{storage_of}
use Rattle.run_code.specs.Orders.{AreInOrder}
use Rattle.run_code.specs.Taking.{AreTakersLast, Fills, first_port}

-- so a plan whose nodes take by the marks meets what is asked of its takers
abbrev pub AreMarkedTakersLast : Type 0
AreMarkedTakersLast = (u : Unit1) (order : ℕ → List Vertex) → IsReady u → IsSound u → AreInOrder (network u) order → (g : ℕ) → AreTakersLast ((storage_of u).is_taken g) [] (order g) (network u g).results

-- the inputs that a graph owns, by its number
abbrev pub owned_in : Unit1 → Option Place → ℕ → Bool
owned_in u None port = false
owned_in u (Some q) port = is_input_owned u q.graph q.home port

abbrev pub owned_inputs : Unit1 → (graph port : ℕ) → Bool
owned_inputs u g port = owned_in u (find (λ q. number_of q == g) (places u)) port

-- an input that is taken by a mark is one of these
abbrev pub AreTakersOwned : Type 0
AreTakersOwned = (u : Unit1) (order : ℕ → List Vertex) → IsSound u → AreInOrder (network u) order → (g : ℕ)
    → EachNode (λ v. (j p : ℕ) → Fills j v.ins (first_port v.kind) 0 p → (storage_of u).is_taken g v.label j ≡ true → owned_inputs u g p ≡ true) (order g)
    × ((j p : ℕ) → Fills j (network u g).results 1 0 p → (storage_of u).is_taken g 0 j ≡ true → owned_inputs u g p ≡ true)
