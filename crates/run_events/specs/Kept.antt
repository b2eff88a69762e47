-- What a machine keeps of a run in any order beside how far each node is, and what that stands for.
use Rattle.std.specs.Prelude.{◌≡◌, ℕ, Bool, List, [], Contains, Some}
use Rattle.if1_graph.specs.declared.graph.Unit1.{Unit1}
use Rattle.if1_graph.specs.Units.{Place, places, number_of}
use Rattle.graph_meaning.specs.Carried.{Carried}
use Rattle.graph_meaning.specs.Demand.{Cut}
use Rattle.graph_meaning.specs.Entered.{IsIn}
use Rattle.graph_meaning.specs.Networks.{network}
use Rattle.run_states.specs.Standing.{Live, Table}
use Rattle.run_states.specs.Storing.{Port, Store, IsAtWork}
use Rattle.run_states.specs.Graphs.{IsGraphOf}
use Rattle.run_events.specs.Carrying.{Pool, Opened, ArePortsRight}
use Rattle.run_events.specs.Marked.{IsMarkedStore}
use Rattle.run_events.specs.Hands.{Hands, HandsStand}
use Rattle.run_events.specs.There.{ArePortsThere}
use Rattle.run_events.specs.Leases.{Lent, IsLent}
use Rattle.run_events.specs.Scattered.{takers_of}

-- By the places of live graphs: their ports, what their nodes have in their hands, where they stand in the unit, which ports have a
-- cell, how many unions are opened to read one, what is lent to slices and kept by AScatters; and what is kept by each key.
pub record Keeping : Type 0 where
  pub stores : ℕ → Store
  pub hands : Hands
  pub homes : ℕ → Place
  pub wanted : ℕ → Port → Bool
  pub unions : Opened
  pub lent : Lent
  pub pool : Pool

-- a live graph is that of its place in the unit
abbrev pub IsAtHome : Cut → Unit1 → Live → Place → Type 0
IsAtHome cut u x p = Contains (places u) p × ((is : List Carried) × IsGraphOf cut (network u) (number_of p) is x)

pub record KeptStands (cut : Cut) (u : Unit1) (g : ℕ) (ins : List Carried) (table : Table) (k : Keeping) : Type 0 where
  -- each aggregate has one place
  pub hands : HandsStand table k.stores k.hands
  pub homes : (f : ℕ) (x : Live) → table f ≡ Some x → IsAtHome cut u x (k.homes f)
  -- what the rules say a port owns it owns, and nodes read along edges that do not take
  pub marked : (f : ℕ) (x : Live) → table f ≡ Some x → IsMarkedStore u (k.homes f) (k.stores f)
  -- what was given is there until its taker is claimed
  pub there : ArePortsThere table k.stores k.homes k.wanted
  -- and is what the definition of record says
  pub right : ArePortsRight (network u) g ins k.pool k.unions table k.stores
  -- slices are lent what is in hand or scattered
  pub lent : IsLent table k.stores k.hands (takers_of k.homes) k.lent
  -- a node that is not at work lends nothing
  pub idle : (f : ℕ) (x : Live) (l : ℕ) → table f ≡ Some x → IsIn l x.labels → ¬ IsAtWork (x.states l) → (k.lent.to_slices f l ≡ []) × (k.lent.scattered f l ≡ [])
