-- All leases of an aggregate that are out, as one sum: those of nodes at work, of slices that are out, and of finished AScatters.
use Rattle.std.specs.Prelude.{◌≡◌, ℕ, suc, ◌+◌, ◌*◌, eqb, if◌then◌else◌, Bool, true, false, List, [], ◌∷◌, ◌⊎◌, Some}
use Rattle.graph_meaning.specs.Entered.{Item, Slice, IsIn}
use Rattle.graph_meaning.specs.Histories.{Run}
use Rattle.run_states.specs.Standing.{Test, Status, Open, Taken, Finished, Opens, State, GoingOn, Stands, Live, Table, TableStands, mark}
use Rattle.run_states.specs.Storing.{Kept, Port, Owned, Store, IsRead, IsAtWork, NoReader}
use Rattle.run_states.specs.Leasing.{is_at_work, one_if, ports_with, node_leases, leases}
use Rattle.run_events.specs.Scattering.{Takers, Scatters}
use Rattle.run_events.specs.Hands.{Hands, HasInHand, HandsStand}
use Rattle.run_events.specs.Sums.{PerNode, table_sum}

-- ---- slices that are out

-- a slice that was claimed and is not finished
abbrev pub is_out : Item → Status → Bool
is_out (Slice l k r) Taken = true
is_out _ _ = false

abbrev pub slices_in : Opens → ℕ
slices_in [] = 0
slices_in (o ∷ os) = one_if (is_out o.0 o.1) + slices_in os

abbrev pub slices_out : State → ℕ
slices_out (GoingOn k os) = slices_in os
slices_out _ = 0

-- ---- leases of one node

-- What nodes lend and keep beside the ports that they read, by the place of the live graph and the label of a ForAll: the keys of which
-- each of its slices has a lease, as those of its multiples; and the keys of which an AScatter of its generator keeps one.
pub record Lent : Type 0 where
  pub to_slices : (place label : ℕ) → List ℕ
  pub scattered : (place label : ℕ) → List ℕ

abbrev pub times : ℕ → List ℕ → ℕ
times key [] = 0
times key (k ∷ ks) = one_if (eqb k key) + times key ks

abbrev pub IsKeyIn : ℕ → List ℕ → Type 0
IsKeyIn key [] = ⊥
IsKeyIn key (k ∷ ks) = (key ≡ k) ⊎ IsKeyIn key ks

-- a slice has a lease for each port that its ForAll reads, beside that of the ForAll, and for each key that is lent to it
abbrev pub slice_leases : ℕ → (ℕ → Store) → Lent → PerNode
slice_leases key stores lent f x l = slices_out (x.states l) * (ports_with key (stores f) ((stores f).reads l) + times key (lent.to_slices f l))

abbrev pub scattered_leases : ℕ → Lent → PerNode
scattered_leases key lent f x l = if is_at_work (x.states l) then times key (lent.scattered f l) else 0

abbrev pub all_of_node : ℕ → (ℕ → Store) → Lent → PerNode
all_of_node key stores lent f x l = node_leases key (stores f) x l + (slice_leases key stores lent f x l + scattered_leases key lent f x l)

-- all leases of the key that are out
abbrev pub all_leases : ℕ → Table → (ℕ → Store) → Lent → (places : ℕ) → ℕ
all_leases key table stores lent n = table_sum (all_of_node key stores lent) table n

-- ---- what is lent

-- What a ForAll lends to its slices is in its hands, or one of its AScatters keeps a lease of it; and each of these leases is one that an
-- AScatter may keep.
pub record IsLent (table : Table) (stores : ℕ → Store) (hands : Hands) (takers : Takers) (lent : Lent) : Type 0 where
  pub to_slices : (f : ℕ) (x : Live) (l key : ℕ) → table f ≡ Some x → IsIn l x.labels → IsKeyIn key (lent.to_slices f l) → ((i : ℕ × ℕ) × HasInHand table hands f l i key) ⊎ IsKeyIn key (lent.scattered f l)
  pub scattered : (f : ℕ) (x : Live) (l key : ℕ) → table f ≡ Some x → IsIn l x.labels → IsAtWork (x.states l) → IsKeyIn key (lent.scattered f l) → Scatters table stores takers x f l key

-- ---- laws

-- Where an edge takes from an owned port on which nobody in its graph is at work, no lease of what it has is out: neither of a node, nor
-- of a slice, nor of an AScatter.
abbrev pub IsNothingOut : Type 0
IsNothingOut = (run : Run) (c m : Test) (table : Table) (root : ℕ) (stores : ℕ → Store) (hands : Hands) (takers : Takers) (lent : Lent) (f : ℕ) (x : Live) (a : Port) (key : ℕ) → TableStands run c m table root
    → HandsStand table stores hands
    → IsLent table stores hands takers lent
    → table f ≡ Some x
    → (stores f).cell a ≡ Some (Kept key)
    → (stores f).owning a ≡ Owned
    → takers f a ≡ true
    → NoReader table stores f x a
    → (n : ℕ)
    → all_leases key table stores lent n ≡ 0

-- Without slices that are out and AScatters that keep a lease, these are the leases of the nodes at work.
abbrev pub AreLeasesOfNodes : Type 0
AreLeasesOfNodes = (key : ℕ) (table : Table) (stores : ℕ → Store) (lent : Lent) → ((f : ℕ) (x : Live) (l : ℕ) → table f ≡ Some x → IsIn l x.labels → (slices_out (x.states l) ≡ 0) × (times key (lent.scattered f l) ≡ 0))
    → (n : ℕ)
    → all_leases key table stores lent n ≡ leases key table stores n

-- ---- slices, one by one

-- no item stands twice
abbrev pub StandOnce : Opens → Type 0
StandOnce [] = Unit {0}
StandOnce (o ∷ os) = ((s : Status) → ¬ Stands o.0 s os) × StandOnce os

-- With the claim of a slice one more is out, and with its finish one less.
pub record AreSlicesCounted (os : Opens) (l k r : ℕ) : Type 0 where
  pub claimed : Stands (Slice l k r) Open os → slices_in (mark (Slice l k r) Taken os) ≡ suc (slices_in os)
  pub finished : Stands (Slice l k r) Taken os → suc (slices_in (mark (Slice l k r) Finished os)) ≡ slices_in os

abbrev pub AreAllSlicesCounted : Type 0
AreAllSlicesCounted = (os : Opens) (l k r : ℕ) → StandOnce os → AreSlicesCounted os l k r

-- ---- where leases stay

-- A node that is not at work has no lease, so a graph may come or go of which no node is at work.
abbrev pub DoIdleNodesLeaseNothing : Type 0
DoIdleNodesLeaseNothing = (key : ℕ) (stores : ℕ → Store) (lent : Lent) (f : ℕ) (x : Live) (l : ℕ) → ¬ IsAtWork (x.states l) → all_of_node key stores lent f x l ≡ 0

-- Where ports are filled or emptied that no node at work reads, all leases stay.
abbrev pub AreLeasesSame : Type 0
AreLeasesSame = (key : ℕ) (table : Table) (stores others : ℕ → Store) (lent : Lent)
    → ((f : ℕ) (x : Live) (l : ℕ) → table f ≡ Some x → IsIn l x.labels → IsAtWork (x.states l) → ((others f).reads l ≡ (stores f).reads l) × ((a : Port) → IsRead a ((stores f).reads l) → (others f).cell a ≡ (stores f).cell a))
    → (n : ℕ)
    → all_leases key table others lent n ≡ all_leases key table stores lent n
