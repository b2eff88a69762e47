-- Which cells are live where the nodes of a graph fire one after another: those of ports that are known and were not taken, and those
-- that are kept for other graphs.
use Rattle.std.specs.Prelude.{◌≡◌, ℕ, suc, ◌+◌, ◌<◌, ◌≤◌, ◌⊎◌, ◌&&◌, not, Bool, true, false, if◌then◌else◌, List, [], ◌∷◌, map, length}
use Rattle.graph_meaning.specs.Carried.{Carried}
use Rattle.graph_meaning.specs.Storage.{leaves_at}
use Rattle.graph_meaning.specs.Demand.{Source, Vertex, EachNode}
use Rattle.run_laws.specs.Taking.{Marks, first_port, Fills, Taken, IsTaken as WasTaken, taken_by, AreTakersLast}
use Rattle.run_laws.specs.Cells.{Operand, At, Lit, picked}
use Rattle.run_laws.specs.Coded.{Places, operand, Puts}
use Rattle.run_laws.specs.Known.{Known, Knows, IsReadable}
use Rattle.run_store.specs.Refines.{IsTaken}
use Rattle.run_store.specs.Stored.{Mode, Looks, Copies, Takes, copied}

-- ---- modes by marks

-- what a node takes, copies and looks at, by its marks and what it consumes
abbrev pub mode_of : (takes consumes : Bool) → Mode
mode_of takes consumes = if takes then Takes else (if consumes then Copies else Looks)

abbrev pub modes_of : (takes consumes : (port : ℕ) → Bool) → (first : ℕ) → List Source → List Mode
modes_of takes consumes i [] = []
modes_of takes consumes i (o ∷ os) = mode_of (takes i) (consumes i) ∷ modes_of takes consumes (suc i) os

-- what a compound node is given and does not take is copied for its parts: these ports, and what is brought for them
abbrev pub picks_of : (test : (port : ℕ) → Bool) → (first : ℕ) → List Source → List Bool
picks_of test i [] = []
picks_of test i (o ∷ os) = test i ∷ picks_of test (suc i) os

abbrev pub copies_of : List Bool → List Mode
copies_of [] = []
copies_of (true ∷ bs) = Copies ∷ copies_of bs
copies_of (false ∷ bs) = copies_of bs

-- what these modes copy are the leaves of the ports that are consumed and do not take, and what picks copy those that are picked
abbrev pub DoModesCopy : Type 0
DoModesCopy =
    ((takes consumes test : ℕ → Bool) → ((p : ℕ) → test p ≡ consumes p && not (takes p)) → (first : ℕ) (os : List Source) (ks : List Carried) → length os ≡ length ks
    → copied (modes_of takes consumes first os) ks ≡ leaves_at test first ks)
    × ((test : ℕ → Bool) (first : ℕ) (os : List Source) (ks : List Carried) → length os ≡ length ks
    → copied (copies_of (picks_of test first os)) (picked (picks_of test first os) ks) ≡ leaves_at test first ks)

-- ---- live cells

-- inputs are known
abbrev pub KnowsPort : Known → (node port : ℕ) → Type 0
KnowsPort known l p = (l ≡ 0) ⊎ Knows known l p

-- the cell of a port that is known and was not taken, or one that is kept for other graphs
abbrev pub IsAlive : (keep : ℕ → Bool) → Places → Known → Taken → (cell : ℕ) → Type 0
IsAlive keep places known taken i = (keep i ≡ true) ⊎ ((l : ℕ) × (p : ℕ) × KnowsPort known l p × (WasTaken taken l p → ⊥) × (places l p ≡ At i))

abbrev pub AllIn : (ℕ → Type 0) → List Operand → Type 0
AllIn P [] = Unit {0}
AllIn P (At i ∷ args) = P i × AllIn P args
AllIn P (Lit c ∷ args) = AllIn P args

-- A cell that is live behind a node is one of its outputs, or it was live before, is not taken and stands below its outputs.
abbrev pub StaysAlive : (keep : ℕ → Bool) → Places → Known → Taken → (takes consumes : ℕ → Bool) → Vertex → (lo w : ℕ) → Type 0
StaysAlive keep places known taken takes consumes v lo w =
    (i : ℕ) → IsAlive keep places ((v.label, w) ∷ known) (taken_by takes (first_port v.kind) v.ins taken) i
    → ((lo ≤ i) × (i < lo + w)) ⊎ (IsAlive keep places known taken i × (IsTaken (modes_of takes consumes (first_port v.kind) v.ins) (map (operand places) v.ins) i → ⊥) × (i < lo))

module _ (keep : ℕ → Bool) (places : Places) (width : Vertex → ℕ) (marks : Marks) (consumes : (node port : ℕ) → Bool) where
  -- the outputs of each node stand above those of the nodes before it
  abbrev pub AreStacked : ℕ → List Vertex → Type 0
  AreStacked lo [] = Unit {0}
  AreStacked lo (v ∷ vs) = Puts places v.label lo (width v) × AreStacked (lo + width v) vs

  -- each of these nodes reads live cells, and leaves live what is live behind it
  abbrev pub AreNodesLively : ℕ → Known → Taken → List Vertex → Type 0
  AreNodesLively lo known taken [] = Unit {0}
  AreNodesLively lo known taken (v ∷ vs) =
      AllIn (IsAlive keep places known taken) (map (operand places) v.ins)
      × StaysAlive keep places known taken (marks v.label) (consumes v.label) v lo (width v)
      × AreNodesLively (lo + width v) ((v.label, width v) ∷ known) (taken_by (marks v.label) (first_port v.kind) v.ins taken) vs

-- The cells of inputs, and those that are kept for other graphs, stand below a number; an input that may be taken has a cell of its
-- own.
pub record AreInputsPlaced (keep : ℕ → Bool) (places : Places) (owned : (port : ℕ) → Bool) (bottom : ℕ) : Type 0 where
  pub inputs : (q i : ℕ) → places 0 q ≡ At i → i < bottom
  pub kept : (i : ℕ) → keep i ≡ true → i < bottom
  pub apart : (p i : ℕ) → owned p ≡ true → places 0 p ≡ At i → (keep i ≡ true → ⊥) × ((q : ℕ) → places 0 q ≡ At i → q ≡ p)

-- where takers are last, and only inputs are taken that may be, the nodes of a graph are lively
abbrev pub AreNodesLivelyInOrder : Type 0
AreNodesLivelyInOrder = (keep : ℕ → Bool) (places : Places) (owned : ℕ → Bool) (bottom : ℕ) → AreInputsPlaced keep places owned bottom
    → (width : Vertex → ℕ) (marks : Marks) (consumes : ℕ → ℕ → Bool) (vs : List Vertex) (results : List Source)
    → AreStacked keep places width marks consumes bottom vs → IsReadable width [] vs → AreTakersLast marks [] vs results
    → EachNode (λ v. (j p : ℕ) → Fills j v.ins (first_port v.kind) 0 p → marks v.label j ≡ true → owned p ≡ true) vs
    → AreNodesLively keep places width marks consumes bottom [] [] vs
