-- What is known of each node of a live graph by how far it is: what it has entered, by which step of its form it goes on, and, where it
-- is done, its outputs.
use Rattle.std.specs.Prelude.{◌≡◌, ℕ, suc, List, [], ◌∷◌, Some}
use Rattle.graph_meaning.specs.Carried.{Carried}
use Rattle.graph_meaning.specs.Entered.{Item}
use Rattle.graph_meaning.specs.Forms.{Form, Next}
use Rattle.graph_meaning.specs.Demand.{Vertex, Network, Cut, at_label}
use Rattle.run_states.specs.Standing.{Opens, State, Waiting, Claimed, Within, GoingOn, Done, Live, Table}
use Rattle.run_states.specs.Phases.{Comes, opens_of}
use Rattle.run_states.specs.Paths.{IsWhole, EntersAt, LeadsTo}
use Rattle.run_states.specs.Graphs.{IsGraphOf}
use Rattle.run_states.specs.Values.{OutputsOf}

-- the same items stand in both, whatever their status
abbrev pub HaveSameItems : Opens → Opens → Type 0
HaveSameItems [] [] = Unit {0}
HaveSameItems (o ∷ os) (q ∷ qs) = (o.0 ≡ q.0) × HaveSameItems os qs
HaveSameItems _ _ = ⊥

-- a node of this graph on its inputs has entered a graph at this step
pub record IsInside (u : Network) (h : ℕ) (is : List Carried) (l k : ℕ) : Type 0 where
  pub form : Form
  pub operands : List Carried
  pub whole : IsWhole u h is l form operands
  pub entry : Item
  pub graph : ℕ
  pub inputs : List Carried
  pub enters : EntersAt u form operands l k entry graph inputs

-- it goes on at this step by the items that the table of forms tells
pub record IsGoingOn (cut : Cut) (u : Network) (h : ℕ) (is : List Carried) (l k : ℕ) (os : Opens) : Type 0 where
  pub form : Form
  pub operands : List Carried
  pub whole : IsWhole u h is l form operands
  pub before : ℕ
  pub step : k ≡ suc before
  pub next : Next
  pub comes : Comes u form operands before next
  pub items : HaveSameItems os (opens_of cut l k next)

abbrev pub IsKnownAs : Cut → Network → ℕ → List Carried → ℕ → Vertex → State → Type 0
IsKnownAs cut u h is l v Waiting = Unit {0}
IsKnownAs cut u h is l v Claimed = Unit {0}
IsKnownAs cut u h is l v (Within k child) = IsInside u h is l k
IsKnownAs cut u h is l v (GoingOn k os) = IsGoingOn cut u h is l k os
IsKnownAs cut u h is l v Done = (rs : List Carried) × OutputsOf u h is v rs

-- a live graph is the one to which its path leads, and so much is known of each of its nodes
pub record IsKnown (cut : Cut) (u : Network) (g : ℕ) (ins : List Carried) (x : Live) : Type 0 where
  pub graph : ℕ
  pub inputs : List Carried
  pub leads : LeadsTo u g ins x.path graph inputs
  pub live : IsGraphOf cut u graph inputs x
  pub nodes : (l : ℕ) (v : Vertex) → at_label (u graph).nodes l ≡ Some v → IsKnownAs cut u graph inputs l v (x.states l)

abbrev pub AreKnown : Cut → Network → ℕ → List Carried → Table → Type 0
AreKnown cut u g ins table = (f : ℕ) (x : Live) → table f ≡ Some x → IsKnown cut u g ins x
