-- Networks that grow: graphs that are added beside others, and nodes that are added to a graph.
use Rattle.std.specs.Prelude.{◌≡◌, ℕ, Bool, true, List, [], ◌∷◌, Some}
use Rattle.graph_meaning.specs.Forms.{Form, Call, Select, TagCase, LoopA, LoopB, ForAll}
use Rattle.graph_meaning.specs.Demand.{Kind, Plain, Whole, Vertex, Network, at_label}

-- the graphs that a node of this form may enter
abbrev pub graphs_of : Form → List ℕ
graphs_of (Call g) = g ∷ []
graphs_of (Select s gs n) = s ∷ gs
graphs_of (TagCase gs n) = gs
graphs_of (LoopA i t b r n) = i ∷ t ∷ b ∷ r ∷ []
graphs_of (LoopB i t b r n) = i ∷ t ∷ b ∷ r ∷ []
graphs_of (ForAll g b r m n) = g ∷ b ∷ r ∷ []

abbrev pub AreAmong : (ℕ → Bool) → List ℕ → Type 0
AreAmong P [] = Unit {0}
AreAmong P (g ∷ gs) = (P g ≡ true) × AreAmong P gs

-- a node of this kind enters graphs of this set alone
abbrev pub EntersAmong : (ℕ → Bool) → Kind → Type 0
EntersAmong P (Plain row shape) = Unit {0}
EntersAmong P (Whole form) = AreAmong P (graphs_of form)

-- and so does each node that has a label
abbrev pub EnterAmong : (ℕ → Bool) → List Vertex → Type 0
EnterAmong P [] = Unit {0}
EnterAmong P (v ∷ vs) = EntersAmong P v.kind × EnterAmong P vs

-- The graphs of the set are the same in both networks, and enter none but those of the set.
pub record AreKept (P : ℕ → Bool) (u v : Network) : Type 0 where
  pub same : (g : ℕ) → P g ≡ true → v g ≡ u g
  pub closed : (g : ℕ) → P g ≡ true → EnterAmong P (u g).nodes

-- the graph has each node that it had, maybe among more, and the nodes that it had enter graphs of the set alone
pub record IsGrown (P : ℕ → Bool) (u v : Network) (g : ℕ) : Type 0 where
  pub kept : (l : ℕ) (x : Vertex) → at_label (u g).nodes l ≡ Some x → at_label (v g).nodes l ≡ Some x
  pub closed : EnterAmong P (u g).nodes
