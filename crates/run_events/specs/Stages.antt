-- Which part of a node a graph is that the node enters, and with what beside its operands.
use Rattle.std.specs.Prelude.{◌≡◌, ℕ, Bool, List, [], ◌∷◌, ◌++◌, slice_get, Option, Some, None}
use Rattle.if1_graph.specs.declared.graph.Graph.{Graph}
use Rattle.if1_graph.specs.declared.op.Compound.{Compound}
use Rattle.if1_graph.specs.declared.op.Compound.TheVariants as compound
use Rattle.if1_graph.specs.declared.op.Part.{Part}
use Rattle.if1_graph.specs.declared.op.Part.TheVariants as part
use Rattle.if1_graph.specs.Parts.{part_at}
use Rattle.graph_meaning.specs.Carried.{Carried}
use Rattle.graph_meaning.specs.Forms.{Form, Call, Select, TagCase, LoopA, LoopB, ForAll, Enter, Iterate, Begins, Stage, Called, Selecting, Chosen, Starting, Testing, Turning, Generating, Returning, first}
use Rattle.graph_meaning.specs.Demand.{Network}
use Rattle.graph_meaning.specs.Networks.{part, form_of}
use Rattle.run_states.specs.Phases.{Comes}
use Rattle.run_events.specs.Lending.{BeginWith, IsOfArm}

-- the graph that a node of this form enters at this stage
abbrev pub IsPartAt : Form → Stage → ℕ → Type 0
IsPartAt (Call g) Called h = h ≡ g
IsPartAt (Select s gs n) Selecting h = h ≡ s
IsPartAt (Select s gs n) Chosen h = (i : ℕ) × (slice_get gs i ≡ Some h)
IsPartAt (TagCase gs n) Chosen h = (i : ℕ) × (slice_get gs i ≡ Some h)
IsPartAt (LoopA i t b r n) Starting h = h ≡ i
IsPartAt (LoopA i t b r n) (Testing turns) h = h ≡ t
IsPartAt (LoopA i t b r n) (Turning turns) h = h ≡ b
IsPartAt (LoopA i t b r n) Returning h = h ≡ r
IsPartAt (LoopB i t b r n) Starting h = h ≡ i
IsPartAt (LoopB i t b r n) (Testing turns) h = h ≡ t
IsPartAt (LoopB i t b r n) (Turning turns) h = h ≡ b
IsPartAt (LoopB i t b r n) Returning h = h ≡ r
IsPartAt (ForAll g b r m n) Generating h = h ≡ g
IsPartAt (ForAll g b r m n) Returning h = h ≡ r
IsPartAt _ _ h = ⊥

-- the graph of a ForAll's iterations
abbrev pub IsIterated : Form → ℕ → Type 0
IsIterated (ForAll g b r m n) h = h ≡ b
IsIterated _ h = ⊥

-- behind the operands stand the last loop values
abbrev pub IsWithValues : List Carried → List (List Carried) → List Carried → Type 0
IsWithValues ks [] is = ⊥
IsWithValues ks (ls ∷ turns) is = is ≡ ks ++ ls

-- the inputs are the operands, with the loop values in a test and a body, and the content of the union in its place in an arm
abbrev pub AreInputsAt : Form → List Carried → Stage → List Carried → Type 0
AreInputsAt (TagCase gs n) ks stage is = IsOfArm ks is
AreInputsAt form ks (Testing turns) is = IsWithValues ks turns is
AreInputsAt form ks (Turning turns) is = IsWithValues ks turns is
AreInputsAt form ks Returning is = BeginWith ks is
AreInputsAt form ks stage is = is ≡ ks

pub record AreStagesTold (u : Network) (form : Form) (ks : List Carried) : Type 0 where
  pub begun : (h : ℕ) (is : List Carried) (stage : Stage) → first form ks ≡ Begins h is stage → IsPartAt form stage h × AreInputsAt form ks stage is
  pub entered : (k h : ℕ) (t : Bool) (is : List Carried) (stage : Stage) → Comes u form ks k (Enter t h is stage) → IsPartAt form stage h × AreInputsAt form ks stage is
  pub iterated : (k h : ℕ) (row : List Carried) (rows : List (List Carried)) (ms : List Carried) → Comes u form ks k (Iterate h row rows ms) → IsIterated form h

abbrev pub AreAllStagesTold : Type 0
AreAllStagesTold = (u : Network) (form : Form) (ks : List Carried) → AreStagesTold u form ks

-- ---- of a compound node

-- what a part is for that is entered at this stage
abbrev pub part_for : Compound → Stage → Option Part
part_for compound.Select Selecting = Some part.Selector
part_for compound.Select Chosen = Some part.Alternative
part_for compound.TagCase Chosen = Some part.Arm
part_for compound.LoopA Starting = Some part.Initialization
part_for compound.LoopA (Testing turns) = Some part.Test
part_for compound.LoopA (Turning turns) = Some part.Body
part_for compound.LoopA Returning = Some part.Returns
part_for compound.LoopB Starting = Some part.Initialization
part_for compound.LoopB (Testing turns) = Some part.Test
part_for compound.LoopB (Turning turns) = Some part.Body
part_for compound.LoopB Returning = Some part.Returns
part_for compound.ForAll Generating = Some part.Generator
part_for compound.ForAll Returning = Some part.Returns
part_for _ _ = None

-- the graph is the one at some place among those of the node, and it is for this
pub record IsPartFor (c : Compound) (gs : List Graph) (stage : Stage) (h : ℕ) : Type 0 where
  pub place : ℕ
  pub is_for : Part
  pub told : part_for c stage ≡ Some is_for
  pub there : part_at c place ≡ Some is_for
  pub number : h ≡ part gs place

-- So by the stage at which a node enters a graph it is known which of its parts that is.
abbrev pub ArePartsTold : Type 0
ArePartsTold = (c : Compound) (gs : List Graph) (arms : List ℕ) (stage : Stage) (h : ℕ) → IsPartAt (form_of c gs arms) stage h → IsPartFor c gs stage h
