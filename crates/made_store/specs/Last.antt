-- Operands of one step of which none is read behind one that takes it.
use Rattle.std.specs.Prelude.{◌≡◌, ℕ, List, [], ◌∷◌}
use Rattle.graph_meaning.specs.Demand.{Vertex, Network}
use Rattle.run_code.specs.Cells.{Operand, At}
use Rattle.run_code.specs.Made.{Plan}
use Rattle.run_made.specs.Plans.{IsRightPlan, Weighing, laid}
use Rattle.run_store.specs.Effects.{reads_of}
use Rattle.run_store.specs.Stored.{Mode, Takes, mode_at, tail}
use Rattle.made_store.specs.Settings.{Shares}
use Rattle.made_store.specs.Settled.{functions_settings, handling_of}
use Rattle.made_store.specs.Shared.{IsShared}

-- none of these stands for this cell
abbrev pub IsNoneOf : (cell : ℕ) → List Operand → Type 0
IsNoneOf i [] = Unit {0}
IsNoneOf i (a ∷ args) = (a ≡ At i → ⊥) × IsNoneOf i args

-- what is taken is read by none of these
abbrev pub IsLast : Mode → Operand → List Operand → Type 0
IsLast Takes (At i) args = IsNoneOf i args
IsLast _ _ args = Unit {0}

abbrev pub AreTakenLast : List Mode → List Operand → Type 0
AreTakenLast ms [] = Unit {0}
AreTakenLast ms (a ∷ args) = IsLast (mode_at ms) a args × AreTakenLast (tail ms) args

-- so it is at each step of code that is made of a right plan, with shares that are right at each graph
abbrev pub AreMadeTakenLast : Type 0
AreMadeTakenLast = (P : Plan) (S : Shares) (W : Weighing) (u : Network) (order : ℕ → List Vertex) (functions : List ℕ) (levels : ℕ) → IsRightPlan P W u order functions levels → ((g : ℕ) → IsShared P S W g)
    → (pc : ℕ) → AreTakenLast (handling_of (functions_settings P S levels functions) pc).modes (reads_of ((laid P W u order functions levels).code pc))
