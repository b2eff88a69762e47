-- The blocks in which places of code stand.
use Rattle.std.specs.Prelude.{◌≡◌, ℕ, suc, ◌+◌, ◌<◌, ◌≤◌, ltb, if◌then◌else◌, List, [], ◌∷◌, length, get_or}
use Rattle.graph_meaning.specs.Demand.{Vertex, Network}
use Rattle.graph_meaning.specs.Entered.{IsIn}
use Rattle.run_code.specs.Made.{Line, Plan, functions_lines, functions_size, room_of}
use Rattle.run_laws.specs.Inside.{Stays}
use Rattle.run_made.specs.Plans.{IsRightPlan, Weighing, laid, last_line}
use Rattle.unit_whole.specs.Even.{IsEven, IsStepEven}

-- the function at a place, where the first of these begins at a place; 0 behind them
abbrev pub function_at : Plan → List ℕ → (place pc : ℕ) → ℕ
function_at P [] a pc = 0
function_at P (f ∷ fs) a pc = if ltb pc (a + suc (P.size f)) then f else function_at P fs (a + suc (P.size f)) pc

module _ (P : Plan) (W : Weighing) (u : Network) (order : ℕ → List Vertex) (functions : List ℕ) (levels : ℕ) where
  -- The step at a place is one of a function, which begins and ends there. It stays inside, and is even.
  pub record IsInBlock (pc : ℕ) (l : Line) : Type 0 where
    pub function : ℕ
    pub begin : ℕ
    pub is_in : IsIn function functions
    pub from : begin ≤ pc
    pub before : pc < begin + suc (P.size function)
    pub ends : begin + suc (P.size function) ≤ functions_size P functions
    pub same : (t : ℕ) → begin ≤ t → t < begin + suc (P.size function) → function_at P functions 0 t ≡ function
    pub stays : Stays (laid P W u order functions levels) (room_of P function) begin (begin + suc (P.size function)) pc l.step
    pub even : IsStepEven P functions (length (P.results function)) l.origin l.step

-- so it is with each place, and a function's entry stands in its block
abbrev pub DoPlacesStandInBlocks : Type 0
DoPlacesStandInBlocks = (P : Plan) (W : Weighing) (u : Network) (order : ℕ → List Vertex) (functions : List ℕ) (levels : ℕ) → IsRightPlan P W u order functions levels → IsEven P functions
    → ((pc : ℕ) → pc < functions_size P functions → IsInBlock P W u order functions levels pc (get_or (functions_lines P levels functions 0) pc last_line))
    × ((f : ℕ) → IsIn f functions → (P.entry f < functions_size P functions) × (function_at P functions 0 (P.entry f) ≡ f))
    × (length (functions_lines P levels functions 0) ≡ functions_size P functions)
