-- What is right of the worked units.
use Rattle.std.specs.Prelude.{◌≡◌, ℕ, pos, List, [], ◌∷◌, ◌++◌}
use Rattle.std.specs.List.{flat_map}
use Rattle.if1_graph.specs.declared.graph.Unit1.{Unit1}
use Rattle.if1_graph.specs.Lines.{if1_text}
use Rattle.if1_graph.specs.Normal.{IsNormal}
use Rattle.if1_graph.specs.Ready.{IsReady}
use Rattle.if1_marks.specs.Sound.{IsSound}
use Rattle.graph_meaning.specs.Carried.{Carried}
use Rattle.graph_meaning.specs.Networks.{network}
use Rattle.graph_meaning.specs.Plain.{Means, Costs}
use Rattle.graph_meaning.specs.StorageUnits.{UnitCopies, UnitWrites}
use Rattle.graph_examples.specs.Words.{num, int, array}
use Rattle.worked_units.specs.Changed as changing
use Rattle.worked_units.specs.Chosen as choosing

-- the unit is valid, stands in canonical order and has sound marks, and this is its canonical text: each line is ended by a line
-- feed, 10
pub record IsWorked (u : Unit1) (text : List (List ℕ)) : Type 0 where
  pub ready : IsReady u
  pub normal : IsNormal u
  pub sound : IsSound u
  pub written : if1_text u ≡ flat_map (λ l. l ++ 10 ∷ []) text

-- what `main`, which is graph 1, gives on these inputs, and how many firings, copied leaves and written elements that takes
pub record HasAnswer (u : Unit1) (ins rs : List Carried) (cost copies writes : ℕ) : Type 0 where
  pub gives : (n : ℕ) × Means (network u) n 1 ins rs
  pub costs : (n : ℕ) × Costs (network u) n 1 ins cost
  pub copied : UnitCopies u 1 ins copies
  pub written : UnitWrites u 1 ins writes

abbrev pub IsChosenWorked : Type 0
IsChosenWorked = IsWorked choosing.chosen choosing.text

pub record IsChosenAnswered : Type 0 where
  pub of_0 : HasAnswer choosing.chosen (int (pos 0) ∷ []) (int (pos 4) ∷ []) 1 0 0
  pub of_1 : HasAnswer choosing.chosen (int (pos 1) ∷ []) (int (pos 5) ∷ []) 1 0 0

abbrev pub IsChangedWorked : Type 0
IsChangedWorked = IsWorked changing.changed changing.text

-- the marks save both copies: of the array that is changed, and of the changed one
abbrev pub IsChangedAnswered : Type 0
IsChangedAnswered = HasAnswer changing.changed [] (int (pos 5) ∷ array (pos 1) (num 9 ∷ num 5 ∷ num 5 ∷ []) ∷ []) 3 0 3
