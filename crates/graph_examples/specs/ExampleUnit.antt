-- What the example unit is, and what its function gives and costs.
use Rattle.std.specs.Prelude.{◌≡◌, ℕ, ℤ, pos, ◌+ℤ◌, false, true, List, [], ◌∷◌, ◌++◌}
use Rattle.std.specs.Int.{int_max}
use Rattle.std.specs.List.{flat_map}
use Rattle.std.specs.Ordering.{int_eq}
use Rattle.flow_value.specs.Scalar.{fitted}
use Rattle.flow_value.specs.declared.cause.Cause.{Cause}
use Rattle.flow_value.specs.declared.cause.Cause.TheVariants.{Overflow}
use Rattle.flow_value.specs.declared.value.Val.{Val}
use Rattle.flow_value.specs.declared.value.Val.TheVariants as val
use Rattle.if1_graph.specs.Lines.{if1_text}
use Rattle.if1_graph.specs.Normal.{IsNormal}
use Rattle.if1_graph.specs.Ready.{IsReady}
use Rattle.graph_meaning.specs.Carried.{Carried, Value}
use Rattle.graph_meaning.specs.Demand.{Cut, IsCut}
use Rattle.graph_meaning.specs.Laws.{HasOneEnd}
use Rattle.graph_meaning.specs.Networks.{network}
use Rattle.if1_marks.specs.Orders.{AreOrdersRight}
use Rattle.graph_meaning.specs.Plain.{Means, Costs}
use Rattle.graph_examples.specs.Greater.{greater, text}
use Rattle.graph_examples.specs.Words.{num, int, error, greatest}

-- `main`, which is graph 1, gives this value on two operands, at some depth of calls and turns
abbrev pub MainGives : Carried → Carried → Val → Type 0
MainGives a b v = (n : ℕ) × Means (network greater) n 1 (a ∷ b ∷ []) (Value v ∷ [])

abbrev pub MainCosts : Carried → Carried → ℕ → Type 0
MainCosts a b c = (n : ℕ) × Costs (network greater) n 1 (a ∷ b ∷ []) c

pub record IsUnitRight : Type 0 where
  pub ready : IsReady greater
  pub normal : IsNormal greater
  pub ordered : AreOrdersRight greater
  -- each line of its text is ended by a line feed, 10
  pub written : if1_text greater ≡ flat_map (λ l. l ++ 10 ∷ []) text

pub record IsMainRight : Type 0 where
  -- of two that differ the greater one, of two that are equal their sum
  pub differ : (m n : ℤ) → int_eq m n ≡ false → MainGives (int m) (int n) (val.Int (int_max m n))
  pub same : (m n : ℤ) → int_eq m n ≡ true → MainGives (int m) (int n) (fitted (m +ℤ n))
  pub of_5_and_7 : MainGives (int (pos 5)) (int (pos 7)) (num 7)
  pub of_6_and_6 : MainGives (int (pos 6)) (int (pos 6)) (num 12)
  pub too_great : MainGives (int greatest) (int greatest) (val.Err Overflow)
  -- the selector is the error of the least port, and so is the result
  pub first_error : (c : Cause) (n : ℤ) → MainGives (error c) (int n) (val.Err c)
  pub both_errors : (c d : Cause) → MainGives (error c) (error d) (val.Err c)
  -- the Select, the two nodes of its selector, and that of an alternative; with a selector that fails no alternative is entered
  pub cost : (m n : ℤ) → MainCosts (int m) (int n) 4
  pub cost_of_errors : (c d : Cause) → MainCosts (error c) (error d) 3

-- every order of firings ends alike, and none is stuck
abbrev pub HasMainOneEnd : Type 0
HasMainOneEnd = (cut : Cut) (ins : List Carried) (limit : ℕ) → IsCut cut → HasOneEnd cut greater 1 ins limit
