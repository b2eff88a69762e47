-- Scalar nodes whose operands are no errors, and that give one: an example for each cause of each row (IF1 manual M-170,
-- simple nodes).
use Rattle.std.specs.Prelude.{pos, true, false, [], ◌∷◌}
use Rattle.flow_value.specs.declared.cause.Cause.TheVariants.{Overflow, Zero, Bounds, Explicit}
use Rattle.flow_value.specs.declared.operation.Scalar1.TheVariants.{Neg, Abs, Not, Int, Bool as ToBool, Char}
use Rattle.flow_value.specs.declared.operation.Scalar2.TheVariants.{Plus, Minus, Times, Div, Mod, Max, Min, Equal, NotEqual, Less, LessEqual}
use Rattle.if1_graph.specs.declared.op.Simple.TheVariants.{One, Two, Error}
use Rattle.graph_examples.specs.Words.{greatest, least, minus_one, int, bool, char, null, array, Fails}

pub record AreScalarErrors : Type 0 where
  -- a result that does not fit 64 signed bits
  pub sum_too_great : Fails (Two Plus) (int greatest ∷ int (pos 1) ∷ []) Overflow
  pub sum_too_small : Fails (Two Plus) (int least ∷ int minus_one ∷ []) Overflow
  pub difference_too_great : Fails (Two Minus) (int greatest ∷ int minus_one ∷ []) Overflow
  pub difference_too_small : Fails (Two Minus) (int least ∷ int (pos 1) ∷ []) Overflow
  pub product_too_great : Fails (Two Times) (int greatest ∷ int (pos 2) ∷ []) Overflow
  pub product_too_small : Fails (Two Times) (int least ∷ int (pos 2) ∷ []) Overflow
  pub quotient_too_great : Fails (Two Div) (int least ∷ int minus_one ∷ []) Overflow
  pub negative_too_great : Fails (One Neg) (int least ∷ []) Overflow
  pub absolute_too_great : Fails (One Abs) (int least ∷ []) Overflow
  -- a division by zero
  pub quotient_by_zero : Fails (Two Div) (int (pos 7) ∷ int (pos 0) ∷ []) Zero
  pub remainder_by_zero : Fails (Two Mod) (int (pos 7) ∷ int (pos 0) ∷ []) Zero
  -- an integer that is no boolean, or the code of no character
  pub boolean_above : Fails (One ToBool) (int (pos 2) ∷ []) Bounds
  pub boolean_below : Fails (One ToBool) (int minus_one ∷ []) Bounds
  pub character_above : Fails (One Char) (int (pos 128) ∷ []) Bounds
  pub character_below : Fails (One Char) (int minus_one ∷ []) Bounds
  -- the error as such
  pub error_itself : Fails Error [] Explicit

-- operands of a kind that the row does not have
pub record AreForeignScalars : Type 0 where
  pub sum : Fails (Two Plus) (int (pos 1) ∷ bool true ∷ []) Explicit
  pub difference : Fails (Two Minus) (bool true ∷ bool true ∷ []) Explicit
  pub product : Fails (Two Times) (char 97 ∷ char 97 ∷ []) Explicit
  pub quotient : Fails (Two Div) (bool true ∷ bool true ∷ []) Explicit
  pub remainder : Fails (Two Mod) (char 97 ∷ char 97 ∷ []) Explicit
  pub greater : Fails (Two Max) (bool true ∷ bool false ∷ []) Explicit
  pub lesser : Fails (Two Min) (char 97 ∷ char 98 ∷ []) Explicit
  pub equal : Fails (Two Equal) (int (pos 1) ∷ char 97 ∷ []) Explicit
  pub equal_arrays : Fails (Two Equal) (array (pos 1) [] ∷ array (pos 1) [] ∷ []) Explicit
  pub not_equal : Fails (Two NotEqual) (null ∷ bool true ∷ []) Explicit
  pub less : Fails (Two Less) (bool false ∷ bool true ∷ []) Explicit
  pub less_or_equal : Fails (Two LessEqual) (null ∷ null ∷ []) Explicit
  pub negative : Fails (One Neg) (bool true ∷ []) Explicit
  pub absolute : Fails (One Abs) (char 97 ∷ []) Explicit
  pub other_boolean : Fails (One Not) (int (pos 1) ∷ []) Explicit
  pub integer : Fails (One Int) (null ∷ []) Explicit
  pub boolean : Fails (One ToBool) (char 97 ∷ []) Explicit
  pub character : Fails (One Char) (bool true ∷ []) Explicit
