-- The types of the arguments of a unit's functions, by number.
use Rattle.std.specs.Prelude.{◌≡◌, ℕ, List, Some}
use Rattle.flow_value.specs.declared.ty.Ty.{Ty}
use Rattle.value_text.specs.Numbered.{Numbered, StandForAll}
use Rattle.if1_graph.specs.declared.graph.Unit1.{Unit1}
use Rattle.if1_valid.specs.Params.{params_of}

-- The numbers stand for the types of the arguments of the function of a number, which has some.
pub record AreArgumentsOf (u : Unit1) (function : ℕ) (types : Numbered) (numbers : List ℕ) : Type 0 where
  pub arguments : List Ty
  pub are : params_of u function ≡ Some arguments
  pub stand : StandForAll types numbers arguments
