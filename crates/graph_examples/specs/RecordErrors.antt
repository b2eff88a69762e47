-- Nodes on records and unions whose operands are no errors, and that give one (IF1 manual M-170, simple nodes). The table of
-- types keeps such operands away, so each of them is `error(explicit)`.
use Rattle.std.specs.Prelude.{◌≡◌, pos, [], ◌∷◌}
use Rattle.flow_value.specs.declared.cause.Cause.TheVariants.{Explicit}
use Rattle.if1_graph.specs.declared.op.Simple.TheVariants.{RBuild, RElements, RReplace}
use Rattle.graph_meaning.specs.Carried.{Unfilled}
use Rattle.graph_meaning.specs.NodeValues.{op}
use Rattle.graph_meaning.specs.NodeValues as shape
use Rattle.graph_examples.specs.Words.{num, int, error, fields, Fails}

pub record AreForeignRecords : Type 0 where
  -- a union of two filled ports, and of none
  pub union_of_two : op RBuild shape.Union (int (pos 5) ∷ int (pos 7) ∷ []) ≡ error Explicit ∷ []
  pub union_of_none : op RBuild shape.Union (Unfilled ∷ []) ≡ error Explicit ∷ []
  -- each field of what is no record, and a field past the last one
  pub fields_of_an_integer : op RElements (shape.Fields 2) (int (pos 5) ∷ []) ≡ error Explicit ∷ error Explicit ∷ []
  pub field_past_the_last : op RElements (shape.Fields 2) (fields (num 5 ∷ []) ∷ []) ≡ int (pos 5) ∷ error Explicit ∷ []
  pub replaced_in_an_integer : Fails RReplace (int (pos 5) ∷ int (pos 7) ∷ []) Explicit
  pub replaced_past_the_last : Fails RReplace (fields (num 5 ∷ []) ∷ Unfilled ∷ int (pos 7) ∷ []) Explicit
