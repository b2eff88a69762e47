-- What the table derives.
use Rattle.std.specs.Prelude.{◌≡◌, List, [], ◌∷◌, Some, map}
use Rattle.pushdown.specs.declared.Step.{Step}
use Rattle.pushdown.specs.declared.Symbol.TheVariants.{Rule}
use Rattle.pushdown.specs.Grammar.{Derives}
use Rattle.pushdown.specs.Meaning.{run}
use Rattle.sisal_grammar.specs.declared.value.Outline.{Outline}
use Rattle.sisal_grammar.specs.declared.value.Placed.{Placed}
use Rattle.sisal_grammar.specs.declared.value.Value.TheVariants as value
use Rattle.sisal_grammar.specs.Acts.{sisal}
use Rattle.sisal_grammar.specs.Classes.{class_of}
use Rattle.sisal_grammar.specs.Language.{language}
use Rattle.sisal_grammar.specs.Plan.{plan}

-- By these steps the factored grammar derives the tokens, and the actions make this unit of them.
pub record IsDerived (tokens : List Placed) (o : Outline) (steps : List Step) : Type 0 where
  pub derives : Derives language (Rule 0 ∷ []) (map (λ t. class_of t.kind) tokens) steps
  pub gives : run sisal plan steps tokens ≡ Some (value.AnOutline o ∷ [])
