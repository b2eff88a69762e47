-- A token that is not there.
use Rattle.sisal_grammar.specs.declared.value.Placed.{Placed}
use Rattle.sisal_lex.specs.declared.token.Kind.TheVariants.{Letter}

-- no token
abbrev pub nowhere : Placed
nowhere = record { place = 0; kind = Letter 0; line = 0 }
