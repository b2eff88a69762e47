-- The parameters of a function by number.
use Rattle.std.specs.Prelude.{ℕ, List, [], ◌∷◌}
use Rattle.value_names.specs.Names.{Names}
use Rattle.value_names.specs.Scopes.{define, no_names}
use Rattle.typing_laws.specs.Given.{Header}

-- names of these types come into force, one after another
abbrev pub define_params : List ℕ → List ℕ → Names → Names
define_params [] ns names = names
define_params (x ∷ xs) [] names = names
define_params (x ∷ xs) (n ∷ ns) names = define_params xs ns (define x n names)

-- the parameters are in force in the whole function
abbrev pub parameters_in : Header → Names
parameters_in h = define_params h.parameters h.params no_names
