-- Sets of ports, as lists.
use Rattle.std.specs.Prelude.{ℕ, Bool, List, ◌==◌}
use Rattle.std.specs.List.{list_any}
use Rattle.if1_marks.specs.Given.{Inside}
use Rattle.may_take.specs.declared.inputs.Inputs.{Inputs}

abbrev pub has : List ℕ → ℕ → Bool
has ports port = list_any (λ p. p == port) ports

-- what sets of ports tell of the inputs of a graph
abbrev pub inside_by : Inputs → Inside
inside_by i = record { is_used = has i.used; is_given = has i.given }
