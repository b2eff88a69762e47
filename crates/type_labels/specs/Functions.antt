-- The labels of tuples and functions by the labels of types.
use Rattle.std.specs.Prelude.{ℕ, List, [], map}
use Rattle.lowering.specs.Types.{Table, Labelled, Part, entry, enter, members}

-- the members of a tuple have no names
abbrev pub unnamed : List ℕ → List Part
unnamed tys = map (λ t. ([], t)) tys

abbrev pub tuple_by : (ℕ → Table → Labelled) → List ℕ → Table → Labelled
tuple_by type tys ts = members type 8 (unnamed tys) ts

abbrev pub function_by : (ℕ → Table → Labelled) → List ℕ → List ℕ → Table → Labelled
function_by type params results ts =
    let a = tuple_by type params ts in
    let r = tuple_by type results a.table in
    enter (entry 3 a.label r.label []) r.table
