-- What lines carry, each thing once, in the order in which it is met first.
use Rattle.std.specs.Prelude.{Bool, false, nat_eq, List, [], ◌∷◌, ◌++◌, if◌then◌else◌}
use Rattle.std.specs.List.{list_any}
use Rattle.lowering.specs.declared.feed.Carried.{Carried}
use Rattle.lowering.specs.declared.feed.Carried.TheVariants.{One, Many, Callee}

abbrev pub is_same : Carried → Carried → Bool
is_same (One a) (One b) = nat_eq a b
is_same (Many a) (Many b) = nat_eq a b
is_same (Callee a) (Callee b) = nat_eq a b
is_same _ _ = false

abbrev pub put : List Carried → Carried → List Carried
put ks c = if list_any (is_same c) ks then ks else ks ++ c ∷ []

abbrev pub added : List Carried → List Carried → List Carried
added ks [] = ks
added ks (c ∷ cs) = added (put ks c) cs
