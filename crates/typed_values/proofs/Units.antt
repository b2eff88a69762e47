-- A function of a typed unit gives values of the types of its results.
use Rattle.typed_tree.specs.Units.{signatures}
use Rattle.fitting_units.specs.Laws.{header, headers}
use Rattle.fitting_units.proofs.Walk.{header_there}
use Rattle.fitting_units.proofs.Programs.{units_fit}
use Rattle.typed_values.specs.Laws.{AreUnitsTyped}
use Rattle.typed_values.proofs.Values.{calls_typed}

pub units_typed : AreUnitsTyped
units_typed u p once tags w t f s there n vs r h g =
    calls_typed p.types u.tokens.names (headers (signatures t.declared)) p.functions (units_fit u p once tags w t) f (header s) (header_there (signatures t.declared) f s there) n vs r h g
