use Rattle.std.proofs.Common.{◌≡◌, ◌++◌, drop}
use Rattle.std.specs.Option.{option_map}
use Rattle.type_rules.specs.Records.{all_places}
use Rattle.type_rules.proofs.records.all_places.Given as goal

-- the places so far, with those to come, are all
abbrev pub invariant-loop-i : goal.invariant-loop-i
invariant-loop-i l = option_map (λ ps. l.places ++ ps) (all_places l.types l.ty (drop l.i l.names) (drop l.i l.values)) ≡ all_places l.types l.ty l.names l.values
