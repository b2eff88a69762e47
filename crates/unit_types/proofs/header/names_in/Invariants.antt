use Rattle.std.proofs.Common.{◌≡◌, ◌++◌, drop}
use Rattle.unit_types.specs.Headings.{parameters_of}
use Rattle.unit_types.proofs.header.names_in.Given as goal

-- the names so far and those that are left are all
abbrev pub invariant-loop-field : goal.invariant-loop-field
invariant-loop-field l = l.names ++ parameters_of (drop l.field-index l.fields) ≡ parameters_of l.fields
