use Rattle.std.proofs.Common.{◌≡◌, ◌++◌, drop}
use Rattle.unit_types.specs.Headings.{parameters_of}
use Rattle.unit_types.proofs.Names.{AreNamesTo}
use Rattle.unit_types.proofs.header.are_distinct.Given as goal

-- the names so far, with those that are left
abbrev pub invariant-loop-field : goal.invariant-loop-field
invariant-loop-field l = record {
  names : l.seen ++ parameters_of (drop l.field-index l.fields) ≡ parameters_of l.fields;
  named : AreNamesTo l.fields l.field-index l.seen;
}
