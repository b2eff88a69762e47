use Rattle.std.proofs.Common.{◌≡◌, ◌++◌, drop}
use Rattle.flow_value.specs.declared.value.Val.TheVariants as val
use Rattle.flow_value.specs.declared.cause.Cause.TheVariants as cause
use Rattle.source_meaning.specs.Slots.{slot_values}
use Rattle.meaning.specs.Sources.{names_at}
use Rattle.source_meaning.proofs.sources.names_at.Given as goal

-- the values so far, and those to come, are those of all generators
abbrev pub invariant-loop-source : goal.invariant-loop-source
invariant-loop-source l = record {
  all : l.made ++ names_at (drop l.source-index l.sources) (slot_values l.names l.left) l.place ≡ names_at l.sources (slot_values l.names l.bounds) l.place;
  missing : l.missing ≡ val.Err cause.Explicit;
}
