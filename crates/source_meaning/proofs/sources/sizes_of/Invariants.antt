use Rattle.std.proofs.Common.{◌≡◌, ◌++◌, drop}
use Rattle.flow_value.specs.declared.value.Val.TheVariants as val
use Rattle.flow_value.specs.declared.cause.Cause.TheVariants as cause
use Rattle.source_meaning.specs.Slots.{slot_values}
use Rattle.meaning.specs.Sources.{sizes_of}
use Rattle.source_meaning.proofs.sources.sizes_of.Given as goal

-- the sizes so far, and those to come, are those of all generators
abbrev pub invariant-loop-source : goal.invariant-loop-source
invariant-loop-source l = record {
  all : l.sizes ++ sizes_of (drop l.source-index l.sources) (slot_values l.names l.left) ≡ sizes_of l.sources (slot_values l.names l.bounds);
  missing : l.missing ≡ val.Err cause.Explicit;
}
