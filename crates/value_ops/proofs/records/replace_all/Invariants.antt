use Rattle.std.proofs.Common.{◌≡◌, drop}
use Rattle.value_ops.specs.Aggregates.{replaced}
use Rattle.value_ops.proofs.records.replace_all.Given as goal

abbrev pub invariant-loop-place : goal.invariant-loop-place
invariant-loop-place l =
    replaced (drop l.place-index l.places) l.given l.fields ≡ replaced l.places l.fn.given l.fn.fields
