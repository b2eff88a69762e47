use Rattle.std.proofs.Common.{◌≡◌, ◌++◌, drop}
use Rattle.line_types.specs.Traces.{generators_traced}
use Rattle.line_labels.specs.Needs.{added}
use Rattle.line_walk.proofs.loops.add_generators.Given as goal

abbrev pub invariant-loop-place : goal.invariant-loop-place
invariant-loop-place l = record {
  needs : added l.needs (generators_traced l.types (drop l.place l.sources) l.left).lines ≡ added l.fn.needs (generators_traced l.types l.sources l.bounds).lines;
  values : l.values ++ (generators_traced l.types (drop l.place l.sources) l.left).values ≡ (generators_traced l.types l.sources l.bounds).values;
}
