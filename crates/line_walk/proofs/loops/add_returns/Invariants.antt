use Rattle.std.proofs.Common.{◌≡◌, drop}
use Rattle.line_types.specs.Traces.{returns_traced}
use Rattle.line_labels.specs.Needs.{added}
use Rattle.line_walk.specs.Met.{plain}
use Rattle.line_walk.proofs.loops.add_returns.Given as goal

abbrev pub invariant-loop-place : goal.invariant-loop-place
invariant-loop-place l =
    added l.needs (returns_traced (plain l.bound) (drop l.place l.clauses) l.left (drop l.place l.types)).lines
    ≡ added l.fn.needs (returns_traced (plain l.bound) l.clauses l.multiples l.types).lines
