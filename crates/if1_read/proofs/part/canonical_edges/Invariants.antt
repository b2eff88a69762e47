use Rattle.std.proofs.Common.{◌≡◌, None, map}
use Rattle.std.specs.List.Sorted.{IsStrictlyIncreasing}
use Rattle.if1_graph.specs.Units.{label_of}
use Rattle.if1_read.specs.Known.{IsTableSound, IsCanonical}
use Rattle.if1_read.specs.Made.{Each, lined_edges}
use Rattle.if1_read.proofs.Edgewise.{AreJudged}
use Rattle.if1_read.proofs.part.canonical_edges.Given as goal

abbrev pub invariant-loop-line : goal.invariant-loop-line
invariant-loop-line l = record {
  clean : l.first ≡ None → l.fn.first ≡ None;
  each : l.first ≡ None → IsTableSound l.known.table → l.labels ≡ map label_of l.nodes → IsStrictlyIncreasing l.labels →
      Each (IsCanonical l.known l.nodes) (lined_edges l.yielded) l.list;
  found : AreJudged l.known l.nodes l.labels l.yielded l.fn.first l.first;
}
