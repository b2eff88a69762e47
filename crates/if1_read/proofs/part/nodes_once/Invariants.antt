use Rattle.std.proofs.Common.{◌≡◌, None, map}
use Rattle.if1_graph.specs.Units.{label_of}
use Rattle.if1_read.specs.Made.{lined_nodes}
use Rattle.if1_read.proofs.Onely.{RisesTo, Turn}
use Rattle.if1_read.proofs.part.nodes_once.Given as goal

abbrev pub invariant-loop-line : goal.invariant-loop-line
invariant-loop-line l = record {
  rise : RisesTo l.last (map label_of l.once);
  clean : l.first ≡ None → l.fn.first ≡ None;
  all : l.first ≡ None → l.once ≡ lined_nodes l.yielded;
  turn : Turn label_of l.fn.first l.yielded l.last l.first l.once;
}
