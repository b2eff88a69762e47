use Rattle.std.proofs.Common.{◌≡◌, length, drop}
use Rattle.lowered_data.specs.Parts.{closed_at}
use Rattle.lowered_data.proofs.closing.close_graphs.Given as goal

abbrev pub invariant-loop-place : goal.invariant-loop-place
invariant-loop-place l = record {
  count : length l.graphs ≡ length l.initial.graphs;
  closed : closed_at l.keys l.first l.own (drop l.place-index l.places) l.graphs ≡ closed_at l.keys l.first l.own l.places l.initial.graphs;
}
