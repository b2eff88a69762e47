use Rattle.std.proofs.Common.{◌≡◌, map, take}
use Rattle.if1_graph.specs.Types.{sort_at}
use Rattle.if1_ports.specs.Outlines.{outline_of}
use Rattle.if1_ports.proofs.outlines.outlines_of.Given as goal

abbrev pub invariant-loop-entry : goal.invariant-loop-entry
invariant-loop-entry l = (l.labels ≡ map (λ e. e.label) (take l.entry-index l.types)) × (l.rows ≡ map (λ e. outline_of (sort_at l.types e.label)) (take l.entry-index l.types))
