use Rattle.std.proofs.Common.{◌≡◌, map, take}
use Rattle.if1_graph.specs.Units.{Function, each_from, places_of, most_levels}
use Rattle.may_take.specs.Looked.{flags_by}
use Rattle.may_take.proofs.units.flags_in.Given as goal

abbrev pub invariant-loop-graph : goal.invariant-loop-graph
invariant-loop-graph l = l.flags.items ≡ map (flags_by l.fn.asked l.unit) (each_from (λ k g. places_of most_levels (Function k) g) 0 (take l.graph-index l.unit.graphs))
