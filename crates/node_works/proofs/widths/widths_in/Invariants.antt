use Rattle.std.proofs.Common.{◌≡◌, map, take}
use Rattle.if1_graph.specs.declared.graph.Graph.TheViews.{out-Graph}
use Rattle.if1_graph.specs.declared.graph.Unit1.{Unit1}
use Rattle.if1_graph.specs.Ready.{IsReady}
use Rattle.graph_meaning.specs.Networks.{kind_of}
use Rattle.unit_plan.specs.Plans.{outputs_in}
use Rattle.node_works.specs.Tables.{AreTablesOf}
use Rattle.node_works.proofs.widths.widths_in.Given as goal

abbrev pub invariant-loop-node : goal.invariant-loop-node
invariant-loop-node l = (u : Unit1) → AreTablesOf u l.tables → IsReady u → l.widths ≡ map (λ n. outputs_in u (kind_of u l.graph n)) (take l.node-index (out-Graph l.graph).nodes)
