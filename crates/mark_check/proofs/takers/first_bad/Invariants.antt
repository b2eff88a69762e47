use Rattle.std.proofs.Common.{◌≡◌, map, take, All}
use Rattle.if1_graph.specs.declared.graph.Graph.TheViews.{out-Graph}
use Rattle.if1_graph.specs.declared.graph.Unit1.{Unit1}
use Rattle.if1_graph.specs.Units.{Home}
use Rattle.marks_made.specs.Units.{is_candidate}
use Rattle.mark_check.specs.Late.{IsScratch}
use Rattle.mark_check.specs.Takers.{IsWrongTaker}
use Rattle.mark_check.proofs.takers.first_bad.Given as goal

abbrev pub invariant-loop-index : goal.invariant-loop-index
invariant-loop-index l =
    record {
      scratch : IsScratch l.lists l.scratch;
      right : (u : Unit1) (home : Home) → l.flags ≡ map (is_candidate u (record { graph = l.graph; home = home })) (out-Graph l.graph).edges →
          All (λ e. ¬ IsWrongTaker u (record { graph = l.graph; home = home }) e) (take l.index (out-Graph l.graph).edges);
    }
