use Rattle.std.proofs.Common.{◌≡◌, false, Bor, All, subst}
use Rattle.std.proofs.lemmas.List.{take_all}
use Rattle.std.proofs.lemmas.List.Elements.{All-more}
use Rattle.if1_graph.specs.declared.graph.Graph.{Graph}
use Rattle.if1_graph.specs.declared.graph.Graph.TheViews.{out-Graph}
use Rattle.mark_check.specs.Graphs.{AreUntaken}
use Rattle.mark_check.proofs.marks.take_nothing.Goals as goal

pub loop-graph-preserved : goal.loop-graph-preserved
loop-graph-preserved c =
    All-more (λ (g : Bor Graph). All (λ e. e.takes ≡ false) (out-Graph g.now).edges) c.args.graphs.now c.loop-graph.graph-index c.graph-item.result c.loop-graph-test.true c.loop-graph.invariant
    (subst (λ (g : Bor Graph). All (λ e. e.takes ≡ false) (out-Graph g.now).edges) c.graph-item.is (subst (All (λ e. e.takes ≡ false)) c.as_slice.ensures (c.takes_nothing.ensures.0 c.if-not-takes_nothing.false)))

pub returns : goal.returns
returns c = λ h. subst AreUntaken (take_all c.loop-graph.graph-index c.args.graphs.now c.loop-graph-test.false) c.loop-graph.invariant
