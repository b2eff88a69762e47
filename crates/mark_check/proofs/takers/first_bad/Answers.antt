use Rattle.std.proofs.Common.{subst, All, ◌≤◌, length}
use Rattle.std.proofs.lemmas.List.{take_all}
use Rattle.if1_graph.specs.declared.graph.Graph.TheViews.{out-Graph}
use Rattle.mark_check.specs.Takers.{IsWrongTaker}
use Rattle.mark_check.proofs.Blamed.{node-there, turn-bad, turn-good}
use Rattle.mark_check.proofs.takers.first_bad.Goals as goal

pub reader_at-found-requires-clause-node : goal.reader_at-found-requires-clause-node
reader_at-found-requires-clause-node c ne =
    node-there c.args.graph.now c.args.flags.now c.args.labels.now c.args.lists.now c.args.users.now c.args.takers.now c.requires.looked c.as_slice-edge-items.result.now c.as_slice-edge-items.ensures
    c.loop-index.index c.edge-item.result c.loop-index-test.true c.edge-item.is ne

pub returns-in-Some : goal.returns-in-Some
returns-in-Some c = λ u home flags.
    turn-bad c.args.graph.now c.args.flags.now c.args.labels.now c.args.lists.now c.args.users.now c.args.takers.now c.requires.looked c.as_slice-edge-items.result.now c.as_slice-edge-items.ensures
    c.loop-index.index c.edge-item.result c.loop-index-test.true c.edge-item.is c.reader_at-found.result c.reader_at-found.ensures.reader c.in-Some.reader c.in-Some.is u home flags (c.loop-index.invariant.right u home flags)

pub loop-index-preserved : goal.loop-index-preserved
loop-index-preserved c =
    record {
      scratch = c.reader_at-found.ensures.scratch;
      right = λ u home flags.
          turn-good c.args.graph.now c.args.flags.now c.args.labels.now c.args.lists.now c.args.users.now c.args.takers.now c.requires.looked c.as_slice-edge-items.result.now c.as_slice-edge-items.ensures
          c.loop-index.index c.edge-item.result c.loop-index-test.true c.edge-item.is c.reader_at-found.result c.reader_at-found.ensures.reader c.in_default.is u home flags (c.loop-index.invariant.right u home flags);
    }

pub returns : goal.returns
returns c = λ u home flags.
    subst (All (λ e. ¬ IsWrongTaker u (record { graph = c.args.graph.now; home = home }) e))
    (take_all c.loop-index.index (out-Graph c.args.graph.now).edges (subst (λ es. length es ≤ c.loop-index.index) c.as_slice-edge-items.ensures c.loop-index-test.false))
    (c.loop-index.invariant.right u home flags)
