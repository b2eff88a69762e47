use Rattle.std.proofs.Common.{subst, length, All, ◌≤◌}
use Rattle.std.proofs.lemmas.List.{take_all}
use Rattle.if1_graph.specs.declared.graph.Graph.TheViews.{out-Graph}
use Rattle.mark_check.specs.Entries.{IsWrong, entries}
use Rattle.mark_check.proofs.Wrong.{turn-wrong, turn-right, linked-here}
use Rattle.mark_check.proofs.lists.first_in.Goals as goal

pub first_on_list-found-requires-clause-linked : goal.first_on_list-found-requires-clause-linked
first_on_list-found-requires-clause-linked c =
    linked-here c.args.graph.now c.args.labels.now c.requires.net.is c.as_slice-node-items.result.now c.as_slice-node-items.ensures c.loop-at.at c.node-item.result c.loop-at-test.true c.node-item.is c.as_slice.result.now c.as_slice.ensures
    c.args.lists.now c.requires.net

pub returns-in-Some : goal.returns-in-Some
returns-in-Some c =
    turn-wrong c.args.graph.now c.args.labels.now c.requires.net.is c.as_slice-node-items.result.now c.as_slice-node-items.ensures c.loop-at.at c.node-item.result c.loop-at-test.true c.node-item.is c.as_slice.result.now c.as_slice.ensures
    c.loop-at.invariant c.first_on_list-found.result c.in-Some.label c.in-Some.is (c.first_on_list-found.ensures c.args.graph.now c.requires.net)

pub loop-at-preserved : goal.loop-at-preserved
loop-at-preserved c =
    turn-right c.args.graph.now c.args.labels.now c.requires.net.is c.as_slice-node-items.result.now c.as_slice-node-items.ensures c.loop-at.at c.node-item.result c.loop-at-test.true c.node-item.is c.as_slice.result.now c.as_slice.ensures
    c.loop-at.invariant c.first_on_list-found.result c.in_default.is (c.first_on_list-found.ensures c.args.graph.now c.requires.net)

pub returns : goal.returns
returns c =
    subst (λ ns. All (λ at. ¬ IsWrong c.args.graph.now at) (entries ns))
    (take_all c.loop-at.at (out-Graph c.args.graph.now).nodes (subst (λ ns. length ns ≤ c.loop-at.at) c.as_slice-node-items.ensures c.loop-at-test.false)) c.loop-at.invariant
