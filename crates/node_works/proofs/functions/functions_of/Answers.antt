use Rattle.std.proofs.Common.{◌∙◌, ℕ, List, ap, bytes_eq, if◌then◌else◌, Some, None}
use Rattle.std.proofs.lemmas.List.{take_all}
use Rattle.indexmap.specs.IndexMap.{get_by}
use Rattle.if1_graph.specs.Tables.{or_else}
use Rattle.if1_graph.specs.declared.graph.Graph.{Graph}
use Rattle.if1_graph.specs.declared.graph.Graph.TheViews.{out-Graph}
use Rattle.node_works.specs.declared.functions.Callee.{Callee}
use Rattle.node_works.specs.Tables.{callee_named}
use Rattle.node_works.proofs.Named.{named-more}
use Rattle.node_works.proofs.functions.functions_of.Goals as goal

pub loop-graph-preserved : goal.loop-graph-preserved
loop-graph-preserved c = λ text.
    let g = c.graph-item.result in
    let old = get_by (λ k. bytes_eq text k.items) c.loop-graph.functions in
    named-more c.args.graphs.now c.loop-graph.graph-index g c.loop-graph-test.true c.graph-item.is text old
    (get_by (λ k. bytes_eq text k.items) c.put.new.functions) (c.loop-graph.invariant text)
    (c.in_ok-put.ensures text
    ∙ ap (λ (n : List ℕ). or_else old (if bytes_eq n text then Some c.callee_of.result else None)) c.as_slice.ensures
    ∙ ap (λ (o : Callee). or_else old (if bytes_eq (out-Graph g).name text then Some o else None)) c.callee_of.ensures)

pub returns : goal.returns
returns c = λ text.
    c.loop-graph.invariant text
    ∙ ap (λ (gs : List Graph). callee_named gs text) (take_all c.loop-graph.graph-index c.args.graphs.now c.loop-graph-test.false)
