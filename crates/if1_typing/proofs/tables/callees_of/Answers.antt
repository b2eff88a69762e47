use Rattle.std.proofs.Common.{◌∙◌, ℕ, List, ap, bytes_eq, if◌then◌else◌, Some, None, option_map}
use Rattle.std.proofs.lemmas.List.{take_all}
use Rattle.indexmap.specs.IndexMap.{get_by}
use Rattle.if1_graph.specs.Formed.{function_named}
use Rattle.if1_graph.specs.Tables.{or_else}
use Rattle.if1_graph.specs.declared.graph.Graph.{Graph}
use Rattle.if1_graph.specs.declared.graph.Graph.TheViews.{out-Graph}
use Rattle.if1_types.specs.Tables.{number_at}
use Rattle.if1_typing.specs.Tables.{or_zero}
use Rattle.if1_typing.proofs.Names.{names_more, names_all}
use Rattle.if1_typing.proofs.tables.callees_of.Goals as goal

pub loop-graph-preserved : goal.loop-graph-preserved
loop-graph-preserved c = λ text.
    let g = c.graph-item.result in
    let old = get_by (λ k. bytes_eq text k.items) c.loop-graph.callees in
    names_more (number_at c.args.sorts.now.labels c.args.sorts.now.numbers) c.args.graphs.now c.loop-graph.graph-index g c.loop-graph-test.true c.graph-item.is text old
    (get_by (λ k. bytes_eq text k.items) c.put.new.callees) (c.loop-graph.invariant text)
    (c.in_ok-put.ensures text
    ∙ ap (λ (n : List ℕ). or_else old (if bytes_eq n text then Some c.number.result else None)) c.as_slice.ensures
    ∙ ap (λ (n : ℕ). or_else old (if bytes_eq (out-Graph g).name text then Some n else None)) c.number.ensures)

pub returns : goal.returns
returns c = λ text.
    ap or_zero
    (c.loop-graph.invariant text
    ∙ ap (λ (gs : List Graph). option_map (λ g. number_at c.args.sorts.now.labels c.args.sorts.now.numbers (out-Graph g).fun) (function_named gs text))
    (take_all c.loop-graph.graph-index c.args.graphs.now c.loop-graph-test.false))
    ∙ names_all (number_at c.args.sorts.now.labels c.args.sorts.now.numbers) (function_named c.args.graphs.now text)
