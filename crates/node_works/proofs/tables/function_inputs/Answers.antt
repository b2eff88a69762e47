use Rattle.std.proofs.Common.{◌∙◌, sym, ap}
use Rattle.std.specs.Prelude.{unwrap_or}
use Rattle.if1_graph.specs.declared.graph.Graph.TheViews.{out-Graph}
use Rattle.if1_graph.specs.Types.{sort_at}
use Rattle.if1_ports.specs.Outlines.{arguments_in}
use Rattle.if1_ports.proofs.Known.{arguments_known}
use Rattle.node_works.proofs.tables.function_inputs.Goals as goal

pub returns : goal.returns
returns c =
    let label = (out-Graph c.args.graph.now).fun in
    c.or_none.ensures
    ∙ ap (λ o. unwrap_or o 0)
    (c.arguments_in.ensures ∙ ap arguments_in (c.outline.ensures ∙ c.requires.types label) ∙ sym (arguments_known (sort_at c.args.unit.now.types label)))
