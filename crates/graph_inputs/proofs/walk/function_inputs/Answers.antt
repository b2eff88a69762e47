use Rattle.std.proofs.Common.{◌∙◌, None, unwrap_or, sym, ap}
use Rattle.if1_graph.specs.declared.graph.Graph.TheViews.{out-Graph}
use Rattle.if1_graph.specs.Types.{sort_at}
use Rattle.if1_ports.specs.Outlines.{arguments_in}
use Rattle.if1_ports.proofs.Known.{arguments_known}
use Rattle.graph_inputs.specs.declared.inputs.Inputs.{Inputs}
use Rattle.graph_inputs.proofs.walk.function_inputs.Goals as goal

pub returns : goal.returns
returns c = λ u k known.
    let label = (out-Graph c.args.graph.now).fun in
    let all = c.or_none.ensures ∙ ap (λ o. unwrap_or o 0) (c.arguments_in.ensures ∙ (ap arguments_in (c.outline.ensures ∙ known label) ∙ sym (arguments_known (sort_at u.types label)))) in
    ap (λ n. let x : Inputs = record { all = n; plain = None } in x) all
