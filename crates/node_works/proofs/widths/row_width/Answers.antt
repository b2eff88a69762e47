use Rattle.std.proofs.Common.{◌∙◌, ap, sym}
use Rattle.std.specs.Prelude.{unwrap_or}
use Rattle.graph_meaning.specs.Networks.{simple_kind}
use Rattle.unit_plan.specs.Plans.{outputs_in}
use Rattle.node_works.specs.Tables.{results_by}
use Rattle.node_works.proofs.Wide.{call-wide, fields-wide}
use Rattle.node_works.proofs.widths.row_width.Goals as goal

pub returns-in-Call : goal.returns-in-Call
returns-in-Call c u t ready =
    let g = c.args.graph.now in
    let l = c.args.label in
    c.results_in.ensures
    ∙ ap results_by (c.callee_at.ensures u t)
    ∙ call-wide u ready g l
    ∙ ap (λ o. outputs_in u (simple_kind u g l o)) (sym c.in-Call.is)

pub returns-in-RElements : goal.returns-in-RElements
returns-in-RElements c u t ready =
    let g = c.args.graph.now in
    let l = c.args.label in
    c.or_none.ensures
    ∙ ap (λ o. unwrap_or o 0) c.fields_in.ensures
    ∙ fields-wide u g l c.carried_at.result (c.carried_at.ensures u t)
    ∙ ap (λ o. outputs_in u (simple_kind u g l o)) (sym c.in-RElements.is)
