use Rattle.std.proofs.Common.{◌∙◌, sym, ap, map}
use Rattle.if1_graph.specs.Units.{label_of}
use Rattle.may_take.specs.Consuming.{is_consuming_by}
use Rattle.may_take.proofs.Seen.{looked-is}
use Rattle.may_take.proofs.looking.looked_by.Goals as goal

pub returns : goal.returns
returns c =
    let ts = c.as_slice-types.result.now in
    let fs = c.as_slice-4.result.now in
    let es = c.as_slice-edges.result.now in
    looked-is c.args.unit.now c.args.functions.now c.args.graph.now c.args.nodes c.requires.nodes
    ts c.as_slice-2.result.now c.as_slice-3.result.now es fs
    c.as_slice-types.ensures (c.as_slice-2.ensures ∙ (c.in_ok-labels.ensures ∙ ap (map label_of) c.as_slice.ensures)) c.as_slice-3.ensures.value c.as_slice-edges.ensures c.as_slice-4.ensures.value
    c.in_ok-inputs.inputs c.in_ok-inputs.ensures.used c.in_ok-inputs.ensures.given
    c.in_ok-consuming.consuming
    (c.in_ok-consuming.ensures
    ∙ (ap (λ ls. map (is_consuming_by ts fs ls c.as_slice-6.result.now) es) (c.as_slice-5.ensures ∙ sym c.as_slice-2.ensures)
    ∙ ap (λ us. map (is_consuming_by ts fs c.as_slice-2.result.now us) es) (c.as_slice-6.ensures.value ∙ sym c.as_slice-3.ensures.value)))
