use Rattle.std.proofs.Common.{◌∙◌, ap, map}
use Rattle.if1_graph.specs.declared.graph.Graph.TheViews.{out-Graph}
use Rattle.unit_code.proofs.Makes.{code-of-unit}
use Rattle.unit_code.proofs.make.unit_code.Goals as goal

pub returns : goal.returns
returns c =
    let u = c.args.unit.now in
    let numbers = c.in_ok-functions.ensures ∙ ap (map (λ g. (out-Graph g).number)) (c.as_slice.ensures ∙ ap (λ v. v.graphs) c.unit.ensures.unit) in
    code-of-unit u c.unit.ensures.ready c.in_ok-data.data c.in_ok-data.ensures c.in_ok-levels.levels c.as_slice-3.result.now (c.in_ok-levels.ensures ∙ c.len.ensures) (c.as_slice-3.ensures ∙ numbers) c.in_ok-laid.laid
    c.code_of_told_data_counts_copies.ensures c.code_of_told_data_counts_writes.ensures c.code_of_units_can_be_entered.ensures c.unit.ensures.sound c.in_ok-code.code c.in_ok-code.ensures c.in_ok-entries.entries c.in_ok-rooms.rooms (c.in_ok-entries.ensures ∙ c.as_slice-2.ensures) c.in_ok-rooms.ensures
    c.in_ok-laid.ensures.made c.in_ok-laid.ensures.told c.in_ok-laid.ensures.knit
