use Rattle.std.proofs.Common.{map, sym, ap, ◌∙◌, subst}
use Rattle.std.specs.Result.{OnOk}
use Rattle.if1_graph.specs.Ports.{count_from}
use Rattle.graph_meaning.specs.Carried.{Value, vals}
use Rattle.node_ops.specs.Rows.{field_values}
use Rattle.run_cells.specs.Held.{heap_of}
use Rattle.sequential.specs.Loading.{seen_of}
use Rattle.sequential_fire.specs.Outputs.{AreHeld}
use Rattle.sequential_fire.proofs.PartRows.{fields-are}
use Rattle.sequential_fire.proofs.outputs.field_outputs.Goals as goal

pub returns-in-Some : goal.returns-in-Some
returns-in-Some c =
    let a = c.args in
    let vs = vals (seen_of a.code.now a.base (heap_of a.cells.now) a.operands.now) in
    subst (λ rs. OnOk c.split.result (AreHeld c.split.new.made.items rs)) (ap (λ ws. map Value (field_values a.count ws)) (sym c.in-Some.ensures) ∙ sym (fields-are (count_from 0 a.count) vs)) c.split.ensures
