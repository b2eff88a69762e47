use Rattle.std.proofs.Common.{sym, ap, ◌∙◌, subst}
use Rattle.std.specs.Result.{OnOk}
use Rattle.graph_meaning.specs.NodeValues.{op}
use Rattle.node_ops.specs.Operands.{shape_of}
use Rattle.run_cells.specs.Held.{heap_of}
use Rattle.sequential.specs.Loading.{seen_of}
use Rattle.sequential_fire.specs.Outputs.{AreHeld}
use Rattle.sequential_fire.proofs.outputs.array_outputs.Goals as goal

pub returns-in-Some : goal.returns-in-Some
returns-in-Some c =
    let a = c.args in
    let ks = seen_of a.code.now a.base (heap_of a.cells.now) a.operands.now in
    subst (λ rs. OnOk c.scatter.result (AreHeld c.scatter.new.made.items rs)) (sym (ap (λ o. op o (shape_of a.shape) ks) c.requires.row ∙ c.in-Some.ensures)) c.scatter.ensures
