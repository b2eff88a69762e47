use Rattle.std.proofs.Common.{◌∙◌, ◌++◌, ◌∷◌, [], List, take, ap}
use Rattle.lowering.specs.declared.feed.Carried.{Carried}
use Rattle.lowering.specs.declared.feed.Wire.{Wire}
use Rattle.lowering.specs.Loops.{types}
use Rattle.lower_nodes.proofs.Lists.{map_snoc}
use Rattle.lower_nodes.proofs.loops.types_of.Goals as goal

pub loop-w-preserved : goal.loop-w-preserved
loop-w-preserved c =
    let ws = c.args.wires.now in
    let i = c.loop-w.w-index in
    c.in_ok-add.ensures.ok
    ∙ ap (λ (k : List Carried). k ++ c.w-item.result.ty ∷ []) c.loop-w.invariant
    ∙ ap (λ (w : Wire). types (take i ws) ++ w.ty ∷ []) c.w-item.is
    ∙ map_snoc (λ (w : Wire). w.ty) ws i c.w-item.result c.loop-w-test.true
