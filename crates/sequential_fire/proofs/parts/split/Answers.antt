use Rattle.std.proofs.Common.{◌∷◌, [], map, ap, ◌∙◌}
use Rattle.flow_value.specs.declared.value.Val.TheVariants as val
use Rattle.graph_meaning.specs.Carried.{Value}
use Rattle.run_store.specs.Stored as stored
use Rattle.run_cells.specs.Held.{held}
use Rattle.sequential_fire.proofs.PartRows.{field-is, fields-held}
use Rattle.sequential_fire.proofs.parts.split.Goals as goal

pub loop-place-preserved : goal.loop-place-preserved
loop-place-preserved c =
    let l = c.loop-place in
    ap (map held) c.in_ok-put_behind.ensures ∙ fields-held l.made.items l.place (val.Rec c.args.fields.now ∷ []) c.in_ok-cell.cell l.invariant (c.in_ok-cell.ensures ∙ ap (λ v. stored.Owns (Value v)) (field-is l.place c.args.fields.now))
