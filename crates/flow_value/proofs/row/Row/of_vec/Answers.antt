use Rattle.std.proofs.Common.{refl, sym, ap, ◌∙◌, length, arith}
use Rattle.flow_value.specs.Places.{packed}
use Rattle.flow_value.specs.declared.row.Row.{Row}
use Rattle.flow_value.proofs.Rows.{packs}
use Rattle.flow_value.proofs.row.Row.of_vec.Goals as goal

pub returns-clause-row : goal.returns-clause-row
returns-clause-row g c =
    let room = c.capacity-room.result in let d = c.detach-block.ensures in let same = c.as_mut_ptr-at.ensures.unchanged in
    let new : Row g.row.T.Denot = record { block = c.detach-block.result.0; room = room; first = 0; len = c.args.len; alloc = c.args.alloc } in
    let made = packs new c.args.vec.items d.0 (d.1 ∙ ap (λ v. packed v.items room) same) refl (sym c.requires) (omega (arith, d.2, ap (λ v. length v.items) same, c.requires, c.ranges.len.fits)) in
    (made.0, made.1, refl, refl)
