use Rattle.std.proofs.Common.{◌≡◌, ◌∙◌, sym, arith, slice_index}
use Rattle.if1_order.proofs.Orders.{not_found, place_contained}
use Rattle.may_take.proofs.Labels.{use-found, use-none}
use Rattle.may_take.proofs.uses.use_at.Goals as goal

place : (c : goal.After-item_at) → slice_index c.args.labels.now c.in-Ok.place ≡ c.args.label
place c = grind (arith, c.in-Ok.ensures.ok 0)

pub returns-in-Ok : goal.returns-in-Ok
returns-in-Ok c =
    c.item_at.ensures
    ∙ sym (use-found c.args.labels.now c.args.uses.now c.in-Ok.place c.args.label c.requires (omega (arith, c.in-Ok.ensures.bound)) (place c))

pub returns-in-Err : goal.returns-in-Err
returns-in-Err c =
    let ls = c.args.labels.now in
    sym (use-none ls c.args.uses.now c.args.label
    (λ k h is. not_found ls c.args.label c.in-Err.field-0 c.requires c.in-Err.ensures.position (place_contained ls k c.args.label (h, is))))
