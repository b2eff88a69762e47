use Rattle.std.proofs.Common.{◌≡◌, sym, arith, slice_index}
use Rattle.if1_order.proofs.Orders.{not_found, place_contained}
use Rattle.if1_types.proofs.Finding.{place_found, place_none}
use Rattle.if1_types.proofs.found.place_of.Goals as goal

place : (c : goal.In-Ok) → slice_index c.args.labels.now c.in-Ok.place ≡ c.args.label
place c = grind (arith, c.in-Ok.ensures.ok 0)

pub returns-in-Ok : goal.returns-in-Ok
returns-in-Ok c = sym (place_found c.args.labels.now c.in-Ok.place c.args.label c.requires c.in-Ok.ensures.bound (place c))

pub returns-in-Err : goal.returns-in-Err
returns-in-Err c =
    sym (place_none c.args.labels.now c.args.label
    (λ k h is. not_found c.args.labels.now c.args.label c.in-Err.field-0 c.requires c.in-Err.ensures.position (place_contained c.args.labels.now k c.args.label (h, is))))
