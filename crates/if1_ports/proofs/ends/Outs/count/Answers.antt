use Rattle.std.proofs.Common.{◌≡◌, ◌∙◌, sym, ap, subst, arith, slice_index, slice_get, length, Err}
use Rattle.std.specs.List.Sorted.{IsBinarySearchResult}
use Rattle.std.specs.Ordering.{nat_cmp}
use Rattle.if1_order.proofs.Orders.{not_found, place_contained}
use Rattle.if1_ports.proofs.Tables.{count_found, count_none}
use Rattle.if1_ports.proofs.ends.Outs.count.Goals as goal

place : (c : goal.After-count_in) → slice_index c.as_slice.result.now c.in-Ok.place ≡ c.args.label
place c = grind (arith, c.in-Ok.ensures.ok 0)

pub returns-in-Ok : goal.returns-in-Ok
returns-in-Ok c =
    let ls = c.args.self.now.labels in
    let k = c.in-Ok.place in
    let there : slice_index ls k ≡ c.args.label = subst (λ ls. slice_index ls k ≡ c.args.label) c.as_slice.ensures (place c) in
    c.count_in.ensures ∙ ap (λ cs. slice_get cs k) c.as_slice-in-Ok.ensures
    ∙ sym (count_found ls c.args.self.now.counts k c.args.label c.requires (omega (arith, c.in-Ok.ensures.bound, ap length c.as_slice.ensures)) there)

pub returns-in-Err : goal.returns-in-Err
returns-in-Err c =
    let ls = c.args.self.now.labels in
    let found = subst (λ ls. IsBinarySearchResult (λ y. nat_cmp y c.args.label) ls (Err c.in-Err.field-0)) c.as_slice.ensures c.in-Err.ensures.position in
    sym (count_none ls c.args.self.now.counts c.args.label
    (λ k h is. not_found ls c.args.label c.in-Err.field-0 c.requires found (place_contained ls k c.args.label (h, is))))
