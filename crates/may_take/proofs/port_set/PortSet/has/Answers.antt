use Rattle.std.proofs.Common.{◌≡◌, ◌∙◌, sym, ap, subst, arith, slice_index, Err}
use Rattle.std.specs.List.Sorted.{IsBinarySearchResult}
use Rattle.std.specs.Ordering.{nat_cmp}
use Rattle.if1_order.proofs.Orders.{not_found, place_contained}
use Rattle.may_take.specs.Ports.{has}
use Rattle.may_take.proofs.Sets.{has-in, not-has}
use Rattle.may_take.proofs.port_set.PortSet.has.Goals as goal

pub returns-in-Ok : goal.returns-in-Ok
returns-in-Ok c =
    let ls = c.as_slice.result.now in
    let there : slice_index ls c.in-Ok.field-0 ≡ c.args.port = grind (arith, c.in-Ok.ensures.ok 0) in
    sym (ap (λ ls. has ls c.args.port) (sym (c.as_slice.ensures ∙ c.self.view_is)) ∙ has-in ls c.args.port (place_contained ls c.in-Ok.field-0 c.args.port (omega (arith, c.in-Ok.ensures.bound), there)))

pub returns-in-Err : goal.returns-in-Err
returns-in-Err c =
    let found = subst (λ ls. IsBinarySearchResult (λ y. nat_cmp y c.args.port) ls (Err c.in-Err.field-0)) c.as_slice.ensures c.in-Err.ensures.position in
    sym (ap (λ ls. has ls c.args.port) (sym c.self.view_is) ∙ not-has c.self.inside.ports c.args.port (not_found c.self.inside.ports c.args.port c.in-Err.field-0 c.self.invariant found))
