use Rattle.std.proofs.Common.{◌≡◌, ◌+◌, ◌-◌, slice_index, sym, ap, ◌∙◌, subst, arith}
use Rattle.run_code.specs.Cells.{At}
use Rattle.if1_order.specs.Feeders.{IsPlace}
use Rattle.plan_builder.specs.Outlets.{start_of}
use Rattle.plan_builder.proofs.Standing.{one-place, put-at, start-fits}
use Rattle.plan_builder.proofs.outlets.outlet.Goals as goal

pub overflow_add-result : goal.overflow_add-result
overflow_add-result c =
    let x = c.args.outlets.now in
    let k = c.in-Some.place in
    let place = subst (λ ls. IsPlace ls k c.args.node) c.as_slice.ensures c.in-Some.ensures in
    let e = one-place x c.requires.are c.args.node k c.requires.there.0 place c.requires.there.1 in
    let inside = (c.requires.are.inside k).1 place.0 in
    let fits = c.requires.are.starts.fits k inside in
    let s = ap (λ z. slice_index z k) c.as_slice-in-Some.ensures in
    let w = ap (slice_index x.widths) e in
    let first = c.requires.there.2 in
    let up = c.requires.there.3 in
    record { fits = omega (arith, fits, s, w, first, up) }

pub returns-clause-here : goal.returns-clause-here
returns-clause-here c P vs laid lo =
    let x = c.args.outlets.now in
    let k = c.in-Some.place in
    let place = subst (λ ls. IsPlace ls k c.args.node) c.as_slice.ensures c.in-Some.ensures in
    let e = one-place x c.requires.are c.args.node k c.requires.there.0 place c.requires.there.1 in
    let inside = (c.requires.are.inside k).1 place.0 in
    let w = ap (slice_index x.widths) e in
    let up = c.requires.there.3 in
    let here : start_of x.widths x.order k ≡ slice_index c.as_slice-in-Some.result.now k = sym (ap (λ z. slice_index z k) c.as_slice-in-Some.ensures ∙ c.requires.are.starts.here k inside) in
    put-at P x c.requires.are c.args.node c.args.port k place c.requires.there.2 (omega (arith, w, up)) x.order vs (λ j h. (c.requires.are.inside j).0 h) laid inside lo
    ∙ ap (λ n. At (lo + (n + (c.args.port - 1)))) here

pub returns-clause-below : goal.returns-clause-below
returns-clause-below c =
    let x = c.args.outlets.now in
    let k = c.in-Some.place in
    let place = subst (λ ls. IsPlace ls k c.args.node) c.as_slice.ensures c.in-Some.ensures in
    let e = one-place x c.requires.are c.args.node k c.requires.there.0 place c.requires.there.1 in
    let inside = (c.requires.are.inside k).1 place.0 in
    let s = ap (λ z. slice_index z k) c.as_slice-in-Some.ensures in
    let here = c.requires.are.starts.here k inside in
    let fits = start-fits x.widths x.order k inside in
    let w = ap (slice_index x.widths) e in
    let first = c.requires.there.2 in
    let up = c.requires.there.3 in
    omega (arith, s, here, fits, w, first, up)
