use Rattle.std.proofs.Common.{◌≡◌, Some, None, AllPairs, slice_get, refl, sym, ap, ◌∙◌, subst}
use Rattle.if1_graph.specs.Normal.{Precedes}
use Rattle.port_feeds.specs.Found.{edge_found}
use Rattle.port_feeds.proofs.Right.{edges-in-order, right-none, right-some, source-there}
use Rattle.port_feeds.proofs.Search.{leading-is}
use Rattle.port_feeds.proofs.filled.port_at.Goals as goal

pub place_of-place-requires : goal.place_of-place-requires
place_of-place-requires c =
    subst (AllPairs Precedes) (sym c.as_slice-edges.ensures) (edges-in-order c.args.unit.now c.unit-whole.ensures.normal c.args.graph.now c.args.outlets.now c.requires.place)

pub returns-in_default-clause-right : goal.returns-in_default-clause-right
returns-in_default-clause-right c =
    let l = c.args.label in
    let p = c.args.port in
    let none = subst (λ es. edge_found es l p ≡ None) c.as_slice-edges.ensures (sym c.place_of-place.ensures ∙ sym c.in_default.ensures) in
    let f = c.unfilled.ensures in
    right-none c.args.unit.now c.unit-whole.ensures.ready c.args.graph.now c.args.outlets.now c.requires.place c.args.literals.now l p c.unfilled.result none f.fed f.below f.input f.takes f.consumed f.aggregate

pub feed_of-requires-clause-source : goal.feed_of-requires-clause-source
feed_of-requires-clause-source c =
    let e = c.in-Some.edge.now in
    let k = c.place_of-place.result in
    let at = leading-is c.args.label c.args.port (slice_get c.as_slice-edges.result.now k) e (sym c.in-Some.ensures) in
    source-there c.args.unit.now c.unit-whole.ensures.ready c.args.graph.now c.args.outlets.now c.requires.place k e (subst (λ es. slice_get es k ≡ Some e) c.as_slice-edges.ensures at)

pub returns-clause-right : goal.returns-clause-right
returns-clause-right c =
    let u = c.args.unit.now in
    let e = c.in-Some.edge.now in
    let l = c.args.label in
    let p = c.args.port in
    let k = c.place_of-place.result in
    let at = leading-is l p (slice_get c.as_slice-edges.result.now k) e (sym c.in-Some.ensures) in
    let some = subst (λ es. edge_found es l p ≡ Some e) c.as_slice-edges.ensures (sym c.place_of-place.ensures ∙ sym c.in-Some.ensures) in
    let f = c.in_ok-feed.ensures in
    let types = ap (λ v. v.types) (sym c.unit-whole.ensures.unit) ∙ sym c.as_slice.ensures in
    right-some u c.unit-whole.ensures.ready c.args.graph.now c.args.outlets.now c.requires.place c.feed_of.new.literals l p k e
    (record { feed = c.in_ok-feed.feed; takes = e.takes; consumed = c.flag_at.result; aggregate = c.flag_at-2.result }) c.args.aggregates.now c.args.consumed.now some
    (subst (λ es. slice_get es k ≡ Some e) c.as_slice-edges.ensures at) c.requires.flags c.requires.consumers (λ D P S n lits laid. f.fed u D P S n types lits laid) f.below f.input refl
    c.flag_at.ensures c.flag_at-2.ensures
