use Rattle.std.proofs.Common.{◌<◌, ◌≤◌, ◌+◌, ◌∙◌, length, slice_index, slice_index_or, subst, sym, ap, arith}
use Rattle.std.proofs.lemmas.Result.{on_ok_weaker}
use Rattle.if1_order.specs.Walks.{AreInside}
use Rattle.if1_reach.specs.Least.{AreLeast}
use Rattle.if1_reach.proofs.Labelled.{same-default}
use Rattle.take_marks.specs.Standing.{HasEntered}
use Rattle.take_marks.proofs.Stretches.{are-ordered, still-ranked, still-inside}
use Rattle.take_marks.proofs.orders.order_users.Goals as goal

pub weigh-requires-clause-order : goal.weigh-requires-clause-order
weigh-requires-clause-order c k d h =
    subst (λ z. slice_index_or c.args.ranks.now.order k d < z) (sym c.requires.weights)
    (subst (λ z. z < length c.args.lists.now.items) (same-default c.args.ranks.now.order k 0 d h) (c.requires.ranked.inside k h))

pub sink-requires-clause-inside : goal.sink-requires-clause-inside
sink-requires-clause-inside c = subst AreInside (sym c.as_slice-3.ensures.value) c.requires.inside

pub returns-clause-ranked : goal.returns-clause-ranked
returns-clause-ranked c =
    on_ok_weaker c.enter.result
    (λ (e : HasEntered c.args.users.now c.args.places.now c.args.taker c.as_slice-4.result.now (length c.args.users.now) c.args.lists.now.items c.args.befores.now.items c.enter.new.lists.items c.enter.new.befores.items). still-ranked c.args.users.now c.args.places.now c.args.taker c.args.ranks.now c.lowest-first.result (slice_index c.as_slice-2.result.now c.args.taker + 1) c.weigh.new.weights c.as_slice-4.result.now
    c.args.lists.now.items c.enter.new.lists.items c.args.befores.now.items c.enter.new.befores.items c.requires.ranked (ap (λ xs. slice_index xs c.args.taker + 1) c.as_slice-2.ensures) c.requires.taker
    (subst (λ xs. c.lowest-first.result ≤ slice_index xs c.args.taker) c.as_slice.ensures c.lowest-first.ensures.own)
    (λ k h. subst (λ xs. c.lowest-first.result ≤ slice_index xs (slice_index c.args.places.now k)) c.as_slice.ensures (c.lowest-first.ensures.low k 0 (omega (arith, h, c.requires.fit))))
    (λ k h. c.requires.before k 0 (omega (arith, h, c.requires.fit)))
    (λ k h. c.requires.places k 0 (omega (arith, h, c.requires.fit)))
    (c.weigh.ensures.are c.args.lists.now.items c.requires.ranked c.requires.weights)
    (subst (λ ls. AreLeast ls c.args.ranks.now.ranks c.lowest-first.result (slice_index c.as_slice-2.result.now c.args.taker + 1) c.weigh.new.weights c.as_slice-4.result.now) c.as_slice-3.ensures.value
    (subst (AreLeast c.as_slice-3.result.now c.args.ranks.now.ranks c.lowest-first.result (slice_index c.as_slice-2.result.now c.args.taker + 1) c.weigh.new.weights) (sym c.as_slice-4.ensures) c.sink.ensures)) e)
    c.enter.ensures

pub returns-clause-ordered : goal.returns-clause-ordered
returns-clause-ordered c =
    on_ok_weaker c.enter.result
    (λ (e : HasEntered c.args.users.now c.args.places.now c.args.taker c.as_slice-4.result.now (length c.args.users.now) c.args.lists.now.items c.args.befores.now.items c.enter.new.lists.items c.enter.new.befores.items). are-ordered c.args.users.now c.args.places.now c.args.taker c.args.ranks.now c.lowest-first.result (slice_index c.as_slice-2.result.now c.args.taker + 1) c.weigh.new.weights c.as_slice-4.result.now
    c.args.lists.now.items c.enter.new.lists.items c.args.befores.now.items c.enter.new.befores.items c.requires.ranked (ap (λ xs. slice_index xs c.args.taker + 1) c.as_slice-2.ensures) c.requires.taker
    (subst (λ xs. c.lowest-first.result ≤ slice_index xs c.args.taker) c.as_slice.ensures c.lowest-first.ensures.own)
    (λ k h. subst (λ xs. c.lowest-first.result ≤ slice_index xs (slice_index c.args.places.now k)) c.as_slice.ensures (c.lowest-first.ensures.low k 0 (omega (arith, h, c.requires.fit))))
    (λ k h. c.requires.before k 0 (omega (arith, h, c.requires.fit)))
    (λ k h. c.requires.places k 0 (omega (arith, h, c.requires.fit)))
    (c.weigh.ensures.are c.args.lists.now.items c.requires.ranked c.requires.weights)
    (subst (λ ls. AreLeast ls c.args.ranks.now.ranks c.lowest-first.result (slice_index c.as_slice-2.result.now c.args.taker + 1) c.weigh.new.weights c.as_slice-4.result.now) c.as_slice-3.ensures.value
    (subst (AreLeast c.as_slice-3.result.now c.args.ranks.now.ranks c.lowest-first.result (slice_index c.as_slice-2.result.now c.args.taker + 1) c.weigh.new.weights) (sym c.as_slice-4.ensures) c.sink.ensures)) e)
    c.enter.ensures

pub returns-clause-inside : goal.returns-clause-inside
returns-clause-inside c =
    on_ok_weaker c.enter.result
    (λ (e : HasEntered c.args.users.now c.args.places.now c.args.taker c.as_slice-4.result.now (length c.args.users.now) c.args.lists.now.items c.args.befores.now.items c.enter.new.lists.items c.enter.new.befores.items).
    still-inside c.args.users.now c.args.places.now c.args.taker c.as_slice-4.result.now c.args.lists.now.items c.enter.new.lists.items c.args.befores.now.items c.enter.new.befores.items e (λ k h. c.requires.places k 0 (omega (arith, h, c.requires.fit))) c.requires.inside)
    c.enter.ensures

pub returns-clause-fit : goal.returns-clause-fit
returns-clause-fit c =
    on_ok_weaker c.enter.result
    (λ (e : HasEntered c.args.users.now c.args.places.now c.args.taker c.as_slice-4.result.now (length c.args.users.now) c.args.lists.now.items c.args.befores.now.items c.enter.new.lists.items c.enter.new.befores.items). e.fit)
    c.enter.ensures

pub returns-clause-weights : goal.returns-clause-weights
returns-clause-weights c =
    on_ok_weaker c.enter.result
    (λ (e : HasEntered c.args.users.now c.args.places.now c.args.taker c.as_slice-4.result.now (length c.args.users.now) c.args.lists.now.items c.args.befores.now.items c.enter.new.lists.items c.enter.new.befores.items).
    c.sink.ensures.fit ∙ (ap length c.as_slice-3.ensures.value ∙ sym e.fit))
    c.enter.ensures

pub returns-clause-befores : goal.returns-clause-befores
returns-clause-befores c =
    on_ok_weaker c.enter.result
    (λ (e : HasEntered c.args.users.now c.args.places.now c.args.taker c.as_slice-4.result.now (length c.args.users.now) c.args.lists.now.items c.args.befores.now.items c.enter.new.lists.items c.enter.new.befores.items).
    e.fits ∙ (c.requires.befores ∙ sym e.fit))
    c.enter.ensures
