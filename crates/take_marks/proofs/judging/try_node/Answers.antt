use Rattle.std.proofs.Common.{◌∙◌, length, subst, sym, ap, MatchOption}
use Rattle.if1_order.specs.Walks.{AreInside}
use Rattle.take_marks.specs.Standing.{IsFree, IsBlockedBy}
use Rattle.take_marks.proofs.Tried.{places-all, places-other, items-are, blocked-inside, tried-blocked, tried-taken}
use Rattle.take_marks.proofs.Stretches.{ranked-acyclic}
use Rattle.take_marks.proofs.judging.try_node.Goals as goal

pub blocking-requires-clause-inside : goal.blocking-requires-clause-inside
blocking-requires-clause-inside c = subst AreInside (sym c.as_slice.ensures.value) c.requires.inside

pub blocking-requires-clause-places : goal.blocking-requires-clause-places
blocking-requires-clause-places c =
    places-all c.args.labels.now c.args.others.now c.in_ok-places.places c.as_slice-2.result.now c.in_ok-places.ensures c.as_slice-2.ensures (length c.as_slice.result.now) (sym (ap length c.as_slice.ensures.value ∙ c.requires.fit))

pub labelled-requires : goal.labelled-requires
labelled-requires c =
    blocked-inside c.args.labels.now c.args.others.now c.in_ok-places.places c.as_slice-2.result.now c.in_ok-places.ensures c.as_slice-2.ensures c.args.lists.now.items c.as_slice.result.now c.the_place-taker.result c.in-Some.way c.as_slice-in-Some.result.now
    c.requires.inside c.as_slice.ensures.value c.requires.fit
    (subst (λ o. MatchOption o (IsFree c.as_slice.result.now c.the_place-taker.result c.as_slice-2.result.now) (IsBlockedBy c.as_slice.result.now c.the_place-taker.result c.as_slice-2.result.now)) c.in-Some.is c.in_ok-found.ensures)
    c.as_slice-in-Some.ensures

pub returns-in-Some-clause-tried : goal.returns-in-Some-clause-tried
returns-in-Some-clause-tried c = λ g may os e ok o stands.
    tried-blocked c.args.labels.now c.args.others.now c.as_slice-2.result.now c.the_place-taker.result c.args.node c.the_place-taker.ensures
    (items-are c.args.labels.now c.args.others.now c.in_ok-places.places c.as_slice-2.result.now c.in_ok-places.ensures c.as_slice-2.ensures)
    c.args.lists.now.items c.as_slice.result.now c.as_slice.ensures.value c.args.befores.now.items g os e o stands c.in-Some.way c.as_slice-in-Some.result.now c.in_ok-path.path
    (subst (λ o. MatchOption o (IsFree c.as_slice.result.now c.the_place-taker.result c.as_slice-2.result.now) (IsBlockedBy c.as_slice.result.now c.the_place-taker.result c.as_slice-2.result.now)) c.in-Some.is c.in_ok-found.ensures)
    c.as_slice-in-Some.ensures c.in_ok-path.ensures

pub put_before-requires-clause-places : goal.put_before-requires-clause-places
put_before-requires-clause-places c =
    places-all c.args.labels.now c.args.others.now c.in_ok-places.places c.as_slice-3.result.now c.in_ok-places.ensures c.as_slice-3.ensures (length c.args.lists.now.items) (sym c.requires.fit)

pub put_before-requires-clause-others : goal.put_before-requires-clause-others
put_before-requires-clause-others c =
    places-other c.args.labels.now c.args.others.now c.in_ok-places.places c.as_slice-3.result.now c.in_ok-places.ensures c.as_slice-3.ensures c.the_place-taker.result c.args.node c.the_place-taker.ensures c.requires.another

pub order_users-requires-clause-inside : goal.order_users-requires-clause-inside
order_users-requires-clause-inside c = subst AreInside (sym c.in_ok-put_before.ensures.same) c.requires.inside

pub order_users-requires-clause-places : goal.order_users-requires-clause-places
order_users-requires-clause-places c =
    places-all c.args.labels.now c.args.others.now c.in_ok-places.places c.as_slice-4.result.now c.in_ok-places.ensures c.as_slice-4.ensures (length c.put_before.new.lists.items) (sym (ap length c.in_ok-put_before.ensures.same ∙ c.requires.fit))

pub returns-clause-tried : goal.returns-clause-tried
returns-clause-tried c = λ g may os e ok o stands.
    tried-taken c.args.labels.now c.args.others.now c.as_slice-4.result.now c.the_place-taker.result c.args.node c.the_place-taker.ensures
    (items-are c.args.labels.now c.args.others.now c.in_ok-places.places c.as_slice-4.result.now c.in_ok-places.ensures c.as_slice-4.ensures)
    c.args.lists.now.items c.as_slice.result.now c.as_slice.ensures.value c.args.befores.now.items g os e o stands may ok
    (subst (IsFree c.as_slice.result.now c.the_place-taker.result) (c.as_slice-2.ensures ∙ sym c.as_slice-4.ensures)
    (subst (λ o. MatchOption o (IsFree c.as_slice.result.now c.the_place-taker.result c.as_slice-2.result.now) (IsBlockedBy c.as_slice.result.now c.the_place-taker.result c.as_slice-2.result.now)) c.in_default.is c.in_ok-found.ensures))
    c.requires.others c.requires.another c.put_before.new.lists.items c.order_users.new.lists.items c.order_users.new.befores.items c.in_ok-put_before.ensures.same c.in_ok-order_users.ensures.ordered

pub put_before-requires-clause-acyclic : goal.put_before-requires-clause-acyclic
put_before-requires-clause-acyclic c = ranked-acyclic c.args.lists.now.items c.args.ranks.now c.requires.ranked
