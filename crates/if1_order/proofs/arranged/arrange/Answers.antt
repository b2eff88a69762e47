use Rattle.std.proofs.Common.{ℕ, ◌<◌, List, All, map, length, get_or, slice_index, arith, sym, ap, subst, ◌∙◌, refl}
use Rattle.std.proofs.lemmas.List.Elements.{Contains-get_or}
use Rattle.if1_order.specs.declared.walk.Sorted.{Sorted}
use Rattle.if1_order.specs.Walks.{IsSorted, Sorts, Leads}
use Rattle.if1_order.proofs.arranged.arrange.Goals as goal

pub labelled-requires : goal.labelled-requires
labelled-requires c =
    let s : IsSorted c.args.lists.now c.in-InOrder.places = subst (λ (r : Sorted). Sorts c.args.lists.now r) c.in-InOrder.is c.in_ok-places.ensures in
    subst (λ (z : List ℕ). All (λ k. k < length c.args.labels.now) z) (sym c.as_slice.ensures)
    (λ k d h. omega (arith, c.requires.fit, (s.these (get_or c.in-InOrder.places k d)).0 (Contains-get_or c.in-InOrder.places k d h)))

pub returns-in_ok-list-in-InOrder : goal.returns-in_ok-list-in-InOrder
returns-in_ok-list-in-InOrder c =
    let s : IsSorted c.args.lists.now c.in-InOrder.places = subst (λ (r : Sorted). Sorts c.args.lists.now r) c.in-InOrder.is c.in_ok-places.ensures in
    (c.in-InOrder.places, s, c.in_ok-list-in-InOrder.ensures ∙ ap (map (slice_index c.args.labels.now)) c.as_slice.ensures)

pub returns-in-OnCircle : goal.returns-in-OnCircle
returns-in-OnCircle c =
    let r : (c.in-OnCircle.place < length c.args.lists.now) × Leads c.args.lists.now c.in-OnCircle.place c.in-OnCircle.place =
    subst (λ (r : Sorted). Sorts c.args.lists.now r) c.in-OnCircle.is c.in_ok-places.ensures in
    (c.in-OnCircle.place, r.0, r.1, refl)
