use Rattle.std.proofs.Common.{◌≢◌, ◌<◌, ◌∙◌, ℕ, length, subst, sym, ap, MatchOption, refl, [], take}
use Rattle.std.proofs.lemmas.List.{get_or_default, get_or-set_same}
use Rattle.std.proofs.lemmas.List.Elements.{All-contains}
use Rattle.if1_order.specs.Walks.{AreInside, Leads}
use Rattle.if1_reach.specs.Ranks.{IsRanked}
use Rattle.take_marks.proofs.Delays.{ext-inside, extended, is-fed, shortened, no-circle, ranked-before, free-all, before-all}
use Rattle.take_marks.proofs.order.reordered.Goals as goal

pub ranked-requires : goal.ranked-requires
ranked-requires c =
    let e = extended c.args.lists.now.items c.args.taker c.args.places.now c.requires.taker c.index_mut.result.now c.extend.new.self c.index_mut.ensures.value c.in_ok-extend.ensures.ok c.as_slice.result.now c.as_slice.ensures.value in
    subst AreInside (sym e) (ext-inside c.args.lists.now.items c.args.taker c.args.places.now c.requires.taker c.requires.inside (λ p i. All-contains (λ p. p < length c.args.lists.now.items) c.args.places.now p c.requires.places i))

pub unreachable-requires : goal.unreachable-requires
unreachable-requires c =
    let e = extended c.args.lists.now.items c.args.taker c.args.places.now c.requires.taker c.index_mut.result.now c.extend.new.self c.index_mut.ensures.value c.in_ok-extend.ensures.ok c.as_slice.result.now c.as_slice.ensures.value in
    let r = subst (λ o. MatchOption o ((s : ℕ) × (s < length c.as_slice.result.now) × Leads c.as_slice.result.now s s) (IsRanked c.as_slice.result.now)) c.in-None.is c.in_ok-found.ensures in
    no-circle c.args.lists.now.items c.args.taker c.args.places.now c.requires.taker (free-all c.args.lists.now.items c.args.taker c.args.places.now c.requires.free)
    (λ p i. All-contains (λ p. p ≢ c.args.taker) c.args.places.now p c.requires.others i) c.requires.acyclic r.0 (subst (λ ls. Leads ls r.0 r.0) e r.2)

pub returns-clause-same : goal.returns-clause-same
returns-clause-same c =
    let fed = is-fed c.args.lists.now.items c.args.taker c.args.places.now c.requires.taker c.index_mut.result.now c.extend.new.self c.index_mut.ensures.value c.in_ok-extend.ensures.ok in
    let long = c.len-before.ensures ∙ ap length (c.index.ensures ∙ (get_or_default c.args.lists.now.items c.args.taker c.index.result.now [] c.requires.taker ∙ sym fed)) in
    let back = c.index_mut-2.ensures.value ∙ get_or-set_same c.args.lists.now.items c.args.taker c.extend.new.self c.index_mut-2.result.now c.requires.taker in
    shortened c.args.lists.now.items c.args.taker c.args.places.now c.requires.taker c.index_mut.result.now c.extend.new.self c.index_mut.ensures.value c.in_ok-extend.ensures.ok
    c.len-before.result long c.truncate.new.self (c.truncate.ensures ∙ ap (λ xs. take c.len-before.result xs) back) _ refl

pub returns-clause-ranked : goal.returns-clause-ranked
returns-clause-ranked c =
    let e = extended c.args.lists.now.items c.args.taker c.args.places.now c.requires.taker c.index_mut.result.now c.extend.new.self c.index_mut.ensures.value c.in_ok-extend.ensures.ok c.as_slice.result.now c.as_slice.ensures.value in
    let r = subst (λ o. MatchOption o ((s : ℕ) × (s < length c.as_slice.result.now) × Leads c.as_slice.result.now s s) (IsRanked c.as_slice.result.now)) c.in-Some.is c.in_ok-found.ensures in
    let q = ranked-before c.args.lists.now.items c.args.taker c.args.places.now c.requires.taker c.in-Some.ranks (subst (λ ls. IsRanked ls c.in-Some.ranks) e r) in
    (q.0, before-all c.in-Some.ranks.ranks c.args.places.now c.args.taker q.1)
