use Rattle.std.proofs.Common.{◌≡◌, ◌+◌, ◌<◌, ◌≤◌, ◌∷◌, [], length, Some, refl, sym, ap, subst, ◌∙◌, arith}
use Rattle.std.specs.Option.{MatchOption}
use Rattle.std.specs.Vec.{vec_len}
use Rattle.segment.specs.Places.{IsOf}
use Rattle.segment.specs.Runs.{spliced}
use Rattle.agg_pool.specs.Parts.{Cut}
use Rattle.agg_pool.specs.Pools.{entry_at, BuildsAnd, IfBuilds}
use Rattle.agg_pool.specs.declared.entry.Entry.TheVariants as entry
use Rattle.test_pool.specs.Shares.{room_at, share, AreShares, number_at}
use Rattle.test_pool.proofs.Ones.{if_room, room_and, back_from, none_back, all_back, join_fits, back_more, shares_before, last_share}
use Rattle.test_pool.proofs.sharing.join_all.Goals as goal

pub loop-part-init : goal.loop-part-init
loop-part-init c =
    let cut = c.requires.cut in
    ((cut.0, cut.1 ∙ ap (room_at cut.0) (none_back (vec_len c.args.parts)), cut.2), omega arith, λ m _. refl)

pub join_segment-requires : goal.join_segment-requires
join_segment-requires c =
    let v = c.loop-part.invariant in
    let rest = c.pop.new.self in
    let k = length rest.items in
    let n = vec_len c.args.parts in
    let number = c.args.key.number in
    let start = v.0.0 in
    let fewer : vec_len rest + 1 ≡ vec_len c.loop-part.parts = c.in-Some.ensures.cases in
    let count : vec_len rest ≡ k = rest.ok.0 in
    let long : vec_len c.loop-part.parts ≡ k + 1 = omega arith in
    let most : vec_len c.loop-part.parts ≤ n = v.1 in
    let within : k < n = omega arith in
    let is = last_share number start number_at rest.items c.in-Some.part (subst (AreShares number start number_at) c.in-Some.ensures.items v.0.2) in
    let at = v.0.1 ∙ ap (λ m. room_at start (back_from m n)) long in record {
      of = subst (λ (s : Cut). BuildsAnd (entry_at c.loop-part.pool s.number) (λ room. IsOf room s.part)) (sym is)
          (room_and (entry_at c.loop-part.pool number) (λ room. IsOf room (share number start k (number_at k)).part) start (back_from (k + 1) n) at (refl, join_fits k n within));
    }

pub loop-part-preserved : goal.loop-part-preserved
loop-part-preserved c =
    let v = c.loop-part.invariant in
    let rest = c.pop.new.self in
    let k = length rest.items in
    let n = vec_len c.args.parts in
    let number = c.args.key.number in
    let start = v.0.0 in
    let fewer : vec_len rest + 1 ≡ vec_len c.loop-part.parts = c.in-Some.ensures.cases in
    let count : vec_len rest ≡ k = rest.ok.0 in
    let long : vec_len c.loop-part.parts ≡ k + 1 = omega arith in
    let most : vec_len c.loop-part.parts ≤ n = v.1 in
    let within : k < n = omega arith in
    let shares = subst (AreShares number start number_at) c.in-Some.ensures.items v.0.2 in
    let is = last_share number start number_at rest.items c.in-Some.part shares in
    let at = v.0.1 ∙ ap (λ m. room_at start (back_from m n)) long in
    let after = c.join_segment.new.self in
    let joined = subst (λ (s : Cut). IfBuilds (entry_at c.loop-part.pool s.number) (λ room. entry_at after s.number ≡ Some (entry.Parts (record room { places = spliced room.places s.part.from s.part.places })))) is c.join_segment.ensures.now in
    let now = if_room (entry_at c.loop-part.pool number) (λ room. entry_at after number ≡ Some (entry.Parts (record room { places = spliced room.places k (number_at k ∷ []) })))
    start (back_from (k + 1) n) at joined in (
      (start, now ∙ ap (room_at start) (back_more k n within) ∙ ap (λ m. room_at start (back_from m n)) (sym count), shares_before number start number_at rest.items c.in-Some.part shares),
      omega arith,
      λ m other. c.join_segment.ensures.others m (λ e. other (e ∙ ap (λ (s : Cut). s.number) is)) ∙ v.2 m other,
    )

pub returns-clause-whole : goal.returns-clause-whole
returns-clause-whole c =
    let v = c.loop-part.invariant.0 in
    let n = vec_len c.args.parts in
    let none : vec_len c.loop-part.parts ≡ 0 =
    (subst (λ o. MatchOption o ((vec_len c.loop-part.parts ≡ 0) × (vec_len c.pop.new.self ≡ 0)) (λ _. vec_len c.pop.new.self + 1 ≡ vec_len c.loop-part.parts)) c.in_default.is c.pop.ensures.cases).0 in
    (v.0, v.1 ∙ ap (λ m. room_at v.0 (back_from m n)) none ∙ ap (room_at v.0) (all_back n))
