use Rattle.std.proofs.Common.{◌≡◌, ◌+◌, ◌-◌, ◌≤◌, length, replicate, Some, refl, sym, ap, subst, ◌∙◌, arith}
use Rattle.segment.specs.Places.{away, unwritten}
use Rattle.segment.specs.Runs.{part, spliced}
use Rattle.agg_pool.specs.Pools.{entry_at}
use Rattle.agg_pool.specs.declared.entry.Entry.TheVariants as entry
use Rattle.test_pool.specs.Shares.{room_at, share, AreShares}
use Rattle.test_pool.proofs.Ones.{if_room, room_and, cut_to, none_cut, all_cut, cut_fits, cut_part, cut_more, none_shared, shares_more}
use Rattle.test_pool.proofs.sharing.cut_all.Goals as goal

pub loop-i-init : goal.loop-i-init
loop-i-init c =
    let new = c.requires.new in
    let none : length c.args.parts.now.items ≡ 0 = sym c.args.parts.now.ok.0 ∙ c.requires.empty in (
      (new.0, new.1 ∙ ap (room_at new.0) (none_cut c.args.n), none_shared c.args.key.number new.0 (λ _. unwritten) c.args.parts.now.items none),
      c.requires.empty,
      c.requires.room,
      λ m _. refl,
    )

pub cut-part-requires : goal.cut-part-requires
cut-part-requires c =
    let v = c.loop-i.invariant.0 in
    let i = c.loop-i.i in record {
      fits = room_and (entry_at c.loop-i.pool c.args.key.number) (λ room. (i ≤ i + 1) × (i + 1 ≤ length room.places)) v.0 (cut_to i c.args.n) v.1
          (omega arith, cut_fits i c.args.n c.loop-i-test.true);
    }

pub loop-i-preserved : goal.loop-i-preserved
loop-i-preserved c =
    let v = c.loop-i.invariant in
    let n = c.args.n in
    let i = c.loop-i.i in
    let number = c.args.key.number in
    let start = v.0.0 in
    let before = entry_at c.loop-i.pool number in
    let now = if_room before (λ room. entry_at c.cut-part.new.self number ≡ Some (entry.Parts (record room { places = spliced room.places i (replicate (i + 1 - i) away) })))
    start (cut_to i n) v.0.1 c.cut-part.ensures.now in
    let is = if_room before (λ room. c.cut-part.result ≡ record { number = number; part = record { start = room.start; from = i; places = part room.places i (i + 1 - i) } })
    start (cut_to i n) v.0.1 c.cut-part.ensures.part in
    let long : i ≡ length c.loop-i.parts.items = sym v.1 ∙ c.loop-i.parts.ok.0 in
    let last : c.cut-part.result ≡ share number start (length c.loop-i.parts.items) unwritten =
    is ∙ ap (λ ps. record { number = number; part = record { start = start; from = i; places = ps } }) (cut_part i n c.loop-i-test.true)
    ∙ ap (λ j. share number start j unwritten) long in
    let fits = v.2 in
    let same = c.push_reserved.ensures.capacity in (
      (
        start,
        now ∙ ap (room_at start) (cut_more i n c.loop-i-test.true),
        subst (AreShares number start (λ _. unwritten)) (sym c.push_reserved.ensures.items) (shares_more number start (λ _. unwritten) c.loop-i.parts.items c.cut-part.result v.0.2 last),
      ),
      c.push_reserved.ensures.len ∙ ap (λ k. k + 1) v.1,
      omega arith,
      λ m other. c.cut-part.ensures.others m other ∙ v.3 m other,
    )

pub returns-clause-cut : goal.returns-clause-cut
returns-clause-cut c =
    let v = c.loop-i.invariant.0 in
    let end = c.loop-i.auto.i-end in
    let stop = c.loop-i-test.false in
    let all : c.loop-i.i ≡ c.args.n = omega arith in
    (v.0, v.1 ∙ ap (λ i. room_at v.0 (cut_to i c.args.n)) all ∙ ap (room_at v.0) (all_cut c.args.n), v.2)
