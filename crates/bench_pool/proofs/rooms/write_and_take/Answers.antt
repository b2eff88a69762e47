use Rattle.std.proofs.Common.{◌≤◌, length, replicate, pos, ap, ◌∙◌, arith, IsTrue}
use Rattle.std.specs.List.{list_all}
use Rattle.std.proofs.lemmas.List.{length-replicate}
use Rattle.segment.specs.Places.{Place, unwritten, is_written}
use Rattle.flow_value.specs.Bounds.{IsWithinLength}
use Rattle.flow_value.specs.declared.value.Val.{Val}
use Rattle.agg_pool.specs.Pools.{entry_at}
use Rattle.bench_pool.proofs.Emptied.{found, room_and, cut_is, may_join, joined_is, within_length}
use Rattle.bench_pool.proofs.rooms.write_and_take.Goals as goal

pub cut-part-requires : goal.cut-part-requires
cut-part-requires c =
    let n = c.args.places in
    let new = found (entry_at c.args.pool.now c.args.key.number) n c.requires.new in
    let long = length-replicate n (let p : Place Val = unwritten in p) in record {
      fits = room_and (entry_at c.args.pool.now c.args.key.number) (λ room. (0 ≤ n) × (n ≤ length room.places)) new.0 (replicate n unwritten) new.1 (omega arith, omega arith);
    }

pub fill-requires : goal.fill-requires
fill-requires c =
    let n = c.args.places in
    let new = found (entry_at c.args.pool.now c.args.key.number) n c.requires.new in
    let is = cut_is c.args.pool.now c.args.key.number n new.0 new.1 c.cut-part.result c.cut-part.ensures.part in
    record { few = c.requires.few; unwritten = ap (λ s. s.part.places) is }

pub join_segment-requires : goal.join_segment-requires
join_segment-requires c =
    let n = c.args.places in
    let k = c.args.key.number in
    let new = found (entry_at c.args.pool.now k) n c.requires.new in
    let is = cut_is c.args.pool.now k n new.0 new.1 c.cut-part.result c.cut-part.ensures.part in
    let of = c.fill.ensures.of in record {
      of = may_join c.args.pool.now k n new.0 new.1 c.cut-part.new.self c.cut-part.ensures.now c.fill.new.part (of.0 ∙ ap (λ s. s.number) is) (of.1 ∙ ap (λ s. s.part.start) is) (of.2 ∙ ap (λ s. s.part.from) is) c.fill.ensures.long;
    }

pub seal-requires : goal.seal-requires
seal-requires c =
    let n = c.args.places in
    let k = c.args.key.number in
    let new = found (entry_at c.args.pool.now k) n c.requires.new in
    let is = cut_is c.args.pool.now k n new.0 new.1 c.cut-part.result c.cut-part.ensures.part in
    let of = c.fill.ensures.of in
    let back = joined_is c.args.pool.now k n new.0 new.1 c.cut-part.new.self c.cut-part.ensures.now c.fill.new.part (of.0 ∙ ap (λ s. s.number) is) (of.1 ∙ ap (λ s. s.part.start) is) (of.2 ∙ ap (λ s. s.part.from) is) c.fill.ensures.long c.join_segment.new.self c.join_segment.ensures.now in
    let o = entry_at c.join_segment.new.self k in
    let ps = c.fill.new.part.part.places in record {
      written = room_and o (λ room. IsTrue (list_all is_written room.places)) new.0 ps back c.fill.ensures.written;
      fits = room_and o (λ room. IsWithinLength (pos 1) (length room.places)) new.0 ps back (within_length (length ps) n c.fill.ensures.long c.requires.few);
    }

pub returns-clause-others : goal.returns-clause-others
returns-clause-others c =
    let k = c.args.key.number in
    let new = found (entry_at c.args.pool.now k) c.args.places c.requires.new in
    let is = cut_is c.args.pool.now k c.args.places new.0 new.1 c.cut-part.result c.cut-part.ensures.part in
    let number = c.fill.ensures.of.0 ∙ ap (λ s. s.number) is in
    λ m other. c.take.ensures.others m other ∙ c.seal.ensures.others m other ∙ c.join_segment.ensures.others m (λ e. other (e ∙ number)) ∙ c.cut-part.ensures.others m other
