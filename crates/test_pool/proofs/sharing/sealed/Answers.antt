use Rattle.std.proofs.Common.{◌≡◌, ℕ, List, length, map, Some, pos, ap, ◌∙◌}
use Rattle.std.specs.Prelude.{IsTrue}
use Rattle.std.specs.List.{list_all}
use Rattle.flow_value.specs.Bounds.{IsWithinLength, bounded}
use Rattle.flow_value.specs.declared.value.Val.{Val}
use Rattle.flow_value.specs.declared.value.Val.TheVariants as value
use Rattle.segment.specs.Places.{written, is_written}
use Rattle.agg_pool.specs.Pools.{entry_at}
use Rattle.agg_pool.specs.declared.entry.Entry.TheVariants as entry
use Rattle.test_pool.specs.Shares.{counted}
use Rattle.test_pool.proofs.Ones.{if_room, if_whole, room_and, all_written, counted_fits, same_written}
use Rattle.test_pool.proofs.sharing.sealed.Goals as goal

pub seal-requires-clause-written : goal.seal-requires-clause-written
seal-requires-clause-written c =
    let whole = c.requires.whole in
    room_and (entry_at c.args.pool.now c.args.key.number) (λ room. IsTrue (list_all is_written room.places)) whole.0 (map written (counted c.args.n 1)) whole.1
    (all_written (counted c.args.n 1))

pub seal-requires-clause-fits : goal.seal-requires-clause-fits
seal-requires-clause-fits c =
    let whole = c.requires.whole in
    room_and (entry_at c.args.pool.now c.args.key.number) (λ room. IsWithinLength (pos 1) (length room.places)) whole.0 (map written (counted c.args.n 1)) whole.1
    (counted_fits c.args.n c.requires.few)

pub returns-clause-array : goal.returns-clause-array
returns-clause-array c =
    let whole = c.requires.whole in
    let after = entry_at c.seal.new.self c.args.key.number in
    let now = if_room (entry_at c.args.pool.now c.args.key.number)
    (λ room. (items : List Val) × (id : ℕ) × (map written items ≡ room.places) × (after ≡ Some (entry.Whole (record { value = value.Arr (bounded (pos 1) items); out = 0; id = id }))))
    whole.0 (map written (counted c.args.n 1)) whole.1 c.seal.ensures.now in
    if_whole after c.take.result (value.Arr (bounded (pos 1) now.0)) now.1 now.3 c.take.ensures.value
    ∙ ap (λ xs. value.Arr (bounded (pos 1) xs)) (same_written now.0 (counted c.args.n 1) now.2)
