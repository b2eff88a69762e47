use Rattle.std.proofs.Common.{◌≡◌, ◌<◌, ℕ, List, Option, Some, None, length, is_some, IsTrue, arith, subst, sym, ap, ap₂, ◌∙◌, set-set, length-set}
use Rattle.std.proofs.lemmas.List.{get_or_read, get_or-set_same, get_or-set_other}
use Rattle.std.proofs.lemmas.Int.{to_z-of_z}
use Rattle.std.specs.List.{list_all}
use Rattle.std.specs.Prelude.{slice_set, ℤ}
use mir.Val.{to_z, of_z}
use mir.Syntax.{w64}
use Rattle.segment.specs.Places.{is_written}
use Rattle.flow_value.specs.Bounds.{bounded}
use Rattle.flow_value.specs.declared.value.Val.{Val}
use Rattle.flow_value.specs.declared.value.Val.TheVariants as value
use Rattle.agg_pool.specs.Pools.{PoolView, entry_at, BuildsAnd}
use Rattle.agg_pool.specs.declared.entry.Entry.{Entry}
use Rattle.agg_pool.specs.declared.entry.Entry.TheVariants as entry
use Rattle.agg_pool.specs.Tables.{IsTable}
use Rattle.agg_pool.proofs.Tables.{swaps, within}
use Rattle.agg_pool.proofs.Rooms.{builds_is, if_builds}
use Rattle.agg_pool.proofs.pool.Pool.seal.Goals as goal

-- src/pool.rt:201:5
pub invariant_of-self : goal.invariant_of-self
invariant_of-self c =
    let slots = c.self.inside.entries.items in
    let k = c.args.key.number in
    let gone = c.replace-old.new.dest in
    let o = c.replace-vacant.new.dest in
    let inv = c.self.invariant in
    let same : slice_set (slice_set slots k gone) k o ≡ slice_set slots k o = set-set slots k gone o in
    let was = builds_is (entry_at (record { entries = slots; spare = 0 }) k) _
    (subst (λ (v : PoolView). BuildsAnd (entry_at v k) (λ room. IsTrue (list_all is_written room.places))) (sym c.self.view_is) c.requires.written) in
    let long = ap length same ∙ length-set slots k o in
    let two = inv.2 in
    let three = inv.3 in (
      subst (λ (l : List (Option Entry)). IsTable l c.self.inside.free.items) (sym same) (swaps slots c.self.inside.free.items k o was (ap is_some c.replace-vacant.ensures.after) inv.0),
      inv.1,
      omega arith,
      omega arith,
      inv.4,
    )

-- src/pool.rt:201:5
pub returns : goal.returns
returns c =
    let slots = c.self.inside.entries.items in
    let k = c.args.key.number in
    let view : List (Option Entry) → PoolView = λ l. record { entries = l; spare = c.self.inside.spare } in
    let was = builds_is (entry_at (view slots) k) _
    (subst (λ (v : PoolView). BuildsAnd (entry_at v k) (λ room. IsTrue (list_all is_written room.places))) (sym c.self.view_is) c.requires.written) in
    let gone = c.replace-old.new.dest in
    let o = c.replace-vacant.new.dest in
    let near : k < length (slice_set slots k gone) = subst (λ (n : ℕ). k < n) (sym (length-set slots k gone)) (within slots k was) in
    let read = get_or_read slots k c.index_mut.result.now (within slots k was) c.index_mut.ensures.value None in
    let is = ap (λ (v : PoolView). entry_at v k) (sym c.self.view_is) ∙ sym read ∙ sym c.replace-old.ensures.value ∙ c.in-Some-Parts.is ∙ ap (λ (e : Entry). Some e) c.in-Some-Parts.field-0-is in
    let array = c.seal.ensures.array in
    let whole : Val → ℕ → Option Entry = λ v out. Some (entry.Whole (record { value = v; out = out; id = c.seal.result.id })) in
    let lower : to_z w64 (of_z w64 c.args.lo) ≡ c.args.lo = to_z-of_z w64 c.args.lo c.ranges.lo in
    let sealed = c.replace-vacant.ensures.after ∙ ap₂ whole array.2 c.seal.ensures.none_out ∙ ap (λ (z : ℤ). whole (value.Arr (bounded z array.0)) 0) lower in
    let made = whole (value.Arr (bounded c.args.lo array.0)) 0 in
    let put : PoolView → PoolView = λ v. record { entries = slice_set v.entries k made; spare = v.spare } in
    record {
      array = if_builds (entry_at c.args.self.now k) _ c.in-Some-Parts.building is (
        array.0,
        c.seal.result.id,
        array.1,
        ap view (set-set slots k c.replace-old.new.dest c.replace-vacant.new.dest)
            ∙ ap (λ (o : Option Entry). view (slice_set slots k o)) sealed
            ∙ ap put c.self.view_is,
      );
      now = if_builds (entry_at c.args.self.now k) _ c.in-Some-Parts.building is (
        array.0,
        c.seal.result.id,
        array.1,
        get_or-set_same (slice_set slots k gone) k o None near ∙ sealed,
      );
      others = λ m other. get_or-set_other (slice_set slots k gone) k m o None other ∙ get_or-set_other slots k m gone None other ∙ ap (λ (v : PoolView). entry_at v m) c.self.view_is;
    }
