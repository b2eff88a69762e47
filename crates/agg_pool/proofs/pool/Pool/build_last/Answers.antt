use Rattle.std.proofs.Common.{◌≡◌, ℕ, List, [], ◌∷◌, ◌++◌, length, Some, Option, ap, ap₂, ◌∙◌}
use Rattle.segment.specs.Places.{Place}
use Rattle.flow_value.specs.declared.value.Val.{Val}
use Rattle.agg_pool.specs.Pools.{PoolView}
use Rattle.agg_pool.specs.declared.entry.Entry.{Entry}
use Rattle.agg_pool.specs.declared.entry.Entry.TheVariants as entry
use Rattle.agg_pool.proofs.pool.Pool.build_last.Goals as goal

pub returns-clause-ok : goal.returns-clause-ok
returns-clause-ok c =
    let start = c.new-room.result.start in
    let kept : c.self.inside.entries.items ≡ c.args.self.now.entries = ap (λ (v : PoolView). v.entries) c.self.view_is in
    let room : List (Place Val) → List (Option Entry) = λ places. Some (entry.Parts (record { start = start; places = places })) ∷ [] in (
      start,
      c.len-number.ensures ∙ c.make_room.ensures.same_lengths.0 ∙ c.self.inside.entries.ok.0 ∙ ap length kept,
      ap₂ (λ (l : List (Option Entry)) (n : ℕ). record { entries = l; spare = n })
          (c.push_reserved.ensures.items
          ∙ ap (λ (l : List (Option Entry)). l ++ room c.new-room.result.places) (c.make_room.ensures.same.0 ∙ kept)
          ∙ ap (λ (places : List (Place Val)). c.args.self.now.entries ++ room places) c.new-room.ensures.unwritten)
          (ap (λ (v : PoolView). v.spare) c.self.view_is),
    )
