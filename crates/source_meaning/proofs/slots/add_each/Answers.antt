use Rattle.std.proofs.Common.{[], ◌∷◌, ◌++◌, ◌∙◌, ap, sym, append_assoc, append-nil}
use Rattle.std.proofs.lemmas.List.{map-append}
use Rattle.source_meaning.specs.Slots.{slot_value, slot_values}
use Rattle.source_meaning.specs.declared.slots.Slot.TheVariants as slot
use Rattle.source_meaning.proofs.slots.add_each.Goals as goal

pub loop-v-preserved : goal.loop-v-preserved
loop-v-preserved c = λ env.
    let l = c.loop-v in let v = c.in-Some.v in let rest = c.take_first.new.self in
    ap (λ ss. slot_values env ss ++ rest) c.in_ok-add.ensures.ok
    ∙ ap (λ k. k ++ rest) (map-append (slot_value env) l.slots (slot.Value v ∷ []))
    ∙ append_assoc (slot_values env l.slots) (v ∷ []) rest
    ∙ ap (λ k. slot_values env l.slots ++ k) (sym c.in-Some.ensures)
    ∙ l.invariant env

pub returns : goal.returns
returns c = λ env.
    let xs = slot_values env c.loop-v.slots in
    sym (append-nil xs) ∙ ap (λ k. xs ++ k) (sym c.in_default.ensures.0) ∙ c.loop-v.invariant env
