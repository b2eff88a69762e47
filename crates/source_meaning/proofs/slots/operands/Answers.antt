use Rattle.std.proofs.Common.{◌∙◌, ap, sym, [], ◌∷◌, ◌++◌, arith}
use Rattle.std.specs.Prelude.{Some}
use Rattle.std.proofs.lemmas.List.{map-append}
use Rattle.std.proofs.lemmas.List.Elements.{filter_map-append}
use Rattle.value_ops.specs.Given.{values_in}
use Rattle.source_meaning.specs.Slots.{slot_value}
use Rattle.source_meaning.proofs.slots.operands.Goals as goal

pub loop-slot-preserved : goal.loop-slot-preserved
loop-slot-preserved c =
    let before = c.loop-slot.made.operands in
    let v = slot_value c.args.names.now c.in-Some.slot in
    record {
      values =
          ap values_in (c.push.ensures.added ∙ ap (λ k. before ++ k ∷ []) c.handed.ensures)
          ∙ filter_map-append (λ o. o) before (Some v ∷ [])
          ∙ ap (λ k. k ++ v ∷ []) c.loop-slot.invariant.values
          ∙ sym (map-append (slot_value c.args.names.now) c.loop-slot.yielded (c.in-Some.slot ∷ []));
      room = omega (arith, c.push.ensures.room, c.in-Some.ensures.steps.1, c.loop-slot.invariant.room);
    }
