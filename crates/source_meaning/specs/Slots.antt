-- The values of operands, some of which are names.
use Rattle.std.specs.Prelude.{List, [], ◌∷◌, map}
use Rattle.flow_value.specs.declared.value.Val.{Val}
use Rattle.source_meaning.specs.declared.slots.Slot.{Slot}
use Rattle.source_meaning.specs.declared.slots.Slot.TheVariants as slot
use Rattle.source_meaning.specs.declared.slots.Given.{Given}
use Rattle.source_meaning.specs.declared.slots.Given.TheVariants as given
use Rattle.meaning.specs.Words.{value_at}

abbrev pub slot_value : List Val → Slot → Val
slot_value env (slot.Name x) = value_at env x
slot_value env (slot.Value v) = v

abbrev pub slot_values : List Val → List Slot → List Val
slot_values env slots = map (slot_value env) slots

abbrev pub given_values : Given → List Val
given_values given.Nothing = []
given_values (given.One v) = v ∷ []
given_values (given.Many vs) = vs
