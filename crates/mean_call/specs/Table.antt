-- The types of a program's table as types by number.
use Rattle.std.specs.Prelude.{List, map, Option, Some, None, slice_get}
use Rattle.value_text.specs.Numbered.{Numbered}
use Rattle.value_text.specs.declared.type_form.TypeForm.{TypeForm}
use Rattle.value_text.specs.declared.type_form.TypeForm.TheVariants as of
use Rattle.type_table.specs.declared.form.Form.{Form}
use Rattle.type_table.specs.declared.form.Form.TheVariants.{Boolean, Character, Integer, Null, Array, Stream, Record, Union}
use Rattle.type_table.specs.Tables.{members_at}

abbrev pub form_of : Option Form → TypeForm
form_of None = of.Nothing
form_of (Some Boolean) = of.Boolean
form_of (Some Character) = of.Character
form_of (Some Integer) = of.Integer
form_of (Some Null) = of.Null
form_of (Some (Array t)) = of.Array t
form_of (Some (Stream t)) = of.Stream t
form_of (Some (Record ms)) = of.Record
form_of (Some (Union ms)) = of.Union

abbrev pub numbered : List Form → Numbered
numbered fs = record { form = λ n. form_of (slice_get fs n); members = λ n. map (λ m. m.ty) (members_at fs n) }
