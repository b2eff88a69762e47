-- Other numbers for the types of a table.
use Rattle.std.specs.Prelude.{◌≡◌, ℕ, List, map, slice_get, option_map}
use Rattle.type_table.specs.declared.form.Form.{Form}
use Rattle.type_table.specs.declared.form.Form.TheVariants.{Boolean, Character, Integer, Null, Array, Stream, Record, Union}
use Rattle.type_table.specs.declared.form.Member.{Member}
use Rattle.lowering.specs.Operations.{boolean, character, integer, null}

abbrev pub moved_member : (ℕ → ℕ) → Member → Member
moved_member to m = record { name = m.name; ty = to m.ty }

abbrev pub moved_form : (ℕ → ℕ) → Form → Form
moved_form to Boolean = Boolean
moved_form to Character = Character
moved_form to Integer = Integer
moved_form to Null = Null
moved_form to (Array t) = Array (to t)
moved_form to (Stream t) = Stream (to t)
moved_form to (Record ms) = Record (map (moved_member to) ms)
moved_form to (Union ms) = Union (map (moved_member to) ms)

-- Each type of the first table has its form in the second, and no other number has one; the types that every table has keep their
-- numbers.
pub record Moves (to : ℕ → ℕ) (forms others : List Form) : Type 0 where
  pub form : (t : ℕ) → slice_get others (to t) ≡ option_map (moved_form to) (slice_get forms t)
  pub booleans : to boolean ≡ boolean
  pub characters : to character ≡ character
  pub integers : to integer ≡ integer
  pub nulls : to null ≡ null
