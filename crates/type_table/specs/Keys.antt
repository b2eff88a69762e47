-- A form as a list of numbers, by which it is found.
use Rattle.std.specs.Prelude.{ℕ, Bool, List, [], ◌∷◌, ◌++◌, bytes_eq, if◌then◌else◌, position}
use Rattle.std.specs.List.{list_any}
use Rattle.type_table.specs.declared.form.Form.{Form}
use Rattle.type_table.specs.declared.form.Form.TheVariants.{Boolean, Character, Integer, Null, Array, Stream, Record, Union}
use Rattle.type_table.specs.declared.form.Member.{Member}

abbrev pub kind_of : Form → ℕ
kind_of Boolean = 0
kind_of Character = 1
kind_of Integer = 2
kind_of Null = 3
kind_of (Array t) = 4
kind_of (Stream t) = 5
kind_of (Record ms) = 6
kind_of (Union ms) = 7

-- names and types by turns
abbrev pub members_key : List Member → List ℕ
members_key [] = []
members_key (m ∷ ms) = m.name ∷ m.ty ∷ members_key ms

abbrev pub parts_key : Form → List ℕ
parts_key (Array t) = t ∷ []
parts_key (Stream t) = t ∷ []
parts_key (Record ms) = members_key ms
parts_key (Union ms) = members_key ms
parts_key _ = []

abbrev pub key_of : Form → List ℕ
key_of f = kind_of f ∷ parts_key f

abbrev pub has_key : List ℕ → Form → Bool
has_key key f = bytes_eq key (key_of f)

-- the forms after one more is used: it goes last, if it is new
abbrev pub with_form : List Form → Form → List Form
with_form fs f = if list_any (has_key (key_of f)) fs then fs else fs ++ f ∷ []
