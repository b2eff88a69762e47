-- What a type is made of (SISAL Language Reference Manual 1.2, types).
use Rattle.std.specs.Prelude.{ℕ, ◌+◌, List, [], ◌∷◌, map, max, Option, Some, None, nat_eq, if◌then◌else◌, get_or}
use Rattle.type_table.specs.declared.form.Form.{Form}
use Rattle.type_table.specs.declared.form.Form.TheVariants.{Boolean, Character, Integer, Null, Array, Stream, Record, Union}
use Rattle.type_table.specs.declared.form.Member.{Member}

-- the fields of a record, the tags of a union
abbrev pub members_of : Form → List Member
members_of (Record ms) = ms
members_of (Union ms) = ms
members_of _ = []

-- the types that a type is made of, by number
abbrev pub parts : Form → List ℕ
parts (Array t) = t ∷ []
parts (Stream t) = t ∷ []
parts (Record ms) = map (λ m. m.ty) ms
parts (Union ms) = map (λ m. m.ty) ms
parts _ = []

-- the greatest depth of these types, where ds are the depths by number
abbrev pub deepest : List ℕ → List ℕ → ℕ
deepest ds [] = 0
deepest ds (t ∷ ts) = max (get_or ds t 0) (deepest ds ts)

-- a basic type has depth 1, another one 1 more than its deepest part
abbrev pub form_depth : List ℕ → Form → ℕ
form_depth ds f = 1 + deepest ds (parts f)

-- the place and the type of the first member of a name, of members from a place on
abbrev pub first_member : ℕ → ℕ → List Member → Option (ℕ × ℕ)
first_member name at [] = None
first_member name at (m ∷ ms) = if nat_eq name m.name then Some (at, m.ty) else first_member name (at + 1) ms
