-- Which numbers of a table stand for types whose parts and names are all there.
use Rattle.std.specs.Prelude.{ℕ, Bool, true, false, ◌&&◌, ◌++◌, nat_lt, List, [], ◌∷◌, slice_index_or}
use Rattle.std.specs.List.{list_all}
use Rattle.type_table.specs.declared.form.Form.{Form}
use Rattle.type_table.specs.declared.form.Form.TheVariants as form
use Rattle.type_table.specs.declared.form.Member.{Member}

-- the type of a number is among those known so far
abbrev pub is_known : List Bool → ℕ → Bool
is_known known n = slice_index_or known n false

-- a member has one of so many names, and a type that is known
abbrev pub is_known_member : ℕ → List Bool → Member → Bool
is_known_member names known m = nat_lt m.name names && is_known known m.ty

abbrev pub is_known_form : ℕ → List Bool → Form → Bool
is_known_form names known (form.Array m) = is_known known m
is_known_form names known (form.Stream m) = is_known known m
is_known_form names known (form.Record ms) = list_all (is_known_member names known) ms
is_known_form names known (form.Union ms) = list_all (is_known_member names known) ms
is_known_form names known _ = true

-- of each type of a table, after those of the types before it
abbrev pub known_onto : ℕ → List Bool → List Form → List Bool
known_onto names known [] = known
known_onto names known (f ∷ fs) = known_onto names (known ++ is_known_form names known f ∷ []) fs

abbrev pub known_types : ℕ → List Form → List Bool
known_types names fs = known_onto names [] fs
