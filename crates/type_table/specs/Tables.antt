-- The types of a program, by number: each once, after its parts, at most 64 deep.
use Rattle.std.specs.Prelude.{◌≡◌, ℕ, ◌<◌, ◌≤◌, ◌^◌, List, [], ◌∷◌, ◌++◌, All, length, slice_get, Option, Some, None, ◌⊎◌}
use Rattle.type_table.specs.declared.form.Form.{Form}
use Rattle.type_table.specs.declared.form.Form.TheVariants.{Boolean, Character, Integer, Null, Array, Record, Union}
use Rattle.type_table.specs.declared.form.Member.{Member}
use Rattle.type_table.specs.Forms.{members_of, parts, form_depth, first_member}

-- the depths of types, after those of earlier types
abbrev pub depths_onto : List ℕ → List Form → List ℕ
depths_onto ds [] = ds
depths_onto ds (f ∷ fs) = depths_onto (ds ++ form_depth ds f ∷ []) fs

-- the depth of each type
abbrev pub depths : List Form → List ℕ
depths fs = depths_onto [] fs

-- the numbers of a form's parts are below n
abbrev pub IsOver : ℕ → Form → Type 0
IsOver n f = All (λ t. t < n) (parts f)

-- a record has a field, and a union a tag
abbrev pub HasMember : Form → Type 0
HasMember (Record ms) = 1 ≤ length ms
HasMember (Union ms) = 1 ≤ length ms
HasMember _ = Unit {0}

-- the places of the members are such as 32 bits count
abbrev pub HasFew : Form → Type 0
HasFew f = length (members_of f) ≤ 2 ^ 32

-- Types by number: no form twice, each after its parts, no record or union empty, none deeper than 64.
pub record IsWell (fs : List Form) : Type 0 where
  pub once : (k m : ℕ) (f : Form) → slice_get fs k ≡ Some f → slice_get fs m ≡ Some f → k ≡ m
  pub after_parts : (k : ℕ) (f : Form) → slice_get fs k ≡ Some f → IsOver k f
  pub members : (k : ℕ) (f : Form) → slice_get fs k ≡ Some f → HasMember f
  pub shallow : All (λ d. d ≤ 64) (depths fs)

-- the types that are always there: boolean, character, integer, null and the array of characters
abbrev pub basic_forms : List Form
basic_forms = Boolean ∷ Character ∷ Integer ∷ Null ∷ Array 1 ∷ []

-- A table has the basic types first.
pub record IsTable (fs : List Form) : Type 0 where
  pub rest : List Form
  pub basics : fs ≡ basic_forms ++ rest
  pub well : IsWell fs

-- the table is as before, or has the form at its end
abbrev pub AddsAtMost : List Form → Form → List Form → Type 0
AddsAtMost old f new = (new ≡ old) ⊎ (new ≡ old ++ f ∷ [])

abbrev pub members_if : Option Form → List Member
members_if None = []
members_if (Some f) = members_of f

-- the members of the type of a number
abbrev pub members_at : List Form → ℕ → List Member
members_at fs k = members_if (slice_get fs k)

-- the place and the type of the first member of a name in the type of a number
abbrev pub member_at : List Form → ℕ → ℕ → Option (ℕ × ℕ)
member_at fs k name = first_member name 0 (members_at fs k)
