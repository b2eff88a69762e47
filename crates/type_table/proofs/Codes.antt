-- The key of a form tells the form.
use Rattle.std.proofs.Common.{◌≡◌, ℕ, Bool, true, false, nat_eq, List, [], ◌∷◌, ◌++◌, slice_get, Option, Some, None, refl, sym, ap, ◌∙◌, subst, position, bytes_eq, true≢false, if◌then◌else◌}
use Rattle.std.specs.List.{list_any}
use Rattle.std.proofs.lemmas.Slice.Eq.{bytes_eq-Decides}
use Rattle.type_table.specs.declared.form.Form.{Form}
use Rattle.type_table.specs.declared.form.Form.TheVariants.{Boolean, Character, Integer, Null, Array, Stream, Record, Union}
use Rattle.type_table.specs.declared.form.Member.{Member}
use Rattle.type_table.specs.Keys.{kind_of, members_key, parts_key, key_of, has_key, with_form}
use Rattle.type_table.proofs.Lists.{IsFound, found, none_found, not_among}

abbrev members_from : List ℕ → List Member
members_from [] = []
members_from (name ∷ []) = []
members_from (name ∷ ty ∷ rest) = record { name = name; ty = ty } ∷ members_from rest

members_told : (ms : List Member) → members_from (members_key ms) ≡ ms
members_told [] = refl
members_told (m ∷ ms) = ap (λ ms. m ∷ ms) (members_told ms)

abbrev first : List ℕ → ℕ
first [] = 0
first (x ∷ xs) = x

abbrev form_from : List ℕ → Form
form_from [] = Boolean
form_from (kind ∷ rest) =
    if nat_eq kind 0 then Boolean
    else if nat_eq kind 1 then Character
    else if nat_eq kind 2 then Integer
    else if nat_eq kind 3 then Null
    else if nat_eq kind 4 then Array (first rest)
    else if nat_eq kind 5 then Stream (first rest)
    else if nat_eq kind 6 then Record (members_from rest)
    else Union (members_from rest)

form_told : (f : Form) → form_from (key_of f) ≡ f
form_told Boolean = refl
form_told Character = refl
form_told Integer = refl
form_told Null = refl
form_told (Array t) = refl
form_told (Stream t) = refl
form_told (Record ms) = ap Record (members_told ms)
form_told (Union ms) = ap Union (members_told ms)

pub same_form : (f g : Form) → key_of f ≡ key_of g → f ≡ g
same_form f g h = sym (form_told f) ∙ ap form_from h ∙ form_told g

pub has_own_key : (f : Form) → has_key (key_of f) f ≡ true
has_own_key f = (bytes_eq-Decides (key_of f) (key_of f)).1 refl

-- the form that is found by a key
pub form_found : (f : Form) (fs : List Form) (k : ℕ) → Some k ≡ position (has_key (key_of f)) fs → slice_get fs k ≡ Some f
form_found f fs k h =
    let r = found (has_key (key_of f)) fs k h in
    r.is ∙ ap Some (sym (same_form f r.item ((bytes_eq-Decides (key_of f) (key_of r.item)).0 r.passes)))

pub with_form-found : (f : Form) (fs : List Form) (k : ℕ) → Some k ≡ position (has_key (key_of f)) fs → with_form fs f ≡ fs
with_form-found f fs k h = ap (λ b. if b then fs else fs ++ f ∷ []) (found (has_key (key_of f)) fs k h).any

pub with_form-absent : (f : Form) (fs : List Form) → position (has_key (key_of f)) fs ≡ None → with_form fs f ≡ fs ++ f ∷ []
with_form-absent f fs h = ap (λ b. if b then fs else fs ++ f ∷ []) (none_found (has_key (key_of f)) fs h)

pub is_absent : (f : Form) (fs : List Form) (k : ℕ) → position (has_key (key_of f)) fs ≡ None → slice_get fs k ≡ Some f → ⊥
is_absent f fs k h is =
    let no : has_key (key_of f) f ≡ false = not_among (has_key (key_of f)) fs k f (none_found (has_key (key_of f)) fs h) is in
    true≢false (sym (has_own_key f) ∙ no)
