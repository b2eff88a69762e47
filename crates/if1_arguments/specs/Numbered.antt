-- The types that labels stand for, by number, for who reads values at them.
use Rattle.std.specs.Prelude.{ℕ, zero, suc, List, [], ◌∷◌}
use Rattle.value_text.specs.Numbered.{Numbered}
use Rattle.value_text.specs.declared.type_form.TypeForm.{TypeForm}
use Rattle.value_text.specs.declared.type_form.TypeForm.TheVariants as of
use Rattle.if1_types.specs.declared.forms.TyForm.{TyForm}
use Rattle.if1_types.specs.declared.forms.TyForm.TheVariants as form
use Rattle.if1_types.specs.declared.forms.ListForm.{ListForm}
use Rattle.if1_types.specs.declared.forms.ListForm.TheVariants as list
use Rattle.if1_types.specs.Shapes.{Key}
use Rattle.if1_types.specs.Forms.{ty_form_at, list_form_at}
use Rattle.if1_types.specs.Skips.{members_at}

abbrev pub form_of : TyForm → TypeForm
form_of form.Nothing = of.Nothing
form_of form.Boolean = of.Boolean
form_of form.Character = of.Character
form_of form.Integer = of.Integer
form_of form.Null = of.Null
form_of (form.Array k) = of.Array k
form_of (form.Stream k) = of.Stream k
form_of (form.Record k) = of.Record
form_of (form.Union k) = of.Union

-- the list of the members of a record or union
abbrev pub list_of : TyForm → ℕ
list_of (form.Record k) = k
list_of (form.Union k) = k
list_of _ = 0

-- the first types of a list, so many
abbrev pub first_types : List Key → ℕ → ℕ → List ℕ
first_types ks zero l = []
first_types ks (suc c) l = elim (list_form_at ks l) [ list.End ↦ [] | list.Member k rest ↦ k ∷ first_types ks c rest ]

abbrev pub types_in : List Key → ℕ → List ℕ
types_in ks l = first_types ks (members_at ks l) l

abbrev pub numbered : List Key → Numbered
numbered ks = record { form = λ n. form_of (ty_form_at ks n); members = λ n. types_in ks (list_of (ty_form_at ks n)) }
