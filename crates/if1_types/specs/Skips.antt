-- Members of lists by their places, and the ends of lists.
use Rattle.std.specs.Prelude.{◌≡◌, ◌<◌, ◌-◌, ℕ, zero, suc, List, Option, Some, None, slice_get}
use Rattle.if1_graph.specs.Tables.{◌>>=◌}
use Rattle.if1_types.specs.declared.forms.ListForm.{ListForm}
use Rattle.if1_types.specs.declared.forms.ListForm.TheVariants as list
use Rattle.if1_types.specs.Shapes.{Key, tree_at, trees_in, members_in}
use Rattle.if1_types.specs.Forms.{list_form_at}

abbrev pub first_in : ListForm → Option ℕ
first_in (list.Member k l) = Some k
first_in list.End = None

abbrev pub rest_in : ListForm → Option ℕ
rest_in (list.Member k l) = Some l
rest_in list.End = None

-- the type at a place of a list, from 0
abbrev pub member_at : List Key → ℕ → ℕ → Option ℕ
member_at ks l zero = first_in (list_form_at ks l)
member_at ks l (suc i) = rest_in (list_form_at ks l) >>= λ rest. member_at ks rest i

-- how many types a list has
abbrev pub members_at : List Key → ℕ → ℕ
members_at ks l = members_in (tree_at (trees_in ks) l)

-- the list behind the first member; behind no member there is none, which is 0
abbrev pub behind : ListForm → ℕ
behind (list.Member k l) = l
behind list.End = 0

abbrev pub members_by : List Key → ListForm → ℕ
members_by ks (list.Member k l) = suc (members_at ks l)
members_by ks list.End = 0

-- the counts of members go with the forms
abbrev pub AreCountedBy : List Key → Type 0
AreCountedBy ks = (l : ℕ) → members_at ks l ≡ members_by ks (list_form_at ks l)

-- ---- ends of lists

-- the list behind so many members
abbrev pub end_at : List Key → ℕ → ℕ → ℕ
end_at ks zero l = l
end_at ks (suc d) l = end_at ks d (behind (list_form_at ks l))

-- a list is an end of another, with fewer members, if this one has some
abbrev pub IsFurther : List Key → ℕ → ℕ → Type 0
IsFurther ks l n =
    0 < members_at ks l → (n ≡ end_at ks (members_at ks l - members_at ks n) l) × (members_at ks n < members_at ks l)

-- beside the number of each list stands that of an end of it
abbrev pub AreFurther : List Key → List ℕ → Type 0
AreFurther ks ss = (l n : ℕ) → slice_get ss l ≡ Some n → IsFurther ks l n
