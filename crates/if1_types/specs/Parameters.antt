-- The parameters of a function, by the labels and the numbers of their types.
use Rattle.std.specs.Prelude.{ℕ, zero, suc, Bool, List, [], ◌∷◌, map, length, Option, Some, None, option_map}
use Rattle.if1_graph.specs.declared.graph.TypeEntry.{TypeEntry}
use Rattle.if1_graph.specs.declared.kind.TypeKind.{TypeKind}
use Rattle.if1_graph.specs.declared.kind.TypeKind.TheVariants as kind
use Rattle.if1_graph.specs.Kinds.{kind_at}
use Rattle.if1_graph.specs.Tables.{◌>>=◌}
use Rattle.if1_graph.specs.Types.{entry_at, is_tuple}
use Rattle.if1_types.specs.declared.forms.SortForm.{SortForm}
use Rattle.if1_types.specs.declared.forms.SortForm.TheVariants as sort
use Rattle.if1_types.specs.declared.numbered.Sorts.{Sorts}
use Rattle.if1_types.specs.declared.parameters.Parameter.{Parameter}
use Rattle.if1_types.specs.Tables.{number_at, entry_on}
use Rattle.if1_types.specs.Forms.{sort_form_at}

-- the labels of the types of a list's members, from the label of the first member's line on (IF1 manual M-170, type table)
abbrev pub member_labels : (Option TypeKind → Bool) → List TypeEntry → ℕ → ℕ → Option (List ℕ)
member_labels is ts far zero = Some []
member_labels is ts zero (suc l) = None
member_labels is ts (suc far) (suc l) = entry_on is ts (suc l) >>= λ e. member_labels is ts far e.second >>= λ others. Some (e.first ∷ others)

abbrev pub labels_by : List TypeEntry → TypeEntry → Option TypeKind → Option (List ℕ)
labels_by ts e (Some kind.Function) = member_labels is_tuple ts (length ts) e.first
labels_by ts e _ = None

-- the labels of the types of a function's arguments, by the label of its own type
abbrev pub param_labels : List TypeEntry → ℕ → Option (List ℕ)
param_labels ts l = entry_at ts l >>= λ e. labels_by ts e (kind_at e.code)

abbrev pub value_by : SortForm → ℕ
value_by (sort.Value k) = k
value_by _ = 0

-- the number of the type of the values that a label stands for, 0 where it stands for no value
abbrev pub type_at : Sorts → ℕ → ℕ
type_at s l = value_by (sort_form_at s.shapes (number_at s.labels s.numbers l))

abbrev pub parameter : Sorts → ℕ → Parameter
parameter s l = record { label = l; ty = type_at s l }

abbrev pub params_at : List TypeEntry → Sorts → ℕ → Option (List Parameter)
params_at ts s l = option_map (λ ls. map (parameter s) ls) (param_labels ts l)
