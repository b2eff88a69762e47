-- The labels of what lines carry.
use Rattle.std.specs.Prelude.{◌≡◌, ◌<◌, ◌≤◌, ℕ, List, take, length, get_or, slice_get, position, Option, Some, None}
use Rattle.type_table.specs.declared.form.Form.{Form}
use Rattle.typed_tree.specs.declared.program.Function.{Function}
use Rattle.lowering.specs.declared.feed.Carried.{Carried}
use Rattle.lowering.specs.Types.{basics, labelled, carried_label, with_types}
use Rattle.type_labels.specs.Known.{AreKnown}
use Rattle.line_labels.specs.declared.labels.Labels.{Labels}
use Rattle.line_labels.specs.Needs.{is_same}

-- the label of the thing of a place, 0 where there is none
abbrev pub label_at : List ℕ → Option ℕ → ℕ
label_at labels None = 0
label_at labels (Some i) = get_or labels i 0

-- the label that is kept for a thing
abbrev pub label_in : Labels → Carried → ℕ
label_in l c = label_at l.labels (position (is_same c) l.needs)

-- of a program with these types, names and functions
module _ (forms : List Form) (names : List (List ℕ)) (fs : List Function) where
  -- each of the first things is entered, and its label is kept
  pub record AreKept (l : Labels) : Type 0 where
    pub few : length l.labels ≤ length l.needs
    pub table : l.table ≡ with_types forms names fs (take (length l.labels) l.needs) basics
    pub labels : (i : ℕ) (c : Carried) → i < length l.labels → slice_get l.needs i ≡ Some c → carried_label forms names fs c l.table ≡ labelled (get_or l.labels i 0) l.table
    pub known : AreKnown forms names l.known l.table
