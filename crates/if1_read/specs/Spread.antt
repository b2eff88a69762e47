-- Marks that are set one after another.
use Rattle.std.specs.Prelude.{◌≡◌, ℕ, ◌<◌, Bool, true, false, not, ◌&&◌, ◌||◌, List, length, slice_index_or, slice_index}
use Rattle.if1_graph.specs.declared.graph.TypeEntry.{TypeEntry}
use Rattle.if1_graph.specs.Kinds.{kind_at}
use Rattle.if1_graph.specs.Formed.{is_basic, HasReal}
use Rattle.if1_read.specs.Marks.{labels_in, mark_at, is_set, is_real_type}

-- the type is not marked and holds one that is
abbrev pub is_holder : List ℕ → List Bool → Bool → TypeEntry → Bool
is_holder ls ms mark e = not mark && not (is_basic (kind_at e.code)) && (is_set (mark_at ls ms e.first) || is_set (mark_at ls ms e.second))

abbrev pub HasNoHolder : List ℕ → List Bool → List TypeEntry → Type 0
HasNoHolder ls ms ts = (k : ℕ) → k < length ts → (d : TypeEntry) → is_holder ls ms (slice_index_or ms k true) (slice_index_or ts k d) ≡ false

abbrev pub AreRealsMarked : List Bool → List TypeEntry → Type 0
AreRealsMarked ms ts = (k : ℕ) → k < length ts → (d : TypeEntry) → is_real_type (slice_index_or ts k d) ≡ true → slice_index_or ms k true ≡ true

-- as many marks, and what was marked still is
pub record KeepsMarks (old new : List Bool) : Type 0 where
  pub fit : length new ≡ length old
  pub still : (k : ℕ) → slice_index_or old k true ≡ true → slice_index_or new k true ≡ true

-- ---- only what holds reals is marked

-- the place of a type that holds reals
pub record IsRealAt (ts : List TypeEntry) (k : ℕ) : Type 0 where
  pub below : k < length ts
  pub real : HasReal ts (slice_index (labels_in ts) k)

abbrev pub AreTrue : List TypeEntry → List Bool → Type 0
AreTrue ts ms = (k : ℕ) → slice_index_or ms k false ≡ true → IsRealAt ts k

-- the second type holds reals where the first one does
abbrev pub LeadsTo : List TypeEntry → ℕ × ℕ → Type 0
LeadsTo ts p = IsRealAt ts p.0 → IsRealAt ts p.1

-- the type of a place holds reals where that of the label does
abbrev pub HoldsAs : List TypeEntry → ℕ → ℕ → Type 0
HoldsAs ts l k = HasReal ts l → IsRealAt ts k

-- this type stands at a place
pub record StandsAt (ts : List TypeEntry) (k : ℕ) (e : TypeEntry) : Type 0 where
  pub below : k < length ts
  pub is : e ≡ slice_index_or ts k e
