-- Marks of types that hold reals.
use Rattle.std.specs.Prelude.{◌≡◌, ℕ, Bool, true, false, not, ◌&&◌, ◌||◌, ◌==◌, List, [], ◌∷◌, map, length, ◌<◌, slice_index_or, All, Option, Some, None, if◌then◌else◌}
use Rattle.if1_graph.specs.declared.graph.TypeEntry.{TypeEntry}
use Rattle.if1_graph.specs.Kinds.{kind_at, basic_at}
use Rattle.if1_graph.specs.Formed.{is_basic, is_real}

-- the mark beside a label, none where there is no such label
abbrev pub mark_at : List ℕ → List Bool → ℕ → Option Bool
mark_at [] ms l = None
mark_at (x ∷ xs) [] l = None
mark_at (x ∷ xs) (m ∷ ms) l = if x == l then Some m else mark_at xs ms l

abbrev pub labels_in : List TypeEntry → List ℕ
labels_in ts = map (λ e. e.label) ts

abbrev pub is_set : Option Bool → Bool
is_set None = false
is_set (Some m) = m

abbrev pub is_marked : List TypeEntry → List Bool → ℕ → Bool
is_marked ts ms l = is_set (mark_at (labels_in ts) ms l)

abbrev pub is_real_type : TypeEntry → Bool
is_real_type e = is_basic (kind_at e.code) && is_real (basic_at e.first)

-- the type holds one that is marked
abbrev pub holds_marked : List TypeEntry → List Bool → TypeEntry → Bool
holds_marked ts ms e = not (is_basic (kind_at e.code)) && (is_marked ts ms e.first || is_marked ts ms e.second)

-- a mark for each type, of all that are real or hold one that is marked
pub record AreMarks (ts : List TypeEntry) (ms : List Bool) : Type 0 where
  pub fit : length ms ≡ length ts
  pub reals : All (λ e. is_real_type e ≡ true → is_marked ts ms e.label ≡ true) ts
  pub closed : All (λ e. holds_marked ts ms e ≡ true → is_marked ts ms e.label ≡ true) ts

-- the type is real, or holds one that is marked
abbrev pub is_open : List ℕ → List Bool → TypeEntry → Bool
is_open ls ms e = is_real_type e || (not (is_basic (kind_at e.code)) && (is_set (mark_at ls ms e.first) || is_set (mark_at ls ms e.second)))

-- nothing is left to mark
abbrev pub AreClosed : List ℕ → List Bool → List TypeEntry → Type 0
AreClosed ls ms ts = (k : ℕ) → k < length ts → (d : TypeEntry) → is_open ls ms (slice_index_or ts k d) ≡ true → slice_index_or ms k true ≡ true
