-- The types of a table by label, with a number for each.
use Rattle.std.specs.Prelude.{◌≡◌, ℕ, ◌==◌, ◌↔◌, Bool, List, [], ◌∷◌, map, Option, Some, None, if◌then◌else◌}
use Rattle.std.specs.List.Sorted.{IsStrictlyIncreasing}
use Rattle.if1_graph.specs.declared.graph.TypeEntry.{TypeEntry}
use Rattle.if1_graph.specs.declared.kind.TypeKind.{TypeKind}
use Rattle.if1_graph.specs.Tables.{◌>>=◌}
use Rattle.if1_graph.specs.Kinds.{kind_at}
use Rattle.if1_graph.specs.Types.{entry_at, is_field, is_tag, is_tuple, sort_at}
use Rattle.if1_types.specs.declared.lines.Line.{Line}
use Rattle.if1_types.specs.declared.lines.Line.TheVariants.{Field, Tag, Tuple}
use Rattle.if1_types.specs.Trees.{Tree}
use Rattle.if1_types.specs.Shapes.{Stands}

-- the number beside a label, 0 where there is none
abbrev pub number_at : List ℕ → List ℕ → ℕ → ℕ
number_at [] ns l = 0
number_at (x ∷ xs) [] l = 0
number_at (x ∷ xs) (n ∷ ns) l = if x == l then n else number_at xs ns l

abbrev pub labels_in : List TypeEntry → List ℕ
labels_in ts = map (λ e. e.label) ts

abbrev pub is_line : Line → (Option TypeKind → Bool)
is_line Field = is_field
is_line Tag = is_tag
is_line Tuple = is_tuple

-- the entry of a label, where it is on a line of one kind
abbrev pub entry_on : (Option TypeKind → Bool) → List TypeEntry → ℕ → Option TypeEntry
entry_on is ts l = entry_at ts l >>= λ e. if is (kind_at e.code) then Some e else None

-- the numbers beside these entries have the trees of the entries
abbrev pub AreTold : List Tree → (TypeEntry → Tree) → List TypeEntry → List ℕ → Type 0
AreTold trees f [] [] = Unit {0}
AreTold trees f [] (n ∷ ns) = ⊥
AreTold trees f (e ∷ es) [] = ⊥
AreTold trees f (e ∷ es) (n ∷ ns) = Stands trees n (f e) × AreTold trees f es ns

-- Numbers beside labels: two are equal exactly where the labels stand for the same, and one is 0 exactly where its label
-- stands for nothing.
pub record AreSorts (ts : List TypeEntry) (ls ns : List ℕ) : Type 0 where
  pub rising : IsStrictlyIncreasing ls
  pub there : (l : ℕ) → (number_at ls ns l ≡ 0) ↔ (sort_at ts l ≡ None)
  pub same : (l m : ℕ) → (number_at ls ns l ≡ number_at ls ns m) ↔ (sort_at ts l ≡ sort_at ts m)
