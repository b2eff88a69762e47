-- What is known of the lines of a table: the types, and the lists of members from the lines of fields, tags and tuples on.
use Rattle.std.specs.Prelude.{◌≡◌, ◌≢◌, ℕ, zero, suc, ◌≤◌, ◌==◌, ◌⊎◌, Bool, true, false, List, [], ◌∷◌, length, get_or, slice_get, nat_le, Option, Some, None, option_map, if◌then◌else◌}
use Rattle.std.specs.List.{sum_by}
use Rattle.if1_graph.specs.declared.graph.TypeEntry.{TypeEntry}
use Rattle.if1_graph.specs.declared.kind.TypeKind.{TypeKind}
use Rattle.if1_graph.specs.declared.kind.TypeKind.TheVariants as kind
use Rattle.if1_graph.specs.Kinds.{kind_at, basic_at}
use Rattle.if1_graph.specs.Types.{is_field, is_tag, is_tuple, most_deep}
use Rattle.if1_types.specs.declared.found.Part.{Part}
use Rattle.if1_types.specs.declared.found.Found.{Found}
use Rattle.if1_types.specs.declared.lines.Line.{Line}
use Rattle.if1_types.specs.declared.lines.Line.TheVariants.{Field, Tag, Tuple}
use Rattle.if1_types.specs.Trees.{Tree, leaf, ending, over_both, Parts, member_part, list, scalar_tree, tree_of, tree_within}
use Rattle.if1_types.specs.Shapes.{tree_at, members_in, Stands}
use Rattle.if1_types.specs.Tables.{labels_in, is_line}

-- nothing is known
abbrev pub nothing : Part
nothing = record { number = 0; depth = 0 }

abbrev pub part_at : List Part → ℕ → Part
part_at ps p = get_or ps p nothing

-- ---- by label

-- the first place of a label
abbrev pub place_of : List ℕ → ℕ → Option ℕ
place_of [] l = None
place_of (x ∷ xs) l = if x == l then Some 0 else option_map suc (place_of xs l)

-- a line that is none of a list
abbrev pub is_type : Option TypeKind → Bool
is_type (Some kind.Field) = false
is_type (Some kind.Tag) = false
is_type (Some kind.Tuple) = false
is_type _ = true

-- the lines of a list, or those of types
abbrev pub is_on : Option Line → (Option TypeKind → Bool)
is_on None = is_type
is_on (Some line) = is_line line

-- what is known of the line at a place, where it is such a line
abbrev pub part_in : Option Line → List TypeEntry → List Part → ℕ → Part
part_in wanted ts ps p = elim (slice_get ts p) [ None ↦ nothing | Some e ↦ if is_on wanted (kind_at e.code) then part_at ps p else nothing ]

abbrev pub part_of : Option Line → List TypeEntry → List Part → ℕ → Part
part_of wanted ts ps l = elim (place_of (labels_in ts) l) [ None ↦ nothing | Some p ↦ part_in wanted ts ps p ]

-- what is known of a list, where it has at most so many members
abbrev pub shorter : List Tree → ℕ → Part → Part
shorter trees far x = if nat_le (members_in (tree_at trees x.number)) far then x else nothing

-- what is known of the list from a label on; label 0 is the list with no member
abbrev pub list_of : List Tree → Line → List TypeEntry → Found → ℕ → Part
list_of trees line ts found l = if l == 0 then record { number = found.end; depth = 0 } else shorter trees (length ts) (part_of (Some line) ts found.parts l)

-- ---- what is known is right

-- the type on a line, where types are at most so deep
abbrev pub entry_tree : List TypeEntry → TypeEntry → ℕ → Tree
entry_tree ts e zero = leaf
entry_tree ts e (suc d) = tree_of (tree_within d ts) ts e (kind_at e.code)

-- the list from a line on, of at most so many members
abbrev pub member_list : Parts → (Option TypeKind → Bool) → List TypeEntry → TypeEntry → ℕ → Tree
member_list part is ts e zero = leaf
member_list part is ts e (suc far) = over_both 9 (member_part part is e) (list part is ts far e.second)

-- what a line stands for, by its kind
abbrev pub line_tree : List TypeEntry → TypeEntry → Option TypeKind → ℕ → ℕ → Tree
line_tree ts e (Some kind.Field) d far = member_list (tree_within d ts) is_field ts e far
line_tree ts e (Some kind.Tag) d far = member_list (tree_within d ts) is_tag ts e far
line_tree ts e (Some kind.Tuple) d far = member_list (tree_within d ts) is_tuple ts e far
line_tree ts e _ d far = entry_tree ts e d

-- the number has the tree at this depth, and none is there at a lower one
pub record IsRight (trees : List Tree) (tree : ℕ → ℕ → Tree) (x : Part) : Type 0 where
  pub within : x.number ≤ length trees
  pub there : tree_at trees x.number ≢ leaf
  pub is : tree x.depth (members_in (tree_at trees x.number)) ≡ tree_at trees x.number
  pub deep : x.depth ≤ most_deep
  pub least : (d far : ℕ) → tree d far ≢ leaf → x.depth ≤ d

abbrev pub IsRightIfKnown : List Tree → (ℕ → ℕ → Tree) → Part → Type 0
IsRightIfKnown trees tree x = x.number ≢ 0 → IsRight trees tree x

pub record AreRight (trees : List Tree) (ts : List TypeEntry) (found : Found) : Type 0 where
  pub labels : found.labels ≡ labels_in ts
  pub fits : length found.parts ≡ length ts
  pub end : Stands trees found.end ending
  pub known : (p : ℕ) (e : TypeEntry) → slice_get ts p ≡ Some e → IsRightIfKnown trees (line_tree ts e (kind_at e.code)) (part_at found.parts p)

-- ---- a line of which no more can be known

-- no type is over this part
abbrev pub IsShut : Part → Type 0
IsShut x = (x.number ≡ 0) ⊎ (most_deep ≤ x.depth)

abbrev pub IsStuck : List Tree → List TypeEntry → Found → TypeEntry → Option TypeKind → Type 0
IsStuck trees ts found e (Some kind.Basic) = scalar_tree (basic_at e.first) ≡ leaf
IsStuck trees ts found e (Some kind.Array) = IsShut (part_of None ts found.parts e.first)
IsStuck trees ts found e (Some kind.Stream) = IsShut (part_of None ts found.parts e.first)
IsStuck trees ts found e (Some kind.Record) = IsShut (list_of trees Field ts found e.first)
IsStuck trees ts found e (Some kind.Union) = IsShut (list_of trees Tag ts found e.first)
IsStuck trees ts found e (Some kind.Field) = ((part_of None ts found.parts e.first).number ≡ 0) ⊎ ((list_of trees Field ts found e.second).number ≡ 0)
IsStuck trees ts found e (Some kind.Tag) = ((part_of None ts found.parts e.first).number ≡ 0) ⊎ ((list_of trees Tag ts found e.second).number ≡ 0)
IsStuck trees ts found e (Some kind.Tuple) = ((part_of None ts found.parts e.first).number ≡ 0) ⊎ ((list_of trees Tuple ts found e.second).number ≡ 0)
IsStuck trees ts found e _ = Unit {0}

-- the line at a place is known, or no more can be known of it
abbrev pub IsSettled : List Tree → List TypeEntry → Found → ℕ → Type 0
IsSettled trees ts found p = (e : TypeEntry) → slice_get ts p ≡ Some e → ((part_at found.parts p).number ≢ 0) ⊎ IsStuck trees ts found e (kind_at e.code)

-- ---- all lines

-- types and lists have their numbers
pub record AreFound (trees : List Tree) (ts : List TypeEntry) (found : Found) : Type 0 where
  pub within : (wanted : Option Line) (l : ℕ) → (part_of wanted ts found.parts l).number ≤ length trees
  pub types : (l : ℕ) → Stands trees (part_of None ts found.parts l).number (tree_within most_deep ts l)
  pub lists : (line : Line) (l : ℕ) → Stands trees (list_of trees line ts found l).number (list (tree_within most_deep ts) (is_line line) ts (length ts) l)

-- ---- how much is not known

abbrev pub unknown : Part → ℕ
unknown x = if x.number == 0 then 1 else 0

abbrev pub unknown_in : List Part → ℕ
unknown_in ps = sum_by unknown ps

-- ---- a walk

-- how many places were not met
abbrev pub freshness : Bool → ℕ
freshness true = 0
freshness false = 1

abbrev pub unmet_in : List Bool → ℕ
unmet_in met = sum_by freshness met
