-- What a label of a type table stands for, as a tree of kinds; `leaf` is nothing. Names are left out, as types are compared.
use Rattle.std.specs.Prelude.{ℕ, zero, suc, List, [], ◌∷◌, Bool, Option, Some, None, length, if◌then◌else◌}
use Rattle.if1_graph.specs.declared.graph.TypeEntry.{TypeEntry}
use Rattle.if1_graph.specs.declared.kind.TypeKind.{TypeKind}
use Rattle.if1_graph.specs.declared.kind.TypeKind.TheVariants as kind
use Rattle.if1_graph.specs.declared.kind.Basic.{Basic}
use Rattle.if1_graph.specs.declared.kind.Basic.TheVariants as basic
use Rattle.if1_graph.specs.Tables.{beside}
use Rattle.if1_graph.specs.Kinds.{kind_at, basic_at}
use Rattle.if1_types.specs.declared.kind.Kind.{Kind}
use Rattle.if1_types.specs.declared.kind.Kind.TheVariants as shape
use Rattle.if1_graph.specs.Types.{entry_at, is_field, is_tag, is_tuple, most_deep}

pub data Tree : Type 0 where
  leaf : Tree
  node : (kind : ℕ) (first second : Tree) → Tree

-- Kinds of nodes: 0 boolean, 1 character, 2 integer, 3 null, 4 array, 5 stream, 6 record, 7 union; 8 a list's end, 9 a member
-- and the list after it; 10 a value, 11 a multiple, 12 a function.
abbrev pub kind_number : Kind → ℕ
kind_number shape.Boolean = 0
kind_number shape.Character = 1
kind_number shape.Integer = 2
kind_number shape.Null = 3
kind_number shape.Array = 4
kind_number shape.Stream = 5
kind_number shape.Record = 6
kind_number shape.Union = 7
kind_number shape.End = 8
kind_number shape.Member = 9
kind_number shape.Value = 10
kind_number shape.Multiple = 11
kind_number shape.Function = 12

abbrev pub kinds : List (ℕ × Kind)
kinds =
    (0, shape.Boolean) ∷
    (1, shape.Character) ∷
    (2, shape.Integer) ∷
    (3, shape.Null) ∷
    (4, shape.Array) ∷
    (5, shape.Stream) ∷
    (6, shape.Record) ∷
    (7, shape.Union) ∷
    (8, shape.End) ∷
    (9, shape.Member) ∷
    (10, shape.Value) ∷
    (11, shape.Multiple) ∷
    (12, shape.Function) ∷
    []

-- the kind of a number, if it is that of a kind
abbrev pub kind_by : ℕ → Option Kind
kind_by n = beside n kinds

abbrev pub ending : Tree
ending = node 8 leaf leaf

-- over one part; over nothing it is nothing
abbrev pub over : ℕ → Tree → Tree
over k leaf = leaf
over k (node i a b) = node k (node i a b) leaf

-- over two parts
abbrev pub over_both : ℕ → Tree → Tree → Tree
over_both k leaf b = leaf
over_both k (node i a b) leaf = leaf
over_both k (node i a b) (node j c d) = node k (node i a b) (node j c d)

-- ---- the tree of a label

abbrev pub Parts : Type 0
Parts = ℕ → Tree

-- the tree of a member's type, where its line is of this kind
abbrev pub member_part : Parts → (Option TypeKind → Bool) → TypeEntry → Tree
member_part part is e = if is (kind_at e.code) then part e.first else leaf

-- the members from a label on
abbrev pub list : Parts → (Option TypeKind → Bool) → List TypeEntry → ℕ → ℕ → Tree
list part is ts far zero = ending
list part is ts zero (suc l) = leaf
list part is ts (suc far) (suc l) =
    elim (entry_at ts (suc l)) [ None ↦ leaf | Some e ↦ over_both 9 (member_part part is e) (list part is ts far e.second) ]

abbrev pub scalar_tree : Option Basic → Tree
scalar_tree (Some basic.Boolean) = node 0 leaf leaf
scalar_tree (Some basic.Character) = node 1 leaf leaf
scalar_tree (Some basic.Integer) = node 2 leaf leaf
scalar_tree (Some basic.Null) = node 3 leaf leaf
scalar_tree _ = leaf

abbrev pub tree_of : Parts → List TypeEntry → TypeEntry → Option TypeKind → Tree
tree_of part ts e (Some kind.Basic) = scalar_tree (basic_at e.first)
tree_of part ts e (Some kind.Array) = over 4 (part e.first)
tree_of part ts e (Some kind.Stream) = over 5 (part e.first)
tree_of part ts e (Some kind.Record) = over 6 (list part is_field ts (length ts) e.first)
tree_of part ts e (Some kind.Union) = over 7 (list part is_tag ts (length ts) e.first)
tree_of part ts e _ = leaf

-- the type of a value that a label stands for, where it is at most so deep
abbrev pub tree_within : ℕ → List TypeEntry → ℕ → Tree
tree_within zero ts l = leaf
tree_within (suc depth) ts l =
    elim (entry_at ts l) [ None ↦ leaf | Some e ↦ tree_of (tree_within depth ts) ts e (kind_at e.code) ]

-- ---- the tree of a sort

abbrev pub sort_tree : Parts → List TypeEntry → TypeEntry → Option TypeKind → Tree
sort_tree part ts e (Some kind.Multiple) = over 11 (part e.first)
sort_tree part ts e (Some kind.Function) =
    over_both 12 (list part is_tuple ts (length ts) e.first) (list part is_tuple ts (length ts) e.second)
sort_tree part ts e _ = over 10 (part e.label)

abbrev pub sort_tree_at : List TypeEntry → ℕ → Tree
sort_tree_at ts l =
    elim (entry_at ts l) [ None ↦ leaf | Some e ↦ sort_tree (tree_within most_deep ts) ts e (kind_at e.code) ]
