-- The tree of a type, and the type that a tree tells: each determines the other, so trees are equal exactly where types are.
use Rattle.std.specs.Prelude.{◌≡◌, ℕ, nat_eq, List, [], ◌∷◌, map, Option, Some, None, if◌then◌else◌}
use Rattle.flow_value.specs.declared.ty.Ty.{Ty}
use Rattle.flow_value.specs.declared.ty.Ty.TheVariants as ty
use Rattle.flow_value.specs.declared.ty.Ty.TheOpen.{Ty-F}
use Rattle.flow_value.specs.declared.ty.Ty.TheFolds.{fold-Ty}
use Rattle.if1_graph.specs.Tables.{◌>>=◌}
use Rattle.if1_graph.specs.Types.{Member, Sort, Plain, Many, Function}
use Rattle.if1_types.specs.Trees.{Tree, leaf, node, ending}

-- ---- from types to trees

abbrev pub members_tree : List (List ℕ × Tree) → Tree
members_tree [] = ending
members_tree (m ∷ ms) = node 9 m.1 (members_tree ms)

abbrev pub ty_step : Ty-F Tree → Tree
ty_step Ty-F.Bool = node 0 leaf leaf
ty_step Ty-F.Char = node 1 leaf leaf
ty_step Ty-F.Int = node 2 leaf leaf
ty_step Ty-F.Null = node 3 leaf leaf
ty_step (Ty-F.Arr t) = node 4 t leaf
ty_step (Ty-F.Stream t) = node 5 t leaf
ty_step (Ty-F.Rec ms) = node 6 (members_tree ms) leaf
ty_step (Ty-F.Uni ms) = node 7 (members_tree ms) leaf

abbrev pub ty_tree : Ty → Tree
ty_tree = fold-Ty Tree ty_step

abbrev pub list_tree : List Member → Tree
list_tree ms = members_tree (map (λ m. (m.0, ty_tree m.1)) ms)

abbrev pub types_tree : List Ty → Tree
types_tree [] = ending
types_tree (t ∷ ts) = node 9 (ty_tree t) (types_tree ts)

abbrev pub told_sort : Sort → Tree
told_sort (Plain t) = node 10 (ty_tree t) leaf
told_sort (Many t) = node 11 (ty_tree t) leaf
told_sort (Function args rs) = node 12 (types_tree args) (types_tree rs)

-- ---- and back

pub record Read : Type 0 where
  pub value : Option Ty
  pub members : Option (List Member)

abbrev pub value_of : ℕ → Read → Option Ty
value_of k a =
    if nat_eq k 0 then Some ty.Bool
    else if nat_eq k 1 then Some ty.Char
    else if nat_eq k 2 then Some ty.Int
    else if nat_eq k 3 then Some ty.Null
    else if nat_eq k 4 then (a.value >>= λ t. Some (ty.Arr t))
    else if nat_eq k 5 then (a.value >>= λ t. Some (ty.Stream t))
    else if nat_eq k 6 then (a.members >>= λ ms. Some (ty.Rec ms))
    else (a.members >>= λ ms. Some (ty.Uni ms))

abbrev pub members_of : ℕ → Read → Read → Option (List Member)
members_of k a b = if nat_eq k 8 then Some [] else (a.value >>= λ t. b.members >>= λ ms. Some (([], t) ∷ ms))

abbrev pub read : Tree → Read
read leaf = record { value = None; members = None }
read (node k a b) = record { value = value_of k (read a); members = members_of k (read a) (read b) }

abbrev pub read_value : Tree → Option Ty
read_value t = (read t).value

abbrev pub read_members : Tree → Option (List Member)
read_members t = (read t).members

abbrev pub read_types : Tree → Option (List Ty)
read_types t = read_members t >>= λ ms. Some (map (λ m. m.1) ms)

abbrev pub read_sort : Tree → Option Sort
read_sort leaf = None
read_sort (node k a b) =
    if nat_eq k 10 then (read_value a >>= λ t. Some (Plain t))
    else if nat_eq k 11 then (read_value a >>= λ t. Some (Many t))
    else (read_types a >>= λ args. read_types b >>= λ rs. Some (Function args rs))

-- a thing, where there is one, and its tree; nothing is a leaf
abbrev pub Tells : {A : Type 0} → (A → Tree) → (Tree → Option A) → Option A → Tree → Type 0
Tells tree read None leaf = Unit {0}
Tells tree read None (node k a b) = ⊥
Tells tree read (Some x) leaf = ⊥
Tells tree read (Some x) (node k a b) = (tree x ≡ node k a b) × (read (node k a b) ≡ Some x)
