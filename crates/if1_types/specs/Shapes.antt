-- Trees by number: 0 is nothing, and each tree that is there has one number, from 1.
use Rattle.std.specs.Prelude.{◌≡◌, ℕ, zero, suc, ◌≤◌, Bool, ◌&&◌, nat_eq, List, [], ◌∷◌, ◌++◌, length, get_or, slice_get, Option, Some, None, if◌then◌else◌}
use Rattle.std.specs.Map.{keys_of}
use Rattle.if1_types.specs.Trees.{Tree, leaf, node}

-- a kind and the numbers of two parts
abbrev pub Key : Type 0
Key = ℕ × ℕ × ℕ

abbrev pub key_eq : Key → Key → Bool
key_eq a b = (nat_eq a.0 b.0 && nat_eq a.1 b.1) && nat_eq a.2 b.2

-- the tree of a number
abbrev pub tree_at : List Tree → ℕ → Tree
tree_at ts zero = leaf
tree_at ts (suc n) = get_or ts n leaf

abbrev pub key_tree : List Tree → Key → Tree
key_tree ts k = node k.0 (tree_at ts k.1) (tree_at ts k.2)

abbrev pub trees_onto : List Tree → List Key → List Tree
trees_onto ts [] = ts
trees_onto ts (k ∷ ks) = trees_onto (ts ++ key_tree ts k ∷ []) ks

abbrev pub trees_in : List Key → List Tree
trees_in ks = trees_onto [] ks

-- each number below the bound has a tree of its own
abbrev pub IsOnce : List Tree → Type 0
IsOnce ts = (n m : ℕ) → n ≤ length ts → m ≤ length ts → tree_at ts n ≡ tree_at ts m → n ≡ m

pub record IsKept (ks : List Key) (ts : List Tree) : Type 0 where
  pub count : length ts ≡ length ks
  pub rows : (i : ℕ) (k : Key) → slice_get ks i ≡ Some k → (tree_at ts (suc i) ≡ key_tree ts k) × (k.1 ≤ length ts) × (k.2 ≤ length ts)
  pub once : IsOnce ts

-- a later list has the same trees first
pub record IsLater (ts us : List Tree) : Type 0 where
  pub more : List Tree
  pub is : us ≡ ts ++ more

-- a number stands for a tree
pub record Stands (ts : List Tree) (n : ℕ) (t : Tree) : Type 0 where
  pub within : n ≤ length ts
  pub is : tree_at ts n ≡ t

-- the kind of the tree of a number and the numbers of its parts
abbrev pub key_at : List Key → ℕ → Option Key
key_at ks zero = None
key_at ks (suc i) = slice_get ks i

-- what the number of a tree is: its kind and the numbers of its parts
abbrev pub IsKeyOf : List Key → ℕ → Option Key → Type 0
IsKeyOf ks n None = tree_at (trees_in ks) n ≡ leaf
IsKeyOf ks n (Some k) = (tree_at (trees_in ks) n ≡ key_tree (trees_in ks) k) × (k.1 ≤ length (trees_in ks)) × (k.2 ≤ length (trees_in ks))

-- each number has the key of its tree
abbrev pub HasKeys : List Key → Type 0
HasKeys ks = (n : ℕ) → IsKeyOf ks n (key_at ks n)

-- how many members a list has
abbrev pub members_in : Tree → ℕ
members_in leaf = 0
members_in (node k a b) = if nat_eq k 9 then suc (members_in b) else 0

-- beside each key the members of its tree are counted
abbrev pub AreCounted : List (Key × ℕ) → Type 0
AreCounted es = (i : ℕ) (e : Key × ℕ) → slice_get es i ≡ Some e → e.1 ≡ members_in (tree_at (trees_in (keys_of es)) (suc i))

pub record AreHeld (es : List (Key × ℕ)) : Type 0 where
  pub kept : IsKept (keys_of es) (trees_in (keys_of es))
  pub counted : AreCounted es
