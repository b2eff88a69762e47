-- Trees of types and lists under greater bounds.
use Rattle.std.proofs.Common.{◌≡◌, ◌≢◌, ℕ, zero, suc, ◌+◌, ◌≤◌, Bool, true, false, List, length, Option, Some, None, refl, sym, ap, ◌∙◌, arith, if◌then◌else◌}
use Rattle.if1_graph.specs.declared.graph.TypeEntry.{TypeEntry}
use Rattle.if1_graph.specs.declared.kind.TypeKind.{TypeKind}
use Rattle.if1_graph.specs.declared.kind.TypeKind.TheVariants as kind
use Rattle.if1_graph.specs.Kinds.{kind_at}
use Rattle.if1_graph.specs.Types.{entry_at, is_field, is_tag}
use Rattle.if1_types.specs.Trees.{Tree, leaf, node, over, over_both, Parts, member_part, list, tree_of, tree_within}
use Rattle.if1_types.specs.Shapes.{members_in}

pub over_there : (k : ℕ) (t : Tree) → over k t ≢ leaf → t ≢ leaf
over_there k t h e = h (ap (over k) e)

over_nothing : (k : ℕ) (t : Tree) → over_both k t leaf ≡ leaf
over_nothing k leaf = refl
over_nothing k (node i a b) = refl

pub both_there : (k : ℕ) (t u : Tree) → over_both k t u ≢ leaf → (t ≢ leaf) × (u ≢ leaf)
both_there k t u h = (λ e. h (ap (λ t. over_both k t u) e), λ e. h (ap (over_both k t) e ∙ over_nothing k t))

pub over_some : (k : ℕ) (t : Tree) → t ≢ leaf → over k t ≡ node k t leaf
over_some k leaf h = absurd (h refl)
over_some k (node i a b) h = refl

pub both_some : (k : ℕ) (t u : Tree) → t ≢ leaf → u ≢ leaf → over_both k t u ≡ node k t u
both_some k leaf u h g = absurd (h refl)
both_some k (node i a b) leaf h g = absurd (g refl)
both_some k (node i a b) (node j c d) h g = refl

abbrev is_leaf : Tree → Bool
is_leaf leaf = true
is_leaf (node k a b) = false

pub node_there : (k : ℕ) (a b : Tree) → node k a b ≢ leaf
node_there k a b e = let no : false ≡ true = ap is_leaf e in cc

-- the list from a line that may be there
abbrev pub list_from : Parts → (Option TypeKind → Bool) → List TypeEntry → ℕ → Option TypeEntry → Tree
list_from part is ts far o = elim o [ None ↦ leaf | Some e ↦ over_both 9 (member_part part is e) (list part is ts far e.second) ]

-- the type on a line that may be there
abbrev pub type_on : Parts → List TypeEntry → Option TypeEntry → Tree
type_on part ts o = elim o [ None ↦ leaf | Some e ↦ tree_of part ts e (kind_at e.code) ]

-- ---- more parts

-- what is there in the first is the same in the second
abbrev pub Below : Parts → Parts → Type 0
Below part more = (l : ℕ) → part l ≢ leaf → more l ≡ part l

pub member_below : (part more : Parts) (is : Option TypeKind → Bool) (e : TypeEntry) → Below part more → member_part part is e ≢ leaf → member_part more is e ≡ member_part part is e
member_below part more is e below h = by (is (kind_at e.code)) h
  where
    by : (b : Bool) → (if b then part e.first else leaf) ≢ leaf → (if b then more e.first else leaf) ≡ (if b then part e.first else leaf)
    by true h = below e.first h
    by false h = refl

pub list_below : (part more : Parts) (is : Option TypeKind → Bool) (ts : List TypeEntry) (far further l : ℕ) → Below part more → far ≤ further → list part is ts far l ≢ leaf
    → list more is ts further l ≡ list part is ts far l
list_below part more is ts far further zero below le h = refl
list_below part more is ts zero further (suc l) below le h = absurd (h refl)
list_below part more is ts (suc far) zero (suc l) below le h = absurd (omega (arith, le))
list_below part more is ts (suc far) (suc further) (suc l) below le h =
    by (entry_at ts (suc l)) (λ m g. list_below part more is ts far further m below (omega (arith, le)) g) h
  where
    by : (o : Option TypeEntry) → ((m : ℕ) → list part is ts far m ≢ leaf → list more is ts further m ≡ list part is ts far m)
        → list_from part is ts far o ≢ leaf → list_from more is ts further o ≡ list_from part is ts far o
    by None rest h = refl
    by (Some e) rest h =
        let both = both_there 9 (member_part part is e) (list part is ts far e.second) h in
        ap (λ t. over_both 9 t (list more is ts further e.second)) (member_below part more is e below both.0)
        ∙ ap (over_both 9 (member_part part is e)) (rest e.second both.1)

pub tree_below : (part more : Parts) (ts : List TypeEntry) (e : TypeEntry) (k : Option TypeKind) → Below part more → tree_of part ts e k ≢ leaf → tree_of more ts e k ≡ tree_of part ts e k
tree_below part more ts e None below h = refl
tree_below part more ts e (Some kind.Basic) below h = refl
tree_below part more ts e (Some kind.Array) below h = ap (over 4) (below e.first (over_there 4 (part e.first) h))
tree_below part more ts e (Some kind.Stream) below h = ap (over 5) (below e.first (over_there 5 (part e.first) h))
tree_below part more ts e (Some kind.Record) below h =
    ap (over 6) (list_below part more is_field ts (length ts) (length ts) e.first below (omega arith) (over_there 6 (list part is_field ts (length ts) e.first) h))
tree_below part more ts e (Some kind.Union) below h =
    ap (over 7) (list_below part more is_tag ts (length ts) (length ts) e.first below (omega arith) (over_there 7 (list part is_tag ts (length ts) e.first) h))
tree_below part more ts e (Some kind.Field) below h = refl
tree_below part more ts e (Some kind.Function) below h = refl
tree_below part more ts e (Some kind.Multiple) below h = refl
tree_below part more ts e (Some kind.Tag) below h = refl
tree_below part more ts e (Some kind.Tuple) below h = refl

-- ---- more depth

pub within_below : (ts : List TypeEntry) (d deep : ℕ) → d ≤ deep → Below (tree_within d ts) (tree_within deep ts)
within_below ts zero deep le l h = absurd (h refl)
within_below ts (suc d) zero le l h = absurd (omega (arith, le))
within_below ts (suc d) (suc deep) le l h = by (entry_at ts l) (within_below ts d deep (omega (arith, le))) h
  where
    by : (o : Option TypeEntry) → Below (tree_within d ts) (tree_within deep ts)
        → type_on (tree_within d ts) ts o ≢ leaf → type_on (tree_within deep ts) ts o ≡ type_on (tree_within d ts) ts o
    by None below h = refl
    by (Some e) below h = tree_below (tree_within d ts) (tree_within deep ts) ts e (kind_at e.code) below h

-- the list under two bounds, where it is there under both
pub same_list : (is : Option TypeKind → Bool) (ts : List TypeEntry) (d far deep further l : ℕ) → list (tree_within d ts) is ts far l ≢ leaf → list (tree_within deep ts) is ts further l ≢ leaf
    → list (tree_within d ts) is ts far l ≡ list (tree_within deep ts) is ts further l
same_list is ts d far deep further l h g =
    sym (list_below (tree_within d ts) (tree_within (d + deep) ts) is ts far (far + further) l (within_below ts d (d + deep) (omega arith)) (omega arith) h)
    ∙ list_below (tree_within deep ts) (tree_within (d + deep) ts) is ts further (far + further) l (within_below ts deep (d + deep) (omega arith)) (omega arith) g

pub members_few : (part : Parts) (is : Option TypeKind → Bool) (ts : List TypeEntry) (far l : ℕ) → members_in (list part is ts far l) ≤ far
members_few part is ts far zero = omega arith
members_few part is ts zero (suc l) = omega arith
members_few part is ts (suc far) (suc l) = by (entry_at ts (suc l)) (λ m. members_few part is ts far m)
  where
    one : (a b : Tree) → members_in b ≤ far → members_in (over_both 9 a b) ≤ suc far
    one leaf b few = omega arith
    one (node i a c) leaf few = omega arith
    one (node i a c) (node j d e) few = omega (arith, few)

    by : (o : Option TypeEntry) → ((m : ℕ) → members_in (list part is ts far m) ≤ far)
        → members_in (list_from part is ts far o) ≤ suc far
    by None rest = omega arith
    by (Some e) rest = one (member_part part is e) (list part is ts far e.second) (rest e.second)
