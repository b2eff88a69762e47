-- The tree of a label tells what the label stands for.
use Rattle.std.proofs.Common.{◌≡◌, ℕ, zero, suc, Bool, true, false, List, [], ◌∷◌, map, length, Option, Some, None, refl, sym, ap, ◌∙◌, subst, ◌==◌, true≢false, eqb-true, if◌then◌else◌}
use Rattle.std.proofs.lemmas.Option.{same_Some}
use Rattle.flow_value.specs.declared.ty.Ty.{Ty}
use Rattle.flow_value.specs.declared.ty.Ty.TheVariants as ty
use Rattle.flow_value.specs.declared.ty.Ty.TheOpen.{Ty-F}
use Rattle.flow_value.specs.declared.ty.Ty.TheFolds.{fold-roll-Ty}
use Rattle.if1_graph.specs.declared.graph.TypeEntry.{TypeEntry}
use Rattle.if1_graph.specs.declared.kind.TypeKind.{TypeKind}
use Rattle.if1_graph.specs.declared.kind.TypeKind.TheVariants as kind
use Rattle.if1_graph.specs.declared.kind.Basic.{Basic}
use Rattle.if1_graph.specs.declared.kind.Basic.TheVariants as basic
use Rattle.if1_graph.specs.Kinds.{kind_at, basic_at}
use Rattle.if1_graph.specs.Tables.{◌>>=◌}
use Rattle.if1_graph.specs.Types.{Member, Sort, Plain, Many, Function, entry_at, is_field, is_tag, is_tuple, members, scalar, ty_of, ty_within, without_names, most_deep, bare_at, tuple_at, sort_of, sort_at}
use Rattle.if1_types.specs.Trees.{Tree, leaf, node, over, over_both, Parts, member_part, list, scalar_tree, tree_of, tree_within, sort_tree, sort_tree_at}
use Rattle.if1_types.specs.Telling.{ty_step, ty_tree, list_tree, types_tree, told_sort, read_value, read_members, read_types, read_sort, Tells}

-- ---- steps

abbrev IsType : Option Ty → Tree → Type 0
IsType = Tells ty_tree read_value

abbrev AreMembers : Option (List Member) → Tree → Type 0
AreMembers = Tells list_tree read_members

abbrev AreTypes : Option (List Ty) → Tree → Type 0
AreTypes = Tells types_tree read_types

abbrev IsSort : Option Sort → Tree → Type 0
IsSort = Tells told_sort read_sort

over_tells : {A B : Type 0} (f : A → Tree) (g : Tree → Option A) (f' : B → Tree) (g' : Tree → Option B) (make : A → B) (k : ℕ)
    → ((x : A) → f' (make x) ≡ node k (f x) leaf) → ((t : Tree) (x : A) → g t ≡ Some x → g' (node k t leaf) ≡ Some (make x))
    → (o : Option A) (t : Tree) → Tells f g o t → Tells f' g' (o >>= λ x. Some (make x)) (over k t)
over_tells f g f' g' make k there back None leaf h = tt
over_tells f g f' g' make k there back None (node i a b) h = absurd h
over_tells f g f' g' make k there back (Some x) leaf h = absurd h
over_tells f g f' g' make k there back (Some x) (node i a b) h =
    (there x ∙ ap (λ s. node k s leaf) h.0, back (node i a b) x h.1)

both_tell : {A B C : Type 0} (f : A → Tree) (g : Tree → Option A) (f' : B → Tree) (g' : Tree → Option B) (f'' : C → Tree) (g'' : Tree → Option C) (make : A → B → C) (k : ℕ)
    → ((x : A) (y : B) → f'' (make x y) ≡ node k (f x) (f' y)) → ((t u : Tree) (x : A) (y : B) → g t ≡ Some x → g' u ≡ Some y → g'' (node k t u) ≡ Some (make x y))
    → (o : Option A) (p : Option B) (t u : Tree) → Tells f g o t → Tells f' g' p u → Tells f'' g'' (o >>= λ x. p >>= λ y. Some (make x y)) (over_both k t u)
both_tell f g f' g' f'' g'' make k there back None p leaf u h i = tt
both_tell f g f' g' f'' g'' make k there back None p (node j a b) u h i = absurd h
both_tell f g f' g' f'' g'' make k there back (Some x) p leaf u h i = absurd h
both_tell f g f' g' f'' g'' make k there back (Some x) None (node j a b) leaf h i = tt
both_tell f g f' g' f'' g'' make k there back (Some x) None (node j a b) (node l c d) h i = absurd i
both_tell f g f' g' f'' g'' make k there back (Some x) (Some y) (node j a b) leaf h i = absurd i
both_tell f g f' g' f'' g'' make k there back (Some x) (Some y) (node j a b) (node l c d) h i =
    (there x y ∙ ap (λ s. node k s (f' y)) h.0 ∙ ap (λ s. node k (node j a b) s) i.0, back (node j a b) (node l c d) x y h.1 i.1)

-- ---- trees of types

pub array_tree : (t : Ty) → ty_tree (ty.Arr t) ≡ node 4 (ty_tree t) leaf
array_tree t = ap ty_tree (sym (ty.rolls-Arr t)) ∙ fold-roll-Ty Tree ty_step (Ty-F.Arr t)

pub stream_tree : (t : Ty) → ty_tree (ty.Stream t) ≡ node 5 (ty_tree t) leaf
stream_tree t = ap ty_tree (sym (ty.rolls-Stream t)) ∙ fold-roll-Ty Tree ty_step (Ty-F.Stream t)

pub record_tree : (ms : List Member) → ty_tree (ty.Rec ms) ≡ node 6 (list_tree ms) leaf
record_tree ms = ap ty_tree (sym (ty.rolls-Rec ms)) ∙ fold-roll-Ty Tree ty_step (Ty-F.Rec ms)

pub union_tree : (ms : List Member) → ty_tree (ty.Uni ms) ≡ node 7 (list_tree ms) leaf
union_tree ms = ap ty_tree (sym (ty.rolls-Uni ms)) ∙ fold-roll-Ty Tree ty_step (Ty-F.Uni ms)

scalar_tells : (b : Option Basic) → IsType (scalar b) (scalar_tree b)
scalar_tells (Some basic.Boolean) = (ap ty_tree (sym ty.rolls-Bool) ∙ fold-roll-Ty Tree ty_step Ty-F.Bool, refl)
scalar_tells (Some basic.Character) = (ap ty_tree (sym ty.rolls-Char) ∙ fold-roll-Ty Tree ty_step Ty-F.Char, refl)
scalar_tells (Some basic.Integer) = (ap ty_tree (sym ty.rolls-Int) ∙ fold-roll-Ty Tree ty_step Ty-F.Int, refl)
scalar_tells (Some basic.Null) = (ap ty_tree (sym ty.rolls-Null) ∙ fold-roll-Ty Tree ty_step Ty-F.Null, refl)
scalar_tells (Some basic.Double) = tt
scalar_tells (Some basic.Real) = tt
scalar_tells (Some basic.Wild) = tt
scalar_tells None = tt

-- ---- lists

module _ (part : ℕ → Option Ty) (tree : Parts) (same : (l : ℕ) → IsType (part l) (tree l)) (is : Option TypeKind → Bool) (ts : List TypeEntry) where
  part_tells : (e : TypeEntry) → IsType (if is (kind_at e.code) then part e.first else None) (member_part tree is e)
  part_tells e = by (is (kind_at e.code))
    where
      by : (b : Bool) → IsType (if b then part e.first else None) (if b then tree e.first else leaf)
      by true = same e.first
      by false = tt

  list_tells : (far l : ℕ) → AreMembers (members without_names part is ts far l) (list tree is ts far l)
  list_tells far zero = (refl, refl)
  list_tells zero (suc l) = tt
  list_tells (suc far) (suc l) = by (entry_at ts (suc l)) (list_tells far)
    where
      by : (o : Option TypeEntry) → ((l : ℕ) → AreMembers (members without_names part is ts far l) (list tree is ts far l)) → AreMembers
          (o >>= λ e. (if is (kind_at e.code) then part e.first else None) >>= λ t. members without_names part is ts far e.second >>= λ others. Some (([], t) ∷ others))
          (elim o [ None ↦ leaf | Some e ↦ over_both 9 (member_part tree is e) (list tree is ts far e.second) ])
      by None rest = tt
      by (Some e) rest =
          both_tell ty_tree read_value list_tree read_members list_tree read_members (λ t ms. ([], t) ∷ ms) 9
          (λ t ms. refl)
          (λ a b t ms h i. ap (λ o. o >>= λ t. read_members b >>= λ ms. Some (([], t) ∷ ms)) h ∙ ap (λ o. o >>= λ ms. Some (([], t) ∷ ms)) i)
          (if is (kind_at e.code) then part e.first else None) (members without_names part is ts far e.second)
          (member_part tree is e) (list tree is ts far e.second) (part_tells e) (rest e.second)

-- ---- a level

array_over : (o : Option Ty) (t : Tree) → IsType o t → IsType (o >>= λ t. Some (ty.Arr t)) (over 4 t)
array_over = over_tells ty_tree read_value ty_tree read_value (λ t. ty.Arr t) 4 array_tree (λ t x h. ap (λ o. o >>= λ t. Some (ty.Arr t)) h)

stream_over : (o : Option Ty) (t : Tree) → IsType o t → IsType (o >>= λ t. Some (ty.Stream t)) (over 5 t)
stream_over = over_tells ty_tree read_value ty_tree read_value (λ t. ty.Stream t) 5 stream_tree (λ t x h. ap (λ o. o >>= λ t. Some (ty.Stream t)) h)

record_over : (o : Option (List Member)) (t : Tree) → AreMembers o t → IsType (o >>= λ ms. Some (ty.Rec ms)) (over 6 t)
record_over = over_tells list_tree read_members ty_tree read_value (λ ms. ty.Rec ms) 6 record_tree (λ t x h. ap (λ o. o >>= λ ms. Some (ty.Rec ms)) h)

union_over : (o : Option (List Member)) (t : Tree) → AreMembers o t → IsType (o >>= λ ms. Some (ty.Uni ms)) (over 7 t)
union_over = over_tells list_tree read_members ty_tree read_value (λ ms. ty.Uni ms) 7 union_tree (λ t x h. ap (λ o. o >>= λ ms. Some (ty.Uni ms)) h)

level_tells : (part : ℕ → Option Ty) (tree : Parts) → ((l : ℕ) → IsType (part l) (tree l)) → (ts : List TypeEntry) (e : TypeEntry) (k : Option TypeKind)
    → IsType (ty_of without_names part ts e k) (tree_of tree ts e k)
level_tells part tree same ts e (Some kind.Basic) = scalar_tells (basic_at e.first)
level_tells part tree same ts e (Some kind.Array) = array_over (part e.first) (tree e.first) (same e.first)
level_tells part tree same ts e (Some kind.Stream) = stream_over (part e.first) (tree e.first) (same e.first)
level_tells part tree same ts e (Some kind.Record) = record_over _ (list tree is_field ts (length ts) e.first) (list_tells part tree same is_field ts (length ts) e.first)
level_tells part tree same ts e (Some kind.Union) = union_over _ (list tree is_tag ts (length ts) e.first) (list_tells part tree same is_tag ts (length ts) e.first)
level_tells part tree same ts e (Some kind.Field) = tt
level_tells part tree same ts e (Some kind.Tag) = tt
level_tells part tree same ts e (Some kind.Tuple) = tt
level_tells part tree same ts e (Some kind.Function) = tt
level_tells part tree same ts e (Some kind.Multiple) = tt
level_tells part tree same ts e None = tt

pub within_tells : (depth : ℕ) (ts : List TypeEntry) (l : ℕ) → IsType (ty_within without_names depth ts l) (tree_within depth ts l)
within_tells zero ts l = tt
within_tells (suc depth) ts l = by (entry_at ts l) (within_tells depth ts)
  where
    by : (o : Option TypeEntry) → ((l : ℕ) → IsType (ty_within without_names depth ts l) (tree_within depth ts l))
        → IsType (o >>= λ e. ty_of without_names (ty_within without_names depth ts) ts e (kind_at e.code))
        (elim o [ None ↦ leaf | Some e ↦ tree_of (tree_within depth ts) ts e (kind_at e.code) ])
    by None rest = tt
    by (Some e) rest = level_tells (ty_within without_names depth ts) (tree_within depth ts) rest ts e (kind_at e.code)

-- ---- sorts

pub types_told : (ms : List Member) → types_tree (map (λ m. m.1) ms) ≡ list_tree ms
types_told [] = refl
types_told (m ∷ ms) = ap (λ t. node 9 (ty_tree m.1) t) (types_told ms)

tuple_tells : (o : Option (List Member)) (t : Tree) → AreMembers o t → AreTypes (o >>= λ ms. Some (map (λ m. m.1) ms)) t
tuple_tells None leaf h = tt
tuple_tells None (node k a b) h = absurd h
tuple_tells (Some ms) leaf h = absurd h
tuple_tells (Some ms) (node k a b) h = (types_told ms ∙ h.0, ap (λ o. o >>= λ ms. Some (map (λ m. m.1) ms)) h.1)

plain_over : (o : Option Ty) (t : Tree) → IsType o t → IsSort (o >>= λ t. Some (Plain t)) (over 10 t)
plain_over = over_tells ty_tree read_value told_sort read_sort (λ t. Plain t) 10 (λ t. refl) (λ t x h. ap (λ o. o >>= λ t. Some (Plain t)) h)

many_over : (o : Option Ty) (t : Tree) → IsType o t → IsSort (o >>= λ t. Some (Many t)) (over 11 t)
many_over = over_tells ty_tree read_value told_sort read_sort (λ t. Many t) 11 (λ t. refl) (λ t x h. ap (λ o. o >>= λ t. Some (Many t)) h)

function_over : (o p : Option (List Ty)) (t u : Tree) → AreTypes o t → AreTypes p u → IsSort (o >>= λ args. p >>= λ rs. Some (Function args rs)) (over_both 12 t u)
function_over =
    both_tell types_tree read_types types_tree read_types told_sort read_sort (λ args rs. Function args rs) 12
    (λ args rs. refl)
    (λ a b x y h i. ap (λ o. o >>= λ args. read_types b >>= λ rs. Some (Function args rs)) h ∙ ap (λ o. o >>= λ rs. Some (Function x rs)) i)

module _ (ts : List TypeEntry) where
  bare_tells : (l : ℕ) → IsType (bare_at ts l) (tree_within most_deep ts l)
  bare_tells = within_tells most_deep ts

  tuple_at_tells : (l : ℕ) → AreTypes (tuple_at (bare_at ts) ts l) (list (tree_within most_deep ts) is_tuple ts (length ts) l)
  tuple_at_tells l = tuple_tells _ (list (tree_within most_deep ts) is_tuple ts (length ts) l) (list_tells (bare_at ts) (tree_within most_deep ts) bare_tells is_tuple ts (length ts) l)

  sort_of_tells : (e : TypeEntry) (k : Option TypeKind) → IsSort (sort_of ts e.label e k) (sort_tree (tree_within most_deep ts) ts e k)
  sort_of_tells e (Some kind.Multiple) = many_over (bare_at ts e.first) (tree_within most_deep ts e.first) (bare_tells e.first)
  sort_of_tells e (Some kind.Function) = function_over (tuple_at (bare_at ts) ts e.first) (tuple_at (bare_at ts) ts e.second) _ _ (tuple_at_tells e.first) (tuple_at_tells e.second)
  sort_of_tells e (Some kind.Basic) = plain_over (bare_at ts e.label) (tree_within most_deep ts e.label) (bare_tells e.label)
  sort_of_tells e (Some kind.Array) = plain_over (bare_at ts e.label) (tree_within most_deep ts e.label) (bare_tells e.label)
  sort_of_tells e (Some kind.Stream) = plain_over (bare_at ts e.label) (tree_within most_deep ts e.label) (bare_tells e.label)
  sort_of_tells e (Some kind.Record) = plain_over (bare_at ts e.label) (tree_within most_deep ts e.label) (bare_tells e.label)
  sort_of_tells e (Some kind.Union) = plain_over (bare_at ts e.label) (tree_within most_deep ts e.label) (bare_tells e.label)
  sort_of_tells e (Some kind.Field) = plain_over (bare_at ts e.label) (tree_within most_deep ts e.label) (bare_tells e.label)
  sort_of_tells e (Some kind.Tag) = plain_over (bare_at ts e.label) (tree_within most_deep ts e.label) (bare_tells e.label)
  sort_of_tells e (Some kind.Tuple) = plain_over (bare_at ts e.label) (tree_within most_deep ts e.label) (bare_tells e.label)
  sort_of_tells e None = plain_over (bare_at ts e.label) (tree_within most_deep ts e.label) (bare_tells e.label)

-- the entry of a label has it
entry_labelled : (ts : List TypeEntry) (l : ℕ) (e : TypeEntry) → entry_at ts l ≡ Some e → e.label ≡ l
entry_labelled [] l e h = cc
entry_labelled (d ∷ ts) l e h = by (d.label == l) refl h (entry_labelled ts l e)
  where
    by : (b : Bool) → (d.label == l) ≡ b → (if b then Some d else entry_at ts l) ≡ Some e → (entry_at ts l ≡ Some e → e.label ≡ l) → e.label ≡ l
    by true test h rest = ap (λ e. e.label) (sym (same_Some d e h)) ∙ eqb-true d.label l test
    by false test h rest = rest h

-- the tree of a label tells its sort
pub sort_tells : (ts : List TypeEntry) (l : ℕ) → IsSort (sort_at ts l) (sort_tree_at ts l)
sort_tells ts l = by (entry_at ts l) refl
  where
    by : (o : Option TypeEntry) → entry_at ts l ≡ o → IsSort (o >>= λ e. sort_of ts l e (kind_at e.code))
        (elim o [ None ↦ leaf | Some e ↦ sort_tree (tree_within most_deep ts) ts e (kind_at e.code) ])
    by None h = tt
    by (Some e) h =
        subst (λ l. IsSort (sort_of ts l e (kind_at e.code)) (sort_tree (tree_within most_deep ts) ts e (kind_at e.code))) (entry_labelled ts l e h)
        (sort_of_tells ts e (kind_at e.code))

abbrev is_node : Tree → Bool
is_node leaf = false
is_node (node k a b) = true

-- trees are equal exactly where what they tell is
pub trees_same : {A : Type 0} (f : A → Tree) (g : Tree → Option A) (o p : Option A) (t u : Tree) → Tells f g o t → Tells f g p u → t ≡ u → o ≡ p
trees_same f g None None t u h i e = refl
trees_same f g None (Some y) leaf leaf h i e = absurd i
trees_same f g None (Some y) leaf (node k a b) h i e = absurd (true≢false (sym (ap is_node e)))
trees_same f g None (Some y) (node k a b) u h i e = absurd h
trees_same f g (Some x) None leaf u h i e = absurd h
trees_same f g (Some x) None (node k a b) leaf h i e = absurd (true≢false (ap is_node e))
trees_same f g (Some x) None (node k a b) (node j c d) h i e = absurd i
trees_same f g (Some x) (Some y) leaf u h i e = absurd h
trees_same f g (Some x) (Some y) (node k a b) leaf h i e = absurd i
trees_same f g (Some x) (Some y) (node k a b) (node j c d) h i e = sym h.1 ∙ ap g e ∙ i.1

pub told_same : {A : Type 0} (f : A → Tree) (g : Tree → Option A) (o p : Option A) (t u : Tree) → Tells f g o t → Tells f g p u → o ≡ p → t ≡ u
told_same f g None None leaf leaf h i e = refl
told_same f g None None leaf (node k a b) h i e = absurd i
told_same f g None None (node k a b) u h i e = absurd h
told_same f g None (Some y) t u h i e = cc
told_same f g (Some x) None t u h i e = cc
told_same f g (Some x) (Some y) leaf u h i e = absurd h
told_same f g (Some x) (Some y) (node k a b) leaf h i e = absurd i
told_same f g (Some x) (Some y) (node k a b) (node j c d) h i e = sym h.0 ∙ ap f (same_Some x y e) ∙ i.0
