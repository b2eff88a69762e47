-- What a number stands for, by its key.
use Rattle.std.proofs.Common.{◌≡◌, ℕ, suc, Bool, true, false, List, [], ◌∷◌, map, length, Option, Some, None, refl, sym, ap, ◌∙◌, subst, true≢false, rules}
use Rattle.std.proofs.lemmas.Option.{same_Some}
use Rattle.flow_value.specs.declared.ty.Ty.{Ty, map-Ty}
use Rattle.flow_value.specs.declared.ty.Ty.TheVariants as ty
use Rattle.flow_value.specs.declared.ty.Ty.TheOpen.{Ty-F}
use Rattle.flow_value.specs.declared.ty.Ty.TheFolds.{fold-roll-Ty}
use Rattle.flow_value.specs.declared.ty.Ty.TheViews.{out-Ty, roll-Ty, the_lemmas}
use Rattle.if1_graph.specs.Tables.{◌>>=◌}
use Rattle.if1_graph.specs.Types.{Member, Sort, Plain, Many, Function}
use Rattle.if1_types.specs.Trees.{Tree, leaf, node, ending}
use Rattle.if1_types.specs.Telling.{ty_tree, list_tree, types_tree, told_sort, read_value, read_members, read_types, read_sort, value_of, read, ty_step}
use Rattle.if1_types.specs.Shapes.{Key, trees_in, key_at, key_tree, members_in, IsOnce, IsKeyOf, Stands}
use Rattle.if1_types.specs.declared.forms.SortForm.TheVariants as sort
use Rattle.if1_types.specs.declared.forms.TyForm.TheVariants as form
use Rattle.if1_types.specs.declared.forms.ListForm.TheVariants as list
use Rattle.if1_types.specs.Forms.{IsTy, IsList, IsSort, AreOnce, AreOne, AreRead, IsTyForm, IsListForm, IsSortForm, ty_form, list_form, sort_form}
use Rattle.if1_types.proofs.Same.{types_told}

-- ---- one number, one thing

tree_once : (ts : List Tree) (n m : ℕ) (t : Tree) → IsOnce ts → Stands ts n t → Stands ts m t → n ≡ m
tree_once ts n m t once a b = once n m a.within b.within (a.is ∙ sym b.is)

pub are_once : (ks : List Key) → IsOnce (trees_in ks) → AreOnce ks
are_once ks once = record {
  types = λ n m t a b. tree_once (trees_in ks) n m (ty_tree t) once a.stands b.stands;
  lists = λ n m ts a b. tree_once (trees_in ks) n m (types_tree ts) once a.stands b.stands;
  sorts = λ n m s a b. tree_once (trees_in ks) n m (told_sort s) once a.stands b.stands;
}

-- what trees read is one thing
read_once : {A : Type 0} (f : A → Tree) (g : Tree → Option A) (x y : A) → f x ≡ f y → g (f x) ≡ Some x → g (f y) ≡ Some y → x ≡ y
read_once f g x y e h i = same_Some x y (sym h ∙ ap g e ∙ i)

pub are_one : (ks : List Key) → AreOne ks
are_one ks = record {
  types = λ n t u a b. read_once ty_tree read_value t u (sym a.stands.is ∙ b.stands.is) a.bare b.bare;
  lists = λ n ts us a b. read_once types_tree read_types ts us (sym a.stands.is ∙ b.stands.is) a.bare b.bare;
  sorts = λ n s r a b. read_once told_sort read_sort s r (sym a.stands.is ∙ b.stands.is) a.bare b.bare;
}

-- ---- parts of trees

abbrev kind_of : Tree → ℕ
kind_of leaf = 13
kind_of (node k a b) = k

abbrev first_of : Tree → Tree
first_of leaf = leaf
first_of (node k a b) = a

abbrev second_of : Tree → Tree
second_of leaf = leaf
second_of (node k a b) = b

-- the first part of a thing of one part, by the key
pub record Parts (ks : List Key) (k : Key) (kind : ℕ) (a b : Tree) : Type 0 where
  pub kind_is : k.0 ≡ kind
  pub first : Stands (trees_in ks) k.1 a
  pub second : Stands (trees_in ks) k.2 b

pub parts_of : (ks : List Key) (n : ℕ) (k : Key) (kind : ℕ) (a b t : Tree) → IsKeyOf ks n (Some k) → Stands (trees_in ks) n t → t ≡ node kind a b → Parts ks k kind a b
parts_of ks n k kind a b t h s e =
    let same : key_tree (trees_in ks) k ≡ node kind a b = sym h.0 ∙ s.is ∙ e in
    record {
      kind_is = ap kind_of same;
      first = record { within = h.1; is = ap first_of same };
      second = record { within = h.2; is = ap second_of same };
    }

leaf_no : {k : ℕ} {a b : Tree} → leaf ≡ node k a b → ⊥
leaf_no e = true≢false (sym (ap is_node e))
  where
    is_node : Tree → Bool
    is_node leaf = false
    is_node (node k a b) = true

plain_one : (u t : Ty) → Plain u ≡ Plain t → u ≡ t
plain_one u t e = cc

many_one : (u t : Ty) → Many u ≡ Many t → u ≡ t
many_one u t e = cc

list_parts : (t : Ty) (ts : List Ty) → read_types (types_tree (t ∷ ts)) ≡ Some (t ∷ ts) → (read_value (ty_tree t) ≡ Some t) × (read_types (types_tree ts) ≡ Some ts)
list_parts t ts h = by (read_value (ty_tree t)) (read_members (types_tree ts)) h
  where
    heads : {u t : Ty} {us ts : List Ty} → u ∷ us ≡ t ∷ ts → u ≡ t
    heads e = cc

    tails : {u t : Ty} {us ts : List Ty} → u ∷ us ≡ t ∷ ts → us ≡ ts
    tails e = cc

    by : (o : Option Ty) (p : Option (List Member)) → ((o >>= λ t. p >>= λ ms. Some (([], t) ∷ ms)) >>= λ ms. Some (map (λ m. m.1) ms)) ≡ Some (t ∷ ts)
        → (o ≡ Some t) × ((p >>= λ ms. Some (map (λ m. m.1) ms)) ≡ Some ts)
    by None p h = cc
    by (Some u) None h = cc
    by (Some u) (Some ms) h = let e = same_Some (u ∷ map (λ m. m.1) ms) (t ∷ ts) h in (ap Some (heads e), ap Some (tails e))

function_parts : (args rs : List Ty) → read_sort (told_sort (Function args rs)) ≡ Some (Function args rs) → (read_types (types_tree args) ≡ Some args) × (read_types (types_tree rs) ≡ Some rs)
function_parts args rs h = by (read_types (types_tree args)) (read_types (types_tree rs)) h
  where
    firsts : {x y a b : List Ty} → Function x y ≡ Function a b → x ≡ a
    firsts e = cc

    seconds : {x y a b : List Ty} → Function x y ≡ Function a b → y ≡ b
    seconds e = cc

    by : (o p : Option (List Ty)) → (o >>= λ x. p >>= λ y. Some (Function x y)) ≡ Some (Function args rs) → (o ≡ Some args) × (p ≡ Some rs)
    by None p h = cc
    by (Some x) None h = cc
    by (Some x) (Some y) h = let e = same_Some (Function x y) (Function args rs) h in (ap Some (firsts e), ap Some (seconds e))

-- ---- types

abbrev kind_number : Ty-F Ty → ℕ
kind_number Ty-F.Bool = 0
kind_number Ty-F.Char = 1
kind_number Ty-F.Int = 2
kind_number Ty-F.Null = 3
kind_number (Ty-F.Arr t) = 4
kind_number (Ty-F.Stream t) = 5
kind_number (Ty-F.Rec ms) = 6
kind_number (Ty-F.Uni ms) = 7

abbrev part_tree : Ty-F Ty → Tree
part_tree (Ty-F.Arr t) = ty_tree t
part_tree (Ty-F.Stream t) = ty_tree t
part_tree (Ty-F.Rec ms) = list_tree ms
part_tree (Ty-F.Uni ms) = list_tree ms
part_tree _ = leaf

rolled : (t : Ty) (x : Ty-F Ty) → out-Ty t ≡ x → t ≡ roll-Ty x
rolled t x e = search (rules, the_lemmas)

rolled_tree : (x : Ty-F Ty) → ty_step (map-Ty Ty Tree ty_tree x) ≡ node (kind_number x) (part_tree x) leaf
rolled_tree Ty-F.Bool = refl
rolled_tree Ty-F.Char = refl
rolled_tree Ty-F.Int = refl
rolled_tree Ty-F.Null = refl
rolled_tree (Ty-F.Arr t) = refl
rolled_tree (Ty-F.Stream t) = refl
rolled_tree (Ty-F.Rec ms) = refl
rolled_tree (Ty-F.Uni ms) = refl

pub tree_is : (t : Ty) (x : Ty-F Ty) → out-Ty t ≡ x → ty_tree t ≡ node (kind_number x) (part_tree x) leaf
tree_is t x e = ap ty_tree (rolled t x e) ∙ fold-roll-Ty Tree ty_step x ∙ rolled_tree x

is_int : (t : Ty) → out-Ty t ≡ Ty-F.Int → t ≡ ty.Int
is_int t e = search (rules, the_lemmas)

is_bool : (t : Ty) → out-Ty t ≡ Ty-F.Bool → t ≡ ty.Bool
is_bool t e = search (rules, the_lemmas)

is_char : (t : Ty) → out-Ty t ≡ Ty-F.Char → t ≡ ty.Char
is_char t e = search (rules, the_lemmas)

is_null : (t : Ty) → out-Ty t ≡ Ty-F.Null → t ≡ ty.Null
is_null t e = search (rules, the_lemmas)

is_arr : (t u : Ty) → out-Ty t ≡ Ty-F.Arr u → t ≡ ty.Arr u
is_arr t u e = search (rules, the_lemmas)

is_stream : (t u : Ty) → out-Ty t ≡ Ty-F.Stream u → t ≡ ty.Stream u
is_stream t u e = search (rules, the_lemmas)

is_rec : (t : Ty) (ms : List Member) → out-Ty t ≡ Ty-F.Rec ms → t ≡ ty.Rec ms
is_rec t ms e = search (rules, the_lemmas)

is_uni : (t : Ty) (ms : List Member) → out-Ty t ≡ Ty-F.Uni ms → t ≡ ty.Uni ms
is_uni t ms e = search (rules, the_lemmas)

out_arr : (t : Ty) → out-Ty (ty.Arr t) ≡ Ty-F.Arr t
out_arr t = search (rules, the_lemmas)

arr_parts : (t u : Ty) → Ty-F.Arr t ≡ Ty-F.Arr u → t ≡ u
arr_parts t u e = cc

arr_one : (t u : Ty) → ty.Arr t ≡ ty.Arr u → t ≡ u
arr_one t u e = arr_parts t u (sym (out_arr t) ∙ ap out-Ty e ∙ out_arr u)

out_stream : (t : Ty) → out-Ty (ty.Stream t) ≡ Ty-F.Stream t
out_stream t = search (rules, the_lemmas)

stream_parts : (t u : Ty) → Ty-F.Stream t ≡ Ty-F.Stream u → t ≡ u
stream_parts t u e = cc

stream_one : (t u : Ty) → ty.Stream t ≡ ty.Stream u → t ≡ u
stream_one t u e = stream_parts t u (sym (out_stream t) ∙ ap out-Ty e ∙ out_stream u)

out_rec : (ms : List Member) → out-Ty (ty.Rec ms) ≡ Ty-F.Rec ms
out_rec ms = search (rules, the_lemmas)

rec_parts : (ms ns : List Member) → Ty-F.Rec ms ≡ Ty-F.Rec ns → ms ≡ ns
rec_parts ms ns e = cc

rec_one : (ms ns : List Member) → ty.Rec ms ≡ ty.Rec ns → ms ≡ ns
rec_one ms ns e = rec_parts ms ns (sym (out_rec ms) ∙ ap out-Ty e ∙ out_rec ns)

out_uni : (ms : List Member) → out-Ty (ty.Uni ms) ≡ Ty-F.Uni ms
out_uni ms = search (rules, the_lemmas)

uni_parts : (ms ns : List Member) → Ty-F.Uni ms ≡ Ty-F.Uni ns → ms ≡ ns
uni_parts ms ns e = cc

uni_one : (ms ns : List Member) → ty.Uni ms ≡ ty.Uni ns → ms ≡ ns
uni_one ms ns e = uni_parts ms ns (sym (out_uni ms) ∙ ap out-Ty e ∙ out_uni ns)

-- what is made of a part that is one
from_one : {A B : Type 0} (make : A → B) (o : Option A) (b : A) → ((x y : A) → make x ≡ make y → x ≡ y) → (o >>= λ x. Some (make x)) ≡ Some (make b) → o ≡ Some b
from_one make None b one h = cc
from_one make (Some x) b one h = ap Some (one x b (same_Some (make x) (make b) h))

-- a tree of one part reads as that part
bare_part : (t : Ty) (k : ℕ) (a : Tree) → read_value (ty_tree t) ≡ Some t → ty_tree t ≡ node k a leaf → value_of k (read a) ≡ Some t
bare_part t k a h e = ap read_value (sym e) ∙ h

list_bare : (ms : List Member) → read_members (list_tree ms) ≡ Some ms → read_types (types_tree (map (λ m. m.1) ms)) ≡ Some (map (λ m. m.1) ms)
list_bare ms h = ap read_types (types_told ms) ∙ ap (λ o. o >>= λ ms. Some (map (λ m. m.1) ms)) h

module _ (ks : List Key) where
  list_of : (k : ℕ) (ms : List Member) → Stands (trees_in ks) k (list_tree ms) → read_members (list_tree ms) ≡ Some ms → IsList ks k (map (λ m. m.1) ms)
  list_of k ms s h = record { stands = subst (Stands (trees_in ks) k) (sym (types_told ms)) s; bare = list_bare ms h }

  form_by : (k : ℕ) (t : Ty) (x : Ty-F Ty) → out-Ty t ≡ x → Stands (trees_in ks) k (part_tree x) → value_of (kind_number x) (read (part_tree x)) ≡ Some t → IsTyForm ks t (ty_form (kind_number x) k)
  form_by k t Ty-F.Bool e s h = is_bool t e
  form_by k t Ty-F.Char e s h = is_char t e
  form_by k t Ty-F.Int e s h = is_int t e
  form_by k t Ty-F.Null e s h = is_null t e
  form_by k t (Ty-F.Arr u) e s h =
      (u, is_arr t u e, record { stands = s; bare = from_one ty.Arr (read_value (ty_tree u)) u arr_one (h ∙ ap Some (is_arr t u e)) })
  form_by k t (Ty-F.Stream u) e s h =
      (u, is_stream t u e, record { stands = s; bare = from_one ty.Stream (read_value (ty_tree u)) u stream_one (h ∙ ap Some (is_stream t u e)) })
  form_by k t (Ty-F.Rec ms) e s h =
      (ms, is_rec t ms e, list_of k ms s (from_one ty.Rec (read_members (list_tree ms)) ms rec_one (h ∙ ap Some (is_rec t ms e))))
  form_by k t (Ty-F.Uni ms) e s h =
      (ms, is_uni t ms e, list_of k ms s (from_one ty.Uni (read_members (list_tree ms)) ms uni_one (h ∙ ap Some (is_uni t ms e))))

  pub ty_form_is : (n : ℕ) (k : Key) (t : Ty) → IsKeyOf ks n (Some k) → IsTy ks n t → IsTyForm ks t (ty_form k.0 k.1)
  ty_form_is n k t key h =
      let x = out-Ty t in
      let e = tree_is t x refl in
      let p = parts_of ks n k (kind_number x) (part_tree x) leaf (ty_tree t) key h.stands e in
      subst (λ kind. IsTyForm ks t (ty_form kind k.1)) (sym p.kind_is) (form_by k.1 t x refl p.first (bare_part t (kind_number x) (part_tree x) h.bare e))

  -- a number without a tree stands for nothing
  tree_number : (t : Ty) → leaf ≡ ty_tree t → ⊥
  tree_number t e = leaf_no (e ∙ tree_is t (out-Ty t) refl)

  pub ty_none : (n : ℕ) (t : Ty) → IsKeyOf ks n None → IsTy ks n t → ⊥
  ty_none n t key h = tree_number t (sym key ∙ h.stands.is)

  -- ---- lists

  pub list_form_is : (n : ℕ) (k : Key) (ts : List Ty) → IsKeyOf ks n (Some k) → IsList ks n ts → IsListForm ks ts (list_form k.0 k.1 k.2)
  list_form_is n k [] key h =
      let p = parts_of ks n k 8 leaf leaf ending key h.stands refl in
      subst (λ kind. IsListForm ks [] (list_form kind k.1 k.2)) (sym p.kind_is) refl
  list_form_is n k (t ∷ ts) key h =
      let p = parts_of ks n k 9 (ty_tree t) (types_tree ts) (types_tree (t ∷ ts)) key h.stands refl in
      let b = list_parts t ts h.bare in
      subst (λ kind. IsListForm ks (t ∷ ts) (list_form kind k.1 k.2)) (sym p.kind_is)
      (t, ts, refl, record { stands = p.first; bare = b.0 }, record { stands = p.second; bare = b.1 })

  pub list_none : (n : ℕ) (ts : List Ty) → IsKeyOf ks n None → IsList ks n ts → ⊥
  list_none n [] key h = leaf_no (sym key ∙ h.stands.is)
  list_none n (t ∷ ts) key h = leaf_no (sym key ∙ h.stands.is)

  -- ---- sorts

  pub sort_form_is : (n : ℕ) (k : Key) (s : Sort) → IsKeyOf ks n (Some k) → IsSort ks n s → IsSortForm ks s (sort_form k.0 k.1 k.2)
  sort_form_is n k (Plain t) key h =
      let p = parts_of ks n k 10 (ty_tree t) leaf (told_sort (Plain t)) key h.stands refl in
      subst (λ kind. IsSortForm ks (Plain t) (sort_form kind k.1 k.2)) (sym p.kind_is)
      (t, refl, record { stands = p.first; bare = from_one (λ t. Plain t) (read_value (ty_tree t)) t plain_one h.bare })
  sort_form_is n k (Many t) key h =
      let p = parts_of ks n k 11 (ty_tree t) leaf (told_sort (Many t)) key h.stands refl in
      subst (λ kind. IsSortForm ks (Many t) (sort_form kind k.1 k.2)) (sym p.kind_is)
      (t, refl, record { stands = p.first; bare = from_one (λ t. Many t) (read_value (ty_tree t)) t many_one h.bare })
  sort_form_is n k (Function args rs) key h =
      let p = parts_of ks n k 12 (types_tree args) (types_tree rs) (told_sort (Function args rs)) key h.stands refl in
      let b = function_parts args rs h.bare in
      subst (λ kind. IsSortForm ks (Function args rs) (sort_form kind k.1 k.2)) (sym p.kind_is)
      (args, rs, refl, record { stands = p.first; bare = b.0 }, record { stands = p.second; bare = b.1 })

  pub sort_none : (n : ℕ) (s : Sort) → IsKeyOf ks n None → IsSort ks n s → ⊥
  sort_none n (Plain t) key h = leaf_no (sym key ∙ h.stands.is)
  sort_none n (Many t) key h = leaf_no (sym key ∙ h.stands.is)
  sort_none n (Function args rs) key h = leaf_no (sym key ∙ h.stands.is)

-- ---- forms by number

pub are_read : (ks : List Key) → ((n : ℕ) → IsKeyOf ks n (key_at ks n)) → AreRead ks
are_read ks keys = record { sorts = λ n s h. sort_by n s (key_at ks n) (keys n) h; types = λ n t h. ty_by n t (key_at ks n) (keys n) h; lists = λ n ts h. list_by n ts (key_at ks n) (keys n) h }
  where
    sort_by : (n : ℕ) (s : Sort) (o : Option Key) → IsKeyOf ks n o → IsSort ks n s → IsSortForm ks s (elim o [ None ↦ sort.Nothing | Some k ↦ sort_form k.0 k.1 k.2 ])
    sort_by n s None key h = absurd (sort_none ks n s key h)
    sort_by n s (Some k) key h = sort_form_is ks n k s key h

    ty_by : (n : ℕ) (t : Ty) (o : Option Key) → IsKeyOf ks n o → IsTy ks n t → IsTyForm ks t (elim o [ None ↦ form.Nothing | Some k ↦ ty_form k.0 k.1 ])
    ty_by n t None key h = absurd (ty_none ks n t key h)
    ty_by n t (Some k) key h = ty_form_is ks n k t key h

    list_by : (n : ℕ) (ts : List Ty) (o : Option Key) → IsKeyOf ks n o → IsList ks n ts → IsListForm ks ts (elim o [ None ↦ list.End | Some k ↦ list_form k.0 k.1 k.2 ])
    list_by n ts None key h = absurd (list_none ks n ts key h)
    list_by n ts (Some k) key h = list_form_is ks n k ts key h

-- ---- counts

pub members_told : (ts : List Ty) → members_in (types_tree ts) ≡ length ts
members_told [] = refl
members_told (t ∷ ts) = ap suc (members_told ts)
