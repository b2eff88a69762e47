-- What a function of a text gives nests no deeper than its type, its tags are small, and what is printed of it reads as that value.
use Rattle.std.proofs.Common.{◌≡◌, ℕ, zero, suc, ◌^◌, ◌<◌, ◌≤◌, Bool, true, false, ◌&&◌, List, [], ◌∷◌, map, length, Some, refl, sym, ap, subst, ◌∙◌, arith, rules, slice_get, nat_lt}
use Rattle.std.specs.List.{list_all}
use Rattle.std.proofs.lemmas.Bool.Decides.{nat_tests}
use Rattle.flow_value.specs.Bounds.{is_few, is_within}
use Rattle.flow_value.specs.Scalar.{fits_64}
use Rattle.flow_value.specs.Well.{Test, FieldTest, each_field, by_tag, test_part, well_step, is_well}
use Rattle.flow_value.specs.declared.value.Val.{Val, map-Val}
use Rattle.flow_value.specs.declared.value.Val.TheOpen.{Val-F}
use Rattle.flow_value.specs.declared.value.Val.TheViews as values
use Rattle.flow_value.specs.declared.value.Val.TheFolds.{fold-roll-Val}
use Rattle.flow_value.specs.declared.ty.Ty.{Ty, map-Ty}
use Rattle.flow_value.specs.declared.ty.Ty.TheOpen.{Ty-F}
use Rattle.flow_value.specs.declared.ty.Ty.TheViews as types
use Rattle.flow_value.specs.declared.ty.Ty.TheFolds.{fold-roll-Ty}
use Rattle.flow_value.specs.declared.ty.Ty.TheVariants as ty
use Rattle.value_text.specs.Nesting.{greatest, nesting, nesting_step, has_small_tags, tags_step, is_so}
use Rattle.type_table.specs.declared.form.Form.{Form}
use Rattle.type_table.specs.declared.form.Form.TheVariants as form
use Rattle.type_table.specs.declared.form.Member.{Member as NumberedMember}
use Rattle.typed_tree.specs.Types.{Member, deepest, depth_of, IsNumber, boolean, character, integer, null, array, stream, a_record, a_union, AreMembers, no_member, a_member}
use Rattle.typed_tree.proofs.Depths.{depth_array, depth_stream, depth_record, depth_union, depth_basic}

pub and_both : (a b : Bool) → (a && b) ≡ true → (a ≡ true) × (b ≡ true)
and_both true b e = (refl, e)
and_both false b e = cc

-- ---- one level of a value and of a type

rolled : (v : Val) (y : Val-F Val) → values.out-Val v ≡ y → v ≡ values.roll-Val y
rolled v y e = search (rules, values.the_lemmas)

rolled_ty : (t : Ty) (x : Ty-F Ty) → types.out-Ty t ≡ x → t ≡ types.roll-Ty x
rolled_ty t x e = search (rules, types.the_lemmas)

nesting_is : (v : Val) (y : Val-F Val) → values.out-Val v ≡ y → nesting v ≡ nesting_step (map-Val Val ℕ nesting y)
nesting_is v y e = ap nesting (rolled v y e) ∙ fold-roll-Val ℕ nesting_step y

tags_is : (v : Val) (y : Val-F Val) → values.out-Val v ≡ y → has_small_tags v ≡ tags_step (map-Val Val Bool has_small_tags y)
tags_is v y e = ap has_small_tags (rolled v y e) ∙ fold-roll-Val Bool tags_step y

well_is : (t : Ty) (v : Val) (x : Ty-F Ty) (y : Val-F Val) → types.out-Ty t ≡ x → values.out-Val v ≡ y → is_well t v ≡ test_part (map-Ty Ty Test is_well x) y
well_is t v x y ox oy = ap (λ (u : Ty). is_well u v) (rolled_ty t x ox) ∙ ap (λ (test : Test). test v) (fold-roll-Ty Test well_step x) ∙ ap (λ (w : Val-F Val). test_part (map-Ty Ty Test is_well x) w) oy

out_int : types.out-Ty ty.Int ≡ Ty-F.Int
out_int = search (rules, types.the_lemmas)

out_bool : types.out-Ty ty.Bool ≡ Ty-F.Bool
out_bool = search (rules, types.the_lemmas)

out_char : types.out-Ty ty.Char ≡ Ty-F.Char
out_char = search (rules, types.the_lemmas)

out_null : types.out-Ty ty.Null ≡ Ty-F.Null
out_null = search (rules, types.the_lemmas)

out_arr : (u : Ty) → types.out-Ty (ty.Arr u) ≡ Ty-F.Arr u
out_arr u = search (rules, types.the_lemmas)

out_stream : (u : Ty) → types.out-Ty (ty.Stream u) ≡ Ty-F.Stream u
out_stream u = search (rules, types.the_lemmas)

out_rec : (fs : List Member) → types.out-Ty (ty.Rec fs) ≡ Ty-F.Rec fs
out_rec fs = search (rules, types.the_lemmas)

out_uni : (fs : List Member) → types.out-Ty (ty.Uni fs) ≡ Ty-F.Uni fs
out_uni fs = search (rules, types.the_lemmas)

-- ---- values of a type

-- it nests at most so deep, and its tags are small
pub record IsFlat (depth : ℕ) (v : Val) : Type 0 where
  pub deep : nesting v ≤ depth
  pub tags : has_small_tags v ≡ true

pub record AreFlat (depth : ℕ) (vs : List Val) : Type 0 where
  deep : greatest (map nesting vs) ≤ depth
  tags : list_all is_so (map has_small_tags vs) ≡ true

pub record IsStepFlat (depth : ℕ) (y : Val-F Val) : Type 0 where
  deep : nesting_step (map-Val Val ℕ nesting y) ≤ depth
  tags : tags_step (map-Val Val Bool has_small_tags y) ≡ true

abbrev pub Flat : Ty → Type 0
Flat t = (v : Val) → is_well t v ≡ true → IsFlat (depth_of t) v

flat_by : (t : Ty) (x : Ty-F Ty) → types.out-Ty t ≡ x → ((y : Val-F Val) → test_part (map-Ty Ty Test is_well x) y ≡ true → IsStepFlat (depth_of t) y) → Flat t
flat_by t x ox steps v h =
    let y = values.out-Val v in
    let s = steps y (sym (well_is t v x y ox refl) ∙ h) in
    record { deep = subst (λ k. k ≤ depth_of t) (sym (nesting_is v y refl)) s.deep; tags = tags_is v y refl ∙ s.tags }

each_flat : (t : Ty) → Flat t → (vs : List Val) → list_all (is_well t) vs ≡ true → AreFlat (depth_of t) vs
each_flat t one [] w = record { deep = omega arith; tags = refl }
each_flat t one (v ∷ vs) w =
    let ws = and_both (is_well t v) (list_all (is_well t) vs) w in
    let a = one v ws.0 in
    let b = each_flat t one vs ws.1 in
    record { deep = (let da = a.deep in let db = b.deep in omega (arith, da, db)); tags = ap (λ p. p && list_all is_so (map has_small_tags vs)) a.tags ∙ b.tags }

false_true : false ≡ true → ⊥
false_true e = cc

-- no aggregate
abbrev IsScalarStep : Val-F Val → Type 0
IsScalarStep (Val-F.Arr a) = ⊥
IsScalarStep (Val-F.Rec vs) = ⊥
IsScalarStep (Val-F.Uni n v) = ⊥
IsScalarStep (Val-F.Stream vs) = ⊥
IsScalarStep _ = Unit {0}

bool_scalar : (y : Val-F Val) → test_part Ty-F.Bool y ≡ true → IsScalarStep y
bool_scalar (Val-F.Err c) w = tt
bool_scalar (Val-F.Bool b) w = tt
bool_scalar _ w = absurd (false_true w)

char_scalar : (y : Val-F Val) → test_part Ty-F.Char y ≡ true → IsScalarStep y
char_scalar (Val-F.Err c) w = tt
char_scalar (Val-F.Char b) w = tt
char_scalar _ w = absurd (false_true w)

int_scalar : (y : Val-F Val) → test_part Ty-F.Int y ≡ true → IsScalarStep y
int_scalar (Val-F.Err c) w = tt
int_scalar (Val-F.Int b) w = tt
int_scalar _ w = absurd (false_true w)

null_scalar : (y : Val-F Val) → test_part Ty-F.Null y ≡ true → IsScalarStep y
null_scalar (Val-F.Err c) w = tt
null_scalar Val-F.Null w = tt
null_scalar _ w = absurd (false_true w)

scalar_flat : (d : ℕ) → 1 ≤ d → (y : Val-F Val) → IsScalarStep y → IsStepFlat d y
scalar_flat d le (Val-F.Err c) k = record { deep = le; tags = refl }
scalar_flat d le (Val-F.Int z) k = record { deep = le; tags = refl }
scalar_flat d le (Val-F.Bool b) k = record { deep = le; tags = refl }
scalar_flat d le (Val-F.Char c) k = record { deep = le; tags = refl }
scalar_flat d le Val-F.Null k = record { deep = le; tags = refl }
scalar_flat d le (Val-F.Arr a) k = absurd k
scalar_flat d le (Val-F.Rec vs) k = absurd k
scalar_flat d le (Val-F.Uni n v) k = absurd k
scalar_flat d le (Val-F.Stream vs) k = absurd k

array_flat : (t : Ty) → Flat t → (y : Val-F Val) → test_part (Ty-F.Arr (is_well t)) y ≡ true → IsStepFlat (suc (depth_of t)) y
array_flat t one (Val-F.Err c) w = record { deep = omega arith; tags = refl }
array_flat t one (Val-F.Arr a) w =
    let ws = and_both (fits_64 a.lo && is_within a.lo (length a.items)) (list_all (is_well t) a.items) w in
    let e = each_flat t one a.items ws.1 in
    record { deep = (let d = e.deep in omega (arith, d)); tags = e.tags }
array_flat t one (Val-F.Int z) w = cc
array_flat t one (Val-F.Bool b) w = cc
array_flat t one (Val-F.Char c) w = cc
array_flat t one Val-F.Null w = cc
array_flat t one (Val-F.Rec vs) w = cc
array_flat t one (Val-F.Uni n v) w = cc
array_flat t one (Val-F.Stream vs) w = cc

stream_flat : (t : Ty) → Flat t → (y : Val-F Val) → test_part (Ty-F.Stream (is_well t)) y ≡ true → IsStepFlat (suc (depth_of t)) y
stream_flat t one (Val-F.Err c) w = record { deep = omega arith; tags = refl }
stream_flat t one (Val-F.Stream vs) w =
    let ws = and_both (is_few (length vs)) (list_all (is_well t) vs) w in
    let e = each_flat t one vs ws.1 in
    record { deep = (let d = e.deep in omega (arith, d)); tags = e.tags }
stream_flat t one (Val-F.Int z) w = cc
stream_flat t one (Val-F.Bool b) w = cc
stream_flat t one (Val-F.Char c) w = cc
stream_flat t one Val-F.Null w = cc
stream_flat t one (Val-F.Arr a) w = cc
stream_flat t one (Val-F.Rec vs) w = cc
stream_flat t one (Val-F.Uni n v) w = cc

abbrev tests : List Member → List FieldTest
tests fs = map (λ f. (f.0, is_well f.1)) fs

abbrev deepest_of : List Member → ℕ
deepest_of fs = deepest (map (λ m. (m.0, depth_of m.1)) fs)

-- each of these members has values that are flat
abbrev pub AreFlatMembers : List Member → Type 0
AreFlatMembers [] = Unit {0}
AreFlatMembers (f ∷ fs) = Flat f.1 × AreFlatMembers fs

fields_flat : (fs : List Member) → AreFlatMembers fs → (vs : List Val) → each_field (tests fs) vs ≡ true → AreFlat (deepest_of fs) vs
fields_flat [] m [] w = record { deep = omega arith; tags = refl }
fields_flat [] m (v ∷ vs) w = cc
fields_flat (f ∷ fs) m [] w = cc
fields_flat (f ∷ fs) m (v ∷ vs) w =
    let ws = and_both (is_well f.1 v) (each_field (tests fs) vs) w in
    let a = m.0 v ws.0 in
    let b = fields_flat fs m.1 vs ws.1 in
    record { deep = (let da = a.deep in let db = b.deep in omega (arith, da, db)); tags = ap (λ p. p && list_all is_so (map has_small_tags vs)) a.tags ∙ b.tags }

record IsTagFlat (depth many tag : ℕ) (v : Val) : Type 0 where
  few : tag < many
  flat : IsFlat depth v

tag_flat : (fs : List Member) → AreFlatMembers fs → (k : ℕ) (v : Val) → by_tag (slice_get (tests fs) k) v ≡ true → IsTagFlat (deepest_of fs) (length fs) k v
tag_flat [] m k v w = cc
tag_flat (f ∷ fs) m zero v w = let a = m.0 v w in record { few = omega arith; flat = record { deep = (let d = a.deep in omega (arith, d)); tags = a.tags } }
tag_flat (f ∷ fs) m (suc k) v w =
    let a = tag_flat fs m.1 k v w in
    record { few = (let l = a.few in omega (arith, l)); flat = record { deep = (let d = a.flat.deep in omega (arith, d)); tags = a.flat.tags } }

record_flat : (fs : List Member) → AreFlatMembers fs → (y : Val-F Val) → test_part (Ty-F.Rec (tests fs)) y ≡ true → IsStepFlat (suc (deepest_of fs)) y
record_flat fs m (Val-F.Err c) w = record { deep = omega arith; tags = refl }
record_flat fs m (Val-F.Rec vs) w =
    let ws = and_both (is_few (length vs)) (each_field (tests fs) vs) w in
    let e = fields_flat fs m vs ws.1 in
    record { deep = (let d = e.deep in omega (arith, d)); tags = e.tags }
record_flat fs m (Val-F.Int z) w = cc
record_flat fs m (Val-F.Bool b) w = cc
record_flat fs m (Val-F.Char c) w = cc
record_flat fs m Val-F.Null w = cc
record_flat fs m (Val-F.Arr a) w = cc
record_flat fs m (Val-F.Uni n v) w = cc
record_flat fs m (Val-F.Stream vs) w = cc

union_flat : (fs : List Member) → length fs ≤ 4194304 → AreFlatMembers fs → (y : Val-F Val) → test_part (Ty-F.Uni (tests fs)) y ≡ true → IsStepFlat (suc (deepest_of fs)) y
union_flat fs few m (Val-F.Err c) w = record { deep = omega arith; tags = refl }
union_flat fs few m (Val-F.Uni n v) w =
    let a = tag_flat fs m n v w in
    record { deep = (let d = a.flat.deep in omega (arith, d)); tags = ap (λ p. p && has_small_tags v) (small n (let l = a.few in omega (arith, l, few))) ∙ a.flat.tags }
  where
    small : (n : ℕ) → n < 4194304 → nat_lt n (2 ^ 32) ≡ true
    small n le = grind (arith, nat_tests)
union_flat fs few m (Val-F.Int z) w = cc
union_flat fs few m (Val-F.Bool b) w = cc
union_flat fs few m (Val-F.Char c) w = cc
union_flat fs few m Val-F.Null w = cc
union_flat fs few m (Val-F.Arr a) w = cc
union_flat fs few m (Val-F.Rec vs) w = cc
union_flat fs few m (Val-F.Stream vs) w = cc

at_depth : (d e : ℕ) (y : Val-F Val) → d ≡ e → IsStepFlat e y → IsStepFlat d y
at_depth d e y same s = record { deep = (let h = s.deep in omega (arith, same, h)); tags = s.tags }

-- types by number whose unions have few tags
module _ (forms : List Form) (names : List (List ℕ)) (few : (n : ℕ) (ms : List NumberedMember) → slice_get forms n ≡ Some (form.Union ms) → length ms ≤ 4194304) where
  as_many : {ms : List NumberedMember} {fs : List Member} → AreMembers forms names ms fs → length fs ≡ length ms
  as_many no_member = refl
  as_many (a_member s p q) = ap suc (as_many q)

  mutual
    pub number_flat : {n : ℕ} {t : Ty} → IsNumber forms names n t → Flat t
    number_flat (boolean e) = flat_by ty.Bool Ty-F.Bool out_bool (λ y w. scalar_flat _ (let d = depth_basic.1 in omega (arith, d)) y (bool_scalar y w))
    number_flat (character e) = flat_by ty.Char Ty-F.Char out_char (λ y w. scalar_flat _ (let d = depth_basic.2 in omega (arith, d)) y (char_scalar y w))
    number_flat (integer e) = flat_by ty.Int Ty-F.Int out_int (λ y w. scalar_flat _ (let d = depth_basic.0 in omega (arith, d)) y (int_scalar y w))
    number_flat (null e) = flat_by ty.Null Ty-F.Null out_null (λ y w. scalar_flat _ (let d = depth_basic.3 in omega (arith, d)) y (null_scalar y w))
    number_flat (array {t = t} e p) = flat_by (ty.Arr t) (Ty-F.Arr t) (out_arr t) (λ y w. at_depth _ _ y (depth_array t) (array_flat t (number_flat p) y w))
    number_flat (stream {t = t} e p) = flat_by (ty.Stream t) (Ty-F.Stream t) (out_stream t) (λ y w. at_depth _ _ y (depth_stream t) (stream_flat t (number_flat p) y w))
    number_flat (a_record {fs = fs} e p) = flat_by (ty.Rec fs) (Ty-F.Rec fs) (out_rec fs) (λ y w. at_depth _ _ y (depth_record fs) (record_flat fs (members_flat p) y w))
    number_flat (a_union {n = n} {ms = ms} {fs = fs} e p) =
        flat_by (ty.Uni fs) (Ty-F.Uni fs) (out_uni fs) (λ y w. at_depth _ _ y (depth_union fs) (union_flat fs (let l = few n ms e in let s = as_many p in omega (arith, l, s)) (members_flat p) y w))

    members_flat : {ms : List NumberedMember} {fs : List Member} → AreMembers forms names ms fs → AreFlatMembers fs
    members_flat no_member = tt
    members_flat (a_member s p q) = (number_flat p, members_flat q)
