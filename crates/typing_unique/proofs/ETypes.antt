-- Types: what they are made of, and which have no field or tag twice.
use Rattle.std.proofs.Common.{◌≡◌, inl, inr, ℕ, zero, suc, Bool, true, false, List, [], ◌∷◌, Option, Some, None, All, slice_get, refl, sym, ap, subst, ◌∙◌, rules, arith}
use Rattle.std.specs.Prelude.{Contains}
use Rattle.std.proofs.lemmas.Option.{same_Some, none-some}
use Rattle.std.proofs.lemmas.List.Elements.{All-head, All-tail, Contains-append_right}
use Rattle.flow_value.specs.declared.ty.Ty.{Ty}
use Rattle.flow_value.specs.declared.ty.Ty.TheVariants as ty
use Rattle.flow_value.specs.declared.ty.Ty.TheOpen.{Ty-F}
use Rattle.flow_value.specs.declared.ty.Ty.TheViews as types
use Rattle.flow_value.specs.declared.ty.Ty.TheViews.{out-Ty}
use Rattle.sisal_tree.specs.declared.expr.BinaryOperator.{BinaryOperator}
use Rattle.sisal_tree.specs.declared.expr.BinaryOperator.TheVariants as binary
use Rattle.sisal_tree.specs.declared.expr.PrefixOperator.{PrefixOperator}
use Rattle.sisal_tree.specs.declared.expr.PrefixOperator.TheVariants as prefix
use Rattle.sisal_tree.specs.declared.expr.Scalar.{Scalar}
use Rattle.sisal_tree.specs.declared.expr.Scalar.TheVariants as scalar
use Rattle.sisal_tree.specs.declared.expr.Constant.{Constant}
use Rattle.sisal_tree.specs.declared.expr.Constant.TheVariants as constant
use Rattle.sisal_tree.specs.declared.expr.ClauseKind.{ClauseKind}
use Rattle.sisal_tree.specs.declared.expr.ClauseKind.TheVariants as made
use Rattle.typed_tree.specs.declared.built_in.BuiltIn.{BuiltIn}
use Rattle.typed_tree.specs.declared.built_in.BuiltIn.TheVariants as call
use Rattle.typed_tree.specs.Scopes.{AreDistinct}
use Rattle.typed_tree.specs.Types as rule
use Rattle.typed_tree.specs.Types.{Member, IsMember, IsSequence, constant_type, scalar_type, prefix_type, binary_type, Gives, Makes, MakesThrough}
use Rattle.typed_tree.specs.Typing.{Known, Has}
use Rattle.typing_unique.specs.Fair.{AreOnce, IsProper, integer, boolean, character, null, array, stream, a_record, a_union, AreProper, no_member, a_member}

-- ---- opened

out_bool : out-Ty ty.Bool ≡ Ty-F.Bool
out_bool = search (rules, types.the_lemmas)

out_char : out-Ty ty.Char ≡ Ty-F.Char
out_char = search (rules, types.the_lemmas)

out_int : out-Ty ty.Int ≡ Ty-F.Int
out_int = search (rules, types.the_lemmas)

out_null : out-Ty ty.Null ≡ Ty-F.Null
out_null = search (rules, types.the_lemmas)

out_array : (t : Ty) → out-Ty (ty.Arr t) ≡ Ty-F.Arr t
out_array t = search (rules, types.the_lemmas)

out_stream : (t : Ty) → out-Ty (ty.Stream t) ≡ Ty-F.Stream t
out_stream t = search (rules, types.the_lemmas)

out_record : (ms : List Member) → out-Ty (ty.Rec ms) ≡ Ty-F.Rec ms
out_record ms = search (rules, types.the_lemmas)

out_union : (ms : List Member) → out-Ty (ty.Uni ms) ≡ Ty-F.Uni ms
out_union ms = search (rules, types.the_lemmas)

-- ---- parts

abbrev part : Ty-F Ty → Option Ty
part (Ty-F.Arr a) = Some a
part (Ty-F.Stream a) = Some a
part _ = None

abbrev is_array : Ty-F Ty → Bool
is_array (Ty-F.Arr a) = true
is_array _ = false

abbrev members_in : Ty-F Ty → Option (List Member)
members_in (Ty-F.Rec ms) = Some ms
members_in (Ty-F.Uni ms) = Some ms
members_in _ = None

pub same_array : (a b : Ty) → ty.Arr a ≡ ty.Arr b → a ≡ b
same_array a b e = same_Some a b (sym (ap part (out_array a)) ∙ ap (λ t. part (out-Ty t)) e ∙ ap part (out_array b))

pub same_stream : (a b : Ty) → ty.Stream a ≡ ty.Stream b → a ≡ b
same_stream a b e = same_Some a b (sym (ap part (out_stream a)) ∙ ap (λ t. part (out-Ty t)) e ∙ ap part (out_stream b))

pub same_record : (ms ns : List Member) → ty.Rec ms ≡ ty.Rec ns → ms ≡ ns
same_record ms ns e = same_Some ms ns (sym (ap members_in (out_record ms)) ∙ ap (λ t. members_in (out-Ty t)) e ∙ ap members_in (out_record ns))

pub same_union : (ms ns : List Member) → ty.Uni ms ≡ ty.Uni ns → ms ≡ ns
same_union ms ns e = same_Some ms ns (sym (ap members_in (out_union ms)) ∙ ap (λ t. members_in (out-Ty t)) e ∙ ap members_in (out_union ns))

pub no_stream : (a b : Ty) → ty.Arr a ≡ ty.Stream b → ⊥
no_stream a b e = let is : true ≡ false = sym (ap is_array (out_array a)) ∙ ap (λ t. is_array (out-Ty t)) e ∙ ap is_array (out_stream b) in cc

pub one_element : (t a b : Ty) → IsSequence t a → IsSequence t b → a ≡ b
one_element t a b (inl p) (inl q) = same_array a b (sym p ∙ q)
one_element t a b (inl p) (inr q) = absurd (no_stream a b (sym p ∙ q))
one_element t a b (inr p) (inl q) = absurd (no_stream b a (sym q ∙ p))
one_element t a b (inr p) (inr q) = same_stream a b (sym p ∙ q)

-- ---- lists

pub same_one : (a b : Ty) (tys : List Ty) → tys ≡ a ∷ [] → tys ≡ b ∷ [] → a ≡ b
same_one a b tys p q = let e : a ∷ [] ≡ b ∷ [] = sym p ∙ q in cc

pub same_first : (a b : Ty) (xs ys : List Ty) → a ∷ xs ≡ b ∷ ys → a ≡ b
same_first a b xs ys e = cc

-- ---- calls that are built in

abbrev result_of : BuiltIn → List Ty → Option Ty
result_of call.Mod tys = Some ty.Int
result_of call.Abs tys = Some ty.Int
result_of call.Max tys = Some ty.Int
result_of call.Min tys = Some ty.Int
result_of call.ArrayFill (a ∷ b ∷ e ∷ tys) = Some (ty.Arr e)
result_of call.ArrayLimitLow tys = Some ty.Int
result_of call.ArrayLimitHigh tys = Some ty.Int
result_of call.ArraySize tys = Some ty.Int
result_of call.StreamSize tys = Some ty.Int
result_of call.StreamEmpty tys = Some ty.Bool
result_of call.StreamFirst (a ∷ tys) = part (out-Ty a)
result_of call.ArrayAddHigh (a ∷ tys) = Some a
result_of call.ArrayAddLow (a ∷ tys) = Some a
result_of call.ArrayRemoveHigh (a ∷ tys) = Some a
result_of call.ArrayRemoveLow (a ∷ tys) = Some a
result_of call.ArraySetLow (a ∷ tys) = Some a
result_of call.ArrayAdjust (a ∷ tys) = Some a
result_of call.StreamAppend (a ∷ tys) = Some a
result_of call.StreamRest (a ∷ tys) = Some a
result_of _ _ = None

gives_is : (b : BuiltIn) (tys : List Ty) (a : Ty) → Gives b tys a → result_of b tys ≡ Some a
gives_is _ _ _ rule.a_mod = refl
gives_is _ _ _ rule.an_abs = refl
gives_is _ _ _ rule.a_max = refl
gives_is _ _ _ rule.a_min = refl
gives_is _ _ _ (rule.array_fill e) = refl
gives_is _ _ _ (rule.array_addh e) = refl
gives_is _ _ _ (rule.array_addl e) = refl
gives_is _ _ _ (rule.array_remh e) = refl
gives_is _ _ _ (rule.array_reml e) = refl
gives_is _ _ _ (rule.array_setl e) = refl
gives_is _ _ _ (rule.array_adjust e) = refl
gives_is _ _ _ (rule.array_liml e) = refl
gives_is _ _ _ (rule.array_limh e) = refl
gives_is _ _ _ (rule.array_size e) = refl
gives_is _ _ _ (rule.stream_append e) = refl
gives_is _ _ _ (rule.stream_size e) = refl
gives_is _ _ _ (rule.stream_empty e) = refl
gives_is _ _ _ (rule.stream_first e) = ap part (out_stream e)
gives_is _ _ _ (rule.stream_rest e) = refl

pub one_result : (b : BuiltIn) (tys : List Ty) (x y : Ty) → Gives b tys x → Gives b tys y → x ≡ y
one_result b tys x y p q = same_Some x y (sym (gives_is b tys x p) ∙ gives_is b tys y q)

-- ---- clauses

abbrev pub made_of : ClauseKind → Ty → Ty
made_of made.Array a = ty.Arr a
made_of made.Stream a = ty.Stream a
made_of _ a = a

pub makes_is : (kind : ClauseKind) (a b : Ty) → Makes kind a b → b ≡ made_of kind a
makes_is _ _ _ (rule.array_of e) = refl
makes_is _ _ _ (rule.stream_of e) = refl
makes_is _ _ _ rule.value_of = refl
makes_is _ _ _ rule.sum = refl
makes_is _ _ _ rule.product = refl
makes_is _ _ _ rule.least = refl
makes_is _ _ _ rule.greatest = refl
makes_is _ _ _ (rule.catenate_arrays e) = refl
makes_is _ _ _ (rule.catenate_streams e) = refl

pub one_made : (kind : ClauseKind) (a b c : Ty) → Makes kind a b → Makes kind a c → b ≡ c
one_made kind a b c p q = makes_is kind a b p ∙ sym (makes_is kind a c q)

pub one_made_through : (kind : ClauseKind) (n : ℕ) (a b c : Ty) → MakesThrough kind n a b → MakesThrough kind n a c → b ≡ c
one_made_through kind _ _ _ _ rule.no_group rule.no_group = refl
one_made_through kind _ a b c (rule.through {groups = n} {inner = i} p q) (rule.through {inner = j} r s) =
    one_made_through kind n i b c q (subst (λ t. MakesThrough kind n t c) (one_made kind a j i r p) s)

-- ---- types without a field or tag twice

abbrev Parts : Ty-F Ty → Type 0
Parts (Ty-F.Arr a) = IsProper a
Parts (Ty-F.Stream a) = IsProper a
Parts (Ty-F.Rec ms) = AreOnce ms × AreProper ms
Parts (Ty-F.Uni ms) = (ms ≡ [] → ⊥) × AreOnce ms × AreProper ms
Parts _ = Unit {0}

parts_of : (t : Ty) → IsProper t → Parts (out-Ty t)
parts_of _ integer = subst Parts (sym out_int) tt
parts_of _ boolean = subst Parts (sym out_bool) tt
parts_of _ character = subst Parts (sym out_char) tt
parts_of _ null = subst Parts (sym out_null) tt
parts_of _ (array a p) = subst Parts (sym (out_array a)) p
parts_of _ (stream a p) = subst Parts (sym (out_stream a)) p
parts_of _ (a_record ms o p) = subst Parts (sym (out_record ms)) (o, p)
parts_of _ (a_union ms n o p) = subst Parts (sym (out_union ms)) (n, o, p)

pub element_proper : (a : Ty) → IsProper (ty.Arr a) → IsProper a
element_proper a p = subst Parts (out_array a) (parts_of (ty.Arr a) p)

pub stream_proper : (a : Ty) → IsProper (ty.Stream a) → IsProper a
stream_proper a p = subst Parts (out_stream a) (parts_of (ty.Stream a) p)

pub record_proper : (ms : List Member) → IsProper (ty.Rec ms) → AreOnce ms × AreProper ms
record_proper ms p = subst Parts (out_record ms) (parts_of (ty.Rec ms) p)

pub union_proper : (ms : List Member) → IsProper (ty.Uni ms) → (ms ≡ [] → ⊥) × AreOnce ms × AreProper ms
union_proper ms p = subst Parts (out_union ms) (parts_of (ty.Uni ms) p)

pub sequence_proper : (t a : Ty) → IsSequence t a → IsProper t → IsProper a
sequence_proper t a (inl e) p = element_proper a (subst IsProper e p)
sequence_proper t a (inr e) p = stream_proper a (subst IsProper e p)

member_proper : (ms : List Member) (name : List ℕ) (place : ℕ) (a : Ty) → AreProper ms → IsMember ms name place a → IsProper a
member_proper _ name place a no_member e = absurd (none-some (name, a) e)
member_proper _ name zero a (a_member {name = n} {a = b} {ms = ms} p q) e = subst IsProper (ap (λ m. m.1) (same_Some (n, b) (name, a) e)) p
member_proper _ name (suc i) a (a_member {name = n} {a = b} {ms = ms} p q) e = member_proper ms name i a q e

pub content_proper : (k : Known) (ms : List Member) (x place : ℕ) (a : Ty) → AreProper ms → Has k ms x place a → IsProper a
content_proper k ms x place a p h = member_proper ms h.spelling place a p h.member

-- a field or tag of a name has one place and one type
pub one_place : (k : Known) (ms : List Member) (x i j : ℕ) (a b : Ty) → AreOnce ms → Has k ms x i a → Has k ms x j b → (i ≡ j) × (a ≡ b)
one_place k ms x i j a b once p q =
    let e : q.spelling ≡ p.spelling = same_Some q.spelling p.spelling (sym q.spelled ∙ p.spelled) in
    let m : IsMember ms p.spelling j b = subst (λ n. IsMember ms n j b) e q.member in
    let same : i ≡ j = once.place i j p.spelling a b p.member m in
    let n : slice_get ms i ≡ Some (p.spelling, b) = subst (λ h. slice_get ms h ≡ Some (p.spelling, b)) (sym same) m in
    (same, ap (λ m. m.1) (same_Some (p.spelling, a) (p.spelling, b) (sym p.member ∙ n)))

pub constant_proper : (c : Constant) → IsProper (constant_type c)
constant_proper (constant.Integer n) = integer
constant_proper (constant.Letter c) = character
constant_proper (constant.Quoted s) = array ty.Char character
constant_proper constant.True = boolean
constant_proper constant.False = boolean
constant_proper constant.Nil = null

pub scalar_proper : (c : Scalar) → IsProper (scalar_type c)
scalar_proper scalar.Integer = integer
scalar_proper scalar.Boolean = boolean
scalar_proper scalar.Character = character

pub prefix_proper : (o : PrefixOperator) → IsProper (prefix_type o)
prefix_proper prefix.Negate = integer
prefix_proper prefix.Not = boolean

pub binary_proper : (o : BinaryOperator) (a : Ty) → IsProper a → IsProper (binary_type o a)
binary_proper binary.Catenate a p = p
binary_proper binary.Plus a p = integer
binary_proper binary.Minus a p = integer
binary_proper binary.Times a p = integer
binary_proper binary.Divide a p = integer
binary_proper binary.Or a p = boolean
binary_proper binary.And a p = boolean
binary_proper binary.Equal a p = boolean
binary_proper binary.NotEqual a p = boolean
binary_proper binary.Less a p = boolean
binary_proper binary.LessEqual a p = boolean
binary_proper binary.Greater a p = boolean
binary_proper binary.GreaterEqual a p = boolean

pub gives_proper : (b : BuiltIn) (tys : List Ty) (a : Ty) → Gives b tys a → All IsProper tys → IsProper a
gives_proper _ _ _ rule.a_mod p = integer
gives_proper _ _ _ rule.an_abs p = integer
gives_proper _ _ _ rule.a_max p = integer
gives_proper _ _ _ rule.a_min p = integer
gives_proper _ _ _ (rule.array_fill e) p = array e (All-head IsProper e [] (All-tail IsProper ty.Int (e ∷ []) (All-tail IsProper ty.Int (ty.Int ∷ e ∷ []) p)))
gives_proper _ _ _ (rule.array_addh e) p = All-head IsProper (ty.Arr e) (e ∷ []) p
gives_proper _ _ _ (rule.array_addl e) p = All-head IsProper (ty.Arr e) (e ∷ []) p
gives_proper _ _ _ (rule.array_remh e) p = All-head IsProper (ty.Arr e) [] p
gives_proper _ _ _ (rule.array_reml e) p = All-head IsProper (ty.Arr e) [] p
gives_proper _ _ _ (rule.array_setl e) p = All-head IsProper (ty.Arr e) (ty.Int ∷ []) p
gives_proper _ _ _ (rule.array_adjust e) p = All-head IsProper (ty.Arr e) (ty.Int ∷ ty.Int ∷ []) p
gives_proper _ _ _ (rule.array_liml e) p = integer
gives_proper _ _ _ (rule.array_limh e) p = integer
gives_proper _ _ _ (rule.array_size e) p = integer
gives_proper _ _ _ (rule.stream_append e) p = All-head IsProper (ty.Stream e) (e ∷ []) p
gives_proper _ _ _ (rule.stream_size e) p = integer
gives_proper _ _ _ (rule.stream_empty e) p = boolean
gives_proper _ _ _ (rule.stream_first e) p = stream_proper e (All-head IsProper (ty.Stream e) [] p)
gives_proper _ _ _ (rule.stream_rest e) p = All-head IsProper (ty.Stream e) [] p

pub makes_proper : (kind : ClauseKind) (a b : Ty) → Makes kind a b → IsProper a → IsProper b
makes_proper _ _ _ (rule.array_of e) p = array e p
makes_proper _ _ _ (rule.stream_of e) p = stream e p
makes_proper _ _ _ rule.value_of p = p
makes_proper _ _ _ rule.sum p = p
makes_proper _ _ _ rule.product p = p
makes_proper _ _ _ rule.least p = p
makes_proper _ _ _ rule.greatest p = p
makes_proper _ _ _ (rule.catenate_arrays e) p = p
makes_proper _ _ _ (rule.catenate_streams e) p = p

-- ---- distinct names

pub contains_at : (xs : List ℕ) (i x : ℕ) → slice_get xs i ≡ Some x → Contains xs x
contains_at [] i x e = absurd (none-some x e)
contains_at (y ∷ xs) zero x e = (0, omega arith, same_Some y x e)
contains_at (y ∷ xs) (suc i) x e = Contains-append_right (y ∷ []) xs x (contains_at xs i x e)

pub distinct_places : (xs : List ℕ) (i j x : ℕ) → AreDistinct xs → slice_get xs i ≡ Some x → slice_get xs j ≡ Some x → i ≡ j
distinct_places [] i j x d p q = absurd (none-some x p)
distinct_places (y ∷ xs) zero zero x d p q = refl
distinct_places (y ∷ xs) zero (suc j) x d p q = absurd (d.0 (subst (λ z. Contains xs z) (sym (same_Some y x p)) (contains_at xs j x q)))
distinct_places (y ∷ xs) (suc i) zero x d p q = absurd (d.0 (subst (λ z. Contains xs z) (sym (same_Some y x q)) (contains_at xs i x p)))
distinct_places (y ∷ xs) (suc i) (suc j) x d p q = ap suc (distinct_places xs i j x d.1 p q)
