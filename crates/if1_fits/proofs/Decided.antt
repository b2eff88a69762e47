-- Each want is decided by numbers.
use Rattle.std.proofs.Common.{◌≡◌, ◌≢◌, ℕ, zero, suc, Bool, true, false, ◌&&◌, ◌||◌, ◌==◌, List, [], ◌∷◌, map, slice_get, Option, Some, None, option_map, is_some, ◌⊎◌, inl, inr, Decides, refl, sym, ap, ◌∙◌, subst, eqb-true}
use Rattle.std.proofs.lemmas.Option.{same_Some}
use Rattle.std.proofs.lemmas.Bool.{eq-eqb}
use Rattle.flow_value.specs.declared.ty.Ty.{Ty}
use Rattle.flow_value.specs.declared.ty.Ty.TheVariants as ty
use Rattle.if1_graph.specs.declared.op.Reducer.{Reducer}
use Rattle.if1_graph.specs.declared.op.Reducer.TheVariants as reducer
use Rattle.if1_graph.specs.Tables.{◌>>=◌, at_port}
use Rattle.if1_graph.specs.Types.{Member, Sort, Plain, Many}
use Rattle.if1_graph.specs.Types as types
use Rattle.if1_graph.specs.Typing.{IsSequence, HasElements, IsCarried, IfCarried, IsListed, IsReducible}
use Rattle.if1_graph.specs.Ports as ports
use Rattle.if1_types.specs.declared.forms.SortForm.{SortForm}
use Rattle.if1_types.specs.declared.forms.SortForm.TheVariants as sort
use Rattle.if1_types.specs.declared.forms.ListForm.{ListForm}
use Rattle.if1_types.specs.declared.forms.ListForm.TheVariants as list
use Rattle.if1_types.specs.Shapes.{Key}
use Rattle.if1_types.specs.Forms.{IsList, IsSort, IsSortForm, IsListForm, AreOnce, AreOne, AreRead, sort_form_at, list_form_at}
use Rattle.if1_types.proofs.Views.{are_one}
use Rattle.if1_types.specs.Skips.{first_in, rest_in}
use Rattle.if1_fits.specs.Views.{arguments_in, results_in, value_of, many_of, array_of, sequence_of, kind_or, listed, listed_at, are_same}
use Rattle.if1_fits.specs.Tests.{IsNumbered, elements_in, is_reducible, is_sequence_of}
use Rattle.if1_fits.proofs.Viewed.{IsOnly, View, view_as, is_there, same_views, kind_is, sequence_view, plain_only, many_only, value_view, many_view, sequence_only, sequence_of_view, array_of_view, array_only, either_way, type_kind, kind_at, of_bool, of_char, of_int, of_null, of_arr, of_stream, of_rec, kind_bool, kind_char, kind_int, kind_null, kind_arr, kind_stream, kind_rec}

plain_one : (t u : Ty) → Plain t ≡ Plain u → t ≡ u
plain_one t u e = cc

many_one : (t u : Ty) → Many t ≡ Many u → t ≡ u
many_one t u e = cc

plain_many : {A : Type 0} (t u : Ty) → Plain t ≡ Many u → A
plain_many t u e = cc

many_plain : {A : Type 0} (t u : Ty) → Many t ≡ Plain u → A
many_plain t u e = cc

pub or_decides : {P Q : Type 0} (a b : Bool) → Decides a P → Decides b Q → Decides (a || b) (P ⊎ Q)
or_decides true b p q = (λ e. inl (p.0 refl), λ r. refl)
or_decides false b p q = (λ e. inr (q.0 e), λ r. elim r [ inl x ↦ absurd (false_true (p.1 x)) | inr y ↦ q.1 y ])
  where
    false_true : false ≡ true → ⊥
    false_true e = cc

pub and_decides : {P Q : Type 0} (a b : Bool) → Decides a P → Decides b Q → Decides (a && b) (P × Q)
and_decides true b p q = (λ e. (p.0 refl, q.0 e), λ r. q.1 r.1)
and_decides false b p q = (λ e. absurd (false_true e), λ r. absurd (false_true (p.1 r.0)))
  where
    false_true : false ≡ true → ⊥
    false_true e = cc

module _ (ks : List Key) (once : AreOnce ks) (read : AreRead ks) where
  pub one : AreOne ks
  one = are_one ks

  -- ---- by the kind of a value

  module _ (n : ℕ) (s : Sort) (h : IsSort ks n s) where
    kind : (k : ℕ) → (8 == k) ≡ false → Decides (kind_at ks (value_of ks n) == k) ((t : Ty) × (s ≡ Plain t) × (type_kind t ≡ k))
    kind k eight = kind_is ks read (value_of ks n) (λ t. s ≡ Plain t) k (plain_only ks read s) (value_view ks read n s h) eight

    many_kind : (k : ℕ) → (8 == k) ≡ false → Decides (kind_at ks (many_of ks n) == k) ((t : Ty) × (s ≡ Many t) × (type_kind t ≡ k))
    many_kind k eight = kind_is ks read (many_of ks n) (λ t. s ≡ Many t) k (many_only ks read s) (many_view ks read n s h) eight

    plain_of : (u : Ty) (k : ℕ) → (8 == k) ≡ false → ((t : Ty) → type_kind t ≡ k → t ≡ u) → type_kind u ≡ k → Decides (kind_at ks (value_of ks n) == k) (s ≡ Plain u)
    plain_of u k eight of is = either_way (kind_at ks (value_of ks n) == k) (kind k eight) (λ r. r.1 ∙ ap (λ t. Plain t) (of r.0 r.2)) (λ e. (u, e, is))

    many_is : (u : Ty) (k : ℕ) → (8 == k) ≡ false → ((t : Ty) → type_kind t ≡ k → t ≡ u) → type_kind u ≡ k → Decides (kind_at ks (many_of ks n) == k) (s ≡ Many u)
    many_is u k eight of is = either_way (kind_at ks (many_of ks n) == k) (many_kind k eight) (λ r. r.1 ∙ ap (λ t. Many t) (of r.0 r.2)) (λ e. (u, e, is))

    pub integer : Decides (kind_at ks (value_of ks n) == 2) (s ≡ Plain ty.Int)
    integer = plain_of ty.Int 2 refl of_int (kind_int ty.Int refl)

    pub boolean : Decides (kind_at ks (value_of ks n) == 0) (s ≡ Plain ty.Bool)
    boolean = plain_of ty.Bool 0 refl of_bool (kind_bool ty.Bool refl)

    pub character : Decides (kind_at ks (value_of ks n) == 1) (s ≡ Plain ty.Char)
    character = plain_of ty.Char 1 refl of_char (kind_char ty.Char refl)

    pub null : Decides (kind_at ks (value_of ks n) == 3) (s ≡ Plain ty.Null)
    null = plain_of ty.Null 3 refl of_null (kind_null ty.Null refl)

    pub integers : Decides (kind_at ks (many_of ks n) == 2) (s ≡ Many ty.Int)
    integers = many_is ty.Int 2 refl of_int (kind_int ty.Int refl)

    pub booleans : Decides (kind_at ks (many_of ks n) == 0) (s ≡ Many ty.Bool)
    booleans = many_is ty.Bool 0 refl of_bool (kind_bool ty.Bool refl)

    pub any : Decides (is_some (value_of ks n)) ((t : Ty) × (s ≡ Plain t))
    any = is_there ks (value_of ks n) (λ t. s ≡ Plain t) (value_view ks read n s h)

    pub multiple : Decides (is_some (many_of ks n)) ((t : Ty) × (s ≡ Many t))
    multiple = is_there ks (many_of ks n) (λ t. s ≡ Many t) (many_view ks read n s h)

    pub array : Decides (kind_at ks (value_of ks n) == 4) ((t : Ty) × (s ≡ Plain (ty.Arr t)))
    array =
        either_way (kind_at ks (value_of ks n) == 4) (kind 4 refl)
        (λ r. let a = of_arr r.0 r.2 in (a.0, r.1 ∙ ap (λ t. Plain t) a.1)) (λ r. (ty.Arr r.0, r.1, kind_arr (ty.Arr r.0) r.0 refl))

    pub stream : Decides (kind_at ks (value_of ks n) == 5) ((t : Ty) × (s ≡ Plain (ty.Stream t)))
    stream =
        either_way (kind_at ks (value_of ks n) == 5) (kind 5 refl)
        (λ r. let a = of_stream r.0 r.2 in (a.0, r.1 ∙ ap (λ t. Plain t) a.1)) (λ r. (ty.Stream r.0, r.1, kind_stream (ty.Stream r.0) r.0 refl))

    pub record_is : Decides (kind_at ks (value_of ks n) == 6) ((fs : List Member) × (s ≡ Plain (ty.Rec fs)))
    record_is =
        either_way (kind_at ks (value_of ks n) == 6) (kind 6 refl)
        (λ r. let a = of_rec r.0 r.2 in (a.0, r.1 ∙ ap (λ t. Plain t) a.1)) (λ r. (ty.Rec r.0, r.1, kind_rec (ty.Rec r.0) r.0 refl))

    pub sequence : Decides ((kind_at ks (value_of ks n) == 4) || (kind_at ks (value_of ks n) == 5)) ((t : Ty) × IsSequence t s)
    sequence =
        either_way ((kind_at ks (value_of ks n) == 4) || (kind_at ks (value_of ks n) == 5)) (or_decides (kind_at ks (value_of ks n) == 4) (kind_at ks (value_of ks n) == 5) array stream)
        (λ r. elim r [ inl x ↦ (x.0, inl x.1) | inr y ↦ (y.0, inr y.1) ]) back
      where
        back : (t : Ty) × IsSequence t s → ((t : Ty) × (s ≡ Plain (ty.Arr t))) ⊎ ((t : Ty) × (s ≡ Plain (ty.Stream t)))
        back (t, inl e) = inl (t, e)
        back (t, inr e) = inr (t, e)

    arrays : Decides (kind_at ks (many_of ks n) == 4) ((t : Ty) × (s ≡ Many (ty.Arr t)))
    arrays =
        either_way (kind_at ks (many_of ks n) == 4) (many_kind 4 refl)
        (λ r. let a = of_arr r.0 r.2 in (a.0, r.1 ∙ ap (λ t. Many t) a.1)) (λ r. (ty.Arr r.0, r.1, kind_arr (ty.Arr r.0) r.0 refl))

    streams : Decides (kind_at ks (many_of ks n) == 5) ((t : Ty) × (s ≡ Many (ty.Stream t)))
    streams =
        either_way (kind_at ks (many_of ks n) == 5) (many_kind 5 refl)
        (λ r. let a = of_stream r.0 r.2 in (a.0, r.1 ∙ ap (λ t. Many t) a.1)) (λ r. (ty.Stream r.0, r.1, kind_stream (ty.Stream r.0) r.0 refl))

    pub reducible : (named : Option Reducer) → Decides (is_reducible named (kind_or ks (many_of ks n))) (IsReducible named s)
    reducible (Some reducer.Catenate) =
        either_way ((kind_at ks (many_of ks n) == 4) || (kind_at ks (many_of ks n) == 5)) (or_decides (kind_at ks (many_of ks n) == 4) (kind_at ks (many_of ks n) == 5) arrays streams)
        (λ r. elim r [ inl x ↦ (x.0, inl x.1) | inr y ↦ (y.0, inr y.1) ]) back
      where
        back : (t : Ty) × ((s ≡ Many (ty.Arr t)) ⊎ (s ≡ Many (ty.Stream t))) → ((t : Ty) × (s ≡ Many (ty.Arr t))) ⊎ ((t : Ty) × (s ≡ Many (ty.Stream t)))
        back (t, inl e) = inl (t, e)
        back (t, inr e) = inr (t, e)
    reducible (Some reducer.Sum) = integers
    reducible (Some reducer.Product) = integers
    reducible (Some reducer.Least) = integers
    reducible (Some reducer.Greatest) = integers
    reducible None = (λ e. absurd (false_true e), λ r. absurd r)
      where
        false_true : false ≡ true → ⊥
        false_true e = cc

    -- ---- the number of what is carried

    pub same_number : (o : Option Sort) (m : ℕ) → IsNumbered ks o m → Decides (m == n) (o ≡ Some s)
    same_number None m is = (λ e. absurd (nothing (sym is ∙ eqb-true m n e)), λ e. cc)
      where
        nothing : 0 ≡ n → ⊥
        nothing e = no_sort (subst (λ n. IsSort ks n s) (sym e) h)
          where
            no_sort : IsSort ks 0 s → ⊥
            no_sort z = by (sort_form_at ks 0) refl (read.sorts 0 s z)
              where
                by : (f : SortForm) → f ≡ sort.Nothing → IsSortForm ks s f → ⊥
                by f e h = subst (IsSortForm ks s) e h
    same_number (Some r) m is = (
      λ e. ap Some (one.sorts n r s (subst (λ m. IsSort ks m r) (eqb-true m n e) is) h),
      λ e. eq-eqb m n (once.sorts m n s (subst (IsSort ks m) (same_Some r s e) is) h),
    )

    -- ---- beside another port

    pub same : (o : Option Sort) (m : ℕ) → IsNumbered ks o m → Decides (is_some (value_of ks n) && (m == n)) (((t : Ty) × (s ≡ Plain t)) × (o ≡ Some s))
    same o m is = and_decides (is_some (value_of ks n)) (m == n) any (same_number o m is)

    pub function : (o : Option Sort) (m : ℕ) → IsNumbered ks o m
        → Decides (is_some (arguments_in (sort_form_at ks n)) && (m == n)) ((args rs : List Ty) × (s ≡ types.Function args rs) × (o ≡ Some s))
    function o m is =
        either_way (is_some (arguments_in (sort_form_at ks n)) && (m == n))
        (and_decides (is_some (arguments_in (sort_form_at ks n))) (m == n) (by (sort_form_at ks n) (read.sorts n s h)) (same_number o m is))
        (λ r. (r.0.0, r.0.1, r.0.2, r.1)) (λ r. ((r.0, r.1, r.2), r.3))
      where
        by : (f : SortForm) → IsSortForm ks s f → Decides (is_some (arguments_in f)) ((args rs : List Ty) × (s ≡ types.Function args rs))
        by sort.Nothing h = absurd h
        by (sort.Value k) h = let e = h.1 in (λ d. cc, λ r. let d = r.2 in cc)
        by (sort.Multiple k) h = let e = h.1 in (λ d. cc, λ r. let d = r.2 in cc)
        by (sort.Function a r) h = (λ d. (h.0, h.1, h.2), λ r. refl)

  no_sort : (s : Sort) → IsSort ks 0 s → ⊥
  no_sort s z = read.sorts 0 s z

  -- ---- what another port carries

  has_only : (r : Sort) → IsOnly (λ t. HasElements t r)
  has_only r t u (inl x) (inl y) = sequence_only ks read r t u x y
  has_only r t u (inl (inl x)) (inr y) = plain_many (ty.Arr t) u (sym x ∙ y)
  has_only r t u (inl (inr x)) (inr y) = plain_many (ty.Stream t) u (sym x ∙ y)
  has_only r t u (inr x) (inl (inl y)) = many_plain t (ty.Arr u) (sym x ∙ y)
  has_only r t u (inr x) (inl (inr y)) = many_plain t (ty.Stream u) (sym x ∙ y)
  has_only r t u (inr x) (inr y) = many_one t u (sym x ∙ y)

  elements_only : (o : Option Sort) → IsOnly (λ t. IsCarried o (HasElements t))
  elements_only None t u a b = absurd a
  elements_only (Some r) t u a b = has_only r t u a b

  elements_view : (o : Option Sort) (m : ℕ) → IsNumbered ks o m → View ks (elements_in ks (sort_form_at ks m)) (λ t. IsCarried o (HasElements t))
  elements_view None m is = subst (λ m. View ks (elements_in ks (sort_form_at ks m)) (λ t. ⊥)) (sym is) (λ t x. x)
  elements_view (Some r) m is = by (sort_form_at ks m) (read.sorts m r is)
    where
      by : (f : SortForm) → IsSortForm ks r f → View ks (elements_in ks f) (λ t. HasElements t r)
      by sort.Nothing h = absurd h
      by (sort.Value k) (t, e, i) = view_as ks (sequence_of ks k) (λ a. (t ≡ ty.Arr a) ⊎ (t ≡ ty.Stream a)) (λ a. HasElements a r) forth back (sequence_view ks read k t i)
        where
          forth : (a : Ty) → (t ≡ ty.Arr a) ⊎ (t ≡ ty.Stream a) → HasElements a r
          forth a (inl d) = inl (inl (e ∙ ap (λ t. Plain t) d))
          forth a (inr d) = inl (inr (e ∙ ap (λ t. Plain t) d))

          back : (a : Ty) → HasElements a r → (t ≡ ty.Arr a) ⊎ (t ≡ ty.Stream a)
          back a (inl (inl x)) = inl (plain_one t (ty.Arr a) (sym e ∙ x))
          back a (inl (inr x)) = inr (plain_one t (ty.Stream a) (sym e ∙ x))
          back a (inr x) = plain_many t a (sym e ∙ x)
      by (sort.Multiple k) (t, e, i) = (t, inr e, i)
      by (sort.Function a b) (args, rs, e, ia, ib) = none
        where
          none : (t : Ty) → HasElements t r → ⊥
          none t (inl (inl x)) = cc
          none t (inl (inr x)) = cc
          none t (inr x) = cc

  pub carried_only : (o : Option Sort) → IsOnly (λ t. o ≡ Some (Plain t))
  carried_only o t u a b = plain_one t u (same_Some (Plain t) (Plain u) (sym a ∙ b))

  many_carried_only : (o : Option Sort) → IsOnly (λ t. o ≡ Some (Many t))
  many_carried_only o t u a b = many_one t u (same_Some (Many t) (Many u) (sym a ∙ b))

  none_some : {A : Type 0} (s : Sort) → ◌≡◌ {A = Option Sort} None (Some s) → A
  none_some s e = cc

  pub carried_view : (o : Option Sort) (m : ℕ) → IsNumbered ks o m → View ks (value_of ks m) (λ t. o ≡ Some (Plain t))
  carried_view None m is = subst (λ m. View ks (value_of ks m) (λ t. None ≡ Some (Plain t))) (sym is) (λ t x. none_some (Plain t) x)
  carried_view (Some r) m is =
      view_as ks (value_of ks m) (λ t. r ≡ Plain t) (λ t. Some r ≡ Some (Plain t)) (λ t e. ap Some e) (λ t e. same_Some r (Plain t) e) (value_view ks read m r is)

  many_carried_view : (o : Option Sort) (m : ℕ) → IsNumbered ks o m → View ks (many_of ks m) (λ t. o ≡ Some (Many t))
  many_carried_view None m is = subst (λ m. View ks (many_of ks m) (λ t. None ≡ Some (Many t))) (sym is) (λ t x. none_some (Many t) x)
  many_carried_view (Some r) m is =
      view_as ks (many_of ks m) (λ t. r ≡ Many t) (λ t. Some r ≡ Some (Many t)) (λ t e. ap Some e) (λ t e. same_Some r (Many t) e) (many_view ks read m r is)

  sequence_carried_only : (o : Option Sort) → IsOnly (λ t. IsCarried o (IsSequence t))
  sequence_carried_only None t u a b = absurd a
  sequence_carried_only (Some r) t u a b = sequence_only ks read r t u a b

  sequence_carried_view : (o : Option Sort) (m : ℕ) → IsNumbered ks o m → View ks (value_of ks m >>= sequence_of ks) (λ t. IsCarried o (IsSequence t))
  sequence_carried_view None m is = subst (λ m. View ks (value_of ks m >>= sequence_of ks) (λ t. ⊥)) (sym is) (λ t x. x)
  sequence_carried_view (Some r) m is = sequence_of_view ks read m r is

  module _ (n : ℕ) (s : Sort) (h : IsSort ks n s) (o : Option Sort) (m : ℕ) (is : IsNumbered ks o m) where
    pub element : Decides (are_same (value_of ks n) (elements_in ks (sort_form_at ks m))) ((t : Ty) × (s ≡ Plain t) × IsCarried o (HasElements t))
    element =
        same_views ks once one (value_of ks n) (elements_in ks (sort_form_at ks m)) (λ t. s ≡ Plain t) (λ t. IsCarried o (HasElements t)) (plain_only ks read s) (elements_only o)
        (value_view ks read n s h) (elements_view o m is)

    pub array_of_carried : Decides (are_same (value_of ks n >>= array_of ks) (value_of ks m)) ((t : Ty) × (s ≡ Plain (ty.Arr t)) × (o ≡ Some (Plain t)))
    array_of_carried =
        same_views ks once one (value_of ks n >>= array_of ks) (value_of ks m) (λ t. s ≡ Plain (ty.Arr t)) (λ t. o ≡ Some (Plain t)) (array_only ks read s) (carried_only o)
        (array_of_view ks read n s h) (carried_view o m is)

    pub sequence_of_elements : Decides (are_same (value_of ks n >>= sequence_of ks) (many_of ks m)) ((t : Ty) × IsSequence t s × (o ≡ Some (Many t)))
    sequence_of_elements =
        same_views ks once one (value_of ks n >>= sequence_of ks) (many_of ks m) (λ t. IsSequence t s) (λ t. o ≡ Some (Many t)) (sequence_only ks read s) (many_carried_only o)
        (sequence_of_view ks read n s h) (many_carried_view o m is)

    pub elements : Decides (are_same (many_of ks n) (value_of ks m >>= sequence_of ks)) ((t : Ty) × (s ≡ Many t) × IsCarried o (IsSequence t))
    elements =
        same_views ks once one (many_of ks n) (value_of ks m >>= sequence_of ks) (λ t. s ≡ Many t) (λ t. IsCarried o (IsSequence t)) (many_only ks read s) (sequence_carried_only o)
        (many_view ks read n s h) (sequence_carried_view o m is)

  pub sequence_of_carried : (n : ℕ) (s : Sort) → IsSort ks n s → (o : Option Sort) (m : ℕ) → IsNumbered ks o m
      → Decides (is_sequence_of ks (value_of ks n >>= sequence_of ks) m) ((t : Ty) × IsSequence t s × IfCarried o (λ element. element ≡ Plain t))
  sequence_of_carried n s h None m is =
      subst (λ m. Decides (is_sequence_of ks (value_of ks n >>= sequence_of ks) m) ((t : Ty) × IsSequence t s × Unit {0})) (sym is)
      (and_true (value_of ks n >>= sequence_of ks) (is_there ks (value_of ks n >>= sequence_of ks) (λ t. IsSequence t s) (sequence_of_view ks read n s h)))
    where
      and_true : (x : Option ℕ) → Decides (is_some x) ((t : Ty) × IsSequence t s) → Decides (is_sequence_of ks x 0) ((t : Ty) × IsSequence t s × Unit {0})
      and_true None d = (λ e. let r = d.0 e in (r.0, r.1, tt), λ r. d.1 (r.0, r.1))
      and_true (Some x) d = (λ e. let r = d.0 refl in (r.0, r.1, tt), λ r. refl)
  sequence_of_carried n s h (Some r) m is =
      by (value_of ks n >>= sequence_of ks) m (λ e. no_sort r (subst (λ m. IsSort ks m r) e is))
      (same_views ks once one (value_of ks n >>= sequence_of ks) (value_of ks m) (λ t. IsSequence t s) (λ t. r ≡ Plain t) (sequence_only ks read s) (plain_only ks read r)
      (sequence_of_view ks read n s h) (value_view ks read m r is))
    where
      by : (x : Option ℕ) (m : ℕ) → m ≢ 0 → Decides (are_same x (value_of ks m)) ((t : Ty) × IsSequence t s × (r ≡ Plain t))
          → Decides (is_sequence_of ks x m) ((t : Ty) × IsSequence t s × (r ≡ Plain t))
      by None m some d = d
      by (Some x) m some d = test (m == 0) refl
        where
          test : (b : Bool) → (m == 0) ≡ b → Decides (b || are_same (Some x) (value_of ks m)) ((t : Ty) × IsSequence t s × (r ≡ Plain t))
          test true e = absurd (some (eqb-true m 0 e))
          test false e = d

  -- ---- lists

  listed_view : (i l : ℕ) (ts : List Ty) → IsList ks l ts → View ks (listed ks l i) (λ t. slice_get ts i ≡ Some t)
  listed_view zero l ts h = by (list_form_at ks l) (read.lists l ts h)
    where
      by : (f : ListForm) → IsListForm ks ts f → View ks (first_in f) (λ t. slice_get ts 0 ≡ Some t)
      by list.End e = λ t x. let y = sym (ap (λ ts. slice_get ts 0) e) ∙ x in cc
      by (list.Member k rest) (t, others, e, i, r) = (t, ap (λ ts. slice_get ts 0) e, i)
  listed_view (suc i) l ts h = by (list_form_at ks l) (read.lists l ts h) (listed_view i)
    where
      by : (f : ListForm) → IsListForm ks ts f → ((l : ℕ) (ts : List Ty) → IsList ks l ts → View ks (listed ks l i) (λ t. slice_get ts i ≡ Some t))
          → View ks (rest_in f >>= λ rest. listed ks rest i) (λ t. slice_get ts (suc i) ≡ Some t)
      by list.End e more = λ t x. let y = sym (ap (λ ts. slice_get ts (suc i)) e) ∙ x in cc
      by (list.Member k rest) (t, others, e, it, r) more =
          let same = ap (λ ts. slice_get ts (suc i)) e in
          view_as ks (listed ks rest i) (λ t. slice_get others i ≡ Some t) (λ t. slice_get ts (suc i) ≡ Some t) (λ t x. same ∙ x) (λ t x. sym same ∙ x) (more rest others r)

  abbrev pub ListView : Option ℕ → Option (List Ty) → Type 0
  ListView None o = o ≡ None
  ListView (Some l) o = (ts : List Ty) × (o ≡ Some ts) × IsList ks l ts

  nothing_at : {A : Type 0} (o : Option (List Ty)) (t : Ty) → (o >>= at_port 0) ≡ Some t → A
  nothing_at None t e = cc
  nothing_at (Some ts) t e = cc

  listed_at_view : (x : Option ℕ) (o : Option (List Ty)) → ListView x o → (n : ℕ) → View ks (listed_at ks x n) (λ t. (o >>= at_port n) ≡ Some t)
  listed_at_view None o h zero = λ t e. nothing_at o t e
  listed_at_view None o h (suc i) = λ t x. let y = sym (ap (λ o. o >>= at_port (suc i)) h) ∙ x in cc
  listed_at_view (Some l) o (ts, e, il) zero = λ t e. nothing_at o t e
  listed_at_view (Some l) o (ts, e, il) (suc i) =
      let same = ap (λ o. o >>= at_port (suc i)) e in
      view_as ks (listed ks l i) (λ t. slice_get ts i ≡ Some t) (λ t. (o >>= at_port (suc i)) ≡ Some t) (λ t x. same ∙ x) (λ t x. sym same ∙ x) (listed_view i l ts il)

  arguments_view : (o : Option Sort) (c : ℕ) → IsNumbered ks o c → ListView (arguments_in (sort_form_at ks c)) (ports.arguments_of o)
  arguments_view None c is = subst (λ c. ListView (arguments_in (sort_form_at ks c)) None) (sym is) refl
  arguments_view (Some r) c is = by (sort_form_at ks c) (read.sorts c r is)
    where
      by : (f : SortForm) → IsSortForm ks r f → ListView (arguments_in f) (ports.arguments_of (Some r))
      by sort.Nothing h = absurd h
      by (sort.Value k) (t, e, i) = ap (λ r. ports.arguments_of (Some r)) e
      by (sort.Multiple k) (t, e, i) = ap (λ r. ports.arguments_of (Some r)) e
      by (sort.Function a b) (args, rs, e, ia, ib) = (args, ap (λ r. ports.arguments_of (Some r)) e, ia)

  results_view : (o : Option Sort) (c : ℕ) → IsNumbered ks o c → ListView (results_in (sort_form_at ks c)) (ports.results_of o)
  results_view None c is = subst (λ c. ListView (results_in (sort_form_at ks c)) None) (sym is) refl
  results_view (Some r) c is = by (sort_form_at ks c) (read.sorts c r is)
    where
      by : (f : SortForm) → IsSortForm ks r f → ListView (results_in f) (ports.results_of (Some r))
      by sort.Nothing h = absurd h
      by (sort.Value k) (t, e, i) = ap (λ r. ports.results_of (Some r)) e
      by (sort.Multiple k) (t, e, i) = ap (λ r. ports.results_of (Some r)) e
      by (sort.Function a b) (args, rs, e, ia, ib) = (rs, ap (λ r. ports.results_of (Some r)) e, ib)

  pub listed_value : (x : Option ℕ) (o : Option (List Ty)) → ListView x o → (i n : ℕ) (s : Sort) → IsSort ks n s → Decides (are_same (listed_at ks x i) (value_of ks n)) (IsListed o i s)
  listed_value x o v i n s h =
      same_views ks once one (listed_at ks x i) (value_of ks n) (λ t. (o >>= at_port i) ≡ Some t) (λ t. s ≡ Plain t) (λ t u a b. same_Some t u (sym a ∙ b)) (plain_only ks read s)
      (listed_at_view x o v i) (value_view ks read n s h)

  pub argument : (o : Option Sort) (c : ℕ) → IsNumbered ks o c → (i n : ℕ) (s : Sort) → IsSort ks n s
      → Decides (are_same (listed_at ks (arguments_in (sort_form_at ks c)) i) (value_of ks n)) (IsListed (ports.arguments_of o) i s)
  argument o c is i n s h = listed_value (arguments_in (sort_form_at ks c)) (ports.arguments_of o) (arguments_view o c is) i n s h

  pub result_at : (o : Option Sort) (c : ℕ) → IsNumbered ks o c → (i n : ℕ) (s : Sort) → IsSort ks n s
      → Decides (are_same (listed_at ks (results_in (sort_form_at ks c)) i) (value_of ks n)) (IsListed (ports.results_of o) i s)
  result_at o c is i n s h = listed_value (results_in (sort_form_at ks c)) (ports.results_of o) (results_view o c is) i n s h

  -- ---- members

  abbrev types_in : List Member → List Ty
  types_in ms = map (λ m. m.1) ms

  got : (ms : List Member) (i : ℕ) → slice_get (types_in ms) i ≡ option_map (λ m. m.1) (slice_get ms i)
  got [] i = refl
  got (m ∷ ms) zero = refl
  got (m ∷ ms) (suc i) = got ms i

  member_by : (o : Option Member) (t : Ty) → option_map (λ m. m.1) o ≡ Some t → (m : Member) × (o ≡ Some m) × (m.1 ≡ t)
  member_by None t e = cc
  member_by (Some m) t e = (m, refl, same_Some m.1 t e)

  pub member_got : (ms : List Member) (i : ℕ) (t : Ty) → slice_get (types_in ms) i ≡ Some t → (m : Member) × (slice_get ms i ≡ Some m) × (m.1 ≡ t)
  member_got ms i t e = member_by (slice_get ms i) t (sym (got ms i) ∙ e)

  pub got_member : (ms : List Member) (i : ℕ) (m : Member) → slice_get ms i ≡ Some m → slice_get (types_in ms) i ≡ Some m.1
  got_member ms i m e = got ms i ∙ ap (option_map (λ m. m.1)) e
