-- What numbers lead to, and what they stand for.
use Rattle.std.proofs.Common.{◌≡◌, ℕ, Bool, true, false, ◌==◌, List, map, Option, Some, None, is_some, ◌⊎◌, inl, inr, Decides, refl, sym, ap, ◌∙◌, subst, rules, eqb-true}
use Rattle.std.proofs.lemmas.Bool.{eq-eqb}
use Rattle.flow_value.specs.declared.ty.Ty.{Ty}
use Rattle.flow_value.specs.declared.ty.Ty.TheVariants as ty
use Rattle.flow_value.specs.declared.ty.Ty.TheOpen.{Ty-F}
use Rattle.flow_value.specs.declared.ty.Ty.TheViews.{out-Ty, the_lemmas}
use Rattle.if1_graph.specs.Tables.{◌>>=◌}
use Rattle.if1_graph.specs.Types.{Member, Sort, Plain, Many}
use Rattle.if1_graph.specs.Typing.{IsSequence}
use Rattle.if1_graph.specs.Ports as ports
use Rattle.if1_types.specs.declared.forms.SortForm.{SortForm}
use Rattle.if1_types.specs.declared.forms.SortForm.TheVariants as sort
use Rattle.if1_types.specs.declared.forms.TyForm.{TyForm}
use Rattle.if1_types.specs.declared.forms.TyForm.TheVariants as form
use Rattle.if1_types.specs.Shapes.{Key}
use Rattle.if1_types.specs.Forms.{IsTy, IsList, IsSort, IsSortForm, IsTyForm, AreOnce, AreOne, AreRead, sort_form_at, ty_form_at}
use Rattle.if1_fits.specs.Views as views
use Rattle.if1_fits.specs.Views.{value_in, many_in, array_in, sequence_in, fields_in, kind_in, value_of, many_of, array_of, sequence_of, fields_of, kind_or, are_same}

-- ---- kinds of types

abbrev kind_number : Ty-F Ty → ℕ
kind_number Ty-F.Bool = 0
kind_number Ty-F.Char = 1
kind_number Ty-F.Int = 2
kind_number Ty-F.Null = 3
kind_number (Ty-F.Arr t) = 4
kind_number (Ty-F.Stream t) = 5
kind_number (Ty-F.Rec ms) = 6
kind_number (Ty-F.Uni ms) = 7

abbrev pub type_kind : Ty → ℕ
type_kind t = kind_number (out-Ty t)

abbrev pub kind_at : List Key → Option ℕ → ℕ
kind_at ks x = views.kind_number (kind_or ks x)

out_bool : out-Ty ty.Bool ≡ Ty-F.Bool
out_bool = search (rules, the_lemmas)

out_char : out-Ty ty.Char ≡ Ty-F.Char
out_char = search (rules, the_lemmas)

out_int : out-Ty ty.Int ≡ Ty-F.Int
out_int = search (rules, the_lemmas)

out_null : out-Ty ty.Null ≡ Ty-F.Null
out_null = search (rules, the_lemmas)

out_arr : (t : Ty) → out-Ty (ty.Arr t) ≡ Ty-F.Arr t
out_arr t = search (rules, the_lemmas)

out_stream : (t : Ty) → out-Ty (ty.Stream t) ≡ Ty-F.Stream t
out_stream t = search (rules, the_lemmas)

out_rec : (ms : List Member) → out-Ty (ty.Rec ms) ≡ Ty-F.Rec ms
out_rec ms = search (rules, the_lemmas)

out_uni : (ms : List Member) → out-Ty (ty.Uni ms) ≡ Ty-F.Uni ms
out_uni ms = search (rules, the_lemmas)

is_bool : (t : Ty) → out-Ty t ≡ Ty-F.Bool → t ≡ ty.Bool
is_bool t e = search (rules, the_lemmas)

is_char : (t : Ty) → out-Ty t ≡ Ty-F.Char → t ≡ ty.Char
is_char t e = search (rules, the_lemmas)

is_int : (t : Ty) → out-Ty t ≡ Ty-F.Int → t ≡ ty.Int
is_int t e = search (rules, the_lemmas)

is_null : (t : Ty) → out-Ty t ≡ Ty-F.Null → t ≡ ty.Null
is_null t e = search (rules, the_lemmas)

is_arr : (t u : Ty) → out-Ty t ≡ Ty-F.Arr u → t ≡ ty.Arr u
is_arr t u e = search (rules, the_lemmas)

is_stream : (t u : Ty) → out-Ty t ≡ Ty-F.Stream u → t ≡ ty.Stream u
is_stream t u e = search (rules, the_lemmas)

is_rec : (t : Ty) (ms : List Member) → out-Ty t ≡ Ty-F.Rec ms → t ≡ ty.Rec ms
is_rec t ms e = search (rules, the_lemmas)

is_uni : (t : Ty) (ms : List Member) → out-Ty t ≡ Ty-F.Uni ms → t ≡ ty.Uni ms
is_uni t ms e = search (rules, the_lemmas)

-- what a kind says
pub of_bool : (t : Ty) → type_kind t ≡ 0 → t ≡ ty.Bool
of_bool t e = by (out-Ty t) refl e
  where
    by : (x : Ty-F Ty) → out-Ty t ≡ x → kind_number x ≡ 0 → t ≡ ty.Bool
    by Ty-F.Bool o e = is_bool t o
    by Ty-F.Char o e = cc
    by Ty-F.Int o e = cc
    by Ty-F.Null o e = cc
    by (Ty-F.Arr u) o e = cc
    by (Ty-F.Stream u) o e = cc
    by (Ty-F.Rec ms) o e = cc
    by (Ty-F.Uni ms) o e = cc

pub of_char : (t : Ty) → type_kind t ≡ 1 → t ≡ ty.Char
of_char t e = by (out-Ty t) refl e
  where
    by : (x : Ty-F Ty) → out-Ty t ≡ x → kind_number x ≡ 1 → t ≡ ty.Char
    by Ty-F.Bool o e = cc
    by Ty-F.Char o e = is_char t o
    by Ty-F.Int o e = cc
    by Ty-F.Null o e = cc
    by (Ty-F.Arr u) o e = cc
    by (Ty-F.Stream u) o e = cc
    by (Ty-F.Rec ms) o e = cc
    by (Ty-F.Uni ms) o e = cc

pub of_int : (t : Ty) → type_kind t ≡ 2 → t ≡ ty.Int
of_int t e = by (out-Ty t) refl e
  where
    by : (x : Ty-F Ty) → out-Ty t ≡ x → kind_number x ≡ 2 → t ≡ ty.Int
    by Ty-F.Bool o e = cc
    by Ty-F.Char o e = cc
    by Ty-F.Int o e = is_int t o
    by Ty-F.Null o e = cc
    by (Ty-F.Arr u) o e = cc
    by (Ty-F.Stream u) o e = cc
    by (Ty-F.Rec ms) o e = cc
    by (Ty-F.Uni ms) o e = cc

pub of_null : (t : Ty) → type_kind t ≡ 3 → t ≡ ty.Null
of_null t e = by (out-Ty t) refl e
  where
    by : (x : Ty-F Ty) → out-Ty t ≡ x → kind_number x ≡ 3 → t ≡ ty.Null
    by Ty-F.Bool o e = cc
    by Ty-F.Char o e = cc
    by Ty-F.Int o e = cc
    by Ty-F.Null o e = is_null t o
    by (Ty-F.Arr u) o e = cc
    by (Ty-F.Stream u) o e = cc
    by (Ty-F.Rec ms) o e = cc
    by (Ty-F.Uni ms) o e = cc

pub of_arr : (t : Ty) → type_kind t ≡ 4 → (a : Ty) × (t ≡ ty.Arr a)
of_arr t e = by (out-Ty t) refl e
  where
    by : (x : Ty-F Ty) → out-Ty t ≡ x → kind_number x ≡ 4 → (a : Ty) × (t ≡ ty.Arr a)
    by Ty-F.Bool o e = cc
    by Ty-F.Char o e = cc
    by Ty-F.Int o e = cc
    by Ty-F.Null o e = cc
    by (Ty-F.Arr u) o e = (u, is_arr t u o)
    by (Ty-F.Stream u) o e = cc
    by (Ty-F.Rec ms) o e = cc
    by (Ty-F.Uni ms) o e = cc

pub of_stream : (t : Ty) → type_kind t ≡ 5 → (a : Ty) × (t ≡ ty.Stream a)
of_stream t e = by (out-Ty t) refl e
  where
    by : (x : Ty-F Ty) → out-Ty t ≡ x → kind_number x ≡ 5 → (a : Ty) × (t ≡ ty.Stream a)
    by Ty-F.Bool o e = cc
    by Ty-F.Char o e = cc
    by Ty-F.Int o e = cc
    by Ty-F.Null o e = cc
    by (Ty-F.Arr u) o e = cc
    by (Ty-F.Stream u) o e = (u, is_stream t u o)
    by (Ty-F.Rec ms) o e = cc
    by (Ty-F.Uni ms) o e = cc

pub of_rec : (t : Ty) → type_kind t ≡ 6 → (ms : List Member) × (t ≡ ty.Rec ms)
of_rec t e = by (out-Ty t) refl e
  where
    by : (x : Ty-F Ty) → out-Ty t ≡ x → kind_number x ≡ 6 → (ms : List Member) × (t ≡ ty.Rec ms)
    by Ty-F.Bool o e = cc
    by Ty-F.Char o e = cc
    by Ty-F.Int o e = cc
    by Ty-F.Null o e = cc
    by (Ty-F.Arr u) o e = cc
    by (Ty-F.Stream u) o e = cc
    by (Ty-F.Rec ms) o e = (ms, is_rec t ms o)
    by (Ty-F.Uni ms) o e = cc

pub kind_bool : (t : Ty) → t ≡ ty.Bool → type_kind t ≡ 0
kind_bool t e = ap type_kind e ∙ ap kind_number out_bool

pub kind_char : (t : Ty) → t ≡ ty.Char → type_kind t ≡ 1
kind_char t e = ap type_kind e ∙ ap kind_number out_char

pub kind_int : (t : Ty) → t ≡ ty.Int → type_kind t ≡ 2
kind_int t e = ap type_kind e ∙ ap kind_number out_int

pub kind_null : (t : Ty) → t ≡ ty.Null → type_kind t ≡ 3
kind_null t e = ap type_kind e ∙ ap kind_number out_null

pub kind_arr : (t a : Ty) → t ≡ ty.Arr a → type_kind t ≡ 4
kind_arr t a e = ap type_kind e ∙ ap kind_number (out_arr a)

pub kind_stream : (t a : Ty) → t ≡ ty.Stream a → type_kind t ≡ 5
kind_stream t a e = ap type_kind e ∙ ap kind_number (out_stream a)

pub kind_rec : (t : Ty) (ms : List Member) → t ≡ ty.Rec ms → type_kind t ≡ 6
kind_rec t ms e = ap type_kind e ∙ ap kind_number (out_rec ms)

pub kind_uni : (t : Ty) (ms : List Member) → t ≡ ty.Uni ms → type_kind t ≡ 7
kind_uni t ms e = ap type_kind e ∙ ap kind_number (out_uni ms)

arr_parts : (t u : Ty) → Ty-F.Arr t ≡ Ty-F.Arr u → t ≡ u
arr_parts t u e = cc

pub arr_one : (t u : Ty) → ty.Arr t ≡ ty.Arr u → t ≡ u
arr_one t u e = arr_parts t u (sym (out_arr t) ∙ ap out-Ty e ∙ out_arr u)

stream_parts : (t u : Ty) → Ty-F.Stream t ≡ Ty-F.Stream u → t ≡ u
stream_parts t u e = cc

pub stream_one : (t u : Ty) → ty.Stream t ≡ ty.Stream u → t ≡ u
stream_one t u e = stream_parts t u (sym (out_stream t) ∙ ap out-Ty e ∙ out_stream u)

rec_parts : (ms ns : List Member) → Ty-F.Rec ms ≡ Ty-F.Rec ns → ms ≡ ns
rec_parts ms ns e = cc

pub rec_one : (ms ns : List Member) → ty.Rec ms ≡ ty.Rec ns → ms ≡ ns
rec_one ms ns e = rec_parts ms ns (sym (out_rec ms) ∙ ap out-Ty e ∙ out_rec ns)

uni_parts : (ms ns : List Member) → Ty-F.Uni ms ≡ Ty-F.Uni ns → ms ≡ ns
uni_parts ms ns e = cc

pub uni_one : (ms ns : List Member) → ty.Uni ms ≡ ty.Uni ns → ms ≡ ns
uni_one ms ns e = uni_parts ms ns (sym (out_uni ms) ∙ ap out-Ty e ∙ out_uni ns)

pub no_kinds : {A : Type 0} (t u : Ty) (k m : ℕ) → t ≡ u → type_kind t ≡ k → type_kind u ≡ m → (k == m) ≡ false → A
no_kinds t u k m e x y differ = absurd (false_true (sym differ ∙ eq-eqb k m (sym x ∙ ap type_kind e ∙ y)))
  where
    false_true : false ≡ true → ⊥
    false_true e = cc

-- ---- views

pub either_way : {P Q : Type 0} (b : Bool) → Decides b P → (P → Q) → (Q → P) → Decides b Q
either_way b d f g = (λ e. f (d.0 e), λ q. d.1 (g q))

false_true : false ≡ true → ⊥
false_true e = cc

abbrev pub IsOnly : (Ty → Type 0) → Type 0
IsOnly P = (t u : Ty) → P t → P u → t ≡ u

module _ (ks : List Key) where
  -- a number leads to the type that has a property, or none has it
  abbrev pub View : Option ℕ → (Ty → Type 0) → Type 0
  View None P = (t : Ty) → P t → ⊥
  View (Some k) P = (t : Ty) × P t × IsTy ks k t

  pub view_as : (x : Option ℕ) (P Q : Ty → Type 0) → ((t : Ty) → P t → Q t) → ((t : Ty) → Q t → P t) → View x P → View x Q
  view_as None P Q f g h = λ t q. h t (g t q)
  view_as (Some k) P Q f g h = (h.0, f h.0 h.1, h.2)

  pub is_there : (x : Option ℕ) (P : Ty → Type 0) → View x P → Decides (is_some x) ((t : Ty) × P t)
  is_there None P h = (λ e. absurd (false_true e), λ r. absurd (h r.0 r.1))
  is_there (Some k) P h = (λ e. (h.0, h.1), λ r. refl)

  pub same_views : AreOnce ks → AreOne ks → (x y : Option ℕ) (P Q : Ty → Type 0) → IsOnly P → IsOnly Q → View x P → View y Q
      → Decides (are_same x y) ((t : Ty) × P t × Q t)
  same_views once one None y P Q p q h i = (λ e. absurd (false_true e), λ r. absurd (h r.0 r.1))
  same_views once one (Some k) None P Q p q h i = (λ e. absurd (false_true e), λ r. absurd (i r.0 r.2))
  same_views once one (Some k) (Some m) P Q p q h i = (
    λ e.
        let it : IsTy ks m h.0 = subst (λ k. IsTy ks k h.0) (eqb-true k m e) h.2 in
        (h.0, h.1, subst Q (sym (one.types m h.0 i.0 it i.2)) i.1),
    λ r. eq-eqb k m (once.types k m r.0 (subst (IsTy ks k) (p h.0 r.0 h.1 r.1) h.2) (subst (IsTy ks m) (q i.0 r.0 i.1 r.2) i.2)),
  )

  pub then_view : (x : Option ℕ) (P : Ty → Type 0) (f : ℕ → Option ℕ) (R : Ty → Ty → Type 0) → IsOnly P → View x P
      → ((k : ℕ) (t : Ty) → IsTy ks k t → View (f k) (R t)) → View (x >>= f) (λ a. (t : Ty) × P t × R t a)
  then_view None P f R p h g = λ a r. h r.0 r.1
  then_view (Some k) P f R p h g = by (f k) (g k h.0 h.2)
    where
      by : (y : Option ℕ) → View y (R h.0) → View y (λ a. (t : Ty) × P t × R t a)
      by None n = λ a r. n a (subst (λ t. R t a) (p r.0 h.0 r.1 h.1) r.2)
      by (Some m) i = (i.0, (h.0, h.1, i.1), i.2)

  -- ---- types

  module _ (read : AreRead ks) where
    kind_of_form : (t : Ty) (f : TyForm) → IsTyForm ks t f → views.kind_number (kind_in f) ≡ type_kind t
    kind_of_form t form.Nothing h = absurd h
    kind_of_form t form.Boolean h = sym (kind_bool t h)
    kind_of_form t form.Character h = sym (kind_char t h)
    kind_of_form t form.Integer h = sym (kind_int t h)
    kind_of_form t form.Null h = sym (kind_null t h)
    kind_of_form t (form.Array k) h = sym (kind_arr t h.0 h.1)
    kind_of_form t (form.Stream k) h = sym (kind_stream t h.0 h.1)
    kind_of_form t (form.Record k) h = sym (kind_rec t h.0 h.1)
    kind_of_form t (form.Union k) h = sym (kind_uni t h.0 h.1)

    pub kind_is : (x : Option ℕ) (P : Ty → Type 0) (k : ℕ) → IsOnly P → View x P → (8 == k) ≡ false → Decides (kind_at ks x == k) ((t : Ty) × P t × (type_kind t ≡ k))
    kind_is None P k p h eight = (λ e. absurd (false_true (sym eight ∙ e)), λ r. absurd (h r.0 r.1))
    kind_is (Some m) P k p h eight =
        let same : views.kind_number (kind_in (ty_form_at ks m)) ≡ type_kind h.0 = kind_of_form h.0 (ty_form_at ks m) (read.types m h.0 h.2) in (
          λ e. (h.0, h.1, sym same ∙ eqb-true (views.kind_number (kind_in (ty_form_at ks m))) k e),
          λ r. eq-eqb (views.kind_number (kind_in (ty_form_at ks m))) k (same ∙ ap type_kind (p h.0 r.0 h.1 r.1) ∙ r.2),
        )

    pub sequence_view : (k : ℕ) (t : Ty) → IsTy ks k t → View (sequence_of ks k) (λ a. (t ≡ ty.Arr a) ⊎ (t ≡ ty.Stream a))
    sequence_view k t h = by (ty_form_at ks k) (read.types k t h)
      where
        none : (m : ℕ) → type_kind t ≡ m → (m == 4) ≡ false → (m == 5) ≡ false → (a : Ty) → (t ≡ ty.Arr a) ⊎ (t ≡ ty.Stream a) → ⊥
        none m x four five a (inl e) = no_kinds t (ty.Arr a) m 4 e x (kind_arr (ty.Arr a) a refl) four
        none m x four five a (inr e) = no_kinds t (ty.Stream a) m 5 e x (kind_stream (ty.Stream a) a refl) five

        by : (f : TyForm) → IsTyForm ks t f → View (sequence_in f) (λ a. (t ≡ ty.Arr a) ⊎ (t ≡ ty.Stream a))
        by form.Nothing h = absurd h
        by form.Boolean h = none 0 (kind_bool t h) refl refl
        by form.Character h = none 1 (kind_char t h) refl refl
        by form.Integer h = none 2 (kind_int t h) refl refl
        by form.Null h = none 3 (kind_null t h) refl refl
        by (form.Array k) h = (h.0, inl h.1, h.2)
        by (form.Stream k) h = (h.0, inr h.1, h.2)
        by (form.Record k) h = none 6 (kind_rec t h.0 h.1) refl refl
        by (form.Union k) h = none 7 (kind_uni t h.0 h.1) refl refl

    pub array_view : (k : ℕ) (t : Ty) → IsTy ks k t → View (array_of ks k) (λ a. t ≡ ty.Arr a)
    array_view k t h = by (ty_form_at ks k) (read.types k t h)
      where
        none : (m : ℕ) → type_kind t ≡ m → (m == 4) ≡ false → (a : Ty) → t ≡ ty.Arr a → ⊥
        none m x four a e = no_kinds t (ty.Arr a) m 4 e x (kind_arr (ty.Arr a) a refl) four

        by : (f : TyForm) → IsTyForm ks t f → View (array_in f) (λ a. t ≡ ty.Arr a)
        by form.Nothing h = absurd h
        by form.Boolean h = none 0 (kind_bool t h) refl
        by form.Character h = none 1 (kind_char t h) refl
        by form.Integer h = none 2 (kind_int t h) refl
        by form.Null h = none 3 (kind_null t h) refl
        by (form.Array k) h = (h.0, h.1, h.2)
        by (form.Stream k) h = none 5 (kind_stream t h.0 h.1) refl
        by (form.Record k) h = none 6 (kind_rec t h.0 h.1) refl
        by (form.Union k) h = none 7 (kind_uni t h.0 h.1) refl

    -- ---- sorts

    pub plain_only : (s : Sort) → IsOnly (λ t. s ≡ Plain t)
    plain_only s t u a b = cc

    pub many_only : (s : Sort) → IsOnly (λ t. s ≡ Many t)
    many_only s t u a b = cc

    pub value_view : (n : ℕ) (s : Sort) → IsSort ks n s → View (value_of ks n) (λ t. s ≡ Plain t)
    value_view n s h = by (sort_form_at ks n) (read.sorts n s h)
      where
        by : (f : SortForm) → IsSortForm ks s f → View (value_in f) (λ t. s ≡ Plain t)
        by sort.Nothing h = absurd h
        by (sort.Value k) h = (h.0, h.1, h.2)
        by (sort.Multiple k) h = let e = h.1 in λ t d. cc
        by (sort.Function a r) h = let e = h.2 in λ t d. cc

    pub many_view : (n : ℕ) (s : Sort) → IsSort ks n s → View (many_of ks n) (λ t. s ≡ Many t)
    many_view n s h = by (sort_form_at ks n) (read.sorts n s h)
      where
        by : (f : SortForm) → IsSortForm ks s f → View (many_in f) (λ t. s ≡ Many t)
        by sort.Nothing h = absurd h
        by (sort.Value k) h = let e = h.1 in λ t d. cc
        by (sort.Multiple k) h = (h.0, h.1, h.2)
        by (sort.Function a r) h = let e = h.2 in λ t d. cc

    pub sequence_only : (s : Sort) → IsOnly (λ t. IsSequence t s)
    sequence_only s t u (inl a) (inl b) = arr_one t u (plain_one (ty.Arr t) (ty.Arr u) (sym a ∙ b))
      where
        plain_one : (t u : Ty) → Plain t ≡ Plain u → t ≡ u
        plain_one t u e = cc
    sequence_only s t u (inl a) (inr b) = no_kinds (ty.Arr t) (ty.Stream u) 4 5 (plain_one (ty.Arr t) (ty.Stream u) (sym a ∙ b)) (kind_arr (ty.Arr t) t refl) (kind_stream (ty.Stream u) u refl) refl
      where
        plain_one : (t u : Ty) → Plain t ≡ Plain u → t ≡ u
        plain_one t u e = cc
    sequence_only s t u (inr a) (inl b) = no_kinds (ty.Stream t) (ty.Arr u) 5 4 (plain_one (ty.Stream t) (ty.Arr u) (sym a ∙ b)) (kind_stream (ty.Stream t) t refl) (kind_arr (ty.Arr u) u refl) refl
      where
        plain_one : (t u : Ty) → Plain t ≡ Plain u → t ≡ u
        plain_one t u e = cc
    sequence_only s t u (inr a) (inr b) = stream_one t u (plain_one (ty.Stream t) (ty.Stream u) (sym a ∙ b))
      where
        plain_one : (t u : Ty) → Plain t ≡ Plain u → t ≡ u
        plain_one t u e = cc

    pub sequence_of_view : (n : ℕ) (s : Sort) → IsSort ks n s → View (value_of ks n >>= sequence_of ks) (λ a. IsSequence a s)
    sequence_of_view n s h =
        view_as (value_of ks n >>= sequence_of ks) (λ a. (t : Ty) × (s ≡ Plain t) × ((t ≡ ty.Arr a) ⊎ (t ≡ ty.Stream a))) (λ a. IsSequence a s) forth back
        (then_view (value_of ks n) (λ t. s ≡ Plain t) (sequence_of ks) (λ t a. (t ≡ ty.Arr a) ⊎ (t ≡ ty.Stream a)) (plain_only s) (value_view n s h) sequence_view)
      where
        forth : (a : Ty) → (t : Ty) × (s ≡ Plain t) × ((t ≡ ty.Arr a) ⊎ (t ≡ ty.Stream a)) → IsSequence a s
        forth a (t, e, inl d) = inl (e ∙ ap (λ t. Plain t) d)
        forth a (t, e, inr d) = inr (e ∙ ap (λ t. Plain t) d)

        back : (a : Ty) → IsSequence a s → (t : Ty) × (s ≡ Plain t) × ((t ≡ ty.Arr a) ⊎ (t ≡ ty.Stream a))
        back a (inl e) = (ty.Arr a, e, inl refl)
        back a (inr e) = (ty.Stream a, e, inr refl)

    pub array_of_view : (n : ℕ) (s : Sort) → IsSort ks n s → View (value_of ks n >>= array_of ks) (λ a. s ≡ Plain (ty.Arr a))
    array_of_view n s h =
        view_as (value_of ks n >>= array_of ks) (λ a. (t : Ty) × (s ≡ Plain t) × (t ≡ ty.Arr a)) (λ a. s ≡ Plain (ty.Arr a))
        (λ a r. r.1 ∙ ap (λ t. Plain t) r.2) (λ a e. (ty.Arr a, e, refl))
        (then_view (value_of ks n) (λ t. s ≡ Plain t) (array_of ks) (λ t a. t ≡ ty.Arr a) (plain_only s) (value_view n s h) array_view)

    pub array_only : (s : Sort) → IsOnly (λ t. s ≡ Plain (ty.Arr t))
    array_only s t u a b = sequence_only s t u (inl a) (inl b)

    -- ---- fields

    abbrev Fields : Option ℕ → Option (List Ty) → Type 0
    Fields None o = o ≡ None
    Fields (Some l) o = (ts : List Ty) × (o ≡ Some ts) × IsList ks l ts

    pub fields_are : (k : ℕ) (t : Ty) (r : Sort) → r ≡ Plain t → IsTy ks k t → Fields (fields_of ks k) (ports.fields_of (Some r) >>= λ ms. Some (map (λ m. m.1) ms))
    fields_are k t r e h =
        subst (λ r. Fields (fields_of ks k) (ports.fields_of (Some r) >>= λ ms. Some (map (λ m. m.1) ms))) (sym e) (by (ty_form_at ks k) (read.types k t h))
      where
        at : (x : Ty-F Ty) → out-Ty t ≡ x → (ports.fields_of (Some (Plain t)) >>= λ ms. Some (map (λ m. m.1) ms)) ≡ (ports.record_fields x >>= λ ms. Some (map (λ m. m.1) ms))
        at x o = ap (λ x. ports.record_fields x >>= λ ms. Some (map (λ m. m.1) ms)) o

        by : (f : TyForm) → IsTyForm ks t f → Fields (fields_in f) (ports.fields_of (Some (Plain t)) >>= λ ms. Some (map (λ m. m.1) ms))
        by form.Nothing h = absurd h
        by form.Boolean h = at Ty-F.Bool (ap out-Ty h ∙ out_bool)
        by form.Character h = at Ty-F.Char (ap out-Ty h ∙ out_char)
        by form.Integer h = at Ty-F.Int (ap out-Ty h ∙ out_int)
        by form.Null h = at Ty-F.Null (ap out-Ty h ∙ out_null)
        by (form.Array k) (a, e, i) = at (Ty-F.Arr a) (ap out-Ty e ∙ out_arr a)
        by (form.Stream k) (a, e, i) = at (Ty-F.Stream a) (ap out-Ty e ∙ out_stream a)
        by (form.Record k) (ms, e, i) = (map (λ m. m.1) ms, at (Ty-F.Rec ms) (ap out-Ty e ∙ out_rec ms), i)
        by (form.Union k) (ms, e, i) = at (Ty-F.Uni ms) (ap out-Ty e ∙ out_uni ms)
