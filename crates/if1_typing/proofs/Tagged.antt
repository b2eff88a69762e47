-- The content of an arm, by the types of the tags that lead to it.
use Rattle.std.proofs.Common.{◌≡◌, ◌≢◌, ℕ, zero, suc, Bool, true, false, ◌&&◌, ◌==◌, if◌then◌else◌, List, [], ◌∷◌, map, slice_get, Option, Some, None, is_some, Decides, refl, sym, ap, ◌∙◌, subst, inl, inr, eqb-true, eq-eqb, ne_eqb}
use Rattle.std.proofs.lemmas.Option.{same_Some}
use Rattle.std.proofs.lemmas.Bool.{and_parts, and_from}
use Rattle.std.proofs.lemmas.Bool.Decides.{eqb_tells}
use Rattle.flow_value.specs.declared.ty.Ty.{Ty}
use Rattle.flow_value.specs.declared.ty.Ty.TheVariants as ty
use Rattle.flow_value.specs.declared.ty.Ty.TheOpen.{Ty-F}
use Rattle.flow_value.specs.declared.ty.Ty.TheViews.{out-Ty}
use Rattle.if1_graph.specs.Tables.{◌>>=◌, at_port}
use Rattle.if1_graph.specs.Types.{Member, Sort, Plain, Many}
use Rattle.if1_graph.specs.Types as types
use Rattle.if1_graph.specs.Ports as ports
use Rattle.if1_graph.specs.Typing.{IsMember, IsPlain, FitsContent}
use Rattle.if1_types.specs.Shapes.{Key}
use Rattle.if1_types.specs.Forms.{AreOnce, AreRead, IsSort, IsTy, IsTyForm, IsSortForm, ty_form_at, sort_form_at}
use Rattle.if1_types.specs.declared.forms.SortForm.{SortForm}
use Rattle.if1_types.specs.declared.forms.SortForm.TheVariants as sort
use Rattle.if1_types.specs.declared.forms.TyForm.{TyForm}
use Rattle.if1_types.specs.declared.forms.TyForm.TheVariants as form
use Rattle.if1_ports.proofs.Known.{bool_out, char_out, int_out, null_out, array_out, stream_out, record_out, union_out}
use Rattle.if1_fits.specs.Views.{value_in, value_of, tags_in, tags_of, listed_at, are_same}
use Rattle.if1_fits.specs.Tests.{IsNumbered}
use Rattle.if1_fits.proofs.Viewed.{View, value_view, either_way, no_kinds, type_kind, kind_bool, kind_char, kind_int, kind_null, kind_arr, kind_stream, kind_rec, kind_uni}
use Rattle.if1_fits.proofs.Decided as by
use Rattle.if1_typing.specs.declared.site.Content.{Content}
use Rattle.if1_typing.specs.declared.site.Content.TheVariants.{Any, One, Never}
use Rattle.if1_typing.specs.Contents.{with_tag, first_at, rest_at, content_from, content_fits}

-- ---- a content is that of each tag

with_one : (m k j : ℕ) → content_fits (if m == k then One m else Never) (Some j) ≡ ((m == j) && (k == j))
with_one m k j =
    elim (eqb_tells m k) [
      | inl e ↦ ap (λ b. content_fits (if b then One m else Never) (Some j)) e.0 ∙ subst (λ k. (m == j) ≡ ((m == j) && (k == j))) e.1 (twice (m == j))
      | inr e ↦ ap (λ b. content_fits (if b then One m else Never) (Some j)) e.0 ∙ sym (apart (m == j) refl e.1)
    ]
  where
    twice : (b : Bool) → b ≡ (b && b)
    twice true = refl
    twice false = refl

    apart : (b : Bool) → (m == j) ≡ b → m ≢ k → (b && (k == j)) ≡ false
    apart true is ne = ne_eqb k j (λ e. ne (eqb-true m j is ∙ sym e))
    apart false is ne = refl

and_false : (b : Bool) → false ≡ (b && false)
and_false true = refl
and_false false = refl

tag_added : (c : Content) (f v : Option ℕ) → content_fits (with_tag c f) v ≡ (content_fits c v && are_same f v)
tag_added c None None = and_false (content_fits c None)
tag_added c None (Some j) = and_false (content_fits c (Some j))
tag_added Any (Some k) None = refl
tag_added Any (Some k) (Some j) = refl
tag_added (One m) (Some k) None = none (m == k)
  where
    none : (b : Bool) → content_fits (if b then One m else Never) None ≡ false
    none true = refl
    none false = refl
tag_added (One m) (Some k) (Some j) = with_one m k j
tag_added Never (Some k) None = refl
tag_added Never (Some k) (Some j) = refl

and_assoc : (a b c : Bool) → (a && b && c) ≡ (a && (b && c))
and_assoc true b c = refl
and_assoc false b c = refl

and_true : (a : Bool) → a ≡ (a && true)
and_true true = refl
and_true false = refl

module _ (ks : List Key) where
  -- each tag that leads to the arm has the type
  abbrev tags_fit : Option ℕ → List ℕ → ℕ → Option ℕ → Bool
  tags_fit l [] arm v = true
  tags_fit l (a ∷ others) arm v = (if a == arm then are_same (first_at ks l) v else true) && tags_fit (rest_at ks l) others arm v

  pub content_is : (c : Content) (l : Option ℕ) (list : List ℕ) (arm : ℕ) (v : Option ℕ) →
      content_fits (content_from ks c l list arm) v ≡ (content_fits c v && tags_fit l list arm v)
  content_is c l [] arm v = and_true (content_fits c v)
  content_is c l (a ∷ others) arm v =
      content_is (if a == arm then with_tag c (first_at ks l) else c) (rest_at ks l) others arm v ∙ step (a == arm)
    where
      step : (b : Bool) →
          (content_fits (if b then with_tag c (first_at ks l) else c) v && tags_fit (rest_at ks l) others arm v)
          ≡ (content_fits c v && ((if b then are_same (first_at ks l) v else true) && tags_fit (rest_at ks l) others arm v))
      step true =
          ap (λ x. x && tags_fit (rest_at ks l) others arm v) (tag_added c (first_at ks l) v)
          ∙ and_assoc (content_fits c v) (are_same (first_at ks l) v) (tags_fit (rest_at ks l) others arm v)
      step false = refl

  abbrev EachFits : (ℕ → Type 0) → List ℕ → ℕ → Type 0
  EachFits R list arm = (tag : ℕ) → slice_get list tag ≡ Some arm → R tag

  none_got : {A : Type 0} (tag arm : ℕ) → slice_get [] tag ≡ Some arm → A
  none_got tag arm e = cc

  first_is : (l : Option ℕ) → first_at ks l ≡ listed_at ks l 1
  first_is None = refl
  first_is (Some l) = refl

  rest_is : (l : Option ℕ) (i : ℕ) → listed_at ks (rest_at ks l) (suc i) ≡ listed_at ks l (suc (suc i))
  rest_is None i = refl
  rest_is (Some l) i = refl

  tags_decided : (l : Option ℕ) (list : List ℕ) (arm : ℕ) (v : Option ℕ) (R : ℕ → Type 0) →
      ((i : ℕ) → Decides (are_same (listed_at ks l (suc i)) v) (R i)) → Decides (tags_fit l list arm v) (EachFits R list arm)
  tags_decided l [] arm v R d = (λ h tag e. none_got tag arm e, λ r. refl)
  tags_decided l (a ∷ others) arm v R d =
      step (a == arm) refl
      (subst (λ f. Decides (are_same f v) (R 0)) (sym (first_is l)) (d 0))
      (tags_decided (rest_at ks l) others arm v (λ i. R (suc i))
      (λ i. subst (λ f. Decides (are_same f v) (R (suc i))) (sym (rest_is l i)) (d (suc i))))
    where
      step : (b : Bool) → (a == arm) ≡ b → Decides (are_same (first_at ks l) v) (R 0) →
          Decides (tags_fit (rest_at ks l) others arm v) (EachFits (λ i. R (suc i)) others arm) →
          Decides ((if b then are_same (first_at ks l) v else true) && tags_fit (rest_at ks l) others arm v) (EachFits R (a ∷ others) arm)
      step true is first more = (
        λ h. let both = and_parts (are_same (first_at ks l) v) (tags_fit (rest_at ks l) others arm v) h in each (first.0 both.0) (more.0 both.1),
        λ r.
            and_from (are_same (first_at ks l) v) (tags_fit (rest_at ks l) others arm v)
            (first.1 (r 0 (ap Some (eqb-true a arm is)))) (more.1 (λ tag e. r (suc tag) e)),
      )
        where
          each : R 0 → EachFits (λ i. R (suc i)) others arm → EachFits R (a ∷ others) arm
          each x y zero e = x
          each x y (suc tag) e = y tag e
      step false is first more = (λ h. each (more.0 h), λ r. more.1 (λ tag e. r (suc tag) e))
        where
          each : EachFits (λ i. R (suc i)) others arm → EachFits R (a ∷ others) arm
          each y zero e = absurd (both_ways_eq e)
            where
              both_ways_eq : Some a ≡ Some arm → ⊥
              both_ways_eq e = let same : true ≡ false = sym (eq-eqb a arm (same_Some a arm e)) ∙ is in cc
          each y (suc tag) e = y tag e

-- ---- the tags of a union, by number

pub never : {P : Type 0} → (P → ⊥) → Decides false P
never f = (λ e. cc, λ p. absurd (f p))

module _ (ks : List Key) (once : AreOnce ks) (read : AreRead ks) where
  plain_one : (t u : Ty) → Plain t ≡ Plain u → t ≡ u
  plain_one t u e = cc

  abbrev Tags : Option ℕ → Option (List Member) → Type 0
  Tags x o = by.ListView ks once read x (o >>= λ ms. Some (map (λ m. m.1) ms))

  tags_are : (k : ℕ) (t : Ty) → IsTy ks k t → Tags (tags_of ks k) (ports.tags_of (Some (Plain t)))
  tags_are k t h = by_form (ty_form_at ks k) (read.types k t h)
    where
      at : (x : Ty-F Ty) → out-Ty t ≡ x → (ports.tags_of (Some (Plain t)) >>= λ ms. Some (map (λ m. m.1) ms)) ≡ (ports.union_tags x >>= λ ms. Some (map (λ m. m.1) ms))
      at x o = ap (λ x. ports.union_tags x >>= λ ms. Some (map (λ m. m.1) ms)) o

      by_form : (f : TyForm) → IsTyForm ks t f → Tags (tags_in f) (ports.tags_of (Some (Plain t)))
      by_form form.Nothing h = absurd h
      by_form form.Boolean h = at Ty-F.Bool (ap out-Ty h ∙ bool_out)
      by_form form.Character h = at Ty-F.Char (ap out-Ty h ∙ char_out)
      by_form form.Integer h = at Ty-F.Int (ap out-Ty h ∙ int_out)
      by_form form.Null h = at Ty-F.Null (ap out-Ty h ∙ null_out)
      by_form (form.Array k) (a, e, i) = at (Ty-F.Arr a) (ap out-Ty e ∙ array_out a)
      by_form (form.Stream k) (a, e, i) = at (Ty-F.Stream a) (ap out-Ty e ∙ stream_out a)
      by_form (form.Record k) (ms, e, i) = at (Ty-F.Rec ms) (ap out-Ty e ∙ record_out ms)
      by_form (form.Union k) (ms, e, i) = (map (λ m. m.1) ms, at (Ty-F.Uni ms) (ap out-Ty e ∙ union_out ms), i)

  tags_view : (o : Option Sort) (m : ℕ) → IsNumbered ks o m → Tags (value_of ks m >>= tags_of ks) (ports.tags_of o)
  tags_view None m is = subst (λ m. Tags (value_of ks m >>= tags_of ks) None) (sym is) refl
  tags_view (Some r) m is = at (value_of ks m) (value_view ks read m r is)
    where
      at : (x : Option ℕ) → View ks x (λ t. r ≡ Plain t) → Tags (x >>= tags_of ks) (ports.tags_of (Some r))
      at None none = no_value r none
        where
          no_value : (r : Sort) → ((t : Ty) → r ≡ Plain t → ⊥) → (ports.tags_of (Some r) >>= λ ms. Some (map (λ m. m.1) ms)) ≡ None
          no_value (Plain t) n = absurd (n t refl)
          no_value (Many t) n = refl
          no_value (types.Function args rs) n = refl
      at (Some k) (t, e, i) = subst (λ r. Tags (tags_of ks k) (ports.tags_of (Some r))) (sym e) (tags_are k t i)

  tag_decided : (o : Option Sort) (m : ℕ) → IsNumbered ks o m → (i n : ℕ) (s : Sort) → IsSort ks n s →
      Decides (are_same (listed_at ks (value_of ks m >>= tags_of ks) i) (value_of ks n)) (IsMember (ports.tags_of o) i s)
  tag_decided o m is i n s h =
      either_way (are_same (listed_at ks (value_of ks m >>= tags_of ks) i) (value_of ks n))
      (by.listed_value ks once read (value_of ks m >>= tags_of ks) (ports.tags_of o >>= λ ms. Some (map (λ m. m.1) ms)) (tags_view o m is) i n s h)
      forth (λ r. (r.0.1, back (ports.tags_of o) i r.0 r.1, r.2))
    where
      there : (ms : Option (List Member)) (i : ℕ) (t : Ty) → ((ms >>= λ ms. Some (map (λ m. m.1) ms)) >>= at_port i) ≡ Some t → (m : Member) × ((ms >>= at_port i) ≡ Some m) × (m.1 ≡ t)
      there None i t e = cc
      there (Some ms) zero t e = cc
      there (Some ms) (suc i) t e = by.member_got ks once read ms i t e

      forth : (t : Ty) × (((ports.tags_of o >>= λ ms. Some (map (λ m. m.1) ms)) >>= at_port i) ≡ Some t) × (s ≡ Plain t) → IsMember (ports.tags_of o) i s
      forth (t, e, x) = let q = there (ports.tags_of o) i t e in (q.0, q.1, x ∙ plain_for q.0.1 t q.2)
        where
          plain_for : (a t : Ty) → a ≡ t → Plain t ≡ Plain a
          plain_for a t e = ap (λ t. Plain t) (sym e)

      back : (ms : Option (List Member)) (i : ℕ) (m : Member) → (ms >>= at_port i) ≡ Some m → ((ms >>= λ ms. Some (map (λ m. m.1) ms)) >>= at_port i) ≡ Some m.1
      back None i m e = cc
      back (Some ms) zero m e = cc
      back (Some ms) (suc i) m e = by.got_member ks once read ms i m e

  -- the content of an arm, where a number stands for the union
  pub content_decided : (o : Option Sort) (m : ℕ) → IsNumbered ks o m → (list : List ℕ) (arm n : ℕ) (s : Sort) → IsSort ks n s →
      Decides (content_fits (content_from ks Any (value_of ks m >>= tags_of ks) list arm) (value_of ks n)) (IsPlain s × FitsContent (ports.tags_of o) list arm s)
  content_decided o m is list arm n s h =
      let x = value_of ks m >>= tags_of ks in
      subst (λ b. Decides b (IsPlain s × FitsContent (ports.tags_of o) list arm s)) (sym (content_is ks Any x list arm (value_of ks n)))
      (by.and_decides (is_some (value_of ks n)) (tags_fit ks x list arm (value_of ks n)) (by.any ks once read n s h)
      (tags_decided ks x list arm (value_of ks n) (λ i. IsMember (ports.tags_of o) (suc i) s) (λ i. tag_decided o m is (suc i) n s h)))

  -- a union
  pub union_decided : (n : ℕ) (s : Sort) → IsSort ks n s → Decides (is_some (value_of ks n >>= tags_of ks)) ((ts : List Member) × (s ≡ Plain (ty.Uni ts)))
  union_decided n s h = by_sort (sort_form_at ks n) (read.sorts n s h)
    where
      other : (t : Ty) (kind : ℕ) → s ≡ Plain t → type_kind t ≡ kind → (kind == 7) ≡ false → ((ts : List Member) × (s ≡ Plain (ty.Uni ts))) → ⊥
      other t kind e x seven (ts, d) = no_kinds t (ty.Uni ts) kind 7 (plain_one t (ty.Uni ts) (sym e ∙ d)) x (kind_uni (ty.Uni ts) ts refl) seven

      by_type : (t : Ty) (f : TyForm) → s ≡ Plain t → IsTyForm ks t f → Decides (is_some (tags_in f)) ((ts : List Member) × (s ≡ Plain (ty.Uni ts)))
      by_type t form.Nothing e h = absurd h
      by_type t form.Boolean e h = never (other t 0 e (kind_bool t h) refl)
      by_type t form.Character e h = never (other t 1 e (kind_char t h) refl)
      by_type t form.Integer e h = never (other t 2 e (kind_int t h) refl)
      by_type t form.Null e h = never (other t 3 e (kind_null t h) refl)
      by_type t (form.Array k) e (a, d, i) = never (other t 4 e (kind_arr t a d) refl)
      by_type t (form.Stream k) e (a, d, i) = never (other t 5 e (kind_stream t a d) refl)
      by_type t (form.Record k) e (ms, d, i) = never (other t 6 e (kind_rec t ms d) refl)
      by_type t (form.Union k) e (ms, d, i) = (λ y. (ms, e ∙ ap (λ t. Plain t) d), λ r. refl)

      by_sort : (f : SortForm) → IsSortForm ks s f → Decides (is_some (value_in f >>= tags_of ks)) ((ts : List Member) × (s ≡ Plain (ty.Uni ts)))
      by_sort sort.Nothing h = absurd h
      by_sort (sort.Value k) (t, e, i) = by_type t (ty_form_at ks k) e (read.types k t i)
      by_sort (sort.Multiple k) (t, e, i) = never (λ r. let d = r.1 in cc)
      by_sort (sort.Function a b) (args, rs, e, ia, ib) = never (λ r. let d = r.1 in cc)
