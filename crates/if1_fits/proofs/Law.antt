-- The test decides what the table wants.
use Rattle.std.proofs.Common.{◌≡◌, ℕ, zero, suc, ◌<◌, ◌≤◌, ◌+◌, false, ◌&&◌, ◌||◌, ◌==◌, List, [], ◌∷◌, map, length, slice_get, Option, Some, None, ◌⊎◌, inl, inr, Decides, refl, sym, ap, ◌∙◌, subst, arith}
use Rattle.std.proofs.lemmas.Option.{same_Some}
use Rattle.flow_value.specs.declared.ty.Ty.{Ty}
use Rattle.flow_value.specs.declared.ty.Ty.TheVariants as ty
use Rattle.if1_graph.specs.declared.op.Reducer.{Reducer}
use Rattle.if1_graph.specs.declared.row.Want.{Want}
use Rattle.if1_graph.specs.declared.row.Want.TheVariants as want
use Rattle.if1_graph.specs.Tables.{◌>>=◌, at_port}
use Rattle.if1_graph.specs.Types.{Member, Sort, Plain, Many}
use Rattle.if1_graph.specs.Types as types
use Rattle.if1_graph.specs.Typing.{Known, Fits, IsBuilt, IsCarried, IsMember}
use Rattle.if1_graph.specs.Ports as ports
use Rattle.if1_types.specs.declared.forms.TyForm.{TyForm}
use Rattle.if1_types.specs.declared.forms.TyForm.TheVariants as form
use Rattle.if1_types.specs.declared.forms.ListForm.{ListForm}
use Rattle.if1_types.specs.declared.forms.ListForm.TheVariants as list
use Rattle.if1_types.specs.Shapes.{Key, tree_at, trees_in, members_in}
use Rattle.if1_types.specs.Forms.{IsTy, IsList, IsSort, IsTyForm, IsListForm, AreOnce, AreRead, ty_form_at, list_form_at}
use Rattle.if1_types.proofs.Views.{members_told}
use Rattle.if1_types.specs.Skips.{first_in, rest_in}
use Rattle.if1_fits.specs.Views.{value_of, fields_of, listed_at, are_same}
use Rattle.if1_fits.specs.Tests.{IsNumbered, fields_fit, some_tag_fits, is_built, is_built_value, fits_at}
use Rattle.if1_fits.proofs.Viewed.{View, same_views, value_view, either_way, no_kinds, type_kind, kind_bool, kind_char, kind_int, kind_null, kind_arr, kind_stream, kind_rec, kind_uni, fields_are, rec_one, uni_one}
use Rattle.if1_fits.proofs.Decided as by

plain_one : (t u : Ty) → Plain t ≡ Plain u → t ≡ u
plain_one t u e = cc

module _ (ks : List Key) (once : AreOnce ks) (read : AreRead ks) where
  -- ---- fields by number

  fields_view : (o : Option Sort) (m : ℕ) → IsNumbered ks o m
      → by.ListView ks once read (value_of ks m >>= fields_of ks) (ports.fields_of o >>= λ ms. Some (map (λ m. m.1) ms))
  fields_view None m is = subst (λ m. by.ListView ks once read (value_of ks m >>= fields_of ks) None) (sym is) refl
  fields_view (Some r) m is = at (value_of ks m) (value_view ks read m r is)
    where
      at : (x : Option ℕ) → View ks x (λ t. r ≡ Plain t) → by.ListView ks once read (x >>= fields_of ks) (ports.fields_of (Some r) >>= λ ms. Some (map (λ m. m.1) ms))
      at None none = no_value r none
        where
          no_value : (r : Sort) → ((t : Ty) → r ≡ Plain t → ⊥) → (ports.fields_of (Some r) >>= λ ms. Some (map (λ m. m.1) ms)) ≡ None
          no_value (Plain t) n = absurd (n t refl)
          no_value (Many t) n = refl
          no_value (types.Function args rs) n = refl
      at (Some k) (t, e, i) = fields_are ks read k t r e i

  pub field : (o : Option Sort) (m : ℕ) → IsNumbered ks o m → (i n : ℕ) (s : Sort) → IsSort ks n s
      → Decides (are_same (listed_at ks (value_of ks m >>= fields_of ks) i) (value_of ks n)) (IsMember (ports.fields_of o) i s)
  field o m is i n s h =
      either_way (are_same (listed_at ks (value_of ks m >>= fields_of ks) i) (value_of ks n))
      (by.listed_value ks once read (value_of ks m >>= fields_of ks) (ports.fields_of o >>= λ ms. Some (map (λ m. m.1) ms)) (fields_view o m is) i n s h)
      (λ r. let q = there (ports.fields_of o) i r.0 r.1 in (q.0, q.1, r.2 ∙ ap (λ t. Plain t) (sym q.2)))
      (λ r. (r.0.1, back (ports.fields_of o) i r.0 r.1, r.2))
    where
      there : (ms : Option (List Member)) (i : ℕ) (t : Ty) → ((ms >>= λ ms. Some (map (λ m. m.1) ms)) >>= at_port i) ≡ Some t → (m : Member) × ((ms >>= at_port i) ≡ Some m) × (m.1 ≡ t)
      there None i t e = cc
      there (Some ms) zero t e = cc
      there (Some ms) (suc i) t e = by.member_got ks once read ms i t e

      back : (ms : Option (List Member)) (i : ℕ) (m : Member) → (ms >>= at_port i) ≡ Some m → ((ms >>= λ ms. Some (map (λ m. m.1) ms)) >>= at_port i) ≡ Some m.1
      back None i m e = cc
      back (Some ms) zero m e = cc
      back (Some ms) (suc i) m e = by.got_member ks once read ms i m e

  -- ---- what is built

  module _ (at : ℕ → ℕ) (k : Known) (known : (port : ℕ) → IsNumbered ks (k.at port) (at port)) where
    abbrev AllCarried : ℕ → List Ty → Type 0
    AllCarried port ts = (i : ℕ) (t : Ty) → slice_get ts i ≡ Some t → k.at (port + i) ≡ Some (Plain t)

    abbrev SomeCarried : ℕ → List Ty → Type 0
    SomeCarried port ts = (i : ℕ) × (t : Ty) × (slice_get ts i ≡ Some t) × (k.at (port + i) ≡ Some (Plain t))

    first_same : (m port : ℕ) (t : Ty) → IsTy ks m t → Decides (are_same (Some m) (value_of ks (at port))) (k.at port ≡ Some (Plain t))
    first_same m port t i =
        either_way (are_same (Some m) (value_of ks (at port)))
        (same_views ks once (by.one ks once read) (Some m) (value_of ks (at port)) (λ u. t ≡ u) (λ u. k.at port ≡ Some (Plain u)) (λ u v a b. sym a ∙ b)
        (by.carried_only ks once read (k.at port)) (t, refl, i) (by.carried_view ks once read (k.at port) (at port) (known port)))
        (λ r. r.2 ∙ ap (λ u. Some (Plain u)) (sym r.1)) (λ e. (t, refl, e))

    heads : {t u : Ty} {ts us : List Ty} → t ∷ ts ≡ u ∷ us → t ≡ u
    heads e = cc

    tails : {t u : Ty} {ts us : List Ty} → t ∷ ts ≡ u ∷ us → ts ≡ us
    tails e = cc

    nothing : {A : Type 0} (i : ℕ) (t : Ty) → slice_get [] i ≡ Some t → A
    nothing i t e = cc

    here : (port : ℕ) (t : Ty) → k.at port ≡ Some (Plain t) → k.at (port + 0) ≡ Some (Plain t)
    here port t e = let same : port + 0 ≡ port = omega arith in ap k.at same ∙ e

    fields_decided : (ts : List Ty) (l port : ℕ) → IsList ks l ts → Decides (fields_fit ks at (length ts) l port) (AllCarried port ts)
    fields_decided [] l port h = (λ e i t g. nothing i t g, λ r. refl)
    fields_decided (t ∷ ts) l port h = go (list_form_at ks l) (read.lists l (t ∷ ts) h) (fields_decided ts)
      where
        go : (f : ListForm) → IsListForm ks (t ∷ ts) f → ((l port : ℕ) → IsList ks l ts → Decides (fields_fit ks at (length ts) l port) (AllCarried port ts))
            → Decides (are_same (first_in f) (value_of ks (at port)) && elim (rest_in f) [ None ↦ false | Some rest ↦ fields_fit ks at (length ts) rest (suc port) ]) (AllCarried port (t ∷ ts))
        go list.End e more = cc
        go (list.Member m rest) (u, others, e, i, r) more =
            either_way (are_same (Some m) (value_of ks (at port)) && fields_fit ks at (length ts) rest (suc port))
            (by.and_decides (are_same (Some m) (value_of ks (at port))) (fields_fit ks at (length ts) rest (suc port)) (first_same m port u i) (more rest (suc port) (subst (IsList ks rest) (sym (tails e)) r)))
            forth (λ c. (back c, λ j v g. let same : suc port + j ≡ port + suc j = omega arith in ap k.at same ∙ c (suc j) v g))
          where
            forth : (k.at port ≡ Some (Plain u)) × AllCarried (suc port) ts → AllCarried port (t ∷ ts)
            forth (a, b) zero v g = here port v (a ∙ ap (λ t. Some (Plain t)) (sym (heads e) ∙ same_Some t v g))
            forth (a, b) (suc j) v g = let same : port + suc j ≡ suc port + j = omega arith in ap k.at same ∙ b j v g

            back : AllCarried port (t ∷ ts) → k.at port ≡ Some (Plain u)
            back c = let same : port ≡ port + 0 = omega arith in ap k.at same ∙ c 0 t refl ∙ ap (λ t. Some (Plain t)) (heads e)

    tags_decided : (ts : List Ty) (l port : ℕ) → IsList ks l ts → Decides (some_tag_fits ks at (length ts) l port) (SomeCarried port ts)
    tags_decided [] l port h = (λ e. cc, λ r. nothing r.0 r.1 r.2)
    tags_decided (t ∷ ts) l port h = go (list_form_at ks l) (read.lists l (t ∷ ts) h) (tags_decided ts)
      where
        go : (f : ListForm) → IsListForm ks (t ∷ ts) f → ((l port : ℕ) → IsList ks l ts → Decides (some_tag_fits ks at (length ts) l port) (SomeCarried port ts))
            → Decides (are_same (first_in f) (value_of ks (at port)) || elim (rest_in f) [ None ↦ false | Some rest ↦ some_tag_fits ks at (length ts) rest (suc port) ]) (SomeCarried port (t ∷ ts))
        go list.End e more = cc
        go (list.Member m rest) (u, others, e, i, r) more =
            either_way (are_same (Some m) (value_of ks (at port)) || some_tag_fits ks at (length ts) rest (suc port))
            (by.or_decides (are_same (Some m) (value_of ks (at port))) (some_tag_fits ks at (length ts) rest (suc port)) (first_same m port u i) (more rest (suc port) (subst (IsList ks rest) (sym (tails e)) r)))
            forth back
          where
            forth : (k.at port ≡ Some (Plain u)) ⊎ SomeCarried (suc port) ts → SomeCarried port (t ∷ ts)
            forth (inl a) = (0, t, refl, here port t (a ∙ ap (λ t. Some (Plain t)) (sym (heads e))))
            forth (inr (j, v, g, x)) = let same : port + suc j ≡ suc port + j = omega arith in (suc j, v, g, ap k.at same ∙ x)

            back : SomeCarried port (t ∷ ts) → (k.at port ≡ Some (Plain u)) ⊎ SomeCarried (suc port) ts
            back (zero, v, g, x) = let same : port ≡ port + 0 = omega arith in inl (ap k.at same ∙ x ∙ ap (λ t. Some (Plain t)) (sym (same_Some t v g) ∙ heads e))
            back (suc j, v, g, x) = let same : suc port + j ≡ port + suc j = omega arith in inr (j, v, g, ap k.at same ∙ x)

    -- ---- in the words of the rule

    carried_as : (o : Option Sort) (t : Ty) (P : Sort → Type 0) → o ≡ Some (Plain t) → P (Plain t) → IsCarried o P
    carried_as o t P e p = subst (λ o. IsCarried o P) (sym e) p

    got_within : (ms : List Member) (i : ℕ) → i < length ms → (m : Member) × (slice_get ms i ≡ Some m)
    got_within [] i h = absurd (omega (arith, h))
    got_within (m ∷ ms) zero h = (m, refl)
    got_within (m ∷ ms) (suc i) h = got_within ms i (omega (arith, h))

    within : (ms : List Member) (i : ℕ) (m : Member) → slice_get ms i ≡ Some m → i < length ms
    within [] i m e = cc
    within (d ∷ ms) zero m e = omega arith
    within (d ∷ ms) (suc i) m e = let w = within ms i m e in omega (arith, w)

    fields_to : (fs : List Member) → AllCarried 1 (map (λ m. m.1) fs) → (n : ℕ) → 1 ≤ n → n ≤ length fs → IsCarried (k.at n) (IsMember (Some fs) n)
    fields_to fs c zero least most = absurd (omega (arith, least))
    fields_to fs c (suc i) least most =
        let m = got_within fs i (omega (arith, most)) in
        let same : suc i ≡ 1 + i = omega arith in
        carried_as (k.at (suc i)) m.0.1 (IsMember (Some fs) (suc i)) (ap k.at same ∙ c i m.0.1 (by.got_member ks once read fs i m.0 m.1)) (m.0, m.1, refl)

    carried_member : (o : Option Sort) (fs : List Member) (i : ℕ) (m : Member) → slice_get fs i ≡ Some m → IsCarried o (IsMember (Some fs) (suc i)) → o ≡ Some (Plain m.1)
    carried_member None fs i m e c = absurd c
    carried_member (Some r) fs i m e (d, g, x) = ap Some (x ∙ ap (λ (m : Member). Plain m.1) (same_Some d m (sym g ∙ e)))

    fields_from : (fs : List Member) → ((n : ℕ) → 1 ≤ n → n ≤ length fs → IsCarried (k.at n) (IsMember (Some fs) n)) → AllCarried 1 (map (λ m. m.1) fs)
    fields_from fs c i t g =
        let m = by.member_got ks once read fs i t g in
        let w = within fs i m.0 m.1 in
        let same : 1 + i ≡ suc i = omega arith in
        ap k.at same ∙ carried_member (k.at (suc i)) fs i m.0 m.1 (c (suc i) (omega arith) (omega (arith, w))) ∙ ap (λ t. Some (Plain t)) m.2

    tag_to : (fs : List Member) → SomeCarried 1 (map (λ m. m.1) fs) → (n : ℕ) × IsCarried (k.at n) (IsMember (Some fs) n)
    tag_to fs (i, t, g, x) =
        let m = by.member_got ks once read fs i t g in
        let same : suc i ≡ 1 + i = omega arith in
        (suc i, carried_as (k.at (suc i)) m.0.1 (IsMember (Some fs) (suc i)) (ap k.at same ∙ x ∙ ap (λ t. Some (Plain t)) (sym m.2)) (m.0, m.1, refl))

    member_there : (o : Option Sort) (fs : List Member) (n : ℕ) → IsCarried o (IsMember (Some fs) n) → (i : ℕ) × (m : Member) × (n ≡ suc i) × (slice_get fs i ≡ Some m)
    member_there None fs n c = absurd c
    member_there (Some r) fs zero (m, e, x) = cc
    member_there (Some r) fs (suc i) (m, e, x) = (i, m, refl, e)

    tag_from : (fs : List Member) (n : ℕ) → IsCarried (k.at n) (IsMember (Some fs) n) → SomeCarried 1 (map (λ m. m.1) fs)
    tag_from fs n c =
        let q = member_there (k.at n) fs n c in
        let same : 1 + q.0 ≡ suc q.0 = omega arith in
        (q.0, q.1.1, by.got_member ks once read fs q.0 q.1 q.3, ap k.at same ∙ carried_member (k.at (suc q.0)) fs q.0 q.1 q.3 (subst (λ n. IsCarried (k.at n) (IsMember (Some fs) n)) q.2 c))

    -- ---- records and unions

    counted : (l : ℕ) (ts : List Ty) → IsList ks l ts → members_in (tree_at (trees_in ks) l) ≡ length ts
    counted l ts h = ap members_in h.stands.is ∙ members_told ts

    not_built : (s : Sort) (t : Ty) (kind : ℕ) → s ≡ Plain t → type_kind t ≡ kind → (kind == 6) ≡ false → (kind == 7) ≡ false → IsBuilt k.at s → ⊥
    not_built s t kind e x six seven (inl (fs, d, c)) = no_kinds t (ty.Rec fs) kind 6 (plain_one t (ty.Rec fs) (sym e ∙ d)) x (kind_rec (ty.Rec fs) fs refl) six
    not_built s t kind e x six seven (inr (ts, n, d, c)) = no_kinds t (ty.Uni ts) kind 7 (plain_one t (ty.Uni ts) (sym e ∙ d)) x (kind_uni (ty.Uni ts) ts refl) seven

    never : {P : Type 0} → (P → ⊥) → Decides false P
    never f = (λ e. cc, λ p. absurd (f p))

    built_by : (s : Sort) (t : Ty) (f : TyForm) → s ≡ Plain t → IsTyForm ks t f → Decides (is_built ks at f) (IsBuilt k.at s)
    built_by s t form.Nothing e h = absurd h
    built_by s t form.Boolean e h = never (not_built s t 0 e (kind_bool t h) refl refl)
    built_by s t form.Character e h = never (not_built s t 1 e (kind_char t h) refl refl)
    built_by s t form.Integer e h = never (not_built s t 2 e (kind_int t h) refl refl)
    built_by s t form.Null e h = never (not_built s t 3 e (kind_null t h) refl refl)
    built_by s t (form.Array m) e (a, d, i) = never (not_built s t 4 e (kind_arr t a d) refl refl)
    built_by s t (form.Stream m) e (a, d, i) = never (not_built s t 5 e (kind_stream t a d) refl refl)
    built_by s t (form.Record l) e (ms, d, il) =
        either_way (fields_fit ks at (members_in (tree_at (trees_in ks) l)) l 1)
        (subst (λ count. Decides (fields_fit ks at count l 1) (AllCarried 1 (map (λ m. m.1) ms))) (sym (counted l (map (λ m. m.1) ms) il)) (fields_decided (map (λ m. m.1) ms) l 1 il))
        (λ c. inl (ms, e ∙ ap (λ t. Plain t) d, fields_to ms c)) back
      where
        back : IsBuilt k.at s → AllCarried 1 (map (λ m. m.1) ms)
        back (inl (fs, x, c)) =
            let same : fs ≡ ms = rec_one fs ms (plain_one (ty.Rec fs) (ty.Rec ms) (sym x ∙ e ∙ ap (λ t. Plain t) d)) in
            subst (λ fs. AllCarried 1 (map (λ m. m.1) fs)) same (fields_from fs c)
        back (inr (ts, n, x, c)) = no_kinds (ty.Rec ms) (ty.Uni ts) 6 7 (plain_one (ty.Rec ms) (ty.Uni ts) (sym (e ∙ ap (λ t. Plain t) d) ∙ x)) (kind_rec (ty.Rec ms) ms refl) (kind_uni (ty.Uni ts) ts refl) refl
    built_by s t (form.Union l) e (ms, d, il) =
        either_way (some_tag_fits ks at (members_in (tree_at (trees_in ks) l)) l 1)
        (subst (λ count. Decides (some_tag_fits ks at count l 1) (SomeCarried 1 (map (λ m. m.1) ms))) (sym (counted l (map (λ m. m.1) ms) il)) (tags_decided (map (λ m. m.1) ms) l 1 il))
        (λ c. let q = tag_to ms c in inr (ms, q.0, e ∙ ap (λ t. Plain t) d, q.1)) back
      where
        back : IsBuilt k.at s → SomeCarried 1 (map (λ m. m.1) ms)
        back (inl (fs, x, c)) = no_kinds (ty.Uni ms) (ty.Rec fs) 7 6 (plain_one (ty.Uni ms) (ty.Rec fs) (sym (e ∙ ap (λ t. Plain t) d) ∙ x)) (kind_uni (ty.Uni ms) ms refl) (kind_rec (ty.Rec fs) fs refl) refl
        back (inr (ts, n, x, c)) =
            let same : ts ≡ ms = uni_one ts ms (plain_one (ty.Uni ts) (ty.Uni ms) (sym x ∙ e ∙ ap (λ t. Plain t) d)) in
            subst (λ ts. SomeCarried 1 (map (λ m. m.1) ts)) same (tag_from ts n c)

    pub built : (n : ℕ) (s : Sort) → IsSort ks n s → Decides (is_built_value ks at (value_of ks n)) (IsBuilt k.at s)
    built n s h = go (value_of ks n) (value_view ks read n s h)
      where
        none : ((t : Ty) → s ≡ Plain t → ⊥) → IsBuilt k.at s → ⊥
        none no_value (inl (fs, x, c)) = no_value (ty.Rec fs) x
        none no_value (inr (ts, n, x, c)) = no_value (ty.Uni ts) x

        go : (x : Option ℕ) → View ks x (λ t. s ≡ Plain t) → Decides (is_built_value ks at x) (IsBuilt k.at s)
        go None v = never (none v)
        go (Some m) (t, e, i) = built_by s t (ty_form_at ks m) e (read.types m t i)

    -- ---- each want

    pub decided : (callee : ℕ) (named : Option Reducer) → IsNumbered ks k.callee callee → k.reducer ≡ named → (w : Want) (n : ℕ) (s : Sort) → IsSort ks n s
        → Decides (fits_at ks at callee named w n) (Fits k w s)
    decided callee named f r want.Integer n s h = by.integer ks once read n s h
    decided callee named f r want.Boolean n s h = by.boolean ks once read n s h
    decided callee named f r want.Character n s h = by.character ks once read n s h
    decided callee named f r want.IntegerOrBoolean n s h = by.or_decides _ _ (by.integer ks once read n s h) (by.boolean ks once read n s h)
    decided callee named f r want.IntegerOrCharacter n s h = by.or_decides _ _ (by.integer ks once read n s h) (by.character ks once read n s h)
    decided callee named f r want.Discrete n s h =
        by.or_decides _ _ (by.integer ks once read n s h) (by.or_decides _ _ (by.boolean ks once read n s h) (by.character ks once read n s h))
    decided callee named f r want.Scalar n s h =
        by.or_decides _ _ (by.integer ks once read n s h)
        (by.or_decides _ _ (by.boolean ks once read n s h) (by.or_decides _ _ (by.character ks once read n s h) (by.null ks once read n s h)))
    decided callee named f r want.Any n s h = by.any ks once read n s h
    decided callee named f r want.Array n s h = by.array ks once read n s h
    decided callee named f r want.Stream n s h = by.stream ks once read n s h
    decided callee named f r want.Sequence n s h = by.sequence ks once read n s h
    decided callee named f r want.Record n s h = by.record_is ks once read n s h
    decided callee named f r want.Multiple n s h = by.multiple ks once read n s h
    decided callee named f r want.Integers n s h = by.integers ks once read n s h
    decided callee named f r want.Booleans n s h = by.booleans ks once read n s h
    decided callee named f r want.Reducible n s h =
        subst (λ named. Decides (fits_at ks at callee named want.Reducible n) (Fits k want.Reducible s)) r (by.reducible ks once read n s h k.reducer)
    decided callee named f r want.Function n s h = by.function ks once read n s h k.callee callee f
    decided callee named f r want.Reduction n s h = by.integer ks once read n s h
    decided callee named f r (want.Same port) n s h = by.same ks once read n s h (k.at port) (at port) (known port)
    decided callee named f r (want.Element port) n s h = by.element ks once read n s h (k.at port) (at port) (known port)
    decided callee named f r (want.ArrayOf port) n s h = by.array_of_carried ks once read n s h (k.at port) (at port) (known port)
    decided callee named f r (want.SequenceOf port) n s h = by.sequence_of_carried ks once read n s h (k.at port) (at port) (known port)
    decided callee named f r (want.SequenceOfElements port) n s h = by.sequence_of_elements ks once read n s h (k.at port) (at port) (known port)
    decided callee named f r (want.Elements port) n s h = by.elements ks once read n s h (k.at port) (at port) (known port)
    decided callee named f r want.Built n s h = built n s h
    decided callee named f r (want.Argument i) n s h = by.argument ks once read k.callee callee f i n s h
    decided callee named f r (want.Output i) n s h = by.result_at ks once read k.callee callee f i n s h
    decided callee named f r (want.FieldOf i) n s h = field (k.at 1) (at 1) (known 1) i n s h
