-- Calls that are built in give by number what they give by type.
use Rattle.std.proofs.Common.{◌≡◌, ℕ, Bool, true, false, ◌&&◌, nat_eq, List, [], ◌∷◌, Option, Some, None, refl, sym, ap, subst, ◌∙◌}
use Rattle.std.specs.Option.{is_some, option_map}
use Rattle.std.specs.Prelude.{if◌then◌else◌}
use Rattle.std.proofs.lemmas.Bool.{eqb-true, eq-eqb}
use Rattle.flow_value.specs.declared.ty.Ty.{Ty}
use Rattle.flow_value.specs.declared.ty.Ty.TheVariants as ty
use Rattle.type_table.specs.declared.form.Form.{Form}
use Rattle.type_table.specs.declared.form.Form.TheVariants as form
use Rattle.type_table.specs.Tables.{IsTable}
use Rattle.typed_tree.specs.declared.built_in.BuiltIn.{BuiltIn}
use Rattle.typed_tree.specs.declared.built_in.BuiltIn.TheVariants as call
use Rattle.typed_tree.specs.Types.{IsNumber, AreNumbers, Gives, a_mod, an_abs, a_max, a_min, array_fill, array_addh, array_addl, array_remh, array_reml, array_setl, array_adjust, array_liml, array_limh, array_size, stream_append, stream_size, stream_empty, stream_first, stream_rest}
use Rattle.type_rules.specs.declared.head.Sort.{Sort}
use Rattle.type_rules.specs.declared.head.Sort.TheVariants as sort
use Rattle.type_rules.specs.declared.head.Container.{Container}
use Rattle.type_rules.specs.declared.head.Container.TheVariants as container
use Rattle.type_rules.specs.Parts.{element_in, is_part, sort_if}
use Rattle.type_rules.specs.Calls.{integer_pair, integer, filled, grown, shrunk, based, adjusted, measured, firsts, gives_of}
use Rattle.type_rules.specs.Typed.{AreSpelledOnce}
use Rattle.type_rules.proofs.Standing.{HasPart, one_number, one_type}
use Rattle.type_rules.proofs.Grown.{integer_is, boolean_is}
use Rattle.type_rules.proofs.Sorted.{StandsFor}
use Rattle.type_rules.proofs.Telling.{integer_tells, array_is, stream_is, array_has, stream_has}

abbrev pub made : Container → Ty → Ty
made container.Array t = ty.Arr t
made container.Stream t = ty.Stream t

-- ---- lists of numbers

record One (forms : List Form) (names : List (List ℕ)) (a : ℕ) (ts : List Ty) : Type 0 where
  t : Ty
  is : ts ≡ t ∷ []
  first : IsNumber forms names a t

record Two (forms : List Form) (names : List (List ℕ)) (a b : ℕ) (ts : List Ty) : Type 0 where
  t : Ty
  u : Ty
  is : ts ≡ t ∷ u ∷ []
  first : IsNumber forms names a t
  second : IsNumber forms names b u

record Three (forms : List Form) (names : List (List ℕ)) (a b c : ℕ) (ts : List Ty) : Type 0 where
  t : Ty
  u : Ty
  v : Ty
  is : ts ≡ t ∷ u ∷ v ∷ []
  first : IsNumber forms names a t
  second : IsNumber forms names b u
  third : IsNumber forms names c v

module _ (forms : List Form) (names : List (List ℕ)) where
  one : (a : ℕ) (ts : List Ty) → AreNumbers forms names (a ∷ []) ts → One forms names a ts
  one a [] p = absurd p
  one a (t ∷ []) p = record { t = t; is = refl; first = p.0 }
  one a (t ∷ u ∷ ts) p = absurd p.1

  two : (a b : ℕ) (ts : List Ty) → AreNumbers forms names (a ∷ b ∷ []) ts → Two forms names a b ts
  two a b [] p = absurd p
  two a b (t ∷ ts) p = let q = one b ts p.1 in record { t = t; u = q.t; is = ap (λ l. t ∷ l) q.is; first = p.0; second = q.first }

  three : (a b c : ℕ) (ts : List Ty) → AreNumbers forms names (a ∷ b ∷ c ∷ []) ts → Three forms names a b c ts
  three a b c [] p = absurd p
  three a b c (t ∷ ts) p =
      let q = two b c ts p.1 in record { t = t; u = q.t; v = q.u; is = ap (λ l. t ∷ l) q.is; first = p.0; second = q.first; third = q.second }
  -- the same from the types

sorted_if : (b : Bool) (n : ℕ) (s : Sort) → sort_if b n ≡ Some s → (b ≡ true) × (s ≡ sort.There n)
sorted_if true n s e = (refl, cc)
sorted_if false n s e = absurd cc

some_is : {A : Type 0} (o : Option A) → is_some o ≡ true → (x : A) × (o ≡ Some x)
some_is (Some x) e = (x, refl)
some_is None e = absurd cc

-- what a row gives of some types
abbrev pub Row : List Form → List (List ℕ) → Sort → List Ty → List Ty → Ty → Type 0
Row forms names s ts wanted t = (ts ≡ wanted) × StandsFor forms names s t

-- what a row of some types gives
module _ (forms : List Form) (names : List (List ℕ)) (table : IsTable forms) where
  int_at : (n : ℕ) (t : Ty) → IsNumber forms names n t → nat_eq n 2 ≡ true → t ≡ ty.Int
  int_at n t p = (integer_tells forms names table n t p).yes

  stands : (s : Sort) (n : ℕ) (t : Ty) → s ≡ sort.There n → IsNumber forms names n t → StandsFor forms names s t
  stands s n t e p = subst (λ s. StandsFor forms names s t) (sym e) p

  two_true : (a b : Bool) → (a && b) ≡ true → (a ≡ true) × (b ≡ true)
  two_true true b e = (refl, e)
  two_true false b e = absurd cc

  pub element_is : (c : Container) (n : ℕ) (t : Ty) → IsNumber forms names n t → (m : ℕ) → element_in forms c n ≡ Some m → HasPart forms names (made c) m t
  element_is container.Array n t p m e = array_is forms names table n t p m e
  element_is container.Stream n t p m e = stream_is forms names table n t p m e

  -- ---- rows on integers

  pair_row : (ns : List ℕ) (ts : List Ty) (s : Sort) → AreNumbers forms names ns ts → integer_pair ns ≡ Some s → Row forms names s ts (ty.Int ∷ ty.Int ∷ []) ty.Int
  pair_row [] ts s p e = absurd cc
  pair_row (a ∷ []) ts s p e = absurd cc
  pair_row (a ∷ b ∷ c ∷ ns) ts s p e = absurd cc
  pair_row (a ∷ b ∷ []) ts s p e =
      let q = two forms names a b ts p in
      let r = sorted_if (nat_eq a 2 && nat_eq b 2) 2 s e in
      let both = two_true (nat_eq a 2) (nat_eq b 2) r.0 in
      (q.is ∙ ap (λ x. x ∷ q.u ∷ []) (int_at a q.t q.first both.0) ∙ ap (λ y. ty.Int ∷ y ∷ []) (int_at b q.u q.second both.1), stands s 2 ty.Int r.1 (integer_is forms names table))

  single_row : (ns : List ℕ) (ts : List Ty) (s : Sort) → AreNumbers forms names ns ts → integer ns ≡ Some s → Row forms names s ts (ty.Int ∷ []) ty.Int
  single_row [] ts s p e = absurd cc
  single_row (a ∷ b ∷ ns) ts s p e = absurd cc
  single_row (a ∷ []) ts s p e =
      let q = one forms names a ts p in
      let r = sorted_if (nat_eq a 2) 2 s e in
      (q.is ∙ ap (λ x. x ∷ []) (int_at a q.t q.first r.0), stands s 2 ty.Int r.1 (integer_is forms names table))

  filled_row : (ns : List ℕ) (ts : List Ty) (s : Sort) → AreNumbers forms names ns ts → filled ns ≡ Some s → (e : Ty) × Row forms names s ts (ty.Int ∷ ty.Int ∷ e ∷ []) (ty.Arr e)
  filled_row [] ts s p e = absurd cc
  filled_row (a ∷ []) ts s p e = absurd cc
  filled_row (a ∷ b ∷ []) ts s p e = absurd cc
  filled_row (a ∷ b ∷ c ∷ d ∷ ns) ts s p e = absurd cc
  filled_row (a ∷ b ∷ c ∷ []) ts s p e =
      let q = three forms names a b c ts p in
      let r = made_if (nat_eq a 2 && nat_eq b 2) s e in
      let both = two_true (nat_eq a 2) (nat_eq b 2) r.0 in (
        q.v,
        (
          q.is ∙ ap (λ x. x ∷ q.u ∷ q.v ∷ []) (int_at a q.t q.first both.0) ∙ ap (λ y. ty.Int ∷ y ∷ q.v ∷ []) (int_at b q.u q.second both.1),
          subst (λ s. StandsFor forms names s (ty.Arr q.v)) (sym r.1) (record { part = q.v; is = refl; stands = q.third }),
        ),
      )
    where
      made_if : (x : Bool) (s : Sort) → (if x then Some (sort.Made (form.Array c)) else None) ≡ Some s → (x ≡ true) × (s ≡ sort.Made (form.Array c))
      made_if true s e = (refl, cc)
      made_if false s e = absurd cc

  -- ---- rows on containers

  is_same : (o : Option ℕ) (v : ℕ) → is_part o v ≡ true → (m : ℕ) × (o ≡ Some m) × (m ≡ v)
  is_same None v e = absurd cc
  is_same (Some m) v e = (m, refl, eqb-true m v e)

  grown_row : (c : Container) (ns : List ℕ) (ts : List Ty) (s : Sort) → AreNumbers forms names ns ts → grown forms c ns ≡ Some s → (e : Ty) × Row forms names s ts (made c e ∷ e ∷ []) (made c e)
  grown_row c [] ts s p e = absurd cc
  grown_row c (a ∷ []) ts s p e = absurd cc
  grown_row c (a ∷ v ∷ w ∷ ns) ts s p e = absurd cc
  grown_row c (a ∷ v ∷ []) ts s p e =
      let q = two forms names a v ts p in
      let r = sorted_if (is_part (element_in forms c a) v) a s e in
      let m = is_same (element_in forms c a) v r.0 in
      let h = element_is c a q.t q.first m.0 m.1 in
      let same : h.part ≡ q.u = one_type forms names v h.part q.u (subst (λ n. IsNumber forms names n h.part) m.2 h.stands) q.second in (
        h.part,
        (
          q.is ∙ ap (λ x. x ∷ q.u ∷ []) h.is ∙ ap (λ u. made c h.part ∷ u ∷ []) (sym same),
          stands s a (made c h.part) r.1 (subst (IsNumber forms names a) h.is q.first),
        ),
      )

  shrunk_row : (c : Container) (ns : List ℕ) (ts : List Ty) (s : Sort) → AreNumbers forms names ns ts → shrunk forms c ns ≡ Some s → (e : Ty) × Row forms names s ts (made c e ∷ []) (made c e)
  shrunk_row c [] ts s p e = absurd cc
  shrunk_row c (a ∷ b ∷ ns) ts s p e = absurd cc
  shrunk_row c (a ∷ []) ts s p e =
      let q = one forms names a ts p in
      let r = sorted_if (is_some (element_in forms c a)) a s e in
      let m = some_is (element_in forms c a) r.0 in
      let h = element_is c a q.t q.first m.0 m.1 in
      (h.part, (q.is ∙ ap (λ x. x ∷ []) h.is, stands s a (made c h.part) r.1 (subst (IsNumber forms names a) h.is q.first)))

  based_row : (ns : List ℕ) (ts : List Ty) (s : Sort) → AreNumbers forms names ns ts → based forms ns ≡ Some s → (e : Ty) × Row forms names s ts (ty.Arr e ∷ ty.Int ∷ []) (ty.Arr e)
  based_row [] ts s p e = absurd cc
  based_row (a ∷ []) ts s p e = absurd cc
  based_row (a ∷ b ∷ c ∷ ns) ts s p e = absurd cc
  based_row (a ∷ b ∷ []) ts s p e =
      let q = two forms names a b ts p in
      let r = sorted_if (is_some (element_in forms container.Array a) && nat_eq b 2) a s e in
      let both = two_true (is_some (element_in forms container.Array a)) (nat_eq b 2) r.0 in
      let m = some_is (element_in forms container.Array a) both.0 in
      let h = element_is container.Array a q.t q.first m.0 m.1 in (
        h.part,
        (
          q.is ∙ ap (λ x. x ∷ q.u ∷ []) h.is ∙ ap (λ y. ty.Arr h.part ∷ y ∷ []) (int_at b q.u q.second both.1),
          stands s a (ty.Arr h.part) r.1 (subst (IsNumber forms names a) h.is q.first),
        ),
      )

  adjusted_row : (ns : List ℕ) (ts : List Ty) (s : Sort) → AreNumbers forms names ns ts → adjusted forms ns ≡ Some s → (e : Ty) × Row forms names s ts (ty.Arr e ∷ ty.Int ∷ ty.Int ∷ []) (ty.Arr e)
  adjusted_row [] ts s p e = absurd cc
  adjusted_row (a ∷ []) ts s p e = absurd cc
  adjusted_row (a ∷ b ∷ []) ts s p e = absurd cc
  adjusted_row (a ∷ b ∷ c ∷ d ∷ ns) ts s p e = absurd cc
  adjusted_row (a ∷ b ∷ c ∷ []) ts s p e =
      let q = three forms names a b c ts p in
      let r = sorted_if (is_some (element_in forms container.Array a) && (nat_eq b 2 && nat_eq c 2)) a s e in
      let both = two_true (is_some (element_in forms container.Array a)) (nat_eq b 2 && nat_eq c 2) r.0 in
      let bounds = two_true (nat_eq b 2) (nat_eq c 2) both.1 in
      let m = some_is (element_in forms container.Array a) both.0 in
      let h = element_is container.Array a q.t q.first m.0 m.1 in (
        h.part,
        (
          q.is ∙ ap (λ x. x ∷ q.u ∷ q.v ∷ []) h.is ∙ ap (λ y. ty.Arr h.part ∷ y ∷ q.v ∷ []) (int_at b q.u q.second bounds.0)
              ∙ ap (λ z. ty.Arr h.part ∷ ty.Int ∷ z ∷ []) (int_at c q.v q.third bounds.1),
          stands s a (ty.Arr h.part) r.1 (subst (IsNumber forms names a) h.is q.first),
        ),
      )

  measured_row : (c : Container) (k : ℕ) (u : Ty) → IsNumber forms names k u → (ns : List ℕ) (ts : List Ty) (s : Sort) → AreNumbers forms names ns ts → measured forms c k ns ≡ Some s
      → (e : Ty) × Row forms names s ts (made c e ∷ []) u
  measured_row c k u known [] ts s p e = absurd cc
  measured_row c k u known (a ∷ b ∷ ns) ts s p e = absurd cc
  measured_row c k u known (a ∷ []) ts s p e =
      let q = one forms names a ts p in
      let r = sorted_if (is_some (element_in forms c a)) k s e in
      let m = some_is (element_in forms c a) r.0 in
      let h = element_is c a q.t q.first m.0 m.1 in
      (h.part, (q.is ∙ ap (λ x. x ∷ []) h.is, stands s k u r.1 known))

  firsts_row : (ns : List ℕ) (ts : List Ty) (s : Sort) → AreNumbers forms names ns ts → firsts forms ns ≡ Some s → (e : Ty) × Row forms names s ts (ty.Stream e ∷ []) e
  firsts_row [] ts s p e = absurd cc
  firsts_row (a ∷ b ∷ ns) ts s p e = absurd cc
  firsts_row (a ∷ []) ts s p e =
      let q = one forms names a ts p in
      let m = mapped (element_in forms container.Stream a) s e in
      let h = element_is container.Stream a q.t q.first m.0 m.1 in
      (h.part, (q.is ∙ ap (λ x. x ∷ []) h.is, stands s m.0 h.part m.2 h.stands))
    where
      mapped : (o : Option ℕ) (s : Sort) → option_map sort.There o ≡ Some s → (m : ℕ) × (o ≡ Some m) × (s ≡ sort.There m)
      mapped None s e = absurd cc
      mapped (Some m) s e = (m, refl, cc)

  -- ---- all calls

  -- with operands of these types a call gives a type, and by number its sort
  abbrev pub Called : BuiltIn → List Ty → Sort → Type 0
  Called b ts s = (t : Ty) × Gives b ts t × StandsFor forms names s t

  with_types : (b : BuiltIn) (ts wanted : List Ty) (t : Ty) (s : Sort) → Gives b wanted t → Row forms names s ts wanted t → Called b ts s
  with_types b ts wanted t s g row = (t, subst (λ l. Gives b l t) (sym row.0) g, row.1)

  pub call_gives : (b : BuiltIn) (ns : List ℕ) (ts : List Ty) (s : Sort) → AreNumbers forms names ns ts → gives_of forms b ns ≡ Some s → Called b ts s
  call_gives call.Mod ns ts s p e = with_types call.Mod ts _ ty.Int s a_mod (pair_row ns ts s p e)
  call_gives call.Max ns ts s p e = with_types call.Max ts _ ty.Int s a_max (pair_row ns ts s p e)
  call_gives call.Min ns ts s p e = with_types call.Min ts _ ty.Int s a_min (pair_row ns ts s p e)
  call_gives call.Abs ns ts s p e = with_types call.Abs ts _ ty.Int s an_abs (single_row ns ts s p e)
  call_gives call.ArrayFill ns ts s p e = let r = filled_row ns ts s p e in with_types call.ArrayFill ts _ _ s (array_fill r.0) r.1
  call_gives call.ArrayAddHigh ns ts s p e = let r = grown_row container.Array ns ts s p e in with_types call.ArrayAddHigh ts _ _ s (array_addh r.0) r.1
  call_gives call.ArrayAddLow ns ts s p e = let r = grown_row container.Array ns ts s p e in with_types call.ArrayAddLow ts _ _ s (array_addl r.0) r.1
  call_gives call.ArrayRemoveHigh ns ts s p e = let r = shrunk_row container.Array ns ts s p e in with_types call.ArrayRemoveHigh ts _ _ s (array_remh r.0) r.1
  call_gives call.ArrayRemoveLow ns ts s p e = let r = shrunk_row container.Array ns ts s p e in with_types call.ArrayRemoveLow ts _ _ s (array_reml r.0) r.1
  call_gives call.ArraySetLow ns ts s p e = let r = based_row ns ts s p e in with_types call.ArraySetLow ts _ _ s (array_setl r.0) r.1
  call_gives call.ArrayAdjust ns ts s p e = let r = adjusted_row ns ts s p e in with_types call.ArrayAdjust ts _ _ s (array_adjust r.0) r.1
  call_gives call.ArrayLimitLow ns ts s p e = let r = measured_row container.Array 2 ty.Int (integer_is forms names table) ns ts s p e in with_types call.ArrayLimitLow ts _ _ s (array_liml r.0) r.1
  call_gives call.ArrayLimitHigh ns ts s p e = let r = measured_row container.Array 2 ty.Int (integer_is forms names table) ns ts s p e in with_types call.ArrayLimitHigh ts _ _ s (array_limh r.0) r.1
  call_gives call.ArraySize ns ts s p e = let r = measured_row container.Array 2 ty.Int (integer_is forms names table) ns ts s p e in with_types call.ArraySize ts _ _ s (array_size r.0) r.1
  call_gives call.StreamAppend ns ts s p e = let r = grown_row container.Stream ns ts s p e in with_types call.StreamAppend ts _ _ s (stream_append r.0) r.1
  call_gives call.StreamSize ns ts s p e = let r = measured_row container.Stream 2 ty.Int (integer_is forms names table) ns ts s p e in with_types call.StreamSize ts _ _ s (stream_size r.0) r.1
  call_gives call.StreamEmpty ns ts s p e = let r = measured_row container.Stream 0 ty.Bool (boolean_is forms names table) ns ts s p e in with_types call.StreamEmpty ts _ _ s (stream_empty r.0) r.1
  call_gives call.StreamFirst ns ts s p e = let r = firsts_row ns ts s p e in with_types call.StreamFirst ts _ _ s (stream_first r.0) r.1
  call_gives call.StreamRest ns ts s p e = let r = shrunk_row container.Stream ns ts s p e in with_types call.StreamRest ts _ _ s (stream_rest r.0) r.1
  -- what a call gives by type it gives by number
