-- The types of what generators give, and the lower bound of arrays.
use Rattle.std.proofs.Common.{◌≡◌, ℕ, suc, true, false, List, [], ◌∷◌, map, sym, ap, subst}
use Rattle.flow_value.specs.declared.ty.Ty.{Ty}
use Rattle.flow_value.specs.declared.ty.Ty.TheOpen.{Ty-F}
use Rattle.flow_value.specs.declared.ty.Ty.TheVariants as ty
use Rattle.flow_value.specs.declared.ty.Ty.TheViews.{out-Ty}
use Rattle.type_table.specs.declared.form.Form.{Form}
use Rattle.typed_tree.specs.declared.expr.Source.{Source}
use Rattle.typed_tree.specs.Types.{IsNumber}
use Rattle.typed_tree.specs.Types as number
use Rattle.typed_values.specs.Fitting.{Goes, no_source, over_range, over_array, over_stream, over_array_at, over_stream_at}
use Rattle.lowering.specs.declared.feed.Carried.{Carried}
use Rattle.lowering.specs.declared.feed.Carried.TheVariants.{One, Many, Callee}
use Rattle.lowering.specs.declared.feed.Wire.{Wire}
use Rattle.lowering.specs.Graphs.{ports}
use Rattle.lowering.specs.Operations.{integer}
use Rattle.lowering.specs.Choices.{element_in, element_of, is_array, is_array_form, type_of}
use Rattle.lowering.specs.Loops.{single, types, generators_lowered}
use Rattle.lowered_units.proofs.BuiltTrees.{out-bool, out-char, out-int, out-null, out-array, out-stream, out-record, out-union}
use Rattle.lowering_meaning.proofs.Forms.{HasType, WiresOf}

module _ (forms : List Form) (spellings : List (List ℕ)) where
  -- ---- arrays and streams by number

  pub record ArrayNumber (n : ℕ) (a : Ty) : Type 0 where
    pub element : IsNumber forms spellings (element_of forms n) a
    pub array : is_array forms n ≡ true

  pub record StreamNumber (n : ℕ) (a : Ty) : Type 0 where
    pub element : IsNumber forms spellings (element_of forms n) a
    pub stream : is_array forms n ≡ false

  abbrev OfForm : ℕ → Ty-F Ty → Type 0
  OfForm n (Ty-F.Arr a) = ArrayNumber n a
  OfForm n (Ty-F.Stream a) = StreamNumber n a
  OfForm n _ = Unit {0}

  of-form : (n : ℕ) (t : Ty) → IsNumber forms spellings n t → OfForm n (out-Ty t)
  of-form n _ (number.boolean e) = subst (OfForm n) (sym out-bool) tt
  of-form n _ (number.character e) = subst (OfForm n) (sym out-char) tt
  of-form n _ (number.integer e) = subst (OfForm n) (sym out-int) tt
  of-form n _ (number.null e) = subst (OfForm n) (sym out-null) tt
  of-form n _ (number.array {t = t} e h) =
      subst (OfForm n) (sym (out-array t)) (record { element = subst (λ k. IsNumber forms spellings k t) (sym (ap element_in e)) h; array = ap is_array_form e })
  of-form n _ (number.stream {t = t} e h) =
      subst (OfForm n) (sym (out-stream t)) (record { element = subst (λ k. IsNumber forms spellings k t) (sym (ap element_in e)) h; stream = ap is_array_form e })
  of-form n _ (number.a_record {fs = fs} e h) = subst (OfForm n) (sym (out-record fs)) tt
  of-form n _ (number.a_union {fs = fs} e h) = subst (OfForm n) (sym (out-union fs)) tt

  pub array-number : (c : Carried) (a : Ty) → HasType forms spellings c (ty.Arr a) → ArrayNumber (type_of c) a
  array-number (One n) a h = subst (OfForm n) (out-array a) (of-form n (ty.Arr a) h)
  array-number (Many n) a h = absurd h
  array-number (Callee n) a h = absurd h

  pub stream-number : (c : Carried) (a : Ty) → HasType forms spellings c (ty.Stream a) → StreamNumber (type_of c) a
  stream-number (One n) a h = subst (OfForm n) (out-stream a) (of-form n (ty.Stream a) h)
  stream-number (Many n) a h = absurd h
  stream-number (Callee n) a h = absurd h

  -- ---- what generators give

  abbrev TypesOf : List Ty → List Carried → Type 0
  TypesOf [] [] = Unit {0}
  TypesOf (t ∷ ts) (c ∷ cs) = HasType forms spellings c t × TypesOf ts cs
  TypesOf _ _ = ⊥

  own-types : (n j : ℕ) (ts : List Ty) (cs : List Carried) → TypesOf ts cs → WiresOf forms spellings ts (ports n j cs)
  own-types n j [] [] h = tt
  own-types n j (t ∷ ts) (c ∷ cs) h = (h.0, own-types n (suc j) ts cs h.1)
  own-types n j [] (c ∷ cs) h = absurd h
  own-types n j (t ∷ ts) [] h = absurd h

  names-types : IsNumber forms spellings integer ty.Int → (ss : List Source) (tys xs : List Ty) → Goes ss tys xs → (ws : List Wire) (k q : ℕ) → WiresOf forms spellings tys ws → TypesOf xs (map single (types (generators_lowered forms ss ws k q).values))
  names-types int _ _ _ no_source ws k q w = tt
  names-types int _ _ _ (over_range {ss = ss} {bounds = bounds} {names = xs} g) (x ∷ y ∷ ws) k q w = (int, names-types int ss bounds xs g ws _ _ w.1.1)
  names-types int _ _ _ (over_array {ss = ss} {bounds = bounds} {names = xs} a g) (x ∷ ws) k q w = ((array-number x.ty a w.0).element, names-types int ss bounds xs g ws _ _ w.1)
  names-types int _ _ _ (over_stream {ss = ss} {bounds = bounds} {names = xs} a g) (x ∷ ws) k q w = ((stream-number x.ty a w.0).element, names-types int ss bounds xs g ws _ _ w.1)
  names-types int _ _ _ (over_array_at {ss = ss} {bounds = bounds} {names = xs} a g) (x ∷ ws) k q w = ((array-number x.ty a w.0).element, (int, names-types int ss bounds xs g ws _ _ w.1))
  names-types int _ _ _ (over_stream_at {ss = ss} {bounds = bounds} {names = xs} a g) (x ∷ ws) k q w = ((stream-number x.ty a w.0).element, (int, names-types int ss bounds xs g ws _ _ w.1))
  names-types int _ _ _ (over_range g) [] k q w = absurd w
  names-types int _ _ _ (over_range g) (x ∷ []) k q w = absurd w.1
  names-types int _ _ _ (over_array a g) [] k q w = absurd w
  names-types int _ _ _ (over_stream a g) [] k q w = absurd w
  names-types int _ _ _ (over_array_at a g) [] k q w = absurd w
  names-types int _ _ _ (over_stream_at a g) [] k q w = absurd w

  pub names-wired : IsNumber forms spellings integer ty.Int → (ss : List Source) (tys xs : List Ty) → Goes ss tys xs → (ws : List Wire) (k q j : ℕ) → WiresOf forms spellings tys ws → WiresOf forms spellings xs (ports 0 j (map single (types (generators_lowered forms ss ws k q).values)))
  names-wired int ss tys xs g ws k q j w = own-types 0 j xs _ (names-types int ss tys xs g ws k q w)
