-- In a typed program each clause of a `for initial` has one value, and so has each clause of a `for` with a mask; and no field of a
-- record is replaced twice at once.
use Rattle.std.proofs.Common.{◌≡◌, ℕ, zero, suc, Bool, true, false, ◌&&◌, ◌||◌, List, [], ◌∷◌, ◌++◌, map, Option, Some, None, slice_get, length, refl, sym, ap, subst, ◌∙◌}
use Rattle.std.specs.Prelude.{nat_eq, if◌then◌else◌, Contains}
use Rattle.std.proofs.lemmas.Bool.{eqb-true}
use Rattle.if1_marks.proofs.Lists.{here, there}
use Rattle.typed_values.specs.Leaves.{AreNamesOnce}
use Rattle.flow_value.specs.declared.ty.Ty.{Ty}
use Rattle.flow_value.specs.declared.ty.Ty.TheVariants as ty
use Rattle.flow_value.specs.declared.operation.Scalar1.TheVariants as one
use Rattle.type_table.specs.declared.form.Form.{Form}
use Rattle.sisal_tree.specs.declared.unit.Written.{Written}
use Rattle.sisal_tree.specs.declared.unit.FunKind.{FunKind}
use Rattle.sisal_tree.specs.declared.unit.Unit as tree
use Rattle.sisal_tree.specs.declared.expr.Expr.{Expr}
use Rattle.sisal_tree.specs.declared.expr.FieldValue.{FieldValue}
use Rattle.sisal_tree.specs.declared.expr.Def.{Def}
use Rattle.sisal_tree.specs.declared.expr.Arm.{Arm}
use Rattle.sisal_tree.specs.declared.expr.Generator.{Generator}
use Rattle.sisal_tree.specs.declared.expr.Clause.{Clause}
use Rattle.sisal_tree.specs.declared.expr.Scalar.{Scalar}
use Rattle.sisal_tree.specs.declared.expr.Scalar.TheVariants as scalar
use Rattle.sisal_tree.specs.declared.expr.PrefixOperator.{PrefixOperator}
use Rattle.sisal_tree.specs.declared.expr.PrefixOperator.TheVariants as prefix
use Rattle.sisal_tree.specs.declared.expr.BinaryOperator.{BinaryOperator}
use Rattle.sisal_tree.specs.declared.expr.BinaryOperator.TheVariants as binary
use Rattle.typed_tree.specs.declared.built_in.BuiltIn.{BuiltIn}
use Rattle.typed_tree.specs.declared.built_in.BuiltIn.TheVariants as call
use Rattle.value_ops.specs.declared.operation.Operation.{Operation}
use Rattle.value_ops.specs.declared.operation.Operation.TheVariants as op
use Rattle.typed_tree.specs.declared.expr.TypedExpr.{TypedExpr}
use Rattle.typed_tree.specs.declared.expr.TypedKind.{TypedKind}
use Rattle.typed_tree.specs.declared.expr.TypedKind.TheVariants as typed
use Rattle.typed_tree.specs.declared.expr.TypedKind.TheViews.{roll-TypedKind}
use Rattle.typed_tree.specs.declared.expr.TypedKind.TheOpen.{TypedKind-F}
use Rattle.typed_tree.specs.declared.expr.Case.{Case}
use Rattle.typed_tree.specs.declared.expr.Product.{Product}
use Rattle.typed_tree.specs.declared.expr.Turns.{Turns}
use Rattle.typed_tree.specs.declared.expr.Source.{Source}
use Rattle.typed_tree.specs.declared.expr.ClauseForm.{ClauseForm}
use Rattle.typed_tree.specs.declared.program.Function.{Function}
use Rattle.typed_tree.specs.Scopes.{Scope, AreDistinct, define_all, targets, in_turn, renewals}
use Rattle.typed_tree.specs.Types.{Member, AreNumbers}
use Rattle.typed_tree.specs.Operations.{prefix_operation, binary_operation, convert_operation, built_in_operation}
use Rattle.typed_tree.specs.Typing as rule
use Rattle.typed_tree.specs.Typing.{Signature, Known, Has, with, names_in, loop_of, named_arms, with_content, Folds, Types, AreTyped, Replaces, HasFields, Defines, Crosses, Generates, AreClauses, IsMask, AreArms, IsOtherwise}
use Rattle.typed_tree.specs.Units as units
use Rattle.typed_tree.specs.Units.{Declared, known, denotes, HasBody, IsFunctionOf, AreFunctionsOf}
use Rattle.lowering.specs.Loops.{unless_places}
use Rattle.lowering_meaning.specs.Coverage.{Coverage, all_ok, each_ok, counts, verdict, kind_covered, no_true, all_one, masks_alone, is_in, all_apart, is_plain_operation, plain_forms}
use Rattle.lowering_meaning.specs.Laws.{AreTypedCovered}
use Rattle.lowering_meaning.proofs.Layers.{parts_covered, covered-is, count-is}

both : (a b : Bool) → a ≡ true → b ≡ true → (a && b) ≡ true
both true b e f = f
both false b e f = absurd cc

second : (a b : Bool) → b ≡ true → (a || b) ≡ true
second true b e = refl
second false b e = e

first : (a b : Bool) → a ≡ true → (a || b) ≡ true
first true b e = refl
first false b e = absurd cc

counted : (forms : List Form) (spellings : List (List ℕ)) (ns : List ℕ) (tys : List Ty) → AreNumbers forms spellings ns tys → length ns ≡ length tys
counted forms spellings [] [] h = refl
counted forms spellings [] (t ∷ tys) h = absurd h
counted forms spellings (n ∷ ns) [] h = absurd h
counted forms spellings (n ∷ ns) (t ∷ tys) h = ap suc (counted forms spellings ns tys h.1)

-- what goes over the results of a loop inside has no mask
folds-open : (cs : List Clause) (tys : List Ty) (forms : List ClauseForm) (made : List Ty) → Folds cs tys forms made → no_true (unless_places forms) ≡ true
folds-open _ _ _ _ rule.no_clause = refl
folds-open _ _ _ _ (rule.a_clause l e m {cs = cs} {tys = tys} {made = made} {forms = forms} h d f) = folds-open cs tys forms made f

-- ---- operations

built-in-plain : (b : BuiltIn) → is_plain_operation (built_in_operation b) ≡ true
built-in-plain call.Mod = refl
built-in-plain call.Abs = refl
built-in-plain call.Max = refl
built-in-plain call.Min = refl
built-in-plain call.ArrayFill = refl
built-in-plain call.ArrayAddHigh = refl
built-in-plain call.ArrayAddLow = refl
built-in-plain call.ArrayRemoveHigh = refl
built-in-plain call.ArrayRemoveLow = refl
built-in-plain call.ArraySetLow = refl
built-in-plain call.ArrayAdjust = refl
built-in-plain call.ArrayLimitLow = refl
built-in-plain call.ArrayLimitHigh = refl
built-in-plain call.ArraySize = refl
built-in-plain call.StreamAppend = refl
built-in-plain call.StreamSize = refl
built-in-plain call.StreamEmpty = refl
built-in-plain call.StreamFirst = refl
built-in-plain call.StreamRest = refl

convert-plain : (c : Scalar) → is_plain_operation (convert_operation c) ≡ true
convert-plain scalar.Integer = refl
convert-plain scalar.Boolean = refl
convert-plain scalar.Character = refl

prefix-plain : (o : PrefixOperator) → is_plain_operation (prefix_operation o) ≡ true
prefix-plain prefix.Negate = refl
prefix-plain prefix.Not = refl

binary-plain : (o : BinaryOperator) → is_plain_operation (binary_operation o) ≡ true
binary-plain binary.Or = refl
binary-plain binary.And = refl
binary-plain binary.Equal = refl
binary-plain binary.NotEqual = refl
binary-plain binary.Less = refl
binary-plain binary.LessEqual = refl
binary-plain binary.Greater = refl
binary-plain binary.GreaterEqual = refl
binary-plain binary.Catenate = refl
binary-plain binary.Plus = refl
binary-plain binary.Minus = refl
binary-plain binary.Times = refl
binary-plain binary.Divide = refl

module _ (k : Known) (denotes : Written → Ty → Type 0) where
  abbrev Numbers : List ℕ → List Ty → Type 0
  Numbers = AreNumbers k.forms k.spellings

  crossed-number : (s : Scope) (l : ℕ) (gs : List (List Generator)) (ds : List Def) (cs : List Clause) (t : TypedExpr) (tys : List Ty) → Crosses k denotes s l gs ds cs t tys → Numbers t.types tys
  crossed-number s l _ ds cs _ tys (rule.one_group p d q e c n) = n.each
  crossed-number s l _ ds cs _ tys (rule.a_group p d q f n) = n.each

  number-of : (s : Scope) (e : Expr) (t : TypedExpr) (tys : List Ty) → Types k denotes s e t tys → Numbers t.types tys
  number-of s _ _ _ (rule.constant n) = n.each
  number-of s _ _ _ (rule.name h n) = n.each
  number-of s _ _ _ (rule.old h n) = n.each
  number-of s _ _ _ (rule.group p n) = n.each
  number-of s _ _ _ (rule.call h p n) = n.each
  number-of s _ _ _ (rule.built_in h p g d n) = n.each
  number-of s _ _ _ (rule.convert p h n) = n.each
  number-of s _ _ _ (rule.error_of h n) = n.each
  number-of s _ _ _ (rule.is_error p n) = n.each
  number-of s _ _ _ (rule.is_tag p h n) = n.each
  number-of s _ _ _ (rule.prefix p n) = n.each
  number-of s _ _ _ (rule.binary p q h n) = n.each
  number-of s _ _ _ (rule.select p q n) = n.each
  number-of s _ _ _ (rule.update p q r n) = n.each
  number-of s _ _ _ (rule.field p h n) = n.each
  number-of s _ _ _ (rule.replace p q d n) = n.each
  number-of s _ _ _ (rule.empty_array a h n) = n.each
  number-of s _ _ _ (rule.array p q same h d n) = n.each
  number-of s _ _ _ (rule.empty_stream a h n) = n.each
  number-of s _ _ _ (rule.stream q same h d n) = n.each
  number-of s _ _ _ (rule.a_record p d h deep n) = n.each
  number-of s _ _ _ (rule.union h has p n) = n.each
  number-of s _ _ _ (rule.let_in p d q n) = n.each
  number-of s _ _ _ (rule.if_else p q r n) = n.each
  number-of s _ _ _ (rule.tag_case p q d all o c n) = n.each
  number-of s _ _ tys (rule.for_product {l = l} {gs = gs} {ds = ds} {cs = cs} {t = t} p) = crossed-number s l gs ds cs t tys p
  number-of s _ _ tys (rule.for_initial is_first is_until p d q r e keeps c n) = n.each

  one-value : (c : Coverage) (s : Scope) (e : Expr) (t : TypedExpr) (a : Ty) → Types k denotes s e t (a ∷ []) → nat_eq (verdict c t).count 1 ≡ true
  one-value c s e t a p = ap (λ n. nat_eq n 1) (count-is c t ∙ counted k.forms k.spellings t.types (a ∷ []) (number-of s e t (a ∷ []) p))

  -- each value and mask of clauses is one value
  clauses-one : (c : Coverage) (s : Scope) (cs : List Clause) (clauses : List ClauseForm) (ts : List TypedExpr) (tys : List Ty) → AreClauses k denotes s cs clauses ts tys → all_one (counts (map (verdict c) ts)) ≡ true
  clauses-one c s _ _ _ _ rule.no_clause = refl
  clauses-one c s _ _ _ _ (rule.a_clause l {a = a} {e = e} {t = t} {cs = cs} {forms = clauses} {ts = ts} {tys = tys} p h d rule.no_mask r) =
      both _ _ (one-value c s e t a p) (clauses-one c s cs clauses ts tys r)
  clauses-one c s _ _ _ _ (rule.a_clause l {a = a} {e = e} {t = t} {cs = cs} {forms = clauses} {ts = ts} {tys = tys} p h d (rule.a_mask {e = f} {t = u} m) r) =
      both _ _ (one-value c s e t a p) (both _ _ (one-value c s f u ty.Bool m) (clauses-one c s cs clauses ts tys r))

  -- ---- fields that are replaced

  abbrev name_in : Option Member → List ℕ
  name_in None = []
  name_in (Some m) = m.0

  -- a name stands at one place, so places of distinct names are apart
  placed-in : (x place : ℕ) (a : Ty) (s : Scope) (ms : List Member) (vs : List FieldValue) (places : List ℕ) (us : List TypedExpr) → AreNamesOnce k.spellings → Has k ms x place a → Replaces k denotes s ms vs places us
      → (Contains (map (λ v. v.field.name) vs) x → ⊥) → is_in place places ≡ false
  placed-in x place a s ms _ _ _ once h rule.no_field n = refl
  placed-in x place a s ms _ _ _ once h (rule.a_field {n = m} {place = other} {a = b} {e = e} {vs = vs} {places = places} {us = us} i p q) n =
      by (nat_eq other place) refl (placed-in x place a s ms vs places us once h q (λ c. n (there m.name (map (λ v. v.field.name) vs) x c)))
    where
      by : (b : Bool) → nat_eq other place ≡ b → is_in place places ≡ false → (if b then true else is_in place places) ≡ false
      by false e r = r
      by true e r =
          let same : other ≡ place = eqb-true other place e in
          let named : i.spelling ≡ h.spelling = ap name_in (sym i.member ∙ (ap (slice_get ms) same ∙ h.member)) in
          let is : m.name ≡ x = once m.name x h.spelling (i.spelled ∙ ap Some named) h.spelled in
          absurd (n (subst (Contains (m.name ∷ map (λ v. v.field.name) vs)) is (here m.name (map (λ v. v.field.name) vs))))

  apart : (s : Scope) (ms : List Member) (vs : List FieldValue) (places : List ℕ) (us : List TypedExpr) → AreNamesOnce k.spellings → Replaces k denotes s ms vs places us → AreDistinct (map (λ v. v.field.name) vs) → all_apart places ≡ true
  apart s ms _ _ _ once rule.no_field d = refl
  apart s ms _ _ _ once (rule.a_field {n = n} {place = place} {a = a} {e = e} {vs = vs} {places = places} {us = us} i p q) d =
      ap (λ b. if b then false else all_apart places) (placed-in n.name place a s ms vs places us once i q d.0) ∙ apart s ms vs places us once q d.1

  module _ (once : AreNamesOnce k.spellings) where
    abbrev S : Coverage
    S = plain_forms

    abbrev In : TypedExpr → Type 0
    In t = (verdict S t).ok ≡ true

    abbrev AreIn : List TypedExpr → Type 0
    AreIn ts = all_ok (map (verdict S) ts) ≡ true

    abbrev EachIn : List (List TypedExpr) → Type 0
    EachIn us = each_ok (map (map (verdict S)) us) ≡ true

    kind-in : (l : ℕ) (ns : List ℕ) (y : TypedKind) (x : TypedKind-F TypedKind TypedExpr) → y ≡ roll-TypedKind x → kind_covered S (parts_covered S x) ≡ true → In (with l ns y)
    kind-in l ns y x e h = covered-is S l ns y x e ∙ h

    more-in : (t : TypedExpr) (ts : List TypedExpr) → In t → AreIn ts → AreIn (t ∷ ts)
    more-in t ts f g = both (verdict S t).ok (all_ok (map (verdict S) ts)) f g

    one-in : (t : TypedExpr) → In t → AreIn (t ∷ [])
    one-in t f = more-in t [] f refl

    two-in : (t u : TypedExpr) → In t → In u → AreIn (t ∷ u ∷ [])
    two-in t u f g = more-in t (u ∷ []) f (one-in u g)

    def-in : (ts : List TypedExpr) (us : List (List TypedExpr)) → AreIn ts → EachIn us → EachIn (ts ∷ us)
    def-in ts us f g = both (all_ok (map (verdict S) ts)) (each_ok (map (map (verdict S)) us)) f g

    apply-in : (l : ℕ) (ns : List ℕ) (o : Operation) (ts : List TypedExpr) → is_plain_operation o ≡ true → AreIn ts → In (with l ns (typed.Apply o ts))
    apply-in l ns o ts c f = kind-in l ns (typed.Apply o ts) (TypedKind-F.Apply o ts) (sym (typed.rolls-Apply o ts)) (both (is_plain_operation o) (all_ok (map (verdict S) ts)) c f)

    product-in : (l : ℕ) (ns : List ℕ) (p : Product) (bs : List TypedExpr) (us : List (List TypedExpr)) (ts : List TypedExpr) → masks_alone p.clauses (counts (map (verdict S) ts)) ≡ true → AreIn bs → EachIn us → AreIn ts → In (with l ns (typed.Product p bs us ts))
    product-in l ns p bs us ts alone f g i = kind-in l ns (typed.Product p bs us ts) (TypedKind-F.Product p bs us ts) (sym (typed.rolls-Product p bs us ts)) (both _ _ alone (both _ _ f (both _ _ g i)))

    let-in : (l : ℕ) (ns : List ℕ) (us : List (List TypedExpr)) (ts : List TypedExpr) → EachIn us → AreIn ts → In (with l ns (typed.Let us ts))
    let-in l ns us ts f g = kind-in l ns (typed.Let us ts) (TypedKind-F.Let us ts) (sym (typed.rolls-Let us ts)) (both _ _ f g)

    if-in : (l : ℕ) (ns : List ℕ) (cs ts us : List TypedExpr) → AreIn cs → AreIn ts → AreIn us → In (with l ns (typed.If cs ts us))
    if-in l ns cs ts us f g i = kind-in l ns (typed.If cs ts us) (TypedKind-F.If cs ts us) (sym (typed.rolls-If cs ts us)) (both _ _ f (both _ _ g i))

    case-in : (l : ℕ) (ns : List ℕ) (c : Case) (ts : List TypedExpr) (us : List (List TypedExpr)) → AreIn ts → EachIn us → In (with l ns (typed.Case c ts us))
    case-in l ns c ts us f g = kind-in l ns (typed.Case c ts us) (TypedKind-F.Case c ts us) (sym (typed.rolls-Case c ts us)) (both _ _ f g)

    initial-in : (l : ℕ) (ns : List ℕ) (t : Turns) (us : List (List TypedExpr)) (tests : List TypedExpr) (vs : List (List TypedExpr)) (ts : List TypedExpr) → all_one (counts (map (verdict S) ts)) ≡ true
        → EachIn us → AreIn tests → EachIn vs → AreIn ts → In (with l ns (typed.Initial t us tests vs ts))
    initial-in l ns t us tests vs ts alone f g i j = kind-in l ns (typed.Initial t us tests vs ts) (TypedKind-F.Initial t us tests vs ts) (sym (typed.rolls-Initial t us tests vs ts)) (both _ _ alone (both _ _ f (both _ _ g (both _ _ i j))))

    mutual
      typed-in : (s : Scope) (e : Expr) (t : TypedExpr) (tys : List Ty) → Types k denotes s e t tys → In t
      typed-in s _ _ _ (rule.constant {l = l} {c = c} {ns = ns} n) = kind-in l ns (typed.Constant c) (TypedKind-F.Constant c) (sym (typed.rolls-Constant c)) refl
      typed-in s _ _ _ (rule.name {l = l} {level = i} {ns = ns} h n) = kind-in l ns (typed.Value i) (TypedKind-F.Value i) (sym (typed.rolls-Value i)) refl
      typed-in s _ _ _ (rule.old {l = l} {level = i} {ns = ns} h n) = kind-in l ns (typed.Value i) (TypedKind-F.Value i) (sym (typed.rolls-Value i)) refl
      typed-in s _ _ tys (rule.group {l = l} {e = e} {t = t} {ns = ns} p n) =
          kind-in l ns (typed.Group (t ∷ [])) (TypedKind-F.Group (t ∷ [])) (sym (typed.rolls-Group (t ∷ []))) (one-in t (typed-in s e t tys p))
      typed-in s _ _ _ (rule.call {l = l} {n = i} {f = f} {es = es} {ts = ts} {ns = ns} h p n) =
          kind-in l ns (typed.Call i ts) (TypedKind-F.Call i ts) (sym (typed.rolls-Call i ts)) (all-in s es ts f.params p)
      typed-in s _ _ _ (rule.built_in {l = l} {b = b} {es = es} {ts = ts} {tys = tys} {ns = ns} h p g d n) = apply-in l ns (built_in_operation b) ts (built-in-plain b) (all-in s es ts tys p)
      typed-in s _ _ _ (rule.convert {l = l} {a = a} {c = c} {e = e} {t = t} {ns = ns} p h n) = apply-in l ns (convert_operation c) (t ∷ []) (convert-plain c) (one-in t (typed-in s e t (a ∷ []) p))
      typed-in s _ _ _ (rule.error_of {l = l} {ns = ns} h n) = apply-in l ns op.Error [] refl refl
      typed-in s _ _ _ (rule.is_error {l = l} {a = a} {e = e} {t = t} {ns = ns} p n) = apply-in l ns (op.Unary one.IsError) (t ∷ []) refl (one-in t (typed-in s e t (a ∷ []) p))
      typed-in s _ _ _ (rule.is_tag {l = l} {place = place} {ms = ms} {e = e} {t = t} {ns = ns} p h n) = apply-in l ns (op.IsTag place) (t ∷ []) refl (one-in t (typed-in s e t (ty.Uni ms ∷ []) p))
      typed-in s _ _ tys (rule.prefix {l = l} {o = o} {e = e} {t = t} {ns = ns} p n) = apply-in l ns (prefix_operation o) (t ∷ []) (prefix-plain o) (one-in t (typed-in s e t tys p))
      typed-in s _ _ _ (rule.binary {l = l} {a = a} {o = o} {e = e} {f = f} {t = t} {u = u} {ns = ns} p q h n) =
          apply-in l ns (binary_operation o) (t ∷ u ∷ []) (binary-plain o) (two-in t u (typed-in s e t (a ∷ []) p) (typed-in s f u (a ∷ []) q))
      typed-in s _ _ _ (rule.select {l = l} {a = a} {e = e} {i = i} {t = t} {u = u} {ns = ns} p q n) =
          apply-in l ns op.Element (t ∷ u ∷ []) refl (two-in t u (typed-in s e t (ty.Arr a ∷ []) p) (typed-in s i u (ty.Int ∷ []) q))
      typed-in s _ _ _ (rule.update {l = l} {a = a} {e = e} {i = i} {f = f} {t = t} {u = u} {v = v} {ns = ns} p q r n) =
          apply-in l ns op.Update (t ∷ u ∷ v ∷ []) refl (more-in t (u ∷ v ∷ []) (typed-in s e t (ty.Arr a ∷ []) p) (two-in u v (typed-in s i u (ty.Int ∷ []) q) (typed-in s f v (a ∷ []) r)))
      typed-in s _ _ _ (rule.field {l = l} {place = place} {ms = ms} {e = e} {t = t} {ns = ns} p h n) = apply-in l ns (op.Field place) (t ∷ []) refl (one-in t (typed-in s e t (ty.Rec ms ∷ []) p))
      typed-in s _ _ _ (rule.replace {l = l} {ms = ms} {e = e} {t = t} {vs = vs} {places = places} {us = us} {ns = ns} p q d n) =
          apply-in l ns (op.Change places) (t ∷ us) (apart s ms vs places us once q d) (more-in t us (typed-in s e t (ty.Rec ms ∷ []) p) (replaced-in s ms vs places us q))
      typed-in s _ _ _ (rule.empty_array {l = l} a {ns = ns} h n) = apply-in l ns op.EmptyArray [] refl refl
      typed-in s _ _ _ (rule.array {l = l} {a = a} {tys = tys} {low = low} {t = t} {es = es} {ts = ts} {ns = ns} p q same h d n) =
          apply-in l ns op.Array (t ∷ ts) refl (more-in t ts (typed-in s low t (ty.Int ∷ []) p) (all-in s es ts (a ∷ tys) q))
      typed-in s _ _ _ (rule.empty_stream {l = l} a {ns = ns} h n) = apply-in l ns op.Stream [] refl refl
      typed-in s _ _ _ (rule.stream {l = l} {a = a} {tys = tys} {es = es} {ts = ts} {ns = ns} q same h d n) = apply-in l ns op.Stream ts refl (all-in s es ts (a ∷ tys) q)
      typed-in s _ _ _ (rule.a_record {l = l} {ms = ms} {vs = vs} {ts = ts} {ns = ns} p d h deep n) = apply-in l ns op.Record ts refl (fields-in s vs ts ms p)
      typed-in s _ _ _ (rule.union {l = l} {place = place} {content = content} {e = e} {t = t} {ns = ns} h has p n) = apply-in l ns (op.Union place) (t ∷ []) refl (one-in t (typed-in s e t (content ∷ []) p))
      typed-in s _ _ tys (rule.let_in {after = after} {l = l} {ds = ds} {us = us} {made = made} {es = es} {ts = ts} {ns = ns} p d q n) =
          let-in l ns us ts (defs-in s ds us made after p) (all-in after es ts tys q)
      typed-in s _ _ tys (rule.if_else {l = l} {c = c} {t = t} {es = es} {fs = fs} {ts = ts} {us = us} {ns = ns} p q r n) =
          if-in l ns (t ∷ []) ts us (one-in t (typed-in s c t (ty.Bool ∷ []) p)) (all-in s es ts tys q) (all-in s fs us tys r)
      typed-in s _ _ tys (rule.tag_case {l = l} {ms = ms} {x = x} {e = e} {t = t} {arms = arms} {typed_arms = us} {last = last} {tags = tags} {choices = choices} {ns = ns} {other = other} p q d all o c n) =
          case-in l ns (record { named = named_arms x arms; choices = choices; others = length arms }) (t ∷ []) (us ++ last) (one-in t (typed-in s e t (ty.Uni ms ∷ []) p))
          (arms-in s x ms tys arms us tags q last (last-in s tys other last o))
      typed-in s _ _ tys (rule.for_product {l = l} {gs = gs} {ds = ds} {cs = cs} {t = t} p) = crossed-in s l gs ds cs t tys p
      typed-in s _ _ tys (rule.for_initial {started = started} {turned = turned} {l = l} {first = begun} {later = later} {ns = ns} is_first is_until {test = test} {t = t} {ds = ds} {es = es} {us = us} {vs = vs} {cs = cs} {forms = clauses} {ts = ts} p d q r e keeps c n) =
          initial-in l ns (record { is_first = is_first; is_until = is_until; renewed = renewals (loop_of s ds begun) s.height (targets es); clauses = clauses }) us (t ∷ []) vs ts
          (clauses-one S started cs clauses ts tys c) (defs-in s ds us begun started p) (one-in t (typed-in started test t (ty.Bool ∷ []) q)) (defs-in (in_turn (loop_of s ds begun) (targets es) started) es vs later turned r)
          (clauses-in started cs clauses ts tys c)

      all-in : (s : Scope) (es : List Expr) (ts : List TypedExpr) (tys : List Ty) → AreTyped k denotes s es ts tys → AreIn ts
      all-in s _ _ _ rule.no_more = refl
      all-in s _ _ _ (rule.more {e = e} {t = t} {tys = tys} {others = others} {es = es} {ts = ts} p q) = more-in t ts (typed-in s e t tys p) (all-in s es ts others q)

      replaced-in : (s : Scope) (ms : List Member) (vs : List FieldValue) (places : List ℕ) (us : List TypedExpr) → Replaces k denotes s ms vs places us → AreIn us
      replaced-in s ms _ _ _ rule.no_field = refl
      replaced-in s ms _ _ _ (rule.a_field {a = a} {e = e} {t = t} {vs = vs} {places = places} {us = us} i p q) = more-in t us (typed-in s e t (a ∷ []) p) (replaced-in s ms vs places us q)

      fields-in : (s : Scope) (vs : List FieldValue) (ts : List TypedExpr) (ms : List Member) → HasFields k denotes s vs ts ms → AreIn ts
      fields-in s _ _ _ rule.no_member = refl
      fields-in s _ _ _ (rule.a_member {a = a} {e = e} {t = t} {vs = vs} {ts = ts} {ms = ms} i p q) = more-in t ts (typed-in s e t (a ∷ []) p) (fields-in s vs ts ms q)

      defs-in : (s : Scope) (ds : List Def) (us : List (List TypedExpr)) (tys : List Ty) (after : Scope) → Defines k denotes s ds us tys after → EachIn us
      defs-in s _ _ _ _ rule.no_def = refl
      defs-in s _ _ _ after (rule.a_def xs {es = es} {ts = ts} {tys = tys} {others = others} {ds = ds} {us = us} p t q) =
          def-in ts us (all-in s es ts tys p) (defs-in (define_all (names_in xs) tys s) ds us others after q)

      crossed-in : (s : Scope) (l : ℕ) (gs : List (List Generator)) (ds : List Def) (cs : List Clause) (t : TypedExpr) (tys : List Ty) → Crosses k denotes s l gs ds cs t tys → In t
      crossed-in s l _ ds cs _ tys (rule.one_group {inside = inside} {names = names} {ns = ns} {tys = us} {made = made} {g = g} {sources = sources} {bounds = bounds} {us = values} {forms = clauses} {ts = ts} p d q e c n) =
          product-in l ns (record { sources = sources; clauses = clauses }) bounds values ts (second (no_true (unless_places clauses)) _ (clauses-one S inside cs clauses ts tys c))
          (generated-in s g sources bounds names us p) (defs-in (define_all names us s) ds values made inside q) (clauses-in inside cs clauses ts tys c)
      crossed-in s l _ ds cs _ tys (rule.a_group {names = names} {ns = ns} {tys = us} {inner = inner} {g = g} {gs = gs} {sources = sources} {bounds = bounds} {forms = clauses} {t = t} p d q f n) =
          product-in l ns (record { sources = sources; clauses = clauses }) bounds [] (t ∷ []) (first (no_true (unless_places clauses)) _ (folds-open cs inner clauses tys f))
          (generated-in s g sources bounds names us p) refl (one-in t (crossed-in (define_all names us s) l gs ds cs t inner q))

      generated-in : (s : Scope) (gs : List Generator) (sources : List Source) (bounds : List TypedExpr) (names : List ℕ) (tys : List Ty) → Generates k denotes s gs sources bounds names tys → AreIn bounds
      generated-in s _ _ _ _ _ rule.no_generator = refl
      generated-in s _ _ _ _ _ (rule.range n {e = e} {f = f} {t = t} {u = u} {names = names} {tys = tys} {gs = gs} {sources = sources} {bounds = bounds} p q r) =
          more-in t (u ∷ bounds) (typed-in s e t (ty.Int ∷ []) p) (more-in u bounds (typed-in s f u (ty.Int ∷ []) q) (generated-in s gs sources bounds names tys r))
      generated-in s _ _ _ _ _ (rule.elements n {a = a} {e = e} {t = t} {names = names} {tys = tys} {gs = gs} {sources = sources} {bounds = bounds} p q r) =
          more-in t bounds (typed-in s e t (a ∷ []) p) (generated-in s gs sources bounds names tys r)
      generated-in s _ _ _ _ _ (rule.indexed n {a = a} {e = e} {t = t} {names = names} {tys = tys} {gs = gs} {sources = sources} {bounds = bounds} p q r) =
          more-in t bounds (typed-in s e t (a ∷ []) p) (generated-in s gs sources bounds names tys r)

      clauses-in : (s : Scope) (cs : List Clause) (clauses : List ClauseForm) (ts : List TypedExpr) (tys : List Ty) → AreClauses k denotes s cs clauses ts tys → AreIn ts
      clauses-in s _ _ _ _ rule.no_clause = refl
      clauses-in s _ _ _ _ (rule.a_clause l {a = a} {e = e} {t = t} {cs = cs} {forms = clauses} {ts = ts} {tys = tys} p i d rule.no_mask r) =
          more-in t ts (typed-in s e t (a ∷ []) p) (clauses-in s cs clauses ts tys r)
      clauses-in s _ _ _ _ (rule.a_clause l {a = a} {e = e} {t = t} {cs = cs} {forms = clauses} {ts = ts} {tys = tys} p i d (rule.a_mask {e = f} {t = u} m) r) =
          more-in t (u ∷ ts) (typed-in s e t (a ∷ []) p) (more-in u ts (typed-in s f u (ty.Bool ∷ []) m) (clauses-in s cs clauses ts tys r))

      -- arms before `otherwise`
      arms-in : (s : Scope) (x : Option ℕ) (ms : List Member) (tys : List Ty) (arms : List Arm) (us : List (List TypedExpr)) (tags : List (List ℕ)) → AreArms k denotes s x ms tys arms us tags
          → (last : List (List TypedExpr)) → EachIn last → EachIn (us ++ last)
      arms-in s x ms tys _ _ _ rule.no_arm last f = f
      arms-in s x ms tys _ _ _ (rule.an_arm l content names {es = es} {ts = ts} {arms = arms} {typed_arms = us} {tags = tags} o t p q) last f =
          def-in ts (us ++ last) (all-in (with_content x content s) es ts tys p) (arms-in s x ms tys arms us tags q last f)

      last-in : (s : Scope) (tys : List Ty) (other : Option (List Expr)) (last : List (List TypedExpr)) → IsOtherwise k denotes s tys other last → EachIn last
      last-in s tys _ _ rule.no_otherwise = refl
      last-in s tys _ _ (rule.otherwise {es = es} {ts = ts} p) = def-in ts [] (all-in s es ts tys p) refl

-- ---- programs

module _ (u : tree.Unit) (forms : List Form) (ds : List Declared) (once : AreNamesOnce u.tokens.names) where
  body-in : (d : Declared) (kind : FunKind) (o : Option (List TypedExpr)) → HasBody u (known u forms ds d.types) d.signature kind o → (es : List TypedExpr) → o ≡ Some es → all_ok (map (verdict plain_forms) es) ≡ true
  body-in d _ _ units.global es e = absurd cc
  body-in d _ _ (units.defined {es = exprs} {ts = ts} p) es e = ap (λ x. all_ok (map (verdict plain_forms) x)) (sym (same e)) ∙ all-in (known u forms ds d.types) (denotes u d.types) once (units.parameters d.signature) exprs ts d.signature.results p
    where
      same : Some ts ≡ Some es → ts ≡ es
      same e = cc

  functions-in : (es : List Declared) (fs : List Function) → AreFunctionsOf u forms ds es fs → (i : ℕ) (f : Function) (b : List TypedExpr) → slice_get fs i ≡ Some f → f.body ≡ Some b → all_ok (map (verdict plain_forms) b) ≡ true
  functions-in _ _ units.no_function i f b e s = absurd cc
  functions-in _ _ (units.a_function {d = d} {f = g} {es = es} {fs = fs} p ps) zero f b e s = body-in d d.function.kind g.body p.body b (ap (λ x. x.body) (same e) ∙ s)
    where
      same : Some g ≡ Some f → g ≡ f
      same e = cc
  functions-in _ _ (units.a_function {d = d} {f = g} {es = es} {fs = fs} p ps) (suc i) f b e s = functions-in es fs ps i f b e s

pub typed-covered : AreTypedCovered
typed-covered u p once t f d es e s = functions-in u p.types t.declared once (units.given t.declared) p.functions t.functions f d es e s
