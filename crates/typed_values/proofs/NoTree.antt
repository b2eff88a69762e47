-- `1 + true` has no fitting tree, and its operands are those of no row.
use Rattle.std.proofs.Common.{◌≡◌, inl, inr, ℕ, ℤ, pos, Bool, true, false, List, [], ◌∷◌, refl, ap, sym, subst, ◌∙◌}
use Rattle.flow_value.specs.declared.value.Val.TheVariants as val
use Rattle.flow_value.specs.declared.operation.Scalar2.TheVariants as two
use Rattle.flow_value.specs.declared.ty.Ty.{Ty}
use Rattle.flow_value.specs.declared.ty.Ty.TheOpen.{Ty-F}
use Rattle.flow_value.specs.declared.ty.Ty.TheVariants as ty
use Rattle.flow_value.specs.Well.{test_part}
use Rattle.sisal_tree.specs.declared.expr.Constant.{Constant}
use Rattle.sisal_tree.specs.declared.expr.Constant.TheVariants as constant
use Rattle.value_ops.specs.declared.operation.Operation.{Operation}
use Rattle.value_ops.specs.declared.operation.Operation.TheVariants as op
use Rattle.typed_tree.specs.declared.expr.TypedExpr.{TypedExpr}
use Rattle.typed_tree.specs.declared.expr.TypedKind.{TypedKind}
use Rattle.typed_tree.specs.declared.expr.TypedKind.TheVariants as typed
use Rattle.typed_tree.specs.declared.expr.TypedKind.TheOpen.{TypedKind-F}
use Rattle.typed_tree.specs.declared.expr.TypedKind.TheViews.{out-TypedKind}
use Rattle.typed_tree.specs.Typing.{with}
use Rattle.typed_tree.specs.Types.{constant_type, AreNumbers}
use Rattle.fitting_units.specs.Fitting.{IsLiteral, Row, Header, Fits, AllFit}
use Rattle.fitting_units.specs.Fitting as is
use Rattle.typed_rows.specs.Rows.{Of, AreOf}
use Rattle.typed_rows.proofs.ValueKinds.{at_int, at_bool, out_int, out_bool, of_int, of_bool}
use Rattle.typed_values.specs.Laws.{a_number, a_truth, HasNoTree, HasNoRow}
use Rattle.typed_values.proofs.Outs.{out_constant, out_value, out_group, out_call, out_apply, out_let, out_if, out_case, out_product, out_initial}

pub no_integer : (b : Bool) → Of ty.Int (val.Bool b) → ⊥
no_integer b h = wrong (sym (at_int (val.Bool b) ∙ ap (test_part Ty-F.Int) (out_bool b)) ∙ h)
  where
    wrong : false ≡ true → ⊥
    wrong e = cc

no_truth : (n : ℤ) → Of ty.Bool (val.Int n) → ⊥
no_truth n h = wrong (sym (at_bool (val.Int n) ∙ ap (test_part Ty-F.Bool) (out_int n)) ∙ h)
  where
    wrong : false ≡ true → ⊥
    wrong e = cc

no_row : (tys : List Ty) (a : Ty) → Row (op.Binary two.Plus) tys a → AreOf tys (val.Int (pos 1) ∷ val.Bool true ∷ []) → ⊥
no_row _ _ (is.arithmetic f i) h = no_integer true h.1.0
no_row _ _ is.either h = no_truth (pos 1) h.0
no_row _ _ (is.equality f a (inl e) s) h = absurd cc
no_row _ _ (is.equality f a (inr e) s) h = absurd cc
no_row _ _ (is.order f a (inl e) s) h = absurd cc
no_row _ _ (is.order f a (inr e) s) h = absurd cc

pub no_operands : HasNoRow
no_operands t = no_row t.types t.result t.row t.given

-- ---- what a fitting tree of a form consists of

module _ (numbers : List ℕ → List Ty → Type 0) (hs : List Header) where
  other : (x : TypedKind) (y z : TypedKind-F TypedKind TypedExpr) → out-TypedKind x ≡ y → out-TypedKind x ≡ z → y ≡ z
  other x y z e f = sym e ∙ f

  -- the operands of an operation fit a row
  record Applied (γ : List Ty) (o : Operation) (ts : List TypedExpr) : Type 0 where
    types : List Ty
    result : Ty
    fit : AllFit numbers hs γ ts types
    row : Row o types result

  applied : (γ : List Ty) (e : TypedExpr) (tys : List Ty) → Fits numbers hs γ e tys → (o : Operation) (ts : List TypedExpr) → out-TypedKind e.kind ≡ TypedKind-F.Apply o ts → Applied γ o ts
  applied γ _ _ (is.a_constant {c = c} h n) o ts e = let z = other (typed.Constant c) (TypedKind-F.Constant c) (TypedKind-F.Apply o ts) (out_constant c) e in absurd cc
  applied γ _ _ (is.a_value {level = x} h n) o ts e = let z = other (typed.Value x) (TypedKind-F.Value x) (TypedKind-F.Apply o ts) (out_value x) e in absurd cc
  applied γ _ _ (is.group {ts = us} h n) o ts e = let z = other (typed.Group us) (TypedKind-F.Group us) (TypedKind-F.Apply o ts) (out_group us) e in absurd cc
  applied γ _ _ (is.call {f = f} {ts = us} l h n) o ts e = let z = other (typed.Call f us) (TypedKind-F.Call f us) (TypedKind-F.Apply o ts) (out_call f us) e in absurd cc
  applied γ _ _ (is.apply {tys = tys} {o = q} {a = a} {ts = us} h r n) o ts e =
      let z = other (typed.Apply q us) (TypedKind-F.Apply q us) (TypedKind-F.Apply o ts) (out_apply q us) e in
      let i : q ≡ o = cc in let j : us ≡ ts = cc in
      subst (λ p. Applied γ p ts) i (subst (λ l. Applied γ q l) j (record { types = tys; result = a; fit = h; row = r }))
  applied γ _ _ (is.let_in {us = us} {ts = vs} d h n) o ts e = let z = other (typed.Let us vs) (TypedKind-F.Let us vs) (TypedKind-F.Apply o ts) (out_let us vs) e in absurd cc
  applied γ _ _ (is.if_else {ts = us} {us = vs} {vs = ws} h i j n) o ts e = let z = other (typed.If us vs ws) (TypedKind-F.If us vs ws) (TypedKind-F.Apply o ts) (out_if us vs ws) e in absurd cc
  applied γ _ _ (is.tag_case ms cs {c = c} {ts = us} {arms = arms} h i j k x y l n) o ts e = let z = other (typed.Case c us arms) (TypedKind-F.Case c us arms) (TypedKind-F.Apply o ts) (out_case c us arms) e in absurd cc
  applied γ _ _ (is.product {p = q} {bounds = bs} {us = us} {ts = vs} h i j k l n) o ts e = let z = other (typed.Product q bs us vs) (TypedKind-F.Product q bs us vs) (TypedKind-F.Apply o ts) (out_product q bs us vs) e in absurd cc
  applied γ _ _ (is.initial {t = t} {us = us} {vs = vs} {tests = ws} {ts = xs} h i j k l m n) o ts e = let z = other (typed.Initial t us ws vs xs) (TypedKind-F.Initial t us ws vs xs) (TypedKind-F.Apply o ts) (out_initial t us ws vs xs) e in absurd cc

  constant_typed : (γ : List Ty) (e : TypedExpr) (tys : List Ty) → Fits numbers hs γ e tys → (k : Constant) → out-TypedKind e.kind ≡ TypedKind-F.Constant k → tys ≡ constant_type k ∷ []
  constant_typed γ _ _ (is.a_constant {c = c} h n) k e =
      let z = other (typed.Constant c) (TypedKind-F.Constant c) (TypedKind-F.Constant k) (out_constant c) e in let i : c ≡ k = cc in ap (λ c. constant_type c ∷ []) i
  constant_typed γ _ _ (is.a_value {level = x} h n) k e = let z = other (typed.Value x) (TypedKind-F.Value x) (TypedKind-F.Constant k) (out_value x) e in absurd cc
  constant_typed γ _ _ (is.group {ts = us} h n) k e = let z = other (typed.Group us) (TypedKind-F.Group us) (TypedKind-F.Constant k) (out_group us) e in absurd cc
  constant_typed γ _ _ (is.call {f = f} {ts = us} l h n) k e = let z = other (typed.Call f us) (TypedKind-F.Call f us) (TypedKind-F.Constant k) (out_call f us) e in absurd cc
  constant_typed γ _ _ (is.apply {o = q} {ts = us} h r n) k e = let z = other (typed.Apply q us) (TypedKind-F.Apply q us) (TypedKind-F.Constant k) (out_apply q us) e in absurd cc
  constant_typed γ _ _ (is.let_in {us = us} {ts = vs} d h n) k e = let z = other (typed.Let us vs) (TypedKind-F.Let us vs) (TypedKind-F.Constant k) (out_let us vs) e in absurd cc
  constant_typed γ _ _ (is.if_else {ts = us} {us = vs} {vs = ws} h i j n) k e = let z = other (typed.If us vs ws) (TypedKind-F.If us vs ws) (TypedKind-F.Constant k) (out_if us vs ws) e in absurd cc
  constant_typed γ _ _ (is.tag_case ms cs {c = c} {ts = us} {arms = arms} h i j l x y m n) k e = let z = other (typed.Case c us arms) (TypedKind-F.Case c us arms) (TypedKind-F.Constant k) (out_case c us arms) e in absurd cc
  constant_typed γ _ _ (is.product {p = q} {bounds = bs} {us = us} {ts = vs} h i j l m n) k e = let z = other (typed.Product q bs us vs) (TypedKind-F.Product q bs us vs) (TypedKind-F.Constant k) (out_product q bs us vs) e in absurd cc
  constant_typed γ _ _ (is.initial {t = t} {us = us} {vs = vs} {tests = ws} {ts = xs} h i j l m o n) k e = let z = other (typed.Initial t us ws vs xs) (TypedKind-F.Initial t us ws vs xs) (TypedKind-F.Constant k) (out_initial t us ws vs xs) e in absurd cc

  two_typed : (γ : List Ty) (ts : List TypedExpr) (tys : List Ty) → AllFit numbers hs γ ts tys → (t u : TypedExpr) (a b : Ty) → ts ≡ t ∷ u ∷ [] → ((xs : List Ty) → Fits numbers hs γ t xs → xs ≡ a ∷ []) → ((xs : List Ty) → Fits numbers hs γ u xs → xs ≡ b ∷ [])
      → tys ≡ a ∷ b ∷ []
  two_typed γ _ _ is.no_more t u a b e f g = absurd cc
  two_typed γ _ _ (is.more h is.no_more) t u a b e f g = absurd cc
  two_typed γ _ _ (is.more {tys = xs} {t = x} h (is.more {tys = ys} {t = y} k is.no_more)) t u a b e f g =
      let i : x ≡ t = cc in let j : y ≡ u = cc in
      rw (f xs (subst (λ z. Fits numbers hs γ z xs) i h), g ys (subst (λ z. Fits numbers hs γ z ys) j k)) refl
  two_typed γ _ _ (is.more h (is.more k (is.more l r))) t u a b e f g = absurd cc

pub no_tree : HasNoTree
no_tree forms spellings hs γ tys l line next ns types others h =
    let numbers = AreNumbers forms spellings in
    let t = a_number line types (pos 1) in
    let u = a_truth next others in
    let e = with l ns (typed.Apply (op.Binary two.Plus) (t ∷ u ∷ [])) in
    let parts = applied numbers hs γ e tys h (op.Binary two.Plus) (t ∷ u ∷ []) (out_apply (op.Binary two.Plus) (t ∷ u ∷ [])) in
    let same = two_typed numbers hs γ (t ∷ u ∷ []) parts.types parts.fit t u ty.Int ty.Bool refl
    (λ xs k. constant_typed numbers hs γ t xs k (constant.Integer (pos 1)) (out_constant (constant.Integer (pos 1))))
    (λ xs k. constant_typed numbers hs γ u xs k constant.True (out_constant constant.True)) in
    no_row parts.types parts.result parts.row (subst (λ xs. AreOf xs (val.Int (pos 1) ∷ val.Bool true ∷ [])) (sym same) (of_int (pos 1) refl, (of_bool true, tt)))
