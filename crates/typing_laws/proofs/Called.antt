-- Calls, `if` and groups of typed parts are typed.
use Rattle.std.proofs.Common.{◌≡◌, ℕ, suc, zero, List, [], ◌∷◌, Some, slice_get, refl, sym, ap, subst, ◌∙◌}
use Rattle.std.proofs.lemmas.Option.{same_Some}
use Rattle.flow_value.specs.declared.ty.Ty.{Ty}
use Rattle.flow_value.specs.declared.ty.Ty.TheVariants as ty
use Rattle.value_ops.specs.declared.operation.Operation.{Operation}
use Rattle.type_table.specs.declared.form.Form.{Form}
use Rattle.sisal_tree.specs.declared.expr.Expr.{Expr}
use Rattle.sisal_tree.specs.declared.expr.ExprKind.TheVariants as tree
use Rattle.sisal_tree.specs.declared.unit.Written.{Written}
use Rattle.typed_tree.specs.declared.built_in.BuiltIn.{BuiltIn}
use Rattle.typed_tree.specs.declared.expr.TypedExpr.{TypedExpr}
use Rattle.typed_tree.specs.declared.expr.TypedKind.TheVariants as typed
use Rattle.typed_tree.specs.Scopes as scopes
use Rattle.typed_tree.specs.Types.{IsNumber, IsShallow}
use Rattle.typed_tree.specs.Typing as rule
use Rattle.typed_tree.specs.Typing.{Known, Number, Types, AreTyped, IsFunction, at, with}
use Rattle.type_rules.specs.declared.head.Head.TheVariants as head
use Rattle.type_rules.specs.Applies.{Grows}
use Rattle.type_rules.specs.Typed as said
use Rattle.type_rules.specs.Typed.{IsForm}
use Rattle.type_rules.proofs.Standing.{one_type}
use Rattle.type_rules.proofs.Grown.{boolean_is}
use Rattle.value_names.specs.Names.{Names}
use Rattle.typing_laws.specs.Given.{Header, Given, Parts}
use Rattle.typing_laws.specs.Judged.{denotes_in, IsSignature, AreSignatures, IsTypedAs, Typed, AllTyped, AllOnes, AreOnes, no_one, a_one}
use Rattle.typing_laws.specs.Forming.{Calls, own, built_in, IfElses}
use Rattle.typing_laws.proofs.Later.{agrees_before}
use Rattle.typing_laws.proofs.Unique.{a_number, same_types}
use Rattle.typing_laws.proofs.Rules.{applied_typed}

-- ---- functions

record HasFunction (k : Known) (fs : List rule.Signature) (n : ℕ) (s : Header) : Type 0 where
  function : rule.Signature
  there : slice_get fs n ≡ Some function
  is : IsSignature k s function

signature_at : (k : Known) (ss : List Header) (fs : List rule.Signature) → AreSignatures k ss fs → (n : ℕ) (s : Header) → slice_get ss n ≡ Some s → HasFunction k fs n s
signature_at k [] fs p n s e = absurd cc
signature_at k (x ∷ ss) [] p n s e = absurd p
signature_at k (x ∷ ss) (f ∷ fs) p zero s e = record { function = f; there = refl; is = subst (λ y. IsSignature k y f) (same_Some x s e) p.0 }
signature_at k (x ∷ ss) (f ∷ fs) p (suc n) s e = let r = signature_at k ss fs p.1 n s e in record { function = r.function; there = r.there; is = r.is }

pub call_typed : (g : Given) (f1 f2 : List Form) (names : Names) (line x : ℕ) (es : List Expr) (operands : Parts) (t : TypedExpr)
    → AllTyped g f1 names es operands.exprs operands.types → Grows f1 f2 → Calls g f1 f2 line x operands t → Typed g f2 names (at line (tree.Call x es)) t
call_typed g f1 f2 names line x es operands t typed_es more (own n found call) = record {
  holds = λ k s agrees stands.
      let between = agrees_before g f1 f2 k more agrees in
      let ts = typed_es.holds k s between stands in
      let h = signature_at k g.functions k.functions agrees.functions n call.function call.there in
      let same : ts.tys ≡ h.function.params = same_types k operands.types ts.tys h.function.params ts.number (subst (λ ns. Number k ns h.function.params) (sym call.params) h.is.params) in
      let numbered = agrees.numbers.each x n found in
      let same_header : numbered.header ≡ call.function = same_Some numbered.header call.function (sym numbered.there ∙ call.there) in
      let name : h.function.name ≡ x = sym h.is.name ∙ ap (λ s. s.name) (sym same_header) ∙ numbered.named in
      subst (λ u. IsTypedAs k g s (at line (tree.Call x es)) u) (sym call.is) (record {
        tys = h.function.results;
        number = h.is.results;
        typed = rule.call (record { there = h.there; named = name }) (subst (λ l. AreTyped k (denotes_in g k) s es operands.exprs l) same ts.typed) h.is.results;
      });
}
call_typed g f1 f2 names line x es operands t typed_es more (built_in b is made) = record {
  holds = λ k s agrees stands.
      let between = agrees_before g f1 f2 k more agrees in
      let ts = typed_es.holds k s between stands in
      let y = applied_typed k f1 f2 agrees.table more agrees.grows (head.BuiltIn b) tt operands.types ts.tys ts.number made.applied made.is_applied in
      let named : rule.IsBuiltIn k x b = record { spelling = is.spelling; spelled = ap (λ l. slice_get l x) agrees.spellings ∙ is.spelled; named = is.named } in
      subst (λ u. IsTypedAs k g s (at line (tree.Call x es)) u) (sym made.is)
      (built_in_typed k (denotes_in g k) s g x b named es operands.exprs ts.tys made.applied.operation y.type ts.typed y.form y.shallow line made.applied.ty y.number);
}
  where
    built_in_typed : (k : Known) (denotes : Written → Ty → Type 0) (s : scopes.Scope) (g : Given) (x : ℕ) (b : BuiltIn) → rule.IsBuiltIn k x b → (es : List Expr) (ts : List TypedExpr) (tys : List Ty) (o : Operation) (a : Ty)
        → AreTyped k (denotes_in g k) s es ts tys → IsForm k.forms k.spellings (head.BuiltIn b) tys o a → IsShallow a → (line n : ℕ) → IsNumber k.forms k.spellings n a
        → IsTypedAs k g s (at line (tree.Call x es)) (with line (n ∷ []) (typed.Apply o ts))
    built_in_typed k denotes s g x b named es ts tys _ a p (said.built_in gives) shallow line n number = record {
      tys = a ∷ [];
      number = a_number k n a number;
      typed = rule.built_in named p gives shallow (a_number k n a number);
    }

-- ---- groups and `if`

pub group_typed : (g : Given) (f : List Form) (names : Names) (line : ℕ) (e : Expr) (inner t : TypedExpr) → Typed g f names e inner
    → t ≡ with line inner.types (typed.Group (inner ∷ [])) → Typed g f names (at line (tree.Group e)) t
group_typed g f names line e inner t p is = record {
  holds = λ k s a st. let x = p.holds k s a st in
      subst (λ u. IsTypedAs k g s (at line (tree.Group e)) u) (sym is) (record { tys = x.tys; number = x.number; typed = rule.group x.typed x.number });
}

-- an expression of one value of the type of a number
pub one_of : (k : Known) (denotes : Written → Ty → Type 0) (s : scopes.Scope) (e : Expr) (ts : List TypedExpr) (tys : List Ty) → AreOnes k denotes s (e ∷ []) ts tys
    → (t : TypedExpr) × (a : Ty) × (ts ≡ t ∷ []) × (tys ≡ a ∷ []) × Types k denotes s e t (a ∷ [])
one_of k denotes s e _ _ (a_one {t = t} {a = a} p no_one) = (t, a, refl, refl, p)

pub if_typed : (g : Given) (f0 f1 f2 : List Form) (names : Names) (line : ℕ) (c : Expr) (es fs : List Expr) (test one other : Parts) (t : TypedExpr) → Grows f0 f1 → Grows f1 f2
    → AllOnes g f0 names (c ∷ []) test.exprs test.types → AllTyped g f1 names es one.exprs one.types → AllTyped g f2 names fs other.exprs other.types
    → IfElses line test one other t → Typed g f2 names (at line (tree.If c es fs)) t
if_typed g f0 f1 f2 names line c es fs test one other t first second p q r is = record {
  holds = λ k s a st.
      let b = agrees_before g f1 f2 k second a in
      let x = p.holds k s (agrees_before g f0 f1 k first b) st in
      let y = q.holds k s b st in
      let z = r.holds k s a st in
      let single = one_of k (denotes_in g k) s c test.exprs x.tys x.typed in
      let truth : single.1 ≡ ty.Bool =
      one_type k.forms k.spellings 0 single.1 ty.Bool
      (subst (λ ns. Number k ns (single.1 ∷ [])) is.truth (subst (λ l. Number k test.types l) single.3 x.number)).each.0
      (boolean_is k.forms k.spellings a.table) in
      let same : z.tys ≡ y.tys = same_types k one.types z.tys y.tys (subst (λ ns. Number k ns z.tys) (sym is.same) z.number) y.number in
      subst (λ u. IsTypedAs k g s (at line (tree.If c es fs)) u) (sym is.is) (record {
        tys = y.tys;
        number = y.number;
        typed = subst (λ l. Types k (denotes_in g k) s (at line (tree.If c es fs)) (with line one.types (typed.If l one.exprs other.exprs)) y.tys) (sym single.2)
            (rule.if_else (subst (λ u. Types k (denotes_in g k) s c single.0 (u ∷ [])) truth single.4) y.typed (subst (λ l. AreTyped k (denotes_in g k) s fs other.exprs l) same z.typed) y.number);
      });
}
