-- Calls and `if` over typed parts that are refused break the rule.
use Rattle.std.proofs.Common.{◌≡◌, inl, inr, ℕ, suc, zero, List, [], ◌∷◌, Option, Some, None, slice_get, refl, sym, ap, subst, ◌∙◌}
use Rattle.std.proofs.lemmas.Option.{same_Some}
use Rattle.name_scope.specs.Newest.{newest}
use Rattle.flow_value.specs.declared.ty.Ty.{Ty}
use Rattle.value_ops.specs.declared.operation.Operation.{Operation}
use Rattle.type_table.specs.declared.form.Form.{Form}
use Rattle.sisal_tree.specs.declared.unit.Written.{Written}
use Rattle.sisal_tree.specs.declared.expr.Expr.{Expr}
use Rattle.sisal_tree.specs.declared.expr.ExprKind.TheVariants as tree
use Rattle.typed_tree.specs.declared.built_in.BuiltIn.{BuiltIn}
use Rattle.typed_tree.specs.declared.expr.TypedExpr.{TypedExpr}
use Rattle.typed_tree.specs.Scopes.{Scope}
use Rattle.typed_tree.specs.Types.{AreNumbers, IsShallow}
use Rattle.typed_tree.specs.Typing as typing
use Rattle.typed_tree.specs.Typing.{Known, Number, Types, AreTyped, IsFunction, at}
use Rattle.typed_tree.specs.Breaks as breaks
use Rattle.typed_tree.specs.Breaks.{Breaks, NoFunction, NoBuiltIn}
use Rattle.type_rules.specs.declared.fault.Refused.TheVariants as refused
use Rattle.type_rules.specs.declared.head.Head.TheVariants as head
use Rattle.type_rules.specs.Applies.{IsRefused}
use Rattle.type_rules.specs.Typed as said
use Rattle.type_rules.specs.Typed.{IsForm, IsKnown}
use Rattle.type_rules.proofs.Standing.{one_number}
use Rattle.type_rules.proofs.Grown.{boolean_is}
use Rattle.typing_laws.specs.Given.{Header, Given}
use Rattle.typing_laws.specs.Judged.{Agrees, IsSignature, AreSignatures, denotes_in, AreOnes, no_one, a_one}
use Rattle.breaking_laws.specs.Broken.{IsWhole, misnames_in, BreaksAt}
use Rattle.breaking_laws.specs.Refusals.{IsNoBuiltIn, RefusesCall, own, built_in, no_function}
use Rattle.breaking_laws.specs.FormLaws.{RefusedCallLaw, UnevenLaw}
use Rattle.breaking_laws.proofs.FPassing.{reach_later, reach_here, agrees_at}
use Rattle.breaking_laws.proofs.FTables.{known_of}
use Rattle.breaking_laws.proofs.FVerdicts.{IsVerdict, none, deep, verdict}

-- ---- numbers

-- types one after another have their numbers once
pub numbers_once : (forms : List Form) (names : List (List ℕ)) → IsKnown forms names → (ns ms : List ℕ) (ts : List Ty) → AreNumbers forms names ns ts → AreNumbers forms names ms ts → ns ≡ ms
numbers_once forms names known [] [] ts p q = refl
numbers_once forms names known [] (m ∷ ms) [] p q = absurd q
numbers_once forms names known [] (m ∷ ms) (t ∷ ts) p q = absurd p
numbers_once forms names known (n ∷ ns) [] [] p q = absurd p
numbers_once forms names known (n ∷ ns) [] (t ∷ ts) p q = absurd q
numbers_once forms names known (n ∷ ns) (m ∷ ms) [] p q = absurd p
numbers_once forms names known (n ∷ ns) (m ∷ ms) (t ∷ ts) p q =
    ap (λ x. x ∷ ns) (one_number forms names known.table.well known.spelled n m t p.0 q.0) ∙ ap (λ xs. m ∷ xs) (numbers_once forms names known ns ms ts p.1 q.1)

pub same_numbers : (k : Known) → IsKnown k.forms k.spellings → (ns ms : List ℕ) (ts us : List Ty) → Number k ns ts → Number k ms us → ts ≡ us → ns ≡ ms
same_numbers k known ns ms ts us p q e = numbers_once k.forms k.spellings known ns ms us (subst (AreNumbers k.forms k.spellings ns) e p.each) q.each

-- ---- functions

record HasFunction (k : Known) (fs : List typing.Signature) (n : ℕ) (s : Header) : Type 0 where
  function : typing.Signature
  there : slice_get fs n ≡ Some function
  is : IsSignature k s function

signature_at : (k : Known) (ss : List Header) (fs : List typing.Signature) → AreSignatures k ss fs → (n : ℕ) (s : Header) → slice_get ss n ≡ Some s → HasFunction k fs n s
signature_at k [] fs p n s e = absurd cc
signature_at k (x ∷ ss) [] p n s e = absurd p
signature_at k (x ∷ ss) (f ∷ fs) p zero s e = record { function = f; there = refl; is = subst (λ y. IsSignature k y f) (same_Some x s e) p.0 }
signature_at k (x ∷ ss) (f ∷ fs) p (suc n) s e = let r = signature_at k ss fs p.1 n s e in record { function = r.function; there = r.there; is = r.is }

record HasHeader (k : Known) (ss : List Header) (n : ℕ) (f : typing.Signature) : Type 0 where
  header : Header
  there : slice_get ss n ≡ Some header
  is : IsSignature k header f

header_at : (k : Known) (ss : List Header) (fs : List typing.Signature) → AreSignatures k ss fs → (n : ℕ) (f : typing.Signature) → slice_get fs n ≡ Some f → HasHeader k ss n f
header_at k ss [] p n f e = absurd cc
header_at k [] (y ∷ fs) p n f e = absurd p
header_at k (x ∷ ss) (y ∷ fs) p zero f e = record { header = x; there = refl; is = subst (IsSignature k x) (same_Some y f e) p.0 }
header_at k (x ∷ ss) (y ∷ fs) p (suc n) f e = let r = header_at k ss fs p.1 n f e in record { header = r.header; there = r.there; is = r.is }

none_some : (n : ℕ) (o : Option ℕ) → o ≡ None → o ≡ Some n → ⊥
none_some n None p e = cc
none_some n (Some m) p e = cc

no_function_of : (g : Given) (f : List Form) (k : Known) (x : ℕ) → Agrees g f k → newest x g.numbers ≡ None → NoFunction k x
no_function_of g f k x agrees absent n s is =
    let h = header_at k g.functions k.functions agrees.functions n s is.there in
    none_some n (newest x g.numbers) absent (ap (λ y. newest y g.numbers) (sym (h.is.name ∙ is.named)) ∙ agrees.all.each n h.header h.there)

no_built_in_of : (g : Given) (f : List Form) (k : Known) (x : ℕ) → Agrees g f k → IsNoBuiltIn g x → NoBuiltIn k x
no_built_in_of g f k x agrees never b is = never b (record { spelling = is.spelling; spelled = sym (ap (λ l. slice_get l x) agrees.spellings) ∙ is.spelled; named = is.named })

-- ---- calls

module _ (k : Known) (denotes : Written → Ty → Type 0) (misnames : Written → ℕ → ℕ → Type 0) (s : Scope) (l x : ℕ) (es : List Expr) (ts : List TypedExpr) (tys : List Ty) (typed : AreTyped k denotes s es ts tys) where
  built_in_breaks : (b : BuiltIn) → typing.IsBuiltIn k x b → (rule : ℕ) → IsVerdict k.forms k.spellings (head.BuiltIn b) tys rule → Breaks k denotes misnames s (at l (tree.Call x es)) rule l
  built_in_breaks b is rule (none r never) = subst (λ r. Breaks k denotes misnames s (at l (tree.Call x es)) r l) (sym r) (breaks.operands is typed (λ a gives. never _ a (said.built_in gives)))
  built_in_breaks b is rule (deep r m o t f never) = by o t f never
    where
      by : (o : Operation) (t : Ty) → IsForm k.forms k.spellings (head.BuiltIn b) tys o t → (IsShallow t → ⊥) → Breaks k denotes misnames s (at l (tree.Call x es)) rule l
      by _ _ (said.built_in gives) never = subst (λ r. Breaks k denotes misnames s (at l (tree.Call x es)) r l) (sym r) (breaks.deep_call is typed gives never)

call_breaks : (g : Given) (f : List Form) (k : Known) (s : Scope) (l x : ℕ) (es : List Expr) (ts : List TypedExpr) (ns : List ℕ) (tys : List Ty) (rule line : ℕ) → IsWhole g f k → Number k ns tys
    → AreTyped k (denotes_in g k) s es ts tys → RefusesCall g f l x ns rule line → Breaks k (denotes_in g k) (misnames_in g k) s (at l (tree.Call x es)) rule line
call_breaks g f k s l x es ts ns tys rule line whole number typed (own n found p) =
    let h = signature_at k g.functions k.functions whole.agrees.functions n p.2.header p.2.there in
    let numbered = whole.agrees.numbers.each x n found in
    let same_header : numbered.header ≡ p.2.header = same_Some numbered.header p.2.header (sym numbered.there ∙ p.2.there) in
    let name : h.function.name ≡ x = sym h.is.name ∙ ap (λ s. s.name) (sym same_header) ∙ numbered.named in
    subst (λ r. Breaks k (denotes_in g k) (misnames_in g k) s (at l (tree.Call x es)) r line) (sym p.0)
    (subst (λ r. Breaks k (denotes_in g k) (misnames_in g k) s (at l (tree.Call x es)) 12 r) (sym p.1)
    (breaks.arguments (record { there = h.there; named = name }) typed
    (λ e. p.2.other (same_numbers k (known_of g f k whole.agrees) ns p.2.header.params tys h.function.params number h.is.params e))))
call_breaks g f k s l x es ts ns tys rule line whole number typed (built_in b is p) =
    subst (λ r. Breaks k (denotes_in g k) (misnames_in g k) s (at l (tree.Call x es)) rule r) (sym p.0)
    (built_in_breaks k (denotes_in g k) (misnames_in g k) s l x es ts tys typed b
    (record { spelling = is.spelling; spelled = ap (λ l. slice_get l x) whole.agrees.spellings ∙ is.spelled; named = is.named }) rule
    (verdict k.forms k.spellings (known_of g f k whole.agrees) (head.BuiltIn b) tt ns tys number.each rule
    (subst (λ fs. IsRefused fs (head.BuiltIn b) ns (refused.Rule rule)) (sym whole.same) p.1)))
call_breaks g f k s l x es ts ns tys rule line whole number typed (no_function r at_line absent never) =
    subst (λ r. Breaks k (denotes_in g k) (misnames_in g k) s (at l (tree.Call x es)) r line) (sym r)
    (subst (λ r. Breaks k (denotes_in g k) (misnames_in g k) s (at l (tree.Call x es)) 11 r) (sym at_line)
    (breaks.unknown_function x es (no_function_of g f k x whole.agrees absent) (no_built_in_of g f k x whole.agrees never)))

pub refused_call_breaks : RefusedCallLaw
refused_call_breaks g f0 f1 names l x es operands rule line used table typed p =
    reach_later g f0 f1 (BreaksAt g names (at l (tree.Call x es)) rule line) used
    (reach_here g f1 (BreaksAt g names (at l (tree.Call x es)) rule line) table (record {
      holds = λ k s whole stands.
          let z = typed.holds k s whole.agrees stands in
          call_breaks g f1 k s l x es operands.exprs operands.types z.tys rule line whole z.number z.typed p;
    }))

-- ---- `if`

module _ (k : Known) (denotes : Written → Ty → Type 0) (misnames : Written → ℕ → ℕ → Type 0) (s : Scope) (known : IsKnown k.forms k.spellings) where
  test_breaks : (l : ℕ) (c : Expr) (es fs : List Expr) (ts : List TypedExpr) (ns : List ℕ) (tys : List Ty) → AreOnes k denotes s (c ∷ []) ts tys → Number k ns tys → (ns ≡ 0 ∷ [] → ⊥)
      → Breaks k denotes misnames s (at l (tree.If c es fs)) 17 l
  test_breaks l c es fs _ ns _ (a_one {a = a} p no_one) number never =
      breaks.test es fs p (λ e. never (numbers_once k.forms k.spellings known ns (0 ∷ []) (a ∷ []) number.each
      (subst (λ t. AreNumbers k.forms k.spellings (0 ∷ []) (t ∷ [])) (sym e) (boolean_is k.forms k.spellings known.table, tt))))

pub uneven_breaks : UnevenLaw
uneven_breaks g f0 f1 f2 f3 names l c es fs test one other rule line used table first second tested first_part never p =
    reach_later g f0 f3 (BreaksAt g names (at l (tree.If c es fs)) rule line) used
    (reach_here g f3 (BreaksAt g names (at l (tree.If c es fs)) rule line) table (record {
      holds = λ k s whole stands.
          let known = known_of g f3 k whole.agrees in
          let x = tested.holds k s (agrees_at g f1 f3 k first whole) stands in
          let y = first_part.holds k s (agrees_at g f2 f3 k second whole) stands in
          let z = never.holds k s whole.agrees stands in
          subst (λ r. Breaks k (denotes_in g k) (misnames_in g k) s (at l (tree.If c es fs)) r line) (sym p.0)
          (subst (λ r. Breaks k (denotes_in g k) (misnames_in g k) s (at l (tree.If c es fs)) 17 r) (sym p.1)
          (elim p.2 [
            | inl untrue ↦ test_breaks k (denotes_in g k) (misnames_in g k) s known l c es fs test.exprs test.types x.tys x.typed x.number untrue
            | inr differ ↦ breaks.branches c y.typed z.typed (λ e. differ (same_numbers k known one.types other.types y.tys z.tys y.number z.number e))
          ]));
    }))
