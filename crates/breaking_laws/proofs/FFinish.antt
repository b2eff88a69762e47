-- A form over typed operands that is refused by number breaks the rule.
use Rattle.std.proofs.Common.{◌≡◌, ℕ, ◌<◌, List, [], ◌∷◌, ◌++◌, length, Option, Some, None, refl, sym, subst, arith, rules}
use Rattle.flow_value.specs.declared.ty.Ty.{Ty}
use Rattle.value_ops.specs.declared.operation.Operation.TheVariants as operation
use Rattle.type_table.specs.declared.form.Form.{Form}
use Rattle.sisal_tree.specs.declared.unit.Written.{Written}
use Rattle.sisal_tree.specs.declared.expr.BinaryOperator.{BinaryOperator}
use Rattle.sisal_tree.specs.declared.expr.Elements.{Elements, out-Elements, roll-Elements}
use Rattle.sisal_tree.specs.declared.expr.Expr.{Expr}
use Rattle.sisal_tree.specs.declared.expr.ExprKind.{ExprKind}
use Rattle.sisal_tree.specs.declared.expr.ExprKind.TheOpen.{ExprKind-F}
use Rattle.sisal_tree.specs.declared.expr.ExprKind.TheVariants as tree
use Rattle.sisal_tree.specs.declared.expr.ExprKind.TheViews as kinds
use Rattle.sisal_tree.specs.declared.expr.ExprKind.TheViews.{out-ExprKind}
use Rattle.sisal_tree.specs.declared.expr.FieldValue.{FieldValue}
use Rattle.sisal_tree.specs.declared.expr.PrefixOperator.{PrefixOperator}
use Rattle.sisal_tree.specs.declared.expr.Scalar.{Scalar}
use Rattle.typed_tree.specs.declared.expr.TypedExpr.{TypedExpr}
use Rattle.typed_tree.specs.Scopes.{Scope}
use Rattle.typed_tree.specs.Typing.{Known, Number, AreTyped, at}
use Rattle.typed_tree.specs.Breaks.{Breaks}
use Rattle.type_rules.specs.declared.fault.Refused.TheVariants as refused
use Rattle.type_rules.specs.declared.head.Head.{Head}
use Rattle.type_rules.specs.declared.head.Head.TheVariants as head
use Rattle.type_rules.specs.Applies.{IsRefused}
use Rattle.type_rules.specs.Typed as said
use Rattle.type_rules.specs.Typed.{IsKnown, IsKnownHead}
use Rattle.value_names.specs.Names.{Names}
use Rattle.typing_laws.specs.Given.{Given}
use Rattle.typing_laws.specs.Judged.{Agrees, Stands, denotes_in, AreOnes, no_one, a_one}
use Rattle.typing_laws.specs.Forming.{AreNamedAs, HasHead, OperandsIn}
use Rattle.typing_laws.specs.Forming as form
use Rattle.typing_laws.proofs.Unique.{number_append, no_numbers, as_many}
use Rattle.breaking_laws.specs.Broken.{misnames_in, BreaksAt}
use Rattle.breaking_laws.specs.Refusals.{HasElements}
use Rattle.breaking_laws.specs.FormLaws.{RefusedLaw}
use Rattle.breaking_laws.proofs.FPassing.{reach_later, reach_here, agrees_at}
use Rattle.breaking_laws.proofs.FParts.{out_elements}
use Rattle.breaking_laws.proofs.FTables.{known_of, is_within, have_numbers}
use Rattle.breaking_laws.proofs.FVerdicts.{IsVerdict, none, deep, verdict}
use Rattle.breaking_laws.proofs.FForms.{convert_breaks, is_error_breaks, prefix_breaks, binary_breaks, select_breaks, update_breaks, field_breaks, is_tag_breaks, union_breaks, replace_breaks, record_breaks, empty_array_breaks, array_breaks, empty_stream_breaks, stream_breaks}

known_head : (k : Known) (denotes : Written → Ty → Type 0) (kind : ExprKind) (h : Head) → HasHead k denotes kind h → IsKnownHead k.forms k.spellings h
known_head k denotes _ _ (form.convert c e) = tt
known_head k denotes _ _ (form.error_of w {n = n} {a = a} d i) = is_within k.forms k.spellings n a i
known_head k denotes _ _ (form.is_error e) = tt
known_head k denotes _ _ (form.is_tag x e) = tt
known_head k denotes _ _ (form.prefix o e) = tt
known_head k denotes _ _ (form.binary o e f) = tt
known_head k denotes _ _ (form.select e i) = tt
known_head k denotes _ _ (form.update e i f) = tt
known_head k denotes _ _ (form.field e x) = tt
known_head k denotes _ _ (form.replace e vs) = tt
known_head k denotes _ _ (form.array x els f) = tt
known_head k denotes _ _ (form.empty_array x f) = tt
known_head k denotes _ _ (form.stream x es f) = tt
known_head k denotes _ _ (form.a_record x vs f spelled) = spelled
known_head k denotes _ _ (form.union x tag e f) = tt

-- ---- the kinds of expressions

out_convert : (c : Scalar) (e : Expr) → out-ExprKind (tree.Convert c e) ≡ ExprKind-F.Convert c e
out_convert c e = search (rules, kinds.the_lemmas)

out_is_error : (e : Expr) → out-ExprKind (tree.IsError e) ≡ ExprKind-F.IsError e
out_is_error e = search (rules, kinds.the_lemmas)

out_is_tag : (x : ℕ) (e : Expr) → out-ExprKind (tree.IsTag x e) ≡ ExprKind-F.IsTag x e
out_is_tag x e = search (rules, kinds.the_lemmas)

out_prefix : (o : PrefixOperator) (e : Expr) → out-ExprKind (tree.Prefix o e) ≡ ExprKind-F.Prefix o e
out_prefix o e = search (rules, kinds.the_lemmas)

out_binary : (o : BinaryOperator) (e i : Expr) → out-ExprKind (tree.Binary o e i) ≡ ExprKind-F.Binary o e i
out_binary o e i = search (rules, kinds.the_lemmas)

out_select : (e i : Expr) → out-ExprKind (tree.Select e i) ≡ ExprKind-F.Select e i
out_select e i = search (rules, kinds.the_lemmas)

out_update : (e i v : Expr) → out-ExprKind (tree.Update e i v) ≡ ExprKind-F.Update e i v
out_update e i v = search (rules, kinds.the_lemmas)

out_field : (e : Expr) (x : ℕ) → out-ExprKind (tree.Field e x) ≡ ExprKind-F.Field e x
out_field e x = search (rules, kinds.the_lemmas)

out_replace : (e : Expr) (vs : List FieldValue) → out-ExprKind (tree.Replace e vs) ≡ ExprKind-F.Replace e vs
out_replace e vs = search (rules, kinds.the_lemmas)

out_a_record : (x : Option ℕ) (vs : List FieldValue) → out-ExprKind (tree.Record x vs) ≡ ExprKind-F.Record x vs
out_a_record x vs = search (rules, kinds.the_lemmas)

out_union : (x tag : ℕ) (e : Expr) → out-ExprKind (tree.Union x tag e) ≡ ExprKind-F.Union x tag e
out_union x tag e = search (rules, kinds.the_lemmas)

out_error_of : (w : Written) → out-ExprKind (tree.ErrorOf w) ≡ ExprKind-F.ErrorOf w
out_error_of w = search (rules, kinds.the_lemmas)

out_stream : (x : Option ℕ) (es : List Expr) → out-ExprKind (tree.Stream x es) ≡ ExprKind-F.Stream x es
out_stream x es = search (rules, kinds.the_lemmas)

out_array : (x : Option ℕ) (els : Elements) → out-ExprKind (tree.Array x (Some els)) ≡ ExprKind-F.Array x (Some els)
out_array x els = search (rules, kinds.the_lemmas)

out_empty_array : (x : Option ℕ) → out-ExprKind (tree.Array x None) ≡ ExprKind-F.Array x None
out_empty_array x = search (rules, kinds.the_lemmas)

-- ---- sequences

no_types : (k : Known) (ns : List ℕ) (tys : List Ty) → tys ≡ [] → Number k ns tys → ns ≡ []
no_types k [] tys e p = refl
no_types k (n ∷ ns) [] e p = absurd p.each
no_types k (n ∷ ns) (t ∷ tys) e p = absurd cc

module _ (k : Known) (denotes : Written → Ty → Type 0) (misnames : Written → ℕ → ℕ → Type 0) (s : Scope) (known : IsKnown k.forms k.spellings) (rule l : ℕ) where
  -- an array over a lower bound and elements
  array_over : (x named : Option ℕ) → AreNamedAs k x named → (low : Expr) (es : List Expr) (t : TypedExpr) (ts : List TypedExpr) (tys others : List Ty) (ns : List ℕ)
      → AreOnes k denotes s (low ∷ []) (t ∷ []) tys → AreTyped k denotes s es ts others → Number k ns (tys ++ others) → 1 < length ns → IsVerdict k.forms k.spellings (head.Array named) (tys ++ others) rule
      → Breaks k denotes misnames s (at l (tree.Array x (Some (roll-Elements (record { lower = low; values = es }))))) rule l
  array_over x named f low es t ts _ [] ns (a_one p no_one) q number many v =
      absurd (let long = as_many k.forms k.spellings ns _ number.each in omega (arith, long, many))
  array_over x named f low es t ts _ (a ∷ others) ns (a_one {a = b} p no_one) q number many v =
      array_breaks k denotes misnames s known rule l x named f low es t ts b a others p q (have_numbers k.forms k.spellings ns (b ∷ a ∷ others) number.each) v

  stream_over : (x named : Option ℕ) → AreNamedAs k x named → (es : List Expr) (ts : List TypedExpr) (tys : List Ty) (ns : List ℕ) → AreTyped k denotes s es ts tys → Number k ns tys
      → (tys ≡ [] → es ≡ []) → IsVerdict k.forms k.spellings (head.Stream named) tys rule → Breaks k denotes misnames s (at l (tree.Stream x es)) rule l
  stream_over x named f es ts [] ns p number some v =
      subst (λ r. Breaks k denotes misnames s (at l (tree.Stream x r)) rule l) (sym (some refl)) (empty_stream_breaks k denotes misnames s known rule l x named f v)
  stream_over x named f es ts (a ∷ others) ns p number some v =
      stream_breaks k denotes misnames s known rule l x named f es ts a others p (have_numbers k.forms k.spellings ns (a ∷ others) number.each) v

  error_over : (w : Written) (n : ℕ) (a : Ty) → said.IsForm k.forms k.spellings (head.ErrorOf n) [] operation.Error a → IsVerdict k.forms k.spellings (head.ErrorOf n) [] rule
      → Breaks k denotes misnames s (at l (tree.ErrorOf w)) rule l
  error_over w n a p (none r never) = absurd (never _ _ p)
  error_over w n a p (deep r m o t f never) = absurd m

-- ---- all of them

module _ (g : Given) (f : List Form) (names : Names) (k : Known) (s : Scope) (agrees : Agrees g f k) (stands : Stands k names s) (rule l : ℕ) where
  known : IsKnown k.forms k.spellings
  known = known_of g f k agrees

  breaks_form : (kind : ExprKind) (h : Head) → HasHead k (denotes_in g k) kind h → (ts : List TypedExpr) (ns : List ℕ) → OperandsIn g f names (out-ExprKind kind) ts ns → HasElements (out-ExprKind kind) ns
      → ((tys : List Ty) → Number k ns tys → IsVerdict k.forms k.spellings h tys rule) → Breaks k (denotes_in g k) (misnames_in g k) s (at l kind) rule l
  breaks_form _ h (form.convert c e) ts ns fact filled tells =
      let p = subst (λ o. OperandsIn g f names o ts ns) (out_convert c e) fact in
      let x = p.holds k s agrees stands in
      convert_breaks k (denotes_in g k) (misnames_in g k) s known rule l c e ts x.tys x.typed (tells x.tys x.number)
  breaks_form _ h (form.is_error e) ts ns fact filled tells =
      let p = subst (λ o. OperandsIn g f names o ts ns) (out_is_error e) fact in
      let x = p.holds k s agrees stands in
      is_error_breaks k (denotes_in g k) (misnames_in g k) s known rule l e ts x.tys x.typed (tells x.tys x.number)
  breaks_form _ h (form.is_tag x e) ts ns fact filled tells =
      let p = subst (λ o. OperandsIn g f names o ts ns) (out_is_tag x e) fact in
      let z = p.holds k s agrees stands in
      is_tag_breaks k (denotes_in g k) (misnames_in g k) s known rule l x e ts z.tys z.typed (have_numbers k.forms k.spellings ns z.tys z.number.each) (tells z.tys z.number)
  breaks_form _ h (form.prefix o e) ts ns fact filled tells =
      let p = subst (λ o. OperandsIn g f names o ts ns) (out_prefix o e) fact in
      let x = p.holds k s agrees stands in
      prefix_breaks k (denotes_in g k) (misnames_in g k) s known rule l o e ts x.tys x.typed (tells x.tys x.number)
  breaks_form _ h (form.binary o e i) ts ns fact filled tells =
      let p = subst (λ o. OperandsIn g f names o ts ns) (out_binary o e i) fact in
      let x = p.holds k s agrees stands in
      binary_breaks k (denotes_in g k) (misnames_in g k) s known rule l o e i ts x.tys x.typed (have_numbers k.forms k.spellings ns x.tys x.number.each) (tells x.tys x.number)
  breaks_form _ h (form.select e i) ts ns fact filled tells =
      let p = subst (λ o. OperandsIn g f names o ts ns) (out_select e i) fact in
      let x = p.holds k s agrees stands in
      select_breaks k (denotes_in g k) (misnames_in g k) s known rule l e i ts x.tys x.typed (have_numbers k.forms k.spellings ns x.tys x.number.each) (tells x.tys x.number)
  breaks_form _ h (form.update e i v) ts ns fact filled tells =
      let p = subst (λ o. OperandsIn g f names o ts ns) (out_update e i v) fact in
      let x = p.holds k s agrees stands in
      update_breaks k (denotes_in g k) (misnames_in g k) s known rule l e i v ts x.tys x.typed (have_numbers k.forms k.spellings ns x.tys x.number.each) (tells x.tys x.number)
  breaks_form _ h (form.field e x) ts ns fact filled tells =
      let p = subst (λ o. OperandsIn g f names o ts ns) (out_field e x) fact in
      let z = p.holds k s agrees stands in
      field_breaks k (denotes_in g k) (misnames_in g k) s known rule l e x ts z.tys z.typed (have_numbers k.forms k.spellings ns z.tys z.number.each) (tells z.tys z.number)
  breaks_form _ h (form.replace e vs) ts ns fact filled tells =
      let p = subst (λ o. OperandsIn g f names o ts ns) (out_replace e vs) fact in
      let x = p.holds k s agrees stands in
      replace_breaks k (denotes_in g k) (misnames_in g k) s known rule l e vs ts x.tys x.typed (have_numbers k.forms k.spellings ns x.tys x.number.each) (tells x.tys x.number)
  breaks_form _ h (form.a_record x vs {named = named} d spelled) ts ns fact filled tells =
      let p = subst (λ o. OperandsIn g f names o ts ns) (out_a_record x vs) fact in
      let z = p.holds k s agrees stands in
      record_breaks k (denotes_in g k) (misnames_in g k) s known rule l x named vs d spelled ts z.tys z.typed (tells z.tys z.number)
  breaks_form _ h (form.union x tag e {n = m} d) ts ns fact filled tells =
      let p = subst (λ o. OperandsIn g f names o ts ns) (out_union x tag e) fact in
      let z = p.holds k s agrees stands in
      union_breaks k (denotes_in g k) (misnames_in g k) s known rule l x m tag e d ts z.tys z.typed (tells z.tys z.number)
  breaks_form _ h (form.error_of w {n = m} {a = b} d i) ts ns fact filled tells =
      let p = subst (λ o. OperandsIn g f names o ts ns) (out_error_of w) fact in
      error_over k (denotes_in g k) (misnames_in g k) s known rule l w m b (said.error_of i) (tells [] (subst (λ r. Number k r []) (sym p.1) (no_numbers k)))
  breaks_form _ h (form.empty_array x {named = named} d) ts ns fact filled tells =
      let p = subst (λ o. OperandsIn g f names o ts ns) (out_empty_array x) fact in
      empty_array_breaks k (denotes_in g k) (misnames_in g k) s known rule l x named d (tells [] (subst (λ r. Number k r []) (sym p.1) (no_numbers k)))
  breaks_form _ h (form.array x els {named = named} d) ts ns fact filled tells =
      let p = subst (λ o. OperandsIn g f names o ts ns) (out_array x els) fact in
      let many : 1 < length ns = subst (λ o. HasElements o ns) (out_array x els) filled in
      let low = p.lower.holds k s agrees stands in
      let rest = p.elements.holds k s agrees stands in
      let number : Number k ns (low.tys ++ rest.tys) =
      subst (λ r. Number k r (low.tys ++ rest.tys)) (sym p.is_types) (number_append k (p.bound ∷ []) p.types low.tys rest.tys low.number rest.number) in
      subst (λ r. Breaks k (denotes_in g k) (misnames_in g k) s (at l (tree.Array x (Some r))) rule l) (out_elements els)
      (array_over k (denotes_in g k) (misnames_in g k) s known rule l x named d (out-Elements els).lower (out-Elements els).values p.low p.exprs low.tys rest.tys ns
      low.typed rest.typed number many (tells (low.tys ++ rest.tys) number))
  breaks_form _ h (form.stream x es {named = named} d) ts ns fact filled tells =
      let p = subst (λ o. OperandsIn g f names o ts ns) (out_stream x es) fact in
      let z = p.typed.holds k s agrees stands in
      stream_over k (denotes_in g k) (misnames_in g k) s known rule l x named d es ts z.tys ns z.typed z.number (λ none. p.some (no_types k ns z.tys none z.number)) (tells z.tys z.number)

pub refused_breaks : RefusedLaw
refused_breaks g f0 f1 f2 names kind h parts l rule line used table head grows operands filled p =
    reach_later g f0 f2 (BreaksAt g names (at l kind) rule line) used
    (reach_here g f2 (BreaksAt g names (at l kind) rule line) table (record {
      holds = λ k s whole stands.
          let has : HasHead k (denotes_in g k) kind h = head.holds k (agrees_at g f1 f2 k grows whole) in
          subst (λ r. Breaks k (denotes_in g k) (misnames_in g k) s (at l kind) rule r) (sym p.0)
          (breaks_form g f2 names k s whole.agrees stands rule l kind h has parts.exprs parts.types operands.is filled
          (λ tys number. verdict k.forms k.spellings (known_of g f2 k whole.agrees) h (known_head k (denotes_in g k) kind h has) parts.types tys number.each rule
          (subst (λ fs. IsRefused fs h parts.types (refused.Rule rule)) (sym whole.same) p.1)));
    }))
