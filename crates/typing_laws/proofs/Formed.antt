-- A form over typed operands is typed.
use Rattle.std.proofs.Common.{◌≡◌, ℕ, List, [], ◌∷◌, ◌++◌, map, Option, Some, None, refl, sym, subst, rules}
use Rattle.flow_value.specs.declared.ty.Ty.{Ty}
use Rattle.flow_value.specs.declared.ty.Ty.TheVariants as ty
use Rattle.value_ops.specs.declared.operation.Operation.{Operation}
use Rattle.value_ops.specs.declared.operation.Operation.TheVariants as operation
use Rattle.type_table.specs.declared.form.Form.{Form}
use Rattle.sisal_tree.specs.declared.unit.Written.{Written}
use Rattle.sisal_tree.specs.declared.expr.BinaryOperator.{BinaryOperator}
use Rattle.sisal_tree.specs.declared.expr.Elements.{Elements, out-Elements, roll-Elements}
use Rattle.sisal_tree.specs.declared.expr.Expr.{Expr}
use Rattle.sisal_tree.specs.declared.expr.ExprKind.{ExprKind}
use Rattle.sisal_tree.specs.declared.expr.ExprKind.TheVariants as tree
use Rattle.sisal_tree.specs.declared.expr.ExprKind.TheOpen.{ExprKind-F}
use Rattle.sisal_tree.specs.declared.expr.ExprKind.TheViews as kinds
use Rattle.sisal_tree.specs.declared.expr.ExprKind.TheViews.{out-ExprKind}
use Rattle.sisal_tree.specs.declared.expr.FieldValue.{FieldValue}
use Rattle.sisal_tree.specs.declared.expr.PrefixOperator.{PrefixOperator}
use Rattle.sisal_tree.specs.declared.expr.Scalar.{Scalar}
use Rattle.typed_tree.specs.declared.expr.TypedExpr.{TypedExpr}
use Rattle.typed_tree.specs.declared.expr.TypedKind.TheVariants as typed
use Rattle.typed_tree.specs.Scopes as scopes
use Rattle.typed_tree.specs.Scopes.{AreDistinct}
use Rattle.typed_tree.specs.Types.{Member, IsNumber, IsShallow}
use Rattle.typed_tree.specs.Typing as rule
use Rattle.typed_tree.specs.Typing.{Known, Number, Types, AreTyped, no_more, more, Replaces, HasFields, IsTypeNamed, IsNamedType, at, with}
use Rattle.type_rules.specs.declared.head.Applied.{Applied}
use Rattle.type_rules.specs.declared.head.Head.{Head}
use Rattle.type_rules.specs.declared.head.Head.TheVariants as head
use Rattle.type_rules.specs.Applies.{Grows}
use Rattle.type_rules.specs.Typed as said
use Rattle.type_rules.specs.Typed.{IsForm, IsNamedBy, AreChanged, AreFields}
use Rattle.type_rules.proofs.Standing.{one_type}
use Rattle.value_names.specs.Names.{Names}
use Rattle.typing_laws.specs.Given.{Given}
use Rattle.typing_laws.specs.Given.{Parts}
use Rattle.typing_laws.specs.Judged.{Agrees, Stands, denotes_in, IsTypedAs, Typed, AreOnes, no_one, a_one}
use Rattle.typing_laws.specs.Forming.{IsNamedAs, AreNamedAs, fields_of, HasHead, IsHead, OperandsIn, Operands, AreElements, Finishes}
use Rattle.typing_laws.specs.Forming as form
use Rattle.typing_laws.proofs.Later.{agrees_before}
use Rattle.typing_laws.proofs.Unique.{number_append, a_number, no_numbers}
use Rattle.typing_laws.specs.Said.{IsThereIf, IsSaid}
use Rattle.typing_laws.proofs.Rules.{IsTypedForm, applied_typed}

module _ (k : Known) (denotes : Written → Ty → Type 0) (s : scopes.Scope) where
  has : (ms : List Member) (x place : ℕ) (content : Ty) → said.Has k.spellings ms x place content → rule.Has k ms x place content
  has ms x place content h = record { spelling = h.spelling; spelled = h.spelled; member = h.member }

  named_type : (x named : Option ℕ) (t : Ty) → AreNamedAs k x named → IsNamedBy k.forms k.spellings named t → IsNamedType k x t
  named_type None None t f q = tt
  named_type None (Some n) t f q = absurd f
  named_type (Some x) None t f q = absurd f
  named_type (Some x) (Some n) t f q = subst (λ u. IsTypeNamed k x u) (one_type k.forms k.spellings n f.type t f.number q) f.named

  -- ---- forms of operands that have one value each

  convert_typed : (c : Scalar) (e : Expr) (ts : List TypedExpr) (tys : List Ty) (o : Operation) (a : Ty) → AreOnes k denotes s (e ∷ []) ts tys → IsForm k.forms k.spellings (head.Convert c) tys o a
      → (l : ℕ) (ns : List ℕ) → Number k ns (a ∷ []) → Types k denotes s (at l (tree.Convert c e)) (with l ns (typed.Apply o ts)) (a ∷ [])
  convert_typed c e _ _ _ _ (a_one p no_one) (said.convert q) l ns n = rule.convert p q n

  is_error_typed : (e : Expr) (ts : List TypedExpr) (tys : List Ty) (o : Operation) (a : Ty) → AreOnes k denotes s (e ∷ []) ts tys → IsForm k.forms k.spellings head.IsError tys o a
      → (l : ℕ) (ns : List ℕ) → Number k ns (a ∷ []) → Types k denotes s (at l (tree.IsError e)) (with l ns (typed.Apply o ts)) (a ∷ [])
  is_error_typed e _ _ _ _ (a_one p no_one) said.is_error l ns n = rule.is_error p n

  is_tag_typed : (x : ℕ) (e : Expr) (ts : List TypedExpr) (tys : List Ty) (o : Operation) (a : Ty) → AreOnes k denotes s (e ∷ []) ts tys → IsForm k.forms k.spellings (head.IsTag x) tys o a
      → (l : ℕ) (ns : List ℕ) → Number k ns (a ∷ []) → Types k denotes s (at l (tree.IsTag x e)) (with l ns (typed.Apply o ts)) (a ∷ [])
  is_tag_typed x e _ _ _ _ (a_one p no_one) (said.is_tag {place = place} {content = content} {ms = ms} h) l ns n = rule.is_tag p (has ms x place content h) n

  prefix_typed : (c : PrefixOperator) (e : Expr) (ts : List TypedExpr) (tys : List Ty) (o : Operation) (a : Ty) → AreOnes k denotes s (e ∷ []) ts tys → IsForm k.forms k.spellings (head.Prefix c) tys o a
      → (l : ℕ) (ns : List ℕ) → Number k ns (a ∷ []) → Types k denotes s (at l (tree.Prefix c e)) (with l ns (typed.Apply o ts)) (a ∷ [])
  prefix_typed c e _ _ _ _ (a_one p no_one) said.prefix l ns n = rule.prefix p n

  binary_typed : (c : BinaryOperator) (e f : Expr) (ts : List TypedExpr) (tys : List Ty) (o : Operation) (a : Ty) → AreOnes k denotes s (e ∷ f ∷ []) ts tys → IsForm k.forms k.spellings (head.Binary c) tys o a
      → (l : ℕ) (ns : List ℕ) → Number k ns (a ∷ []) → Types k denotes s (at l (tree.Binary c e f)) (with l ns (typed.Apply o ts)) (a ∷ [])
  binary_typed c e f _ _ _ _ (a_one p (a_one q no_one)) (said.binary r) l ns n = rule.binary p q r n

  select_typed : (e i : Expr) (ts : List TypedExpr) (tys : List Ty) (o : Operation) (a : Ty) → AreOnes k denotes s (e ∷ i ∷ []) ts tys → IsForm k.forms k.spellings head.Select tys o a
      → (l : ℕ) (ns : List ℕ) → Number k ns (a ∷ []) → Types k denotes s (at l (tree.Select e i)) (with l ns (typed.Apply o ts)) (a ∷ [])
  select_typed e i _ _ _ _ (a_one p (a_one q no_one)) (said.select a) l ns n = rule.select p q n

  update_typed : (e i f : Expr) (ts : List TypedExpr) (tys : List Ty) (o : Operation) (a : Ty) → AreOnes k denotes s (e ∷ i ∷ f ∷ []) ts tys → IsForm k.forms k.spellings head.Update tys o a
      → (l : ℕ) (ns : List ℕ) → Number k ns (a ∷ []) → Types k denotes s (at l (tree.Update e i f)) (with l ns (typed.Apply o ts)) (a ∷ [])
  update_typed e i f _ _ _ _ (a_one p (a_one q (a_one r no_one))) (said.update a) l ns n = rule.update p q r n

  field_typed : (x : ℕ) (e : Expr) (ts : List TypedExpr) (tys : List Ty) (o : Operation) (a : Ty) → AreOnes k denotes s (e ∷ []) ts tys → IsForm k.forms k.spellings (head.Field x) tys o a
      → (l : ℕ) (ns : List ℕ) → Number k ns (a ∷ []) → Types k denotes s (at l (tree.Field e x)) (with l ns (typed.Apply o ts)) (a ∷ [])
  field_typed x e _ _ _ _ (a_one p no_one) (said.field {place = place} {content = content} {ms = ms} h) l ns n = rule.field p (has ms x place content h) n

  union_typed : (x m tag : ℕ) (e : Expr) → IsNamedAs k x m → (ts : List TypedExpr) (tys : List Ty) (o : Operation) (a : Ty) → AreOnes k denotes s (e ∷ []) ts tys
      → IsForm k.forms k.spellings (head.Union m tag) tys o a
      → (l : ℕ) (ns : List ℕ) → Number k ns (a ∷ []) → Types k denotes s (at l (tree.Union x tag e)) (with l ns (typed.Apply o ts)) (a ∷ [])
  union_typed x m tag e f _ _ _ _ (a_one p no_one) (said.union {place = place} {content = content} {ms = ms} q h) l ns n =
      rule.union (subst (λ u. IsTypeNamed k x u) (one_type k.forms k.spellings m f.type (ty.Uni ms) f.number q) f.named) (has ms tag place content h) p n

  -- ---- fields

  replaces_of : (ms : List Member) (vs : List FieldValue) (us : List TypedExpr) (tys : List Ty) (places : List ℕ) → AreOnes k denotes s (map (λ v. v.value) vs) us tys
      → AreChanged k.spellings ms (fields_of vs) tys places → Replaces k denotes s ms vs places us
  replaces_of ms [] _ _ _ no_one said.no_change = rule.no_field
  replaces_of ms (v ∷ vs) _ _ _ (a_one {ts = us} {tys = tys} p r) (said.a_change {place = place} {a = a} {places = places} h q) =
      rule.a_field (has ms v.field.name place a h) p (replaces_of ms vs us tys places r q)

  replace_typed : (e : Expr) (vs : List FieldValue) (ts : List TypedExpr) (tys : List Ty) (o : Operation) (a : Ty) → AreOnes k denotes s (e ∷ map (λ v. v.value) vs) ts tys
      → IsForm k.forms k.spellings (head.Replace (fields_of vs)) tys o a
      → (l : ℕ) (ns : List ℕ) → Number k ns (a ∷ []) → Types k denotes s (at l (tree.Replace e vs)) (with l ns (typed.Apply o ts)) (a ∷ [])
  replace_typed e vs _ _ _ _ (a_one {ts = us} p r) (said.replace {ms = ms} {places = places} {tys = tys} q distinct) l ns n =
      rule.replace p (replaces_of ms vs us tys places r q) distinct n

  fields_in : (vs : List FieldValue) (us : List TypedExpr) (tys : List Ty) (ms : List Member) → AreOnes k denotes s (map (λ v. v.value) vs) us tys
      → AreFields k.spellings (fields_of vs) tys ms → HasFields k denotes s vs us ms
  fields_in [] _ _ _ no_one said.no_field = rule.no_member
  fields_in (v ∷ vs) _ _ _ (a_one {ts = us} {tys = tys} p r) (said.a_field {ms = ms} h q) = rule.a_member h p (fields_in vs us tys ms r q)

  record_typed : (x named : Option ℕ) (vs : List FieldValue) → AreNamedAs k x named → (ts : List TypedExpr) (tys : List Ty) (o : Operation) (a : Ty) → AreOnes k denotes s (map (λ v. v.value) vs) ts tys
      → IsForm k.forms k.spellings (head.Record named (fields_of vs)) tys o a → IsShallow a
      → (l : ℕ) (ns : List ℕ) → Number k ns (a ∷ []) → Types k denotes s (at l (tree.Record x vs)) (with l ns (typed.Apply o ts)) (a ∷ [])
  record_typed x named vs f ts tys _ _ p (said.a_record {ms = ms} q distinct by) shallow l ns n =
      rule.a_record (fields_in vs ts tys ms p q) distinct (named_type x named (ty.Rec ms) f by) shallow n

  -- ---- sequences

  error_typed : (w : Written) (m : ℕ) (b : Ty) → denotes w b → IsNumber k.forms k.spellings m b → (tys : List Ty) (o : Operation) (a : Ty) → IsForm k.forms k.spellings (head.ErrorOf m) tys o a
      → (l : ℕ) (ns : List ℕ) → Number k ns (a ∷ []) → Types k denotes s (at l (tree.ErrorOf w)) (with l ns (typed.Apply o [])) (a ∷ [])
  error_typed w m b d i _ _ _ (said.error_of {a = a} j) l ns n = rule.error_of (subst (λ u. denotes w u) (one_type k.forms k.spellings m b a i j) d) n

  empty_typed : (x named : Option ℕ) → AreNamedAs k x named → (tys : List Ty) (o : Operation) (a : Ty) → IsForm k.forms k.spellings (head.EmptyArray named) tys o a
      → (l : ℕ) (ns : List ℕ) → Number k ns (a ∷ []) → Types k denotes s (at l (tree.Array x None)) (with l ns (typed.Apply o [])) (a ∷ [])
  empty_typed None _ f _ _ _ (said.empty_array a q) l ns n = absurd f
  empty_typed (Some x) _ f _ _ _ (said.empty_array {n = m} a q) l ns n =
      rule.empty_array a (subst (λ u. IsTypeNamed k x u) (one_type k.forms k.spellings m f.type (ty.Arr a) f.number q) f.named) n

  array_typed : (x named : Option ℕ) → AreNamedAs k x named → (low : Expr) (es : List Expr) (t : TypedExpr) (ts : List TypedExpr) (tys others : List Ty) (o : Operation) (a : Ty)
      → AreOnes k denotes s (low ∷ []) (t ∷ []) tys → AreTyped k denotes s es ts others → IsForm k.forms k.spellings (head.Array named) (tys ++ others) o a → IsShallow a
      → (l : ℕ) (ns : List ℕ) → Number k ns (a ∷ [])
      → Types k denotes s (at l (tree.Array x (Some (roll-Elements (record { lower = low; values = es }))))) (with l ns (typed.Apply o (t ∷ ts))) (a ∷ [])
  array_typed x named f low es t ts _ _ _ _ (a_one p no_one) q (said.array {a = a} {tys = tys} same by) shallow l ns n =
      rule.array p q same (named_type x named (ty.Arr a) f by) shallow n

  none_of : (ts : List TypedExpr) (tys : List Ty) → AreTyped k denotes s [] ts tys → ts ≡ []
  none_of _ _ no_more = refl

  empty_stream_typed : (x : Option ℕ) (m : ℕ) (a : Ty) → AreNamedAs k x (Some m) → IsNumber k.forms k.spellings m (ty.Stream a) → (es : List Expr) (ts : List TypedExpr) → es ≡ [] → ts ≡ []
      → (l : ℕ) (ns : List ℕ) → Number k ns (ty.Stream a ∷ [])
      → Types k denotes s (at l (tree.Stream x es)) (with l ns (typed.Apply operation.Stream ts)) (ty.Stream a ∷ [])
  empty_stream_typed None m a f q es ts no_es no_ts l ns n = absurd f
  empty_stream_typed (Some x) m a f q es ts no_es no_ts l ns n =
      subst (λ e. Types k denotes s (at l (tree.Stream (Some x) e)) (with l ns (typed.Apply operation.Stream ts)) (ty.Stream a ∷ [])) (sym no_es)
      (subst (λ t. Types k denotes s (at l (tree.Stream (Some x) [])) (with l ns (typed.Apply operation.Stream t)) (ty.Stream a ∷ [])) (sym no_ts)
      (rule.empty_stream a (subst (λ u. IsTypeNamed k x u) (one_type k.forms k.spellings m f.type (ty.Stream a) f.number q) f.named) n))

  stream_typed : (x named : Option ℕ) → AreNamedAs k x named → (es : List Expr) (ts : List TypedExpr) (tys : List Ty) (o : Operation) (a : Ty)
      → AreTyped k denotes s es ts tys → (tys ≡ [] → es ≡ []) → IsForm k.forms k.spellings (head.Stream named) tys o a → IsShallow a
      → (l : ℕ) (ns : List ℕ) → Number k ns (a ∷ [])
      → Types k denotes s (at l (tree.Stream x es)) (with l ns (typed.Apply o ts)) (a ∷ [])
  stream_typed x _ f es ts _ _ _ p some (said.empty_stream {n = m} a q) shallow l ns n =
      let none : es ≡ [] = some refl in
      empty_stream_typed x m a f q es ts none (none_of ts [] (subst (λ e. AreTyped k denotes s e ts []) none p)) l ns n
  stream_typed x named f es ts _ _ _ p some (said.stream {a = a} {tys = tys} same by) shallow l ns n = rule.stream p same (named_type x named (ty.Stream a) f by) shallow n

-- ---- all forms

module _ (k : Known) (denotes : Written → Ty → Type 0) where
  there_if : (x named : Option ℕ) → AreNamedAs k x named → IsThereIf k.forms k.spellings named
  there_if None None f = tt
  there_if None (Some n) f = absurd f
  there_if (Some x) None f = absurd f
  there_if (Some x) (Some n) f = (f.type, f.number)

  said_of : (kind : ExprKind) (h : Head) → HasHead k denotes kind h → IsSaid k.forms k.spellings h
  said_of _ _ (form.convert c e) = tt
  said_of _ _ (form.error_of w {a = a} d i) = (a, i)
  said_of _ _ (form.is_error e) = tt
  said_of _ _ (form.is_tag x e) = tt
  said_of _ _ (form.prefix o e) = tt
  said_of _ _ (form.binary o e f) = tt
  said_of _ _ (form.select e i) = tt
  said_of _ _ (form.update e i f) = tt
  said_of _ _ (form.field e x) = tt
  said_of _ _ (form.replace e vs) = tt
  said_of _ _ (form.array x els {named = named} f) = there_if x named f
  said_of _ _ (form.empty_array x {named = named} f) = there_if x named f
  said_of _ _ (form.stream x es {named = named} f) = there_if x named f
  said_of _ _ (form.a_record x vs {named = named} f spelled) = (there_if x named f, spelled)
  said_of _ _ (form.union x tag e f) = (f.type, f.number)

no_types : (k : Known) (ns : List ℕ) (tys : List Ty) → tys ≡ [] → Number k ns tys → ns ≡ []
no_types k [] tys e p = refl
no_types k (n ∷ ns) [] e p = absurd p.each
no_types k (n ∷ ns) (t ∷ tys) e p = absurd cc

-- one value of the type of the form
made : (k : Known) (g : Given) (s : scopes.Scope) (h : Head) (kind : ExprKind) (tys : List Ty) (a : Applied) (y : IsTypedForm k h tys a) (l : ℕ) (ts : List TypedExpr)
    → ((ns : List ℕ) → Number k ns (y.type ∷ []) → Types k (denotes_in g k) s (at l kind) (with l ns (typed.Apply a.operation ts)) (y.type ∷ []))
    → IsTypedAs k g s (at l kind) (with l (a.ty ∷ []) (typed.Apply a.operation ts))
made k g s h kind tys a y l ts p =
    let n : Number k (a.ty ∷ []) (y.type ∷ []) = a_number k a.ty y.type y.number in
    record { tys = y.type ∷ []; number = n; typed = p (a.ty ∷ []) n }

-- ---- the kinds of expressions

pub out_convert : (c : Scalar) (e : Expr) → out-ExprKind (tree.Convert c e) ≡ ExprKind-F.Convert c e
out_convert c e = search (rules, kinds.the_lemmas)

pub out_is_error : (e : Expr) → out-ExprKind (tree.IsError e) ≡ ExprKind-F.IsError e
out_is_error e = search (rules, kinds.the_lemmas)

pub out_is_tag : (x : ℕ) (e : Expr) → out-ExprKind (tree.IsTag x e) ≡ ExprKind-F.IsTag x e
out_is_tag x e = search (rules, kinds.the_lemmas)

pub out_prefix : (o : PrefixOperator) (e : Expr) → out-ExprKind (tree.Prefix o e) ≡ ExprKind-F.Prefix o e
out_prefix o e = search (rules, kinds.the_lemmas)

pub out_binary : (o : BinaryOperator) (e i : Expr) → out-ExprKind (tree.Binary o e i) ≡ ExprKind-F.Binary o e i
out_binary o e i = search (rules, kinds.the_lemmas)

pub out_select : (e i : Expr) → out-ExprKind (tree.Select e i) ≡ ExprKind-F.Select e i
out_select e i = search (rules, kinds.the_lemmas)

pub out_update : (e i v : Expr) → out-ExprKind (tree.Update e i v) ≡ ExprKind-F.Update e i v
out_update e i v = search (rules, kinds.the_lemmas)

pub out_field : (e : Expr) (x : ℕ) → out-ExprKind (tree.Field e x) ≡ ExprKind-F.Field e x
out_field e x = search (rules, kinds.the_lemmas)

pub out_replace : (e : Expr) (vs : List FieldValue) → out-ExprKind (tree.Replace e vs) ≡ ExprKind-F.Replace e vs
out_replace e vs = search (rules, kinds.the_lemmas)

pub out_a_record : (x : Option ℕ) (vs : List FieldValue) → out-ExprKind (tree.Record x vs) ≡ ExprKind-F.Record x vs
out_a_record x vs = search (rules, kinds.the_lemmas)

pub out_union : (x tag : ℕ) (e : Expr) → out-ExprKind (tree.Union x tag e) ≡ ExprKind-F.Union x tag e
out_union x tag e = search (rules, kinds.the_lemmas)

pub out_error_of : (w : Written) → out-ExprKind (tree.ErrorOf w) ≡ ExprKind-F.ErrorOf w
out_error_of w = search (rules, kinds.the_lemmas)

pub out_stream : (x : Option ℕ) (es : List Expr) → out-ExprKind (tree.Stream x es) ≡ ExprKind-F.Stream x es
out_stream x es = search (rules, kinds.the_lemmas)

pub out_array : (x : Option ℕ) (els : Elements) → out-ExprKind (tree.Array x (Some els)) ≡ ExprKind-F.Array x (Some els)
out_array x els = search (rules, kinds.the_lemmas)

pub out_empty_array : (x : Option ℕ) → out-ExprKind (tree.Array x None) ≡ ExprKind-F.Array x None
out_empty_array x = search (rules, kinds.the_lemmas)

pub out_elements : (els : Elements) → roll-Elements (record { lower = (out-Elements els).lower; values = (out-Elements els).values }) ≡ els
out_elements els = search (rules, kinds.the_lemmas)

-- ---- all of them

module _ (g : Given) (f : List Form) (names : Names) (k : Known) (s : scopes.Scope) (agrees : Agrees g f k) (stands : Stands k names s) where
  formed : (kind : ExprKind) (h : Head) → HasHead k (denotes_in g k) kind h → (ts : List TypedExpr) (ns : List ℕ) → OperandsIn g f names (out-ExprKind kind) ts ns
      → (a : Applied) → ((tys : List Ty) → Number k ns tys → IsTypedForm k h tys a) → (l : ℕ) → IsTypedAs k g s (at l kind) (with l (a.ty ∷ []) (typed.Apply a.operation ts))
  formed _ h (form.convert c e) ts ns fact a sound l =
      let p = subst (λ o. OperandsIn g f names o ts ns) (out_convert c e) fact in
      let x = p.holds k s agrees stands in let y = sound x.tys x.number in
      made k g s h (tree.Convert c e) x.tys a y l ts (convert_typed k (denotes_in g k) s c e ts x.tys a.operation y.type x.typed y.form l)
  formed _ h (form.is_error e) ts ns fact a sound l =
      let p = subst (λ o. OperandsIn g f names o ts ns) (out_is_error e) fact in
      let x = p.holds k s agrees stands in let y = sound x.tys x.number in
      made k g s h (tree.IsError e) x.tys a y l ts (is_error_typed k (denotes_in g k) s e ts x.tys a.operation y.type x.typed y.form l)
  formed _ h (form.is_tag x e) ts ns fact a sound l =
      let p = subst (λ o. OperandsIn g f names o ts ns) (out_is_tag x e) fact in
      let z = p.holds k s agrees stands in let y = sound z.tys z.number in
      made k g s h (tree.IsTag x e) z.tys a y l ts (is_tag_typed k (denotes_in g k) s x e ts z.tys a.operation y.type z.typed y.form l)
  formed _ h (form.prefix o e) ts ns fact a sound l =
      let p = subst (λ o. OperandsIn g f names o ts ns) (out_prefix o e) fact in
      let x = p.holds k s agrees stands in let y = sound x.tys x.number in
      made k g s h (tree.Prefix o e) x.tys a y l ts (prefix_typed k (denotes_in g k) s o e ts x.tys a.operation y.type x.typed y.form l)
  formed _ h (form.binary o e i) ts ns fact a sound l =
      let p = subst (λ o. OperandsIn g f names o ts ns) (out_binary o e i) fact in
      let x = p.holds k s agrees stands in let y = sound x.tys x.number in
      made k g s h (tree.Binary o e i) x.tys a y l ts (binary_typed k (denotes_in g k) s o e i ts x.tys a.operation y.type x.typed y.form l)
  formed _ h (form.select e i) ts ns fact a sound l =
      let p = subst (λ o. OperandsIn g f names o ts ns) (out_select e i) fact in
      let x = p.holds k s agrees stands in let y = sound x.tys x.number in
      made k g s h (tree.Select e i) x.tys a y l ts (select_typed k (denotes_in g k) s e i ts x.tys a.operation y.type x.typed y.form l)
  formed _ h (form.update e i v) ts ns fact a sound l =
      let p = subst (λ o. OperandsIn g f names o ts ns) (out_update e i v) fact in
      let x = p.holds k s agrees stands in let y = sound x.tys x.number in
      made k g s h (tree.Update e i v) x.tys a y l ts (update_typed k (denotes_in g k) s e i v ts x.tys a.operation y.type x.typed y.form l)
  formed _ h (form.field e x) ts ns fact a sound l =
      let p = subst (λ o. OperandsIn g f names o ts ns) (out_field e x) fact in
      let z = p.holds k s agrees stands in let y = sound z.tys z.number in
      made k g s h (tree.Field e x) z.tys a y l ts (field_typed k (denotes_in g k) s x e ts z.tys a.operation y.type z.typed y.form l)
  formed _ h (form.replace e vs) ts ns fact a sound l =
      let p = subst (λ o. OperandsIn g f names o ts ns) (out_replace e vs) fact in
      let x = p.holds k s agrees stands in let y = sound x.tys x.number in
      made k g s h (tree.Replace e vs) x.tys a y l ts (replace_typed k (denotes_in g k) s e vs ts x.tys a.operation y.type x.typed y.form l)
  formed _ h (form.a_record x vs {named = named} d spelled) ts ns fact a sound l =
      let p = subst (λ o. OperandsIn g f names o ts ns) (out_a_record x vs) fact in
      let z = p.holds k s agrees stands in let y = sound z.tys z.number in
      made k g s h (tree.Record x vs) z.tys a y l ts (record_typed k (denotes_in g k) s x named vs d ts z.tys a.operation y.type z.typed y.form y.shallow l)
  formed _ h (form.union x tag e {n = m} d) ts ns fact a sound l =
      let p = subst (λ o. OperandsIn g f names o ts ns) (out_union x tag e) fact in
      let z = p.holds k s agrees stands in let y = sound z.tys z.number in
      made k g s h (tree.Union x tag e) z.tys a y l ts (union_typed k (denotes_in g k) s x m tag e d ts z.tys a.operation y.type z.typed y.form l)
  formed _ h (form.error_of w {n = m} {a = b} d i) ts ns fact a sound l =
      let p = subst (λ o. OperandsIn g f names o ts ns) (out_error_of w) fact in
      let y = sound [] (subst (λ r. Number k r []) (sym p.1) (no_numbers k)) in
      subst (λ r. IsTypedAs k g s (at l (tree.ErrorOf w)) (with l (a.ty ∷ []) (typed.Apply a.operation r))) (sym p.0)
      (made k g s h (tree.ErrorOf w) [] a y l [] (error_typed k (denotes_in g k) s w m b d i [] a.operation y.type y.form l))
  formed _ h (form.empty_array x {named = named} d) ts ns fact a sound l =
      let p = subst (λ o. OperandsIn g f names o ts ns) (out_empty_array x) fact in
      let y = sound [] (subst (λ r. Number k r []) (sym p.1) (no_numbers k)) in
      subst (λ r. IsTypedAs k g s (at l (tree.Array x None)) (with l (a.ty ∷ []) (typed.Apply a.operation r))) (sym p.0)
      (made k g s h (tree.Array x None) [] a y l [] (empty_typed k (denotes_in g k) s x named d [] a.operation y.type y.form l))
  formed _ h (form.array x els {named = named} d) ts ns fact a sound l =
      let p = subst (λ o. OperandsIn g f names o ts ns) (out_array x els) fact in
      let low = p.lower.holds k s agrees stands in let rest = p.elements.holds k s agrees stands in
      let tys : List Ty = low.tys ++ rest.tys in
      let y = sound tys (subst (λ r. Number k r tys) (sym p.is_types) (number_append k (p.bound ∷ []) p.types low.tys rest.tys low.number rest.number)) in
      subst (λ r. IsTypedAs k g s (at l (tree.Array x (Some els))) (with l (a.ty ∷ []) (typed.Apply a.operation r))) (sym p.is_exprs)
      (subst (λ r. IsTypedAs k g s (at l (tree.Array x (Some r))) (with l (a.ty ∷ []) (typed.Apply a.operation (p.low ∷ p.exprs)))) (out_elements els)
      (made k g s h (tree.Array x (Some (roll-Elements (record { lower = (out-Elements els).lower; values = (out-Elements els).values })))) tys a y l (p.low ∷ p.exprs) (array_typed k (denotes_in g k) s x named d (out-Elements els).lower (out-Elements els).values p.low p.exprs low.tys rest.tys
      a.operation y.type low.typed rest.typed y.form y.shallow l)))
  formed _ h (form.stream x es {named = named} d) ts ns fact a sound l =
      let p = subst (λ o. OperandsIn g f names o ts ns) (out_stream x es) fact in
      let z = p.typed.holds k s agrees stands in let y = sound z.tys z.number in
      made k g s h (tree.Stream x es) z.tys a y l ts
      (stream_typed k (denotes_in g k) s x named d es ts z.tys a.operation y.type z.typed (λ none. p.some (no_types k ns z.tys none z.number)) y.form y.shallow l)

-- a form over its operands
pub form_typed : (g : Given) (f0 f1 f2 : List Form) (names : Names) (kind : ExprKind) (h : Head) (parts : Parts) (line : ℕ) (t : TypedExpr)
    → IsHead g f0 kind h → Grows f0 f1 → Operands g f1 names kind parts.exprs parts.types → Grows f1 f2 → Finishes f1 f2 line h parts t
    → Typed g f2 names (at line kind) t
form_typed g f0 f1 f2 names kind h parts line t head grows operands after finishes = record {
  holds = λ k s agrees stands.
      let between : Agrees g f1 k = agrees_before g f1 f2 k after agrees in
      let has : HasHead k (denotes_in g k) kind h = head.holds k (agrees_before g f0 f1 k grows between) in
      subst (λ r. IsTypedAs k g s (at line kind) r) (sym finishes.is)
      (formed g f1 names k s between stands kind h has parts.exprs parts.types operands.is finishes.applied
      (λ tys number. applied_typed k f1 f2 agrees.table after agrees.grows h (said_of k (denotes_in g k) kind h has) parts.types tys number finishes.applied finishes.is_applied)
      line);
}
