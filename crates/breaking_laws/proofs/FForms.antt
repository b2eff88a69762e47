-- A form over typed operands that is refused breaks the rule.
use Rattle.std.proofs.Common.{◌≡◌, ◌⊎◌, inl, inr, ℕ, ◌<◌, List, [], ◌∷◌, map, length, All, Option, Some, None, get_or, sym, ap, subst, ◌∙◌}
use Rattle.std.specs.Prelude.{Contains}
use Rattle.std.proofs.lemmas.Option.{slice_get-get_or}
use Rattle.std.proofs.lemmas.List.Elements.{All-head, All-tail}
use Rattle.flow_value.specs.declared.ty.Ty.{Ty}
use Rattle.flow_value.specs.declared.ty.Ty.TheVariants as ty
use Rattle.value_ops.specs.declared.operation.Operation.{Operation}
use Rattle.sisal_tree.specs.declared.unit.Written.{Written}
use Rattle.sisal_tree.specs.declared.expr.BinaryOperator.{BinaryOperator}
use Rattle.sisal_tree.specs.declared.expr.Elements.{roll-Elements}
use Rattle.sisal_tree.specs.declared.expr.Expr.{Expr}
use Rattle.sisal_tree.specs.declared.expr.ExprKind.{ExprKind}
use Rattle.sisal_tree.specs.declared.expr.ExprKind.TheVariants as tree
use Rattle.sisal_tree.specs.declared.expr.FieldValue.{FieldValue}
use Rattle.sisal_tree.specs.declared.expr.PrefixOperator.{PrefixOperator}
use Rattle.sisal_tree.specs.declared.expr.Scalar.{Scalar}
use Rattle.typed_tree.specs.declared.expr.TypedExpr.{TypedExpr}
use Rattle.typed_tree.specs.Scopes.{Scope, AreDistinct}
use Rattle.typed_tree.specs.Types.{Member, IsNumber, IsShallow, prefix_type}
use Rattle.typed_tree.specs.Typing as typing
use Rattle.typed_tree.specs.Typing.{Known, Number, Types, AreTyped, HasFields, at}
use Rattle.typed_tree.specs.Breaks as breaks
use Rattle.typed_tree.specs.Breaks.{Breaks, NoMemberOf}
use Rattle.type_rules.specs.declared.head.Head.{Head}
use Rattle.type_rules.specs.declared.head.Head.TheVariants as head
use Rattle.type_rules.specs.declared.head.Sort.TheVariants as sort
use Rattle.type_rules.specs.Records.{are_distinct}
use Rattle.type_rules.specs.Typed as said
use Rattle.type_rules.specs.Typed.{IsForm, IsKnown, AreChanged, AreFields}
use Rattle.type_rules.proofs.Deep.{as_deep}
use Rattle.type_rules.proofs.Fielded.{distinct_tells}
use Rattle.typing_laws.specs.Judged.{AreOnes, no_one, a_one}
use Rattle.typing_laws.specs.Forming.{IsNamedAs, AreNamedAs, fields_of}
use Rattle.breaking_laws.proofs.FTables.{decide, contains_first, contains_later, HasNumber, HaveNumbers, same_or, integer_or, array_or, record_or, union_or, field_or, all_or}
use Rattle.breaking_laws.proofs.FVerdicts.{IsVerdict, none, deep}

-- none of the values is of another type than its field
pub record IsAnother (k : Known) (denotes : Written → Ty → Type 0) (s : Scope) (ms : List Member) (vs : List FieldValue) : Type 0 where
  pub field : FieldValue
  pub tree : TypedExpr
  pub type : Ty
  pub there : Contains vs field
  pub typed : Types k denotes s field.value tree (type ∷ [])
  pub absent : NoMemberOf k ms field.field.name type

module _ (k : Known) (denotes : Written → Ty → Type 0) (misnames : Written → ℕ → ℕ → Type 0) (s : Scope) (known : IsKnown k.forms k.spellings) (rule l : ℕ) where
  abbrev Is : Head → List Ty → Type 0
  Is h ts = IsVerdict k.forms k.spellings h ts rule

  abbrev Broken : ExprKind → ℕ → Type 0
  Broken kind r = Breaks k denotes misnames s (at l kind) r l

  abbrev Have : List Ty → Type 0
  Have ts = HaveNumbers k.forms k.spellings ts

  has : (ms : List Member) (x place : ℕ) (content : Ty) → typing.Has k ms x place content → said.Has k.spellings ms x place content
  has ms x place content h = record { spelling = h.spelling; spelled = h.spelled; member = h.member }

  back : (ms : List Member) (x place : ℕ) (content : Ty) → said.Has k.spellings ms x place content → typing.Has k ms x place content
  back ms x place content h = record { spelling = h.spelling; spelled = h.spelled; member = h.member }

  -- no form over these types is one over the same
  moved : (h : Head) (ts us : List Ty) → ts ≡ us → ((o : Operation) (t : Ty) → IsForm k.forms k.spellings h ts o t → ⊥) → (o : Operation) (t : Ty) → IsForm k.forms k.spellings h us o t → ⊥
  moved h ts us same never o t f = never o t (subst (λ l. IsForm k.forms k.spellings h l o t) (sym same) f)

  -- ---- operators

  pub convert_breaks : (c : Scalar) (e : Expr) (ts : List TypedExpr) (tys : List Ty) → AreOnes k denotes s (e ∷ []) ts tys → Is (head.Convert c) tys → Broken (tree.Convert c e) rule
  convert_breaks c e _ _ (a_one p no_one) (none r never) = subst (Broken (tree.Convert c e)) (sym r) (breaks.converted c p (λ q. never _ _ (said.convert q)))
  convert_breaks c e _ _ (a_one p no_one) (deep r m o t f never) = absurd m

  pub is_error_breaks : (e : Expr) (ts : List TypedExpr) (tys : List Ty) → AreOnes k denotes s (e ∷ []) ts tys → Is head.IsError tys → Broken (tree.IsError e) rule
  is_error_breaks e _ _ (a_one p no_one) (none r never) = absurd (never _ _ said.is_error)
  is_error_breaks e _ _ (a_one p no_one) (deep r m o t f never) = absurd m

  pub prefix_breaks : (c : PrefixOperator) (e : Expr) (ts : List TypedExpr) (tys : List Ty) → AreOnes k denotes s (e ∷ []) ts tys → Is (head.Prefix c) tys → Broken (tree.Prefix c e) rule
  prefix_breaks c e _ _ (a_one {a = a} p no_one) (none r never) =
      subst (Broken (tree.Prefix c e)) (sym r)
      (breaks.prefixed c p (λ q. moved (head.Prefix c) (a ∷ []) (prefix_type c ∷ []) (ap (λ d. d ∷ []) q) never _ _ said.prefix))
  prefix_breaks c e _ _ (a_one p no_one) (deep r m o t f never) = absurd m

  pub binary_breaks : (c : BinaryOperator) (e f : Expr) (ts : List TypedExpr) (tys : List Ty) → AreOnes k denotes s (e ∷ f ∷ []) ts tys → Have tys → Is (head.Binary c) tys → Broken (tree.Binary c e f) rule
  binary_breaks c e f _ _ (a_one {a = a} p (a_one {a = b} q no_one)) h (none r never) =
      subst (Broken (tree.Binary c e f)) (sym r)
      (breaks.joined c p q (elim (same_or k.forms k.spellings known a b h.0 h.1.0) [
        | inl same ↦ inr (λ u. moved (head.Binary c) (a ∷ b ∷ []) (a ∷ a ∷ []) (ap (λ d. a ∷ d ∷ []) (sym same)) never _ _ (said.binary u))
        | inr other ↦ inl other
      ]))
  binary_breaks c e f _ _ (a_one p (a_one q no_one)) h (deep r m o t g never) = absurd m

  -- ---- arrays

  pub select_breaks : (e i : Expr) (ts : List TypedExpr) (tys : List Ty) → AreOnes k denotes s (e ∷ i ∷ []) ts tys → Have tys → Is head.Select tys → Broken (tree.Select e i) rule
  select_breaks e i _ _ (a_one {a = a} p (a_one {a = b} q no_one)) h (none r never) =
      subst (Broken (tree.Select e i)) (sym r)
      (breaks.selected p q (elim (array_or k.forms k.spellings known a h.0) [
        | inl one ↦
            inr (λ integer. moved head.Select (a ∷ b ∷ []) (ty.Arr one.0 ∷ ty.Int ∷ [])
            (ap (λ c. c ∷ b ∷ []) one.1 ∙ ap (λ c. ty.Arr one.0 ∷ c ∷ []) integer) never _ _ (said.select one.0))
        | inr other ↦ inl other
      ]))
  select_breaks e i _ _ (a_one p (a_one q no_one)) h (deep r m o t f never) = absurd m

  pub update_breaks : (e i f : Expr) (ts : List TypedExpr) (tys : List Ty) → AreOnes k denotes s (e ∷ i ∷ f ∷ []) ts tys → Have tys → Is head.Update tys → Broken (tree.Update e i f) rule
  update_breaks e i f _ _ (a_one {a = a} p (a_one {a = b} q (a_one {a = c} u no_one))) h (none r never) =
      subst (Broken (tree.Update e i f)) (sym r)
      (breaks.updated p q u (elim (integer_or k.forms k.spellings known b h.1.0) [
        | inl integer ↦
            inl (λ same. moved head.Update (a ∷ b ∷ c ∷ []) (ty.Arr c ∷ ty.Int ∷ c ∷ [])
            (ap (λ d. d ∷ b ∷ c ∷ []) same ∙ ap (λ d. ty.Arr c ∷ d ∷ c ∷ []) integer) never _ _ (said.update c))
        | inr other ↦ inr other
      ]))
  update_breaks e i f _ _ (a_one p (a_one q (a_one u no_one))) h (deep r m o t g never) = absurd m

  -- ---- records and unions

  pub field_breaks : (e : Expr) (x : ℕ) (ts : List TypedExpr) (tys : List Ty) → AreOnes k denotes s (e ∷ []) ts tys → Have tys → Is (head.Field x) tys → Broken (tree.Field e x) rule
  field_breaks e x _ _ (a_one {t = t} {a = a} p no_one) h (none r never) =
      subst (Broken (tree.Field e x)) (sym r)
      (elim (record_or k.forms k.spellings known a h.0) [
        | inr other ↦ breaks.no_record x p other
        | inl one ↦
            breaks.no_field x one.0 (subst (λ c. Types k denotes s e t (c ∷ [])) one.1 p)
            (λ place c q. moved (head.Field x) (a ∷ []) (ty.Rec one.0 ∷ []) (ap (λ d. d ∷ []) one.1) never _ _ (said.field (has one.0 x place c q)))
      ])
  field_breaks e x _ _ (a_one p no_one) h (deep r m o t f never) = absurd m

  pub is_tag_breaks : (x : ℕ) (e : Expr) (ts : List TypedExpr) (tys : List Ty) → AreOnes k denotes s (e ∷ []) ts tys → Have tys → Is (head.IsTag x) tys → Broken (tree.IsTag x e) rule
  is_tag_breaks x e _ _ (a_one {t = t} {a = a} p no_one) h (none r never) =
      subst (Broken (tree.IsTag x e)) (sym r)
      (elim (union_or k.forms k.spellings known a h.0) [
        | inr other ↦ breaks.is_no_union x p other
        | inl one ↦
            breaks.is_no_tag x one.0 (subst (λ c. Types k denotes s e t (c ∷ [])) one.1 p)
            (λ place c q. moved (head.IsTag x) (a ∷ []) (ty.Uni one.0 ∷ []) (ap (λ d. d ∷ []) one.1) never _ _ (said.is_tag (has one.0 x place c q)))
      ])
  is_tag_breaks x e _ _ (a_one p no_one) h (deep r m o t f never) = absurd m

  pub union_breaks : (x n tag : ℕ) (e : Expr) → IsNamedAs k x n → (ts : List TypedExpr) (tys : List Ty) → AreOnes k denotes s (e ∷ []) ts tys → Is (head.Union n tag) tys → Broken (tree.Union x tag e) rule
  union_breaks x n tag e f _ _ (a_one {a = a} p no_one) (none r never) =
      subst (Broken (tree.Union x tag e)) (sym r)
      (elim (union_or k.forms k.spellings known f.type (record { number = n; is = f.number })) [
        | inr other ↦ breaks.no_union x tag f.type e f.named other
        | inl one ↦
            breaks.content x tag one.0 (subst (typing.IsTypeNamed k x) one.1 f.named) p
            (λ place q. never _ _ (said.union (subst (IsNumber k.forms k.spellings n) one.1 f.number) (has one.0 tag place a q)))
      ])
  union_breaks x n tag e f _ _ (a_one p no_one) (deep r m o t g never) = absurd m

  -- ---- a record with other fields

  changed_or : (ms : List Member) → HasNumber k.forms k.spellings (ty.Rec ms) → (vs : List FieldValue) (us : List TypedExpr) (tys : List Ty) → AreOnes k denotes s (map (λ v. v.value) vs) us tys → Have tys
      → ((places : List ℕ) × AreChanged k.spellings ms (fields_of vs) tys places) ⊎ IsAnother k denotes s ms vs
  changed_or ms r [] _ _ no_one h = inl ([], said.no_change)
  changed_or ms r (v ∷ vs) _ _ (a_one {t = t} {a = a} {ts = us} {tys = tys} p q) h =
      elim (field_or k.forms k.spellings known ms r v.field.name a h.0) [
        | inr absent ↦
            inr (record {
              field = v;
              tree = t;
              type = a;
              there = contains_first v vs;
              typed = p;
              absent = λ place y. absent place (has ms v.field.name place a y);
            })
        | inl one ↦ elim (changed_or ms r vs us tys q h.1) [
          | inl others ↦ inl (one.0 ∷ others.0, said.a_change one.1 others.1)
          | inr other ↦
              inr (record {
                field = other.field;
                tree = other.tree;
                type = other.type;
                there = contains_later v vs other.field other.there;
                typed = other.typed;
                absent = other.absent;
              })
        ]
      ]

  pub replace_breaks : (e : Expr) (vs : List FieldValue) (ts : List TypedExpr) (tys : List Ty) → AreOnes k denotes s (e ∷ map (λ v. v.value) vs) ts tys → Have tys → Is (head.Replace (fields_of vs)) tys
      → Broken (tree.Replace e vs) rule
  replace_breaks e vs _ _ (a_one {t = t} {a = a} {ts = us} {tys = tys} p q) h (none r never) =
      subst (Broken (tree.Replace e vs)) (sym r)
      (elim (record_or k.forms k.spellings known a h.0) [
        | inr other ↦ breaks.replaced_no_record vs p other
        | inl one ↦ elim (decide (are_distinct (fields_of vs)) (distinct_tells (fields_of vs))) [
          | inr twice ↦ breaks.replaced_twice vs p twice
          | inl distinct ↦
              elim (changed_or one.0 (record { number = h.0.number; is = subst (IsNumber k.forms k.spellings h.0.number) one.1 h.0.is }) vs us tys q h.1) [
                | inl all ↦ absurd (moved (head.Replace (fields_of vs)) (a ∷ tys) (ty.Rec one.0 ∷ tys) (ap (λ d. d ∷ tys) one.1) never _ _ (said.replace all.1 distinct))
                | inr other ↦ breaks.replaced_by_another one.0 vs (subst (λ c. Types k denotes s e t (c ∷ [])) one.1 p) other.there other.typed other.absent
              ]
        ]
      ])
  replace_breaks e vs _ _ (a_one p q) h (deep r m o t f never) = absurd m

  -- ---- a new record

  fields_made : (vs : List FieldValue) (us : List TypedExpr) (tys : List Ty) → AreOnes k denotes s (map (λ v. v.value) vs) us tys → All (λ y. y < length k.spellings) (fields_of vs)
      → (ms : List Member) × HasFields k denotes s vs us ms × AreFields k.spellings (fields_of vs) tys ms
  fields_made [] _ _ no_one spelled = ([], typing.no_member, said.no_field)
  fields_made (v ∷ vs) _ _ (a_one {a = a} {ts = us} {tys = tys} p q) spelled =
      let at_name = slice_get-get_or k.spellings v.field.name [] (All-head (λ y. y < length k.spellings) v.field.name (fields_of vs) spelled) in
      let rest = fields_made vs us tys q (All-tail (λ y. y < length k.spellings) v.field.name (fields_of vs) spelled) in
      ((get_or k.spellings v.field.name [], a) ∷ rest.0, typing.a_member at_name p rest.1, said.a_field at_name rest.2)

  pub record_breaks : (x named : Option ℕ) (vs : List FieldValue) → AreNamedAs k x named → All (λ y. y < length k.spellings) (fields_of vs) → (ts : List TypedExpr) (tys : List Ty)
      → AreOnes k denotes s (map (λ v. v.value) vs) ts tys → Is (head.Record named (fields_of vs)) tys → Broken (tree.Record x vs) rule
  record_breaks x named vs f spelled ts tys p (none r never) =
      subst (Broken (tree.Record x vs)) (sym r)
      (elim (decide (are_distinct (fields_of vs)) (distinct_tells (fields_of vs))) [
        | inr twice ↦ breaks.field_twice x vs twice
        | inl distinct ↦ let q = fields_made vs ts tys p spelled in by x named f q.0 q.1 q.2 distinct never
      ])
    where
      by : (x named : Option ℕ) → AreNamedAs k x named → (ms : List Member) → HasFields k denotes s vs ts ms → AreFields k.spellings (fields_of vs) tys ms → AreDistinct (fields_of vs)
          → ((o : Operation) (t : Ty) → IsForm k.forms k.spellings (head.Record named (fields_of vs)) tys o t → ⊥) → Broken (tree.Record x vs) 20
      by None None f ms q fs distinct never = absurd (never _ _ (said.a_record fs distinct tt))
      by None (Some n) f ms q fs distinct never = absurd f
      by (Some y) None f ms q fs distinct never = absurd f
      by (Some y) (Some n) f ms q fs distinct never =
          breaks.another_record y f.type q f.named (λ same. never _ _ (said.a_record fs distinct (subst (IsNumber k.forms k.spellings n) same f.number)))
  record_breaks x named vs f spelled ts tys p (deep r m o t made never) = by o t made never
    where
      by : (o : Operation) (t : Ty) → IsForm k.forms k.spellings (head.Record named (fields_of vs)) tys o t → (IsShallow t → ⊥) → Broken (tree.Record x vs) rule
      by _ _ (said.a_record {ms = ms} fs distinct named_by) never =
          subst (Broken (tree.Record x vs)) (sym r) (breaks.deep_record x (in_fields vs ts tys ms p fs) never)
        where
          in_fields : (vs : List FieldValue) (us : List TypedExpr) (tys : List Ty) (ms : List Member) → AreOnes k denotes s (map (λ v. v.value) vs) us tys
              → AreFields k.spellings (fields_of vs) tys ms → HasFields k denotes s vs us ms
          in_fields [] _ _ _ no_one said.no_field = typing.no_member
          in_fields (v ∷ vs) _ _ _ (a_one {ts = us} {tys = tys} p q) (said.a_field {ms = ms} e fs) = typing.a_member e p (in_fields vs us tys ms q fs)

  -- ---- sequences

  pub empty_array_breaks : (x named : Option ℕ) → AreNamedAs k x named → Is (head.EmptyArray named) [] → Broken (tree.Array x None) rule
  empty_array_breaks None None f (none r never) = subst (Broken (tree.Array None None)) (sym r) breaks.empty_array
  empty_array_breaks None (Some n) f v = absurd f
  empty_array_breaks (Some x) None f v = absurd f
  empty_array_breaks (Some x) (Some n) f (none r never) =
      subst (Broken (tree.Array (Some x) None)) (sym r)
      (breaks.empty_no_array x f.type f.named (λ element same. never _ _ (said.empty_array element (subst (IsNumber k.forms k.spellings n) same f.number))))
  empty_array_breaks None None f (deep r m o t g never) = absurd m
  empty_array_breaks (Some x) (Some n) f (deep r m o t g never) = absurd m

  pub array_breaks : (x named : Option ℕ) → AreNamedAs k x named → (low : Expr) (es : List Expr) (t : TypedExpr) (ts : List TypedExpr) (b a : Ty) (others : List Ty)
      → Types k denotes s low t (b ∷ []) → AreTyped k denotes s es ts (a ∷ others) → Have (b ∷ a ∷ others) → Is (head.Array named) (b ∷ a ∷ others)
      → Broken (tree.Array x (Some (roll-Elements (record { lower = low; values = es })))) rule
  array_breaks x named f low es t ts b a others p q h (none r never) =
      subst (Broken (tree.Array x (Some (roll-Elements (record { lower = low; values = es }))))) (sym r)
      (elim (integer_or k.forms k.spellings known b h.0) [
        | inr other ↦ breaks.lower x low es p other
        | inl integer ↦ elim (all_or k.forms k.spellings known a h.1.0 others h.1.1) [
          | inr other ↦ breaks.elements other.0 x low es q other.1 other.2
          | inl same ↦
              by x named f same (λ o u made. never o u (subst (λ c. IsForm k.forms k.spellings (head.Array named) (c ∷ a ∷ others) o u) (sym integer) made))
        ]
      ])
    where
      by : (x named : Option ℕ) → AreNamedAs k x named → All (λ c. c ≡ a) others → ((o : Operation) (u : Ty) → IsForm k.forms k.spellings (head.Array named) (ty.Int ∷ a ∷ others) o u → ⊥)
          → Broken (tree.Array x (Some (roll-Elements (record { lower = low; values = es })))) 19
      by None None f same never = absurd (never _ _ (said.array same tt))
      by None (Some n) f same never = absurd f
      by (Some y) None f same never = absurd f
      by (Some y) (Some n) f same never = breaks.another_array y f.type low es q f.named (λ e. never _ _ (said.array same (subst (IsNumber k.forms k.spellings n) e f.number)))
  array_breaks x named f low es t ts b a others p q h (deep r m o u made never) = by b o u made never
    where
      by : (b : Ty) (o : Operation) (u : Ty) → IsForm k.forms k.spellings (head.Array named) (b ∷ a ∷ others) o u → (IsShallow u → ⊥)
          → Broken (tree.Array x (Some (roll-Elements (record { lower = low; values = es })))) rule
      by _ _ _ (said.array same named_by) never =
          subst (Broken (tree.Array x (Some (roll-Elements (record { lower = low; values = es }))))) (sym r) (breaks.deep_array x low es q never)

  pub empty_stream_breaks : (x named : Option ℕ) → AreNamedAs k x named → Is (head.Stream named) [] → Broken (tree.Stream x []) rule
  empty_stream_breaks None None f (none r never) = subst (Broken (tree.Stream None [])) (sym r) breaks.empty_stream
  empty_stream_breaks None (Some n) f v = absurd f
  empty_stream_breaks (Some x) None f v = absurd f
  empty_stream_breaks (Some x) (Some n) f (none r never) =
      subst (Broken (tree.Stream (Some x) [])) (sym r)
      (breaks.empty_no_stream x f.type f.named (λ element same. never _ _ (said.empty_stream element (subst (IsNumber k.forms k.spellings n) same f.number))))
  empty_stream_breaks x named f (deep r m o t made never) = by named o t made never
    where
      by : (named : Option ℕ) (o : Operation) (t : Ty) → IsForm k.forms k.spellings (head.Stream named) [] o t → (IsShallow t → ⊥) → Broken (tree.Stream x []) rule
      by _ _ _ (said.empty_stream {n = n} a number) never = absurd (never (as_deep k.forms k.spellings known.table (sort.There n) (ty.Stream a) number))

  pub stream_breaks : (x named : Option ℕ) → AreNamedAs k x named → (es : List Expr) (ts : List TypedExpr) (a : Ty) (others : List Ty) → AreTyped k denotes s es ts (a ∷ others) → Have (a ∷ others)
      → Is (head.Stream named) (a ∷ others) → Broken (tree.Stream x es) rule
  stream_breaks x named f es ts a others q h (none r never) =
      subst (Broken (tree.Stream x es)) (sym r)
      (elim (all_or k.forms k.spellings known a h.0 others h.1) [
        | inr other ↦ breaks.stream_elements other.0 x q other.1 other.2
        | inl same ↦ by x named f same never
      ])
    where
      by : (x named : Option ℕ) → AreNamedAs k x named → All (λ c. c ≡ a) others → ((o : Operation) (u : Ty) → IsForm k.forms k.spellings (head.Stream named) (a ∷ others) o u → ⊥)
          → Broken (tree.Stream x es) 19
      by None None f same never = absurd (never _ _ (said.stream same tt))
      by None (Some n) f same never = absurd f
      by (Some y) None f same never = absurd f
      by (Some y) (Some n) f same never = breaks.another_stream y f.type q f.named (λ e. never _ _ (said.stream same (subst (IsNumber k.forms k.spellings n) e f.number)))
  stream_breaks x named f es ts a others q h (deep r m o u made never) = by named o u made never
    where
      by : (named : Option ℕ) (o : Operation) (u : Ty) → IsForm k.forms k.spellings (head.Stream named) (a ∷ others) o u → (IsShallow u → ⊥) → Broken (tree.Stream x es) rule
      by _ _ _ (said.stream same named_by) never = subst (Broken (tree.Stream x es)) (sym r) (breaks.deep_stream x q never)
