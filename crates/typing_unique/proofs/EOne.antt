-- An expression has one list of types, whatever the table of types.
use Rattle.std.proofs.Common.{◌≡◌, ◌⊎◌, inl, inr, ℕ, List, [], ◌∷◌, ◌++◌, Option, Some, None, All, refl, sym, ap, subst, ◌∙◌}
use Rattle.std.proofs.lemmas.Option.{same_Some}
use Rattle.std.proofs.lemmas.List.Elements.{All-head}
use Rattle.sisal_lex.specs.Words.{beside}
use Rattle.name_scope.specs.Newest.{newest}
use Rattle.flow_value.specs.declared.ty.Ty.{Ty}
use Rattle.flow_value.specs.declared.ty.Ty.TheVariants as ty
use Rattle.type_table.specs.declared.form.Form.{Form}
use Rattle.sisal_tree.specs.declared.unit.Written.{Written}
use Rattle.sisal_tree.specs.declared.expr.Expr.{Expr}
use Rattle.sisal_tree.specs.declared.expr.ExprKind.TheVariants as tree
use Rattle.sisal_tree.specs.declared.expr.ExprKind.TheOpen.{ExprKind-F}
use Rattle.sisal_tree.specs.declared.expr.FieldValue.{FieldValue}
use Rattle.sisal_tree.specs.declared.expr.Def.{Def}
use Rattle.sisal_tree.specs.declared.expr.Arm.{Arm}
use Rattle.sisal_tree.specs.declared.expr.Generator.{Generator}
use Rattle.sisal_tree.specs.declared.expr.Clause.{Clause, out-Clause, roll-Clause}
use Rattle.typed_tree.specs.declared.built_in.BuiltIn.{BuiltIn}
use Rattle.typed_tree.specs.BuiltIns.{built_ins}
use Rattle.typed_tree.specs.declared.expr.TypedExpr.{TypedExpr}
use Rattle.typed_tree.specs.declared.expr.Source.{Source}
use Rattle.typed_tree.specs.declared.expr.ClauseForm.{ClauseForm}
use Rattle.typed_tree.specs.Scopes.{Meaning, At, Scope, define_all}
use Rattle.typed_tree.specs.Types.{Member, IsSequence, binary_type, Gives, Makes}
use Rattle.typed_tree.specs.Typing as rule
use Rattle.typed_tree.specs.Typing.{Signature, Known, IsBuiltIn, Has, IsTag, AreAllNamed, names_in, names_of, with_content, Folds, Types, AreTyped, HasFields, Defines, Crosses, Generates, AreClauses, AreArms, IsOtherwise}
use Rattle.typing_unique.specs.Fair.{AreOnce, AreProper, IsFair}
use Rattle.typing_unique.specs.Inverted.{at_table, IsProperScope, IsConstant, IsName, IsErrorOf, IsEmptyArray, IsGroup, IsCall, IsConvert, IsIsError, IsIsTag, IsPrefix, IsBinary, IsSelect, IsUpdate, IsField, IsReplace, IsArray, IsStreamIf, IsRecord, IsUnion, IsLet, IsIf, IsTagCase, IsInitial, IsProduct, IsNoDefinition, IsDefinition, IsBody, IsInnerLoop, IsCrossed, IsRange, IsElements, IsNoGenerator, IsClause, IsArm, IsNewField, IsFirst}
use Rattle.text_trees.proofs.Views.{out_constant, out_name, out_old, out_group, out_call, out_convert, out_error_of, out_is_error, out_is_tag, out_prefix, out_binary, out_select, out_update, out_field, out_replace, out_empty_array, out_stream, out_a_record, out_union, out_let, out_if, out_clause}
use Rattle.typing_unique.proofs.EInverted.{has_in, function_in, built_in_in, tags_in, view, view_array, view_case, view_product, view_initial, definitions_of, view_definitions, crossed_of, inner_of, generated_of, view_generators, clauses_of, view_clauses, view_arms, first_of, fields_of}
use Rattle.typing_unique.proofs.ETypes.{same_array, same_record, same_union, one_element, same_first, one_result, one_made, record_proper, union_proper, content_proper, one_place, made_of, makes_is}
use Rattle.typing_unique.proofs.EScopes.{defined_proper, content_defined}
use Rattle.typing_unique.proofs.EProper.{the_one, first_tag, no_names_of, tagged, proper, all_proper, definitions_proper, generated_proper}

same_meaning : (i j : ℕ) (a b : Ty) → At i a ≡ At j b → a ≡ b
same_meaning i j a b e = cc

-- a name stands for one type
pub one_meaning : (x i j : ℕ) (a b : Ty) (names : List (ℕ × Meaning)) → newest x names ≡ Some (At i a) → newest x names ≡ Some (At j b) → a ≡ b
one_meaning x i j a b names p q = same_meaning i j a b (same_Some (At i a) (At j b) (sym p ∙ q))

-- a name is that of one call that is built in
pub one_call : (k : Known) (x : ℕ) (b c : BuiltIn) → IsBuiltIn k x b → IsBuiltIn k x c → b ≡ c
one_call k x b c p q =
    let e : q.spelling ≡ p.spelling = same_Some q.spelling p.spelling (sym q.spelled ∙ p.spelled) in
    same_Some b c (sym p.named ∙ ap (λ s. beside s built_ins) (sym e) ∙ q.named)

-- the tags of an arm have one content
pub one_content : (k : Known) (ms : List Member) (a b : Ty) (names : List ℕ) → AreOnce ms → (names ≡ [] → ⊥) → All (λ tag. IsTag k ms tag a) names → All (λ tag. IsTag k ms tag b) names → a ≡ b
one_content k ms a b [] once n p q = absurd (n refl)
one_content k ms a b (x ∷ names) once n p q =
    let t = All-head (λ tag. IsTag k ms tag a) x names p in
    let u = All-head (λ tag. IsTag k ms tag b) x names q in
    (one_place k ms x t.0 u.0 a b once t.1 u.1).1

-- what clauses make of the results of a loop inside
abbrev folded : List Clause → List Ty → List Ty
folded (c ∷ cs) (a ∷ tys) = made_of (out-Clause c).kind a ∷ folded cs tys
folded _ _ = []

folds_are : (cs : List Clause) (inner : List Ty) (clauses : List ClauseForm) (tys : List Ty) → Folds cs inner clauses tys → tys ≡ folded cs inner
folds_are _ _ _ _ rule.no_clause = refl
folds_are _ _ _ _ (rule.a_clause i {kind = kind} {a = a} {b = b} e m {cs = cs} {tys = tys} {made = made} {forms = clauses} h d q) =
    ap (λ x. x ∷ made) (makes_is kind a b h ∙ ap (λ r. made_of r.kind a) (sym (out_clause i kind e m))) ∙ ap (λ l. made_of (out-Clause (roll-Clause (record { line = i; kind = kind; value = e; mask = m }))).kind a ∷ l) (folds_are cs tys clauses made q)

pub one_folds : (cs : List Clause) (inner outer : List Ty) (clauses others : List ClauseForm) (tys us : List Ty) → inner ≡ outer → Folds cs inner clauses tys → Folds cs outer others us → tys ≡ us
one_folds cs inner outer clauses others tys us e p q = folds_are cs inner clauses tys p ∙ ap (λ l. folded cs l) e ∙ sym (folds_are cs outer others us q)

-- expressions that have some value are some
pub no_value : (k : Known) (denotes : Written → Ty → Type 0) (s : Scope) (es : List Expr) (ts : List TypedExpr) (a : Ty) (tys : List Ty) → AreTyped k denotes s es ts (a ∷ tys) → es ≡ [] → ⊥
no_value k denotes s es ts a tys p e =
    let q : AreTyped k denotes s [] ts (a ∷ tys) = subst (λ l. AreTyped k denotes s l ts (a ∷ tys)) e p in
    let f : a ∷ tys ≡ [] = first_of k k.forms denotes s [] ts (a ∷ tys) q in cc

module _ (k : Known) (f1 f2 : List Form) (denotes : Written → Ty → Type 0) (misnames : Written → ℕ → ℕ → Type 0) (fair : IsFair k denotes misnames) where
  same_case : (ms : List Member) (tags : List (List ℕ)) (tys us : List Ty) (other : Option (List Expr)) → (ms ≡ [] → ⊥) → AreAllNamed (at_table k f1) tags ms other
      → (tags ≡ []) ⊎ (tys ≡ us) → (other ≡ None) ⊎ (tys ≡ us) → tys ≡ us
  same_case ms tags tys us other n all (inr p) q = p
  same_case ms tags tys us other n all (inl e) (inr p) = p
  same_case ms tags tys us other n all (inl e) (inl f) = absurd (tagged (at_table k f1) tags ms other n all e f)

  mutual
    pub one_type : (s : Scope) (e : Expr) (t : TypedExpr) (tys : List Ty) → Types (at_table k f1) denotes s e t tys → IsProperScope s
        → (u : TypedExpr) (others : List Ty) → Types (at_table k f2) denotes s e u others → tys ≡ others
    one_type s _ _ _ (rule.constant {l = l} {c = c} n) sc u others q =
        let v : IsConstant c others = view k f2 denotes s l (tree.Constant c) (ExprKind-F.Constant c) u others (out_constant c) q in
        sym v.types
    one_type s _ _ _ (rule.name {l = l} {x = x} {level = level} {a = a} h n) sc u others q =
        let v : IsName s.names x others = view k f2 denotes s l (tree.Name x) (ExprKind-F.Name x) u others (out_name x) q in
        ap (λ b. b ∷ []) (one_meaning x level v.level a v.type s.names h v.there) ∙ sym v.types
    one_type s _ _ _ (rule.old {l = l} {x = x} {level = level} {a = a} h n) sc u others q =
        let v : IsName s.olds x others = view k f2 denotes s l (tree.Old x) (ExprKind-F.Old x) u others (out_old x) q in
        ap (λ b. b ∷ []) (one_meaning x level v.level a v.type s.olds h v.there) ∙ sym v.types
    one_type s _ _ _ (rule.group {l = l} {e = e} {t = t} {tys = tys} p n) sc u others q =
        let v : IsGroup k f2 denotes s e others = view k f2 denotes s l (tree.Group e) (ExprKind-F.Group e) u others (out_group e) q in
        one_type s e t tys p sc v.tree others v.typed
    one_type s _ _ _ (rule.call {l = l} {x = x} {n = i} {f = f} {es = es} {ts = ts} h p n) sc u others q =
        let v : IsCall k f2 denotes s x es others = view k f2 denotes s l (tree.Call x es) (ExprKind-F.Call x es) u others (out_call x es) q in
        elim v [
          | inl c ↦ ap (λ g. g.results) (fair.functions x i c.number f c.function (function_in k f1 x i f h) c.there) ∙ sym c.types
          | inr c ↦ absurd (fair.own x i f c.call (function_in k f1 x i f h) c.there)
        ]
    one_type s _ _ _ (rule.built_in {l = l} {x = x} {a = a} {b = b} {es = es} {ts = ts} {tys = tys} h p g d n) sc u others q =
        let v : IsCall k f2 denotes s x es others = view k f2 denotes s l (tree.Call x es) (ExprKind-F.Call x es) u others (out_call x es) q in
        elim v [
          | inl c ↦ absurd (fair.own x c.number c.function b c.there (built_in_in k f1 x b h))
          | inr c ↦
              let same : b ≡ c.call = one_call k x b c.call (built_in_in k f1 x b h) c.there in
              let types : tys ≡ c.operands = all_one s es ts tys p sc c.exprs c.operands c.typed in
              let gives : Gives b tys c.type = subst (λ z. Gives z tys c.type) (sym same) (subst (λ l. Gives c.call l c.type) (sym types) c.gives) in
              ap (λ y. y ∷ []) (one_result b tys a c.type g gives) ∙ sym c.types
        ]
    one_type s _ _ _ (rule.convert {l = l} {a = a} {c = c} {e = e} {t = t} p h n) sc u others q =
        let v : IsConvert k f2 denotes s c e others = view k f2 denotes s l (tree.Convert c e) (ExprKind-F.Convert c e) u others (out_convert c e) q in
        sym v.types
    one_type s _ _ _ (rule.error_of {l = l} {a = a} {w = w} h n) sc u others q =
        let v : IsErrorOf denotes w others = view k f2 denotes s l (tree.ErrorOf w) (ExprKind-F.ErrorOf w) u others (out_error_of w) q in
        ap (λ b. b ∷ []) (fair.one w a v.type h v.denoted) ∙ sym v.types
    one_type s _ _ _ (rule.is_error {l = l} {e = e} p n) sc u others q =
        let v : IsIsError k f2 denotes s e others = view k f2 denotes s l (tree.IsError e) (ExprKind-F.IsError e) u others (out_is_error e) q in
        sym v.types
    one_type s _ _ _ (rule.is_tag {l = l} {x = x} {e = e} p h n) sc u others q =
        let v : IsIsTag k f2 denotes s x e others = view k f2 denotes s l (tree.IsTag x e) (ExprKind-F.IsTag x e) u others (out_is_tag x e) q in
        sym v.types
    one_type s _ _ _ (rule.prefix {l = l} {o = o} {e = e} p n) sc u others q =
        let v : IsPrefix k f2 denotes s o e others = view k f2 denotes s l (tree.Prefix o e) (ExprKind-F.Prefix o e) u others (out_prefix o e) q in
        sym v.types
    one_type s _ _ _ (rule.binary {l = l} {a = a} {o = o} {e = e} {f = f} {t = t} p r h n) sc u others q =
        let v : IsBinary k f2 denotes s o e f others = view k f2 denotes s l (tree.Binary o e f) (ExprKind-F.Binary o e f) u others (out_binary o e f) q in
        ap (λ b. binary_type o b ∷ []) (same_first a v.type [] [] (one_type s e t (a ∷ []) p sc v.left (v.type ∷ []) v.typed_left)) ∙ sym v.types
    one_type s _ _ _ (rule.select {l = l} {a = a} {e = e} {i = i} {t = t} p r n) sc u others q =
        let v : IsSelect k f2 denotes s e i others = view k f2 denotes s l (tree.Select e i) (ExprKind-F.Select e i) u others (out_select e i) q in
        ap (λ b. b ∷ []) (same_array a v.element (same_first (ty.Arr a) (ty.Arr v.element) [] [] (one_type s e t (ty.Arr a ∷ []) p sc v.array (ty.Arr v.element ∷ []) v.typed_array))) ∙ sym v.types
    one_type s _ _ _ (rule.update {l = l} {a = a} {e = e} {i = i} {f = f} {t = t} p r w n) sc u others q =
        let v : IsUpdate k f2 denotes s e i f others = view k f2 denotes s l (tree.Update e i f) (ExprKind-F.Update e i f) u others (out_update e i f) q in
        one_type s e t (ty.Arr a ∷ []) p sc v.array (ty.Arr v.element ∷ []) v.typed_array ∙ sym v.types
    one_type s _ _ _ (rule.field {l = l} {x = x} {place = place} {content = content} {ms = ms} {e = e} {t = t} p h n) sc u others q =
        let v : IsField k f2 denotes s e x others = view k f2 denotes s l (tree.Field e x) (ExprKind-F.Field e x) u others (out_field e x) q in
        let same : ms ≡ v.members = same_record ms v.members (same_first (ty.Rec ms) (ty.Rec v.members) [] [] (one_type s e t (ty.Rec ms ∷ []) p sc v.tree (ty.Rec v.members ∷ []) v.typed)) in
        let has : Has k ms x v.place v.content = subst (λ m. Has k m x v.place v.content) (sym same) v.has in
        let once : AreOnce ms = (record_proper ms (the_one (ty.Rec ms) (proper k f1 denotes misnames fair s e t (ty.Rec ms ∷ []) p sc))).0 in
        ap (λ b. b ∷ []) (one_place k ms x place v.place content v.content once (has_in k f1 ms x place content h) has).1 ∙ sym v.types
    one_type s _ _ _ (rule.replace {l = l} {ms = ms} {e = e} {t = t} {vs = vs} p r d n) sc u others q =
        let v : IsReplace k f2 denotes s e vs others = view k f2 denotes s l (tree.Replace e vs) (ExprKind-F.Replace e vs) u others (out_replace e vs) q in
        one_type s e t (ty.Rec ms ∷ []) p sc v.tree (ty.Rec v.members ∷ []) v.typed ∙ sym v.types
    one_type s _ _ _ (rule.empty_array {l = l} {x = x} a h n) sc u others q =
        let v : IsEmptyArray k (Some x) others = view k f2 denotes s l (tree.Array (Some x) None) (ExprKind-F.Array (Some x) None) u others (out_empty_array (Some x)) q in
        ap (λ b. b ∷ []) (same_Some (ty.Arr a) (ty.Arr v.element) (sym h ∙ ap (λ y. newest y k.types) (same_Some x v.name v.is_name) ∙ v.named)) ∙ sym v.types
    one_type s _ _ _ (rule.array {l = l} {a = a} {tys = tys} {x = x} {low = low} {es = es} {ts = ts} p r same h d n) sc u others q =
        let v : IsArray k f2 denotes s x low es others = view_array k f2 denotes s l x low es u others q in
        ap (λ b. ty.Arr b ∷ []) (same_first a v.element tys v.others (all_one s es ts (a ∷ tys) r sc v.exprs (v.element ∷ v.others) v.typed)) ∙ sym v.types
    one_type s _ _ _ (rule.empty_stream {l = l} {x = x} a h n) sc u others q =
        let v : IsStreamIf k f2 denotes s (Some x) [] others = view k f2 denotes s l (tree.Stream (Some x) []) (ExprKind-F.Stream (Some x) []) u others (out_stream (Some x) []) q in
        elim v [
          | inl c ↦ ap (λ b. b ∷ []) (same_Some (ty.Stream a) (ty.Stream c.element) (sym h ∙ ap (λ y. newest y k.types) (same_Some x c.name c.is_name) ∙ c.named)) ∙ sym c.types
          | inr c ↦ absurd (no_value (at_table k f2) denotes s [] c.exprs c.element c.others c.typed refl)
        ]
    one_type s _ _ _ (rule.stream {l = l} {a = a} {tys = tys} {x = x} {es = es} {ts = ts} r same h d n) sc u others q =
        let v : IsStreamIf k f2 denotes s x es others = view k f2 denotes s l (tree.Stream x es) (ExprKind-F.Stream x es) u others (out_stream x es) q in
        elim v [
          | inl c ↦ absurd (no_value (at_table k f1) denotes s es ts a tys r c.is_empty)
          | inr c ↦ ap (λ b. ty.Stream b ∷ []) (same_first a c.element tys c.others (all_one s es ts (a ∷ tys) r sc c.exprs (c.element ∷ c.others) c.typed)) ∙ sym c.types
        ]
    one_type s _ _ _ (rule.a_record {l = l} {x = x} {ms = ms} {vs = vs} {ts = ts} p d h deep n) sc u others q =
        let v : IsRecord k f2 denotes s x vs others = view k f2 denotes s l (tree.Record x vs) (ExprKind-F.Record x vs) u others (out_a_record x vs) q in
        ap (λ m. ty.Rec m ∷ []) (fields_one s vs ts ms p sc v.exprs v.members v.typed) ∙ sym v.types
    one_type s _ _ _ (rule.union {l = l} {x = x} {tag = tag} {ms = ms} {e = e} h has p n) sc u others q =
        let v : IsUnion k f2 denotes s x tag e others = view k f2 denotes s l (tree.Union x tag e) (ExprKind-F.Union x tag e) u others (out_union x tag e) q in
        ap (λ b. b ∷ []) (same_Some (ty.Uni ms) (ty.Uni v.members) (sym h ∙ v.named)) ∙ sym v.types
    one_type s _ _ _ (rule.let_in {after = after} {l = l} {ds = ds} {us = us} {made = made} {tys = tys} {es = es} {ts = ts} p d r n) sc u others q =
        let v : IsLet k f2 denotes s ds es others = view k f2 denotes s l (tree.Let ds es) (ExprKind-F.Let ds es) u others (out_let ds es) q in
        let same = definitions_one s ds us made after p sc v.values v.made v.after v.defines in
        all_one after es ts tys r (definitions_proper k f1 denotes misnames fair s ds us made after p sc).1 v.exprs others
        (subst (λ z. AreTyped (at_table k f2) denotes z es v.exprs others) (sym same.1) v.typed)
    one_type s _ _ _ (rule.if_else {l = l} {c = c} {es = es} {fs = fs} {ts = ts} {tys = tys} p r w n) sc u others q =
        let v : IsIf k f2 denotes s c es fs others = view k f2 denotes s l (tree.If c es fs) (ExprKind-F.If c es fs) u others (out_if c es fs) q in
        all_one s es ts tys r sc v.yes others v.typed_yes
    one_type s _ _ _ (rule.tag_case {l = l} {ms = ms} {x = x} {e = e} {t = t} {arms = arms} {typed_arms = us} {last = last} {tags = tags} {tys = tys} {other = other} p r d all o c n) sc u others q =
        let v : IsTagCase k f2 denotes s x e arms other others = view_case k f2 denotes s l x e arms other u others q in
        let same : ms ≡ v.members = same_union ms v.members (same_first (ty.Uni ms) (ty.Uni v.members) [] [] (one_type s e t (ty.Uni ms ∷ []) p sc v.tree (ty.Uni v.members ∷ []) v.typed)) in
        let fit = union_proper ms (the_one (ty.Uni ms) (proper k f1 denotes misnames fair s e t (ty.Uni ms ∷ []) p sc)) in
        same_case ms tags tys others other fit.0 all
        (arms_one s x ms tys arms us tags r fit.1 fit.2 sc others v.typed_arms v.tags (subst (λ m. AreArms (at_table k f2) denotes s x m others arms v.typed_arms v.tags) (sym same) v.are_arms))
        (otherwise_one s tys other last o sc others v.last v.otherwise)
    one_type s _ _ _ (rule.for_product {l = l} {tys = tys} {gs = gs} {ds = ds} {cs = cs} {t = t} p) sc u others q =
        let v : IsProduct k f2 denotes s l gs ds cs others = view_product k f2 denotes s l gs ds cs u others q in
        crossed_one s l gs ds cs t tys p sc v.tree others v.crosses
    one_type s _ _ _ (rule.for_initial {started = started} {l = l} {first = first} {tys = tys} is_first is_until {test = test} {ds = ds} {es = es} {us = us} {cs = cs} {forms = clauses} {ts = ts} p d r w e keeps c n) sc u others q =
        let v : IsInitial k f2 denotes s ds test es cs others = view_initial k f2 denotes s l ds is_first is_until test es cs u others q in
        let same = definitions_one s ds us first started p sc v.values v.first v.started v.defines in
        clauses_one started cs clauses ts tys c (definitions_proper k f1 denotes misnames fair s ds us first started p sc).1 v.clauses v.exprs others
        (subst (λ z. AreClauses (at_table k f2) denotes z cs v.clauses v.exprs others) (sym same.1) v.results)

    pub all_one : (s : Scope) (es : List Expr) (ts : List TypedExpr) (tys : List Ty) → AreTyped (at_table k f1) denotes s es ts tys → IsProperScope s
        → (us : List TypedExpr) (others : List Ty) → AreTyped (at_table k f2) denotes s es us others → tys ≡ others
    all_one s _ _ _ rule.no_more sc us others q = let e : others ≡ [] = first_of k f2 denotes s [] us others q in sym e
    all_one s _ _ _ (rule.more {e = e} {t = t} {tys = tys} {others = rest} {es = es} {ts = ts} p r) sc us others q =
        let v : IsFirst k f2 denotes s e es others = first_of k f2 denotes s (e ∷ es) us others q in
        ap (λ l. l ++ rest) (one_type s e t tys p sc v.tree v.made v.typed) ∙ ap (λ l. v.made ++ l) (all_one s es ts rest r sc v.trees v.others v.later) ∙ sym v.types

    pub fields_one : (s : Scope) (vs : List FieldValue) (ts : List TypedExpr) (ms : List Member) → HasFields (at_table k f1) denotes s vs ts ms → IsProperScope s
        → (us : List TypedExpr) (others : List Member) → HasFields (at_table k f2) denotes s vs us others → ms ≡ others
    fields_one s _ _ _ rule.no_member sc us others q = let e : others ≡ [] = fields_of k f2 denotes s [] us others q in sym e
    fields_one s _ _ _ (rule.a_member {n = n} {spelling = spelling} {a = a} {e = e} {t = t} {vs = vs} {ts = ts} {ms = ms} h p r) sc us others q =
        let v : IsNewField k f2 denotes s (record { field = n; value = e }) vs others = fields_of k f2 denotes s (record { field = n; value = e } ∷ vs) us others q in
        let type : a ≡ v.type = same_first a v.type [] [] (one_type s e t (a ∷ []) p sc v.tree (v.type ∷ []) v.typed) in
        ap (λ l. (l, a) ∷ ms) (same_Some spelling v.spelling (sym h ∙ v.spelled)) ∙ ap (λ b. (v.spelling, b) ∷ ms) type
        ∙ ap (λ l. (v.spelling, v.type) ∷ l) (fields_one s vs ts ms r sc v.trees v.others v.later) ∙ sym v.members

    pub definitions_one : (s : Scope) (ds : List Def) (us : List (List TypedExpr)) (tys : List Ty) (after : Scope) → Defines (at_table k f1) denotes s ds us tys after → IsProperScope s
        → (ws : List (List TypedExpr)) (others : List Ty) (later : Scope) → Defines (at_table k f2) denotes s ds ws others later → (tys ≡ others) × (after ≡ later)
    definitions_one s _ _ _ _ rule.no_def sc ws others later q =
        let v : IsNoDefinition k f2 denotes s others later = definitions_of k f2 denotes s [] ws others later q in
        (sym v.types, sym v.same)
    definitions_one s _ _ _ after (rule.a_def xs {es = es} {ts = ts} {tys = tys} {others = rest} {ds = ds} {us = us} p t r) sc ws others later q =
        let v : IsDefinition k f2 denotes s xs es ds ws others later = view_definitions k f2 denotes s xs es ds ws others later q in
        let made : tys ≡ v.made = all_one s es ts tys p sc v.exprs v.made v.typed in
        let behind : Defines (at_table k f2) denotes (define_all (names_in xs) tys s) ds v.rest v.others later =
        subst (λ m. Defines (at_table k f2) denotes (define_all (names_in xs) m s) ds v.rest v.others later) (sym made) v.later in
        let same = definitions_one (define_all (names_in xs) tys s) ds us rest after r (defined_proper (names_in xs) tys s (all_proper k f1 denotes misnames fair s es ts tys p sc) sc) v.rest v.others later behind in
        (ap (λ l. l ++ rest) made ∙ ap (λ l. v.made ++ l) same.0 ∙ sym v.types, same.1)

    pub crossed_one : (s : Scope) (l : ℕ) (gs : List (List Generator)) (ds : List Def) (cs : List Clause) (t : TypedExpr) (tys : List Ty) → Crosses (at_table k f1) denotes s l gs ds cs t tys → IsProperScope s
        → (u : TypedExpr) (others : List Ty) → Crosses (at_table k f2) denotes s l gs ds cs u others → tys ≡ others
    crossed_one s l _ ds cs _ tys (rule.one_group {inside = inside} {names = names} {tys = made} {made = defined} {g = g} {sources = sources} {bounds = bounds} {us = values} {forms = clauses} {ts = ts} p d r e c n) sc u others q =
        let v : IsCrossed k f2 denotes s l g [] ds cs others = crossed_of k f2 denotes s l (g ∷ []) ds cs u others q in
        let same = generated_one s g sources bounds names made p sc v.sources v.bounds v.names v.made v.generates in
        let body : IsBody k f2 denotes (define_all names made s) ds cs others =
        subst (λ m. IsBody k f2 denotes (define_all names m s) ds cs others) (sym same.1) (subst (λ x. IsBody k f2 denotes (define_all x v.made s) ds cs others) (sym same.0) v.inside) in
        let started = defined_proper names made s (generated_proper k f1 denotes misnames fair s g sources bounds names made p sc) sc in
        let behind = definitions_one (define_all names made s) ds values defined inside r started body.values body.made body.inside body.defines in
        clauses_one inside cs clauses ts tys c (definitions_proper k f1 denotes misnames fair (define_all names made s) ds values defined inside r started).1 body.clauses body.exprs others
        (subst (λ z. AreClauses (at_table k f2) denotes z cs body.clauses body.exprs others) (sym behind.1) body.results)
    crossed_one s l _ ds cs _ tys (rule.a_group {names = names} {tys = made} {inner = inner} {g = g} {gs = gs} {sources = sources} {bounds = bounds} {forms = clauses} {t = t} p d r f n) sc u others q =
        let v : IsCrossed k f2 denotes s l g gs ds cs others = crossed_of k f2 denotes s l (g ∷ gs) ds cs u others q in
        let same = generated_one s g sources bounds names made p sc v.sources v.bounds v.names v.made v.generates in
        let w : IsInnerLoop k f2 denotes (define_all v.names v.made s) l gs ds cs others = inner_of k f2 denotes f1 (define_all names made s) l gs ds cs t inner others r (define_all v.names v.made s) v.inside in
        let loop : IsInnerLoop k f2 denotes (define_all names made s) l gs ds cs others =
        subst (λ m. IsInnerLoop k f2 denotes (define_all names m s) l gs ds cs others) (sym same.1) (subst (λ x. IsInnerLoop k f2 denotes (define_all x v.made s) l gs ds cs others) (sym same.0) w) in
        let started = defined_proper names made s (generated_proper k f1 denotes misnames fair s g sources bounds names made p sc) sc in
        one_folds cs inner loop.inner clauses loop.clauses tys others (crossed_one (define_all names made s) l gs ds cs t inner r started loop.tree loop.inner loop.crosses) f loop.folds

    pub generated_one : (s : Scope) (gs : List Generator) (sources : List Source) (bounds : List TypedExpr) (names : List ℕ) (tys : List Ty) → Generates (at_table k f1) denotes s gs sources bounds names tys
        → IsProperScope s → (sources2 : List Source) (bounds2 : List TypedExpr) (names2 : List ℕ) (others : List Ty) → Generates (at_table k f2) denotes s gs sources2 bounds2 names2 others
        → (names ≡ names2) × (tys ≡ others)
    generated_one s _ _ _ _ _ rule.no_generator sc sources2 bounds2 names2 others q =
        let v : IsNoGenerator k f2 denotes names2 others = generated_of k f2 denotes s [] sources2 bounds2 names2 others q in
        (sym v.is_names, sym v.is_types)
    generated_one s _ _ _ _ _ (rule.range n {e = e} {f = f} {names = names} {tys = tys} {gs = gs} {sources = sources} {bounds = bounds} p r w) sc sources2 bounds2 names2 others q =
        let v : IsRange k f2 denotes s n e f gs names2 others = view_generators k f2 denotes s n e (Some f) None gs sources2 bounds2 names2 others q in
        let same = generated_one s gs sources bounds names tys w sc v.sources v.bounds v.others v.types v.later in
        (ap (λ l. n.name ∷ l) same.0 ∙ sym v.is_names, ap (λ l. ty.Int ∷ l) same.1 ∙ sym v.is_types)
    generated_one s _ _ _ _ _ (rule.elements n {a = a} {b = b} {e = e} {t = t} {names = names} {tys = tys} {gs = gs} {sources = sources} {bounds = bounds} p h w) sc sources2 bounds2 names2 others q =
        let v : IsElements k f2 denotes s n e None gs names2 others = view_generators k f2 denotes s n e None None gs sources2 bounds2 names2 others q in
        let same = generated_one s gs sources bounds names tys w sc v.sources v.bounds v.others v.types v.later in
        let whole : a ≡ v.whole = same_first a v.whole [] [] (one_type s e t (a ∷ []) p sc v.tree (v.whole ∷ []) v.typed) in
        let element : b ≡ v.element = one_element a b v.element h (subst (λ z. IsSequence z v.element) (sym whole) v.sequence) in
        (ap (λ l. n.name ∷ l) same.0 ∙ sym v.is_names, ap (λ c. c ∷ tys) element ∙ ap (λ l. v.element ∷ l) same.1 ∙ sym v.is_types)
    generated_one s _ _ _ _ _ (rule.indexed n {i = i} {a = a} {b = b} {e = e} {t = t} {names = names} {tys = tys} {gs = gs} {sources = sources} {bounds = bounds} p h w) sc sources2 bounds2 names2 others q =
        let v : IsElements k f2 denotes s n e (Some i) gs names2 others = view_generators k f2 denotes s n e None (Some i) gs sources2 bounds2 names2 others q in
        let same = generated_one s gs sources bounds names tys w sc v.sources v.bounds v.others v.types v.later in
        let whole : a ≡ v.whole = same_first a v.whole [] [] (one_type s e t (a ∷ []) p sc v.tree (v.whole ∷ []) v.typed) in
        let element : b ≡ v.element = one_element a b v.element h (subst (λ z. IsSequence z v.element) (sym whole) v.sequence) in
        (ap (λ l. n.name ∷ i ∷ l) same.0 ∙ sym v.is_names, ap (λ c. c ∷ ty.Int ∷ tys) element ∙ ap (λ l. v.element ∷ ty.Int ∷ l) same.1 ∙ sym v.is_types)

    pub clauses_one : (s : Scope) (cs : List Clause) (clauses : List ClauseForm) (ts : List TypedExpr) (tys : List Ty) → AreClauses (at_table k f1) denotes s cs clauses ts tys → IsProperScope s
        → (clauses2 : List ClauseForm) (us : List TypedExpr) (others : List Ty) → AreClauses (at_table k f2) denotes s cs clauses2 us others → tys ≡ others
    clauses_one s _ _ _ _ rule.no_clause sc clauses2 us others q = let e : others ≡ [] = clauses_of k f2 denotes s [] clauses2 us others q in sym e
    clauses_one s _ _ _ _ (rule.a_clause l {kind = kind} {a = a} {b = b} {e = e} {t = t} {m = m} {cs = cs} {forms = clauses} {ts = ts} {tys = tys} p h d w r) sc clauses2 us others q =
        let v : IsClause k f2 denotes s kind e m cs others = view_clauses k f2 denotes s l kind e m cs clauses2 us others q in
        let value : a ≡ v.value = same_first a v.value [] [] (one_type s e t (a ∷ []) p sc v.tree (v.value ∷ []) v.typed) in
        let made : b ≡ v.made = one_made kind a b v.made h (subst (λ z. Makes kind z v.made) (sym value) v.makes) in
        ap (λ c. c ∷ tys) made ∙ ap (λ l. v.made ∷ l) (clauses_one s cs clauses ts tys r sc v.clauses v.exprs v.others v.later) ∙ sym v.types

    pub arms_one : (s : Scope) (x : Option ℕ) (ms : List Member) (tys : List Ty) (arms : List Arm) (us : List (List TypedExpr)) (tags : List (List ℕ)) → AreArms (at_table k f1) denotes s x ms tys arms us tags
        → AreOnce ms → AreProper ms → IsProperScope s → (others : List Ty) (ws : List (List TypedExpr)) (tags2 : List (List ℕ)) → AreArms (at_table k f2) denotes s x ms others arms ws tags2 → (tags ≡ []) ⊎ (tys ≡ others)
    arms_one s x ms tys _ _ _ rule.no_arm once m sc others ws tags2 q = inl refl
    arms_one s x ms tys _ _ _ (rule.an_arm l content names {es = es} {ts = ts} {arms = arms} o t p r) once m sc others ws tags2 q =
        let v : IsArm k f2 denotes s x ms others names es arms tags2 = view_arms k f2 denotes s x ms others l names es arms ws tags2 q in
        let contents = tags_in k f1 ms content (names_of names) t in
        let same : content ≡ v.content = one_content k ms content v.content (names_of names) once (no_names_of names o) contents v.contents in
        let tag = first_tag k ms content (names_of names) (no_names_of names o) contents in
        let inside = content_defined x content s (content_proper k ms tag.0 tag.1.0 content m tag.1.1) sc in
        inr (all_one (with_content x content s) es ts tys p inside v.exprs others (subst (λ c. AreTyped (at_table k f2) denotes (with_content x c s) es v.exprs others) (sym same) v.typed))

    pub otherwise_one : (s : Scope) (tys : List Ty) (other : Option (List Expr)) (last : List (List TypedExpr)) → IsOtherwise (at_table k f1) denotes s tys other last → IsProperScope s
        → (others : List Ty) (last2 : List (List TypedExpr)) → IsOtherwise (at_table k f2) denotes s others other last2 → (other ≡ None) ⊎ (tys ≡ others)
    otherwise_one s tys _ _ rule.no_otherwise sc others last2 q = inl refl
    otherwise_one s tys _ _ (rule.otherwise {es = es} {ts = ts} p) sc others _ (rule.otherwise {ts = us} q) = inr (all_one s es ts tys p sc us others q)
