-- An expression has one typed tree, where each type has one number.
use Rattle.std.proofs.Common.{◌≡◌, inl, inr, ℕ, List, [], ◌∷◌, ◌++◌, length, Option, Some, None, refl, sym, ap, subst, ◌∙◌}
use Rattle.std.proofs.lemmas.Option.{same_Some}
use Rattle.name_scope.specs.Newest.{newest}
use Rattle.flow_value.specs.declared.ty.Ty.{Ty}
use Rattle.flow_value.specs.declared.ty.Ty.TheVariants as ty
use Rattle.sisal_tree.specs.declared.unit.Written.{Written}
use Rattle.sisal_tree.specs.declared.expr.Expr.{Expr}
use Rattle.sisal_tree.specs.declared.expr.ExprKind.TheVariants as tree
use Rattle.sisal_tree.specs.declared.expr.ExprKind.TheOpen.{ExprKind-F}
use Rattle.sisal_tree.specs.declared.expr.FieldValue.{FieldValue}
use Rattle.sisal_tree.specs.declared.expr.Def.{Def}
use Rattle.sisal_tree.specs.declared.expr.Arm.{Arm}
use Rattle.sisal_tree.specs.declared.expr.Generator.{Generator}
use Rattle.sisal_tree.specs.declared.expr.Clause.{Clause}
use Rattle.sisal_tree.specs.declared.expr.Mask.{Mask}
use Rattle.flow_value.specs.declared.operation.Scalar1.TheVariants as unary
use Rattle.value_ops.specs.declared.operation.Operation.TheVariants as operation
use Rattle.typed_tree.specs.declared.expr.TypedExpr.{TypedExpr}
use Rattle.typed_tree.specs.declared.expr.TypedKind.TheVariants as node
use Rattle.typed_tree.specs.declared.expr.Source.{Source}
use Rattle.typed_tree.specs.declared.expr.Source.TheVariants as source
use Rattle.typed_tree.specs.declared.expr.Choice.{Choice}
use Rattle.typed_tree.specs.declared.expr.ClauseForm.{ClauseForm}
use Rattle.typed_tree.specs.Scopes.{Meaning, At, Scope, define_all, targets, in_turn, renewals}
use Rattle.typed_tree.specs.Types.{Member, constant_type, scalar_type, prefix_type, binary_type}
use Rattle.typed_tree.specs.Operations.{prefix_operation, binary_operation, convert_operation, built_in_operation, clause_form}
use Rattle.typed_tree.specs.Typing as rule
use Rattle.typed_tree.specs.Typing.{Signature, Known, Has, IsTag, tags_from, Chooses, names_in, names_of, loop_of, named_arms, with_content, Types, AreTyped, Replaces, HasFields, Defines, Crosses, Generates, AreClauses, IsMask, AreArms, IsOtherwise}
use Rattle.typing_unique.specs.Fair.{AreOnce, AreProper, IsFair}
use Rattle.typing_unique.specs.Inverted.{IsProperScope}
use Rattle.typing_unique.specs.InvertedTree.{AreNumbered, HasTree, IsNameTree, IsGroupTree, IsCallTree, IsConvertTree, IsIsErrorTree, IsIsTagTree, IsPrefixTree, IsBinaryTree, IsSelectTree, IsUpdateTree, IsFieldTree, IsReplaceTree, IsArrayTree, IsStreamTree, IsRecordTree, IsUnionTree, IsLetTree, IsIfTree, IsTagCaseTree, IsInitialTree, IsFirstTree, IsNewFieldTree, IsChangedTree, IsDefinitionTree, IsBodyTree, IsInnerLoopTree, IsCrossedTree, IsRangeTree, IsElementsTree, IsClauseTree, IsArmTree, IsTestedTree}
use Rattle.text_trees.proofs.Views.{out_constant, out_name, out_old, out_group, out_call, out_convert, out_error_of, out_is_error, out_is_tag, out_prefix, out_binary, out_select, out_update, out_field, out_replace, out_empty_array, out_stream, out_a_record, out_union, out_let, out_if}
use Rattle.typing_unique.proofs.ETreeViews.{view, view_array, view_case, view_product, view_initial, first_of, fields_of, changed_of, definitions_of, view_definitions, crossed_of, inner_of, generated_of, view_generators, clauses_of, view_clauses, arms_of, view_arms, mask_of}
use Rattle.typing_unique.proofs.ETypes.{same_record, same_union, same_first, record_proper, union_proper, content_proper, one_place}
use Rattle.typing_unique.proofs.EScopes.{defined_proper, content_defined, turn_proper}
use Rattle.typing_unique.proofs.EProper.{the_one, first_tag, no_names_of, proper, all_proper, definitions_proper, generated_proper}
use Rattle.typing_unique.proofs.EOne.{one_call, one_content, one_type, all_one, definitions_one, crossed_one, generated_one}
use Rattle.typing_unique.proofs.EParts.{tags_are}
use Rattle.typing_unique.proofs.ETreeParts.{same_tree, one_forms, one_choices}

same_level : (i j : ℕ) (a b : Ty) → At i a ≡ At j b → i ≡ j
same_level i j a b e = cc

-- a name stands for one level
one_level : (x i j : ℕ) (a b : Ty) (names : List (ℕ × Meaning)) → newest x names ≡ Some (At i a) → newest x names ≡ Some (At j b) → i ≡ j
one_level x i j a b names p q = same_level i j a b (same_Some (At i a) (At j b) (sym p ∙ q))

module _ (k : Known) (denotes : Written → Ty → Type 0) (misnames : Written → ℕ → ℕ → Type 0) (fair : IsFair k denotes misnames) (numbered : AreNumbered k) where
  -- ---- types again

  type_of : (s : Scope) (e : Expr) (t : TypedExpr) (tys : List Ty) → Types k denotes s e t tys → IsProperScope s → (u : TypedExpr) (others : List Ty) → Types k denotes s e u others → tys ≡ others
  type_of s e t tys p sc u others q = one_type k k.forms k.forms denotes misnames fair s e t tys p sc u others q

  types_of : (s : Scope) (es : List Expr) (ts : List TypedExpr) (tys : List Ty) → AreTyped k denotes s es ts tys → IsProperScope s → (us : List TypedExpr) (others : List Ty) → AreTyped k denotes s es us others → tys ≡ others
  types_of s es ts tys p sc us others q = all_one k k.forms k.forms denotes misnames fair s es ts tys p sc us others q

  once_in : (s : Scope) (e : Expr) (t : TypedExpr) (ms : List Member) → Types k denotes s e t (ty.Rec ms ∷ []) → IsProperScope s → AreOnce ms
  once_in s e t ms p sc = (record_proper ms (the_one (ty.Rec ms) (proper k k.forms denotes misnames fair s e t (ty.Rec ms ∷ []) p sc))).0

  tags_once : (s : Scope) (e : Expr) (t : TypedExpr) (ms : List Member) → Types k denotes s e t (ty.Uni ms ∷ []) → IsProperScope s → (ms ≡ [] → ⊥) × AreOnce ms × AreProper ms
  tags_once s e t ms p sc = union_proper ms (the_one (ty.Uni ms) (proper k k.forms denotes misnames fair s e t (ty.Uni ms ∷ []) p sc))

  place_of : (ms ns : List Member) (x i j : ℕ) (a b : Ty) → AreOnce ms → ms ≡ ns → Has k ms x i a → Has k ns x j b → i ≡ j
  place_of ms ns x i j a b once e p q = (one_place k ms x i j a b once p (subst (λ m. Has k m x j b) (sym e) q)).0

  -- places of arms, at one name of the tags and of the union's members
  choices_one : (tags others : List (List ℕ)) (ms ns : List Member) (is js : List Choice) → tags ≡ others → ms ≡ ns → AreOnce ms → Chooses k tags ms is → Chooses k others ns js → is ≡ js
  choices_one tags others ms ns is js e f once p q =
      one_choices k ms once (tags_from 0 tags) is js p.each (subst (λ m. Chooses k tags m js) (sym f) (subst (λ z. Chooses k z ns js) (sym e) q)).each

  mutual
    pub one_tree : (s : Scope) (e : Expr) (t : TypedExpr) (tys : List Ty) → Types k denotes s e t tys → IsProperScope s
        → (u : TypedExpr) (others : List Ty) → tys ≡ others → Types k denotes s e u others → t ≡ u
    one_tree s _ _ _ (rule.constant {l = l} {c = c} {ns = ns} n) sc u others same q =
        let v : HasTree k denotes l (node.Constant c) u others = view k denotes s l (tree.Constant c) (ExprKind-F.Constant c) u others (out_constant c) q in
        same_tree k denotes numbered l ns (node.Constant c) (node.Constant c) u (constant_type c ∷ []) others n same v refl
    one_tree s _ _ _ (rule.name {l = l} {x = x} {level = level} {a = a} {ns = ns} h n) sc u others same q =
        let v : IsNameTree k denotes s.names l x u others = view k denotes s l (tree.Name x) (ExprKind-F.Name x) u others (out_name x) q in
        same_tree k denotes numbered l ns (node.Value level) (node.Value v.level) u (a ∷ []) others n same v.tree
        (ap (λ i. node.Value i) (one_level x level v.level a v.type s.names h v.there))
    one_tree s _ _ _ (rule.old {l = l} {x = x} {level = level} {a = a} {ns = ns} h n) sc u others same q =
        let v : IsNameTree k denotes s.olds l x u others = view k denotes s l (tree.Old x) (ExprKind-F.Old x) u others (out_old x) q in
        same_tree k denotes numbered l ns (node.Value level) (node.Value v.level) u (a ∷ []) others n same v.tree
        (ap (λ i. node.Value i) (one_level x level v.level a v.type s.olds h v.there))
    one_tree s _ _ _ (rule.group {l = l} {e = e} {t = t} {tys = tys} {ns = ns} p n) sc u others same q =
        let v : IsGroupTree k denotes s l e u others = view k denotes s l (tree.Group e) (ExprKind-F.Group e) u others (out_group e) q in
        same_tree k denotes numbered l ns (node.Group (t ∷ [])) (node.Group (v.part ∷ [])) u tys others n same v.tree
        (ap (λ z. node.Group (z ∷ [])) (one_tree s e t tys p sc v.part others same v.typed))
    one_tree s _ _ _ (rule.call {l = l} {x = x} {n = i} {f = f} {es = es} {ts = ts} {ns = ns} h p n) sc u others same q =
        let v : IsCallTree k denotes s l x es u others = view k denotes s l (tree.Call x es) (ExprKind-F.Call x es) u others (out_call x es) q in
        elim v [
          | inl c ↦ same_tree k denotes numbered l ns (node.Call i ts) (node.Call c.place c.exprs) u f.results others n same c.tree
              (ap (λ j. node.Call j ts) (numbered.functions x i c.place f c.function h c.there) ∙ ap (λ z. node.Call c.place z) (all_trees s es ts f.params p sc c.exprs c.function.params c.typed))
          | inr c ↦ absurd (fair.own x i f c.call h c.there)
        ]
    one_tree s _ _ _ (rule.built_in {l = l} {x = x} {a = a} {b = b} {es = es} {ts = ts} {tys = tys} {ns = ns} h p g d n) sc u others same q =
        let v : IsCallTree k denotes s l x es u others = view k denotes s l (tree.Call x es) (ExprKind-F.Call x es) u others (out_call x es) q in
        elim v [
          | inl c ↦ absurd (fair.own x c.place c.function b c.there h)
          | inr c ↦ same_tree k denotes numbered l ns (node.Apply (built_in_operation b) ts) (node.Apply (built_in_operation c.call) c.exprs) u (a ∷ []) others n same c.tree
              (ap (λ z. node.Apply (built_in_operation z) ts) (one_call k x b c.call h c.there)
              ∙ ap (λ z. node.Apply (built_in_operation c.call) z) (all_trees s es ts tys p sc c.exprs c.operands c.typed))
        ]
    one_tree s _ _ _ (rule.convert {l = l} {a = a} {c = c} {e = e} {t = t} {ns = ns} p h n) sc u others same q =
        let v : IsConvertTree k denotes s l c e u others = view k denotes s l (tree.Convert c e) (ExprKind-F.Convert c e) u others (out_convert c e) q in
        same_tree k denotes numbered l ns (node.Apply (convert_operation c) (t ∷ [])) (node.Apply (convert_operation c) (v.part ∷ [])) u (scalar_type c ∷ []) others n same v.tree
        (ap (λ z. node.Apply (convert_operation c) (z ∷ [])) (one_tree s e t (a ∷ []) p sc v.part (v.type ∷ []) (type_of s e t (a ∷ []) p sc v.part (v.type ∷ []) v.typed) v.typed))
    one_tree s _ _ _ (rule.error_of {l = l} {a = a} {w = w} {ns = ns} h n) sc u others same q =
        let v : HasTree k denotes l (node.Apply operation.Error []) u others = view k denotes s l (tree.ErrorOf w) (ExprKind-F.ErrorOf w) u others (out_error_of w) q in
        same_tree k denotes numbered l ns (node.Apply operation.Error []) (node.Apply operation.Error []) u (a ∷ []) others n same v refl
    one_tree s _ _ _ (rule.is_error {l = l} {a = a} {e = e} {t = t} {ns = ns} p n) sc u others same q =
        let v : IsIsErrorTree k denotes s l e u others = view k denotes s l (tree.IsError e) (ExprKind-F.IsError e) u others (out_is_error e) q in
        same_tree k denotes numbered l ns (node.Apply (operation.Unary unary.IsError) (t ∷ [])) (node.Apply (operation.Unary unary.IsError) (v.part ∷ [])) u (ty.Bool ∷ []) others n same v.tree
        (ap (λ z. node.Apply (operation.Unary unary.IsError) (z ∷ [])) (one_tree s e t (a ∷ []) p sc v.part (v.type ∷ []) (type_of s e t (a ∷ []) p sc v.part (v.type ∷ []) v.typed) v.typed))
    one_tree s _ _ _ (rule.is_tag {l = l} {x = x} {place = place} {content = content} {ms = ms} {e = e} {t = t} {ns = ns} p h n) sc u others same q =
        let v : IsIsTagTree k denotes s l x e u others = view k denotes s l (tree.IsTag x e) (ExprKind-F.IsTag x e) u others (out_is_tag x e) q in
        let type = type_of s e t (ty.Uni ms ∷ []) p sc v.part (ty.Uni v.members ∷ []) v.typed in
        same_tree k denotes numbered l ns (node.Apply (operation.IsTag place) (t ∷ [])) (node.Apply (operation.IsTag v.place) (v.part ∷ [])) u (ty.Bool ∷ []) others n same v.tree
        (ap (λ i. node.Apply (operation.IsTag i) (t ∷ []))
        (place_of ms v.members x place v.place content v.content (tags_once s e t ms p sc).1 (same_union ms v.members (same_first (ty.Uni ms) (ty.Uni v.members) [] [] type)) h v.has)
        ∙ ap (λ z. node.Apply (operation.IsTag v.place) (z ∷ [])) (one_tree s e t (ty.Uni ms ∷ []) p sc v.part (ty.Uni v.members ∷ []) type v.typed))
    one_tree s _ _ _ (rule.prefix {l = l} {o = o} {e = e} {t = t} {ns = ns} p n) sc u others same q =
        let v : IsPrefixTree k denotes s l o e u others = view k denotes s l (tree.Prefix o e) (ExprKind-F.Prefix o e) u others (out_prefix o e) q in
        same_tree k denotes numbered l ns (node.Apply (prefix_operation o) (t ∷ [])) (node.Apply (prefix_operation o) (v.part ∷ [])) u (prefix_type o ∷ []) others n same v.tree
        (ap (λ z. node.Apply (prefix_operation o) (z ∷ [])) (one_tree s e t (prefix_type o ∷ []) p sc v.part (prefix_type o ∷ []) refl v.typed))
    one_tree s _ _ _ (rule.binary {l = l} {a = a} {o = o} {e = e} {f = f} {t = t} {u = r} {ns = ns} p w h n) sc u others same q =
        let v : IsBinaryTree k denotes s l o e f u others = view k denotes s l (tree.Binary o e f) (ExprKind-F.Binary o e f) u others (out_binary o e f) q in
        let type = type_of s e t (a ∷ []) p sc v.left (v.type ∷ []) v.typed_left in
        same_tree k denotes numbered l ns (node.Apply (binary_operation o) (t ∷ r ∷ [])) (node.Apply (binary_operation o) (v.left ∷ v.right ∷ [])) u (binary_type o a ∷ []) others n same v.tree
        (ap (λ z. node.Apply (binary_operation o) (z ∷ r ∷ [])) (one_tree s e t (a ∷ []) p sc v.left (v.type ∷ []) type v.typed_left)
        ∙ ap (λ z. node.Apply (binary_operation o) (v.left ∷ z ∷ [])) (one_tree s f r (a ∷ []) w sc v.right (v.type ∷ []) type v.typed_right))
    one_tree s _ _ _ (rule.select {l = l} {a = a} {e = e} {i = i} {t = t} {u = r} {ns = ns} p w n) sc u others same q =
        let v : IsSelectTree k denotes s l e i u others = view k denotes s l (tree.Select e i) (ExprKind-F.Select e i) u others (out_select e i) q in
        let type = type_of s e t (ty.Arr a ∷ []) p sc v.array (ty.Arr v.element ∷ []) v.typed_array in
        same_tree k denotes numbered l ns (node.Apply operation.Element (t ∷ r ∷ [])) (node.Apply operation.Element (v.array ∷ v.index ∷ [])) u (a ∷ []) others n same v.tree
        (ap (λ z. node.Apply operation.Element (z ∷ r ∷ [])) (one_tree s e t (ty.Arr a ∷ []) p sc v.array (ty.Arr v.element ∷ []) type v.typed_array)
        ∙ ap (λ z. node.Apply operation.Element (v.array ∷ z ∷ [])) (one_tree s i r (ty.Int ∷ []) w sc v.index (ty.Int ∷ []) refl v.typed_index))
    one_tree s _ _ _ (rule.update {l = l} {a = a} {e = e} {i = i} {f = f} {t = t} {u = r} {v = y} {ns = ns} p w d n) sc u others same q =
        let v : IsUpdateTree k denotes s l e i f u others = view k denotes s l (tree.Update e i f) (ExprKind-F.Update e i f) u others (out_update e i f) q in
        let type = type_of s e t (ty.Arr a ∷ []) p sc v.array (ty.Arr v.element ∷ []) v.typed_array in
        let content = type_of s f y (a ∷ []) d sc v.value (v.element ∷ []) v.typed_value in
        same_tree k denotes numbered l ns (node.Apply operation.Update (t ∷ r ∷ y ∷ [])) (node.Apply operation.Update (v.array ∷ v.index ∷ v.value ∷ [])) u (ty.Arr a ∷ []) others n same v.tree
        (ap (λ z. node.Apply operation.Update (z ∷ r ∷ y ∷ [])) (one_tree s e t (ty.Arr a ∷ []) p sc v.array (ty.Arr v.element ∷ []) type v.typed_array)
        ∙ ap (λ z. node.Apply operation.Update (v.array ∷ z ∷ y ∷ [])) (one_tree s i r (ty.Int ∷ []) w sc v.index (ty.Int ∷ []) refl v.typed_index)
        ∙ ap (λ z. node.Apply operation.Update (v.array ∷ v.index ∷ z ∷ [])) (one_tree s f y (a ∷ []) d sc v.value (v.element ∷ []) content v.typed_value))
    one_tree s _ _ _ (rule.field {l = l} {x = x} {place = place} {content = content} {ms = ms} {e = e} {t = t} {ns = ns} p h n) sc u others same q =
        let v : IsFieldTree k denotes s l e x u others = view k denotes s l (tree.Field e x) (ExprKind-F.Field e x) u others (out_field e x) q in
        let type = type_of s e t (ty.Rec ms ∷ []) p sc v.part (ty.Rec v.members ∷ []) v.typed in
        same_tree k denotes numbered l ns (node.Apply (operation.Field place) (t ∷ [])) (node.Apply (operation.Field v.place) (v.part ∷ [])) u (content ∷ []) others n same v.tree
        (ap (λ i. node.Apply (operation.Field i) (t ∷ []))
        (place_of ms v.members x place v.place content v.content (once_in s e t ms p sc) (same_record ms v.members (same_first (ty.Rec ms) (ty.Rec v.members) [] [] type)) h v.has)
        ∙ ap (λ z. node.Apply (operation.Field v.place) (z ∷ [])) (one_tree s e t (ty.Rec ms ∷ []) p sc v.part (ty.Rec v.members ∷ []) type v.typed))
    one_tree s _ _ _ (rule.replace {l = l} {ms = ms} {e = e} {t = t} {vs = vs} {places = places} {us = ts} {ns = ns} p r d n) sc u others same q =
        let v : IsReplaceTree k denotes s l e vs u others = view k denotes s l (tree.Replace e vs) (ExprKind-F.Replace e vs) u others (out_replace e vs) q in
        let type = type_of s e t (ty.Rec ms ∷ []) p sc v.part (ty.Rec v.members ∷ []) v.typed in
        let members : ms ≡ v.members = same_record ms v.members (same_first (ty.Rec ms) (ty.Rec v.members) [] [] type) in
        let changed = changed_trees s ms vs places ts r (once_in s e t ms p sc) sc v.places v.exprs (subst (λ m. Replaces k denotes s m vs v.places v.exprs) (sym members) v.replaces) in
        same_tree k denotes numbered l ns (node.Apply (operation.Change places) (t ∷ ts)) (node.Apply (operation.Change v.places) (v.part ∷ v.exprs)) u (ty.Rec ms ∷ []) others n same v.tree
        (ap (λ i. node.Apply (operation.Change i) (t ∷ ts)) changed.0
        ∙ ap (λ z. node.Apply (operation.Change v.places) (z ∷ ts)) (one_tree s e t (ty.Rec ms ∷ []) p sc v.part (ty.Rec v.members ∷ []) type v.typed)
        ∙ ap (λ z. node.Apply (operation.Change v.places) (v.part ∷ z)) changed.1)
    one_tree s _ _ _ (rule.empty_array {l = l} {x = x} a {ns = ns} h n) sc u others same q =
        let v : HasTree k denotes l (node.Apply operation.EmptyArray []) u others = view k denotes s l (tree.Array (Some x) None) (ExprKind-F.Array (Some x) None) u others (out_empty_array (Some x)) q in
        same_tree k denotes numbered l ns (node.Apply operation.EmptyArray []) (node.Apply operation.EmptyArray []) u (ty.Arr a ∷ []) others n same v refl
    one_tree s _ _ _ (rule.array {l = l} {a = a} {tys = tys} {x = x} {low = low} {t = t} {es = es} {ts = ts} {ns = ns} p r all h d n) sc u others same q =
        let v : IsArrayTree k denotes s l low es u others = view_array k denotes s l x low es u others q in
        same_tree k denotes numbered l ns (node.Apply operation.Array (t ∷ ts)) (node.Apply operation.Array (v.bound ∷ v.exprs)) u (ty.Arr a ∷ []) others n same v.tree
        (ap (λ z. node.Apply operation.Array (z ∷ ts)) (one_tree s low t (ty.Int ∷ []) p sc v.bound (ty.Int ∷ []) refl v.lower)
        ∙ ap (λ z. node.Apply operation.Array (v.bound ∷ z)) (all_trees s es ts (a ∷ tys) r sc v.exprs v.made v.typed))
    one_tree s _ _ _ (rule.empty_stream {l = l} {x = x} a {ns = ns} h n) sc u others same q =
        let v : IsStreamTree k denotes s l [] u others = view k denotes s l (tree.Stream (Some x) []) (ExprKind-F.Stream (Some x) []) u others (out_stream (Some x) []) q in
        let none : v.exprs ≡ [] = first_of k denotes s [] v.exprs v.made v.typed in
        same_tree k denotes numbered l ns (node.Apply operation.Stream []) (node.Apply operation.Stream v.exprs) u (ty.Stream a ∷ []) others n same v.tree
        (ap (λ z. node.Apply operation.Stream z) (sym none))
    one_tree s _ _ _ (rule.stream {l = l} {a = a} {tys = tys} {x = x} {es = es} {ts = ts} {ns = ns} r all h d n) sc u others same q =
        let v : IsStreamTree k denotes s l es u others = view k denotes s l (tree.Stream x es) (ExprKind-F.Stream x es) u others (out_stream x es) q in
        same_tree k denotes numbered l ns (node.Apply operation.Stream ts) (node.Apply operation.Stream v.exprs) u (ty.Stream a ∷ []) others n same v.tree
        (ap (λ z. node.Apply operation.Stream z) (all_trees s es ts (a ∷ tys) r sc v.exprs v.made v.typed))
    one_tree s _ _ _ (rule.a_record {l = l} {x = x} {ms = ms} {vs = vs} {ts = ts} {ns = ns} p d h deep n) sc u others same q =
        let v : IsRecordTree k denotes s l vs u others = view k denotes s l (tree.Record x vs) (ExprKind-F.Record x vs) u others (out_a_record x vs) q in
        same_tree k denotes numbered l ns (node.Apply operation.Record ts) (node.Apply operation.Record v.exprs) u (ty.Rec ms ∷ []) others n same v.tree
        (ap (λ z. node.Apply operation.Record z) (fields_trees s vs ts ms p sc v.exprs v.members v.typed))
    one_tree s _ _ _ (rule.union {l = l} {x = x} {tag = tag} {place = place} {content = content} {ms = ms} {e = e} {t = t} {ns = ns} h has p n) sc u others same q =
        let v : IsUnionTree k denotes s l x tag e u others = view k denotes s l (tree.Union x tag e) (ExprKind-F.Union x tag e) u others (out_union x tag e) q in
        let members : ms ≡ v.members = same_union ms v.members (same_Some (ty.Uni ms) (ty.Uni v.members) (sym h ∙ v.named)) in
        same_tree k denotes numbered l ns (node.Apply (operation.Union place) (t ∷ [])) (node.Apply (operation.Union v.place) (v.part ∷ [])) u (ty.Uni ms ∷ []) others n same v.tree
        (ap (λ i. node.Apply (operation.Union i) (t ∷ [])) (place_of ms v.members tag place v.place content v.content (union_proper ms (fair.types x (ty.Uni ms) h)).1 members has v.has)
        ∙ ap (λ z. node.Apply (operation.Union v.place) (z ∷ []))
        (one_tree s e t (content ∷ []) p sc v.part (v.content ∷ []) (type_of s e t (content ∷ []) p sc v.part (v.content ∷ []) v.typed) v.typed))
    one_tree s _ _ _ (rule.let_in {after = after} {l = l} {ds = ds} {us = us} {made = made} {tys = tys} {es = es} {ts = ts} {ns = ns} p d r n) sc u others same q =
        let v : IsLetTree k denotes s l ds es u others = view k denotes s l (tree.Let ds es) (ExprKind-F.Let ds es) u others (out_let ds es) q in
        let behind = definitions_one k k.forms k.forms denotes misnames fair s ds us made after p sc v.values v.made v.after v.defines in
        same_tree k denotes numbered l ns (node.Let us ts) (node.Let v.values v.exprs) u tys others n same v.tree
        (ap (λ z. node.Let z ts) (definitions_trees s ds us made after p sc v.values v.made v.after v.defines)
        ∙ ap (λ z. node.Let v.values z) (all_trees after es ts tys r (definitions_proper k k.forms denotes misnames fair s ds us made after p sc).1 v.exprs others
        (subst (λ z. AreTyped k denotes z es v.exprs others) (sym behind.1) v.typed)))
    one_tree s _ _ _ (rule.if_else {l = l} {c = c} {t = t} {es = es} {fs = fs} {ts = ts} {us = us} {tys = tys} {ns = ns} p r w n) sc u others same q =
        let v : IsIfTree k denotes s l c es fs u others = view k denotes s l (tree.If c es fs) (ExprKind-F.If c es fs) u others (out_if c es fs) q in
        same_tree k denotes numbered l ns (node.If (t ∷ []) ts us) (node.If (v.test ∷ []) v.yes v.no_exprs) u tys others n same v.tree
        (ap (λ z. node.If (z ∷ []) ts us) (one_tree s c t (ty.Bool ∷ []) p sc v.test (ty.Bool ∷ []) refl v.typed_test)
        ∙ ap (λ z. node.If (v.test ∷ []) z us) (all_trees s es ts tys r sc v.yes others v.typed_yes)
        ∙ ap (λ z. node.If (v.test ∷ []) v.yes z) (all_trees s fs us tys w sc v.no_exprs others v.typed_no))
    one_tree s _ _ _ (rule.tag_case {l = l} {ms = ms} {x = x} {e = e} {t = t} {arms = arms} {typed_arms = us} {last = last} {tags = tags} {choices = choices} {ns = ns} {tys = tys} {other = other} p r d all o c n) sc u others same q =
        let v : IsTagCaseTree k denotes s l x e arms other u others = view_case k denotes s l x e arms other u others q in
        let type = type_of s e t (ty.Uni ms ∷ []) p sc v.part (ty.Uni v.members ∷ []) v.typed in
        let members : ms ≡ v.members = same_union ms v.members (same_first (ty.Uni ms) (ty.Uni v.members) [] [] type) in
        let fit = tags_once s e t ms p sc in
        let again : AreArms k denotes s x ms tys arms v.typed_arms v.tags =
        subst (λ m. AreArms k denotes s x m tys arms v.typed_arms v.tags) (sym members) (subst (λ z. AreArms k denotes s x v.members z arms v.typed_arms v.tags) (sym same) v.are_arms) in
        let tagged : tags ≡ v.tags = tags_are k k.forms denotes s x ms tys arms us tags r ∙ sym (tags_are k k.forms denotes s x ms tys arms v.typed_arms v.tags again) in
        let chosen : choices ≡ v.choices = choices_one tags v.tags ms v.members choices v.choices tagged members fit.1 c v.chooses in
        same_tree k denotes numbered l ns (node.Case (record { named = named_arms x arms; choices = choices; others = length arms }) (t ∷ []) (us ++ last))
        (node.Case (record { named = named_arms x arms; choices = v.choices; others = length arms }) (v.part ∷ []) (v.typed_arms ++ v.last)) u tys others n same v.tree
        (ap (λ i. node.Case (record { named = named_arms x arms; choices = i; others = length arms }) (t ∷ []) (us ++ last)) chosen
        ∙ ap (λ z. node.Case (record { named = named_arms x arms; choices = v.choices; others = length arms }) (z ∷ []) (us ++ last)) (one_tree s e t (ty.Uni ms ∷ []) p sc v.part (ty.Uni v.members ∷ []) type v.typed)
        ∙ ap (λ z. node.Case (record { named = named_arms x arms; choices = v.choices; others = length arms }) (v.part ∷ []) (z ++ last)) (arms_trees s x ms tys arms us tags r fit.1 fit.2 sc v.typed_arms v.tags again)
        ∙ ap (λ z. node.Case (record { named = named_arms x arms; choices = v.choices; others = length arms }) (v.part ∷ []) (v.typed_arms ++ z)) (otherwise_trees s tys other last o sc others v.last v.otherwise))
    one_tree s _ t tys (rule.for_product {l = l} {gs = gs} {ds = ds} {cs = cs} p) sc u others same q =
        crossed_trees s l gs ds cs t tys p sc u others same (view_product k denotes s l gs ds cs u others q)
    one_tree s _ _ _ (rule.for_initial {started = started} {turned = after} {l = l} {first = first} {later = later} {tys = tys} {ns = ns} is_first is_until {test = test} {t = t} {ds = ds} {es = es} {us = us} {vs = vs} {cs = cs} {forms = clauses} {ts = ts} p d r w e keeps c n) sc u others same q =
        let v : IsInitialTree k denotes s l ds is_first is_until test es cs u others = view_initial k denotes s l ds is_first is_until test es cs u others q in
        let begun = definitions_one k k.forms k.forms denotes misnames fair s ds us first started p sc v.values v.first v.started v.defines in
        let fit = definitions_proper k k.forms denotes misnames fair s ds us first started p sc in
        let turns : Defines k denotes (in_turn (loop_of s ds first) (targets es) started) es v.renewed v.later v.turned =
        subst (λ z. Defines k denotes (in_turn (loop_of s ds first) (targets es) z) es v.renewed v.later v.turned) (sym begun.1)
        (subst (λ f. Defines k denotes (in_turn (loop_of s ds f) (targets es) v.started) es v.renewed v.later v.turned) (sym begun.0) v.turns) in
        let made = clauses_trees started cs clauses ts tys c fit.1 v.clauses v.exprs others (subst (λ z. AreClauses k denotes z cs v.clauses v.exprs others) (sym begun.1) v.results) in
        same_tree k denotes numbered l ns
        (node.Initial (record { is_first = is_first; is_until = is_until; renewed = renewals (loop_of s ds first) s.height (targets es); clauses = clauses }) us (t ∷ []) vs ts)
        (node.Initial (record { is_first = is_first; is_until = is_until; renewed = renewals (loop_of s ds v.first) s.height (targets es); clauses = v.clauses }) v.values (v.part ∷ []) v.renewed v.exprs) u tys others n same v.tree
        (ap (λ f. node.Initial (record { is_first = is_first; is_until = is_until; renewed = renewals (loop_of s ds f) s.height (targets es); clauses = clauses }) us (t ∷ []) vs ts) begun.0
        ∙ ap (λ z. node.Initial (record { is_first = is_first; is_until = is_until; renewed = renewals (loop_of s ds v.first) s.height (targets es); clauses = z }) us (t ∷ []) vs ts) made.0
        ∙ ap (λ z. node.Initial (record { is_first = is_first; is_until = is_until; renewed = renewals (loop_of s ds v.first) s.height (targets es); clauses = v.clauses }) z (t ∷ []) vs ts)
        (definitions_trees s ds us first started p sc v.values v.first v.started v.defines)
        ∙ ap (λ z. node.Initial (record { is_first = is_first; is_until = is_until; renewed = renewals (loop_of s ds v.first) s.height (targets es); clauses = v.clauses }) v.values (z ∷ []) vs ts)
        (one_tree started test t (ty.Bool ∷ []) r fit.1 v.part (ty.Bool ∷ []) refl (subst (λ z. Types k denotes z test v.part (ty.Bool ∷ [])) (sym begun.1) v.typed_test))
        ∙ ap (λ z. node.Initial (record { is_first = is_first; is_until = is_until; renewed = renewals (loop_of s ds v.first) s.height (targets es); clauses = v.clauses }) v.values (v.part ∷ []) z ts)
        (definitions_trees (in_turn (loop_of s ds first) (targets es) started) es vs later after w (turn_proper s started ds first (targets es) fit.0 fit.1) v.renewed v.later v.turned turns)
        ∙ ap (λ z. node.Initial (record { is_first = is_first; is_until = is_until; renewed = renewals (loop_of s ds v.first) s.height (targets es); clauses = v.clauses }) v.values (v.part ∷ []) v.renewed z) made.1)

    pub all_trees : (s : Scope) (es : List Expr) (ts : List TypedExpr) (tys : List Ty) → AreTyped k denotes s es ts tys → IsProperScope s
        → (us : List TypedExpr) (others : List Ty) → AreTyped k denotes s es us others → ts ≡ us
    all_trees s _ _ _ rule.no_more sc us others q = let e : us ≡ [] = first_of k denotes s [] us others q in sym e
    all_trees s _ _ _ (rule.more {e = e} {t = t} {tys = tys} {others = rest} {es = es} {ts = ts} p r) sc us others q =
        let v : IsFirstTree k denotes s e es us = first_of k denotes s (e ∷ es) us others q in
        ap (λ z. z ∷ ts) (one_tree s e t tys p sc v.first v.made (type_of s e t tys p sc v.first v.made v.typed) v.typed)
        ∙ ap (λ l. v.first ∷ l) (all_trees s es ts rest r sc v.trees v.others v.later) ∙ sym v.is

    pub fields_trees : (s : Scope) (vs : List FieldValue) (ts : List TypedExpr) (ms : List Member) → HasFields k denotes s vs ts ms → IsProperScope s
        → (us : List TypedExpr) (others : List Member) → HasFields k denotes s vs us others → ts ≡ us
    fields_trees s _ _ _ rule.no_member sc us others q = let e : us ≡ [] = fields_of k denotes s [] us others q in sym e
    fields_trees s _ _ _ (rule.a_member {n = n} {a = a} {e = e} {t = t} {vs = vs} {ts = ts} {ms = ms} h p r) sc us others q =
        let v : IsNewFieldTree k denotes s (record { field = n; value = e }) vs us = fields_of k denotes s (record { field = n; value = e } ∷ vs) us others q in
        ap (λ z. z ∷ ts) (one_tree s e t (a ∷ []) p sc v.first (v.type ∷ []) (type_of s e t (a ∷ []) p sc v.first (v.type ∷ []) v.typed) v.typed)
        ∙ ap (λ l. v.first ∷ l) (fields_trees s vs ts ms r sc v.trees v.others v.later) ∙ sym v.is

    pub changed_trees : (s : Scope) (ms : List Member) (vs : List FieldValue) (places : List ℕ) (ts : List TypedExpr) → Replaces k denotes s ms vs places ts → AreOnce ms → IsProperScope s
        → (others : List ℕ) (us : List TypedExpr) → Replaces k denotes s ms vs others us → (places ≡ others) × (ts ≡ us)
    changed_trees s ms _ _ _ rule.no_field once sc others us q = let v : (others ≡ []) × (us ≡ []) = changed_of k denotes s ms [] others us q in (sym v.0, sym v.1)
    changed_trees s ms _ _ _ (rule.a_field {n = n} {place = place} {a = a} {e = e} {t = t} {vs = vs} {places = places} {us = ts} h p r) once sc others us q =
        let v : IsChangedTree k denotes s ms (record { field = n; value = e }) vs others us = changed_of k denotes s ms (record { field = n; value = e } ∷ vs) others us q in
        let rest = changed_trees s ms vs places ts r once sc v.others v.trees v.later in (
          ap (λ i. i ∷ places) (place_of ms ms n.name place v.place a v.type once refl h v.has) ∙ ap (λ l. v.place ∷ l) rest.0 ∙ sym v.is_places,
          ap (λ z. z ∷ ts) (one_tree s e t (a ∷ []) p sc v.first (v.type ∷ []) (type_of s e t (a ∷ []) p sc v.first (v.type ∷ []) v.typed) v.typed)
              ∙ ap (λ l. v.first ∷ l) rest.1 ∙ sym v.is_trees,
        )

    pub definitions_trees : (s : Scope) (ds : List Def) (us : List (List TypedExpr)) (tys : List Ty) (after : Scope) → Defines k denotes s ds us tys after → IsProperScope s
        → (ws : List (List TypedExpr)) (others : List Ty) (later : Scope) → Defines k denotes s ds ws others later → us ≡ ws
    definitions_trees s _ _ _ _ rule.no_def sc ws others later q = let e : ws ≡ [] = definitions_of k denotes s [] ws others later q in sym e
    definitions_trees s _ _ _ after (rule.a_def xs {es = es} {ts = ts} {tys = tys} {others = rest} {ds = ds} {us = us} p t r) sc ws others later q =
        let v : IsDefinitionTree k denotes s xs es ds ws later = view_definitions k denotes s xs es ds ws others later q in
        let made : tys ≡ v.made = types_of s es ts tys p sc v.exprs v.made v.typed in
        let behind : Defines k denotes (define_all (names_in xs) tys s) ds v.rest v.others later =
        subst (λ m. Defines k denotes (define_all (names_in xs) m s) ds v.rest v.others later) (sym made) v.later in
        ap (λ z. z ∷ us) (all_trees s es ts tys p sc v.exprs v.made v.typed)
        ∙ ap (λ l. v.exprs ∷ l)
        (definitions_trees (define_all (names_in xs) tys s) ds us rest after r (defined_proper (names_in xs) tys s (all_proper k k.forms denotes misnames fair s es ts tys p sc) sc) v.rest v.others later behind)
        ∙ sym v.is

    pub crossed_trees : (s : Scope) (l : ℕ) (gs : List (List Generator)) (ds : List Def) (cs : List Clause) (t : TypedExpr) (tys : List Ty) → Crosses k denotes s l gs ds cs t tys → IsProperScope s
        → (u : TypedExpr) (others : List Ty) → tys ≡ others → Crosses k denotes s l gs ds cs u others → t ≡ u
    crossed_trees s l _ ds cs _ tys (rule.one_group {inside = inside} {names = names} {ns = ns} {tys = made} {made = defined} {g = g} {sources = sources} {bounds = bounds} {us = values} {forms = clauses} {ts = ts} p d r e c n) sc u others same q =
        let v : IsCrossedTree k denotes s l g [] ds cs u others = crossed_of k denotes s l (g ∷ []) ds cs u others q in
        let named = generated_one k k.forms k.forms denotes misnames fair s g sources bounds names made p sc v.sources v.bounds v.names v.made v.generates in
        let over = generated_trees s g sources bounds names made p sc v.sources v.bounds v.names v.made v.generates in
        let body : IsBodyTree k denotes (define_all names made s) l ds cs v.sources v.bounds u others =
        subst (λ m. IsBodyTree k denotes (define_all names m s) l ds cs v.sources v.bounds u others) (sym named.1)
        (subst (λ x. IsBodyTree k denotes (define_all x v.made s) l ds cs v.sources v.bounds u others) (sym named.0) v.inside) in
        let started = defined_proper names made s (generated_proper k k.forms denotes misnames fair s g sources bounds names made p sc) sc in
        let behind = definitions_one k k.forms k.forms denotes misnames fair (define_all names made s) ds values defined inside r started body.values body.made body.inside body.defines in
        let results = clauses_trees inside cs clauses ts tys c (definitions_proper k k.forms denotes misnames fair (define_all names made s) ds values defined inside r started).1 body.clauses body.exprs others
        (subst (λ z. AreClauses k denotes z cs body.clauses body.exprs others) (sym behind.1) body.results) in
        same_tree k denotes numbered l ns (node.Product (record { sources = sources; clauses = clauses }) bounds values ts)
        (node.Product (record { sources = v.sources; clauses = body.clauses }) v.bounds body.values body.exprs) u tys others n same body.tree
        (ap (λ z. node.Product (record { sources = z; clauses = clauses }) bounds values ts) over.0
        ∙ ap (λ z. node.Product (record { sources = v.sources; clauses = z }) bounds values ts) results.0
        ∙ ap (λ z. node.Product (record { sources = v.sources; clauses = body.clauses }) z values ts) over.1
        ∙ ap (λ z. node.Product (record { sources = v.sources; clauses = body.clauses }) v.bounds z ts)
        (definitions_trees (define_all names made s) ds values defined inside r started body.values body.made body.inside body.defines)
        ∙ ap (λ z. node.Product (record { sources = v.sources; clauses = body.clauses }) v.bounds body.values z) results.1)
    crossed_trees s l _ ds cs _ tys (rule.a_group {names = names} {ns = ns} {tys = made} {inner = inner} {g = g} {gs = gs} {sources = sources} {bounds = bounds} {forms = clauses} {t = t} p d r f n) sc u others same q =
        let v : IsCrossedTree k denotes s l g gs ds cs u others = crossed_of k denotes s l (g ∷ gs) ds cs u others q in
        let named = generated_one k k.forms k.forms denotes misnames fair s g sources bounds names made p sc v.sources v.bounds v.names v.made v.generates in
        let over = generated_trees s g sources bounds names made p sc v.sources v.bounds v.names v.made v.generates in
        let w : IsInnerLoopTree k denotes (define_all v.names v.made s) l gs ds cs v.sources v.bounds u others =
        inner_of k denotes (define_all names made s) l gs ds cs t inner r (define_all v.names v.made s) v.sources v.bounds u others v.inside in
        let loop : IsInnerLoopTree k denotes (define_all names made s) l gs ds cs v.sources v.bounds u others =
        subst (λ m. IsInnerLoopTree k denotes (define_all names m s) l gs ds cs v.sources v.bounds u others) (sym named.1)
        (subst (λ x. IsInnerLoopTree k denotes (define_all x v.made s) l gs ds cs v.sources v.bounds u others) (sym named.0) w) in
        let started = defined_proper names made s (generated_proper k k.forms denotes misnames fair s g sources bounds names made p sc) sc in
        let results : inner ≡ loop.inner = crossed_one k k.forms k.forms denotes misnames fair (define_all names made s) l gs ds cs t inner r started loop.part loop.inner loop.crosses in
        same_tree k denotes numbered l ns (node.Product (record { sources = sources; clauses = clauses }) bounds [] (t ∷ []))
        (node.Product (record { sources = v.sources; clauses = loop.clauses }) v.bounds [] (loop.part ∷ [])) u tys others n same loop.tree
        (ap (λ z. node.Product (record { sources = z; clauses = clauses }) bounds [] (t ∷ [])) over.0
        ∙ ap (λ z. node.Product (record { sources = v.sources; clauses = z }) bounds [] (t ∷ [])) (one_forms cs inner loop.inner clauses loop.clauses tys others results f loop.folds)
        ∙ ap (λ z. node.Product (record { sources = v.sources; clauses = loop.clauses }) z [] (t ∷ [])) over.1
        ∙ ap (λ z. node.Product (record { sources = v.sources; clauses = loop.clauses }) v.bounds [] (z ∷ []))
        (crossed_trees (define_all names made s) l gs ds cs t inner r started loop.part loop.inner results loop.crosses))

    pub generated_trees : (s : Scope) (gs : List Generator) (sources : List Source) (bounds : List TypedExpr) (names : List ℕ) (tys : List Ty) → Generates k denotes s gs sources bounds names tys
        → IsProperScope s → (sources2 : List Source) (bounds2 : List TypedExpr) (names2 : List ℕ) (others : List Ty) → Generates k denotes s gs sources2 bounds2 names2 others
        → (sources ≡ sources2) × (bounds ≡ bounds2)
    generated_trees s _ _ _ _ _ rule.no_generator sc sources2 bounds2 names2 others q =
        let v : (sources2 ≡ []) × (bounds2 ≡ []) = generated_of k denotes s [] sources2 bounds2 names2 others q in (sym v.0, sym v.1)
    generated_trees s _ _ _ _ _ (rule.range n {e = e} {f = f} {t = t} {u = u} {names = names} {tys = tys} {gs = gs} {sources = sources} {bounds = bounds} p r w) sc sources2 bounds2 names2 others q =
        let v : IsRangeTree k denotes s e f gs sources2 bounds2 = view_generators k denotes s n e (Some f) None gs sources2 bounds2 names2 others q in
        let rest = generated_trees s gs sources bounds names tys w sc v.others v.rest v.names v.types v.later in (
          ap (λ l. source.Range ∷ l) rest.0 ∙ sym v.is_sources,
          ap (λ z. z ∷ u ∷ bounds) (one_tree s e t (ty.Int ∷ []) p sc v.from (ty.Int ∷ []) refl v.typed_from)
              ∙ ap (λ z. v.from ∷ z ∷ bounds) (one_tree s f u (ty.Int ∷ []) r sc v.to (ty.Int ∷ []) refl v.typed_to)
              ∙ ap (λ l. v.from ∷ v.to ∷ l) rest.1 ∙ sym v.is_bounds,
        )
    generated_trees s _ _ _ _ _ (rule.elements n {a = a} {b = b} {e = e} {t = t} {names = names} {tys = tys} {gs = gs} {sources = sources} {bounds = bounds} p h w) sc sources2 bounds2 names2 others q =
        let v : IsElementsTree k denotes s e None gs sources2 bounds2 = view_generators k denotes s n e None None gs sources2 bounds2 names2 others q in
        let rest = generated_trees s gs sources bounds names tys w sc v.others v.rest v.names v.types v.later in (
          ap (λ l. source.Elements ∷ l) rest.0 ∙ sym v.is_sources,
          ap (λ z. z ∷ bounds) (one_tree s e t (a ∷ []) p sc v.part (v.whole ∷ []) (type_of s e t (a ∷ []) p sc v.part (v.whole ∷ []) v.typed) v.typed)
              ∙ ap (λ l. v.part ∷ l) rest.1 ∙ sym v.is_bounds,
        )
    generated_trees s _ _ _ _ _ (rule.indexed n {i = i} {a = a} {b = b} {e = e} {t = t} {names = names} {tys = tys} {gs = gs} {sources = sources} {bounds = bounds} p h w) sc sources2 bounds2 names2 others q =
        let v : IsElementsTree k denotes s e (Some i) gs sources2 bounds2 = view_generators k denotes s n e None (Some i) gs sources2 bounds2 names2 others q in
        let rest = generated_trees s gs sources bounds names tys w sc v.others v.rest v.names v.types v.later in (
          ap (λ l. source.Indexed ∷ l) rest.0 ∙ sym v.is_sources,
          ap (λ z. z ∷ bounds) (one_tree s e t (a ∷ []) p sc v.part (v.whole ∷ []) (type_of s e t (a ∷ []) p sc v.part (v.whole ∷ []) v.typed) v.typed)
              ∙ ap (λ l. v.part ∷ l) rest.1 ∙ sym v.is_bounds,
        )

    pub clauses_trees : (s : Scope) (cs : List Clause) (clauses : List ClauseForm) (ts : List TypedExpr) (tys : List Ty) → AreClauses k denotes s cs clauses ts tys → IsProperScope s
        → (clauses2 : List ClauseForm) (us : List TypedExpr) (others : List Ty) → AreClauses k denotes s cs clauses2 us others → (clauses ≡ clauses2) × (ts ≡ us)
    clauses_trees s _ _ _ _ rule.no_clause sc clauses2 us others q =
        let v : (clauses2 ≡ []) × (us ≡ []) = clauses_of k denotes s [] clauses2 us others q in (sym v.0, sym v.1)
    clauses_trees s _ _ _ _ (rule.a_clause l {kind = kind} {a = a} {b = b} {e = e} {t = t} {m = m} {masks = masks} {cs = cs} {forms = clauses} {ts = ts} {tys = tys} p h d w r) sc clauses2 us others q =
        let v : IsClauseTree k denotes s kind e m cs clauses2 us = view_clauses k denotes s l kind e m cs clauses2 us others q in
        let type = type_of s e t (a ∷ []) p sc v.part (v.value ∷ []) v.typed in
        let rest = clauses_trees s cs clauses ts tys r sc v.clauses v.exprs v.others v.later in (
          ap (λ z. clause_form kind z m ∷ clauses) (same_first a v.value [] [] type) ∙ ap (λ l. clause_form kind v.value m ∷ l) rest.0 ∙ sym v.is_forms,
          ap (λ z. z ∷ (masks ++ ts)) (one_tree s e t (a ∷ []) p sc v.part (v.value ∷ []) type v.typed)
              ∙ ap (λ z. v.part ∷ (z ++ ts)) (mask_trees s m masks w sc v.masks v.mask) ∙ ap (λ l. v.part ∷ (v.masks ++ l)) rest.1 ∙ sym v.is_trees,
        )

    pub mask_trees : (s : Scope) (m : Option Mask) (ts : List TypedExpr) → IsMask k denotes s m ts → IsProperScope s → (us : List TypedExpr) → IsMask k denotes s m us → ts ≡ us
    mask_trees s _ _ rule.no_mask sc us q = let e : us ≡ [] = mask_of k denotes s None us q in sym e
    mask_trees s _ _ (rule.a_mask {is_unless = is_unless} {e = e} {t = t} p) sc us q =
        let v : IsTestedTree k denotes s (record { is_unless = is_unless; test = e }) us = mask_of k denotes s (Some (record { is_unless = is_unless; test = e })) us q in
        ap (λ z. z ∷ []) (one_tree s e t (ty.Bool ∷ []) p sc v.part (ty.Bool ∷ []) refl v.typed) ∙ sym v.is

    pub arms_trees : (s : Scope) (x : Option ℕ) (ms : List Member) (tys : List Ty) (arms : List Arm) (us : List (List TypedExpr)) (tags : List (List ℕ)) → AreArms k denotes s x ms tys arms us tags
        → AreOnce ms → AreProper ms → IsProperScope s → (ws : List (List TypedExpr)) (tags2 : List (List ℕ)) → AreArms k denotes s x ms tys arms ws tags2 → us ≡ ws
    arms_trees s x ms tys _ _ _ rule.no_arm once m sc ws tags2 q =
        let v : (ws ≡ []) × (tags2 ≡ []) = arms_of k denotes s x ms tys [] ws tags2 q in sym v.0
    arms_trees s x ms tys _ _ _ (rule.an_arm l content names {es = es} {ts = ts} {arms = arms} {typed_arms = us} {tags = tags} o t p r) once m sc ws tags2 q =
        let v : IsArmTree k denotes s x ms tys names es arms ws tags2 = view_arms k denotes s x ms tys l names es arms ws tags2 q in
        let same : content ≡ v.content = one_content k ms content v.content (names_of names) once (no_names_of names o) t v.contents in
        let tag = first_tag k ms content (names_of names) (no_names_of names o) t in
        let inside = content_defined x content s (content_proper k ms tag.0 tag.1.0 content m tag.1.1) sc in
        ap (λ z. z ∷ us) (all_trees (with_content x content s) es ts tys p inside v.exprs tys (subst (λ c. AreTyped k denotes (with_content x c s) es v.exprs tys) (sym same) v.typed))
        ∙ ap (λ l. v.exprs ∷ l) (arms_trees s x ms tys arms us tags r once m sc v.rest v.others v.later) ∙ sym v.is_trees

    pub otherwise_trees : (s : Scope) (tys : List Ty) (other : Option (List Expr)) (last : List (List TypedExpr)) → IsOtherwise k denotes s tys other last → IsProperScope s
        → (others : List Ty) (last2 : List (List TypedExpr)) → IsOtherwise k denotes s others other last2 → last ≡ last2
    otherwise_trees s tys _ _ rule.no_otherwise sc others _ rule.no_otherwise = refl
    otherwise_trees s tys _ _ (rule.otherwise {es = es} {ts = ts} p) sc others _ (rule.otherwise {ts = us} q) = ap (λ z. z ∷ []) (all_trees s es ts tys p sc us others q)
