-- What breaks a rule has no type, whatever the table of types.
use Rattle.std.proofs.Common.{◌≡◌, inl, inr, ℕ, suc, ◌+◌, List, [], ◌∷◌, ◌++◌, map, flat_map, length, Option, Some, None, All, refl, sym, ap, subst, ◌∙◌, arith}
use Rattle.std.specs.Prelude.{Contains}
use Rattle.std.proofs.lemmas.Option.{same_Some, none-some}
use Rattle.std.proofs.lemmas.List.Elements.{All-contains}
use Rattle.name_scope.specs.Newest.{newest}
use Rattle.flow_value.specs.declared.ty.Ty.{Ty}
use Rattle.flow_value.specs.declared.ty.Ty.TheVariants as ty
use Rattle.type_table.specs.declared.form.Form.{Form}
use Rattle.sisal_tree.specs.declared.unit.Written.{Written}
use Rattle.sisal_tree.specs.declared.expr.Expr.{Expr}
use Rattle.sisal_tree.specs.declared.expr.ExprKind.TheVariants as tree
use Rattle.sisal_tree.specs.declared.expr.ExprKind.TheOpen.{ExprKind-F}
use Rattle.sisal_tree.specs.declared.expr.ExprKind.TheViews.{out-ExprKind}
use Rattle.sisal_tree.specs.declared.expr.Elements.{Elements}
use Rattle.sisal_tree.specs.declared.expr.Def.{Def, roll-Def}
use Rattle.sisal_tree.specs.declared.expr.Arm.{Arm, out-Arm}
use Rattle.sisal_tree.specs.declared.expr.Generator.{Generator, out-Generator}
use Rattle.sisal_tree.specs.declared.expr.Clause.{Clause, out-Clause}
use Rattle.typed_tree.specs.declared.built_in.BuiltIn.{BuiltIn}
use Rattle.typed_tree.specs.declared.expr.TypedExpr.{TypedExpr}
use Rattle.typed_tree.specs.Scopes.{Scope, define_all, targets, AreDistinct, in_turn, KeepTypes}
use Rattle.typed_tree.specs.Types.{Member, IsSequence, IsShallow, IsConverted, prefix_type, AreOperands, Gives, MakesThrough}
use Rattle.typed_tree.specs.Typing as typing
use Rattle.typed_tree.specs.Typing.{Known, IsTypeNamed, Has, IsTag, names_of, AreAllNamed, AreTargets, names_in, loop_of, with_content, Types, AreTyped, Defines, Crosses, AreClauses, AreArms}
use Rattle.typed_tree.specs.Breaks as breaks
use Rattle.typed_tree.specs.Breaks.{IsUnknown, IsPair, targets_in, named_in, generators_in, Breaks, BreaksOne, BreaksIn, BreaksDefs, BreaksGroups, BreaksGenerator, BreaksClause, BreaksArm, HasResults}
use Rattle.typing_unique.specs.Fair.{AreOnce, AreProper, IsFair}
use Rattle.typing_unique.specs.Inverted.{at_table, IsProperScope, IsName, IsErrorOf, IsEmptyArray, IsGroup, IsCall, IsConvert, IsIsError, IsIsTag, IsPrefix, IsBinary, IsSelect, IsUpdate, IsField, IsReplace, IsArray, IsArrayIf, IsStreamIf, IsRecord, IsUnion, IsLet, IsIf, IsTagCase, IsInitial, IsProduct, IsBody, IsInside, IsCrossed, IsElements, IsTested}
use Rattle.text_trees.proofs.Views.{out_name, out_old, out_group, out_call, out_convert, out_error_of, out_is_error, out_is_tag, out_prefix, out_binary, out_select, out_update, out_field, out_replace, out_empty_array, out_array, out_stream, out_a_record, out_union, out_let, out_if, out_generator, out_clause, out_arm}
use Rattle.typing_unique.proofs.EInverted.{view, view_array, view_case, view_product, view_initial, view_definitions, crossed_of}
use Rattle.typing_unique.proofs.ETypes.{same_record, same_union, same_first, one_result, one_made_through, union_proper, content_proper, one_place}
use Rattle.typing_unique.proofs.EScopes.{defined_proper, content_defined, turn_proper}
use Rattle.typing_unique.proofs.EProper.{the_one, first_tag, no_names_of, proper, all_proper, definitions_proper, generated_proper}
use Rattle.typing_unique.proofs.EOne.{one_call, one_content, no_value, one_type, all_one, fields_one, definitions_one, generated_one}
use Rattle.typing_unique.proofs.EParts.{named_in_list, twice_not_distinct, names_of_targets, targets_after, as_many_targets, declared_in, declared_at, Ends, ends_folded, ends_more, expr_at, field_at, change_at, IsGeneratorAt, generator_at, names_generated, from_of, range_of, ends_begin, IsClauseAt, clause_at, IsArmAt, arm_at, tags_are, other_in, IsSplit, split, kept, flat_tags}

out_any_array : (x : Option ℕ) (els : Option Elements) → out-ExprKind (tree.Array x els) ≡ ExprKind-F.Array x els
out_any_array x None = out_empty_array x
out_any_array x (Some els) = out_array x els

another : (a b c : Ty) (us ws : List Ty) → a ∷ us ≡ b ∷ ws → All (λ z. z ≡ b) ws → Contains us c → c ≡ a
another a b c us ws e all h =
    let rest : us ≡ ws = cc in
    All-contains (λ z. z ≡ b) ws c all (subst (λ l. Contains l c) rest h) ∙ sym (same_first a b us ws e)

given : (b c : BuiltIn) (us ws : List Ty) (a : Ty) → b ≡ c → us ≡ ws → Gives c ws a → Gives b us a
given b c us ws a e d p = subst (λ z. Gives z us a) (sym e) (subst (λ l. Gives c l a) (sym d) p)

module _ (k : Known) (f : List Form) (denotes : Written → Ty → Type 0) (misnames : Written → ℕ → ℕ → Type 0) (fair : IsFair k denotes misnames) where
  -- ---- what is typed twice

  same_all : (s : Scope) (es : List Expr) (ts : List TypedExpr) (tys : List Ty) → AreTyped k denotes s es ts tys → IsProperScope s
      → (us : List TypedExpr) (others : List Ty) → AreTyped (at_table k f) denotes s es us others → tys ≡ others
  same_all s es ts tys p sc us others q = all_one k k.forms f denotes misnames fair s es ts tys p sc us others q

  same_one : (s : Scope) (e : Expr) (t : TypedExpr) (a : Ty) → Types k denotes s e t (a ∷ []) → IsProperScope s
      → (u : TypedExpr) (b : Ty) → Types (at_table k f) denotes s e u (b ∷ []) → a ≡ b
  same_one s e t a p sc u b q = same_first a b [] [] (one_type k k.forms f denotes misnames fair s e t (a ∷ []) p sc u (b ∷ []) q)

  same_fields : (s : Scope) (e : Expr) (t : TypedExpr) (ms : List Member) → Types k denotes s e t (ty.Rec ms ∷ []) → IsProperScope s
      → (u : TypedExpr) (ns : List Member) → Types (at_table k f) denotes s e u (ty.Rec ns ∷ []) → ms ≡ ns
  same_fields s e t ms p sc u ns q = same_record ms ns (same_one s e t (ty.Rec ms) p sc u (ty.Rec ns) q)

  same_tags : (s : Scope) (e : Expr) (t : TypedExpr) (ms : List Member) → Types k denotes s e t (ty.Uni ms ∷ []) → IsProperScope s
      → (u : TypedExpr) (ns : List Member) → Types (at_table k f) denotes s e u (ty.Uni ns ∷ []) → ms ≡ ns
  same_tags s e t ms p sc u ns q = same_union ms ns (same_one s e t (ty.Uni ms) p sc u (ty.Uni ns) q)

  same_named : (x y : ℕ) (a b : Ty) → Some x ≡ Some y → IsTypeNamed k x a → IsTypeNamed k y b → a ≡ b
  same_named x y a b e p q = same_Some a b (sym p ∙ ap (λ z. newest z k.types) (same_Some x y e) ∙ q)

  array_named : (s : Scope) (x : ℕ) (els : Option Elements) (tys : List Ty) → IsArrayIf k f denotes s (Some x) els tys → (a : Ty) × IsTypeNamed k x a
  array_named s x None tys v = (ty.Arr v.element, ap (λ z. newest z k.types) (same_Some x v.name v.is_name) ∙ v.named)
  array_named s x (Some els) tys v = (ty.Arr v.element, v.named)

  same_turn : (s : Scope) (ds es : List Def) (first others : List Ty) (started after : Scope) (us : List (List TypedExpr)) (tys : List Ty) (turned : Scope) → first ≡ others → started ≡ after
      → Defines (at_table k f) denotes (in_turn (loop_of s ds others) (targets es) after) es us tys turned → Defines (at_table k f) denotes (in_turn (loop_of s ds first) (targets es) started) es us tys turned
  same_turn s ds es first others started after us tys turned d e p =
      subst (λ z. Defines (at_table k f) denotes (in_turn (loop_of s ds z) (targets es) started) es us tys turned) (sym d)
      (subst (λ z. Defines (at_table k f) denotes (in_turn (loop_of s ds others) (targets es) z) es us tys turned) (sym e) p)

  -- the types of the results of an arm
  results_one : (s : Scope) (x : Option ℕ) (ms : List Member) (arm : Arm) (tys : List Ty) → HasResults k denotes misnames s x ms arm tys → AreOnce ms → AreProper ms → IsProperScope s
      → (others : List Ty) → IsArmAt k f denotes s x ms others (out-Arm arm).tags (out-Arm arm).results → tys ≡ others
  results_one s x ms _ tys (breaks.results l content tags es {ts = ts} h p) once m sc others at_arm =
      let v : IsArmAt k f denotes s x ms others tags es = subst (λ r. IsArmAt k f denotes s x ms others r.tags r.results) (out_arm l tags es) at_arm in
      let some = no_names_of tags v.tagged in
      let same : content ≡ v.content = one_content k ms content v.content (names_of tags) once some h v.contents in
      let tag = first_tag k ms content (names_of tags) some h in
      same_all (with_content x content s) es ts tys p (content_defined x content s (content_proper k ms tag.0 tag.1.0 content m tag.1.1) sc) v.exprs others
      (subst (λ c. AreTyped (at_table k f) denotes (with_content x c s) es v.exprs others) (sym same) v.typed)

  -- ---- loops over groups

  -- what is typed behind some groups of a loop of so many
  abbrev State : ℕ → ℕ → Scope → ℕ → List (List Generator) → List Def → List Clause → Type 0
  State n m s l [] ds cs = (n ≡ suc m) × ((tys : List Ty) × IsBody k f denotes s ds cs tys × Ends m cs tys)
  State n m s l (g ∷ gs) ds cs = (n ≡ m + length (g ∷ gs)) × ((tys : List Ty) × (t : TypedExpr) × Crosses (at_table k f) denotes s l (g ∷ gs) ds cs t tys × Ends m cs tys)

  crossed_ends : (s : Scope) (l : ℕ) (gs : List (List Generator)) (ds : List Def) (cs : List Clause) (t : TypedExpr) (tys : List Ty) → Crosses (at_table k f) denotes s l gs ds cs t tys → Ends 0 cs tys
  crossed_ends s l _ ds cs _ tys (typing.one_group {inside = inside} {forms = clauses} {ts = ts} p d q e c n) = ends_begin k f denotes inside cs clauses ts tys c
  crossed_ends s l _ ds cs _ tys (typing.a_group {inner = inner} {forms = clauses} p d q h n) = ends_folded cs inner clauses tys h

  state_begin : (s : Scope) (l : ℕ) (gs : List (List Generator)) (ds : List Def) (cs : List Clause) (t : TypedExpr) (tys : List Ty) → Crosses (at_table k f) denotes s l gs ds cs t tys → State (length gs) 0 s l gs ds cs
  state_begin s l [] ds cs t tys p = absurd (crossed_of k f denotes s l [] ds cs t tys p)
  state_begin s l (g ∷ gs) ds cs t tys p = (omega arith, (tys, t, p, crossed_ends s l (g ∷ gs) ds cs t tys p))

  state_next : (n m : ℕ) (s : Scope) (l : ℕ) (g : List Generator) (gs : List (List Generator)) (ds : List Def) (cs : List Clause) (tys : List Ty) → n ≡ m + length (g ∷ gs) → IsInside k f denotes s l gs ds cs tys
      → Ends m cs tys → (i : ℕ) × State n i s l gs ds cs
  state_next n m s l g [] ds cs tys e v ends = (m, (omega (arith, e), (tys, v, ends)))
  state_next n m s l g (h ∷ gs) ds cs tys e v ends = (suc m, (omega (arith, e), (v.inner, v.tree, v.crosses, ends_more m cs v.inner v.clauses tys v.folds ends)))

  mutual
    pub no_type : (s : Scope) (e : Expr) (rule line : ℕ) → Breaks k denotes misnames s e rule line → IsProperScope s → (t : TypedExpr) (tys : List Ty) → Types (at_table k f) denotes s e t tys → ⊥
    no_type s _ _ _ (breaks.unknown {l = l} {x = x} h) sc t tys q =
        let v : IsName s.names x tys = view k f denotes s l (tree.Name x) (ExprKind-F.Name x) t tys (out_name x) q in
        subst IsUnknown v.there h
    no_type s _ _ _ (breaks.no_loop_name {l = l} {x = x} h) sc t tys q =
        let v : IsName s.olds x tys = view k f denotes s l (tree.Old x) (ExprKind-F.Old x) t tys (out_old x) q in
        subst IsUnknown v.there h
    no_type s _ _ _ (breaks.in_group {l = l} {rule = rule} {line = line} {e = e} p) sc t tys q =
        let v : IsGroup k f denotes s e tys = view k f denotes s l (tree.Group e) (ExprKind-F.Group e) t tys (out_group e) q in
        no_type s e rule line p sc v.tree tys v.typed
    no_type s _ _ _ (breaks.unknown_function {l = l} x es n m) sc t tys q =
        let v : IsCall k f denotes s x es tys = view k f denotes s l (tree.Call x es) (ExprKind-F.Call x es) t tys (out_call x es) q in
        elim v [ inl c ↦ n c.number c.function c.there | inr c ↦ m c.call c.there ]
    no_type s _ _ _ (breaks.in_arguments {l = l} {rule = rule} {line = line} x {es = es} p) sc t tys q =
        let v : IsCall k f denotes s x es tys = view k f denotes s l (tree.Call x es) (ExprKind-F.Call x es) t tys (out_call x es) q in
        elim v [ inl c ↦ none_in s es rule line p sc c.exprs c.function.params c.typed | inr c ↦ none_in s es rule line p sc c.exprs c.operands c.typed ]
    no_type s _ _ _ (breaks.arguments {l = l} {x = x} {n = n} {f = g} {es = es} {ts = ts} {tys = us} h p d) sc t tys q =
        let v : IsCall k f denotes s x es tys = view k f denotes s l (tree.Call x es) (ExprKind-F.Call x es) t tys (out_call x es) q in
        elim v [
          | inl c ↦ d (same_all s es ts us p sc c.exprs c.function.params c.typed ∙ ap (λ h. h.params) (sym (fair.functions x n c.number g c.function h c.there)))
          | inr c ↦ fair.own x n g c.call h c.there
        ]
    no_type s _ _ _ (breaks.operands {l = l} {x = x} {b = b} {es = es} {ts = ts} {tys = us} h p d) sc t tys q =
        let v : IsCall k f denotes s x es tys = view k f denotes s l (tree.Call x es) (ExprKind-F.Call x es) t tys (out_call x es) q in
        elim v [
          | inl c ↦ fair.own x c.number c.function b c.there h
          | inr c ↦ d c.type (given b c.call us c.operands c.type (one_call k x b c.call h c.there) (same_all s es ts us p sc c.exprs c.operands c.typed) c.gives)
        ]
    no_type s _ _ _ (breaks.deep_call {l = l} {x = x} {a = a} {b = b} {es = es} {ts = ts} {tys = us} h p g d) sc t tys q =
        let v : IsCall k f denotes s x es tys = view k f denotes s l (tree.Call x es) (ExprKind-F.Call x es) t tys (out_call x es) q in
        elim v [
          | inl c ↦ fair.own x c.number c.function b c.there h
          | inr c ↦ d (subst IsShallow (sym (one_result b us a c.type g (given b c.call us c.operands c.type (one_call k x b c.call h c.there) (same_all s es ts us p sc c.exprs c.operands c.typed) c.gives))) c.shallow)
        ]
    no_type s _ _ _ (breaks.in_convert {l = l} {rule = rule} {line = line} c {e = e} p) sc t tys q =
        let v : IsConvert k f denotes s c e tys = view k f denotes s l (tree.Convert c e) (ExprKind-F.Convert c e) t tys (out_convert c e) q in
        no_one s e rule line p sc v.tree v.type v.typed
    no_type s _ _ _ (breaks.converted {l = l} {a = a} c {e = e} {t = u} p d) sc t tys q =
        let v : IsConvert k f denotes s c e tys = view k f denotes s l (tree.Convert c e) (ExprKind-F.Convert c e) t tys (out_convert c e) q in
        d (subst (λ z. IsConverted c z) (sym (same_one s e u a p sc v.tree v.type v.typed)) v.converted)
    no_type s _ _ _ (breaks.in_error_of {l = l} {rule = rule} {line = line} {w = w} h) sc t tys q =
        let v : IsErrorOf denotes w tys = view k f denotes s l (tree.ErrorOf w) (ExprKind-F.ErrorOf w) t tys (out_error_of w) q in
        fair.none w rule line v.type h v.denoted
    no_type s _ _ _ (breaks.in_is_error {l = l} {rule = rule} {line = line} {e = e} p) sc t tys q =
        let v : IsIsError k f denotes s e tys = view k f denotes s l (tree.IsError e) (ExprKind-F.IsError e) t tys (out_is_error e) q in
        no_one s e rule line p sc v.tree v.type v.typed
    no_type s _ _ _ (breaks.in_prefix {l = l} {rule = rule} {line = line} o {e = e} p) sc t tys q =
        let v : IsPrefix k f denotes s o e tys = view k f denotes s l (tree.Prefix o e) (ExprKind-F.Prefix o e) t tys (out_prefix o e) q in
        no_one s e rule line p sc v.tree (prefix_type o) v.typed
    no_type s _ _ _ (breaks.prefixed {l = l} {a = a} o {e = e} {t = u} p d) sc t tys q =
        let v : IsPrefix k f denotes s o e tys = view k f denotes s l (tree.Prefix o e) (ExprKind-F.Prefix o e) t tys (out_prefix o e) q in
        d (same_one s e u a p sc v.tree (prefix_type o) v.typed)
    no_type s _ _ _ (breaks.in_left {l = l} {rule = rule} {line = line} o {e = e} g p) sc t tys q =
        let v : IsBinary k f denotes s o e g tys = view k f denotes s l (tree.Binary o e g) (ExprKind-F.Binary o e g) t tys (out_binary o e g) q in
        no_one s e rule line p sc v.left v.type v.typed_left
    no_type s _ _ _ (breaks.in_right {l = l} {rule = rule} {line = line} o {f = g} e p) sc t tys q =
        let v : IsBinary k f denotes s o e g tys = view k f denotes s l (tree.Binary o e g) (ExprKind-F.Binary o e g) t tys (out_binary o e g) q in
        no_one s g rule line p sc v.right v.type v.typed_right
    no_type s _ _ _ (breaks.joined {l = l} {a = a} {b = b} o {e = e} {f = g} {t = u} {u = w} p r d) sc t tys q =
        let v : IsBinary k f denotes s o e g tys = view k f denotes s l (tree.Binary o e g) (ExprKind-F.Binary o e g) t tys (out_binary o e g) q in
        let x = same_one s e u a p sc v.left v.type v.typed_left in
        let y = same_one s g w b r sc v.right v.type v.typed_right in
        elim d [ inl n ↦ n (x ∙ sym y) | inr n ↦ n (subst (λ z. AreOperands o z) (sym x) v.operands) ]
    no_type s _ _ _ (breaks.in_array {l = l} {rule = rule} {line = line} {e = e} i p) sc t tys q =
        let v : IsSelect k f denotes s e i tys = view k f denotes s l (tree.Select e i) (ExprKind-F.Select e i) t tys (out_select e i) q in
        no_one s e rule line p sc v.array (ty.Arr v.element) v.typed_array
    no_type s _ _ _ (breaks.in_index {l = l} {rule = rule} {line = line} {i = i} e p) sc t tys q =
        let v : IsSelect k f denotes s e i tys = view k f denotes s l (tree.Select e i) (ExprKind-F.Select e i) t tys (out_select e i) q in
        no_one s i rule line p sc v.index ty.Int v.typed_index
    no_type s _ _ _ (breaks.selected {l = l} {a = a} {b = b} {e = e} {i = i} {t = u} {u = w} p r d) sc t tys q =
        let v : IsSelect k f denotes s e i tys = view k f denotes s l (tree.Select e i) (ExprKind-F.Select e i) t tys (out_select e i) q in
        elim d [ inl n ↦ n v.element (same_one s e u a p sc v.array (ty.Arr v.element) v.typed_array) | inr n ↦ n (same_one s i w b r sc v.index ty.Int v.typed_index) ]
    no_type s _ _ _ (breaks.in_updated {l = l} {rule = rule} {line = line} {e = e} i g p) sc t tys q =
        let v : IsUpdate k f denotes s e i g tys = view k f denotes s l (tree.Update e i g) (ExprKind-F.Update e i g) t tys (out_update e i g) q in
        no_one s e rule line p sc v.array (ty.Arr v.element) v.typed_array
    no_type s _ _ _ (breaks.in_place {l = l} {rule = rule} {line = line} {i = i} e g p) sc t tys q =
        let v : IsUpdate k f denotes s e i g tys = view k f denotes s l (tree.Update e i g) (ExprKind-F.Update e i g) t tys (out_update e i g) q in
        no_one s i rule line p sc v.index ty.Int v.typed_index
    no_type s _ _ _ (breaks.in_value {l = l} {rule = rule} {line = line} {f = g} e i p) sc t tys q =
        let v : IsUpdate k f denotes s e i g tys = view k f denotes s l (tree.Update e i g) (ExprKind-F.Update e i g) t tys (out_update e i g) q in
        no_one s g rule line p sc v.value v.element v.typed_value
    no_type s _ _ _ (breaks.updated {l = l} {a = a} {b = b} {c = c} {e = e} {i = i} {f = g} {t = u} {u = w} {v = y} p r m d) sc t tys q =
        let v : IsUpdate k f denotes s e i g tys = view k f denotes s l (tree.Update e i g) (ExprKind-F.Update e i g) t tys (out_update e i g) q in
        elim d [
          | inl n ↦ n (same_one s e u a p sc v.array (ty.Arr v.element) v.typed_array ∙ ap ty.Arr (sym (same_one s g y c m sc v.value v.element v.typed_value)))
          | inr n ↦ n (same_one s i w b r sc v.index ty.Int v.typed_index)
        ]
    no_type s _ _ _ (breaks.in_record {l = l} {rule = rule} {line = line} x {e = e} p) sc t tys q =
        let v : IsField k f denotes s e x tys = view k f denotes s l (tree.Field e x) (ExprKind-F.Field e x) t tys (out_field e x) q in
        no_one s e rule line p sc v.tree (ty.Rec v.members) v.typed
    no_type s _ _ _ (breaks.no_record {l = l} x {a = a} {e = e} {t = u} p n) sc t tys q =
        let v : IsField k f denotes s e x tys = view k f denotes s l (tree.Field e x) (ExprKind-F.Field e x) t tys (out_field e x) q in
        n v.members (same_one s e u a p sc v.tree (ty.Rec v.members) v.typed)
    no_type s _ _ _ (breaks.no_field {l = l} x ms {e = e} {t = u} p n) sc t tys q =
        let v : IsField k f denotes s e x tys = view k f denotes s l (tree.Field e x) (ExprKind-F.Field e x) t tys (out_field e x) q in
        n v.place v.content (subst (λ m. Has k m x v.place v.content) (sym (same_fields s e u ms p sc v.tree v.members v.typed)) v.has)
    no_type s _ _ _ (breaks.in_replaced {l = l} {rule = rule} {line = line} {e = e} vs p) sc t tys q =
        let v : IsReplace k f denotes s e vs tys = view k f denotes s l (tree.Replace e vs) (ExprKind-F.Replace e vs) t tys (out_replace e vs) q in
        no_one s e rule line p sc v.tree (ty.Rec v.members) v.typed
    no_type s _ _ _ (breaks.in_replacement {l = l} {rule = rule} {line = line} {v = w} e vs c p) sc t tys q =
        let v : IsReplace k f denotes s e vs tys = view k f denotes s l (tree.Replace e vs) (ExprKind-F.Replace e vs) t tys (out_replace e vs) q in
        let y = change_at k f denotes s v.members vs v.places v.exprs w v.replaces c in
        no_one s w.value rule line p sc y.tree y.type y.typed
    no_type s _ _ _ (breaks.replaced_no_record {l = l} {a = a} {e = e} {t = u} vs p n) sc t tys q =
        let v : IsReplace k f denotes s e vs tys = view k f denotes s l (tree.Replace e vs) (ExprKind-F.Replace e vs) t tys (out_replace e vs) q in
        n v.members (same_one s e u a p sc v.tree (ty.Rec v.members) v.typed)
    no_type s _ _ _ (breaks.replaced_by_another {l = l} {a = a} ms {v = w} {e = e} {t = u} {u = z} vs p c r n) sc t tys q =
        let v : IsReplace k f denotes s e vs tys = view k f denotes s l (tree.Replace e vs) (ExprKind-F.Replace e vs) t tys (out_replace e vs) q in
        let y = change_at k f denotes s v.members vs v.places v.exprs w v.replaces c in
        let type : a ≡ y.type = same_one s w.value z a r sc y.tree y.type y.typed in
        n y.place (subst (λ b. Has k ms w.field.name y.place b) (sym type) (subst (λ m. Has k m w.field.name y.place y.type) (sym (same_fields s e u ms p sc v.tree v.members v.typed)) y.has))
    no_type s _ _ _ (breaks.replaced_twice {l = l} {e = e} vs p d) sc t tys q =
        let v : IsReplace k f denotes s e vs tys = view k f denotes s l (tree.Replace e vs) (ExprKind-F.Replace e vs) t tys (out_replace e vs) q in
        d v.distinct
    no_type s _ _ _ (breaks.array_name {l = l} x els h) sc t tys q =
        let v : IsArrayIf k f denotes s (Some x) els tys = view k f denotes s l (tree.Array (Some x) els) (ExprKind-F.Array (Some x) els) t tys (out_any_array (Some x) els) q in
        let n = array_named s x els tys v in
        none-some n.0 (sym h ∙ n.1)
    no_type s _ _ _ (breaks.empty_array {l = l}) sc t tys q =
        let v : IsEmptyArray k None tys = view k f denotes s l (tree.Array None None) (ExprKind-F.Array None None) t tys (out_empty_array None) q in
        none-some v.name v.is_name
    no_type s _ _ _ (breaks.empty_no_array {l = l} x a h n) sc t tys q =
        let v : IsEmptyArray k (Some x) tys = view k f denotes s l (tree.Array (Some x) None) (ExprKind-F.Array (Some x) None) t tys (out_empty_array (Some x)) q in
        n v.element (same_named x v.name a (ty.Arr v.element) v.is_name h v.named)
    no_type s _ _ _ (breaks.in_lower {l = l} {rule = rule} {line = line} x low es p) sc t tys q =
        let v : IsArray k f denotes s x low es tys = view_array k f denotes s l x low es t tys q in
        no_one s low rule line p sc v.bound ty.Int v.lower
    no_type s _ _ _ (breaks.in_elements {l = l} {rule = rule} {line = line} x low es p) sc t tys q =
        let v : IsArray k f denotes s x low es tys = view_array k f denotes s l x low es t tys q in
        none_in s es rule line p sc v.exprs (v.element ∷ v.others) v.typed
    no_type s _ _ _ (breaks.lower {l = l} {a = a} x low {t = u} es p n) sc t tys q =
        let v : IsArray k f denotes s x low es tys = view_array k f denotes s l x low es t tys q in
        n (same_one s low u a p sc v.bound ty.Int v.lower)
    no_type s _ _ _ (breaks.elements {l = l} {a = a} b {tys = us} x low es {ts = ts} p c n) sc t tys q =
        let v : IsArray k f denotes s x low es tys = view_array k f denotes s l x low es t tys q in
        n (another a v.element b us v.others (same_all s es ts (a ∷ us) p sc v.exprs (v.element ∷ v.others) v.typed) v.same c)
    no_type s _ _ _ (breaks.another_array {l = l} x {a = a} b {tys = us} low es {ts = ts} p h n) sc t tys q =
        let v : IsArray k f denotes s (Some x) low es tys = view_array k f denotes s l (Some x) low es t tys q in
        n (same_Some b (ty.Arr v.element) (sym h ∙ v.named) ∙ ap ty.Arr (sym (same_first a v.element us v.others (same_all s es ts (a ∷ us) p sc v.exprs (v.element ∷ v.others) v.typed))))
    no_type s _ _ _ (breaks.deep_array {l = l} {a = a} {tys = us} x low es {ts = ts} p d) sc t tys q =
        let v : IsArray k f denotes s x low es tys = view_array k f denotes s l x low es t tys q in
        d (subst (λ z. IsShallow (ty.Arr z)) (sym (same_first a v.element us v.others (same_all s es ts (a ∷ us) p sc v.exprs (v.element ∷ v.others) v.typed))) v.shallow)
    no_type s _ _ _ (breaks.stream_name {l = l} x es h) sc t tys q =
        let v : IsStreamIf k f denotes s (Some x) es tys = view k f denotes s l (tree.Stream (Some x) es) (ExprKind-F.Stream (Some x) es) t tys (out_stream (Some x) es) q in
        elim v [ inl c ↦ none-some (ty.Stream c.element) (sym h ∙ ap (λ y. newest y k.types) (same_Some x c.name c.is_name) ∙ c.named) | inr c ↦ none-some (ty.Stream c.element) (sym h ∙ c.named) ]
    no_type s _ _ _ (breaks.empty_stream {l = l}) sc t tys q =
        let v : IsStreamIf k f denotes s None [] tys = view k f denotes s l (tree.Stream None []) (ExprKind-F.Stream None []) t tys (out_stream None []) q in
        elim v [ inl c ↦ none-some c.name c.is_name | inr c ↦ no_value (at_table k f) denotes s [] c.exprs c.element c.others c.typed refl ]
    no_type s _ _ _ (breaks.empty_no_stream {l = l} x a h n) sc t tys q =
        let v : IsStreamIf k f denotes s (Some x) [] tys = view k f denotes s l (tree.Stream (Some x) []) (ExprKind-F.Stream (Some x) []) t tys (out_stream (Some x) []) q in
        elim v [ inl c ↦ n c.element (same_named x c.name a (ty.Stream c.element) c.is_name h c.named) | inr c ↦ no_value (at_table k f) denotes s [] c.exprs c.element c.others c.typed refl ]
    no_type s _ _ _ (breaks.in_stream {l = l} {rule = rule} {line = line} x {es = es} p) sc t tys q =
        let v : IsStreamIf k f denotes s x es tys = view k f denotes s l (tree.Stream x es) (ExprKind-F.Stream x es) t tys (out_stream x es) q in
        elim v [
          | inl c ↦ none_in s es rule line p sc [] [] (subst (λ l. AreTyped (at_table k f) denotes s l [] []) (sym c.is_empty) typing.no_more)
          | inr c ↦ none_in s es rule line p sc c.exprs (c.element ∷ c.others) c.typed
        ]
    no_type s _ _ _ (breaks.stream_elements {l = l} {a = a} b {tys = us} x {es = es} {ts = ts} p h n) sc t tys q =
        let v : IsStreamIf k f denotes s x es tys = view k f denotes s l (tree.Stream x es) (ExprKind-F.Stream x es) t tys (out_stream x es) q in
        elim v [
          | inl c ↦ no_value k denotes s es ts a us p c.is_empty
          | inr c ↦ n (another a c.element b us c.others (same_all s es ts (a ∷ us) p sc c.exprs (c.element ∷ c.others) c.typed) c.same h)
        ]
    no_type s _ _ _ (breaks.another_stream {l = l} x {a = a} b {tys = us} {es = es} {ts = ts} p h n) sc t tys q =
        let v : IsStreamIf k f denotes s (Some x) es tys = view k f denotes s l (tree.Stream (Some x) es) (ExprKind-F.Stream (Some x) es) t tys (out_stream (Some x) es) q in
        elim v [
          | inl c ↦ no_value k denotes s es ts a us p c.is_empty
          | inr c ↦ n (same_Some b (ty.Stream c.element) (sym h ∙ c.named) ∙ ap ty.Stream (sym (same_first a c.element us c.others (same_all s es ts (a ∷ us) p sc c.exprs (c.element ∷ c.others) c.typed))))
        ]
    no_type s _ _ _ (breaks.deep_stream {l = l} {a = a} {tys = us} x {es = es} {ts = ts} p d) sc t tys q =
        let v : IsStreamIf k f denotes s x es tys = view k f denotes s l (tree.Stream x es) (ExprKind-F.Stream x es) t tys (out_stream x es) q in
        elim v [
          | inl c ↦ no_value k denotes s es ts a us p c.is_empty
          | inr c ↦ d (subst (λ z. IsShallow (ty.Stream z)) (sym (same_first a c.element us c.others (same_all s es ts (a ∷ us) p sc c.exprs (c.element ∷ c.others) c.typed))) c.shallow)
        ]
    no_type s _ _ _ (breaks.record_name {l = l} x vs h) sc t tys q =
        let v : IsRecord k f denotes s (Some x) vs tys = view k f denotes s l (tree.Record (Some x) vs) (ExprKind-F.Record (Some x) vs) t tys (out_a_record (Some x) vs) q in
        none-some (ty.Rec v.members) (sym h ∙ v.named)
    no_type s _ _ _ (breaks.in_field {l = l} {rule = rule} {line = line} x {v = w} vs c p) sc t tys q =
        let v : IsRecord k f denotes s x vs tys = view k f denotes s l (tree.Record x vs) (ExprKind-F.Record x vs) t tys (out_a_record x vs) q in
        let y = field_at k f denotes s vs v.exprs v.members w v.typed c in
        no_one s w.value rule line p sc y.tree y.type y.typed
    no_type s _ _ _ (breaks.field_twice {l = l} x vs d) sc t tys q =
        let v : IsRecord k f denotes s x vs tys = view k f denotes s l (tree.Record x vs) (ExprKind-F.Record x vs) t tys (out_a_record x vs) q in
        d v.distinct
    no_type s _ _ _ (breaks.another_record {l = l} x b {ms = ms} {vs = vs} {ts = ts} p h n) sc t tys q =
        let v : IsRecord k f denotes s (Some x) vs tys = view k f denotes s l (tree.Record (Some x) vs) (ExprKind-F.Record (Some x) vs) t tys (out_a_record (Some x) vs) q in
        n (same_Some b (ty.Rec v.members) (sym h ∙ v.named) ∙ ap ty.Rec (sym (fields_one k k.forms f denotes misnames fair s vs ts ms p sc v.exprs v.members v.typed)))
    no_type s _ _ _ (breaks.deep_record {l = l} x {ms = ms} {vs = vs} {ts = ts} p d) sc t tys q =
        let v : IsRecord k f denotes s x vs tys = view k f denotes s l (tree.Record x vs) (ExprKind-F.Record x vs) t tys (out_a_record x vs) q in
        d (subst (λ m. IsShallow (ty.Rec m)) (sym (fields_one k k.forms f denotes misnames fair s vs ts ms p sc v.exprs v.members v.typed)) v.shallow)
    no_type s _ _ _ (breaks.union_name {l = l} x tag e h) sc t tys q =
        let v : IsUnion k f denotes s x tag e tys = view k f denotes s l (tree.Union x tag e) (ExprKind-F.Union x tag e) t tys (out_union x tag e) q in
        none-some (ty.Uni v.members) (sym h ∙ v.named)
    no_type s _ _ _ (breaks.in_content {l = l} {rule = rule} {line = line} x tag {e = e} p) sc t tys q =
        let v : IsUnion k f denotes s x tag e tys = view k f denotes s l (tree.Union x tag e) (ExprKind-F.Union x tag e) t tys (out_union x tag e) q in
        no_one s e rule line p sc v.tree v.content v.typed
    no_type s _ _ _ (breaks.no_union {l = l} x tag a e h n) sc t tys q =
        let v : IsUnion k f denotes s x tag e tys = view k f denotes s l (tree.Union x tag e) (ExprKind-F.Union x tag e) t tys (out_union x tag e) q in
        n v.members (same_Some a (ty.Uni v.members) (sym h ∙ v.named))
    no_type s _ _ _ (breaks.content {l = l} x tag {a = a} ms {e = e} {t = u} h p n) sc t tys q =
        let v : IsUnion k f denotes s x tag e tys = view k f denotes s l (tree.Union x tag e) (ExprKind-F.Union x tag e) t tys (out_union x tag e) q in
        let members : ms ≡ v.members = same_union ms v.members (same_Some (ty.Uni ms) (ty.Uni v.members) (sym h ∙ v.named)) in
        let type : a ≡ v.content = same_one s e u a p sc v.tree v.content v.typed in
        n v.place (subst (λ b. Has k ms tag v.place b) (sym type) (subst (λ m. Has k m tag v.place v.content) (sym members) v.has))
    no_type s _ _ _ (breaks.in_is_tag {l = l} {rule = rule} {line = line} x {e = e} p) sc t tys q =
        let v : IsIsTag k f denotes s x e tys = view k f denotes s l (tree.IsTag x e) (ExprKind-F.IsTag x e) t tys (out_is_tag x e) q in
        no_one s e rule line p sc v.tree (ty.Uni v.members) v.typed
    no_type s _ _ _ (breaks.is_no_union {l = l} x {a = a} {e = e} {t = u} p n) sc t tys q =
        let v : IsIsTag k f denotes s x e tys = view k f denotes s l (tree.IsTag x e) (ExprKind-F.IsTag x e) t tys (out_is_tag x e) q in
        n v.members (same_one s e u a p sc v.tree (ty.Uni v.members) v.typed)
    no_type s _ _ _ (breaks.is_no_tag {l = l} x ms {e = e} {t = u} p n) sc t tys q =
        let v : IsIsTag k f denotes s x e tys = view k f denotes s l (tree.IsTag x e) (ExprKind-F.IsTag x e) t tys (out_is_tag x e) q in
        n v.place v.content (subst (λ m. Has k m x v.place v.content) (sym (same_tags s e u ms p sc v.tree v.members v.typed)) v.has)
    no_type s _ _ _ (breaks.in_definitions {l = l} {rule = rule} {line = line} {ds = ds} es p) sc t tys q =
        let v : IsLet k f denotes s ds es tys = view k f denotes s l (tree.Let ds es) (ExprKind-F.Let ds es) t tys (out_let ds es) q in
        none_defined s ds rule line p sc v.values v.made v.after v.defines v.distinct
    no_type s _ _ _ (breaks.in_results {after = after} {l = l} {rule = rule} {line = line} {ds = ds} {us = us} {made = made} {es = es} p r) sc t tys q =
        let v : IsLet k f denotes s ds es tys = view k f denotes s l (tree.Let ds es) (ExprKind-F.Let ds es) t tys (out_let ds es) q in
        let same = definitions_one k k.forms f denotes misnames fair s ds us made after p sc v.values v.made v.after v.defines in
        none_in after es rule line r (definitions_proper k k.forms denotes misnames fair s ds us made after p sc).1 v.exprs tys (subst (λ z. AreTyped (at_table k f) denotes z es v.exprs tys) (sym same.1) v.typed)
    no_type s _ _ _ (breaks.in_test {l = l} {rule = rule} {line = line} {c = c} es fs p) sc t tys q =
        let v : IsIf k f denotes s c es fs tys = view k f denotes s l (tree.If c es fs) (ExprKind-F.If c es fs) t tys (out_if c es fs) q in
        no_one s c rule line p sc v.test ty.Bool v.typed_test
    no_type s _ _ _ (breaks.in_then {l = l} {rule = rule} {line = line} c {es = es} fs p) sc t tys q =
        let v : IsIf k f denotes s c es fs tys = view k f denotes s l (tree.If c es fs) (ExprKind-F.If c es fs) t tys (out_if c es fs) q in
        none_in s es rule line p sc v.yes tys v.typed_yes
    no_type s _ _ _ (breaks.in_else {l = l} {rule = rule} {line = line} c {fs = fs} es p) sc t tys q =
        let v : IsIf k f denotes s c es fs tys = view k f denotes s l (tree.If c es fs) (ExprKind-F.If c es fs) t tys (out_if c es fs) q in
        none_in s fs rule line p sc v.no_exprs tys v.typed_no
    no_type s _ _ _ (breaks.test {l = l} {a = a} {c = c} {t = u} es fs p n) sc t tys q =
        let v : IsIf k f denotes s c es fs tys = view k f denotes s l (tree.If c es fs) (ExprKind-F.If c es fs) t tys (out_if c es fs) q in
        n (same_one s c u a p sc v.test ty.Bool v.typed_test)
    no_type s _ _ _ (breaks.branches {l = l} c {es = es} {fs = fs} {ts = ts} {us = us} {tys = xs} {others = ys} p r n) sc t tys q =
        let v : IsIf k f denotes s c es fs tys = view k f denotes s l (tree.If c es fs) (ExprKind-F.If c es fs) t tys (out_if c es fs) q in
        n (same_all s es ts xs p sc v.yes tys v.typed_yes ∙ sym (same_all s fs us ys r sc v.no_exprs tys v.typed_no))
    no_type s _ _ _ (breaks.in_subject {l = l} {rule = rule} {line = line} x e arms other p) sc t tys q =
        let v : IsTagCase k f denotes s x e arms other tys = view_case k f denotes s l x e arms other t tys q in
        no_one s e rule line p sc v.tree (ty.Uni v.members) v.typed
    no_type s _ _ _ (breaks.case_no_union {l = l} {a = a} x e {t = u} arms other p n) sc t tys q =
        let v : IsTagCase k f denotes s x e arms other tys = view_case k f denotes s l x e arms other t tys q in
        n v.members (same_one s e u a p sc v.tree (ty.Uni v.members) v.typed)
    no_type s _ _ _ (breaks.in_arms {l = l} {rule = rule} {line = line} ms x e {t = u} {arm = arm} arms other p c b) sc t tys q =
        let v : IsTagCase k f denotes s x e arms other tys = view_case k f denotes s l x e arms other t tys q in
        let same : ms ≡ v.members = same_tags s e u ms p sc v.tree v.members v.typed in
        let fit = union_proper ms (the_one (ty.Uni ms) (proper k k.forms denotes misnames fair s e u (ty.Uni ms ∷ []) p sc)) in
        let all : AreArms (at_table k f) denotes s x ms tys arms v.typed_arms v.tags = subst (λ m. AreArms (at_table k f) denotes s x m tys arms v.typed_arms v.tags) (sym same) v.are_arms in
        none_arm s x ms arm rule line b sc fit.1 fit.2 tys (arm_at k f denotes s x ms tys arms v.typed_arms v.tags arm all c)
    no_type s _ _ _ (breaks.tag_twice {l = l} {line = line} ms x e arms other p h) sc t tys q =
        let v : IsTagCase k f denotes s x e arms other tys = view_case k f denotes s l x e arms other t tys q in
        twice_not_distinct (flat_map (λ arm. (out-Arm arm).tags) arms) line h
        (subst AreDistinct (ap (λ l. flat_map (λ names. names) l) (tags_are k f denotes s x v.members tys arms v.typed_arms v.tags v.are_arms) ∙ flat_tags arms) v.distinct)
    no_type s _ _ _ (breaks.no_arm {l = l} ms x e {t = u} arms other p n) sc t tys q =
        let v : IsTagCase k f denotes s x e arms other tys = view_case k f denotes s l x e arms other t tys q in
        let same : ms ≡ v.members = same_tags s e u ms p sc v.tree v.members v.typed in
        n (subst (λ m. AreAllNamed k (map (λ arm. names_of (out-Arm arm).tags) arms) m other) (sym same)
        (subst (λ l. AreAllNamed k l v.members other) (tags_are k f denotes s x v.members tys arms v.typed_arms v.tags v.are_arms) v.all_named))
    no_type s _ _ _ (breaks.arms_differ {l = l} {tys = us} {others = ws} ms x e {t = u} {arm = arm} {brm = brm} arms other p c h d r n) sc t tys q =
        let v : IsTagCase k f denotes s x e arms other tys = view_case k f denotes s l x e arms other t tys q in
        let same : ms ≡ v.members = same_tags s e u ms p sc v.tree v.members v.typed in
        let fit = union_proper ms (the_one (ty.Uni ms) (proper k k.forms denotes misnames fair s e u (ty.Uni ms ∷ []) p sc)) in
        let all : AreArms (at_table k f) denotes s x ms tys arms v.typed_arms v.tags = subst (λ m. AreArms (at_table k f) denotes s x m tys arms v.typed_arms v.tags) (sym same) v.are_arms in
        n (results_one s x ms arm us h fit.1 fit.2 sc tys (arm_at k f denotes s x ms tys arms v.typed_arms v.tags arm all c)
        ∙ sym (results_one s x ms brm ws r fit.1 fit.2 sc tys (arm_at k f denotes s x ms tys arms v.typed_arms v.tags brm all d)))
    no_type s _ _ _ (breaks.otherwise_differs {l = l} {tys = us} {others = ws} ms x e {t = u} {arm = arm} arms es {ts = ts} p c h r n) sc t tys q =
        let v : IsTagCase k f denotes s x e arms (Some es) tys = view_case k f denotes s l x e arms (Some es) t tys q in
        let same : ms ≡ v.members = same_tags s e u ms p sc v.tree v.members v.typed in
        let fit = union_proper ms (the_one (ty.Uni ms) (proper k k.forms denotes misnames fair s e u (ty.Uni ms ∷ []) p sc)) in
        let all : AreArms (at_table k f) denotes s x ms tys arms v.typed_arms v.tags = subst (λ m. AreArms (at_table k f) denotes s x m tys arms v.typed_arms v.tags) (sym same) v.are_arms in
        let last = other_in k f denotes s tys (Some es) v.last v.otherwise in
        n (results_one s x ms arm us h fit.1 fit.2 sc tys (arm_at k f denotes s x ms tys arms v.typed_arms v.tags arm all c) ∙ sym (same_all s es ts ws r sc last.0 tys last.1))
    no_type s _ _ _ (breaks.in_otherwise {l = l} {rule = rule} {line = line} x e arms es p) sc t tys q =
        let v : IsTagCase k f denotes s x e arms (Some es) tys = view_case k f denotes s l x e arms (Some es) t tys q in
        let last = other_in k f denotes s tys (Some es) v.last v.otherwise in
        none_in s es rule line p sc last.0 tys last.1
    no_type s _ _ _ (breaks.in_groups {l = l} {rule = rule} {line = line} {gs = gs} {ds = ds} {cs = cs} p) sc t tys q =
        let v : IsProduct k f denotes s l gs ds cs tys = view_product k f denotes s l gs ds cs t tys q in
        none_crossed (length gs) l s gs ds cs rule line p sc l 0 (state_begin s l gs ds cs v.tree tys v.crosses)
    no_type s _ _ _ (breaks.in_initial {l = l} {rule = rule} {line = line} ds es cs is_first is_until e p) sc t tys q =
        let v : IsInitial k f denotes s ds e es cs tys = view_initial k f denotes s l ds is_first is_until e es cs t tys q in
        none_defined s ds rule line p sc v.values v.first v.started v.defines v.distinct
    no_type s _ _ _ (breaks.in_loop_test {started = started} {l = l} {rule = rule} {line = line} ds es {us = us} {first = first} cs is_first is_until e p b) sc t tys q =
        let v : IsInitial k f denotes s ds e es cs tys = view_initial k f denotes s l ds is_first is_until e es cs t tys q in
        let same = definitions_one k k.forms f denotes misnames fair s ds us first started p sc v.values v.first v.started v.defines in
        let good = definitions_proper k k.forms denotes misnames fair s ds us first started p sc in
        let test = subst (λ z. Types (at_table k f) denotes z e v.tree (ty.Bool ∷ [])) (sym same.1) v.typed_test in
        no_one started e rule line b good.1 v.tree ty.Bool test
    no_type s _ _ _ (breaks.loop_test {started = started} {l = l} {a = a} ds es {us = us} {first = first} cs is_first is_until e {t = u} p r n) sc t tys q =
        let v : IsInitial k f denotes s ds e es cs tys = view_initial k f denotes s l ds is_first is_until e es cs t tys q in
        let same = definitions_one k k.forms f denotes misnames fair s ds us first started p sc v.values v.first v.started v.defines in
        let good = definitions_proper k k.forms denotes misnames fair s ds us first started p sc in
        let test = subst (λ z. Types (at_table k f) denotes z e v.tree (ty.Bool ∷ [])) (sym same.1) v.typed_test in
        n (same_one started e u a r good.1 v.tree ty.Bool test)
    no_type s _ _ _ (breaks.in_turn_of {started = started} {l = l} {rule = rule} {line = line} ds es {us = us} {first = first} cs is_first is_until e p b) sc t tys q =
        let v : IsInitial k f denotes s ds e es cs tys = view_initial k f denotes s l ds is_first is_until e es cs t tys q in
        let same = definitions_one k k.forms f denotes misnames fair s ds us first started p sc v.values v.first v.started v.defines in
        let good = definitions_proper k k.forms denotes misnames fair s ds us first started p sc in
        let turns = same_turn s ds es first v.first started v.started v.renewed v.later v.turned same.0 same.1 v.turns in
        none_defined (in_turn (loop_of s ds first) (targets es) started) es rule line b (turn_proper s started ds first (targets es) good.0 good.1) v.renewed v.later v.turned turns v.distinct_turn
    no_type s _ _ _ (breaks.retyped {started = started} {turned = turned} {l = l} {a = a} {x = x} ds before xs after {us = us} {vs = vs} {first = first} {earlier = earlier} {tys = made} es {ts = ts} cs is_first is_until e p r w pair h) sc t tys q =
        let all : List Def = before ++ roll-Def (record { targets = xs; values = es }) ∷ after in
        let v : IsInitial k f denotes s ds e all cs tys = view_initial k f denotes s l ds is_first is_until e all cs t tys q in
        let same = definitions_one k k.forms f denotes misnames fair s ds us first started p sc v.values v.first v.started v.defines in
        let good = definitions_proper k k.forms denotes misnames fair s ds us first started p sc in
        let inside : Scope = in_turn (loop_of s ds first) (targets all) started in
        let fine = turn_proper s started ds first (targets all) good.0 good.1 in
        let turns = same_turn s ds all first v.first started v.started v.renewed v.later v.turned same.0 same.1 v.turns in
        let parts : IsSplit k f denotes inside before (roll-Def (record { targets = xs; values = es }) ∷ after) v.later v.turned = split k f denotes inside before (roll-Def (record { targets = xs; values = es }) ∷ after) v.renewed v.later v.turned turns in
        let start = definitions_one k k.forms f denotes misnames fair inside before vs earlier turned r fine parts.values parts.made parts.middle parts.first in
        let here = view_definitions k f denotes parts.middle xs es after parts.trees parts.others v.turned parts.second in
        let made_same : made ≡ here.made = same_all turned es ts made w (definitions_proper k k.forms denotes misnames fair inside before vs earlier turned r fine).1 here.exprs here.made
        (subst (λ z. AreTyped (at_table k f) denotes z es here.exprs here.made) (sym start.1) here.typed) in
        let keeps : KeepTypes (loop_of s ds first) (targets all) v.later = subst (λ z. KeepTypes (loop_of s ds z) (targets all) v.later) (sym same.0) v.keeps in
        kept k f denotes (loop_of s ds first) inside before xs es after parts.values parts.made here.made here.others v.later parts.middle x a parts.first
        (parts.types ∙ ap (λ l. parts.made ++ l) here.types) keeps (subst (λ l. IsPair xs l x a) made_same pair) h
    no_type s _ _ _ (breaks.in_loop_clauses {started = started} {l = l} {rule = rule} {line = line} ds es {us = us} {first = first} cs c is_first is_until e p d b) sc t tys q =
        let v : IsInitial k f denotes s ds e es cs tys = view_initial k f denotes s l ds is_first is_until e es cs t tys q in
        let same = definitions_one k k.forms f denotes misnames fair s ds us first started p sc v.values v.first v.started v.defines in
        let good = definitions_proper k k.forms denotes misnames fair s ds us first started p sc in
        let results = subst (λ z. AreClauses (at_table k f) denotes z cs v.clauses v.exprs tys) (sym same.1) v.results in
        none_clause started 1 l c rule line b good.1 (clause_at k f denotes started 0 cs v.clauses v.exprs tys c results (ends_begin k f denotes started cs v.clauses v.exprs tys results) d)

    -- where one value is wanted
    pub no_one : (s : Scope) (e : Expr) (rule line : ℕ) → BreaksOne k denotes misnames s e rule line → IsProperScope s → (t : TypedExpr) (a : Ty) → Types (at_table k f) denotes s e t (a ∷ []) → ⊥
    no_one s _ _ _ (breaks.inside {rule = rule} {line = line} {e = e} p) sc t a q = no_type s e rule line p sc t (a ∷ []) q
    no_one s _ _ _ (breaks.not_one {e = e} {t = u} {tys = tys} p n) sc t a q = n a (one_type k k.forms f denotes misnames fair s e u tys p sc t (a ∷ []) q)

    pub none_in : (s : Scope) (es : List Expr) (rule line : ℕ) → BreaksIn k denotes misnames s es rule line → IsProperScope s → (ts : List TypedExpr) (tys : List Ty) → AreTyped (at_table k f) denotes s es ts tys → ⊥
    none_in s _ _ _ (breaks.one_of {rule = rule} {line = line} {e = e} {es = es} c p) sc ts tys q =
        let v = expr_at k f denotes s es ts tys e q c in
        no_type s e rule line p sc v.0 v.1 v.2

    pub none_defined : (s : Scope) (ds : List Def) (rule line : ℕ) → BreaksDefs k denotes misnames s ds rule line → IsProperScope s
        → (us : List (List TypedExpr)) (tys : List Ty) (after : Scope) → Defines (at_table k f) denotes s ds us tys after → AreDistinct (targets ds) → ⊥
    none_defined s _ _ _ (breaks.defined_twice {line = line} {ds = ds} h) sc us tys after q d = twice_not_distinct (named_in (targets_in ds)) line h (subst AreDistinct (sym (names_of_targets ds)) d)
    none_defined s _ _ _ (breaks.in_values {rule = rule} {line = line} xs es {ds = ds} p) sc us tys after q d =
        let v = view_definitions k f denotes s xs es ds us tys after q in
        none_in s es rule line p sc v.exprs v.made v.typed
    none_defined s _ _ _ (breaks.number_of_values xs es {ts = ts} {tys = made} {ds = ds} p n) sc us tys after q d =
        let v = view_definitions k f denotes s xs es ds us tys after q in
        n (ap length (same_all s es ts made p sc v.exprs v.made v.typed) ∙ as_many_targets denotes xs v.made v.declared)
    none_defined s _ _ _ (breaks.in_declared {rule = rule} {line = line} x w xs es {ds = ds} c e h) sc us tys after q d =
        let v = view_definitions k f denotes s xs es ds us tys after q in
        let a = declared_in denotes xs v.made x w v.declared c e in
        fair.none w rule line a.0 h a.1
    none_defined s _ _ _ (breaks.declared {a = a} {x = x} xs es {ts = ts} {tys = made} {ds = ds} p pair h) sc us tys after q d =
        let v = view_definitions k f denotes s xs es ds us tys after q in
        let targeted : AreTargets denotes xs made = subst (λ l. AreTargets denotes xs l) (sym (same_all s es ts made p sc v.exprs v.made v.typed)) v.declared in
        h.4 (fair.one h.0 a h.1 (declared_at denotes xs made x a h.0 targeted pair h.2) h.3)
    none_defined s _ _ _ (breaks.after_one {rule = rule} {line = line} xs es {ts = ts} {tys = made} {ds = ds} p h r) sc us tys after q d =
        let v = view_definitions k f denotes s xs es ds us tys after q in
        let same : made ≡ v.made = same_all s es ts made p sc v.exprs v.made v.typed in
        none_defined (define_all (names_in xs) made s) ds rule line r (defined_proper (names_in xs) made s (all_proper k k.forms denotes misnames fair s es ts made p sc) sc) v.rest v.others after
        (subst (λ m. Defines (at_table k f) denotes (define_all (names_in xs) m s) ds v.rest v.others after) (sym same) v.later) (targets_after xs es ds d)

    none_crossed : (n from : ℕ) (s : Scope) (gs : List (List Generator)) (ds : List Def) (cs : List Clause) (rule line : ℕ) → BreaksGroups k denotes misnames n from s gs ds cs rule line → IsProperScope s
        → (l m : ℕ) → State n m s l gs ds cs → ⊥
    none_crossed n from s _ ds cs _ _ (breaks.here {rule = rule} {line = line} {g = g} {group = group} {gs = gs} c p) sc l m st =
        let v : IsCrossed k f denotes s l group gs ds cs st.1.0 = crossed_of k f denotes s l (group ∷ gs) ds cs st.1.1 st.1.0 st.1.2 in
        none_generator s g rule line p sc (generator_at k f denotes s group v.sources v.bounds v.names v.made g v.generates c)
    none_crossed n from s _ ds cs _ _ (breaks.named_twice {line = line} {group = group} {gs = gs} h) sc l m st =
        let v : IsCrossed k f denotes s l group gs ds cs st.1.0 = crossed_of k f denotes s l (group ∷ gs) ds cs st.1.1 st.1.0 st.1.2 in
        twice_not_distinct (generators_in group) line h (subst AreDistinct (names_generated k f denotes s group v.sources v.bounds v.names v.made v.generates) v.distinct)
    none_crossed n from s _ ds cs _ _ (breaks.after_group {rule = rule} {line = line} {names = names} {tys = made} {group = group} {sources = sources} {bounds = bounds} {gs = gs} p d r) sc l m st =
        let v : IsCrossed k f denotes s l group gs ds cs st.1.0 = crossed_of k f denotes s l (group ∷ gs) ds cs st.1.1 st.1.0 st.1.2 in
        let same = generated_one k k.forms f denotes misnames fair s group sources bounds names made p sc v.sources v.bounds v.names v.made v.generates in
        let inside : IsInside k f denotes (define_all names made s) l gs ds cs st.1.0 =
        subst (λ z. IsInside k f denotes (define_all names z s) l gs ds cs st.1.0) (sym same.1) (subst (λ x. IsInside k f denotes (define_all x v.made s) l gs ds cs st.1.0) (sym same.0) v.inside) in
        let next = state_next n m (define_all names made s) l group gs ds cs st.1.0 st.0 inside st.1.3 in
        none_crossed n from (define_all names made s) gs ds cs rule line r (defined_proper names made s (generated_proper k k.forms denotes misnames fair s group sources bounds names made p sc) sc) l next.0 next.1
    none_crossed n from s _ ds cs _ _ (breaks.in_body {rule = rule} {line = line} p) sc l m st =
        let v = st.1.1 in
        none_defined s ds rule line p sc v.values v.made v.inside v.defines v.distinct
    none_crossed n from s _ ds _ _ _ (breaks.in_clauses {inside = inside} {rule = rule} {line = line} {us = us} {made = made} cs {c = c} p d b) sc l m st =
        let v = st.1.1 in
        let same = definitions_one k k.forms f denotes misnames fair s ds us made inside p sc v.values v.made v.inside v.defines in
        let results = subst (λ z. AreClauses (at_table k f) denotes z cs v.clauses v.exprs st.1.0) (sym same.1) v.results in
        let here = clause_at k f denotes inside m cs v.clauses v.exprs st.1.0 c results st.1.2 d in
        none_clause inside n from c rule line b (definitions_proper k k.forms denotes misnames fair s ds us made inside p sc).1
        (subst (λ i. IsClauseAt k f denotes inside i (out-Clause c).kind (out-Clause c).value (out-Clause c).mask) (sym st.0) here)

    none_generator : (s : Scope) (g : Generator) (rule line : ℕ) → BreaksGenerator k denotes misnames s g rule line → IsProperScope s
        → IsGeneratorAt k f denotes s (out-Generator g).name (out-Generator g).from (out-Generator g).to (out-Generator g).at → ⊥
    none_generator s _ _ _ (breaks.in_from {rule = rule} {line = line} n e to i p) sc g =
        let v : IsGeneratorAt k f denotes s n e to i = subst (λ r. IsGeneratorAt k f denotes s r.name r.from r.to r.at) (out_generator n e to i) g in
        let w = from_of k f denotes s n e to i v.rest v.names v.types v.is in
        no_one s e rule line p sc w.tree w.type w.typed
    none_generator s _ _ _ (breaks.in_to {rule = rule} {line = line} n e h i p) sc g =
        let v : IsGeneratorAt k f denotes s n e (Some h) i = subst (λ r. IsGeneratorAt k f denotes s r.name r.from r.to r.at) (out_generator n e (Some h) i) g in
        let w = range_of k f denotes s n e h i v.rest v.names v.types v.is in
        no_one s h rule line p sc w.to ty.Int w.typed_to
    none_generator s _ _ _ (breaks.bounds {a = a} {b = b} n e h {t = t} {u = u} i p r d) sc g =
        let v : IsGeneratorAt k f denotes s n e (Some h) i = subst (λ r. IsGeneratorAt k f denotes s r.name r.from r.to r.at) (out_generator n e (Some h) i) g in
        let w = range_of k f denotes s n e h i v.rest v.names v.types v.is in
        elim d [ inl m ↦ m (same_one s e t a p sc w.from ty.Int w.typed_from) | inr m ↦ m (same_one s h u b r sc w.to ty.Int w.typed_to) ]
    none_generator s _ _ _ (breaks.at_range i n e h) sc g =
        let v : IsGeneratorAt k f denotes s n e (Some h) (Some i) = subst (λ r. IsGeneratorAt k f denotes s r.name r.from r.to r.at) (out_generator n e (Some h) (Some i)) g in
        v.is
    none_generator s _ _ _ (breaks.no_sequence {a = a} n e {t = t} i p m) sc g =
        let v : IsGeneratorAt k f denotes s n e None i = subst (λ r. IsGeneratorAt k f denotes s r.name r.from r.to r.at) (out_generator n e None i) g in
        let w : IsElements k f denotes s n e i v.rest v.names v.types = v.is in
        m w.element (subst (λ z. IsSequence z w.element) (sym (same_one s e t a p sc w.tree w.whole w.typed)) w.sequence)

    none_clause : (s : Scope) (n from : ℕ) (c : Clause) (rule line : ℕ) → BreaksClause k denotes misnames s n from c rule line → IsProperScope s
        → IsClauseAt k f denotes s n (out-Clause c).kind (out-Clause c).value (out-Clause c).mask → ⊥
    none_clause s _ _ _ _ _ (breaks.in_clause n from l rule line kind e m p) sc c =
        let v : IsClauseAt k f denotes s n kind e m = subst (λ r. IsClauseAt k f denotes s n r.kind r.value r.mask) (out_clause l kind e m) c in
        no_one s e rule line p sc v.tree v.value v.typed
    none_clause s _ _ _ _ _ (breaks.in_mask n from l rule line kind e m p) sc c =
        let v : IsClauseAt k f denotes s n kind e (Some m) = subst (λ r. IsClauseAt k f denotes s n r.kind r.value r.mask) (out_clause l kind e (Some m)) c in
        let w : IsTested k f denotes s m = v.mask in
        no_one s m.test rule line p sc w.tree ty.Bool w.typed
    none_clause s _ _ _ _ _ (breaks.mask n from l {a = a} kind e m {t = t} p d) sc c =
        let v : IsClauseAt k f denotes s n kind e (Some m) = subst (λ r. IsClauseAt k f denotes s n r.kind r.value r.mask) (out_clause l kind e (Some m)) c in
        let w : IsTested k f denotes s m = v.mask in
        d (same_one s m.test t a p sc w.tree ty.Bool w.typed)
    none_clause s _ _ _ _ _ (breaks.reduction n from l {a = a} kind e {t = t} m p d) sc c =
        let v : IsClauseAt k f denotes s n kind e m = subst (λ r. IsClauseAt k f denotes s n r.kind r.value r.mask) (out_clause l kind e m) c in
        d v.made (subst (λ z. MakesThrough kind n z v.made) (sym (same_one s e t a p sc v.tree v.value v.typed)) v.through)
    none_clause s _ _ _ _ _ (breaks.deep_clause n from l {a = a} {b = b} kind e {t = t} m p h d) sc c =
        let v : IsClauseAt k f denotes s n kind e m = subst (λ r. IsClauseAt k f denotes s n r.kind r.value r.mask) (out_clause l kind e m) c in
        let made = subst (λ z. MakesThrough kind n z v.made) (sym (same_one s e t a p sc v.tree v.value v.typed)) v.through in
        d (subst IsShallow (sym (one_made_through kind n a b v.made h made)) v.shallow)

    none_arm : (s : Scope) (x : Option ℕ) (ms : List Member) (arm : Arm) (rule line : ℕ) → BreaksArm k denotes misnames s x ms arm rule line → IsProperScope s → AreOnce ms → AreProper ms
        → (tys : List Ty) → IsArmAt k f denotes s x ms tys (out-Arm arm).tags (out-Arm arm).results → ⊥
    none_arm s x ms _ _ _ (breaks.no_tag l {n = n} tags es c d) sc once m tys arm =
        let v : IsArmAt k f denotes s x ms tys tags es = subst (λ r. IsArmAt k f denotes s x ms tys r.tags r.results) (out_arm l tags es) arm in
        let tag = All-contains (λ tag. IsTag k ms tag v.content) (names_of tags) n.name v.contents (named_in_list tags n c) in
        d tag.0 v.content tag.1
    none_arm s x ms _ _ _ (breaks.contents l a b n o tags es c p d q r) sc once m tys arm =
        let v : IsArmAt k f denotes s x ms tys tags es = subst (λ r. IsArmAt k f denotes s x ms tys r.tags r.results) (out_arm l tags es) arm in
        let first = All-contains (λ tag. IsTag k ms tag v.content) (names_of tags) n.name v.contents (named_in_list tags n c) in
        let second = All-contains (λ tag. IsTag k ms tag v.content) (names_of tags) o.name v.contents (named_in_list tags o d) in
        r ((one_place k ms n.name p.0 first.0 a v.content once p.1 first.1).1 ∙ sym (one_place k ms o.name q.0 second.0 b v.content once q.1 second.1).1)
    none_arm s x ms _ _ _ (breaks.in_arm l rule line content tags es h p) sc once m tys arm =
        let v : IsArmAt k f denotes s x ms tys tags es = subst (λ r. IsArmAt k f denotes s x ms tys r.tags r.results) (out_arm l tags es) arm in
        let some = no_names_of tags v.tagged in
        let same : content ≡ v.content = one_content k ms content v.content (names_of tags) once some h v.contents in
        let tag = first_tag k ms content (names_of tags) some h in
        none_in (with_content x content s) es rule line p (content_defined x content s (content_proper k ms tag.0 tag.1.0 content m tag.1.1) sc) v.exprs tys
        (subst (λ c. AreTyped (at_table k f) denotes (with_content x c s) es v.exprs tys) (sym same) v.typed)
