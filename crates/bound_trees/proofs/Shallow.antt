-- Typed trees nest no deeper than the expressions that they are of.
use Rattle.std.proofs.Common.{◌≡◌, ℕ, ◌+◌, ◌≤◌, max, List, [], ◌∷◌, ◌++◌, map, Option, Some, None, option_map, length, sym, ap, ◌∙◌, arith}
use Rattle.flow_value.specs.declared.ty.Ty.{Ty}
use Rattle.flow_value.specs.declared.ty.Ty.TheVariants as ty
use Rattle.sisal_tree.specs.declared.unit.Written.{Written}
use Rattle.sisal_tree.specs.declared.expr.Constant.{Constant}
use Rattle.sisal_tree.specs.declared.expr.Expr.{Expr}
use Rattle.sisal_tree.specs.declared.expr.FieldValue.{FieldValue}
use Rattle.sisal_tree.specs.declared.expr.Elements.{roll-Elements}
use Rattle.sisal_tree.specs.declared.expr.Def.{Def}
use Rattle.sisal_tree.specs.declared.expr.TagCase.{roll-TagCase}
use Rattle.sisal_tree.specs.declared.expr.Arm.{Arm}
use Rattle.sisal_tree.specs.declared.expr.Loop.TheVariants as loop
use Rattle.sisal_tree.specs.declared.expr.Generator.{Generator}
use Rattle.sisal_tree.specs.declared.expr.Turn.{roll-Turn}
use Rattle.sisal_tree.specs.declared.expr.Clause.{Clause}
use Rattle.sisal_tree.specs.declared.expr.Mask.{Mask}
use Rattle.sisal_tree.specs.Depth.{depth, greatest, if_any, greatest_if_any}
use Rattle.sisal_depth.proofs.Folds.{exprs_depth, values_depth, defs_depth, arms_depth, clauses_depth, generators_depth, groups_depth, mask_depth, of_value, of_mask, of_arm, of_clause, of_def, of_elements, of_generator, of_case, of_turn, in_constant, in_name, in_old, in_group, in_call, in_convert, in_error_of, in_is_error, in_is_tag, in_prefix, in_binary, in_select, in_update, in_field, in_replace, in_array, in_stream, in_record, in_union, in_let, in_if, in_tag_case, in_for, in_product, in_initial}
use Rattle.value_ops.specs.declared.operation.Operation.{Operation}
use Rattle.value_ops.specs.declared.operation.Operation.TheVariants as operation
use Rattle.flow_value.specs.declared.operation.Scalar1.TheVariants as unary
use Rattle.typed_tree.specs.declared.expr.TypedExpr.{TypedExpr}
use Rattle.typed_tree.specs.declared.expr.TypedKind.{TypedKind}
use Rattle.typed_tree.specs.declared.expr.TypedKind.TheVariants as node
use Rattle.typed_tree.specs.declared.expr.TypedKind.TheOpen.{TypedKind-F}
use Rattle.typed_tree.specs.declared.expr.TypedKind.TheFolds.{fold-TypedKind, fold-roll-TypedKind, fold-roll-TypedExpr}
use Rattle.typed_tree.specs.declared.expr.Case.{Case}
use Rattle.typed_tree.specs.declared.expr.Product.{Product}
use Rattle.typed_tree.specs.declared.expr.Turns.{Turns}
use Rattle.typed_tree.specs.declared.expr.Source.{Source}
use Rattle.typed_tree.specs.declared.expr.ClauseForm.{ClauseForm}
use Rattle.typed_tree.specs.Scopes.{Scope, define_all, targets, in_turn, renewals}
use Rattle.typed_tree.specs.Types.{Member, prefix_type}
use Rattle.typed_tree.specs.Operations.{prefix_operation, binary_operation, convert_operation, built_in_operation}
use Rattle.typed_tree.specs.Typing as rule
use Rattle.typed_tree.specs.Typing.{Known, at, with, names_in, loop_of, named_arms, with_content, Types, AreTyped, Replaces, HasFields, Defines, Crosses, Generates, AreClauses, IsMask, AreArms, IsOtherwise}
use Rattle.bound_trees.specs.Depths.{typed_depth, deepest, in_kind}

abbrev kind_depth : TypedKind → ℕ
kind_depth = fold-TypedKind ℕ ℕ in_kind (λ e. e.kind)

-- the greatest depth of these
abbrev pub trees_depth : List TypedExpr → ℕ
trees_depth ts = greatest (map typed_depth ts)

abbrev pub lists_depth : List (List TypedExpr) → ℕ
lists_depth us = deepest (map (λ ts. map typed_depth ts) us)

depth_at : (l : ℕ) (ns : List ℕ) (k : TypedKind) → typed_depth (with l ns k) ≡ kind_depth k
depth_at l ns k = fold-roll-TypedExpr ℕ ℕ in_kind (λ e. e.kind) (record { line = l; types = ns; kind = k })

a_constant : (l : ℕ) (ns : List ℕ) (c : Constant) → typed_depth (with l ns (node.Constant c)) ≡ 1
a_constant l ns c = depth_at l ns (node.Constant c) ∙ (ap kind_depth (sym (node.rolls-Constant c)) ∙ fold-roll-TypedKind ℕ ℕ in_kind (λ e. e.kind) (TypedKind-F.Constant c))

a_value : (l : ℕ) (ns : List ℕ) (level : ℕ) → typed_depth (with l ns (node.Value level)) ≡ 1
a_value l ns level = depth_at l ns (node.Value level) ∙ (ap kind_depth (sym (node.rolls-Value level)) ∙ fold-roll-TypedKind ℕ ℕ in_kind (λ e. e.kind) (TypedKind-F.Value level))

a_group : (l : ℕ) (ns : List ℕ) (ts : List TypedExpr) → typed_depth (with l ns (node.Group ts)) ≡ trees_depth ts + 1
a_group l ns ts = depth_at l ns (node.Group ts) ∙ (ap kind_depth (sym (node.rolls-Group ts)) ∙ fold-roll-TypedKind ℕ ℕ in_kind (λ e. e.kind) (TypedKind-F.Group ts))

a_call : (l : ℕ) (ns : List ℕ) (f : ℕ) (ts : List TypedExpr) → typed_depth (with l ns (node.Call f ts)) ≡ trees_depth ts + 1
a_call l ns f ts = depth_at l ns (node.Call f ts) ∙ (ap kind_depth (sym (node.rolls-Call f ts)) ∙ fold-roll-TypedKind ℕ ℕ in_kind (λ e. e.kind) (TypedKind-F.Call f ts))

a_apply : (l : ℕ) (ns : List ℕ) (op : Operation) (ts : List TypedExpr) → typed_depth (with l ns (node.Apply op ts)) ≡ trees_depth ts + 1
a_apply l ns op ts = depth_at l ns (node.Apply op ts) ∙ (ap kind_depth (sym (node.rolls-Apply op ts)) ∙ fold-roll-TypedKind ℕ ℕ in_kind (λ e. e.kind) (TypedKind-F.Apply op ts))

a_let : (l : ℕ) (ns : List ℕ) (us : List (List TypedExpr)) (ts : List TypedExpr) → typed_depth (with l ns (node.Let us ts)) ≡ max (lists_depth us) (trees_depth ts) + 1
a_let l ns us ts = depth_at l ns (node.Let us ts) ∙ (ap kind_depth (sym (node.rolls-Let us ts)) ∙ fold-roll-TypedKind ℕ ℕ in_kind (λ e. e.kind) (TypedKind-F.Let us ts))

a_if : (l : ℕ) (ns : List ℕ) (ts us vs : List TypedExpr) → typed_depth (with l ns (node.If ts us vs)) ≡ max (trees_depth ts) (max (trees_depth us) (trees_depth vs)) + 1
a_if l ns ts us vs = depth_at l ns (node.If ts us vs) ∙ (ap kind_depth (sym (node.rolls-If ts us vs)) ∙ fold-roll-TypedKind ℕ ℕ in_kind (λ e. e.kind) (TypedKind-F.If ts us vs))

a_case : (l : ℕ) (ns : List ℕ) (c : Case) (ts : List TypedExpr) (arms : List (List TypedExpr)) → typed_depth (with l ns (node.Case c ts arms)) ≡ max (trees_depth ts) (lists_depth arms) + 1
a_case l ns c ts arms = depth_at l ns (node.Case c ts arms) ∙ (ap kind_depth (sym (node.rolls-Case c ts arms)) ∙ fold-roll-TypedKind ℕ ℕ in_kind (λ e. e.kind) (TypedKind-F.Case c ts arms))

a_product : (l : ℕ) (ns : List ℕ) (p : Product) (bounds : List TypedExpr) (us : List (List TypedExpr)) (ts : List TypedExpr) → typed_depth (with l ns (node.Product p bounds us ts)) ≡ max (trees_depth bounds) (max (lists_depth us) (trees_depth ts)) + 1
a_product l ns p bounds us ts = depth_at l ns (node.Product p bounds us ts) ∙ (ap kind_depth (sym (node.rolls-Product p bounds us ts)) ∙ fold-roll-TypedKind ℕ ℕ in_kind (λ e. e.kind) (TypedKind-F.Product p bounds us ts))

a_initial : (l : ℕ) (ns : List ℕ) (t : Turns) (us : List (List TypedExpr)) (test : List TypedExpr) (vs : List (List TypedExpr)) (ts : List TypedExpr) → typed_depth (with l ns (node.Initial t us test vs ts)) ≡ max (lists_depth us) (max (max (trees_depth test) (lists_depth vs)) (trees_depth ts)) + 1
a_initial l ns t us test vs ts = depth_at l ns (node.Initial t us test vs ts) ∙ (ap kind_depth (sym (node.rolls-Initial t us test vs ts)) ∙ fold-roll-TypedKind ℕ ℕ in_kind (λ e. e.kind) (TypedKind-F.Initial t us test vs ts))

trees_append : (ts us : List TypedExpr) → trees_depth (ts ++ us) ≡ max (trees_depth ts) (trees_depth us)
trees_append [] us = omega arith
trees_append (t ∷ ts) us = let rest = trees_append ts us in omega (arith, rest)

lists_append : (ts us : List (List TypedExpr)) → lists_depth (ts ++ us) ≡ max (lists_depth ts) (lists_depth us)
lists_append [] us = omega arith
lists_append (t ∷ ts) us = let rest = lists_append ts us in omega (arith, rest)

module _ (k : Known) (denotes : Written → Ty → Type 0) where
  mutual
    pub shallow : (s : Scope) (e : Expr) (t : TypedExpr) (tys : List Ty) → Types k denotes s e t tys → typed_depth t ≤ depth e
    shallow s _ _ _ (rule.constant {l = l} {c = c} {ns = ns} n) =
        let x = a_constant l ns c in
        let y = in_constant l c in
        omega (arith, x, y)
    shallow s _ _ _ (rule.name {l = l} {x = i} {level = level} {ns = ns} h n) =
        let x = a_value l ns level in
        let y = in_name l i in
        omega (arith, x, y)
    shallow s _ _ _ (rule.old {l = l} {x = i} {level = level} {ns = ns} h n) =
        let x = a_value l ns level in
        let y = in_old l i in
        omega (arith, x, y)
    shallow s _ _ _ (rule.group {l = l} {e = e} {t = t} {tys = tys} {ns = ns} p n) =
        let x = a_group l ns (t ∷ []) in
        let y = in_group l e in
        let r = shallow s e t tys p in
        omega (arith, x, y, r)
    shallow s _ _ _ (rule.call {l = l} {x = i} {n = j} {f = f} {es = es} {ts = ts} {ns = ns} h p n) =
        let x = a_call l ns j ts in
        let y = in_call l i es in
        let r = all_shallow s es ts f.params p in
        omega (arith, x, y, r)
    shallow s _ _ _ (rule.built_in {l = l} {x = i} {b = b} {es = es} {ts = ts} {tys = tys} {ns = ns} h p g d n) =
        let x = a_apply l ns (built_in_operation b) ts in
        let y = in_call l i es in
        let r = all_shallow s es ts tys p in
        omega (arith, x, y, r)
    shallow s _ _ _ (rule.convert {l = l} {a = a} {c = c} {e = e} {t = t} {ns = ns} p h n) =
        let x = a_apply l ns (convert_operation c) (t ∷ []) in
        let y = in_convert l c e in
        let r = shallow s e t (a ∷ []) p in
        omega (arith, x, y, r)
    shallow s _ _ _ (rule.error_of {l = l} {w = w} {ns = ns} h n) =
        let x = a_apply l ns operation.Error [] in
        let y = in_error_of l w in
        omega (arith, x, y)
    shallow s _ _ _ (rule.is_error {l = l} {a = a} {e = e} {t = t} {ns = ns} p n) =
        let x = a_apply l ns (operation.Unary unary.IsError) (t ∷ []) in
        let y = in_is_error l e in
        let r = shallow s e t (a ∷ []) p in
        omega (arith, x, y, r)
    shallow s _ _ _ (rule.is_tag {l = l} {x = i} {place = place} {ms = ms} {e = e} {t = t} {ns = ns} p h n) =
        let x = a_apply l ns (operation.IsTag place) (t ∷ []) in
        let y = in_is_tag l i e in
        let r = shallow s e t (ty.Uni ms ∷ []) p in
        omega (arith, x, y, r)
    shallow s _ _ _ (rule.prefix {l = l} {o = o} {e = e} {t = t} {ns = ns} p n) =
        let x = a_apply l ns (prefix_operation o) (t ∷ []) in
        let y = in_prefix l o e in
        let r = shallow s e t (prefix_type o ∷ []) p in
        omega (arith, x, y, r)
    shallow s _ _ _ (rule.binary {l = l} {a = a} {o = o} {e = e} {f = f} {t = t} {u = u} {ns = ns} p q h n) =
        let x = a_apply l ns (binary_operation o) (t ∷ u ∷ []) in
        let y = in_binary l o e f in
        let r1 = shallow s e t (a ∷ []) p in
        let r2 = shallow s f u (a ∷ []) q in
        omega (arith, x, y, r1, r2)
    shallow s _ _ _ (rule.select {l = l} {a = a} {e = e} {i = i} {t = t} {u = u} {ns = ns} p q n) =
        let x = a_apply l ns operation.Element (t ∷ u ∷ []) in
        let y = in_select l e i in
        let r1 = shallow s e t (ty.Arr a ∷ []) p in
        let r2 = shallow s i u (ty.Int ∷ []) q in
        omega (arith, x, y, r1, r2)
    shallow s _ _ _ (rule.update {l = l} {a = a} {e = e} {i = i} {f = f} {t = t} {u = u} {v = v} {ns = ns} p q r n) =
        let x = a_apply l ns operation.Update (t ∷ u ∷ v ∷ []) in
        let y = in_update l e i f in
        let r1 = shallow s e t (ty.Arr a ∷ []) p in
        let r2 = shallow s i u (ty.Int ∷ []) q in
        let r3 = shallow s f v (a ∷ []) r in
        omega (arith, x, y, r1, r2, r3)
    shallow s _ _ _ (rule.field {l = l} {x = i} {place = place} {ms = ms} {e = e} {t = t} {ns = ns} p h n) =
        let x = a_apply l ns (operation.Field place) (t ∷ []) in
        let y = in_field l e i in
        let r = shallow s e t (ty.Rec ms ∷ []) p in
        omega (arith, x, y, r)
    shallow s _ _ _ (rule.replace {l = l} {ms = ms} {e = e} {t = t} {vs = vs} {places = places} {us = us} {ns = ns} p q d n) =
        let x = a_apply l ns (operation.Change places) (t ∷ us) in
        let y = in_replace l e vs in
        let r1 = shallow s e t (ty.Rec ms ∷ []) p in
        let r2 = replaced_shallow s ms vs places us q in
        omega (arith, x, y, r1, r2)
    shallow s _ _ _ (rule.empty_array {l = l} {x = i} a {ns = ns} h n) =
        let x = a_apply l ns operation.EmptyArray [] in
        let y = in_array l (Some i) None in
        omega (arith, x, y)
    shallow s _ _ _ (rule.array {l = l} {a = a} {tys = tys} {x = i} {low = low} {t = t} {es = es} {ts = ts} {ns = ns} p q same h d n) =
        let x = a_apply l ns operation.Array (t ∷ ts) in
        let y = in_array l i (Some (roll-Elements (record { lower = low; values = es }))) in
        let z = of_elements low es in
        let r1 = shallow s low t (ty.Int ∷ []) p in
        let r2 = all_shallow s es ts (a ∷ tys) q in
        omega (arith, x, y, z, r1, r2)
    shallow s _ _ _ (rule.empty_stream {l = l} {x = i} a {ns = ns} h n) =
        let x = a_apply l ns operation.Stream [] in
        let y = in_stream l (Some i) [] in
        omega (arith, x, y)
    shallow s _ _ _ (rule.stream {l = l} {a = a} {tys = tys} {x = i} {es = es} {ts = ts} {ns = ns} q same h d n) =
        let x = a_apply l ns operation.Stream ts in
        let y = in_stream l i es in
        let r = all_shallow s es ts (a ∷ tys) q in
        omega (arith, x, y, r)
    shallow s _ _ _ (rule.a_record {l = l} {x = i} {ms = ms} {vs = vs} {ts = ts} {ns = ns} p d h deep n) =
        let x = a_apply l ns operation.Record ts in
        let y = in_record l i vs in
        let r = fields_shallow s vs ts ms p in
        omega (arith, x, y, r)
    shallow s _ _ _ (rule.union {l = l} {x = i} {tag = tag} {place = place} {content = content} {e = e} {t = t} {ns = ns} h has p n) =
        let x = a_apply l ns (operation.Union place) (t ∷ []) in
        let y = in_union l i tag e in
        let r = shallow s e t (content ∷ []) p in
        omega (arith, x, y, r)
    shallow s _ _ _ (rule.let_in {after = after} {l = l} {ds = ds} {us = us} {made = made} {tys = tys} {es = es} {ts = ts} {ns = ns} p d q n) =
        let x = a_let l ns us ts in
        let y = in_let l ds es in
        let r1 = definitions_shallow s ds us made after p in
        let r2 = all_shallow after es ts tys q in
        omega (arith, x, y, r1, r2)
    shallow s _ _ _ (rule.if_else {l = l} {c = c} {t = t} {es = es} {fs = fs} {ts = ts} {us = us} {tys = tys} {ns = ns} p q r n) =
        let x = a_if l ns (t ∷ []) ts us in
        let y = in_if l c es fs in
        let r1 = shallow s c t (ty.Bool ∷ []) p in
        let r2 = all_shallow s es ts tys q in
        let r3 = all_shallow s fs us tys r in
        omega (arith, x, y, r1, r2, r3)
    shallow s _ _ _ (rule.tag_case {l = l} {ms = ms} {x = i} {e = e} {t = t} {arms = arms} {typed_arms = us} {last = last} {tags = tags} {choices = choices} {ns = ns} {tys = tys} {other = other} p q d all o c n) =
        let x = a_case l ns (record { named = named_arms i arms; choices = choices; others = length arms }) (t ∷ []) (us ++ last) in
        let y = in_tag_case l (roll-TagCase (record { name = i; subject = e; arms = arms; otherwise = other })) in
        let z = of_case i e arms other in
        let w = lists_append us last in
        let r1 = shallow s e t (ty.Uni ms ∷ []) p in
        let r2 = arms_shallow s i ms tys arms us tags q in
        let r3 = last_shallow s tys other last o in
        omega (arith, x, y, z, w, r1, r2, r3)
    shallow s _ _ _ (rule.for_product {l = l} {tys = tys} {gs = gs} {ds = ds} {cs = cs} {t = t} p) =
        let y = in_for l (loop.Product gs ds cs) in
        let z = in_product gs ds cs in
        let r = crossed_shallow s l gs ds cs t tys p in
        omega (arith, y, z, r)
    shallow s _ _ _ (rule.for_initial {started = started} {turned = turned} {l = l} {first = first} {later = later} {tys = tys} {ns = ns} is_first is_until {test = test} {t = t} {ds = ds} {es = es} {us = us} {vs = vs} {cs = cs} {forms = clauses} {ts = ts} p d q r e keeps c n) =
        let x = a_initial l ns (record { is_first = is_first; is_until = is_until; renewed = renewals (loop_of s ds first) s.height (targets es); clauses = clauses }) us (t ∷ []) vs ts in
        let turn = roll-Turn (record { is_first = is_first; is_until = is_until; test = test; defs = es }) in
        let y = in_for l (loop.Initial ds turn cs) in
        let z = in_initial ds turn cs in
        let w = of_turn is_first is_until test es in
        let r1 = definitions_shallow s ds us first started p in
        let r2 = shallow started test t (ty.Bool ∷ []) q in
        let r3 = definitions_shallow (in_turn (loop_of s ds first) (targets es) started) es vs later turned r in
        let r4 = clauses_shallow started cs clauses ts tys c in
        omega (arith, x, y, z, w, r1, r2, r3, r4)

    pub all_shallow : (s : Scope) (es : List Expr) (ts : List TypedExpr) (tys : List Ty) → AreTyped k denotes s es ts tys → trees_depth ts ≤ exprs_depth es
    all_shallow s _ _ _ rule.no_more = omega arith
    all_shallow s _ _ _ (rule.more {e = e} {t = t} {tys = tys} {others = others} {es = es} {ts = ts} p q) =
        let r1 = shallow s e t tys p in
        let r2 = all_shallow s es ts others q in
        omega (arith, r1, r2)

    replaced_shallow : (s : Scope) (ms : List Member) (vs : List FieldValue) (places : List ℕ) (us : List TypedExpr) → Replaces k denotes s ms vs places us → trees_depth us ≤ values_depth vs
    replaced_shallow s ms _ _ _ rule.no_field = omega arith
    replaced_shallow s ms _ _ _ (rule.a_field {n = n} {a = a} {e = e} {t = t} {vs = vs} {places = places} {us = us} h p q) =
        let y = of_value n e in
        let r1 = shallow s e t (a ∷ []) p in
        let r2 = replaced_shallow s ms vs places us q in
        omega (arith, y, r1, r2)

    fields_shallow : (s : Scope) (vs : List FieldValue) (ts : List TypedExpr) (ms : List Member) → HasFields k denotes s vs ts ms → trees_depth ts ≤ values_depth vs
    fields_shallow s _ _ _ rule.no_member = omega arith
    fields_shallow s _ _ _ (rule.a_member {n = n} {a = a} {e = e} {t = t} {vs = vs} {ts = ts} {ms = ms} h p q) =
        let y = of_value n e in
        let r1 = shallow s e t (a ∷ []) p in
        let r2 = fields_shallow s vs ts ms q in
        omega (arith, y, r1, r2)

    definitions_shallow : (s : Scope) (ds : List Def) (us : List (List TypedExpr)) (tys : List Ty) (after : Scope) → Defines k denotes s ds us tys after → lists_depth us ≤ defs_depth ds
    definitions_shallow s _ _ _ _ rule.no_def = omega arith
    definitions_shallow s _ _ _ after (rule.a_def xs {es = es} {ts = ts} {tys = tys} {others = others} {ds = ds} {us = us} p t q) =
        let y = of_def xs es in
        let r1 = all_shallow s es ts tys p in
        let r2 = definitions_shallow (define_all (names_in xs) tys s) ds us others after q in
        omega (arith, y, r1, r2)

    crossed_shallow : (s : Scope) (l : ℕ) (gs : List (List Generator)) (ds : List Def) (cs : List Clause) (t : TypedExpr) (tys : List Ty) → Crosses k denotes s l gs ds cs t tys
        → typed_depth t ≤ max (groups_depth gs) (max (defs_depth ds) (clauses_depth cs)) + length gs
    crossed_shallow s l _ ds cs _ tys (rule.one_group {inside = inside} {names = names} {ns = ns} {tys = us} {made = made} {g = g} {sources = sources} {bounds = bounds} {us = values} {forms = clauses} {ts = ts} p d q e c n) =
        let x = a_product l ns (record { sources = sources; clauses = clauses }) bounds values ts in
        let r1 = generated_shallow s g sources bounds names us p in
        let r2 = definitions_shallow (define_all names us s) ds values made inside q in
        let r3 = clauses_shallow inside cs clauses ts tys c in
        omega (arith, x, r1, r2, r3)
    crossed_shallow s l _ ds cs _ tys (rule.a_group {names = names} {ns = ns} {tys = us} {inner = inner} {g = g} {gs = gs} {sources = sources} {bounds = bounds} {forms = clauses} {t = t} p d q f n) =
        let x = a_product l ns (record { sources = sources; clauses = clauses }) bounds [] (t ∷ []) in
        let r1 = generated_shallow s g sources bounds names us p in
        let r2 = crossed_shallow (define_all names us s) l gs ds cs t inner q in
        omega (arith, x, r1, r2)

    generated_shallow : (s : Scope) (gs : List Generator) (sources : List Source) (bounds : List TypedExpr) (names : List ℕ) (tys : List Ty) → Generates k denotes s gs sources bounds names tys → trees_depth bounds ≤ generators_depth gs
    generated_shallow s _ _ _ _ _ rule.no_generator = omega arith
    generated_shallow s _ _ _ _ _ (rule.range n {e = e} {f = f} {t = t} {u = u} {names = names} {tys = tys} {gs = gs} {sources = sources} {bounds = bounds} p q r) =
        let y = of_generator n e (Some f) None in
        let r1 = shallow s e t (ty.Int ∷ []) p in
        let r2 = shallow s f u (ty.Int ∷ []) q in
        let r3 = generated_shallow s gs sources bounds names tys r in
        omega (arith, y, r1, r2, r3)
    generated_shallow s _ _ _ _ _ (rule.elements n {a = a} {e = e} {t = t} {names = names} {tys = tys} {gs = gs} {sources = sources} {bounds = bounds} p q r) =
        let y = of_generator n e None None in
        let r1 = shallow s e t (a ∷ []) p in
        let r3 = generated_shallow s gs sources bounds names tys r in
        omega (arith, y, r1, r3)
    generated_shallow s _ _ _ _ _ (rule.indexed n {i = i} {a = a} {e = e} {t = t} {names = names} {tys = tys} {gs = gs} {sources = sources} {bounds = bounds} p q r) =
        let y = of_generator n e None (Some i) in
        let r1 = shallow s e t (a ∷ []) p in
        let r3 = generated_shallow s gs sources bounds names tys r in
        omega (arith, y, r1, r3)

    clauses_shallow : (s : Scope) (cs : List Clause) (clauses : List ClauseForm) (ts : List TypedExpr) (tys : List Ty) → AreClauses k denotes s cs clauses ts tys → trees_depth ts ≤ clauses_depth cs
    clauses_shallow s _ _ _ _ rule.no_clause = omega arith
    clauses_shallow s _ _ _ _ (rule.a_clause l {kind = kind} {a = a} {e = e} {t = t} {m = m} {masks = masks} {cs = cs} {forms = clauses} {ts = ts} {tys = tys} p h d q r) =
        let y = of_clause l kind e m in
        let w = trees_append masks ts in
        let r1 = shallow s e t (a ∷ []) p in
        let r2 = mask_shallow s m masks q in
        let r3 = clauses_shallow s cs clauses ts tys r in
        omega (arith, y, w, r1, r2, r3)

    mask_shallow : (s : Scope) (m : Option Mask) (masks : List TypedExpr) → IsMask k denotes s m masks → trees_depth masks ≤ if_any (option_map mask_depth m)
    mask_shallow s _ _ rule.no_mask = omega arith
    mask_shallow s _ _ (rule.a_mask {is_unless = is_unless} {e = e} {t = t} p) =
        let y = of_mask is_unless e in
        let r1 = shallow s e t (ty.Bool ∷ []) p in
        omega (arith, y, r1)

    arms_shallow : (s : Scope) (x : Option ℕ) (ms : List Member) (tys : List Ty) (arms : List Arm) (us : List (List TypedExpr)) (tags : List (List ℕ)) → AreArms k denotes s x ms tys arms us tags → lists_depth us ≤ arms_depth arms
    arms_shallow s x ms tys _ _ _ rule.no_arm = omega arith
    arms_shallow s x ms tys _ _ _ (rule.an_arm l content names {es = es} {ts = ts} {arms = arms} {typed_arms = us} {tags = tags} o t p q) =
        let y = of_arm l names es in
        let r1 = all_shallow (with_content x content s) es ts tys p in
        let r2 = arms_shallow s x ms tys arms us tags q in
        omega (arith, y, r1, r2)

    last_shallow : (s : Scope) (tys : List Ty) (other : Option (List Expr)) (last : List (List TypedExpr)) → IsOtherwise k denotes s tys other last → lists_depth last ≤ greatest_if_any (option_map (λ es. map depth es) other)
    last_shallow s tys _ _ rule.no_otherwise = omega arith
    last_shallow s tys _ _ (rule.otherwise {es = es} {ts = ts} p) =
        let r1 = all_shallow s es ts tys p in
        omega (arith, r1)
