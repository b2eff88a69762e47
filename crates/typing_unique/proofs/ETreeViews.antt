-- The typed tree of an expression consists of what its form says.
use Rattle.std.proofs.Common.{◌≡◌, inl, inr, ℕ, List, [], ◌∷◌, ◌++◌, length, Bool, Option, Some, None, refl, sym, subst}
use Rattle.flow_value.specs.declared.ty.Ty.{Ty}
use Rattle.flow_value.specs.declared.ty.Ty.TheVariants as ty
use Rattle.sisal_tree.specs.declared.unit.Named.{Named}
use Rattle.sisal_tree.specs.declared.unit.Written.{Written}
use Rattle.sisal_tree.specs.declared.expr.Expr.{Expr}
use Rattle.sisal_tree.specs.declared.expr.ExprKind.{ExprKind}
use Rattle.sisal_tree.specs.declared.expr.ExprKind.TheVariants as tree
use Rattle.sisal_tree.specs.declared.expr.ExprKind.TheOpen.{ExprKind-F, Loop-F}
use Rattle.sisal_tree.specs.declared.expr.ExprKind.TheViews.{out-ExprKind, out-Loop}
use Rattle.sisal_tree.specs.declared.expr.FieldValue.{FieldValue}
use Rattle.sisal_tree.specs.declared.expr.Elements.{Elements, roll-Elements}
use Rattle.sisal_tree.specs.declared.expr.Def.{Def, roll-Def}
use Rattle.sisal_tree.specs.declared.expr.Target.{Target}
use Rattle.sisal_tree.specs.declared.expr.TagCase.{TagCase, roll-TagCase}
use Rattle.sisal_tree.specs.declared.expr.Arm.{Arm, roll-Arm}
use Rattle.sisal_tree.specs.declared.expr.Loop.{Loop}
use Rattle.sisal_tree.specs.declared.expr.Loop.TheVariants as loop
use Rattle.sisal_tree.specs.declared.expr.Generator.{Generator, roll-Generator}
use Rattle.sisal_tree.specs.declared.expr.Turn.{Turn, roll-Turn}
use Rattle.sisal_tree.specs.declared.expr.Clause.{Clause, roll-Clause}
use Rattle.sisal_tree.specs.declared.expr.Mask.{Mask}
use Rattle.sisal_tree.specs.declared.expr.ClauseKind.{ClauseKind}
use Rattle.flow_value.specs.declared.operation.Scalar1.TheVariants as unary
use Rattle.value_ops.specs.declared.operation.Operation.TheVariants as operation
use Rattle.typed_tree.specs.declared.expr.TypedExpr.{TypedExpr}
use Rattle.typed_tree.specs.declared.expr.TypedKind.{TypedKind}
use Rattle.typed_tree.specs.declared.expr.TypedKind.TheVariants as node
use Rattle.typed_tree.specs.declared.expr.Source.{Source}
use Rattle.typed_tree.specs.declared.expr.Source.TheVariants as source
use Rattle.typed_tree.specs.declared.expr.ClauseForm.{ClauseForm}
use Rattle.typed_tree.specs.Scopes.{Scope, define_all, targets, renewals}
use Rattle.typed_tree.specs.Types.{Member, constant_type, scalar_type, prefix_type, binary_type}
use Rattle.typed_tree.specs.Operations.{prefix_operation, binary_operation, convert_operation, built_in_operation, clause_form}
use Rattle.typed_tree.specs.Typing as rule
use Rattle.typed_tree.specs.Typing.{Known, Number, names_of, loop_of, named_arms, at, with, Types, AreTyped, Replaces, HasFields, Defines, Crosses, Generates, AreClauses, IsMask, AreArms, Folds}
use Rattle.typing_unique.specs.InvertedTree.{HasTree, IsArrayTree, IsTagCaseTree, IsInitialTree, IsLoopTree, InvertedTree, TypedTreeIn, FieldsTreeIn, ReplacesTreeIn, IsDefinitionTree, DefinesTreeIn, IsInsideTree, IsInnerLoopTree, CrossesTreeIn, IsGeneratorTree, GeneratesTreeIn, IsClauseTree, ClausesTreeIn, IsArmTree, ArmsTreeIn, MaskTreeIn}
use Rattle.text_trees.proofs.Views.{out_constant, out_name, out_old, out_group, out_call, out_convert, out_error_of, out_is_error, out_is_tag, out_prefix, out_binary, out_select, out_update, out_field, out_replace, out_empty_array, out_array, out_stream, out_a_record, out_union, out_let, out_if, out_tag_case, out_for, out_product, out_initial, out_elements, out_def, out_case, out_arm, out_generator, out_turn, out_clause}
use Rattle.typing_unique.proofs.EInverted.{some_group}

module _ (k : Known) (denotes : Written → Ty → Type 0) where
  turned : (s : Scope) (l : ℕ) (kind : ExprKind) (v : ExprKind-F ExprKind Loop Arm Clause Def Elements Expr FieldValue Generator Mask TagCase Turn) (t : TypedExpr) (tys : List Ty)
      → out-ExprKind kind ≡ v → InvertedTree k denotes s l v t tys → InvertedTree k denotes s l (out-ExprKind kind) t tys
  turned s l kind v t tys e p = subst (λ w. InvertedTree k denotes s l w t tys) (sym e) p

  loop_turned : (s : Scope) (l : ℕ) (p : Loop) (v : Loop-F ExprKind Loop Arm Clause Def Elements Expr FieldValue Generator Mask TagCase Turn) (t : TypedExpr) (tys : List Ty)
      → out-Loop p ≡ v → IsLoopTree k denotes s l v t tys → InvertedTree k denotes s l (out-ExprKind (tree.For p)) t tys
  loop_turned s l p v t tys e q = turned s l (tree.For p) (ExprKind-F.For p) t tys (out_for p) (subst (λ w. IsLoopTree k denotes s l w t tys) (sym e) q)

  built : (l : ℕ) (kind : TypedKind) (ns : List ℕ) (tys : List Ty) → Number k ns tys → HasTree k denotes l kind (with l ns kind) tys
  built l kind ns tys n = record { numbers = ns; number = n; is = refl }

  -- ---- expressions

  pub inverted_tree : (s : Scope) (e : Expr) (t : TypedExpr) (tys : List Ty) → Types k denotes s e t tys → InvertedTree k denotes s e.line (out-ExprKind e.kind) t tys
  inverted_tree s _ t _ (rule.constant {l = l} {c = c} {ns = ns} n) =
      turned s l (tree.Constant c) (ExprKind-F.Constant c) t (constant_type c ∷ []) (out_constant c) (built l (node.Constant c) ns (constant_type c ∷ []) n)
  inverted_tree s _ t _ (rule.name {l = l} {x = x} {level = level} {a = a} {ns = ns} h n) =
      turned s l (tree.Name x) (ExprKind-F.Name x) t (a ∷ []) (out_name x) (record { level = level; type = a; there = h; tree = built l (node.Value level) ns (a ∷ []) n })
  inverted_tree s _ t _ (rule.old {l = l} {x = x} {level = level} {a = a} {ns = ns} h n) =
      turned s l (tree.Old x) (ExprKind-F.Old x) t (a ∷ []) (out_old x) (record { level = level; type = a; there = h; tree = built l (node.Value level) ns (a ∷ []) n })
  inverted_tree s _ t _ (rule.group {l = l} {e = e} {t = c} {tys = tys} {ns = ns} p n) =
      turned s l (tree.Group e) (ExprKind-F.Group e) t tys (out_group e) (record { part = c; typed = p; tree = built l (node.Group (c ∷ [])) ns tys n })
  inverted_tree s _ t _ (rule.call {l = l} {x = x} {n = i} {f = f} {es = es} {ts = ts} {ns = ns} h p n) =
      turned s l (tree.Call x es) (ExprKind-F.Call x es) t f.results (out_call x es)
      (inl (record { place = i; function = f; exprs = ts; there = h; typed = p; tree = built l (node.Call i ts) ns f.results n }))
  inverted_tree s _ t _ (rule.built_in {l = l} {x = x} {a = a} {b = b} {es = es} {ts = ts} {tys = tys} {ns = ns} h p g d n) =
      turned s l (tree.Call x es) (ExprKind-F.Call x es) t (a ∷ []) (out_call x es)
      (inr (record { call = b; exprs = ts; operands = tys; there = h; typed = p; tree = built l (node.Apply (built_in_operation b) ts) ns (a ∷ []) n }))
  inverted_tree s _ t _ (rule.convert {l = l} {a = a} {c = c} {e = e} {t = i} {ns = ns} p h n) =
      turned s l (tree.Convert c e) (ExprKind-F.Convert c e) t (scalar_type c ∷ []) (out_convert c e)
      (record { type = a; part = i; typed = p; tree = built l (node.Apply (convert_operation c) (i ∷ [])) ns (scalar_type c ∷ []) n })
  inverted_tree s _ t _ (rule.error_of {l = l} {a = a} {w = w} {ns = ns} h n) =
      turned s l (tree.ErrorOf w) (ExprKind-F.ErrorOf w) t (a ∷ []) (out_error_of w) (built l (node.Apply operation.Error []) ns (a ∷ []) n)
  inverted_tree s _ t _ (rule.is_error {l = l} {a = a} {e = e} {t = c} {ns = ns} p n) =
      turned s l (tree.IsError e) (ExprKind-F.IsError e) t (ty.Bool ∷ []) (out_is_error e)
      (record { type = a; part = c; typed = p; tree = built l (node.Apply (operation.Unary unary.IsError) (c ∷ [])) ns (ty.Bool ∷ []) n })
  inverted_tree s _ t _ (rule.is_tag {l = l} {x = x} {place = place} {content = content} {ms = ms} {e = e} {t = c} {ns = ns} p h n) =
      turned s l (tree.IsTag x e) (ExprKind-F.IsTag x e) t (ty.Bool ∷ []) (out_is_tag x e)
      (record { members = ms; place = place; content = content; part = c; typed = p; has = h; tree = built l (node.Apply (operation.IsTag place) (c ∷ [])) ns (ty.Bool ∷ []) n })
  inverted_tree s _ t _ (rule.prefix {l = l} {o = o} {e = e} {t = c} {ns = ns} p n) =
      turned s l (tree.Prefix o e) (ExprKind-F.Prefix o e) t (prefix_type o ∷ []) (out_prefix o e)
      (record { part = c; typed = p; tree = built l (node.Apply (prefix_operation o) (c ∷ [])) ns (prefix_type o ∷ []) n })
  inverted_tree s _ t _ (rule.binary {l = l} {a = a} {o = o} {e = e} {f = f} {t = c} {u = u} {ns = ns} p q h n) =
      turned s l (tree.Binary o e f) (ExprKind-F.Binary o e f) t (binary_type o a ∷ []) (out_binary o e f)
      (record { type = a; left = c; right = u; typed_left = p; typed_right = q; tree = built l (node.Apply (binary_operation o) (c ∷ u ∷ [])) ns (binary_type o a ∷ []) n })
  inverted_tree s _ t _ (rule.select {l = l} {a = a} {e = e} {i = i} {t = c} {u = u} {ns = ns} p q n) =
      turned s l (tree.Select e i) (ExprKind-F.Select e i) t (a ∷ []) (out_select e i)
      (record { element = a; array = c; index = u; typed_array = p; typed_index = q; tree = built l (node.Apply operation.Element (c ∷ u ∷ [])) ns (a ∷ []) n })
  inverted_tree s _ t _ (rule.update {l = l} {a = a} {e = e} {i = i} {f = f} {t = c} {u = u} {v = v} {ns = ns} p q r n) =
      turned s l (tree.Update e i f) (ExprKind-F.Update e i f) t (ty.Arr a ∷ []) (out_update e i f)
      (record { element = a; array = c; index = u; value = v; typed_array = p; typed_index = q; typed_value = r; tree = built l (node.Apply operation.Update (c ∷ u ∷ v ∷ [])) ns (ty.Arr a ∷ []) n })
  inverted_tree s _ t _ (rule.field {l = l} {x = x} {place = place} {content = content} {ms = ms} {e = e} {t = c} {ns = ns} p h n) =
      turned s l (tree.Field e x) (ExprKind-F.Field e x) t (content ∷ []) (out_field e x)
      (record { members = ms; place = place; content = content; part = c; typed = p; has = h; tree = built l (node.Apply (operation.Field place) (c ∷ [])) ns (content ∷ []) n })
  inverted_tree s _ t _ (rule.replace {l = l} {ms = ms} {e = e} {t = c} {vs = vs} {places = places} {us = us} {ns = ns} p q d n) =
      turned s l (tree.Replace e vs) (ExprKind-F.Replace e vs) t (ty.Rec ms ∷ []) (out_replace e vs)
      (record { members = ms; part = c; places = places; exprs = us; typed = p; replaces = q; tree = built l (node.Apply (operation.Change places) (c ∷ us)) ns (ty.Rec ms ∷ []) n })
  inverted_tree s _ t _ (rule.empty_array {l = l} {x = x} a {ns = ns} h n) =
      turned s l (tree.Array (Some x) None) (ExprKind-F.Array (Some x) None) t (ty.Arr a ∷ []) (out_empty_array (Some x)) (built l (node.Apply operation.EmptyArray []) ns (ty.Arr a ∷ []) n)
  inverted_tree s _ t _ (rule.array {l = l} {a = a} {tys = tys} {x = x} {low = low} {t = c} {es = es} {ts = ts} {ns = ns} p q same h d n) =
      let els = roll-Elements (record { lower = low; values = es }) in
      turned s l (tree.Array x (Some els)) (ExprKind-F.Array x (Some els)) t (ty.Arr a ∷ []) (out_array x els)
      (subst (λ r. IsArrayTree k denotes s l r.lower r.values (with l ns (node.Apply operation.Array (c ∷ ts))) (ty.Arr a ∷ [])) (sym (out_elements low es))
      (record { made = a ∷ tys; bound = c; exprs = ts; lower = p; typed = q; tree = built l (node.Apply operation.Array (c ∷ ts)) ns (ty.Arr a ∷ []) n }))
  inverted_tree s _ t _ (rule.empty_stream {l = l} {x = x} a {ns = ns} h n) =
      turned s l (tree.Stream (Some x) []) (ExprKind-F.Stream (Some x) []) t (ty.Stream a ∷ []) (out_stream (Some x) [])
      (record { made = []; exprs = []; typed = rule.no_more; tree = built l (node.Apply operation.Stream []) ns (ty.Stream a ∷ []) n })
  inverted_tree s _ t _ (rule.stream {l = l} {a = a} {tys = tys} {x = x} {es = es} {ts = ts} {ns = ns} q same h d n) =
      turned s l (tree.Stream x es) (ExprKind-F.Stream x es) t (ty.Stream a ∷ []) (out_stream x es)
      (record { made = a ∷ tys; exprs = ts; typed = q; tree = built l (node.Apply operation.Stream ts) ns (ty.Stream a ∷ []) n })
  inverted_tree s _ t _ (rule.a_record {l = l} {x = x} {ms = ms} {vs = vs} {ts = ts} {ns = ns} p d h deep n) =
      turned s l (tree.Record x vs) (ExprKind-F.Record x vs) t (ty.Rec ms ∷ []) (out_a_record x vs)
      (record { members = ms; exprs = ts; typed = p; tree = built l (node.Apply operation.Record ts) ns (ty.Rec ms ∷ []) n })
  inverted_tree s _ t _ (rule.union {l = l} {x = x} {tag = tag} {place = place} {content = content} {ms = ms} {e = e} {t = c} {ns = ns} h has p n) =
      turned s l (tree.Union x tag e) (ExprKind-F.Union x tag e) t (ty.Uni ms ∷ []) (out_union x tag e)
      (record { members = ms; place = place; content = content; part = c; named = h; has = has; typed = p; tree = built l (node.Apply (operation.Union place) (c ∷ [])) ns (ty.Uni ms ∷ []) n })
  inverted_tree s _ t _ (rule.let_in {after = after} {l = l} {ds = ds} {us = us} {made = made} {tys = tys} {es = es} {ts = ts} {ns = ns} p d q n) =
      turned s l (tree.Let ds es) (ExprKind-F.Let ds es) t tys (out_let ds es)
      (record { after = after; values = us; made = made; exprs = ts; defines = p; typed = q; tree = built l (node.Let us ts) ns tys n })
  inverted_tree s _ t _ (rule.if_else {l = l} {c = c} {t = i} {es = es} {fs = fs} {ts = ts} {us = us} {tys = tys} {ns = ns} p q r n) =
      turned s l (tree.If c es fs) (ExprKind-F.If c es fs) t tys (out_if c es fs)
      (record { test = i; yes = ts; no_exprs = us; typed_test = p; typed_yes = q; typed_no = r; tree = built l (node.If (i ∷ []) ts us) ns tys n })
  inverted_tree s _ t _ (rule.tag_case {l = l} {ms = ms} {x = x} {e = e} {t = i} {arms = arms} {typed_arms = typed_arms} {last = last} {tags = tags} {choices = choices} {ns = ns} {tys = tys} {other = other} p q d all o c n) =
      let case = roll-TagCase (record { name = x; subject = e; arms = arms; otherwise = other }) in
      turned s l (tree.TagCase case) (ExprKind-F.TagCase case) t tys (out_tag_case case)
      (subst (λ r. IsTagCaseTree k denotes s l r.name r.subject r.arms r.otherwise (with l ns (node.Case (record { named = named_arms x arms; choices = choices; others = length arms }) (i ∷ []) (typed_arms ++ last))) tys) (sym (out_case x e arms other))
      (record {
        members = ms;
        part = i;
        typed_arms = typed_arms;
        last = last;
        tags = tags;
        choices = choices;
        typed = p;
        are_arms = q;
        otherwise = o;
        chooses = c;
        tree = built l (node.Case (record { named = named_arms x arms; choices = choices; others = length arms }) (i ∷ []) (typed_arms ++ last)) ns tys n;
      }))
  inverted_tree s _ t _ (rule.for_product {l = l} {tys = tys} {gs = gs} {ds = ds} {cs = cs} p) =
      loop_turned s l (loop.Product gs ds cs) (Loop-F.Product gs ds cs) t tys (out_product gs ds cs) p
  inverted_tree s _ t _ (rule.for_initial {started = started} {turned = after} {l = l} {first = first} {later = later} {tys = tys} {ns = ns} is_first is_until {test = test} {t = i} {ds = ds} {es = es} {us = us} {vs = vs} {cs = cs} {forms = clauses} {ts = ts} p d q r e keeps c n) =
      let turn = roll-Turn (record { is_first = is_first; is_until = is_until; test = test; defs = es }) in
      loop_turned s l (loop.Initial ds turn cs) (Loop-F.Initial ds turn cs) t tys (out_initial ds turn cs)
      (subst (λ r. IsInitialTree k denotes s l ds r.is_first r.is_until r.test r.defs cs
      (with l ns (node.Initial (record { is_first = is_first; is_until = is_until; renewed = renewals (loop_of s ds first) s.height (targets es); clauses = clauses }) us (i ∷ []) vs ts)) tys)
      (sym (out_turn is_first is_until test es))
      (record {
        started = started;
        turned = after;
        first = first;
        later = later;
        values = us;
        renewed = vs;
        part = i;
        clauses = clauses;
        exprs = ts;
        defines = p;
        typed_test = q;
        turns = r;
        results = c;
        tree = built l (node.Initial (record { is_first = is_first; is_until = is_until; renewed = renewals (loop_of s ds first) s.height (targets es); clauses = clauses }) us (i ∷ []) vs ts) ns tys n;
      }))

  -- what the tree of an expression of a known form consists of
  pub view : (s : Scope) (l : ℕ) (kind : ExprKind) (v : ExprKind-F ExprKind Loop Arm Clause Def Elements Expr FieldValue Generator Mask TagCase Turn) (t : TypedExpr) (tys : List Ty)
      → out-ExprKind kind ≡ v → Types k denotes s (at l kind) t tys → InvertedTree k denotes s l v t tys
  view s l kind v t tys e p = subst (λ w. InvertedTree k denotes s l w t tys) e (inverted_tree s (at l kind) t tys p)

  pub view_array : (s : Scope) (l : ℕ) (x : Option ℕ) (low : Expr) (es : List Expr) (t : TypedExpr) (tys : List Ty)
      → Types k denotes s (at l (tree.Array x (Some (roll-Elements (record { lower = low; values = es }))))) t tys → IsArrayTree k denotes s l low es t tys
  view_array s l x low es t tys p =
      let els = roll-Elements (record { lower = low; values = es }) in
      subst (λ r. IsArrayTree k denotes s l r.lower r.values t tys) (out_elements low es)
      (view s l (tree.Array x (Some els)) (ExprKind-F.Array x (Some els)) t tys (out_array x els) p)

  pub view_case : (s : Scope) (l : ℕ) (x : Option ℕ) (e : Expr) (arms : List Arm) (other : Option (List Expr)) (t : TypedExpr) (tys : List Ty)
      → Types k denotes s (at l (tree.TagCase (roll-TagCase (record { name = x; subject = e; arms = arms; otherwise = other })))) t tys
      → IsTagCaseTree k denotes s l x e arms other t tys
  view_case s l x e arms other t tys p =
      let case = roll-TagCase (record { name = x; subject = e; arms = arms; otherwise = other }) in
      subst (λ r. IsTagCaseTree k denotes s l r.name r.subject r.arms r.otherwise t tys) (out_case x e arms other)
      (view s l (tree.TagCase case) (ExprKind-F.TagCase case) t tys (out_tag_case case) p)

  pub view_product : (s : Scope) (l : ℕ) (gs : List (List Generator)) (ds : List Def) (cs : List Clause) (t : TypedExpr) (tys : List Ty)
      → Types k denotes s (at l (tree.For (loop.Product gs ds cs))) t tys → Crosses k denotes s l gs ds cs t tys
  view_product s l gs ds cs t tys p =
      subst (λ r. IsLoopTree k denotes s l r t tys) (out_product gs ds cs)
      (view s l (tree.For (loop.Product gs ds cs)) (ExprKind-F.For (loop.Product gs ds cs)) t tys (out_for (loop.Product gs ds cs)) p)

  pub view_initial : (s : Scope) (l : ℕ) (ds : List Def) (is_first is_until : Bool) (test : Expr) (es : List Def) (cs : List Clause) (t : TypedExpr) (tys : List Ty)
      → Types k denotes s (at l (tree.For (loop.Initial ds (roll-Turn (record { is_first = is_first; is_until = is_until; test = test; defs = es })) cs))) t tys
      → IsInitialTree k denotes s l ds is_first is_until test es cs t tys
  view_initial s l ds is_first is_until test es cs t tys p =
      let turn = roll-Turn (record { is_first = is_first; is_until = is_until; test = test; defs = es }) in
      subst (λ r. IsInitialTree k denotes s l ds r.is_first r.is_until r.test r.defs cs t tys) (out_turn is_first is_until test es)
      (subst (λ r. IsLoopTree k denotes s l r t tys) (out_initial ds turn cs)
      (view s l (tree.For (loop.Initial ds turn cs)) (ExprKind-F.For (loop.Initial ds turn cs)) t tys (out_for (loop.Initial ds turn cs)) p))

  -- ---- parts

  pub first_of : (s : Scope) (es : List Expr) (ts : List TypedExpr) (tys : List Ty) → AreTyped k denotes s es ts tys → TypedTreeIn k denotes s es ts
  first_of s _ _ _ rule.no_more = refl
  first_of s _ _ _ (rule.more {e = e} {t = t} {tys = tys} {others = others} {es = es} {ts = ts} p q) = record { first = t; made = tys; trees = ts; others = others; typed = p; later = q; is = refl }

  pub fields_of : (s : Scope) (vs : List FieldValue) (ts : List TypedExpr) (ms : List Member) → HasFields k denotes s vs ts ms → FieldsTreeIn k denotes s vs ts
  fields_of s _ _ _ rule.no_member = refl
  fields_of s _ _ _ (rule.a_member {a = a} {t = t} {ts = ts} {ms = ms} h p q) = record { type = a; first = t; trees = ts; others = ms; typed = p; later = q; is = refl }

  pub changed_of : (s : Scope) (ms : List Member) (vs : List FieldValue) (places : List ℕ) (us : List TypedExpr) → Replaces k denotes s ms vs places us → ReplacesTreeIn k denotes s ms vs places us
  changed_of s ms _ _ _ rule.no_field = (refl, refl)
  changed_of s ms _ _ _ (rule.a_field {place = place} {a = a} {t = t} {places = places} {us = us} h p q) =
      record { place = place; type = a; first = t; others = places; trees = us; has = h; typed = p; later = q; is_places = refl; is_trees = refl }

  pub definitions_of : (s : Scope) (ds : List Def) (us : List (List TypedExpr)) (tys : List Ty) (after : Scope) → Defines k denotes s ds us tys after → DefinesTreeIn k denotes s ds us after
  definitions_of s _ _ _ _ rule.no_def = refl
  definitions_of s _ _ _ after (rule.a_def xs {es = es} {ts = ts} {tys = tys} {others = others} {ds = ds} {us = us} p t q) =
      subst (λ r. IsDefinitionTree k denotes s r.targets r.values ds (ts ∷ us) after) (sym (out_def xs es))
      (record { exprs = ts; made = tys; others = others; rest = us; typed = p; later = q; is = refl })

  pub view_definitions : (s : Scope) (xs : List Target) (es : List Expr) (ds : List Def) (us : List (List TypedExpr)) (tys : List Ty) (after : Scope)
      → Defines k denotes s (roll-Def (record { targets = xs; values = es }) ∷ ds) us tys after → IsDefinitionTree k denotes s xs es ds us after
  view_definitions s xs es ds us tys after p =
      subst (λ r. IsDefinitionTree k denotes s r.targets r.values ds us after) (out_def xs es)
      (definitions_of s (roll-Def (record { targets = xs; values = es }) ∷ ds) us tys after p)

  inside_of : (s : Scope) (l : ℕ) (gs : List (List Generator)) (ds : List Def) (cs : List Clause) (sources : List Source) (bounds : List TypedExpr) (t : TypedExpr) (inner tys : List Ty)
      (clauses : List ClauseForm) (ns : List ℕ) → Crosses k denotes s l gs ds cs t inner → Folds cs inner clauses tys → Number k ns tys
      → IsInsideTree k denotes s l gs ds cs sources bounds (with l ns (node.Product (record { sources = sources; clauses = clauses }) bounds [] (t ∷ []))) tys
  inside_of s l [] ds cs sources bounds t inner tys clauses ns p f n = absurd (some_group k denotes s l [] ds cs t inner p)
  inside_of s l (g ∷ gs) ds cs sources bounds t inner tys clauses ns p f n =
      record { part = t; inner = inner; clauses = clauses; crosses = p; folds = f; tree = built l (node.Product (record { sources = sources; clauses = clauses }) bounds [] (t ∷ [])) ns tys n }

  pub crossed_of : (s : Scope) (l : ℕ) (gs : List (List Generator)) (ds : List Def) (cs : List Clause) (t : TypedExpr) (tys : List Ty)
      → Crosses k denotes s l gs ds cs t tys → CrossesTreeIn k denotes s l gs ds cs t tys
  crossed_of s l _ ds cs _ tys (rule.one_group {inside = inside} {names = names} {ns = ns} {tys = us} {made = made} {sources = sources} {bounds = bounds} {us = values} {forms = clauses} {ts = ts} p d q e c n) = record {
    names = names;
    made = us;
    sources = sources;
    bounds = bounds;
    generates = p;
    inside = record {
      inside = inside;
      made = made;
      values = values;
      clauses = clauses;
      exprs = ts;
      defines = q;
      results = c;
      tree = built l (node.Product (record { sources = sources; clauses = clauses }) bounds values ts) ns tys n;
    };
  }
  crossed_of s l _ ds cs _ tys (rule.a_group {names = names} {ns = ns} {tys = us} {inner = inner} {gs = gs} {sources = sources} {bounds = bounds} {forms = clauses} {t = t} p d q f n) = record {
    names = names;
    made = us;
    sources = sources;
    bounds = bounds;
    generates = p;
    inside = inside_of (define_all names us s) l gs ds cs sources bounds t inner tys clauses ns q f n;
  }

  -- the loop behind a group before others
  pub inner_of : (s : Scope) (l : ℕ) (gs : List (List Generator)) (ds : List Def) (cs : List Clause) (t : TypedExpr) (inner : List Ty) → Crosses k denotes s l gs ds cs t inner
      → (r : Scope) (sources : List Source) (bounds : List TypedExpr) (u : TypedExpr) (tys : List Ty)
      → IsInsideTree k denotes r l gs ds cs sources bounds u tys → IsInnerLoopTree k denotes r l gs ds cs sources bounds u tys
  inner_of s l [] ds cs t inner p r sources bounds u tys i = absurd (some_group k denotes s l [] ds cs t inner p)
  inner_of s l (h ∷ gs) ds cs t inner p r sources bounds u tys i = i

  pub generated_of : (s : Scope) (gs : List Generator) (sources : List Source) (bounds : List TypedExpr) (names : List ℕ) (tys : List Ty)
      → Generates k denotes s gs sources bounds names tys → GeneratesTreeIn k denotes s gs sources bounds
  generated_of s _ _ _ _ _ rule.no_generator = (refl, refl)
  generated_of s _ _ _ _ _ (rule.range n {e = e} {f = f} {t = t} {u = u} {names = names} {tys = tys} {gs = gs} {sources = sources} {bounds = bounds} p q r) =
      subst (λ r. IsGeneratorTree k denotes s r.from r.to r.at gs (source.Range ∷ sources) (t ∷ u ∷ bounds)) (sym (out_generator n e (Some f) None))
      (record { from = t; to = u; names = names; types = tys; others = sources; rest = bounds; typed_from = p; typed_to = q; later = r; is_sources = refl; is_bounds = refl })
  generated_of s _ _ _ _ _ (rule.elements n {a = a} {b = b} {e = e} {t = t} {names = names} {tys = tys} {gs = gs} {sources = sources} {bounds = bounds} p q r) =
      subst (λ r. IsGeneratorTree k denotes s r.from r.to r.at gs (source.Elements ∷ sources) (t ∷ bounds)) (sym (out_generator n e None None))
      (record { whole = a; part = t; names = names; types = tys; others = sources; rest = bounds; typed = p; later = r; is_sources = refl; is_bounds = refl })
  generated_of s _ _ _ _ _ (rule.indexed n {i = i} {a = a} {b = b} {e = e} {t = t} {names = names} {tys = tys} {gs = gs} {sources = sources} {bounds = bounds} p q r) =
      subst (λ r. IsGeneratorTree k denotes s r.from r.to r.at gs (source.Indexed ∷ sources) (t ∷ bounds)) (sym (out_generator n e None (Some i)))
      (record { whole = a; part = t; names = names; types = tys; others = sources; rest = bounds; typed = p; later = r; is_sources = refl; is_bounds = refl })

  pub view_generators : (s : Scope) (n : Named) (e : Expr) (to : Option Expr) (i : Option ℕ) (gs : List Generator) (sources : List Source) (bounds : List TypedExpr) (names : List ℕ) (tys : List Ty)
      → Generates k denotes s (roll-Generator (record { name = n; from = e; to = to; at = i }) ∷ gs) sources bounds names tys
      → IsGeneratorTree k denotes s e to i gs sources bounds
  view_generators s n e to i gs sources bounds names tys p =
      subst (λ r. IsGeneratorTree k denotes s r.from r.to r.at gs sources bounds) (out_generator n e to i)
      (generated_of s (roll-Generator (record { name = n; from = e; to = to; at = i }) ∷ gs) sources bounds names tys p)

  pub clauses_of : (s : Scope) (cs : List Clause) (clauses : List ClauseForm) (ts : List TypedExpr) (tys : List Ty) → AreClauses k denotes s cs clauses ts tys → ClausesTreeIn k denotes s cs clauses ts
  clauses_of s _ _ _ _ rule.no_clause = (refl, refl)
  clauses_of s _ _ _ _ (rule.a_clause l {kind = kind} {a = a} {b = b} {e = e} {t = t} {m = m} {masks = masks} {cs = cs} {forms = clauses} {ts = ts} {tys = tys} p h d q r) =
      subst (λ r. IsClauseTree k denotes s r.kind r.value r.mask cs (clause_form kind a m ∷ clauses) (t ∷ (masks ++ ts))) (sym (out_clause l kind e m))
      (record { value = a; part = t; masks = masks; clauses = clauses; exprs = ts; others = tys; typed = p; mask = q; later = r; is_forms = refl; is_trees = refl })

  pub view_clauses : (s : Scope) (l : ℕ) (kind : ClauseKind) (e : Expr) (m : Option Mask) (cs : List Clause) (clauses : List ClauseForm) (ts : List TypedExpr) (tys : List Ty)
      → AreClauses k denotes s (roll-Clause (record { line = l; kind = kind; value = e; mask = m }) ∷ cs) clauses ts tys → IsClauseTree k denotes s kind e m cs clauses ts
  view_clauses s l kind e m cs clauses ts tys p =
      subst (λ r. IsClauseTree k denotes s r.kind r.value r.mask cs clauses ts) (out_clause l kind e m)
      (clauses_of s (roll-Clause (record { line = l; kind = kind; value = e; mask = m }) ∷ cs) clauses ts tys p)

  pub arms_of : (s : Scope) (x : Option ℕ) (ms : List Member) (tys : List Ty) (arms : List Arm) (us : List (List TypedExpr)) (tags : List (List ℕ))
      → AreArms k denotes s x ms tys arms us tags → ArmsTreeIn k denotes s x ms tys arms us tags
  arms_of s x ms tys _ _ _ rule.no_arm = (refl, refl)
  arms_of s x ms tys _ _ _ (rule.an_arm l content names {es = es} {ts = ts} {arms = arms} {typed_arms = us} {tags = tags} o t p q) =
      subst (λ r. IsArmTree k denotes s x ms tys r.tags r.results arms (ts ∷ us) (names_of names ∷ tags)) (sym (out_arm l names es))
      (record { content = content; exprs = ts; rest = us; others = tags; contents = t; typed = p; later = q; is_trees = refl; is_tags = refl })

  pub view_arms : (s : Scope) (x : Option ℕ) (ms : List Member) (tys : List Ty) (l : ℕ) (names : List Named) (es : List Expr) (arms : List Arm) (us : List (List TypedExpr)) (tags : List (List ℕ))
      → AreArms k denotes s x ms tys (roll-Arm (record { line = l; tags = names; results = es }) ∷ arms) us tags
      → IsArmTree k denotes s x ms tys names es arms us tags
  view_arms s x ms tys l names es arms us tags p =
      subst (λ r. IsArmTree k denotes s x ms tys r.tags r.results arms us tags) (out_arm l names es)
      (arms_of s x ms tys (roll-Arm (record { line = l; tags = names; results = es }) ∷ arms) us tags p)

  pub mask_of : (s : Scope) (m : Option Mask) (ts : List TypedExpr) → IsMask k denotes s m ts → MaskTreeIn k denotes s m ts
  mask_of s _ _ rule.no_mask = refl
  mask_of s _ _ (rule.a_mask {t = t} p) = record { part = t; typed = p; is = refl }
