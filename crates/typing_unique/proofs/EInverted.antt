-- A typing of an expression consists of what its form says.
use Rattle.std.proofs.Common.{◌≡◌, inl, inr, ℕ, List, [], ◌∷◌, ◌++◌, Bool, Option, Some, None, All, refl, sym, subst}
use Rattle.std.proofs.lemmas.List.Elements.{All-weaker}
use Rattle.flow_value.specs.declared.ty.Ty.{Ty}
use Rattle.flow_value.specs.declared.ty.Ty.TheVariants as ty
use Rattle.type_table.specs.declared.form.Form.{Form}
use Rattle.sisal_tree.specs.declared.unit.Named.{Named}
use Rattle.sisal_tree.specs.declared.unit.Written.{Written}
use Rattle.sisal_tree.specs.declared.expr.Expr.{Expr}
use Rattle.sisal_tree.specs.declared.expr.ExprKind.{ExprKind}
use Rattle.sisal_tree.specs.declared.expr.ExprKind.TheVariants as tree
use Rattle.sisal_tree.specs.declared.expr.ExprKind.TheOpen.{ExprKind-F, Loop-F}
use Rattle.sisal_tree.specs.declared.expr.ExprKind.TheViews.{out-ExprKind, out-Loop}
use Rattle.sisal_tree.specs.declared.expr.FieldValue.{FieldValue}
use Rattle.sisal_tree.specs.declared.expr.Elements.{Elements, roll-Elements}
use Rattle.sisal_tree.specs.declared.expr.Def.{Def, roll-Def}
use Rattle.sisal_tree.specs.declared.expr.Target.{Target}
use Rattle.sisal_tree.specs.declared.expr.TagCase.{TagCase, roll-TagCase}
use Rattle.sisal_tree.specs.declared.expr.Arm.{Arm, roll-Arm}
use Rattle.sisal_tree.specs.declared.expr.Loop.{Loop}
use Rattle.sisal_tree.specs.declared.expr.Loop.TheVariants as loop
use Rattle.sisal_tree.specs.declared.expr.Generator.{Generator, roll-Generator}
use Rattle.sisal_tree.specs.declared.expr.Turn.{Turn, roll-Turn}
use Rattle.sisal_tree.specs.declared.expr.Clause.{Clause, roll-Clause}
use Rattle.sisal_tree.specs.declared.expr.Mask.{Mask}
use Rattle.sisal_tree.specs.declared.expr.ClauseKind.{ClauseKind}
use Rattle.typed_tree.specs.declared.built_in.BuiltIn.{BuiltIn}
use Rattle.typed_tree.specs.declared.expr.TypedExpr.{TypedExpr}
use Rattle.typed_tree.specs.declared.expr.Source.{Source}
use Rattle.typed_tree.specs.declared.expr.ClauseForm.{ClauseForm}
use Rattle.typed_tree.specs.Scopes.{Scope, define_all}
use Rattle.typed_tree.specs.Types.{Member, constant_type, scalar_type, prefix_type, binary_type}
use Rattle.typed_tree.specs.Typing as rule
use Rattle.typed_tree.specs.Typing.{Signature, Known, IsFunction, IsBuiltIn, IsNamedType, Has, IsTag, names_of, AreAllNamed, at, Types, AreTyped, Replaces, HasFields, Defines, Crosses, Generates, AreClauses, IsMask, AreArms, IsOtherwise, Folds}
use Rattle.typing_unique.specs.Inverted.{at_table, IsInside, IsInnerLoop, TypedIn, FieldsIn, ReplacesIn, MaskIn, IsArray, IsTagCase, IsInitial, IsProduct, IsLoop, Inverted, IsDefinition, DefinesIn, CrossesIn, IsGenerator, GeneratesIn, IsClause, ClausesIn, IsArm, ArmsIn}
use Rattle.text_trees.proofs.Views.{out_constant, out_name, out_old, out_group, out_call, out_convert, out_error_of, out_is_error, out_is_tag, out_prefix, out_binary, out_select, out_update, out_field, out_replace, out_empty_array, out_array, out_stream, out_a_record, out_union, out_let, out_if, out_tag_case, out_for, out_product, out_initial, out_elements, out_def, out_case, out_arm, out_generator, out_turn, out_clause}

abbrev IsNotEmpty : List (List Generator) → Type 0
IsNotEmpty [] = ⊥
IsNotEmpty (g ∷ gs) = Unit {0}

pub some_group : (k : Known) (denotes : Written → Ty → Type 0) (s : Scope) (l : ℕ) (gs : List (List Generator)) (ds : List Def) (cs : List Clause) (t : TypedExpr) (tys : List Ty)
    → Crosses k denotes s l gs ds cs t tys → IsNotEmpty gs
some_group k denotes s l _ ds cs _ tys (rule.one_group p d q e c n) = tt
some_group k denotes s l _ ds cs _ tys (rule.a_group p d q f n) = tt

module _ (k : Known) (forms : List Form) where
  -- ---- what does not speak of the table

  pub has_in : (ms : List Member) (x place : ℕ) (content : Ty) → Has (at_table k forms) ms x place content → Has k ms x place content
  has_in ms x place content h = record { spelling = h.spelling; spelled = h.spelled; member = h.member }

  pub function_in : (x n : ℕ) (f : Signature) → IsFunction (at_table k forms) x n f → IsFunction k x n f
  function_in x n f h = record { there = h.there; named = h.named }

  pub built_in_in : (x : ℕ) (b : BuiltIn) → IsBuiltIn (at_table k forms) x b → IsBuiltIn k x b
  built_in_in x b h = record { spelling = h.spelling; spelled = h.spelled; named = h.named }

  pub named_in : (x : Option ℕ) (t : Ty) → IsNamedType (at_table k forms) x t → IsNamedType k x t
  named_in None t h = tt
  named_in (Some x) t h = h

  pub all_named_in : (tags : List (List ℕ)) (ms : List Member) (other : Option (List Expr)) → AreAllNamed (at_table k forms) tags ms other → AreAllNamed k tags ms other
  all_named_in tags ms None h = h
  all_named_in tags ms (Some es) h = tt

  pub tags_in : (ms : List Member) (content : Ty) (names : List ℕ) → All (λ tag. IsTag (at_table k forms) ms tag content) names → All (λ tag. IsTag k ms tag content) names
  tags_in ms content names h = All-weaker (λ tag. IsTag (at_table k forms) ms tag content) (λ tag. IsTag k ms tag content) (λ x p. (p.0, has_in ms x p.0 content p.1)) names h

  module _ (denotes : Written → Ty → Type 0) where
    turned : (s : Scope) (l : ℕ) (kind : ExprKind) (v : ExprKind-F ExprKind Loop Arm Clause Def Elements Expr FieldValue Generator Mask TagCase Turn) (tys : List Ty)
        → out-ExprKind kind ≡ v → Inverted k forms denotes s l v tys → Inverted k forms denotes s l (out-ExprKind kind) tys
    turned s l kind v tys e p = subst (λ w. Inverted k forms denotes s l w tys) (sym e) p

    loop_turned : (s : Scope) (l : ℕ) (p : Loop) (v : Loop-F ExprKind Loop Arm Clause Def Elements Expr FieldValue Generator Mask TagCase Turn) (tys : List Ty)
        → out-Loop p ≡ v → IsLoop k forms denotes s l v tys → Inverted k forms denotes s l (out-ExprKind (tree.For p)) tys
    loop_turned s l p v tys e q = turned s l (tree.For p) (ExprKind-F.For p) tys (out_for p) (subst (λ w. IsLoop k forms denotes s l w tys) (sym e) q)

    -- ---- expressions

    pub inverted : (s : Scope) (e : Expr) (t : TypedExpr) (tys : List Ty) → Types (at_table k forms) denotes s e t tys → Inverted k forms denotes s e.line (out-ExprKind e.kind) tys
    inverted s _ _ _ (rule.constant {l = l} {c = c} n) = turned s l (tree.Constant c) (ExprKind-F.Constant c) (constant_type c ∷ []) (out_constant c) (record { types = refl })
    inverted s _ _ _ (rule.name {l = l} {x = x} {level = level} {a = a} h n) =
        turned s l (tree.Name x) (ExprKind-F.Name x) (a ∷ []) (out_name x) (record { level = level; type = a; there = h; types = refl })
    inverted s _ _ _ (rule.old {l = l} {x = x} {level = level} {a = a} h n) =
        turned s l (tree.Old x) (ExprKind-F.Old x) (a ∷ []) (out_old x) (record { level = level; type = a; there = h; types = refl })
    inverted s _ _ _ (rule.group {l = l} {e = e} {t = t} {tys = tys} p n) =
        turned s l (tree.Group e) (ExprKind-F.Group e) tys (out_group e) (record { tree = t; typed = p })
    inverted s _ _ _ (rule.call {l = l} {x = x} {n = i} {f = f} {es = es} {ts = ts} h p n) =
        turned s l (tree.Call x es) (ExprKind-F.Call x es) f.results (out_call x es)
        (inl (record { number = i; function = f; exprs = ts; there = function_in x i f h; typed = p; types = refl }))
    inverted s _ _ _ (rule.built_in {l = l} {x = x} {a = a} {b = b} {es = es} {ts = ts} {tys = tys} h p g d n) =
        turned s l (tree.Call x es) (ExprKind-F.Call x es) (a ∷ []) (out_call x es)
        (inr (record { call = b; type = a; exprs = ts; operands = tys; there = built_in_in x b h; typed = p; gives = g; shallow = d; types = refl }))
    inverted s _ _ _ (rule.convert {l = l} {a = a} {c = c} {e = e} {t = t} p h n) =
        turned s l (tree.Convert c e) (ExprKind-F.Convert c e) (scalar_type c ∷ []) (out_convert c e) (record { type = a; tree = t; typed = p; converted = h; types = refl })
    inverted s _ _ _ (rule.error_of {l = l} {a = a} {w = w} h n) =
        turned s l (tree.ErrorOf w) (ExprKind-F.ErrorOf w) (a ∷ []) (out_error_of w) (record { type = a; denoted = h; types = refl })
    inverted s _ _ _ (rule.is_error {l = l} {a = a} {e = e} {t = t} p n) =
        turned s l (tree.IsError e) (ExprKind-F.IsError e) (ty.Bool ∷ []) (out_is_error e) (record { type = a; tree = t; typed = p; types = refl })
    inverted s _ _ _ (rule.is_tag {l = l} {x = x} {place = place} {content = content} {ms = ms} {e = e} {t = t} p h n) =
        turned s l (tree.IsTag x e) (ExprKind-F.IsTag x e) (ty.Bool ∷ []) (out_is_tag x e)
        (record { members = ms; place = place; content = content; tree = t; typed = p; has = has_in ms x place content h; types = refl })
    inverted s _ _ _ (rule.prefix {l = l} {o = o} {e = e} {t = t} p n) =
        turned s l (tree.Prefix o e) (ExprKind-F.Prefix o e) (prefix_type o ∷ []) (out_prefix o e) (record { tree = t; typed = p; types = refl })
    inverted s _ _ _ (rule.binary {l = l} {a = a} {o = o} {e = e} {f = f} {t = t} {u = u} p q h n) =
        turned s l (tree.Binary o e f) (ExprKind-F.Binary o e f) (binary_type o a ∷ []) (out_binary o e f)
        (record { type = a; left = t; right = u; typed_left = p; typed_right = q; operands = h; types = refl })
    inverted s _ _ _ (rule.select {l = l} {a = a} {e = e} {i = i} {t = t} {u = u} p q n) =
        turned s l (tree.Select e i) (ExprKind-F.Select e i) (a ∷ []) (out_select e i)
        (record { element = a; array = t; index = u; typed_array = p; typed_index = q; types = refl })
    inverted s _ _ _ (rule.update {l = l} {a = a} {e = e} {i = i} {f = f} {t = t} {u = u} {v = v} p q r n) =
        turned s l (tree.Update e i f) (ExprKind-F.Update e i f) (ty.Arr a ∷ []) (out_update e i f)
        (record { element = a; array = t; index = u; value = v; typed_array = p; typed_index = q; typed_value = r; types = refl })
    inverted s _ _ _ (rule.field {l = l} {x = x} {place = place} {content = content} {ms = ms} {e = e} {t = t} p h n) =
        turned s l (tree.Field e x) (ExprKind-F.Field e x) (content ∷ []) (out_field e x)
        (record { members = ms; place = place; content = content; tree = t; typed = p; has = has_in ms x place content h; types = refl })
    inverted s _ _ _ (rule.replace {l = l} {ms = ms} {e = e} {t = t} {vs = vs} {places = places} {us = us} p q d n) =
        turned s l (tree.Replace e vs) (ExprKind-F.Replace e vs) (ty.Rec ms ∷ []) (out_replace e vs)
        (record { members = ms; tree = t; places = places; exprs = us; typed = p; replaces = q; distinct = d; types = refl })
    inverted s _ _ _ (rule.empty_array {l = l} {x = x} a h n) =
        turned s l (tree.Array (Some x) None) (ExprKind-F.Array (Some x) None) (ty.Arr a ∷ []) (out_empty_array (Some x))
        (record { name = x; element = a; is_name = refl; named = h; types = refl })
    inverted s _ _ _ (rule.array {l = l} {a = a} {tys = tys} {x = x} {low = low} {t = t} {es = es} {ts = ts} p q same h d n) =
        let els = roll-Elements (record { lower = low; values = es }) in
        turned s l (tree.Array x (Some els)) (ExprKind-F.Array x (Some els)) (ty.Arr a ∷ []) (out_array x els)
        (subst (λ r. IsArray k forms denotes s x r.lower r.values (ty.Arr a ∷ [])) (sym (out_elements low es))
        (record { element = a; others = tys; bound = t; exprs = ts; lower = p; typed = q; same = same; named = named_in x (ty.Arr a) h; shallow = d; types = refl }))
    inverted s _ _ _ (rule.empty_stream {l = l} {x = x} a h n) =
        turned s l (tree.Stream (Some x) []) (ExprKind-F.Stream (Some x) []) (ty.Stream a ∷ []) (out_stream (Some x) [])
        (inl (record { name = x; element = a; is_name = refl; is_empty = refl; named = h; types = refl }))
    inverted s _ _ _ (rule.stream {l = l} {a = a} {tys = tys} {x = x} {es = es} {ts = ts} q same h d n) =
        turned s l (tree.Stream x es) (ExprKind-F.Stream x es) (ty.Stream a ∷ []) (out_stream x es)
        (inr (record { element = a; others = tys; exprs = ts; typed = q; same = same; named = named_in x (ty.Stream a) h; shallow = d; types = refl }))
    inverted s _ _ _ (rule.a_record {l = l} {x = x} {ms = ms} {vs = vs} {ts = ts} p d h deep n) =
        turned s l (tree.Record x vs) (ExprKind-F.Record x vs) (ty.Rec ms ∷ []) (out_a_record x vs)
        (record { members = ms; exprs = ts; typed = p; distinct = d; named = named_in x (ty.Rec ms) h; shallow = deep; types = refl })
    inverted s _ _ _ (rule.union {l = l} {x = x} {tag = tag} {place = place} {content = content} {ms = ms} {e = e} {t = t} h has p n) =
        turned s l (tree.Union x tag e) (ExprKind-F.Union x tag e) (ty.Uni ms ∷ []) (out_union x tag e)
        (record { members = ms; place = place; content = content; tree = t; named = h; has = has_in ms tag place content has; typed = p; types = refl })
    inverted s _ _ _ (rule.let_in {after = after} {l = l} {ds = ds} {us = us} {made = made} {tys = tys} {es = es} {ts = ts} p d q n) =
        turned s l (tree.Let ds es) (ExprKind-F.Let ds es) tys (out_let ds es)
        (record { after = after; values = us; made = made; exprs = ts; defines = p; distinct = d; typed = q })
    inverted s _ _ _ (rule.if_else {l = l} {c = c} {t = t} {es = es} {fs = fs} {ts = ts} {us = us} {tys = tys} p q r n) =
        turned s l (tree.If c es fs) (ExprKind-F.If c es fs) tys (out_if c es fs)
        (record { test = t; yes = ts; no_exprs = us; typed_test = p; typed_yes = q; typed_no = r })
    inverted s _ _ _ (rule.tag_case {l = l} {ms = ms} {x = x} {e = e} {t = t} {arms = arms} {typed_arms = typed_arms} {last = last} {tags = tags} {tys = tys} {other = other} p q d all o c n) =
        let case = roll-TagCase (record { name = x; subject = e; arms = arms; otherwise = other }) in
        turned s l (tree.TagCase case) (ExprKind-F.TagCase case) tys (out_tag_case case)
        (subst (λ r. IsTagCase k forms denotes s r.name r.subject r.arms r.otherwise tys) (sym (out_case x e arms other))
        (record { members = ms; tree = t; typed_arms = typed_arms; last = last; tags = tags; typed = p; are_arms = q; distinct = d; all_named = all_named_in tags ms other all; otherwise = o }))
    inverted s _ _ _ (rule.for_product {l = l} {tys = tys} {gs = gs} {ds = ds} {cs = cs} {t = t} p) =
        loop_turned s l (loop.Product gs ds cs) (Loop-F.Product gs ds cs) tys (out_product gs ds cs) (record { tree = t; crosses = p })
    inverted s _ _ _ (rule.for_initial {started = started} {turned = after} {l = l} {first = first} {later = later} {tys = tys} is_first is_until {test = test} {t = t} {ds = ds} {es = es} {us = us} {vs = vs} {cs = cs} {forms = clauses} {ts = ts} p d q r e keeps c n) =
        let turn = roll-Turn (record { is_first = is_first; is_until = is_until; test = test; defs = es }) in
        loop_turned s l (loop.Initial ds turn cs) (Loop-F.Initial ds turn cs) tys (out_initial ds turn cs)
        (subst (λ r. IsInitial k forms denotes s ds r.test r.defs cs tys) (sym (out_turn is_first is_until test es))
        (record { started = started; turned = after; first = first; later = later; values = us; renewed = vs; tree = t; clauses = clauses; exprs = ts; defines = p; distinct = d; typed_test = q; turns = r; distinct_turn = e; keeps = keeps; results = c }))

    -- what a typing of an expression of a known form consists of
    pub view : (s : Scope) (l : ℕ) (kind : ExprKind) (v : ExprKind-F ExprKind Loop Arm Clause Def Elements Expr FieldValue Generator Mask TagCase Turn) (t : TypedExpr) (tys : List Ty)
        → out-ExprKind kind ≡ v → Types (at_table k forms) denotes s (at l kind) t tys → Inverted k forms denotes s l v tys
    view s l kind v t tys e p = subst (λ w. Inverted k forms denotes s l w tys) e (inverted s (at l kind) t tys p)

    pub view_array : (s : Scope) (l : ℕ) (x : Option ℕ) (low : Expr) (es : List Expr) (t : TypedExpr) (tys : List Ty)
        → Types (at_table k forms) denotes s (at l (tree.Array x (Some (roll-Elements (record { lower = low; values = es }))))) t tys → IsArray k forms denotes s x low es tys
    view_array s l x low es t tys p =
        let els = roll-Elements (record { lower = low; values = es }) in
        subst (λ r. IsArray k forms denotes s x r.lower r.values tys) (out_elements low es)
        (view s l (tree.Array x (Some els)) (ExprKind-F.Array x (Some els)) t tys (out_array x els) p)

    pub view_case : (s : Scope) (l : ℕ) (x : Option ℕ) (e : Expr) (arms : List Arm) (other : Option (List Expr)) (t : TypedExpr) (tys : List Ty)
        → Types (at_table k forms) denotes s (at l (tree.TagCase (roll-TagCase (record { name = x; subject = e; arms = arms; otherwise = other })))) t tys
        → IsTagCase k forms denotes s x e arms other tys
    view_case s l x e arms other t tys p =
        let case = roll-TagCase (record { name = x; subject = e; arms = arms; otherwise = other }) in
        subst (λ r. IsTagCase k forms denotes s r.name r.subject r.arms r.otherwise tys) (out_case x e arms other)
        (view s l (tree.TagCase case) (ExprKind-F.TagCase case) t tys (out_tag_case case) p)

    pub view_product : (s : Scope) (l : ℕ) (gs : List (List Generator)) (ds : List Def) (cs : List Clause) (t : TypedExpr) (tys : List Ty)
        → Types (at_table k forms) denotes s (at l (tree.For (loop.Product gs ds cs))) t tys → IsProduct k forms denotes s l gs ds cs tys
    view_product s l gs ds cs t tys p =
        subst (λ r. IsLoop k forms denotes s l r tys) (out_product gs ds cs)
        (view s l (tree.For (loop.Product gs ds cs)) (ExprKind-F.For (loop.Product gs ds cs)) t tys (out_for (loop.Product gs ds cs)) p)

    pub view_initial : (s : Scope) (l : ℕ) (ds : List Def) (is_first is_until : Bool) (test : Expr) (es : List Def) (cs : List Clause) (t : TypedExpr) (tys : List Ty)
        → Types (at_table k forms) denotes s (at l (tree.For (loop.Initial ds (roll-Turn (record { is_first = is_first; is_until = is_until; test = test; defs = es })) cs))) t tys
        → IsInitial k forms denotes s ds test es cs tys
    view_initial s l ds is_first is_until test es cs t tys p =
        let turn = roll-Turn (record { is_first = is_first; is_until = is_until; test = test; defs = es }) in
        subst (λ r. IsInitial k forms denotes s ds r.test r.defs cs tys) (out_turn is_first is_until test es)
        (subst (λ r. IsLoop k forms denotes s l r tys) (out_initial ds turn cs)
        (view s l (tree.For (loop.Initial ds turn cs)) (ExprKind-F.For (loop.Initial ds turn cs)) t tys (out_for (loop.Initial ds turn cs)) p))

    -- ---- parts

    pub definitions_of : (s : Scope) (ds : List Def) (us : List (List TypedExpr)) (tys : List Ty) (after : Scope) → Defines (at_table k forms) denotes s ds us tys after → DefinesIn k forms denotes s ds us tys after
    definitions_of s _ _ _ _ rule.no_def = record { types = refl; same = refl }
    definitions_of s _ _ _ after (rule.a_def xs {es = es} {ts = ts} {tys = tys} {others = others} {ds = ds} {us = us} p t q) =
        subst (λ r. IsDefinition k forms denotes s r.targets r.values ds (ts ∷ us) (tys ++ others) after) (sym (out_def xs es))
        (record { exprs = ts; made = tys; others = others; rest = us; typed = p; declared = t; later = q; types = refl })

    pub view_definitions : (s : Scope) (xs : List Target) (es : List Expr) (ds : List Def) (us : List (List TypedExpr)) (tys : List Ty) (after : Scope)
        → Defines (at_table k forms) denotes s (roll-Def (record { targets = xs; values = es }) ∷ ds) us tys after → IsDefinition k forms denotes s xs es ds us tys after
    view_definitions s xs es ds us tys after p =
        subst (λ r. IsDefinition k forms denotes s r.targets r.values ds us tys after) (out_def xs es)
        (definitions_of s (roll-Def (record { targets = xs; values = es }) ∷ ds) us tys after p)

    inside_of : (s : Scope) (l : ℕ) (gs : List (List Generator)) (ds : List Def) (cs : List Clause) (t : TypedExpr) (inner tys : List Ty) (clauses : List ClauseForm)
        → Crosses (at_table k forms) denotes s l gs ds cs t inner → Folds cs inner clauses tys → IsInside k forms denotes s l gs ds cs tys
    inside_of s l [] ds cs t inner tys clauses p f = absurd (some_group (at_table k forms) denotes s l [] ds cs t inner p)
    inside_of s l (g ∷ gs) ds cs t inner tys clauses p f = record { tree = t; inner = inner; clauses = clauses; crosses = p; folds = f }

    pub crossed_of : (s : Scope) (l : ℕ) (gs : List (List Generator)) (ds : List Def) (cs : List Clause) (t : TypedExpr) (tys : List Ty)
        → Crosses (at_table k forms) denotes s l gs ds cs t tys → CrossesIn k forms denotes s l gs ds cs tys
    crossed_of s l _ ds cs _ tys (rule.one_group {inside = inside} {names = names} {tys = us} {made = made} {sources = sources} {bounds = bounds} {us = values} {forms = clauses} {ts = ts} p d q e c n) = record {
      names = names;
      made = us;
      sources = sources;
      bounds = bounds;
      generates = p;
      distinct = d;
      inside = record { inside = inside; made = made; values = values; clauses = clauses; exprs = ts; defines = q; distinct = e; results = c };
    }
    crossed_of s l _ ds cs _ tys (rule.a_group {names = names} {tys = us} {inner = inner} {gs = gs} {sources = sources} {bounds = bounds} {forms = clauses} {t = t} p d q f n) = record {
      names = names;
      made = us;
      sources = sources;
      bounds = bounds;
      generates = p;
      distinct = d;
      inside = inside_of (define_all names us s) l gs ds cs t inner tys clauses q f;
    }

    pub generated_of : (s : Scope) (gs : List Generator) (sources : List Source) (bounds : List TypedExpr) (names : List ℕ) (tys : List Ty)
        → Generates (at_table k forms) denotes s gs sources bounds names tys → GeneratesIn k forms denotes s gs names tys
    generated_of s _ _ _ _ _ rule.no_generator = record { is_names = refl; is_types = refl }
    generated_of s _ _ _ _ _ (rule.range n {e = e} {f = f} {t = t} {u = u} {names = names} {tys = tys} {gs = gs} {sources = sources} {bounds = bounds} p q r) =
        subst (λ r. IsGenerator k forms denotes s r.name r.from r.to r.at gs (n.name ∷ names) (ty.Int ∷ tys)) (sym (out_generator n e (Some f) None))
        (record { from = t; to = u; others = names; types = tys; sources = sources; bounds = bounds; typed_from = p; typed_to = q; later = r; is_names = refl; is_types = refl })
    generated_of s _ _ _ _ _ (rule.elements n {a = a} {b = b} {e = e} {t = t} {names = names} {tys = tys} {gs = gs} {sources = sources} {bounds = bounds} p q r) =
        subst (λ r. IsGenerator k forms denotes s r.name r.from r.to r.at gs (n.name ∷ names) (b ∷ tys)) (sym (out_generator n e None None))
        (record { whole = a; element = b; tree = t; others = names; types = tys; sources = sources; bounds = bounds; typed = p; sequence = q; later = r; is_names = refl; is_types = refl })
    generated_of s _ _ _ _ _ (rule.indexed n {i = i} {a = a} {b = b} {e = e} {t = t} {names = names} {tys = tys} {gs = gs} {sources = sources} {bounds = bounds} p q r) =
        subst (λ r. IsGenerator k forms denotes s r.name r.from r.to r.at gs (n.name ∷ i ∷ names) (b ∷ ty.Int ∷ tys)) (sym (out_generator n e None (Some i)))
        (record { whole = a; element = b; tree = t; others = names; types = tys; sources = sources; bounds = bounds; typed = p; sequence = q; later = r; is_names = refl; is_types = refl })

    pub view_generators : (s : Scope) (n : Named) (e : Expr) (to : Option Expr) (i : Option ℕ) (gs : List Generator) (sources : List Source) (bounds : List TypedExpr) (names : List ℕ) (tys : List Ty)
        → Generates (at_table k forms) denotes s (roll-Generator (record { name = n; from = e; to = to; at = i }) ∷ gs) sources bounds names tys
        → IsGenerator k forms denotes s n e to i gs names tys
    view_generators s n e to i gs sources bounds names tys p =
        subst (λ r. IsGenerator k forms denotes s r.name r.from r.to r.at gs names tys) (out_generator n e to i)
        (generated_of s (roll-Generator (record { name = n; from = e; to = to; at = i }) ∷ gs) sources bounds names tys p)

    pub clauses_of : (s : Scope) (cs : List Clause) (clauses : List ClauseForm) (ts : List TypedExpr) (tys : List Ty) → AreClauses (at_table k forms) denotes s cs clauses ts tys → ClausesIn k forms denotes s cs tys
    clauses_of s _ _ _ _ rule.no_clause = refl
    clauses_of s _ _ _ _ (rule.a_clause l {kind = kind} {a = a} {b = b} {e = e} {t = t} {m = m} {masks = masks} {cs = cs} {forms = clauses} {ts = ts} {tys = tys} p h d q r) =
        subst (λ r. IsClause k forms denotes s r.kind r.value r.mask cs (b ∷ tys)) (sym (out_clause l kind e m))
        (record { value = a; made = b; tree = t; masks = masks; clauses = clauses; exprs = ts; others = tys; typed = p; makes = h; shallow = d; mask = q; later = r; types = refl })

    pub view_clauses : (s : Scope) (l : ℕ) (kind : ClauseKind) (e : Expr) (m : Option Mask) (cs : List Clause) (clauses : List ClauseForm) (ts : List TypedExpr) (tys : List Ty)
        → AreClauses (at_table k forms) denotes s (roll-Clause (record { line = l; kind = kind; value = e; mask = m }) ∷ cs) clauses ts tys → IsClause k forms denotes s kind e m cs tys
    view_clauses s l kind e m cs clauses ts tys p =
        subst (λ r. IsClause k forms denotes s r.kind r.value r.mask cs tys) (out_clause l kind e m)
        (clauses_of s (roll-Clause (record { line = l; kind = kind; value = e; mask = m }) ∷ cs) clauses ts tys p)

    pub arms_of : (s : Scope) (x : Option ℕ) (ms : List Member) (tys : List Ty) (arms : List Arm) (us : List (List TypedExpr)) (tags : List (List ℕ))
        → AreArms (at_table k forms) denotes s x ms tys arms us tags → ArmsIn k forms denotes s x ms tys arms tags
    arms_of s x ms tys _ _ _ rule.no_arm = refl
    arms_of s x ms tys _ _ _ (rule.an_arm l content names {es = es} {ts = ts} {arms = arms} {typed_arms = us} {tags = tags} o t p q) =
        subst (λ r. IsArm k forms denotes s x ms tys r.tags r.results arms (names_of names ∷ tags)) (sym (out_arm l names es))
        (record { content = content; exprs = ts; typed_arms = us; others = tags; tagged = o; contents = tags_in ms content (names_of names) t; typed = p; later = q; is_tags = refl })

    pub view_arms : (s : Scope) (x : Option ℕ) (ms : List Member) (tys : List Ty) (l : ℕ) (names : List Named) (es : List Expr) (arms : List Arm) (us : List (List TypedExpr)) (tags : List (List ℕ))
        → AreArms (at_table k forms) denotes s x ms tys (roll-Arm (record { line = l; tags = names; results = es }) ∷ arms) us tags
        → IsArm k forms denotes s x ms tys names es arms tags
    view_arms s x ms tys l names es arms us tags p =
        subst (λ r. IsArm k forms denotes s x ms tys r.tags r.results arms tags) (out_arm l names es)
        (arms_of s x ms tys (roll-Arm (record { line = l; tags = names; results = es }) ∷ arms) us tags p)

    -- the loop behind a group before others
    pub inner_of : (g : List Form) (s : Scope) (l : ℕ) (gs : List (List Generator)) (ds : List Def) (cs : List Clause) (t : TypedExpr) (inner tys : List Ty)
        → Crosses (at_table k g) denotes s l gs ds cs t inner → (r : Scope) → IsInside k forms denotes r l gs ds cs tys → IsInnerLoop k forms denotes r l gs ds cs tys
    inner_of g s l [] ds cs t inner tys p r i = absurd (some_group (at_table k g) denotes s l [] ds cs t inner p)
    inner_of g s l (h ∷ gs) ds cs t inner tys p r i = i

    pub first_of : (s : Scope) (es : List Expr) (ts : List TypedExpr) (tys : List Ty) → AreTyped (at_table k forms) denotes s es ts tys → TypedIn k forms denotes s es tys
    first_of s _ _ _ rule.no_more = refl
    first_of s _ _ _ (rule.more {e = e} {t = t} {tys = tys} {others = others} {es = es} {ts = ts} p q) = record { tree = t; made = tys; trees = ts; others = others; typed = p; later = q; types = refl }

    pub fields_of : (s : Scope) (vs : List FieldValue) (ts : List TypedExpr) (ms : List Member) → HasFields (at_table k forms) denotes s vs ts ms → FieldsIn k forms denotes s vs ms
    fields_of s _ _ _ rule.no_member = refl
    fields_of s _ _ _ (rule.a_member {n = n} {spelling = spelling} {a = a} {e = e} {t = t} {vs = vs} {ts = ts} {ms = ms} h p q) =
        record { spelling = spelling; type = a; tree = t; trees = ts; others = ms; spelled = h; typed = p; later = q; members = refl }

    pub changed_of : (s : Scope) (ms : List Member) (vs : List FieldValue) (places : List ℕ) (us : List TypedExpr) → Replaces (at_table k forms) denotes s ms vs places us → ReplacesIn k forms denotes s ms vs
    changed_of s ms _ _ _ rule.no_field = tt
    changed_of s ms _ _ _ (rule.a_field {n = n} {place = place} {a = a} {e = e} {t = t} {vs = vs} {places = places} {us = us} h p q) =
        record { place = place; type = a; tree = t; places = places; trees = us; has = has_in ms n.name place a h; typed = p; later = q }

    pub mask_of : (s : Scope) (m : Option Mask) (ts : List TypedExpr) → IsMask (at_table k forms) denotes s m ts → MaskIn k forms denotes s m
    mask_of s _ _ rule.no_mask = tt
    mask_of s _ _ (rule.a_mask {t = t} p) = record { tree = t; typed = p }
