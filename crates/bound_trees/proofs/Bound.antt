-- Typed trees are bound where the levels of the names in force are those in use, and the leaves are literals.
use Rattle.std.proofs.Common.{◌≡◌, ◌≤◌, ℕ, suc, ◌+◌, Bool, List, [], ◌∷◌, ◌++◌, map, Option, Some, None, All, length, refl, sym, ap, subst, ◌∙◌, arith}
use Rattle.std.proofs.lemmas.List.{length-map}
use Rattle.std.proofs.lemmas.Option.{slice_get_within}
use Rattle.flow_value.specs.declared.ty.Ty.{Ty}
use Rattle.flow_value.specs.declared.ty.Ty.TheVariants as ty
use Rattle.sisal_tree.specs.declared.unit.Written.{Written}
use Rattle.sisal_tree.specs.declared.expr.Expr.{Expr}
use Rattle.sisal_tree.specs.declared.expr.FieldValue.{FieldValue}
use Rattle.sisal_tree.specs.declared.expr.Def.{Def, roll-Def}
use Rattle.sisal_tree.specs.declared.expr.Arm.{Arm, roll-Arm}
use Rattle.sisal_tree.specs.declared.expr.Generator.{Generator, roll-Generator}
use Rattle.sisal_tree.specs.declared.expr.Clause.{Clause, roll-Clause}
use Rattle.sisal_tree.specs.declared.expr.ClauseKind.{ClauseKind}
use Rattle.sisal_tree.specs.declared.expr.ExprKind.TheVariants as tree
use Rattle.sisal_tree.specs.declared.expr.Mask.{Mask}
use Rattle.typed_tree.specs.declared.expr.TypedExpr.{TypedExpr}
use Rattle.typed_tree.specs.declared.expr.Source.{Source}
use Rattle.typed_tree.specs.declared.expr.ClauseForm.{ClauseForm}
use Rattle.typed_tree.specs.Scopes.{Scope, define_all, targets, in_turn, renewals}
use Rattle.typed_tree.specs.Types.{Member, prefix_type}
use Rattle.typed_tree.specs.Typing as rule
use Rattle.typed_tree.specs.Typing.{Known, at, names_in, loop_of, named_arms, with_content, Types, AreTyped, Replaces, HasFields, Defines, Crosses, Generates, AreClauses, IsMask, IsOtherwise}
use Rattle.typed_tree.specs.Typing.{AreArms as AreTypedArms}
use Rattle.sisal_tree.specs.declared.expr.Elements.{roll-Elements}
use Rattle.sisal_tree.specs.declared.expr.TagCase.{roll-TagCase}
use Rattle.sisal_tree.specs.declared.expr.Turn.{roll-Turn}
use Rattle.sisal_tree.specs.declared.expr.Loop.TheVariants as loop
use Rattle.bound_trees.specs.Leaves.{IsWritten, a_constant, a_record, a_change, a_case, Leaves, leaves}
use Rattle.bound_trees.proofs.Every.{left, right}
use Rattle.bound_trees.proofs.Forms.{exprs_leaves, values_leaves, value_leaves, defs_leaves, def_leaves, arms_leaves, arm_leaves, clauses_leaves, clause_leaves, generators_leaves, generator_leaves, group_leaves, groups_leaves, turn_leaves, mask_leaves, elements_leaves, case_leaves, loop_leaves, of_value, of_mask, of_arm, of_no_mask, of_a_mask, of_def, of_elements, of_no_end, of_an_end, of_no_otherwise, of_an_otherwise, of_turn, in_constant, in_group, in_call, in_convert, in_is_error, in_is_tag, in_prefix, in_binary, in_select, in_update, in_field, in_replace, in_array, in_stream, in_record, in_union, in_let, in_if, in_tag_case, in_for, in_product, in_initial}
use Rattle.bound_trees.proofs.Literals.{Fine, IfFine}
use Rattle.bound_trees.specs.Bound as is
use Rattle.bound_trees.specs.Bound.{values_in, levels_in, levels_over, IsRenewal, IsBound, AreBound, AreDefined, AreArms}
use Rattle.bound_trees.proofs.Counts.{all_counted, targets_counted, levels_counted, defined_counted, generated_counted}
use Rattle.bound_trees.proofs.Levels.{IsLow, level_below, defined_low, defined_height, content_low, turn_low, renewals_counted, loop_renewals}
use Rattle.bound_trees.proofs.Choices.{choices_there}
use Rattle.bound_trees.proofs.Written.{prefix_written, convert_written, binary_written, built_in_written, replaced_counted, fields_counted, arms_there}

-- ---- the leaves of parts

broken : (xs ys : Leaves) → xs ≡ ys → Fine xs → Fine ys
broken xs ys e p = subst Fine e p

first : (xs ys zs : Leaves) → xs ≡ ys ++ zs → Fine xs → Fine ys
first xs ys zs e p = left IsWritten ys zs (subst Fine e p)

second : (xs ys zs : Leaves) → xs ≡ ys ++ zs → Fine xs → Fine zs
second xs ys zs e p = right IsWritten ys zs (subst Fine e p)

third : (ws xs ys zs : Leaves) → ws ≡ xs ++ (ys ++ zs) → Fine ws → Fine zs
third ws xs ys zs e p = right IsWritten ys zs (second ws xs (ys ++ zs) e p)

middle : (ws xs ys zs : Leaves) → ws ≡ xs ++ (ys ++ zs) → Fine ws → Fine ys
middle ws xs ys zs e p = left IsWritten ys zs (second ws xs (ys ++ zs) e p)

case_part : (l : ℕ) (x : Option ℕ) (e : Expr) (arms : List Arm) (other : Option (List Expr)) → Fine (leaves (at l (tree.TagCase (roll-TagCase (record { name = x; subject = e; arms = arms; otherwise = other })))))
    → Fine (leaves e) × Fine (arms_leaves arms) × IfFine (λ es. Fine (exprs_leaves es)) other × (1 ≤ length arms)
case_part l x e arms None p =
    let c = roll-TagCase (record { name = x; subject = e; arms = arms; otherwise = None }) in
    let q = broken (leaves (at l (tree.TagCase c))) (case_leaves c) (in_tag_case l c) p in
    let r = broken (case_leaves c) (a_case (length arms) ∷ leaves e ++ (arms_leaves arms ++ [])) (of_no_otherwise x e arms) q in
    let last = right IsWritten (leaves e) (arms_leaves arms ++ []) r.1 in
    (left IsWritten (leaves e) (arms_leaves arms ++ []) r.1, left IsWritten (arms_leaves arms) [] last, tt, r.0)
case_part l x e arms (Some es) p =
    let c = roll-TagCase (record { name = x; subject = e; arms = arms; otherwise = Some es }) in
    let q = broken (leaves (at l (tree.TagCase c))) (case_leaves c) (in_tag_case l c) p in
    let r = broken (case_leaves c) (a_case (length arms) ∷ leaves e ++ (arms_leaves arms ++ exprs_leaves es)) (of_an_otherwise x e arms es) q in
    let last = right IsWritten (leaves e) (arms_leaves arms ++ exprs_leaves es) r.1 in
    (left IsWritten (leaves e) (arms_leaves arms ++ exprs_leaves es) r.1, left IsWritten (arms_leaves arms) (exprs_leaves es) last, right IsWritten (arms_leaves arms) (exprs_leaves es) last, r.0)

product_parts : (l : ℕ) (gs : List (List Generator)) (ds : List Def) (cs : List Clause) → Fine (leaves (at l (tree.For (loop.Product gs ds cs))))
    → Fine (groups_leaves gs) × Fine (defs_leaves ds) × Fine (clauses_leaves cs)
product_parts l gs ds cs p =
    let x = loop_leaves (loop.Product gs ds cs) in
    let q = broken (leaves (at l (tree.For (loop.Product gs ds cs)))) x (in_for l (loop.Product gs ds cs)) p in
    let same = in_product gs ds cs in (
      first x (groups_leaves gs) (defs_leaves ds ++ clauses_leaves cs) same q,
      middle x (groups_leaves gs) (defs_leaves ds) (clauses_leaves cs) same q,
      third x (groups_leaves gs) (defs_leaves ds) (clauses_leaves cs) same q,
    )

initial_parts : (l : ℕ) (ds : List Def) (a b : Bool) (test : Expr) (es : List Def) (cs : List Clause)
    → Fine (leaves (at l (tree.For (loop.Initial ds (roll-Turn (record { is_first = a; is_until = b; test = test; defs = es })) cs))))
    → Fine (defs_leaves ds) × Fine (leaves test) × Fine (defs_leaves es) × Fine (clauses_leaves cs)
initial_parts l ds a b test es cs p =
    let t = roll-Turn (record { is_first = a; is_until = b; test = test; defs = es }) in
    let x = loop_leaves (loop.Initial ds t cs) in
    let q = broken (leaves (at l (tree.For (loop.Initial ds t cs)))) x (in_for l (loop.Initial ds t cs)) p in
    let same = in_initial ds t cs in
    let turn = middle x (defs_leaves ds) (turn_leaves t) (clauses_leaves cs) same q in (
      first x (defs_leaves ds) (turn_leaves t ++ clauses_leaves cs) same q,
      first (turn_leaves t) (leaves test) (defs_leaves es) (of_turn a b test es) turn,
      second (turn_leaves t) (leaves test) (defs_leaves es) (of_turn a b test es) turn,
      third x (defs_leaves ds) (turn_leaves t) (clauses_leaves cs) same q,
    )

mask_part : (l : ℕ) (k : ClauseKind) (e : Expr) (m : Option Mask) → Fine (clause_leaves (roll-Clause (record { line = l; kind = k; value = e; mask = m })))
    → Fine (leaves e) × IfFine (λ m. Fine (mask_leaves m)) m
mask_part l k e None p = (first (clause_leaves (roll-Clause (record { line = l; kind = k; value = e; mask = None }))) (leaves e) [] (of_no_mask l k e) p, tt)
mask_part l k e (Some m) p =
    let x = clause_leaves (roll-Clause (record { line = l; kind = k; value = e; mask = Some m })) in
    (first x (leaves e) (mask_leaves m) (of_a_mask l k e m) p, second x (leaves e) (mask_leaves m) (of_a_mask l k e m) p)

-- ---- trees

module _ (functions : ℕ) where
  moved : (n m : ℕ) (ts : List TypedExpr) → n ≡ m → AreBound functions n ts → AreBound functions m ts
  moved n m ts e p = subst (λ z. AreBound functions z ts) e p

  defined_at : (n m : ℕ) (us : List (List TypedExpr)) → n ≡ m → AreDefined functions n us → AreDefined functions m us
  defined_at n m us e p = subst (λ z. AreDefined functions z us) e p

  one : (n : ℕ) (t : TypedExpr) → IsBound functions n t → AreBound functions n (t ∷ [])
  one n t p = is.more p is.no_more

  both : (n : ℕ) (ts us : List TypedExpr) → AreBound functions n ts → AreBound functions n us → AreBound functions n (ts ++ us)
  both n _ us is.no_more q = q
  both n _ us (is.more {ts = ts} p ps) q = is.more p (both n ts us ps q)

-- a group of generators has as many sources
sources_counted : (k : Known) (denotes : Written → Ty → Type 0) (s : Scope) (gs : List Generator) (sources : List Source) (bounds : List TypedExpr) (names : List ℕ) (tys : List Ty) → Generates k denotes s gs sources bounds names tys → length sources ≡ length gs
sources_counted k denotes s _ _ _ _ _ rule.no_generator = refl
sources_counted k denotes s _ _ _ _ _ (rule.range n {names = names} {tys = tys} {gs = gs} {sources = sources} {bounds = bounds} p q r) = ap suc (sources_counted k denotes s gs sources bounds names tys r)
sources_counted k denotes s _ _ _ _ _ (rule.elements n {names = names} {tys = tys} {gs = gs} {sources = sources} {bounds = bounds} p q r) = ap suc (sources_counted k denotes s gs sources bounds names tys r)
sources_counted k denotes s _ _ _ _ _ (rule.indexed n {names = names} {tys = tys} {gs = gs} {sources = sources} {bounds = bounds} p q r) = ap suc (sources_counted k denotes s gs sources bounds names tys r)

some_sources : (k : Known) (denotes : Written → Ty → Type 0) (s : Scope) (gs : List Generator) (sources : List Source) (bounds : List TypedExpr) (names : List ℕ) (tys : List Ty) → Generates k denotes s gs sources bounds names tys → 1 ≤ length (map generator_leaves gs)
    → 1 ≤ length sources
some_sources k denotes s gs sources bounds names tys p some = let same = length-map gs generator_leaves in let count = sources_counted k denotes s gs sources bounds names tys p in omega (arith, some, same, count)

-- what definitions lead to
record Leads (functions : ℕ) (s : Scope) (us : List (List TypedExpr)) (after : Scope) : Type 0 where
  bound : AreDefined functions s.height us
  height : after.height ≡ s.height + levels_in us
  low : IsLow after

module _ (k : Known) (denotes : Written → Ty → Type 0) (functions : ℕ) (many : length k.functions ≡ functions) where
  mutual
    pub bound : (s : Scope) (e : Expr) (t : TypedExpr) (tys : List Ty) → Types k denotes s e t tys → IsLow s → Fine (leaves e) → IsBound functions s.height t
    bound s _ _ _ (rule.constant {l = l} {c = c} n) sc lit = is.constant (broken (leaves (at l (tree.Constant c))) (a_constant c ∷ []) (in_constant l c) lit).0
    bound s _ _ _ (rule.name {x = x} {level = level} {a = a} h n) sc lit = is.value (level_below s.height x s.names level a sc.names h)
    bound s _ _ _ (rule.old {x = x} {level = level} {a = a} h n) sc lit = is.value (level_below s.height x s.olds level a sc.olds h)
    bound s _ _ _ (rule.group {l = l} {e = e} {t = t} {tys = tys} p n) sc lit = is.group (one functions s.height t (bound s e t tys p sc (broken (leaves (at l (tree.Group e))) (leaves e) (in_group l e) lit)))
    bound s _ _ _ (rule.call {l = l} {x = x} {n = i} {f = f} {es = es} {ts = ts} h p n) sc lit =
        let there = slice_get_within k.functions i f h.there in
        is.call (omega (arith, there, many)) (all_bound s es ts f.params p sc (broken (leaves (at l (tree.Call x es))) (exprs_leaves es) (in_call l x es) lit))
    bound s _ _ _ (rule.built_in {l = l} {x = x} {b = b} {es = es} {ts = ts} {tys = tys} h p g d n) sc lit =
        is.apply (all_bound s es ts tys p sc (broken (leaves (at l (tree.Call x es))) (exprs_leaves es) (in_call l x es) lit)) (built_in_written b (length ts))
    bound s _ _ _ (rule.convert {l = l} {a = a} {c = c} {e = e} {t = t} p h n) sc lit = is.apply (one functions s.height t (bound s e t (a ∷ []) p sc (broken (leaves (at l (tree.Convert c e))) (leaves e) (in_convert l c e) lit))) (convert_written c 1)
    bound s _ _ _ (rule.error_of h n) sc lit = is.apply is.no_more tt
    bound s _ _ _ (rule.is_error {l = l} {a = a} {e = e} {t = t} p n) sc lit = is.apply (one functions s.height t (bound s e t (a ∷ []) p sc (broken (leaves (at l (tree.IsError e))) (leaves e) (in_is_error l e) lit))) tt
    bound s _ _ _ (rule.is_tag {l = l} {x = x} {ms = ms} {e = e} {t = t} p h n) sc lit = is.apply (one functions s.height t (bound s e t (ty.Uni ms ∷ []) p sc (broken (leaves (at l (tree.IsTag x e))) (leaves e) (in_is_tag l x e) lit))) tt
    bound s _ _ _ (rule.prefix {l = l} {o = o} {e = e} {t = t} p n) sc lit = is.apply (one functions s.height t (bound s e t (prefix_type o ∷ []) p sc (broken (leaves (at l (tree.Prefix o e))) (leaves e) (in_prefix l o e) lit))) (prefix_written o 1)
    bound s _ _ _ (rule.binary {l = l} {a = a} {o = o} {e = e} {f = f} {t = t} {u = u} p q h n) sc lit =
        is.apply (is.more (bound s e t (a ∷ []) p sc (first (leaves (at l (tree.Binary o e f))) (leaves e) (leaves f) (in_binary l o e f) lit))
        (one functions s.height u (bound s f u (a ∷ []) q sc (second (leaves (at l (tree.Binary o e f))) (leaves e) (leaves f) (in_binary l o e f) lit)))) (binary_written o 2)
    bound s _ _ _ (rule.select {l = l} {a = a} {e = e} {i = i} {t = t} {u = u} p q n) sc lit =
        is.apply (is.more (bound s e t (ty.Arr a ∷ []) p sc (first (leaves (at l (tree.Select e i))) (leaves e) (leaves i) (in_select l e i) lit))
        (one functions s.height u (bound s i u (ty.Int ∷ []) q sc (second (leaves (at l (tree.Select e i))) (leaves e) (leaves i) (in_select l e i) lit)))) tt
    bound s _ _ _ (rule.update {l = l} {a = a} {e = e} {i = i} {f = f} {t = t} {u = u} {v = v} p q r n) sc lit =
        is.apply (is.more (bound s e t (ty.Arr a ∷ []) p sc (first (leaves (at l (tree.Update e i f))) (leaves e) (leaves i ++ leaves f) (in_update l e i f) lit))
        (is.more (bound s i u (ty.Int ∷ []) q sc (middle (leaves (at l (tree.Update e i f))) (leaves e) (leaves i) (leaves f) (in_update l e i f) lit))
        (one functions s.height v (bound s f v (a ∷ []) r sc (third (leaves (at l (tree.Update e i f))) (leaves e) (leaves i) (leaves f) (in_update l e i f) lit))))) tt
    bound s _ _ _ (rule.field {l = l} {x = x} {ms = ms} {e = e} {t = t} p h n) sc lit = is.apply (one functions s.height t (bound s e t (ty.Rec ms ∷ []) p sc (broken (leaves (at l (tree.Field e x))) (leaves e) (in_field l e x) lit))) tt
    bound s _ _ _ (rule.replace {l = l} {ms = ms} {e = e} {t = t} {vs = vs} {places = places} {us = us} p q d n) sc lit =
        let parts = broken (leaves (at l (tree.Replace e vs))) (a_change (length vs) ∷ leaves e ++ values_leaves vs) (in_replace l e vs) lit in
        let some = parts.0 in let same = replaced_counted k denotes s ms vs places us q in
        is.apply (is.more (bound s e t (ty.Rec ms ∷ []) p sc (left IsWritten (leaves e) (values_leaves vs) parts.1))
        (replaced_bound s ms vs places us q sc (right IsWritten (leaves e) (values_leaves vs) parts.1))) (omega (arith, some, same))
    bound s _ _ _ (rule.empty_array a h n) sc lit = is.apply is.no_more tt
    bound s _ _ _ (rule.array {l = l} {a = a} {tys = tys} {x = x} {low = low} {t = t} {es = es} {ts = ts} p q same h d n) sc lit =
        let els = roll-Elements (record { lower = low; values = es }) in
        let parts = broken (leaves (at l (tree.Array x (Some els)))) (elements_leaves els) (in_array l x els) lit in
        is.apply (is.more (bound s low t (ty.Int ∷ []) p sc (first (elements_leaves els) (leaves low) (exprs_leaves es) (of_elements low es) parts))
        (all_bound s es ts (a ∷ tys) q sc (second (elements_leaves els) (leaves low) (exprs_leaves es) (of_elements low es) parts))) tt
    bound s _ _ _ (rule.empty_stream a h n) sc lit = is.apply is.no_more tt
    bound s _ _ _ (rule.stream {l = l} {a = a} {tys = tys} {x = x} {es = es} {ts = ts} q same h d n) sc lit =
        is.apply (all_bound s es ts (a ∷ tys) q sc (broken (leaves (at l (tree.Stream x es))) (exprs_leaves es) (in_stream l x es) lit)) tt
    bound s _ _ _ (rule.a_record {l = l} {x = x} {ms = ms} {vs = vs} {ts = ts} p d h deep n) sc lit =
        let parts = broken (leaves (at l (tree.Record x vs))) (a_record (length vs) ∷ values_leaves vs) (in_record l x vs) lit in
        let few = parts.0 in let same = fields_counted k denotes s vs ts ms p in
        is.apply (fields_bound s vs ts ms p sc parts.1) (omega (arith, few, same))
    bound s _ _ _ (rule.union {l = l} {x = x} {tag = tag} {content = content} {e = e} {t = t} h has p n) sc lit =
        is.apply (one functions s.height t (bound s e t (content ∷ []) p sc (broken (leaves (at l (tree.Union x tag e))) (leaves e) (in_union l x tag e) lit))) tt
    bound s _ _ _ (rule.let_in {after = after} {l = l} {ds = ds} {us = us} {made = made} {tys = tys} {es = es} {ts = ts} p d q n) sc lit =
        let begin = definitions_bound s ds us made after p sc (first (leaves (at l (tree.Let ds es))) (defs_leaves ds) (exprs_leaves es) (in_let l ds es) lit) in
        is.let_in begin.bound (moved functions after.height (s.height + levels_in us) ts begin.height (all_bound after es ts tys q begin.low (second (leaves (at l (tree.Let ds es))) (defs_leaves ds) (exprs_leaves es) (in_let l ds es) lit)))
    bound s _ _ _ (rule.if_else {l = l} {c = c} {t = t} {es = es} {fs = fs} {ts = ts} {us = us} {tys = tys} p q r n) sc lit =
        is.if_else (one functions s.height t (bound s c t (ty.Bool ∷ []) p sc (first (leaves (at l (tree.If c es fs))) (leaves c) (exprs_leaves es ++ exprs_leaves fs) (in_if l c es fs) lit)))
        (all_bound s es ts tys q sc (middle (leaves (at l (tree.If c es fs))) (leaves c) (exprs_leaves es) (exprs_leaves fs) (in_if l c es fs) lit))
        (all_bound s fs us tys r sc (third (leaves (at l (tree.If c es fs))) (leaves c) (exprs_leaves es) (exprs_leaves fs) (in_if l c es fs) lit))
    bound s _ _ _ (rule.tag_case {l = l} {ms = ms} {x = x} {e = e} {t = t} {arms = arms} {typed_arms = us} {last = last} {tags = tags} {choices = choices} {tys = tys} {other = other} p q d all o c n) sc lit =
        let parts = case_part l x e arms other lit in
        is.tag_case (one functions s.height t (bound s e t (ty.Uni ms ∷ []) p sc parts.0)) (arms_bound s x ms tys arms us tags q sc parts.1 last (last_bound s tys other last o sc parts.2))
        (choices_there k denotes s x ms tys arms us last tags choices q c.each) (arms_there k denotes s x ms tys arms us last tags q parts.3)
    bound s _ _ _ (rule.for_product {l = l} {tys = tys} {gs = gs} {ds = ds} {cs = cs} {t = t} p) sc lit =
        let parts = product_parts l gs ds cs lit in crossed_bound s l gs ds cs t tys p sc parts.0 parts.1 parts.2
    bound s _ _ _ (rule.for_initial {started = started} {turned = turned} {l = l} {first = firsts} {later = later} {tys = tys} is_first is_until {test = test} {t = t} {ds = ds} {es = es} {us = us} {vs = vs} {cs = cs} {forms = clauses} {ts = ts} p d q r e keeps c n) sc lit =
        let parts = initial_parts l ds is_first is_until test es cs lit in
        let begin = definitions_bound s ds us firsts started p sc parts.0 in
        let many_first = levels_counted k denotes s ds us firsts started p in
        let height = begin.height in
        let scope = in_turn (loop_of s ds firsts) (targets es) started in
        let turn = definitions_bound scope es vs later turned r (turn_low s started ds firsts (targets es) (omega (arith, height, many_first)) begin.low) parts.2 in
        let as_many = defined_counted k denotes scope es vs later turned r in
        let many_later = levels_counted k denotes scope es vs later turned r in
        is.initial begin.bound
        (moved functions started.height (s.height + levels_in us) (t ∷ []) height (one functions started.height t (bound started test t (ty.Bool ∷ []) q begin.low parts.1)))
        (defined_at functions started.height (s.height + levels_in us) vs height turn.bound)
        (moved functions started.height (s.height + levels_in us) ts height (clauses_bound started cs clauses ts tys c begin.low parts.3))
        (renewals_counted (loop_of s ds firsts) s.height (targets es) ∙ as_many ∙ sym many_later)
        (subst (λ m. All (IsRenewal m) (renewals (loop_of s ds firsts) s.height (targets es))) (sym many_first) (loop_renewals s ds firsts (targets es)))

    pub all_bound : (s : Scope) (es : List Expr) (ts : List TypedExpr) (tys : List Ty) → AreTyped k denotes s es ts tys → IsLow s → Fine (exprs_leaves es) → AreBound functions s.height ts
    all_bound s _ _ _ rule.no_more sc lit = is.no_more
    all_bound s _ _ _ (rule.more {e = e} {t = t} {tys = tys} {others = others} {es = es} {ts = ts} p q) sc lit =
        is.more (bound s e t tys p sc (left IsWritten (leaves e) (exprs_leaves es) lit)) (all_bound s es ts others q sc (right IsWritten (leaves e) (exprs_leaves es) lit))

    replaced_bound : (s : Scope) (ms : List Member) (vs : List FieldValue) (places : List ℕ) (us : List TypedExpr) → Replaces k denotes s ms vs places us → IsLow s → Fine (values_leaves vs) → AreBound functions s.height us
    replaced_bound s ms _ _ _ rule.no_field sc lit = is.no_more
    replaced_bound s ms _ _ _ (rule.a_field {n = n} {a = a} {e = e} {t = t} {vs = vs} {places = places} {us = us} h p q) sc lit =
        let v = value_leaves (record { field = n; value = e }) in
        is.more (bound s e t (a ∷ []) p sc (broken v (leaves e) (of_value n e) (left IsWritten v (values_leaves vs) lit))) (replaced_bound s ms vs places us q sc (right IsWritten v (values_leaves vs) lit))

    fields_bound : (s : Scope) (vs : List FieldValue) (ts : List TypedExpr) (ms : List Member) → HasFields k denotes s vs ts ms → IsLow s → Fine (values_leaves vs) → AreBound functions s.height ts
    fields_bound s _ _ _ rule.no_member sc lit = is.no_more
    fields_bound s _ _ _ (rule.a_member {n = n} {a = a} {e = e} {t = t} {vs = vs} {ts = ts} {ms = ms} h p q) sc lit =
        let v = value_leaves (record { field = n; value = e }) in
        is.more (bound s e t (a ∷ []) p sc (broken v (leaves e) (of_value n e) (left IsWritten v (values_leaves vs) lit))) (fields_bound s vs ts ms q sc (right IsWritten v (values_leaves vs) lit))

    definitions_bound : (s : Scope) (ds : List Def) (us : List (List TypedExpr)) (tys : List Ty) (after : Scope) → Defines k denotes s ds us tys after → IsLow s → Fine (defs_leaves ds) → Leads functions s us after
    definitions_bound s _ _ _ _ rule.no_def sc lit = record { bound = is.no_def; height = omega arith; low = sc }
    definitions_bound s _ _ _ after (rule.a_def xs {es = es} {ts = ts} {tys = tys} {others = others} {ds = ds} {us = us} p t q) sc lit =
        let d = def_leaves (roll-Def (record { targets = xs; values = es })) in
        let values = all_counted k denotes s es ts tys p in
        let inside = define_all (names_in xs) tys s in
        let up = defined_height (names_in xs) tys s (targets_counted denotes xs tys t) in
        let next : inside.height ≡ s.height + values_in ts = up ∙ ap (λ n. s.height + n) (sym values) in
        let rest = definitions_bound inside ds us others after q (defined_low (names_in xs) tys s sc) (right IsWritten d (defs_leaves ds) lit) in
        let height = rest.height in
        record {
          bound = is.a_def (all_bound s es ts tys p sc (broken d (exprs_leaves es) (of_def xs es) (left IsWritten d (defs_leaves ds) lit)))
              (defined_at functions inside.height (s.height + values_in ts) us next rest.bound);
          height = omega (arith, height, next);
          low = rest.low;
        }

    crossed_bound : (s : Scope) (l : ℕ) (gs : List (List Generator)) (ds : List Def) (cs : List Clause) (t : TypedExpr) (tys : List Ty) → Crosses k denotes s l gs ds cs t tys → IsLow s
        → Fine (groups_leaves gs) → Fine (defs_leaves ds) → Fine (clauses_leaves cs) → IsBound functions s.height t
    crossed_bound s l _ ds cs _ tys (rule.one_group {inside = inside} {names = names} {tys = us} {made = made} {g = g} {sources = sources} {bounds = bounds} {us = values} {forms = clauses} {ts = ts} p d q e c n) sc lit defs results =
        let scope = define_all names us s in
        let counts = generated_counted k denotes s g sources bounds names us p in
        let up : scope.height ≡ s.height + levels_over sources = defined_height names us s counts.0 ∙ ap (λ n. s.height + n) (sym counts.1) in
        let begin = definitions_bound scope ds values made inside q (defined_low names us s sc) defs in
        let group = left IsWritten (group_leaves g) [] lit in
        is.product (generated_bound s g sources bounds names us p sc group.1) (defined_at functions scope.height (s.height + levels_over sources) values up begin.bound)
        (moved functions inside.height (s.height + levels_over sources + levels_in values) ts (begin.height ∙ ap (λ n. n + levels_in values) up) (clauses_bound inside cs clauses ts tys c begin.low results))
        (some_sources k denotes s g sources bounds names us p group.0)
    crossed_bound s l _ ds cs _ tys (rule.a_group {names = names} {tys = us} {inner = inner} {g = g} {gs = gs} {sources = sources} {bounds = bounds} {forms = clauses} {t = t} p d q f n) sc lit defs results =
        let scope = define_all names us s in
        let counts = generated_counted k denotes s g sources bounds names us p in
        let up : scope.height ≡ s.height + levels_over sources = defined_height names us s counts.0 ∙ ap (λ n. s.height + n) (sym counts.1) in
        let group = left IsWritten (group_leaves g) (groups_leaves gs) lit in
        is.product (generated_bound s g sources bounds names us p sc group.1) is.no_def
        (moved functions scope.height (s.height + levels_over sources + 0) (t ∷ []) (omega (arith, up))
        (one functions scope.height t (crossed_bound scope l gs ds cs t inner q (defined_low names us s sc) (right IsWritten (group_leaves g) (groups_leaves gs) lit) defs results)))
        (some_sources k denotes s g sources bounds names us p group.0)

    generated_bound : (s : Scope) (gs : List Generator) (sources : List Source) (bounds : List TypedExpr) (names : List ℕ) (tys : List Ty) → Generates k denotes s gs sources bounds names tys → IsLow s
        → Fine (generators_leaves gs) → AreBound functions s.height bounds
    generated_bound s _ _ _ _ _ rule.no_generator sc lit = is.no_more
    generated_bound s _ _ _ _ _ (rule.range n {e = e} {f = f} {t = t} {u = u} {names = names} {tys = tys} {gs = gs} {sources = sources} {bounds = bounds} p q r) sc lit =
        let g = generator_leaves (roll-Generator (record { name = n; from = e; to = Some f; at = None })) in
        let here = left IsWritten g (generators_leaves gs) lit in
        is.more (bound s e t (ty.Int ∷ []) p sc (first g (leaves e) (leaves f) (of_an_end n e f None) here))
        (is.more (bound s f u (ty.Int ∷ []) q sc (second g (leaves e) (leaves f) (of_an_end n e f None) here)) (generated_bound s gs sources bounds names tys r sc (right IsWritten g (generators_leaves gs) lit)))
    generated_bound s _ _ _ _ _ (rule.elements n {a = a} {e = e} {t = t} {names = names} {tys = tys} {gs = gs} {sources = sources} {bounds = bounds} p q r) sc lit =
        let g = generator_leaves (roll-Generator (record { name = n; from = e; to = None; at = None })) in
        is.more (bound s e t (a ∷ []) p sc (first g (leaves e) [] (of_no_end n e None) (left IsWritten g (generators_leaves gs) lit)))
        (generated_bound s gs sources bounds names tys r sc (right IsWritten g (generators_leaves gs) lit))
    generated_bound s _ _ _ _ _ (rule.indexed n {i = i} {a = a} {e = e} {t = t} {names = names} {tys = tys} {gs = gs} {sources = sources} {bounds = bounds} p q r) sc lit =
        let g = generator_leaves (roll-Generator (record { name = n; from = e; to = None; at = Some i })) in
        is.more (bound s e t (a ∷ []) p sc (first g (leaves e) [] (of_no_end n e (Some i)) (left IsWritten g (generators_leaves gs) lit)))
        (generated_bound s gs sources bounds names tys r sc (right IsWritten g (generators_leaves gs) lit))

    clauses_bound : (s : Scope) (cs : List Clause) (clauses : List ClauseForm) (ts : List TypedExpr) (tys : List Ty) → AreClauses k denotes s cs clauses ts tys → IsLow s → Fine (clauses_leaves cs) → AreBound functions s.height ts
    clauses_bound s _ _ _ _ rule.no_clause sc lit = is.no_more
    clauses_bound s _ _ _ _ (rule.a_clause l {kind = kind} {a = a} {e = e} {t = t} {m = m} {masks = masks} {cs = cs} {forms = clauses} {ts = ts} {tys = tys} p h d q r) sc lit =
        let c = clause_leaves (roll-Clause (record { line = l; kind = kind; value = e; mask = m })) in
        let parts = mask_part l kind e m (left IsWritten c (clauses_leaves cs) lit) in
        is.more (bound s e t (a ∷ []) p sc parts.0) (both functions s.height masks ts (mask_bound s m masks q sc parts.1) (clauses_bound s cs clauses ts tys r sc (right IsWritten c (clauses_leaves cs) lit)))

    mask_bound : (s : Scope) (m : Option Mask) (masks : List TypedExpr) → IsMask k denotes s m masks → IsLow s → IfFine (λ m. Fine (mask_leaves m)) m → AreBound functions s.height masks
    mask_bound s _ _ rule.no_mask sc lit = is.no_more
    mask_bound s _ _ (rule.a_mask {is_unless = is_unless} {e = e} {t = t} p) sc lit =
        one functions s.height t (bound s e t (ty.Bool ∷ []) p sc (broken (mask_leaves (record { is_unless = is_unless; test = e })) (leaves e) (of_mask is_unless e) lit))

    -- arms before `otherwise`
    arms_bound : (s : Scope) (x : Option ℕ) (ms : List Member) (tys : List Ty) (arms : List Arm) (us : List (List TypedExpr)) (tags : List (List ℕ)) → AreTypedArms k denotes s x ms tys arms us tags → IsLow s → Fine (arms_leaves arms)
        → (last : List (List TypedExpr)) → AreArms functions s.height 0 last → AreArms functions s.height (named_arms x arms) (us ++ last)
    arms_bound s None ms tys _ _ _ rule.no_arm sc lit last rest = rest
    arms_bound s (Some x) ms tys _ _ _ rule.no_arm sc lit last rest = rest
    arms_bound s None ms tys _ _ _ (rule.an_arm l content names {es = es} {ts = ts} {arms = arms} {typed_arms = us} {tags = tags} o t p q) sc lit last rest =
        let a = arm_leaves (roll-Arm (record { line = l; tags = names; results = es })) in
        is.an_arm (all_bound s es ts tys p sc (broken a (exprs_leaves es) (of_arm l names es) (left IsWritten a (arms_leaves arms) lit)))
        (arms_bound s None ms tys arms us tags q sc (right IsWritten a (arms_leaves arms) lit) last rest)
    arms_bound s (Some x) ms tys _ _ _ (rule.an_arm l content names {es = es} {ts = ts} {arms = arms} {typed_arms = us} {tags = tags} o t p q) sc lit last rest =
        let a = arm_leaves (roll-Arm (record { line = l; tags = names; results = es })) in
        is.a_named_arm (all_bound (with_content (Some x) content s) es ts tys p (content_low (Some x) content s sc) (broken a (exprs_leaves es) (of_arm l names es) (left IsWritten a (arms_leaves arms) lit)))
        (arms_bound s (Some x) ms tys arms us tags q sc (right IsWritten a (arms_leaves arms) lit) last rest)

    last_bound : (s : Scope) (tys : List Ty) (other : Option (List Expr)) (last : List (List TypedExpr)) → IsOtherwise k denotes s tys other last → IsLow s → IfFine (λ es. Fine (exprs_leaves es)) other
        → AreArms functions s.height 0 last
    last_bound s tys _ _ rule.no_otherwise sc lit = is.no_arm
    last_bound s tys _ _ (rule.otherwise {es = es} {ts = ts} p) sc lit = is.an_arm (all_bound s es ts tys p sc lit) is.no_arm
