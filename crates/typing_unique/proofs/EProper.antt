-- The types of typed expressions have no field or tag twice.
use Rattle.std.proofs.Common.{◌≡◌, ◌⊎◌, inl, inr, ℕ, zero, suc, List, [], ◌∷◌, map, flat_map, Option, Some, None, All, slice_get, refl, sym, ap, subst, arith}
use Rattle.std.specs.Prelude.{Contains}
use Rattle.std.proofs.lemmas.Option.{same_Some, none-some}
use Rattle.std.proofs.lemmas.List.Elements.{All-nil, All-cons, All-head, All-tail, All-append}
use Rattle.flow_value.specs.declared.ty.Ty.{Ty}
use Rattle.flow_value.specs.declared.ty.Ty.TheVariants as ty
use Rattle.type_table.specs.declared.form.Form.{Form}
use Rattle.sisal_tree.specs.declared.unit.Written.{Written}
use Rattle.sisal_tree.specs.declared.expr.Expr.{Expr}
use Rattle.sisal_tree.specs.declared.expr.FieldValue.{FieldValue}
use Rattle.sisal_tree.specs.declared.expr.Def.{Def}
use Rattle.sisal_tree.specs.declared.expr.Arm.{Arm}
use Rattle.sisal_tree.specs.declared.expr.Generator.{Generator}
use Rattle.sisal_tree.specs.declared.expr.Clause.{Clause}
use Rattle.typed_tree.specs.declared.expr.TypedExpr.{TypedExpr}
use Rattle.typed_tree.specs.declared.expr.Source.{Source}
use Rattle.typed_tree.specs.declared.expr.ClauseForm.{ClauseForm}
use Rattle.typed_tree.specs.Scopes.{Scope, define_all, AreDistinct}
use Rattle.typed_tree.specs.Types.{Member, IsMember, constant_type, scalar_type, prefix_type, binary_type}
use Rattle.typed_tree.specs.Typing as rule
use Rattle.typed_tree.specs.Typing.{Signature, Known, IsSpelled, IsTag, AreAllNamed, names_in, names_of, loop_of, with_content, Folds, Types, AreTyped, HasFields, Defines, Crosses, Generates, AreClauses, AreArms, IsOtherwise}
use Rattle.typing_unique.specs.Fair.{AreOnce, IsProper, integer, boolean, array, stream, a_record, AreProper, no_member, a_member, IsFair}
use Rattle.typing_unique.specs.Inverted.{at_table, IsProperScope}
use Rattle.typing_unique.proofs.EInverted.{has_in, function_in, tags_in}
use Rattle.typing_unique.proofs.ETypes.{element_proper, record_proper, union_proper, sequence_proper, content_proper, constant_proper, scalar_proper, prefix_proper, binary_proper, gives_proper, makes_proper, distinct_places}
use Rattle.typing_unique.proofs.EScopes.{name_proper, defined_proper, content_defined}

pub one : (a : Ty) → IsProper a → All IsProper (a ∷ [])
one a p = All-cons IsProper a [] p (All-nil IsProper)

pub the_one : (a : Ty) → All IsProper (a ∷ []) → IsProper a
the_one a p = All-head IsProper a [] p

-- a tag of some name has some content
pub first_tag : (k : Known) (ms : List Member) (content : Ty) (names : List ℕ) → (names ≡ [] → ⊥) → All (λ tag. IsTag k ms tag content) names → (x : ℕ) × IsTag k ms x content
first_tag k ms content [] n p = absurd (n refl)
first_tag k ms content (x ∷ names) n p = (x, All-head (λ tag. IsTag k ms tag content) x names p)

pub no_names_of : (names : List _) → (names ≡ [] → ⊥) → names_of names ≡ [] → ⊥
no_names_of [] n e = n refl
no_names_of (x ∷ names) n e = cc

-- where there is a tag and no `otherwise` there is an arm
pub tagged : (k : Known) (tags : List (List ℕ)) (ms : List Member) (other : Option (List Expr)) → (ms ≡ [] → ⊥) → AreAllNamed k tags ms other → tags ≡ [] → other ≡ None → ⊥
tagged k tags [] other n all e f = n refl
tagged k tags (m ∷ ms) other n all e f =
    let here : AreAllNamed k [] (m ∷ ms) None = subst (λ o. AreAllNamed k [] (m ∷ ms) o) f (subst (λ l. AreAllNamed k l (m ∷ ms) other) e all) in
    let c = All-head (λ m. (x : ℕ) × IsSpelled k x m.0 × Contains (flat_map (λ tags. tags) []) x) m ms here in
    omega (arith, c.2.1)

module _ (k : Known) (forms : List Form) (denotes : Written → Ty → Type 0) (misnames : Written → ℕ → ℕ → Type 0) (fair : IsFair k denotes misnames) where
  -- ---- the fields of a new record

  field_at : (s : Scope) (vs : List FieldValue) (ts : List TypedExpr) (ms : List Member) → HasFields (at_table k forms) denotes s vs ts ms → (i : ℕ) (name : List ℕ) (a : Ty) → IsMember ms name i a
      → (x : ℕ) × IsSpelled k x name × (slice_get (map (λ v. v.field.name) vs) i ≡ Some x)
  field_at s _ _ _ rule.no_member i name a e = absurd (none-some (name, a) e)
  field_at s _ _ _ (rule.a_member {n = n} {spelling = spelling} {a = b} h p q) zero name a e =
      (n.name, subst (λ l. IsSpelled k n.name l) (ap (λ m. m.0) (same_Some (spelling, b) (name, a) e)) h, refl)
  field_at s _ _ _ (rule.a_member {vs = vs} {ts = ts} {ms = ms} h p q) (suc i) name a e = field_at s vs ts ms q i name a e

  fields_once : (s : Scope) (vs : List FieldValue) (ts : List TypedExpr) (ms : List Member) → HasFields (at_table k forms) denotes s vs ts ms → AreDistinct (map (λ v. v.field.name) vs) → AreOnce ms
  fields_once s vs ts ms p d = record {
    place = λ i j name a b e f.
        let x = field_at s vs ts ms p i name a e in
        let y = field_at s vs ts ms p j name b f in
        distinct_places (map (λ v. v.field.name) vs) i j x.0 d x.2 (subst (λ z. slice_get (map (λ v. v.field.name) vs) j ≡ Some z) (sym (fair.spelled x.0 y.0 name x.1 y.1)) y.2);
  }

  -- ---- clauses of a loop around another

  folds_proper : (cs : List Clause) (inner : List Ty) (clauses : List ClauseForm) (tys : List Ty) → Folds cs inner clauses tys → All IsProper inner → All IsProper tys
  folds_proper _ _ _ _ rule.no_clause p = All-nil IsProper
  folds_proper _ _ _ _ (rule.a_clause l {kind = kind} {a = a} {b = b} e m {cs = cs} {tys = tys} {made = made} {forms = clauses} h d q) p =
      All-cons IsProper b made (makes_proper kind a b h (All-head IsProper a tys p)) (folds_proper cs tys clauses made q (All-tail IsProper a tys p))

  case_proper : (ms : List Member) (tags : List (List ℕ)) (tys : List Ty) (other : Option (List Expr)) → (ms ≡ [] → ⊥) → AreAllNamed (at_table k forms) tags ms other
      → (tags ≡ []) ⊎ All IsProper tys → (other ≡ None) ⊎ All IsProper tys → All IsProper tys
  case_proper ms tags tys other n all (inr p) q = p
  case_proper ms tags tys other n all (inl e) (inr p) = p
  case_proper ms tags tys other n all (inl e) (inl f) = absurd (tagged (at_table k forms) tags ms other n all e f)

  -- ---- expressions

  mutual
    pub proper : (s : Scope) (e : Expr) (t : TypedExpr) (tys : List Ty) → Types (at_table k forms) denotes s e t tys → IsProperScope s → All IsProper tys
    proper s _ _ _ (rule.constant {c = c} n) sc = one (constant_type c) (constant_proper c)
    proper s _ _ _ (rule.name {x = x} {level = level} {a = a} h n) sc = one a (name_proper x s.names level a sc.names h)
    proper s _ _ _ (rule.old {x = x} {level = level} {a = a} h n) sc = one a (name_proper x s.olds level a sc.olds h)
    proper s _ _ _ (rule.group {e = e} {t = t} {tys = tys} p n) sc = proper s e t tys p sc
    proper s _ _ _ (rule.call {x = x} {n = i} {f = f} h p n) sc = fair.results x i f (function_in k forms x i f h)
    proper s _ _ _ (rule.built_in {x = x} {a = a} {b = b} {es = es} {ts = ts} {tys = tys} h p g d n) sc = one a (gives_proper b tys a g (all_proper s es ts tys p sc))
    proper s _ _ _ (rule.convert {c = c} p h n) sc = one (scalar_type c) (scalar_proper c)
    proper s _ _ _ (rule.error_of {a = a} {w = w} h n) sc = one a (fair.proper w a h)
    proper s _ _ _ (rule.is_error p n) sc = one ty.Bool boolean
    proper s _ _ _ (rule.is_tag p h n) sc = one ty.Bool boolean
    proper s _ _ _ (rule.prefix {o = o} p n) sc = one (prefix_type o) (prefix_proper o)
    proper s _ _ _ (rule.binary {a = a} {o = o} {e = e} {t = t} p q h n) sc = one (binary_type o a) (binary_proper o a (the_one a (proper s e t (a ∷ []) p sc)))
    proper s _ _ _ (rule.select {a = a} {e = e} {t = t} p q n) sc = one a (element_proper a (the_one (ty.Arr a) (proper s e t (ty.Arr a ∷ []) p sc)))
    proper s _ _ _ (rule.update {a = a} {e = e} {t = t} p q r n) sc = proper s e t (ty.Arr a ∷ []) p sc
    proper s _ _ _ (rule.field {x = x} {place = place} {content = content} {ms = ms} {e = e} {t = t} p h n) sc =
        one content (content_proper k ms x place content (record_proper ms (the_one (ty.Rec ms) (proper s e t (ty.Rec ms ∷ []) p sc))).1 (has_in k forms ms x place content h))
    proper s _ _ _ (rule.replace {ms = ms} {e = e} {t = t} p q d n) sc = proper s e t (ty.Rec ms ∷ []) p sc
    proper s _ _ _ (rule.empty_array {x = x} a h n) sc = one (ty.Arr a) (fair.types x (ty.Arr a) h)
    proper s _ _ _ (rule.array {a = a} {tys = tys} {es = es} {ts = ts} p q same h d n) sc = one (ty.Arr a) (array a (All-head IsProper a tys (all_proper s es ts (a ∷ tys) q sc)))
    proper s _ _ _ (rule.empty_stream {x = x} a h n) sc = one (ty.Stream a) (fair.types x (ty.Stream a) h)
    proper s _ _ _ (rule.stream {a = a} {tys = tys} {es = es} {ts = ts} q same h d n) sc = one (ty.Stream a) (stream a (All-head IsProper a tys (all_proper s es ts (a ∷ tys) q sc)))
    proper s _ _ _ (rule.a_record {ms = ms} {vs = vs} {ts = ts} p d h deep n) sc = one (ty.Rec ms) (a_record ms (fields_once s vs ts ms p d) (fields_proper s vs ts ms p sc))
    proper s _ _ _ (rule.union {x = x} {ms = ms} h has p n) sc = one (ty.Uni ms) (fair.types x (ty.Uni ms) h)
    proper s _ _ _ (rule.let_in {after = after} {ds = ds} {us = us} {made = made} {tys = tys} {es = es} {ts = ts} p d q n) sc =
        all_proper after es ts tys q (definitions_proper s ds us made after p sc).1
    proper s _ _ _ (rule.if_else {es = es} {ts = ts} {tys = tys} p q r n) sc = all_proper s es ts tys q sc
    proper s _ _ _ (rule.tag_case {ms = ms} {x = x} {e = e} {t = t} {arms = arms} {typed_arms = us} {last = last} {tags = tags} {tys = tys} {other = other} p q d all o c n) sc =
        case_proper ms tags tys other (union_proper ms (the_one (ty.Uni ms) (proper s e t (ty.Uni ms ∷ []) p sc))).0 all
        (arms_proper s x ms tys arms us tags q (union_proper ms (the_one (ty.Uni ms) (proper s e t (ty.Uni ms ∷ []) p sc))).2 sc) (otherwise_proper s tys other last o sc)
    proper s _ _ _ (rule.for_product {l = l} {tys = tys} {gs = gs} {ds = ds} {cs = cs} {t = t} p) sc = crossed_proper s l gs ds cs t tys p sc
    proper s _ _ _ (rule.for_initial {started = started} {first = first} {tys = tys} is_first is_until {ds = ds} {us = us} {cs = cs} {forms = clauses} {ts = ts} p d q r e keeps c n) sc =
        clauses_proper started cs clauses ts tys c (definitions_proper s ds us first started p sc).1

    pub all_proper : (s : Scope) (es : List Expr) (ts : List TypedExpr) (tys : List Ty) → AreTyped (at_table k forms) denotes s es ts tys → IsProperScope s → All IsProper tys
    all_proper s _ _ _ rule.no_more sc = All-nil IsProper
    all_proper s _ _ _ (rule.more {e = e} {t = t} {tys = tys} {others = others} {es = es} {ts = ts} p q) sc = All-append IsProper tys others (proper s e t tys p sc) (all_proper s es ts others q sc)

    fields_proper : (s : Scope) (vs : List FieldValue) (ts : List TypedExpr) (ms : List Member) → HasFields (at_table k forms) denotes s vs ts ms → IsProperScope s → AreProper ms
    fields_proper s _ _ _ rule.no_member sc = no_member
    fields_proper s _ _ _ (rule.a_member {a = a} {e = e} {t = t} {vs = vs} {ts = ts} {ms = ms} h p q) sc = a_member (the_one a (proper s e t (a ∷ []) p sc)) (fields_proper s vs ts ms q sc)

    pub definitions_proper : (s : Scope) (ds : List Def) (us : List (List TypedExpr)) (tys : List Ty) (after : Scope) → Defines (at_table k forms) denotes s ds us tys after → IsProperScope s
        → All IsProper tys × IsProperScope after
    definitions_proper s _ _ _ _ rule.no_def sc = (All-nil IsProper, sc)
    definitions_proper s _ _ _ after (rule.a_def xs {es = es} {ts = ts} {tys = tys} {others = others} {ds = ds} {us = us} p t q) sc =
        let made = all_proper s es ts tys p sc in
        let rest = definitions_proper (define_all (names_in xs) tys s) ds us others after q (defined_proper (names_in xs) tys s made sc) in
        (All-append IsProper tys others made rest.0, rest.1)

    pub crossed_proper : (s : Scope) (l : ℕ) (gs : List (List Generator)) (ds : List Def) (cs : List Clause) (t : TypedExpr) (tys : List Ty) → Crosses (at_table k forms) denotes s l gs ds cs t tys → IsProperScope s → All IsProper tys
    crossed_proper s l _ ds cs _ tys (rule.one_group {inside = inside} {names = names} {tys = us} {made = made} {g = g} {sources = sources} {bounds = bounds} {us = values} {forms = clauses} {ts = ts} p d q e c n) sc =
        clauses_proper inside cs clauses ts tys c
        (definitions_proper (define_all names us s) ds values made inside q (defined_proper names us s (generated_proper s g sources bounds names us p sc) sc)).1
    crossed_proper s l _ ds cs _ tys (rule.a_group {names = names} {tys = us} {inner = inner} {g = g} {gs = gs} {sources = sources} {bounds = bounds} {forms = clauses} {t = t} p d q f n) sc =
        folds_proper cs inner clauses tys f
        (crossed_proper (define_all names us s) l gs ds cs t inner q (defined_proper names us s (generated_proper s g sources bounds names us p sc) sc))

    pub generated_proper : (s : Scope) (gs : List Generator) (sources : List Source) (bounds : List TypedExpr) (names : List ℕ) (tys : List Ty) → Generates (at_table k forms) denotes s gs sources bounds names tys
        → IsProperScope s → All IsProper tys
    generated_proper s _ _ _ _ _ rule.no_generator sc = All-nil IsProper
    generated_proper s _ _ _ _ _ (rule.range n {names = names} {tys = tys} {gs = gs} {sources = sources} {bounds = bounds} p q r) sc =
        All-cons IsProper ty.Int tys integer (generated_proper s gs sources bounds names tys r sc)
    generated_proper s _ _ _ _ _ (rule.elements n {a = a} {b = b} {e = e} {t = t} {names = names} {tys = tys} {gs = gs} {sources = sources} {bounds = bounds} p q r) sc =
        All-cons IsProper b tys (sequence_proper a b q (the_one a (proper s e t (a ∷ []) p sc))) (generated_proper s gs sources bounds names tys r sc)
    generated_proper s _ _ _ _ _ (rule.indexed n {a = a} {b = b} {e = e} {t = t} {names = names} {tys = tys} {gs = gs} {sources = sources} {bounds = bounds} p q r) sc =
        All-cons IsProper b (ty.Int ∷ tys) (sequence_proper a b q (the_one a (proper s e t (a ∷ []) p sc)))
        (All-cons IsProper ty.Int tys integer (generated_proper s gs sources bounds names tys r sc))

    pub clauses_proper : (s : Scope) (cs : List Clause) (clauses : List ClauseForm) (ts : List TypedExpr) (tys : List Ty) → AreClauses (at_table k forms) denotes s cs clauses ts tys → IsProperScope s → All IsProper tys
    clauses_proper s _ _ _ _ rule.no_clause sc = All-nil IsProper
    clauses_proper s _ _ _ _ (rule.a_clause l {kind = kind} {a = a} {b = b} {e = e} {t = t} {cs = cs} {forms = clauses} {ts = ts} {tys = tys} p h d q r) sc =
        All-cons IsProper b tys (makes_proper kind a b h (the_one a (proper s e t (a ∷ []) p sc))) (clauses_proper s cs clauses ts tys r sc)

    arms_proper : (s : Scope) (x : Option ℕ) (ms : List Member) (tys : List Ty) (arms : List Arm) (us : List (List TypedExpr)) (tags : List (List ℕ)) → AreArms (at_table k forms) denotes s x ms tys arms us tags
        → AreProper ms → IsProperScope s → (tags ≡ []) ⊎ All IsProper tys
    arms_proper s x ms tys _ _ _ rule.no_arm m sc = inl refl
    arms_proper s x ms tys _ _ _ (rule.an_arm l content names {es = es} {ts = ts} o t p q) m sc =
        let tag = first_tag k ms content (names_of names) (no_names_of names o) (tags_in k forms ms content (names_of names) t) in
        inr (all_proper (with_content x content s) es ts tys p (content_defined x content s (content_proper k ms tag.0 tag.1.0 content m tag.1.1) sc))

    otherwise_proper : (s : Scope) (tys : List Ty) (other : Option (List Expr)) (last : List (List TypedExpr)) → IsOtherwise (at_table k forms) denotes s tys other last → IsProperScope s
        → (other ≡ None) ⊎ All IsProper tys
    otherwise_proper s tys _ _ rule.no_otherwise sc = inl refl
    otherwise_proper s tys _ _ (rule.otherwise {es = es} {ts = ts} p) sc = inr (all_proper s es ts tys p sc)
