-- What a text spells is spelled.
use Rattle.std.proofs.Common.{◌<◌, ◌+◌, ℕ, List, [], ◌∷◌, ◌++◌, length, true, false, arith, length-append}
use Rattle.sisal_lex.specs.declared.token.Token.{Token}
use Rattle.sisal_tree.specs.declared.expr.ClauseKind.TheVariants as made_by
use Rattle.sisal_tree.specs.declared.expr.Def.{Def, out-Def}
use Rattle.sisal_tree.specs.declared.expr.Generator.{Generator}
use Rattle.sisal_grammar.specs.declared.value.Placed.{Placed}
use Rattle.sisal_grammar.specs.Acts.{named}
use Rattle.sisal_grammar.specs.Phrases.{Phrase, Meant, and_inv, arm, cat, clause, colon_expr, colon_type, comma_expr, comma_name, comma_target, comma_type, comparison, conj, cross_group, def, definition, defs, dot_gen, elements, else_if, expr, exprs, field, fields, fundef, fv, gen, group, header, inv, many, mask, maybe, neg, or_conj, or_sum, otherwise, post, prim, rel, selector, semi_def, semi_field, semi_fv, sum, sum_term, target, term, term_neg, test, turn, ty, typedef, unit}
use Rattle.sisal_grammar.specs.Placed.{placed}
use Rattle.sisal_grammar.specs.Spells as grammar
use Rattle.sisal_grammar.specs.Spells.{Spells, listed, folded}
use Rattle.text_trees.specs.Spelled as is
use Rattle.text_trees.specs.Spelled.{IsType, IsTarget, IsSpelled, AreSpelled, AreElements, IsDef, AreDefs, IsArm, AreGroups, IsGenerator, IsTurn, IsClause, IsHeader, IsItem, defs_levels, group_levels, groups_levels, content_levels}
use Rattle.text_trees.specs.Laws.{SpelledLaw}
use Rattle.text_trees.proofs.Every.{Each, IfAny, all_of, listed_each}
use Rattle.text_trees.proofs.Pieces.{Told, left, right, next, raised, at_height, anywhere, tokens_told, name_low, one_type, more_type, union_there}
use Rattle.text_trees.proofs.Counts.{target_some, targets_counted, arms_counted, def_counted, semi_def_counted, defs_counted, maybe_defs_counted, group_counted, cross_group_counted, cross_groups_counted, content_counted, params_counted}
use Rattle.text_trees.proofs.Forms.{Exprs, Defs, Group, Value, IsFineSelector, IsFineElse, exprs_of, values_of, arms_of, generators_of, clauses_of, chained_spelled, compared_spelled, posted_spelled, type_if, listed_exprs, listed_defs, array_spelled, content_spelled, generator_spelled, clause_spelled, case_spelled, nested_spelled}

abbrev pub IsFine : List Token → ℕ → ℕ → (p : Phrase) → Meant p → Type 0
IsFine tokens names h (many p) l = Each (IsFine tokens names h p) l
IsFine tokens names h (maybe p) o = IfAny (IsFine tokens names h p) o
IsFine tokens names h unit a = Each (IsItem tokens names) a.items
IsFine tokens names h definition a = IsItem tokens names a
IsFine tokens names h typedef a = IsItem tokens names a
IsFine tokens names h fundef a = IsItem tokens names a
IsFine tokens names h ty a = IsType tokens a
IsFine tokens names h field a = IsType tokens a.ty
IsFine tokens names h fields a = Each (λ f. IsType tokens f.ty) a
IsFine tokens names h semi_field a = IsType tokens a.ty
IsFine tokens names h comma_type a = IsType tokens a
IsFine tokens names h colon_type a = IsType tokens a
IsFine tokens names h header a = IsHeader tokens names a
IsFine tokens names h exprs a = Exprs tokens names h a
IsFine tokens names h otherwise a = Exprs tokens names h a
IsFine tokens names h expr a = IsSpelled tokens names h a
IsFine tokens names h conj a = IsSpelled tokens names h a
IsFine tokens names h inv a = IsSpelled tokens names h a
IsFine tokens names h rel a = IsSpelled tokens names h a
IsFine tokens names h cat a = IsSpelled tokens names h a
IsFine tokens names h sum a = IsSpelled tokens names h a
IsFine tokens names h term a = IsSpelled tokens names h a
IsFine tokens names h neg a = IsSpelled tokens names h a
IsFine tokens names h post a = IsSpelled tokens names h a
IsFine tokens names h prim a = IsSpelled tokens names h a
IsFine tokens names h comma_expr a = IsSpelled tokens names h a
IsFine tokens names h colon_expr a = IsSpelled tokens names h a
IsFine tokens names h or_conj a = IsSpelled tokens names h a.1
IsFine tokens names h and_inv a = IsSpelled tokens names h a.1
IsFine tokens names h comparison a = IsSpelled tokens names h a.1
IsFine tokens names h or_sum a = IsSpelled tokens names h a.1
IsFine tokens names h sum_term a = IsSpelled tokens names h a.1
IsFine tokens names h term_neg a = IsSpelled tokens names h a.1
IsFine tokens names h selector a = IsFineSelector tokens names h a
IsFine tokens names h fv a = Value tokens names h a
IsFine tokens names h semi_fv a = Value tokens names h a
IsFine tokens names h elements a = AreElements tokens names h a
IsFine tokens names h else_if a = IsFineElse tokens names h a
IsFine tokens names h arm a = IsArm tokens names h a
IsFine tokens names h defs a = Defs tokens names h a
IsFine tokens names h def a = IsDef tokens names h a
IsFine tokens names h semi_def a = IsDef tokens names h a
IsFine tokens names h target a = IsTarget tokens names a
IsFine tokens names h comma_target a = IsTarget tokens names a
IsFine tokens names h group a = Group tokens names h a
IsFine tokens names h cross_group a = Group tokens names h a
IsFine tokens names h gen a = IsGenerator tokens names h a
IsFine tokens names h dot_gen a = IsGenerator tokens names h a
IsFine tokens names h turn a = IsTurn tokens names h a
IsFine tokens names h test a = IsSpelled tokens names h a.test
IsFine tokens names h clause a = IsClause tokens names h a
IsFine tokens names h mask a = IsSpelled tokens names h a.test
IsFine tokens names h comma_name a = a.name < names
IsFine tokens names h _ a = Unit {0}

module _ (tokens : List Token) (names : ℕ) where
  mutual
    fine : (h : ℕ) (p : Phrase) (ts : List Placed) (a : Meant p) → Spells p ts a → Told tokens names h ts → IsFine tokens names h p a
    fine h _ _ _ grammar.nothing told = tt
    fine h _ _ _ (grammar.more {p = p} {ts = ts} {us = us} {a = a} {l = l} p0 p1) told = ((fine h p ts a p0 (left tokens names ts us told)), (fine h (many p) us l p1 (right tokens names ts us told)))
    fine h _ _ _ grammar.absent told = tt
    fine h _ _ _ (grammar.present {p = p} {ts = ts} {a = a} p0) told = fine h p ts a p0 told
    fine h _ _ _ (grammar.unit_is {ts = ts} {us = us} {vs = vs} {l = l} i0 i1 p0 p1 p2) told = fine h (many definition) vs l p2 (right tokens names us vs (right tokens names ts (us ++ vs) (next tokens names (next tokens names told))))
    fine h _ _ _ (grammar.comma_name_is {u = u} i0 i1) told = name_low tokens names u i1 told.each.1.0.0
    fine h _ _ _ (grammar.semicolon_is i0) told = tt
    fine h _ _ _ (grammar.a_typedef {ts = ts} {i = i} p0) told = fine h typedef ts i p0 told
    fine h _ _ _ (grammar.a_fundef {ts = ts} {i = i} p0) told = fine h fundef ts i p0 told
    fine h _ _ _ (grammar.typedef_is {ts = ts} {us = us} {w = w} i0 i1 i2 p0 p1) told = fine h ty ts w p0 (left tokens names ts us (next tokens names (next tokens names (next tokens names told))))
    fine h _ _ _ (grammar.forward {ts = ts} {us = us} {h = d} i0 i1 p0 p1) told = ((fine h header ts d p0 (left tokens names ts us (next tokens names (next tokens names told)))), tt)
    fine h _ _ _ (grammar.global {ts = ts} {us = us} {h = d} i0 p0 p1) told = ((fine h header ts d p0 (left tokens names ts us (next tokens names told))), tt)
    fine h _ _ _ (grammar.function {u = u} {v = v} {ts = ts} {us = us} {vs = vs} {h = d} {es = es} i0 p0 p1 i1 i2 p2) told =
        let first = next tokens names told in
        let results = left tokens names us (u ∷ v ∷ vs) (right tokens names ts (us ++ (u ∷ v ∷ vs)) first) in
        (fine h header ts d p0 (left tokens names ts (us ++ (u ∷ v ∷ vs)) first), ((λ k le. (fine k exprs us es p1 (anywhere tokens names k le results)).0), (fine h exprs us es p1 results).1))
    fine h _ _ _ (grammar.integer_type {t = t} i0) told = one_type tokens names t told.each.0.1 (grammar.integer_type i0)
    fine h _ _ _ (grammar.boolean_type {t = t} i0) told = one_type tokens names t told.each.0.1 (grammar.boolean_type i0)
    fine h _ _ _ (grammar.character_type {t = t} i0) told = one_type tokens names t told.each.0.1 (grammar.character_type i0)
    fine h _ _ _ (grammar.null_type {t = t} i0) told = one_type tokens names t told.each.0.1 (grammar.null_type i0)
    fine h _ _ _ (grammar.real_type {t = t} i0) told = one_type tokens names t told.each.0.1 (grammar.real_type i0)
    fine h _ _ _ (grammar.double_real_type {t = t} i0) told = one_type tokens names t told.each.0.1 (grammar.double_real_type i0)
    fine h _ _ _ (grammar.named_type {t = t} i0) told = one_type tokens names t told.each.0.1 (grammar.named_type i0)
    fine h _ _ _ (grammar.array_type {t = t} {u = u} {v = v} {ts = ts} i0 i1 p0 i2) told = more_type tokens names t (u ∷ ts) v told.each.0.1 (grammar.array_type i0 i1 p0 i2)
    fine h _ _ _ (grammar.stream_type {t = t} {u = u} {v = v} {ts = ts} i0 i1 p0 i2) told = more_type tokens names t (u ∷ ts) v told.each.0.1 (grammar.stream_type i0 i1 p0 i2)
    fine h _ _ _ (grammar.record_type {t = t} {u = u} {v = v} {ts = ts} i0 i1 p0 i2) told = more_type tokens names t (u ∷ ts) v told.each.0.1 (grammar.record_type i0 i1 p0 i2)
    fine h _ _ _ (grammar.union_type {t = t} {u = u} {v = v} {ts = ts} {us = us} {vs = vs} i0 i1 p0 p1 p2 i2) told = union_there tokens names t u ts us vs v told.each.0.1 (grammar.union_type i0 i1 p0 p1 p2 i2)
    fine h _ _ _ (grammar.fields_are {ts = ts} {us = us} {vs = vs} {f = f} {l = l} p0 p1 p2) told = ((fine h field ts f p0 (left tokens names ts (us ++ vs) told)), (fine h (many semi_field) us l p1 (left tokens names us vs (right tokens names ts (us ++ vs) told))))
    fine h _ _ _ (grammar.semi_field_is {ts = ts} {f = f} i0 p0) told = fine h field ts f p0 (next tokens names told)
    fine h _ _ _ (grammar.field_is {u = u} {ts = ts} {us = us} {w = w} i0 p0 i1 p1) told = fine h ty us w p1 (next tokens names (right tokens names ts (u ∷ us) (next tokens names told)))
    fine h _ _ _ (grammar.tagf_is i0 p0 p1) told = tt
    fine h _ _ _ (grammar.semi_tagf_is i0 p0) told = tt
    fine h _ _ _ (grammar.colon_type_is {ts = ts} {w = w} i0 p0) told = fine h ty ts w p0 (next tokens names told)
    fine h _ _ _ (grammar.header_is {v = v} {w = w} {ts = ts} {us = us} {vs = vs} {l = l} {r = r} {rs = rs} i0 i1 p0 i2 p1 p2 i3) told =
        let first = next tokens names (next tokens names told) in
        let after_params = v ∷ (us ++ (vs ++ (w ∷ []))) in
        let params = left tokens names ts after_params first in
        let results = next tokens names (right tokens names ts after_params first) in
        let few = params_counted ts l p0 in
        record {
          params = all_of (λ f. IsType tokens f.ty) (listed l) (listed_each (λ f. IsType tokens f.ty) l (fine h (maybe fields) ts l p0 params));
          results = all_of (IsType tokens) (r ∷ rs) (fine h ty us r p1 (left tokens names us (vs ++ (w ∷ [])) results), fine h (many comma_type) vs rs p2 (left tokens names vs (w ∷ []) (right tokens names us (vs ++ (w ∷ [])) results)));
          some = omega arith;
          few = omega (arith, few, params.few);
        }
    fine h _ _ _ (grammar.comma_type_is {ts = ts} {w = w} i0 p0) told = fine h ty ts w p0 (next tokens names told)
    fine h _ _ _ (grammar.exprs_are {ts = ts} {us = us} {e = e} {es = es} p0 p1) told = (is.an_expr (fine h expr ts e p0 (left tokens names ts us told)) (exprs_of tokens names h es (fine h (many comma_expr) us es p1 (right tokens names ts us told))), omega arith)
    fine h _ _ _ (grammar.comma_expr_is {ts = ts} {e = e} i0 p0) told = fine h expr ts e p0 (next tokens names told)
    fine h _ _ _ (grammar.expr_is {ts = ts} {us = us} {a = a} {l = l} p0 p1) told = chained_spelled tokens names h l a (fine h conj ts a p0 (left tokens names ts us told)) (fine h (many or_conj) us l p1 (right tokens names ts us told))
    fine h _ _ _ (grammar.or_conj_is {ts = ts} {a = a} i0 p0) told = fine h conj ts a p0 (next tokens names told)
    fine h _ _ _ (grammar.conj_is {ts = ts} {us = us} {a = a} {l = l} p0 p1) told = chained_spelled tokens names h l a (fine h inv ts a p0 (left tokens names ts us told)) (fine h (many and_inv) us l p1 (right tokens names ts us told))
    fine h _ _ _ (grammar.and_inv_is {ts = ts} {a = a} i0 p0) told = fine h inv ts a p0 (next tokens names told)
    fine h _ _ _ (grammar.not {ts = ts} {a = a} i0 p0) told = is.prefix (fine h inv ts a p0 (next tokens names told))
    fine h _ _ _ (grammar.inv_rel {ts = ts} {a = a} p0) told = fine h rel ts a p0 told
    fine h _ _ _ (grammar.rel_is {ts = ts} {us = us} {a = a} {c = c} p0 p1) told = compared_spelled tokens names h c a (fine h cat ts a p0 (left tokens names ts us told)) (fine h (maybe comparison) us c p1 (right tokens names ts us told))
    fine h _ _ _ (grammar.equal {ts = ts} {a = a} i0 p0) told = fine h cat ts a p0 (next tokens names told)
    fine h _ _ _ (grammar.not_equal {ts = ts} {a = a} i0 p0) told = fine h cat ts a p0 (next tokens names told)
    fine h _ _ _ (grammar.less {ts = ts} {a = a} i0 p0) told = fine h cat ts a p0 (next tokens names told)
    fine h _ _ _ (grammar.less_equal {ts = ts} {a = a} i0 p0) told = fine h cat ts a p0 (next tokens names told)
    fine h _ _ _ (grammar.greater {ts = ts} {a = a} i0 p0) told = fine h cat ts a p0 (next tokens names told)
    fine h _ _ _ (grammar.greater_equal {ts = ts} {a = a} i0 p0) told = fine h cat ts a p0 (next tokens names told)
    fine h _ _ _ (grammar.cat_is {ts = ts} {us = us} {a = a} {l = l} p0 p1) told = chained_spelled tokens names h l a (fine h sum ts a p0 (left tokens names ts us told)) (fine h (many or_sum) us l p1 (right tokens names ts us told))
    fine h _ _ _ (grammar.catenate {ts = ts} {a = a} i0 p0) told = fine h sum ts a p0 (next tokens names told)
    fine h _ _ _ (grammar.sum_is {ts = ts} {us = us} {a = a} {l = l} p0 p1) told = chained_spelled tokens names h l a (fine h term ts a p0 (left tokens names ts us told)) (fine h (many sum_term) us l p1 (right tokens names ts us told))
    fine h _ _ _ (grammar.plus {ts = ts} {a = a} i0 p0) told = fine h term ts a p0 (next tokens names told)
    fine h _ _ _ (grammar.minus {ts = ts} {a = a} i0 p0) told = fine h term ts a p0 (next tokens names told)
    fine h _ _ _ (grammar.term_is {ts = ts} {us = us} {a = a} {l = l} p0 p1) told = chained_spelled tokens names h l a (fine h neg ts a p0 (left tokens names ts us told)) (fine h (many term_neg) us l p1 (right tokens names ts us told))
    fine h _ _ _ (grammar.times {ts = ts} {a = a} i0 p0) told = fine h neg ts a p0 (next tokens names told)
    fine h _ _ _ (grammar.divide {ts = ts} {a = a} i0 p0) told = fine h neg ts a p0 (next tokens names told)
    fine h _ _ _ (grammar.negate {ts = ts} {a = a} i0 p0) told = is.prefix (fine h neg ts a p0 (next tokens names told))
    fine h _ _ _ (grammar.neg_post {ts = ts} {a = a} p0) told = fine h post ts a p0 told
    fine h _ _ _ (grammar.post_is {ts = ts} {us = us} {a = a} {l = l} p0 p1) told = posted_spelled tokens names h l a (fine h prim ts a p0 (left tokens names ts us told)) (fine h (many selector) us l p1 (right tokens names ts us told))
    fine h _ _ _ (grammar.at_places {u = u} {ts = ts} {es = es} i0 p0 i1) told = (fine h exprs ts es p0 (left tokens names ts (u ∷ []) (next tokens names told))).0
    fine h _ _ _ (grammar.change {u = u} {v = v} {ts = ts} {us = us} {i = i} {e = e} i0 p0 i1 p1 i2) told = ((fine h expr ts i p0 (left tokens names ts (u ∷ (us ++ (v ∷ []))) (next tokens names told))), (fine h expr us e p1 (left tokens names us (v ∷ []) (next tokens names (right tokens names ts (u ∷ (us ++ (v ∷ []))) (next tokens names told))))))
    fine h _ _ _ (grammar.dot {u = u} i0 i1) told = name_low tokens names u i1 told.each.1.0.0
    fine h _ _ _ (grammar.replace {v = v} {ts = ts} {us = us} {vs = vs} {f = f} {l = l} i0 i1 p0 p1 p2 i2) told = (values_of tokens names h (f ∷ l) ((fine h fv ts f p0 (left tokens names ts (us ++ (vs ++ (v ∷ []))) (next tokens names (next tokens names told)))), (fine h (many semi_fv) us l p1 (left tokens names us (vs ++ (v ∷ [])) (right tokens names ts (us ++ (vs ++ (v ∷ []))) (next tokens names (next tokens names told)))))), omega arith)
    fine h _ _ _ (grammar.fv_is {t = t} {ts = ts} {e = e} i0 i1 p0) told = ((name_low tokens names t i0 told.each.0.0), (fine h expr ts e p0 (next tokens names (next tokens names told))))
    fine h _ _ _ (grammar.semi_fv_is {ts = ts} {f = f} i0 p0) told = fine h fv ts f p0 (next tokens names told)
    fine h _ _ _ (grammar.number i0) told = is.constant
    fine h _ _ _ (grammar.character i0) told = is.constant
    fine h _ _ _ (grammar.text i0) told = is.constant
    fine h _ _ _ (grammar.true_is i0) told = is.constant
    fine h _ _ _ (grammar.false_is i0) told = is.constant
    fine h _ _ _ (grammar.nil_is i0) told = is.constant
    fine h _ _ _ (grammar.a_name {t = t} i0) told = is.name (name_low tokens names t i0 told.each.0.0)
    fine h _ _ _ (grammar.old {u = u} i0 i1) told = is.old (name_low tokens names u i1 told.each.1.0.0)
    fine h _ _ _ (grammar.call {t = t} {v = v} {ts = ts} {es = es} i0 i1 p0 i2) told = is.call (name_low tokens names t i0 told.each.0.0) (listed_exprs tokens names h es (fine h (maybe exprs) ts es p0 (left tokens names ts (v ∷ []) (next tokens names (next tokens names told)))))
    fine h _ _ _ (grammar.to_integer {v = v} {ts = ts} {e = e} i0 i1 p0 i2) told = is.convert (fine h expr ts e p0 (left tokens names ts (v ∷ []) (next tokens names (next tokens names told))))
    fine h _ _ _ (grammar.to_boolean {v = v} {ts = ts} {e = e} i0 i1 p0 i2) told = is.convert (fine h expr ts e p0 (left tokens names ts (v ∷ []) (next tokens names (next tokens names told))))
    fine h _ _ _ (grammar.to_character {v = v} {ts = ts} {e = e} i0 i1 p0 i2) told = is.convert (fine h expr ts e p0 (left tokens names ts (v ∷ []) (next tokens names (next tokens names told))))
    fine h _ _ _ (grammar.parens {u = u} {ts = ts} {e = e} i0 p0 i1) told = is.group (fine h expr ts e p0 (left tokens names ts (u ∷ []) (next tokens names told)))
    fine h _ _ _ (grammar.error_of {v = v} {ts = ts} {w = w} i0 i1 p0 i2) told = is.error_of (fine h ty ts w p0 (left tokens names ts (v ∷ []) (next tokens names (next tokens names told))))
    fine h _ _ _ (grammar.is_error {w = w} {ts = ts} {e = e} i0 i1 i2 p0 i3) told = is.is_error (fine h expr ts e p0 (left tokens names ts (w ∷ []) (next tokens names (next tokens names (next tokens names told)))))
    fine h _ _ _ (grammar.is_tag {u = u} {w = w} {ts = ts} {e = e} i0 i1 i2 p0 i3) told = is.is_tag (name_low tokens names u i1 told.each.1.0.0) (fine h expr ts e p0 (left tokens names ts (w ∷ []) (next tokens names (next tokens names (next tokens names told)))))
    fine h _ _ _ (grammar.array {t = t} {u = u} {v = v} {ts = ts} {us = us} {n = n} {es = es} i0 p0 i1 p1 i2) told = array_spelled tokens names h t.line n es (fine h (maybe elements) us es p1 (left tokens names us (v ∷ []) (next tokens names (right tokens names ts (u ∷ (us ++ (v ∷ []))) (next tokens names told)))))
    fine h _ _ _ (grammar.stream {u = u} {v = v} {ts = ts} {us = us} {es = es} i0 p0 i1 p1 i2) told = is.stream (listed_exprs tokens names h es (fine h (maybe exprs) us es p1 (left tokens names us (v ∷ []) (next tokens names (right tokens names ts (u ∷ (us ++ (v ∷ []))) (next tokens names told))))))
    fine h _ _ _ (grammar.a_record {u = u} {v = v} {ts = ts} {us = us} {vs = vs} {ws = ws} {f = f} {l = l} i0 p0 i1 p1 p2 p3 i2) told =
        let after_first = vs ++ (ws ++ (v ∷ [])) in
        let values = next tokens names (right tokens names ts (u ∷ (us ++ after_first)) (next tokens names told)) in
        let further = left tokens names vs (ws ++ (v ∷ [])) (right tokens names us after_first values) in
        is.a_record (values_of tokens names h (f ∷ l) (fine h fv us f p1 (left tokens names us after_first values), fine h (many semi_fv) vs l p2 further)) (omega arith)
    fine h _ _ _ (grammar.union {u = u} {w = w} {x = x} {ts = ts} {e = e} i0 i1 i2 i3 p0 i4) told = is.union (name_low tokens names u i1 told.each.1.0.0) (name_low tokens names w i3 told.each.1.1.1.0.0) (content_spelled tokens names h w e (fine h (maybe colon_expr) ts e p0 (left tokens names ts (x ∷ []) (next tokens names (next tokens names (next tokens names (next tokens names told)))))))
    fine h _ _ _ (grammar.name_is i0) told = tt
    fine h _ _ _ (grammar.elements_are {t = t} {ts = ts} {us = us} {e = e} {es = es} p0 i0 p1) told = let es = (fine h exprs us es p1 (next tokens names (right tokens names ts (t ∷ us) told))) in is.elements (fine h expr ts e p0 (left tokens names ts (t ∷ us) told)) es.0 es.1
    fine h _ _ _ (grammar.colon_expr_is {ts = ts} {e = e} i0 p0) told = fine h expr ts e p0 (next tokens names told)
    fine h _ _ _ (grammar.let_in {u = u} {v = v} {w = w} {ts = ts} {us = us} {ds = ds} {es = es} i0 p0 i1 p1 i2 i3) told =
        let first = next tokens names told in
        let k = defs_levels ds in
        let inner = next tokens names (raised tokens names k ts (u ∷ (us ++ (v ∷ w ∷ []))) (defs_counted ts ds p0) first) in
        let results = fine (h + k) exprs us es p1 (left tokens names us (v ∷ w ∷ []) inner) in
        is.let_in (fine h defs ts ds p0 (left tokens names ts (u ∷ (us ++ (v ∷ w ∷ []))) first)).0 results.0 results.1
    fine h _ _ _ (grammar.if_else {u = u} {v = v} {w = w} {x = x} {ts = ts} {us = us} {vs = vs} {ws = ws} {e = e} {es = es} {fs = fs} {l = l} i0 p0 i1 p1 p2 i2 p3 i3 i4) told =
        let after_further = v ∷ (ws ++ (w ∷ x ∷ [])) in
        let after_first = vs ++ after_further in
        let after_test = u ∷ (us ++ after_first) in
        let results = next tokens names (right tokens names ts after_test (next tokens names told)) in
        let further = right tokens names us after_first results in
        let others = next tokens names (right tokens names vs after_further further) in
        let first = fine h exprs us es p1 (left tokens names us after_first results) in
        let last = nested_spelled tokens names h l fs (fine h (many else_if) vs l p2 (left tokens names vs after_further further)) (fine h exprs ws fs p3 (left tokens names ws (w ∷ x ∷ []) others)) in
        is.if_else (fine h expr ts e p0 (left tokens names ts after_test (next tokens names told))) first.0 first.1 last.0 last.1
    fine h _ _ _ (grammar.else_if_is {u = u} {ts = ts} {us = us} {e = e} {es = es} i0 p0 i1 p1) told = ((fine h expr ts e p0 (left tokens names ts (u ∷ us) (next tokens names told))), (fine h exprs us es p1 (next tokens names (right tokens names ts (u ∷ us) (next tokens names told)))))
    fine h _ _ _ (grammar.tagcase {t = t} {u = u} {v = v} {ts = ts} {us = us} {vs = vs} {ws = ws} {xs = xs} {n = n} {e = e} {a = a} {l = l} {o = o} i0 p0 p1 p2 p3 p4 i1 i2) told =
        let first = next tokens names told in
        let after_arms = xs ++ (u ∷ v ∷ []) in
        let after_arm = ws ++ after_arms in
        let after_subject = vs ++ after_arm in
        let subject = right tokens names ts (us ++ after_subject) first in
        let k = h + content_levels n in
        let inner : Told tokens names k after_subject = right tokens names us after_subject (raised tokens names (content_levels n) ts (us ++ after_subject) (content_counted ts n p0) first) in
        let more = left tokens names ws after_arms (right tokens names vs after_arm inner) in
        let counted = arms_counted ws l p3 in
        let last = right tokens names ws after_arms (right tokens names vs after_arm (right tokens names us after_subject subject)) in
        let all = is.an_arm (fine k arm vs a p2 (left tokens names vs after_arm inner)) (arms_of tokens names k l (fine k (many arm) ws l p3 more)) in
        case_spelled tokens names h t.line n e (a ∷ l) o (fine h expr us e p1 (left tokens names us after_subject subject))
        (is.arms n all (omega (arith, inner.room)) (omega arith) (omega (arith, counted, more.few))) (fine h (maybe otherwise) xs o p4 (left tokens names xs (u ∷ v ∷ []) last))
    fine h _ _ _ (grammar.binding_is i0 i1) told = tt
    fine h _ _ _ (grammar.otherwise_is {ts = ts} {es = es} i0 i1 p0) told = fine h exprs ts es p0 (next tokens names (next tokens names told))
    fine h _ _ _ (grammar.arm_is {t = t} {u = u} {v = v} {ts = ts} {us = us} {ns = ns} {es = es} i0 i1 p0 i2 p1) told = let results = (fine h exprs us es p1 (next tokens names (right tokens names ts (v ∷ us) (next tokens names (next tokens names told))))) in is.arm t.line (named u ∷ ns) (all_of (λ n. n.name < names) (named u ∷ ns) ((name_low tokens names u i1 told.each.1.0.0), (fine h (many comma_name) ts ns p0 (left tokens names ts (v ∷ us) (next tokens names (next tokens names told)))))) (omega arith) results.0 results.1
    fine h _ _ _ (grammar.for_product {u = u} {v = v} {w = w} {ts = ts} {us = us} {vs = vs} {ws = ws} {xs = xs} {g = g} {gs = gs} {ds = ds} {c = c} {cs = cs} i0 p0 p1 p2 i1 p3 p4 i2 i3) told =
        let first = next tokens names told in
        let after_clause = xs ++ (v ∷ w ∷ []) in
        let after_defs = u ∷ (ws ++ after_clause) in
        let after_groups = vs ++ after_defs in
        let after_group = us ++ after_groups in
        let one = fine h group ts g p0 (left tokens names ts after_group first) in
        let k = h + group_levels g in
        let cross : Told tokens names k after_group = raised tokens names (group_levels g) ts after_group (group_counted ts g p0) first in
        let m = h + groups_levels (g ∷ gs) in
        let inner : Told tokens names m after_groups = at_height tokens names m (raised tokens names (groups_levels gs) us after_groups (cross_groups_counted us gs p1) cross) (omega arith) in
        let n = m + defs_levels (listed ds) in
        let clauses : Told tokens names n (ws ++ after_clause) = next tokens names (raised tokens names (defs_levels (listed ds)) vs after_defs (maybe_defs_counted vs ds p2) inner) in
        let each = is.a_clause (fine n clause ws c p3 (left tokens names ws after_clause clauses)) (clauses_of tokens names n cs (fine n (many clause) xs cs p4 (left tokens names xs (v ∷ w ∷ []) (right tokens names ws after_clause clauses)))) in
        is.for_all (is.product (is.a_group one.0 one.1 (omega (arith, cross.room)) (groups_fine k us gs p1 (left tokens names us after_groups cross))) (omega arith)
        (listed_defs tokens names m ds (fine m (maybe defs) vs ds p2 (left tokens names vs after_defs inner))) each (omega arith))
    fine h _ _ _ (grammar.for_initial {v = v} {w = w} {x = x} {ts = ts} {us = us} {vs = vs} {ws = ws} {ds = ds} {r = r} {c = c} {cs = cs} i0 i1 p0 p1 i2 p2 p3 i3 i4) told =
        let after_clause = ws ++ (w ∷ x ∷ []) in
        let after_turn = v ∷ (vs ++ after_clause) in
        let all = next tokens names (next tokens names told) in
        let first = fine h defs ts ds p0 (left tokens names ts (us ++ after_turn) all) in
        let k = h + defs_levels ds in
        let inner : Told tokens names k (us ++ after_turn) = raised tokens names (defs_levels ds) ts (us ++ after_turn) (defs_counted ts ds p0) all in
        let clauses = next tokens names (right tokens names us after_turn inner) in
        let each = is.a_clause (fine k clause vs c p2 (left tokens names vs after_clause clauses)) (clauses_of tokens names k cs (fine k (many clause) ws cs p3 (left tokens names ws (w ∷ x ∷ []) (right tokens names vs after_clause clauses)))) in
        is.for_all (is.initial first.0 first.1 (fine k turn us r p1 (left tokens names us after_turn inner)) each (omega arith))
    fine h _ _ _ (grammar.cross_group_is {ts = ts} {g = g} i0 p0) told = fine h group ts g p0 (next tokens names told)
    fine h _ _ _ (grammar.group_is {ts = ts} {us = us} {g = g} {gs = gs} p0 p1) told = (is.a_generator (fine h gen ts g p0 (left tokens names ts us told)) (generators_of tokens names h gs (fine h (many dot_gen) us gs p1 (right tokens names ts us told))), omega arith)
    fine h _ _ _ (grammar.dot_gen_is {ts = ts} {g = g} i0 p0) told = fine h gen ts g p0 (next tokens names told)
    fine h _ _ _ (grammar.gen_is {t = t} {ts = ts} {us = us} {vs = vs} {e = e} {o = o} {n = n} i0 i1 p0 p1 p2) told = generator_spelled tokens names h (named t) e o n (name_low tokens names t i0 told.each.0.0) (fine h expr ts e p0 (left tokens names ts (us ++ vs) (next tokens names (next tokens names told)))) (fine h (maybe comma_expr) us o p1 (left tokens names us vs (right tokens names ts (us ++ vs) (next tokens names (next tokens names told)))))
    fine h _ _ _ (grammar.at_name_is i0 i1) told = tt
    fine h _ _ _ (grammar.defs_are {ts = ts} {us = us} {vs = vs} {d = d} {l = l} p0 p1 p2) told =
        let rest = raised tokens names (length (out-Def d).targets) ts (us ++ vs) (def_counted ts d p0) told in
        (is.a_def (fine h def ts d p0 (left tokens names ts (us ++ vs) told)) (defs_fine (h + length (out-Def d).targets) us l p1 (left tokens names us vs rest)), omega arith)
    fine h _ _ _ (grammar.semi_def_is {ts = ts} {d = d} i0 p0) told = fine h def ts d p0 (next tokens names told)
    fine h _ _ _ (grammar.def_is {t = t} {ts = ts} {us = us} {vs = vs} {x = x} {l = l} {es = es} p0 p1 i0 p2) told =
        let rest = left tokens names us (t ∷ vs) (right tokens names ts (us ++ (t ∷ vs)) told) in
        let values = fine h exprs vs es p2 (next tokens names (right tokens names us (t ∷ vs) (right tokens names ts (us ++ (t ∷ vs)) told))) in
        let one = target_some ts x p0 in
        let more = targets_counted us l p1 in
        let all = length-append ts (us ++ (t ∷ vs)) in
        let seam = length-append us (t ∷ vs) in
        is.def (x ∷ l) (all_of (IsTarget tokens names) (x ∷ l) (fine h target ts x p0 (left tokens names ts (us ++ (t ∷ vs)) told), fine h (many comma_target) us l p1 rest)) (omega arith)
        (omega (arith, one, more, told.room, all, seam)) values.0 values.1
    fine h _ _ _ (grammar.comma_target_is {ts = ts} {x = x} i0 p0) told = fine h target ts x p0 (next tokens names told)
    fine h _ _ _ (grammar.target_is {t = t} {ts = ts} {w = w} i0 p0) told = ((name_low tokens names t i0 told.each.0.0), type_if tokens names h w (fine h (maybe colon_type) ts w p0 (next tokens names told)))
    fine h _ _ _ (grammar.test_first {t = t} {ts = ts} {us = us} {x = x} {ds = ds} p0 i0 p1) told = let turn = (fine h defs us ds p1 (next tokens names (right tokens names ts (t ∷ us) told))) in is.turn true x.is_until (fine h test ts x p0 (left tokens names ts (t ∷ us) told)) turn.0 turn.1
    fine h _ _ _ (grammar.test_last {ts = ts} {us = us} {x = x} {ds = ds} i0 p0 p1) told = let turn = (fine h defs ts ds p0 (left tokens names ts us (next tokens names told))) in is.turn false x.is_until (fine h test us x p1 (right tokens names ts us (next tokens names told))) turn.0 turn.1
    fine h _ _ _ (grammar.while {ts = ts} {e = e} i0 p0) told = fine h expr ts e p0 (next tokens names told)
    fine h _ _ _ (grammar.until {ts = ts} {e = e} i0 p0) told = fine h expr ts e p0 (next tokens names told)
    fine h _ _ _ (grammar.array_of {t = t} {ts = ts} {us = us} {e = e} {m = m} i0 i1 p0 p1) told = clause_spelled tokens names h t.line made_by.Array e m (fine h expr ts e p0 (left tokens names ts us (next tokens names (next tokens names told)))) (fine h (maybe mask) us m p1 (right tokens names ts us (next tokens names (next tokens names told))))
    fine h _ _ _ (grammar.stream_of {t = t} {ts = ts} {us = us} {e = e} {m = m} i0 i1 p0 p1) told = clause_spelled tokens names h t.line made_by.Stream e m (fine h expr ts e p0 (left tokens names ts us (next tokens names (next tokens names told)))) (fine h (maybe mask) us m p1 (right tokens names ts us (next tokens names (next tokens names told))))
    fine h _ _ _ (grammar.value_of {t = t} {ts = ts} {us = us} {vs = vs} {k = k} {e = e} {m = m} i0 i1 p0 p1 p2) told = clause_spelled tokens names h t.line (folded k) e m (fine h expr us e p1 (left tokens names us vs (right tokens names ts (us ++ vs) (next tokens names (next tokens names told))))) (fine h (maybe mask) vs m p2 (right tokens names us vs (right tokens names ts (us ++ vs) (next tokens names (next tokens names told)))))
    fine h _ _ _ (grammar.folding_is p0 p1) told = tt
    fine h _ _ _ (grammar.left i0) told = tt
    fine h _ _ _ (grammar.right i0) told = tt
    fine h _ _ _ (grammar.as_tree i0) told = tt
    fine h _ _ _ (grammar.to_sum i0) told = tt
    fine h _ _ _ (grammar.to_product i0) told = tt
    fine h _ _ _ (grammar.to_least i0) told = tt
    fine h _ _ _ (grammar.to_greatest i0) told = tt
    fine h _ _ _ (grammar.to_catenate i0) told = tt
    fine h _ _ _ (grammar.when {ts = ts} {e = e} i0 p0) told = fine h expr ts e p0 (next tokens names told)
    fine h _ _ _ (grammar.unless {ts = ts} {e = e} i0 p0) told = fine h expr ts e p0 (next tokens names told)

    -- definitions at rising heights
    defs_fine : (h : ℕ) (ts : List Placed) (ds : List Def) → Spells (many semi_def) ts ds → Told tokens names h ts → AreDefs tokens names h ds
    defs_fine h _ _ grammar.nothing told = is.no_def
    defs_fine h _ _ (grammar.more {ts = ts} {us = us} {a = d} {l = ds} p0 p1) told =
        let n = length (out-Def d).targets in
        is.a_def (fine h semi_def ts d p0 (left tokens names ts us told)) (defs_fine (h + n) us ds p1 (raised tokens names n ts us (semi_def_counted ts d p0) told))

    -- and groups of generators
    groups_fine : (h : ℕ) (ts : List Placed) (gs : List (List Generator)) → Spells (many cross_group) ts gs → Told tokens names h ts → AreGroups tokens names h gs
    groups_fine h _ _ grammar.nothing told = is.no_group
    groups_fine h _ _ (grammar.more {ts = ts} {us = us} {a = g} {l = gs} p0 p1) told =
        let n = group_levels g in
        let one = fine h cross_group ts g p0 (left tokens names ts us told) in
        let rest = raised tokens names n ts us (cross_group_counted ts g p0) told in
        is.a_group one.0 one.1 (omega (arith, rest.room)) (groups_fine (h + n) us gs p1 rest)

pub items_spelled : SpelledLaw
items_spelled tokens names u low few spells = all_of (IsItem tokens names) u.items (fine tokens names 0 unit (placed 0 tokens) u spells (tokens_told tokens names low few))
