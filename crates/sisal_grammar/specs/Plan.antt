-- The action of each production, and the kind of value of each rule.
use Rattle.std.specs.Prelude.{List, [], ◌∷◌, slice_index_or}
use Rattle.pushdown.specs.Meaning.{Scheme}
use Rattle.sisal_grammar.specs.Sorts.{Sort, nothing, an_outline, names, an_item, items, a_type, types, a_field, fields, a_header, an_expr, exprs, maybe_expr, maybe_exprs, tail, a_post, posts, a_bracket, a_value, values, maybe_name, maybe_elements, a_subject, a_rest, an_arm, arms, a_loop, a_gen, gens, groups, a_def, defs, a_target, targets, maybe_type, a_turn, a_test, a_clause, clauses, a_kind, a_reduction, maybe_mask}
use Rattle.sisal_grammar.specs.Acts.{sisal}
use Rattle.sisal_grammar.specs.declared.action.Action.TheVariants as action
use Rattle.sisal_grammar.specs.declared.action.TheConstants.{ACTIONS}

-- the rules in the order of the grammar: unit, names, semi, items, item, type, fields, fields_more, field, tagfs, tagfs_more, tagf, tag_type, header, types, exprs, exprs_more, args, expr, expr_more, conj, conj_more, inv, rel, rel_more, cat, cat_more, sum, sum_more, term, term_more, neg, post, posts, selector, index, fv, fvs, fvs_more, prim, call, other, is_what, named, elements, content, elses, subject, subject_more, o_expr, o_conj, o_inv, o_rel, o_cat, o_sum, o_term, o_neg, o_post, arms, arm, otherwise, loop, groups, group, gens, gen, to, at, body, defs, defs_more, defs_rest, def, targets, target, of_type, turn, test, clauses, clause, fold, red, mask
unfoldable pub sorts : List Sort
sorts = an_outline ∷ names ∷ nothing ∷ items ∷ an_item ∷ a_type ∷ fields ∷ fields ∷ a_field ∷ nothing ∷ nothing ∷ nothing ∷ nothing ∷ a_header ∷ types ∷ exprs ∷ exprs ∷ exprs ∷ an_expr ∷ tail ∷ an_expr ∷ tail ∷ an_expr ∷ an_expr ∷ tail ∷ an_expr ∷ tail ∷ an_expr ∷ tail ∷ an_expr ∷ tail ∷ an_expr ∷ an_expr ∷ posts ∷ a_post ∷ a_bracket ∷ a_value ∷ values ∷ values ∷ an_expr ∷ maybe_exprs ∷ an_expr ∷ maybe_name ∷ maybe_name ∷ maybe_elements ∷ maybe_expr ∷ exprs ∷ a_subject ∷ a_rest ∷ an_expr ∷ an_expr ∷ an_expr ∷ an_expr ∷ an_expr ∷ an_expr ∷ an_expr ∷ an_expr ∷ an_expr ∷ arms ∷ an_arm ∷ maybe_exprs ∷ a_loop ∷ groups ∷ gens ∷ gens ∷ a_gen ∷ maybe_expr ∷ maybe_name ∷ defs ∷ defs ∷ defs ∷ defs ∷ a_def ∷ targets ∷ a_target ∷ maybe_type ∷ a_turn ∷ a_test ∷ clauses ∷ a_clause ∷ a_kind ∷ a_reduction ∷ maybe_mask ∷ []

unfoldable pub plan : Scheme sisal
plan = record { action = λ p. slice_index_or ACTIONS p action.Absent; kind = λ n. slice_index_or sorts n nothing }
