-- What each production of the factored grammar says, where its symbols say so.
use Rattle.std.proofs.Common.{◌≡◌, List, [], ◌∷◌, ◌++◌, Some, None, refl, sym, ap, subst}
use Rattle.sisal_tree.specs.Word.TheVariants as word
use Rattle.sisal_tree.specs.Sign.TheVariants as sign
use Rattle.sisal_tree.specs.declared.expr.ExprKind.TheVariants as tree
use Rattle.sisal_tree.specs.declared.expr.BinaryOperator.TheVariants as binary
use Rattle.sisal_tree.specs.declared.expr.Loop.TheVariants as loop
use Rattle.sisal_tree.specs.declared.expr.Clause.{roll-Clause}
use Rattle.sisal_tree.specs.declared.expr.ClauseKind.TheVariants as made
use Rattle.sisal_tree.specs.declared.expr.Direction.TheVariants as towards
use Rattle.sisal_grammar.specs.declared.action.Action.TheVariants as action
use Rattle.sisal_grammar.specs.declared.value.Placed.{Placed}
use Rattle.sisal_grammar.specs.Acts.{act, at, named, called, constant_of, prefix_of, binary_of, scalar_of, direction_of, reduction_of, is_until, is_unless, gathered_of}
use Rattle.sisal_grammar.specs.Classes.{class_of}
use Rattle.sisal_grammar.specs.Phrases.{many, maybe, inv, neg, header, prim, test, clause, red, mask, semi_field, semi_tagf, semi_fv, semi_def, or_conj, and_inv, or_sum, sum_term, term_neg}
use Rattle.sisal_grammar.specs.Sorts.{Val}
use Rattle.sisal_grammar.specs.Sorts as sort
use Rattle.sisal_grammar.specs.Spells.{Spells}
use Rattle.sisal_grammar.specs.Spells as spells
use Rattle.sisal_grammar.proofs.Joins.{ended_none, ended_last, ended_more, fields_said, defs_said, record_said, union_said, replace_said, made_record, one_place, more_places, rel_said, if_said, else_if_said, else_said, case_said, named_said, loop_tokens, product_tokens}
use Rattle.sisal_grammar.proofs.TokenClasses.{the_word, the_sign, the_name, number_at, letter_at, quoted_at}
use Rattle.sisal_grammar.proofs.Saying.{says_of, is_unit, is_names, is_semi, is_items, is_item, is_type, is_fields, is_fields_more, is_field, is_tagfs, is_tagfs_more, is_tagf, is_tag_type, is_header, is_types, is_exprs, is_exprs_more, is_args, is_expr, is_expr_more, is_conj, is_conj_more, is_inv, is_rel, is_rel_more, is_cat, is_cat_more, is_sum, is_sum_more, is_term, is_term_more, is_neg, is_post, is_posts, is_selector, is_index, is_fv, is_fvs, is_fvs_more, is_prim, is_call, is_other, is_is_what, is_named, is_elements, is_content, is_elses, is_subject, is_subject_more, is_o_expr, is_o_conj, is_o_inv, is_o_rel, is_o_cat, is_o_sum, is_o_term, is_o_neg, is_o_post, is_arms, is_arm, is_otherwise, is_loop, is_groups, is_group, is_gens, is_gen, is_to, is_at, is_body, is_defs, is_defs_more, is_defs_rest, is_def, is_targets, is_target, is_of_type, is_turn, is_test, is_clauses, is_clause, is_fold, is_red, is_mask}

-- unit = "define" @name names semi items
pub keep_0 : (t0 : Placed) → class_of t0.kind ≡ 1 → (t1 : Placed) → class_of t1.kind ≡ 2 → (ts2 : List Placed) (v2 : Val sort.names) → says_of is_names ts2 v2 → (ts3 : List Placed) (v3 : Val sort.nothing) → says_of is_semi ts3 v3 → (ts4 : List Placed) (v4 : Val sort.items) → says_of is_items ts4 v4 → says_of is_unit (t0 ∷ (t1 ∷ (ts2 ++ (ts3 ++ (ts4))))) (act action.Whole (t0, (t1, (v2, (v3, (v4, tt))))))
keep_0 t0 e0 t1 e1 ts2 v2 d2 ts3 v3 d3 ts4 v4 d4 = spells.unit_is (the_word word.WDefine t0 e0) (the_name t1 e1) d2 d3.1 d4

-- names =
pub keep_1 : says_of is_names [] (act action.NoNames tt)
keep_1 = spells.nothing

-- names = "," @name names
pub keep_2 : (t0 : Placed) → class_of t0.kind ≡ 3 → (t1 : Placed) → class_of t1.kind ≡ 2 → (ts2 : List Placed) (v2 : Val sort.names) → says_of is_names ts2 v2 → says_of is_names (t0 ∷ t1 ∷ ts2) (act action.MoreNames (t0, (t1, (v2, tt))))
keep_2 t0 e0 t1 e1 ts2 v2 d2 = spells.more (spells.comma_name_is (the_sign sign.SComma t0 e0) (the_name t1 e1)) d2

-- semi =
pub keep_3 : says_of is_semi [] (act action.Absent tt)
keep_3 = (None, spells.absent)

-- semi = ";"
pub keep_4 : (t0 : Placed) → class_of t0.kind ≡ 4 → says_of is_semi (t0 ∷ []) (act action.Sign (t0, tt))
keep_4 t0 e0 = (Some tt, spells.present (spells.semicolon_is (the_sign sign.SSemicolon t0 e0)))

-- items =
pub keep_5 : says_of is_items [] (act action.NoItems tt)
keep_5 = spells.nothing

-- items = item items
pub keep_6 : (ts0 : List Placed) (v0 : Val sort.an_item) → says_of is_item ts0 v0 → (ts1 : List Placed) (v1 : Val sort.items) → says_of is_items ts1 v1 → says_of is_items (ts0 ++ (ts1)) (act action.MoreItems (v0, (v1, tt)))
keep_6 ts0 v0 d0 ts1 v1 d1 = spells.more d0 d1

-- item = "type" @name "=" type semi
pub keep_7 : (t0 : Placed) → class_of t0.kind ≡ 5 → (t1 : Placed) → class_of t1.kind ≡ 2 → (t2 : Placed) → class_of t2.kind ≡ 6 → (ts3 : List Placed) (v3 : Val sort.a_type) → says_of is_type ts3 v3 → (ts4 : List Placed) (v4 : Val sort.nothing) → says_of is_semi ts4 v4 → says_of is_item (t0 ∷ (t1 ∷ (t2 ∷ (ts3 ++ (ts4))))) (act action.Alias (t0, (t1, (t2, (v3, (v4, tt))))))
keep_7 t0 e0 t1 e1 t2 e2 ts3 v3 d3 ts4 v4 d4 = spells.a_typedef (spells.typedef_is (the_word word.WType t0 e0) (the_name t1 e1) (the_sign sign.SEqual t2 e2) d3 d4.1)

-- item = "forward" "function" header semi
pub keep_8 : (t0 : Placed) → class_of t0.kind ≡ 7 → (t1 : Placed) → class_of t1.kind ≡ 8 → (ts2 : List Placed) (v2 : Val sort.a_header) → says_of is_header ts2 v2 → (ts3 : List Placed) (v3 : Val sort.nothing) → says_of is_semi ts3 v3 → says_of is_item (t0 ∷ (t1 ∷ (ts2 ++ (ts3)))) (act action.Forward (t0, (t1, (v2, (v3, tt)))))
keep_8 t0 e0 t1 e1 ts2 v2 d2 ts3 v3 d3 = spells.a_fundef (spells.forward (the_word word.WForward t0 e0) (the_word word.WFunction t1 e1) d2 d3.1)

-- item = "global" header semi
pub keep_9 : (t0 : Placed) → class_of t0.kind ≡ 9 → (ts1 : List Placed) (v1 : Val sort.a_header) → says_of is_header ts1 v1 → (ts2 : List Placed) (v2 : Val sort.nothing) → says_of is_semi ts2 v2 → says_of is_item (t0 ∷ (ts1 ++ (ts2))) (act action.Global (t0, (v1, (v2, tt))))
keep_9 t0 e0 ts1 v1 d1 ts2 v2 d2 = spells.a_fundef (spells.global (the_word word.WGlobal t0 e0) d1 d2.1)

-- item = "function" header exprs "end" "function" semi
pub keep_10 : (t0 : Placed) → class_of t0.kind ≡ 8 → (ts1 : List Placed) (v1 : Val sort.a_header) → says_of is_header ts1 v1 → (ts2 : List Placed) (v2 : Val sort.exprs) → says_of is_exprs ts2 v2 → (t3 : Placed) → class_of t3.kind ≡ 10 → (t4 : Placed) → class_of t4.kind ≡ 8 → (ts5 : List Placed) (v5 : Val sort.nothing) → says_of is_semi ts5 v5 → says_of is_item (t0 ∷ (ts1 ++ (ts2 ++ (t3 ∷ t4 ∷ ts5)))) (act action.Defined (t0, (v1, (v2, (t3, (t4, (v5, tt)))))))
keep_10 t0 e0 ts1 v1 d1 ts2 v2 d2 t3 e3 t4 e4 ts5 v5 d5 = spells.a_fundef (spells.function (the_word word.WFunction t0 e0) d1 d2 (the_word word.WEnd t3 e3) (the_word word.WFunction t4 e4) d5.1)

-- type = "integer"
pub keep_11 : (t0 : Placed) → class_of t0.kind ≡ 11 → says_of is_type (t0 ∷ []) (act action.Basic (t0, tt))
keep_11 t0 e0 = spells.integer_type (the_word word.WInteger t0 e0)

-- type = "boolean"
pub keep_12 : (t0 : Placed) → class_of t0.kind ≡ 12 → says_of is_type (t0 ∷ []) (act action.Basic (t0, tt))
keep_12 t0 e0 = spells.boolean_type (the_word word.WBoolean t0 e0)

-- type = "character"
pub keep_13 : (t0 : Placed) → class_of t0.kind ≡ 13 → says_of is_type (t0 ∷ []) (act action.Basic (t0, tt))
keep_13 t0 e0 = spells.character_type (the_word word.WCharacter t0 e0)

-- type = "null"
pub keep_14 : (t0 : Placed) → class_of t0.kind ≡ 14 → says_of is_type (t0 ∷ []) (act action.Basic (t0, tt))
keep_14 t0 e0 = spells.null_type (the_word word.WNull t0 e0)

-- type = "real"
pub keep_15 : (t0 : Placed) → class_of t0.kind ≡ 15 → says_of is_type (t0 ∷ []) (act action.Basic (t0, tt))
keep_15 t0 e0 = spells.real_type (the_word word.WReal t0 e0)

-- type = "double_real"
pub keep_16 : (t0 : Placed) → class_of t0.kind ≡ 16 → says_of is_type (t0 ∷ []) (act action.Basic (t0, tt))
keep_16 t0 e0 = spells.double_real_type (the_word word.WDoubleReal t0 e0)

-- type = @name
pub keep_17 : (t0 : Placed) → class_of t0.kind ≡ 2 → says_of is_type (t0 ∷ []) (act action.Basic (t0, tt))
keep_17 t0 e0 = spells.named_type (the_name t0 e0)

-- type = "array" "[" type "]"
pub keep_18 : (t0 : Placed) → class_of t0.kind ≡ 17 → (t1 : Placed) → class_of t1.kind ≡ 18 → (ts2 : List Placed) (v2 : Val sort.a_type) → says_of is_type ts2 v2 → (t3 : Placed) → class_of t3.kind ≡ 19 → says_of is_type (t0 ∷ (t1 ∷ (ts2 ++ (t3 ∷ [])))) (act action.Listed (t0, (t1, (v2, (t3, tt)))))
keep_18 t0 e0 t1 e1 ts2 v2 d2 t3 e3 = spells.array_type (the_word word.WArray t0 e0) (the_sign sign.SOpenBracket t1 e1) d2 (the_sign sign.SCloseBracket t3 e3)

-- type = "stream" "[" type "]"
pub keep_19 : (t0 : Placed) → class_of t0.kind ≡ 20 → (t1 : Placed) → class_of t1.kind ≡ 18 → (ts2 : List Placed) (v2 : Val sort.a_type) → says_of is_type ts2 v2 → (t3 : Placed) → class_of t3.kind ≡ 19 → says_of is_type (t0 ∷ (t1 ∷ (ts2 ++ (t3 ∷ [])))) (act action.Listed (t0, (t1, (v2, (t3, tt)))))
keep_19 t0 e0 t1 e1 ts2 v2 d2 t3 e3 = spells.stream_type (the_word word.WStream t0 e0) (the_sign sign.SOpenBracket t1 e1) d2 (the_sign sign.SCloseBracket t3 e3)

-- type = "record" "[" field fields "]"
pub keep_20 : (t0 : Placed) → class_of t0.kind ≡ 21 → (t1 : Placed) → class_of t1.kind ≡ 18 → (ts2 : List Placed) (v2 : Val sort.a_field) → says_of is_field ts2 v2 → (ts3 : List Placed) (v3 : Val sort.fields) → says_of is_fields ts3 v3 → (t4 : Placed) → class_of t4.kind ≡ 19 → says_of is_type (t0 ∷ (t1 ∷ (ts2 ++ (ts3 ++ (t4 ∷ []))))) (act action.Fielded (t0, (t1, (v2, (v3, (t4, tt))))))
keep_20 t0 e0 t1 e1 ts2 v2 d2 ts3 v3 d3 t4 e4 = record_said t0 t1 t4 ts2 ts3 v2 v3 (the_word word.WRecord t0 e0) (the_sign sign.SOpenBracket t1 e1) d2 d3 (the_sign sign.SCloseBracket t4 e4)

-- type = "union" "[" tagf tagfs "]"
pub keep_21 : (t0 : Placed) → class_of t0.kind ≡ 22 → (t1 : Placed) → class_of t1.kind ≡ 18 → (ts2 : List Placed) (v2 : Val sort.nothing) → says_of is_tagf ts2 v2 → (ts3 : List Placed) (v3 : Val sort.nothing) → says_of is_tagfs ts3 v3 → (t4 : Placed) → class_of t4.kind ≡ 19 → says_of is_type (t0 ∷ (t1 ∷ (ts2 ++ (ts3 ++ (t4 ∷ []))))) (act action.Tagged (t0, (t1, (v2, (v3, (t4, tt))))))
keep_21 t0 e0 t1 e1 ts2 v2 d2 ts3 v3 d3 t4 e4 = union_said t0 t1 t4 ts2 ts3 (the_word word.WUnion t0 e0) (the_sign sign.SOpenBracket t1 e1) d2 d3 (the_sign sign.SCloseBracket t4 e4)

-- fields =
pub keep_22 : says_of is_fields [] (act action.NoFields tt)
keep_22 = ended_none semi_field

-- fields = ";" fields_more
pub keep_23 : (t0 : Placed) → class_of t0.kind ≡ 4 → (ts1 : List Placed) (v1 : Val sort.fields) → says_of is_fields_more ts1 v1 → says_of is_fields (t0 ∷ ts1) (act action.SemiFields (t0, (v1, tt)))
keep_23 t0 e0 ts1 v1 d1 = d1.further t0 (the_sign sign.SSemicolon t0 e0)

-- fields_more =
pub keep_24 : says_of is_fields_more [] (act action.NoFields tt)
keep_24 = record { found = None; same = refl; spelled = spells.absent; further = λ t i. ended_last semi_field t i }

-- fields_more = field fields
pub keep_25 : (ts0 : List Placed) (v0 : Val sort.a_field) → says_of is_field ts0 v0 → (ts1 : List Placed) (v1 : Val sort.fields) → says_of is_fields ts1 v1 → says_of is_fields_more (ts0 ++ (ts1)) (act action.MoreFields (v0, (v1, tt)))
keep_25 ts0 v0 d0 ts1 v1 d1 = record { found = Some (v0 ∷ v1); same = refl; spelled = spells.present (fields_said ts0 ts1 v0 v1 d0 d1); further = λ t i. ended_more semi_field (t ∷ ts0) ts1 v0 v1 (spells.semi_field_is i d0) d1 }

-- field = @name names ":" type
pub keep_26 : (t0 : Placed) → class_of t0.kind ≡ 2 → (ts1 : List Placed) (v1 : Val sort.names) → says_of is_names ts1 v1 → (t2 : Placed) → class_of t2.kind ≡ 23 → (ts3 : List Placed) (v3 : Val sort.a_type) → says_of is_type ts3 v3 → says_of is_field (t0 ∷ (ts1 ++ (t2 ∷ ts3))) (act action.OneField (t0, (v1, (t2, (v3, tt)))))
keep_26 t0 e0 ts1 v1 d1 t2 e2 ts3 v3 d3 = spells.field_is (the_name t0 e0) d1 (the_sign sign.SColon t2 e2) d3

-- tagfs =
pub keep_27 : says_of is_tagfs [] (act action.Absent tt)
keep_27 = ([], ended_none semi_tagf)

-- tagfs = ";" tagfs_more
pub keep_28 : (t0 : Placed) → class_of t0.kind ≡ 4 → (ts1 : List Placed) (v1 : Val sort.nothing) → says_of is_tagfs_more ts1 v1 → says_of is_tagfs (t0 ∷ ts1) (act action.SemiTags (t0, (v1, tt)))
keep_28 t0 e0 ts1 v1 d1 = d1 t0 (the_sign sign.SSemicolon t0 e0)

-- tagfs_more =
pub keep_29 : says_of is_tagfs_more [] (act action.Absent tt)
keep_29 = λ t i. ([], ended_last semi_tagf t i)

-- tagfs_more = tagf tagfs
pub keep_30 : (ts0 : List Placed) (v0 : Val sort.nothing) → says_of is_tagf ts0 v0 → (ts1 : List Placed) (v1 : Val sort.nothing) → says_of is_tagfs ts1 v1 → says_of is_tagfs_more (ts0 ++ (ts1)) (act action.MoreTags (v0, (v1, tt)))
keep_30 ts0 v0 d0 ts1 v1 d1 = λ t i. (tt ∷ d1.0, ended_more semi_tagf (t ∷ ts0) ts1 tt d1.0 (spells.semi_tagf_is i d0) d1.1)

-- tagf = @name names tag_type
pub keep_31 : (t0 : Placed) → class_of t0.kind ≡ 2 → (ts1 : List Placed) (v1 : Val sort.names) → says_of is_names ts1 v1 → (ts2 : List Placed) (v2 : Val sort.nothing) → says_of is_tag_type ts2 v2 → says_of is_tagf (t0 ∷ (ts1 ++ (ts2))) (act action.OneTag (t0, (v1, (v2, tt))))
keep_31 t0 e0 ts1 v1 d1 ts2 v2 d2 = spells.tagf_is (the_name t0 e0) d1 d2.1

-- tag_type =
pub keep_32 : says_of is_tag_type [] (act action.Absent tt)
keep_32 = (None, spells.absent)

-- tag_type = ":" type
pub keep_33 : (t0 : Placed) → class_of t0.kind ≡ 23 → (ts1 : List Placed) (v1 : Val sort.a_type) → says_of is_type ts1 v1 → says_of is_tag_type (t0 ∷ ts1) (act action.TypedTag (t0, (v1, tt)))
keep_33 t0 e0 ts1 v1 d1 = (Some v1, spells.present (spells.colon_type_is (the_sign sign.SColon t0 e0) d1))

-- header = @name "(" fields_more "returns" type types ")"
pub keep_34 : (t0 : Placed) → class_of t0.kind ≡ 2 → (t1 : Placed) → class_of t1.kind ≡ 24 → (ts2 : List Placed) (v2 : Val sort.fields) → says_of is_fields_more ts2 v2 → (t3 : Placed) → class_of t3.kind ≡ 25 → (ts4 : List Placed) (v4 : Val sort.a_type) → says_of is_type ts4 v4 → (ts5 : List Placed) (v5 : Val sort.types) → says_of is_types ts5 v5 → (t6 : Placed) → class_of t6.kind ≡ 26 → says_of is_header (t0 ∷ (t1 ∷ (ts2 ++ (t3 ∷ (ts4 ++ (ts5 ++ (t6 ∷ []))))))) (act action.OneHeader (t0, (t1, (v2, (t3, (v4, (v5, (t6, tt))))))))
keep_34 t0 e0 t1 e1 ts2 v2 d2 t3 e3 ts4 v4 d4 ts5 v5 d5 t6 e6 = subst (λ z. Spells header (t0 ∷ (t1 ∷ (ts2 ++ (t3 ∷ (ts4 ++ (ts5 ++ (t6 ∷ []))))))) (record { name = named t0; params = z; results = v4 ∷ v5 })) (sym d2.same) (spells.header_is (the_name t0 e0) (the_sign sign.SOpenParen t1 e1) d2.spelled (the_word word.WReturns t3 e3) d4 d5 (the_sign sign.SCloseParen t6 e6))

-- types =
pub keep_35 : says_of is_types [] (act action.NoTypes tt)
keep_35 = spells.nothing

-- types = "," type types
pub keep_36 : (t0 : Placed) → class_of t0.kind ≡ 3 → (ts1 : List Placed) (v1 : Val sort.a_type) → says_of is_type ts1 v1 → (ts2 : List Placed) (v2 : Val sort.types) → says_of is_types ts2 v2 → says_of is_types (t0 ∷ (ts1 ++ (ts2))) (act action.MoreTypes (t0, (v1, (v2, tt))))
keep_36 t0 e0 ts1 v1 d1 ts2 v2 d2 = spells.more (spells.comma_type_is (the_sign sign.SComma t0 e0) d1) d2

-- exprs = expr exprs_more
pub keep_37 : (ts0 : List Placed) (v0 : Val sort.an_expr) → says_of is_expr ts0 v0 → (ts1 : List Placed) (v1 : Val sort.exprs) → says_of is_exprs_more ts1 v1 → says_of is_exprs (ts0 ++ (ts1)) (act action.Exprs (v0, (v1, tt)))
keep_37 ts0 v0 d0 ts1 v1 d1 = spells.exprs_are d0 d1

-- exprs_more =
pub keep_38 : says_of is_exprs_more [] (act action.NoExprs tt)
keep_38 = spells.nothing

-- exprs_more = "," expr exprs_more
pub keep_39 : (t0 : Placed) → class_of t0.kind ≡ 3 → (ts1 : List Placed) (v1 : Val sort.an_expr) → says_of is_expr ts1 v1 → (ts2 : List Placed) (v2 : Val sort.exprs) → says_of is_exprs_more ts2 v2 → says_of is_exprs_more (t0 ∷ (ts1 ++ (ts2))) (act action.MoreExprs (t0, (v1, (v2, tt))))
keep_39 t0 e0 ts1 v1 d1 ts2 v2 d2 = spells.more (spells.comma_expr_is (the_sign sign.SComma t0 e0) d1) d2

-- args =
pub keep_40 : says_of is_args [] (act action.NoExprs tt)
keep_40 = record { found = None; same = refl; spelled = spells.absent }

-- args = exprs
pub keep_41 : (ts0 : List Placed) (v0 : Val sort.exprs) → says_of is_exprs ts0 v0 → says_of is_args ts0 (act action.SameExprs (v0, tt))
keep_41 ts0 v0 d0 = record { found = Some v0; same = refl; spelled = spells.present d0 }

-- expr = conj expr_more
pub keep_42 : (ts0 : List Placed) (v0 : Val sort.an_expr) → says_of is_conj ts0 v0 → (ts1 : List Placed) (v1 : Val sort.tail) → says_of is_expr_more ts1 v1 → says_of is_expr (ts0 ++ (ts1)) (act action.Chain (v0, (v1, tt)))
keep_42 ts0 v0 d0 ts1 v1 d1 = spells.expr_is d0 d1

-- expr_more =
pub keep_43 : says_of is_expr_more [] (act action.NoTail tt)
keep_43 = spells.nothing

-- expr_more = "|" conj expr_more
pub keep_44 : (t0 : Placed) → class_of t0.kind ≡ 27 → (ts1 : List Placed) (v1 : Val sort.an_expr) → says_of is_conj ts1 v1 → (ts2 : List Placed) (v2 : Val sort.tail) → says_of is_expr_more ts2 v2 → says_of is_expr_more (t0 ∷ (ts1 ++ (ts2))) (act action.MoreTail (t0, (v1, (v2, tt))))
keep_44 t0 e0 ts1 v1 d1 ts2 v2 d2 = subst (λ z. Spells (many or_conj) (t0 ∷ (ts1 ++ (ts2))) ((z, v1) ∷ v2)) (sym (ap binary_of (the_sign sign.SOr t0 e0).is)) (spells.more (spells.or_conj_is (the_sign sign.SOr t0 e0) d1) d2)

-- conj = inv conj_more
pub keep_45 : (ts0 : List Placed) (v0 : Val sort.an_expr) → says_of is_inv ts0 v0 → (ts1 : List Placed) (v1 : Val sort.tail) → says_of is_conj_more ts1 v1 → says_of is_conj (ts0 ++ (ts1)) (act action.Chain (v0, (v1, tt)))
keep_45 ts0 v0 d0 ts1 v1 d1 = spells.conj_is d0 d1

-- conj_more =
pub keep_46 : says_of is_conj_more [] (act action.NoTail tt)
keep_46 = spells.nothing

-- conj_more = "&" inv conj_more
pub keep_47 : (t0 : Placed) → class_of t0.kind ≡ 28 → (ts1 : List Placed) (v1 : Val sort.an_expr) → says_of is_inv ts1 v1 → (ts2 : List Placed) (v2 : Val sort.tail) → says_of is_conj_more ts2 v2 → says_of is_conj_more (t0 ∷ (ts1 ++ (ts2))) (act action.MoreTail (t0, (v1, (v2, tt))))
keep_47 t0 e0 ts1 v1 d1 ts2 v2 d2 = subst (λ z. Spells (many and_inv) (t0 ∷ (ts1 ++ (ts2))) ((z, v1) ∷ v2)) (sym (ap binary_of (the_sign sign.SAnd t0 e0).is)) (spells.more (spells.and_inv_is (the_sign sign.SAnd t0 e0) d1) d2)

-- inv = "~" inv
pub keep_48 : (t0 : Placed) → class_of t0.kind ≡ 29 → (ts1 : List Placed) (v1 : Val sort.an_expr) → says_of is_inv ts1 v1 → says_of is_inv (t0 ∷ ts1) (act action.Prefix (t0, (v1, tt)))
keep_48 t0 e0 ts1 v1 d1 = subst (λ z. Spells inv (t0 ∷ ts1) (at t0.line (tree.Prefix z v1))) (sym (ap prefix_of (the_sign sign.SNot t0 e0).is)) (spells.not (the_sign sign.SNot t0 e0) d1)

-- inv = rel
pub keep_49 : (ts0 : List Placed) (v0 : Val sort.an_expr) → says_of is_rel ts0 v0 → says_of is_inv ts0 (act action.SameExpr (v0, tt))
keep_49 ts0 v0 d0 = spells.inv_rel d0

-- rel = cat rel_more
pub keep_50 : (ts0 : List Placed) (v0 : Val sort.an_expr) → says_of is_cat ts0 v0 → (ts1 : List Placed) (v1 : Val sort.tail) → says_of is_rel_more ts1 v1 → says_of is_rel (ts0 ++ (ts1)) (act action.Chain (v0, (v1, tt)))
keep_50 ts0 v0 d0 ts1 v1 d1 = rel_said ts0 ts1 v0 v1 d0 d1

-- rel_more =
pub keep_51 : says_of is_rel_more [] (act action.NoTail tt)
keep_51 = record { found = None; same = refl; spelled = spells.absent }

-- rel_more = "=" cat
pub keep_52 : (t0 : Placed) → class_of t0.kind ≡ 6 → (ts1 : List Placed) (v1 : Val sort.an_expr) → says_of is_cat ts1 v1 → says_of is_rel_more (t0 ∷ ts1) (act action.OneTail (t0, (v1, tt)))
keep_52 t0 e0 ts1 v1 d1 = record { found = Some (binary.Equal, v1); same = ap (λ z. (binary_of z, v1) ∷ []) (the_sign sign.SEqual t0 e0).is; spelled = spells.present (spells.equal (the_sign sign.SEqual t0 e0) d1) }

-- rel_more = "~=" cat
pub keep_53 : (t0 : Placed) → class_of t0.kind ≡ 30 → (ts1 : List Placed) (v1 : Val sort.an_expr) → says_of is_cat ts1 v1 → says_of is_rel_more (t0 ∷ ts1) (act action.OneTail (t0, (v1, tt)))
keep_53 t0 e0 ts1 v1 d1 = record { found = Some (binary.NotEqual, v1); same = ap (λ z. (binary_of z, v1) ∷ []) (the_sign sign.SNotEqual t0 e0).is; spelled = spells.present (spells.not_equal (the_sign sign.SNotEqual t0 e0) d1) }

-- rel_more = "<" cat
pub keep_54 : (t0 : Placed) → class_of t0.kind ≡ 31 → (ts1 : List Placed) (v1 : Val sort.an_expr) → says_of is_cat ts1 v1 → says_of is_rel_more (t0 ∷ ts1) (act action.OneTail (t0, (v1, tt)))
keep_54 t0 e0 ts1 v1 d1 = record { found = Some (binary.Less, v1); same = ap (λ z. (binary_of z, v1) ∷ []) (the_sign sign.SLess t0 e0).is; spelled = spells.present (spells.less (the_sign sign.SLess t0 e0) d1) }

-- rel_more = "<=" cat
pub keep_55 : (t0 : Placed) → class_of t0.kind ≡ 32 → (ts1 : List Placed) (v1 : Val sort.an_expr) → says_of is_cat ts1 v1 → says_of is_rel_more (t0 ∷ ts1) (act action.OneTail (t0, (v1, tt)))
keep_55 t0 e0 ts1 v1 d1 = record { found = Some (binary.LessEqual, v1); same = ap (λ z. (binary_of z, v1) ∷ []) (the_sign sign.SLessEqual t0 e0).is; spelled = spells.present (spells.less_equal (the_sign sign.SLessEqual t0 e0) d1) }

-- rel_more = ">" cat
pub keep_56 : (t0 : Placed) → class_of t0.kind ≡ 33 → (ts1 : List Placed) (v1 : Val sort.an_expr) → says_of is_cat ts1 v1 → says_of is_rel_more (t0 ∷ ts1) (act action.OneTail (t0, (v1, tt)))
keep_56 t0 e0 ts1 v1 d1 = record { found = Some (binary.Greater, v1); same = ap (λ z. (binary_of z, v1) ∷ []) (the_sign sign.SGreater t0 e0).is; spelled = spells.present (spells.greater (the_sign sign.SGreater t0 e0) d1) }

-- rel_more = ">=" cat
pub keep_57 : (t0 : Placed) → class_of t0.kind ≡ 34 → (ts1 : List Placed) (v1 : Val sort.an_expr) → says_of is_cat ts1 v1 → says_of is_rel_more (t0 ∷ ts1) (act action.OneTail (t0, (v1, tt)))
keep_57 t0 e0 ts1 v1 d1 = record { found = Some (binary.GreaterEqual, v1); same = ap (λ z. (binary_of z, v1) ∷ []) (the_sign sign.SGreaterEqual t0 e0).is; spelled = spells.present (spells.greater_equal (the_sign sign.SGreaterEqual t0 e0) d1) }

-- cat = sum cat_more
pub keep_58 : (ts0 : List Placed) (v0 : Val sort.an_expr) → says_of is_sum ts0 v0 → (ts1 : List Placed) (v1 : Val sort.tail) → says_of is_cat_more ts1 v1 → says_of is_cat (ts0 ++ (ts1)) (act action.Chain (v0, (v1, tt)))
keep_58 ts0 v0 d0 ts1 v1 d1 = spells.cat_is d0 d1

-- cat_more =
pub keep_59 : says_of is_cat_more [] (act action.NoTail tt)
keep_59 = spells.nothing

-- cat_more = "||" sum cat_more
pub keep_60 : (t0 : Placed) → class_of t0.kind ≡ 35 → (ts1 : List Placed) (v1 : Val sort.an_expr) → says_of is_sum ts1 v1 → (ts2 : List Placed) (v2 : Val sort.tail) → says_of is_cat_more ts2 v2 → says_of is_cat_more (t0 ∷ (ts1 ++ (ts2))) (act action.MoreTail (t0, (v1, (v2, tt))))
keep_60 t0 e0 ts1 v1 d1 ts2 v2 d2 = subst (λ z. Spells (many or_sum) (t0 ∷ (ts1 ++ (ts2))) ((z, v1) ∷ v2)) (sym (ap binary_of (the_sign sign.SCatenate t0 e0).is)) (spells.more (spells.catenate (the_sign sign.SCatenate t0 e0) d1) d2)

-- sum = term sum_more
pub keep_61 : (ts0 : List Placed) (v0 : Val sort.an_expr) → says_of is_term ts0 v0 → (ts1 : List Placed) (v1 : Val sort.tail) → says_of is_sum_more ts1 v1 → says_of is_sum (ts0 ++ (ts1)) (act action.Chain (v0, (v1, tt)))
keep_61 ts0 v0 d0 ts1 v1 d1 = spells.sum_is d0 d1

-- sum_more =
pub keep_62 : says_of is_sum_more [] (act action.NoTail tt)
keep_62 = spells.nothing

-- sum_more = "+" term sum_more
pub keep_63 : (t0 : Placed) → class_of t0.kind ≡ 36 → (ts1 : List Placed) (v1 : Val sort.an_expr) → says_of is_term ts1 v1 → (ts2 : List Placed) (v2 : Val sort.tail) → says_of is_sum_more ts2 v2 → says_of is_sum_more (t0 ∷ (ts1 ++ (ts2))) (act action.MoreTail (t0, (v1, (v2, tt))))
keep_63 t0 e0 ts1 v1 d1 ts2 v2 d2 = subst (λ z. Spells (many sum_term) (t0 ∷ (ts1 ++ (ts2))) ((z, v1) ∷ v2)) (sym (ap binary_of (the_sign sign.SPlus t0 e0).is)) (spells.more (spells.plus (the_sign sign.SPlus t0 e0) d1) d2)

-- sum_more = "-" term sum_more
pub keep_64 : (t0 : Placed) → class_of t0.kind ≡ 37 → (ts1 : List Placed) (v1 : Val sort.an_expr) → says_of is_term ts1 v1 → (ts2 : List Placed) (v2 : Val sort.tail) → says_of is_sum_more ts2 v2 → says_of is_sum_more (t0 ∷ (ts1 ++ (ts2))) (act action.MoreTail (t0, (v1, (v2, tt))))
keep_64 t0 e0 ts1 v1 d1 ts2 v2 d2 = subst (λ z. Spells (many sum_term) (t0 ∷ (ts1 ++ (ts2))) ((z, v1) ∷ v2)) (sym (ap binary_of (the_sign sign.SMinus t0 e0).is)) (spells.more (spells.minus (the_sign sign.SMinus t0 e0) d1) d2)

-- term = neg term_more
pub keep_65 : (ts0 : List Placed) (v0 : Val sort.an_expr) → says_of is_neg ts0 v0 → (ts1 : List Placed) (v1 : Val sort.tail) → says_of is_term_more ts1 v1 → says_of is_term (ts0 ++ (ts1)) (act action.Chain (v0, (v1, tt)))
keep_65 ts0 v0 d0 ts1 v1 d1 = spells.term_is d0 d1

-- term_more =
pub keep_66 : says_of is_term_more [] (act action.NoTail tt)
keep_66 = spells.nothing

-- term_more = "*" neg term_more
pub keep_67 : (t0 : Placed) → class_of t0.kind ≡ 38 → (ts1 : List Placed) (v1 : Val sort.an_expr) → says_of is_neg ts1 v1 → (ts2 : List Placed) (v2 : Val sort.tail) → says_of is_term_more ts2 v2 → says_of is_term_more (t0 ∷ (ts1 ++ (ts2))) (act action.MoreTail (t0, (v1, (v2, tt))))
keep_67 t0 e0 ts1 v1 d1 ts2 v2 d2 = subst (λ z. Spells (many term_neg) (t0 ∷ (ts1 ++ (ts2))) ((z, v1) ∷ v2)) (sym (ap binary_of (the_sign sign.STimes t0 e0).is)) (spells.more (spells.times (the_sign sign.STimes t0 e0) d1) d2)

-- term_more = "/" neg term_more
pub keep_68 : (t0 : Placed) → class_of t0.kind ≡ 39 → (ts1 : List Placed) (v1 : Val sort.an_expr) → says_of is_neg ts1 v1 → (ts2 : List Placed) (v2 : Val sort.tail) → says_of is_term_more ts2 v2 → says_of is_term_more (t0 ∷ (ts1 ++ (ts2))) (act action.MoreTail (t0, (v1, (v2, tt))))
keep_68 t0 e0 ts1 v1 d1 ts2 v2 d2 = subst (λ z. Spells (many term_neg) (t0 ∷ (ts1 ++ (ts2))) ((z, v1) ∷ v2)) (sym (ap binary_of (the_sign sign.SDivide t0 e0).is)) (spells.more (spells.divide (the_sign sign.SDivide t0 e0) d1) d2)

-- neg = "-" neg
pub keep_69 : (t0 : Placed) → class_of t0.kind ≡ 37 → (ts1 : List Placed) (v1 : Val sort.an_expr) → says_of is_neg ts1 v1 → says_of is_neg (t0 ∷ ts1) (act action.Prefix (t0, (v1, tt)))
keep_69 t0 e0 ts1 v1 d1 = subst (λ z. Spells neg (t0 ∷ ts1) (at t0.line (tree.Prefix z v1))) (sym (ap prefix_of (the_sign sign.SMinus t0 e0).is)) (spells.negate (the_sign sign.SMinus t0 e0) d1)

-- neg = post
pub keep_70 : (ts0 : List Placed) (v0 : Val sort.an_expr) → says_of is_post ts0 v0 → says_of is_neg ts0 (act action.SameExpr (v0, tt))
keep_70 ts0 v0 d0 = spells.neg_post d0

-- post = prim posts
pub keep_71 : (ts0 : List Placed) (v0 : Val sort.an_expr) → says_of is_prim ts0 v0 → (ts1 : List Placed) (v1 : Val sort.posts) → says_of is_posts ts1 v1 → says_of is_post (ts0 ++ (ts1)) (act action.Posted (v0, (v1, tt)))
keep_71 ts0 v0 d0 ts1 v1 d1 = spells.post_is d0 d1

-- posts =
pub keep_72 : says_of is_posts [] (act action.NoPosts tt)
keep_72 = spells.nothing

-- posts = selector posts
pub keep_73 : (ts0 : List Placed) (v0 : Val sort.a_post) → says_of is_selector ts0 v0 → (ts1 : List Placed) (v1 : Val sort.posts) → says_of is_posts ts1 v1 → says_of is_posts (ts0 ++ (ts1)) (act action.MorePosts (v0, (v1, tt)))
keep_73 ts0 v0 d0 ts1 v1 d1 = spells.more d0 d1

-- selector = "[" expr index
pub keep_74 : (t0 : Placed) → class_of t0.kind ≡ 18 → (ts1 : List Placed) (v1 : Val sort.an_expr) → says_of is_expr ts1 v1 → (ts2 : List Placed) (v2 : Val sort.a_bracket) → says_of is_index ts2 v2 → says_of is_selector (t0 ∷ (ts1 ++ (ts2))) (act action.Bracket (t0, (v1, (v2, tt))))
keep_74 t0 e0 ts1 v1 d1 ts2 v2 d2 = d2 t0 ts1 v1 (the_sign sign.SOpenBracket t0 e0) d1

-- selector = "." @name
pub keep_75 : (t0 : Placed) → class_of t0.kind ≡ 40 → (t1 : Placed) → class_of t1.kind ≡ 2 → says_of is_selector (t0 ∷ t1 ∷ []) (act action.Dot (t0, (t1, tt)))
keep_75 t0 e0 t1 e1 = spells.dot (the_sign sign.SDot t0 e0) (the_name t1 e1)

-- selector = "replace" "[" fv fvs "]"
pub keep_76 : (t0 : Placed) → class_of t0.kind ≡ 41 → (t1 : Placed) → class_of t1.kind ≡ 18 → (ts2 : List Placed) (v2 : Val sort.a_value) → says_of is_fv ts2 v2 → (ts3 : List Placed) (v3 : Val sort.values) → says_of is_fvs ts3 v3 → (t4 : Placed) → class_of t4.kind ≡ 19 → says_of is_selector (t0 ∷ (t1 ∷ (ts2 ++ (ts3 ++ (t4 ∷ []))))) (act action.Replaced (t0, (t1, (v2, (v3, (t4, tt))))))
keep_76 t0 e0 t1 e1 ts2 v2 d2 ts3 v3 d3 t4 e4 = replace_said t0 t1 t4 ts2 ts3 v2 v3 (the_word word.WReplace t0 e0) (the_sign sign.SOpenBracket t1 e1) d2 d3 (the_sign sign.SCloseBracket t4 e4)

-- index = "]"
pub keep_77 : (t0 : Placed) → class_of t0.kind ≡ 19 → says_of is_index (t0 ∷ []) (act action.CloseBracket (t0, tt))
keep_77 t0 e0 = λ t ws e i d. one_place t t0 ws e i d (the_sign sign.SCloseBracket t0 e0)

-- index = "," expr exprs_more "]"
pub keep_78 : (t0 : Placed) → class_of t0.kind ≡ 3 → (ts1 : List Placed) (v1 : Val sort.an_expr) → says_of is_expr ts1 v1 → (ts2 : List Placed) (v2 : Val sort.exprs) → says_of is_exprs_more ts2 v2 → (t3 : Placed) → class_of t3.kind ≡ 19 → says_of is_index (t0 ∷ (ts1 ++ (ts2 ++ (t3 ∷ [])))) (act action.MoreBracket (t0, (v1, (v2, (t3, tt)))))
keep_78 t0 e0 ts1 v1 d1 ts2 v2 d2 t3 e3 = λ t ws e i d. more_places t t0 t3 ws ts1 ts2 e v1 v2 i d (the_sign sign.SComma t0 e0) d1 d2 (the_sign sign.SCloseBracket t3 e3)

-- index = ":" expr "]"
pub keep_79 : (t0 : Placed) → class_of t0.kind ≡ 23 → (ts1 : List Placed) (v1 : Val sort.an_expr) → says_of is_expr ts1 v1 → (t2 : Placed) → class_of t2.kind ≡ 19 → says_of is_index (t0 ∷ (ts1 ++ (t2 ∷ []))) (act action.ColonBracket (t0, (v1, (t2, tt))))
keep_79 t0 e0 ts1 v1 d1 t2 e2 = λ t ws e i d. spells.change i d (the_sign sign.SColon t0 e0) d1 (the_sign sign.SCloseBracket t2 e2)

-- fv = @name ":" expr
pub keep_80 : (t0 : Placed) → class_of t0.kind ≡ 2 → (t1 : Placed) → class_of t1.kind ≡ 23 → (ts2 : List Placed) (v2 : Val sort.an_expr) → says_of is_expr ts2 v2 → says_of is_fv (t0 ∷ t1 ∷ ts2) (act action.OneValue (t0, (t1, (v2, tt))))
keep_80 t0 e0 t1 e1 ts2 v2 d2 = spells.fv_is (the_name t0 e0) (the_sign sign.SColon t1 e1) d2

-- fvs =
pub keep_81 : says_of is_fvs [] (act action.NoValues tt)
keep_81 = ended_none semi_fv

-- fvs = ";" fvs_more
pub keep_82 : (t0 : Placed) → class_of t0.kind ≡ 4 → (ts1 : List Placed) (v1 : Val sort.values) → says_of is_fvs_more ts1 v1 → says_of is_fvs (t0 ∷ ts1) (act action.SemiValues (t0, (v1, tt)))
keep_82 t0 e0 ts1 v1 d1 = d1 t0 (the_sign sign.SSemicolon t0 e0)

-- fvs_more =
pub keep_83 : says_of is_fvs_more [] (act action.NoValues tt)
keep_83 = λ t i. ended_last semi_fv t i

-- fvs_more = fv fvs
pub keep_84 : (ts0 : List Placed) (v0 : Val sort.a_value) → says_of is_fv ts0 v0 → (ts1 : List Placed) (v1 : Val sort.values) → says_of is_fvs ts1 v1 → says_of is_fvs_more (ts0 ++ (ts1)) (act action.MoreValues (v0, (v1, tt)))
keep_84 ts0 v0 d0 ts1 v1 d1 = λ t i. ended_more semi_fv (t ∷ ts0) ts1 v0 v1 (spells.semi_fv_is i d0) d1

-- prim = @name call
pub keep_85 : (t0 : Placed) → class_of t0.kind ≡ 2 → (ts1 : List Placed) (v1 : Val sort.maybe_exprs) → says_of is_call ts1 v1 → says_of is_prim (t0 ∷ ts1) (act action.NameOrCall (t0, (v1, tt)))
keep_85 t0 e0 ts1 v1 d1 = d1 t0 (the_name t0 e0)

-- prim = other
pub keep_86 : (ts0 : List Placed) (v0 : Val sort.an_expr) → says_of is_other ts0 v0 → says_of is_prim ts0 (act action.SameExpr (v0, tt))
keep_86 ts0 v0 d0 = d0

-- call =
pub keep_87 : says_of is_call [] (act action.NoCall tt)
keep_87 = λ t i. spells.a_name i

-- call = "(" args ")"
pub keep_88 : (t0 : Placed) → class_of t0.kind ≡ 24 → (ts1 : List Placed) (v1 : Val sort.exprs) → says_of is_args ts1 v1 → (t2 : Placed) → class_of t2.kind ≡ 26 → says_of is_call (t0 ∷ (ts1 ++ (t2 ∷ []))) (act action.Call (t0, (v1, (t2, tt))))
keep_88 t0 e0 ts1 v1 d1 t2 e2 = λ t i. subst (λ z. Spells prim (t ∷ t0 ∷ (ts1 ++ (t2 ∷ []))) (called t (Some z))) (sym d1.same) (spells.call i (the_sign sign.SOpenParen t0 e0) d1.spelled (the_sign sign.SCloseParen t2 e2))

-- other = @number
pub keep_89 : (t0 : Placed) → class_of t0.kind ≡ 42 → says_of is_other (t0 ∷ []) (act action.Literal (t0, tt))
keep_89 t0 e0 = subst (λ z. Spells prim (t0 ∷ []) (at t0.line (tree.Constant z))) (sym (ap constant_of (number_at t0.kind e0).1)) (spells.number (number_at t0.kind e0).1)

-- other = @character
pub keep_90 : (t0 : Placed) → class_of t0.kind ≡ 43 → says_of is_other (t0 ∷ []) (act action.Literal (t0, tt))
keep_90 t0 e0 = subst (λ z. Spells prim (t0 ∷ []) (at t0.line (tree.Constant z))) (sym (ap constant_of (letter_at t0.kind e0).1)) (spells.character (letter_at t0.kind e0).1)

-- other = @text
pub keep_91 : (t0 : Placed) → class_of t0.kind ≡ 44 → says_of is_other (t0 ∷ []) (act action.Literal (t0, tt))
keep_91 t0 e0 = subst (λ z. Spells prim (t0 ∷ []) (at t0.line (tree.Constant z))) (sym (ap constant_of (quoted_at t0.kind e0).1)) (spells.text (quoted_at t0.kind e0).1)

-- other = "true"
pub keep_92 : (t0 : Placed) → class_of t0.kind ≡ 45 → says_of is_other (t0 ∷ []) (act action.Literal (t0, tt))
keep_92 t0 e0 = subst (λ z. Spells prim (t0 ∷ []) (at t0.line (tree.Constant z))) (sym (ap constant_of (the_word word.WTrue t0 e0).is)) (spells.true_is (the_word word.WTrue t0 e0))

-- other = "false"
pub keep_93 : (t0 : Placed) → class_of t0.kind ≡ 46 → says_of is_other (t0 ∷ []) (act action.Literal (t0, tt))
keep_93 t0 e0 = subst (λ z. Spells prim (t0 ∷ []) (at t0.line (tree.Constant z))) (sym (ap constant_of (the_word word.WFalse t0 e0).is)) (spells.false_is (the_word word.WFalse t0 e0))

-- other = "nil"
pub keep_94 : (t0 : Placed) → class_of t0.kind ≡ 47 → says_of is_other (t0 ∷ []) (act action.Literal (t0, tt))
keep_94 t0 e0 = subst (λ z. Spells prim (t0 ∷ []) (at t0.line (tree.Constant z))) (sym (ap constant_of (the_word word.WNil t0 e0).is)) (spells.nil_is (the_word word.WNil t0 e0))

-- other = "old" @name
pub keep_95 : (t0 : Placed) → class_of t0.kind ≡ 48 → (t1 : Placed) → class_of t1.kind ≡ 2 → says_of is_other (t0 ∷ t1 ∷ []) (act action.Old (t0, (t1, tt)))
keep_95 t0 e0 t1 e1 = spells.old (the_word word.WOld t0 e0) (the_name t1 e1)

-- other = "integer" "(" expr ")"
pub keep_96 : (t0 : Placed) → class_of t0.kind ≡ 11 → (t1 : Placed) → class_of t1.kind ≡ 24 → (ts2 : List Placed) (v2 : Val sort.an_expr) → says_of is_expr ts2 v2 → (t3 : Placed) → class_of t3.kind ≡ 26 → says_of is_other (t0 ∷ (t1 ∷ (ts2 ++ (t3 ∷ [])))) (act action.Convert (t0, (t1, (v2, (t3, tt)))))
keep_96 t0 e0 t1 e1 ts2 v2 d2 t3 e3 = subst (λ z. Spells prim (t0 ∷ (t1 ∷ (ts2 ++ (t3 ∷ [])))) (at t0.line (tree.Convert z v2))) (sym (ap scalar_of (the_word word.WInteger t0 e0).is)) (spells.to_integer (the_word word.WInteger t0 e0) (the_sign sign.SOpenParen t1 e1) d2 (the_sign sign.SCloseParen t3 e3))

-- other = "boolean" "(" expr ")"
pub keep_97 : (t0 : Placed) → class_of t0.kind ≡ 12 → (t1 : Placed) → class_of t1.kind ≡ 24 → (ts2 : List Placed) (v2 : Val sort.an_expr) → says_of is_expr ts2 v2 → (t3 : Placed) → class_of t3.kind ≡ 26 → says_of is_other (t0 ∷ (t1 ∷ (ts2 ++ (t3 ∷ [])))) (act action.Convert (t0, (t1, (v2, (t3, tt)))))
keep_97 t0 e0 t1 e1 ts2 v2 d2 t3 e3 = subst (λ z. Spells prim (t0 ∷ (t1 ∷ (ts2 ++ (t3 ∷ [])))) (at t0.line (tree.Convert z v2))) (sym (ap scalar_of (the_word word.WBoolean t0 e0).is)) (spells.to_boolean (the_word word.WBoolean t0 e0) (the_sign sign.SOpenParen t1 e1) d2 (the_sign sign.SCloseParen t3 e3))

-- other = "character" "(" expr ")"
pub keep_98 : (t0 : Placed) → class_of t0.kind ≡ 13 → (t1 : Placed) → class_of t1.kind ≡ 24 → (ts2 : List Placed) (v2 : Val sort.an_expr) → says_of is_expr ts2 v2 → (t3 : Placed) → class_of t3.kind ≡ 26 → says_of is_other (t0 ∷ (t1 ∷ (ts2 ++ (t3 ∷ [])))) (act action.Convert (t0, (t1, (v2, (t3, tt)))))
keep_98 t0 e0 t1 e1 ts2 v2 d2 t3 e3 = subst (λ z. Spells prim (t0 ∷ (t1 ∷ (ts2 ++ (t3 ∷ [])))) (at t0.line (tree.Convert z v2))) (sym (ap scalar_of (the_word word.WCharacter t0 e0).is)) (spells.to_character (the_word word.WCharacter t0 e0) (the_sign sign.SOpenParen t1 e1) d2 (the_sign sign.SCloseParen t3 e3))

-- other = "(" expr ")"
pub keep_99 : (t0 : Placed) → class_of t0.kind ≡ 24 → (ts1 : List Placed) (v1 : Val sort.an_expr) → says_of is_expr ts1 v1 → (t2 : Placed) → class_of t2.kind ≡ 26 → says_of is_other (t0 ∷ (ts1 ++ (t2 ∷ []))) (act action.Group (t0, (v1, (t2, tt))))
keep_99 t0 e0 ts1 v1 d1 t2 e2 = spells.parens (the_sign sign.SOpenParen t0 e0) d1 (the_sign sign.SCloseParen t2 e2)

-- other = "error" "[" type "]"
pub keep_100 : (t0 : Placed) → class_of t0.kind ≡ 49 → (t1 : Placed) → class_of t1.kind ≡ 18 → (ts2 : List Placed) (v2 : Val sort.a_type) → says_of is_type ts2 v2 → (t3 : Placed) → class_of t3.kind ≡ 19 → says_of is_other (t0 ∷ (t1 ∷ (ts2 ++ (t3 ∷ [])))) (act action.ErrorOf (t0, (t1, (v2, (t3, tt)))))
keep_100 t0 e0 t1 e1 ts2 v2 d2 t3 e3 = spells.error_of (the_word word.WError t0 e0) (the_sign sign.SOpenBracket t1 e1) d2 (the_sign sign.SCloseBracket t3 e3)

-- other = "is" is_what "(" expr ")"
pub keep_101 : (t0 : Placed) → class_of t0.kind ≡ 50 → (ts1 : List Placed) (v1 : Val sort.maybe_name) → says_of is_is_what ts1 v1 → (t2 : Placed) → class_of t2.kind ≡ 24 → (ts3 : List Placed) (v3 : Val sort.an_expr) → says_of is_expr ts3 v3 → (t4 : Placed) → class_of t4.kind ≡ 26 → says_of is_other (t0 ∷ (ts1 ++ (t2 ∷ (ts3 ++ (t4 ∷ []))))) (act action.Is (t0, (v1, (t2, (v3, (t4, tt))))))
keep_101 t0 e0 ts1 v1 d1 t2 e2 ts3 v3 d3 t4 e4 = d1 t0 t2 t4 ts3 v3 (the_word word.WIs t0 e0) (the_sign sign.SOpenParen t2 e2) d3 (the_sign sign.SCloseParen t4 e4)

-- other = "array" named "[" elements "]"
pub keep_102 : (t0 : Placed) → class_of t0.kind ≡ 17 → (ts1 : List Placed) (v1 : Val sort.maybe_name) → says_of is_named ts1 v1 → (t2 : Placed) → class_of t2.kind ≡ 18 → (ts3 : List Placed) (v3 : Val sort.maybe_elements) → says_of is_elements ts3 v3 → (t4 : Placed) → class_of t4.kind ≡ 19 → says_of is_other (t0 ∷ (ts1 ++ (t2 ∷ (ts3 ++ (t4 ∷ []))))) (act action.Array (t0, (v1, (t2, (v3, (t4, tt))))))
keep_102 t0 e0 ts1 v1 d1 t2 e2 ts3 v3 d3 t4 e4 = spells.array (the_word word.WArray t0 e0) d1 (the_sign sign.SOpenBracket t2 e2) d3 (the_sign sign.SCloseBracket t4 e4)

-- other = "stream" named "[" args "]"
pub keep_103 : (t0 : Placed) → class_of t0.kind ≡ 20 → (ts1 : List Placed) (v1 : Val sort.maybe_name) → says_of is_named ts1 v1 → (t2 : Placed) → class_of t2.kind ≡ 18 → (ts3 : List Placed) (v3 : Val sort.exprs) → says_of is_args ts3 v3 → (t4 : Placed) → class_of t4.kind ≡ 19 → says_of is_other (t0 ∷ (ts1 ++ (t2 ∷ (ts3 ++ (t4 ∷ []))))) (act action.Stream (t0, (v1, (t2, (v3, (t4, tt))))))
keep_103 t0 e0 ts1 v1 d1 t2 e2 ts3 v3 d3 t4 e4 = subst (λ z. Spells prim (t0 ∷ (ts1 ++ (t2 ∷ (ts3 ++ (t4 ∷ []))))) (at t0.line (tree.Stream v1 z))) (sym d3.same) (spells.stream (the_word word.WStream t0 e0) d1 (the_sign sign.SOpenBracket t2 e2) d3.spelled (the_sign sign.SCloseBracket t4 e4))

-- other = "record" named "[" fv fvs "]"
pub keep_104 : (t0 : Placed) → class_of t0.kind ≡ 21 → (ts1 : List Placed) (v1 : Val sort.maybe_name) → says_of is_named ts1 v1 → (t2 : Placed) → class_of t2.kind ≡ 18 → (ts3 : List Placed) (v3 : Val sort.a_value) → says_of is_fv ts3 v3 → (ts4 : List Placed) (v4 : Val sort.values) → says_of is_fvs ts4 v4 → (t5 : Placed) → class_of t5.kind ≡ 19 → says_of is_other (t0 ∷ (ts1 ++ (t2 ∷ (ts3 ++ (ts4 ++ (t5 ∷ [])))))) (act action.Record (t0, (v1, (t2, (v3, (v4, (t5, tt)))))))
keep_104 t0 e0 ts1 v1 d1 t2 e2 ts3 v3 d3 ts4 v4 d4 t5 e5 = made_record t0 t2 t5 ts1 ts3 ts4 v1 v3 v4 (the_word word.WRecord t0 e0) d1 (the_sign sign.SOpenBracket t2 e2) d3 d4 (the_sign sign.SCloseBracket t5 e5)

-- other = "union" @name "[" @name content "]"
pub keep_105 : (t0 : Placed) → class_of t0.kind ≡ 22 → (t1 : Placed) → class_of t1.kind ≡ 2 → (t2 : Placed) → class_of t2.kind ≡ 18 → (t3 : Placed) → class_of t3.kind ≡ 2 → (ts4 : List Placed) (v4 : Val sort.maybe_expr) → says_of is_content ts4 v4 → (t5 : Placed) → class_of t5.kind ≡ 19 → says_of is_other (t0 ∷ (t1 ∷ (t2 ∷ (t3 ∷ (ts4 ++ (t5 ∷ [])))))) (act action.Union (t0, (t1, (t2, (t3, (v4, (t5, tt)))))))
keep_105 t0 e0 t1 e1 t2 e2 t3 e3 ts4 v4 d4 t5 e5 = spells.union (the_word word.WUnion t0 e0) (the_name t1 e1) (the_sign sign.SOpenBracket t2 e2) (the_name t3 e3) d4 (the_sign sign.SCloseBracket t5 e5)

-- other = "let" defs "in" exprs "end" "let"
pub keep_106 : (t0 : Placed) → class_of t0.kind ≡ 51 → (ts1 : List Placed) (v1 : Val sort.defs) → says_of is_defs ts1 v1 → (t2 : Placed) → class_of t2.kind ≡ 52 → (ts3 : List Placed) (v3 : Val sort.exprs) → says_of is_exprs ts3 v3 → (t4 : Placed) → class_of t4.kind ≡ 10 → (t5 : Placed) → class_of t5.kind ≡ 51 → says_of is_other (t0 ∷ (ts1 ++ (t2 ∷ (ts3 ++ (t4 ∷ t5 ∷ []))))) (act action.Let (t0, (v1, (t2, (v3, (t4, (t5, tt)))))))
keep_106 t0 e0 ts1 v1 d1 t2 e2 ts3 v3 d3 t4 e4 t5 e5 = spells.let_in (the_word word.WLet t0 e0) d1 (the_word word.WIn t2 e2) d3 (the_word word.WEnd t4 e4) (the_word word.WLet t5 e5)

-- other = "if" expr "then" exprs elses "end" "if"
pub keep_107 : (t0 : Placed) → class_of t0.kind ≡ 53 → (ts1 : List Placed) (v1 : Val sort.an_expr) → says_of is_expr ts1 v1 → (t2 : Placed) → class_of t2.kind ≡ 54 → (ts3 : List Placed) (v3 : Val sort.exprs) → says_of is_exprs ts3 v3 → (ts4 : List Placed) (v4 : Val sort.exprs) → says_of is_elses ts4 v4 → (t5 : Placed) → class_of t5.kind ≡ 10 → (t6 : Placed) → class_of t6.kind ≡ 53 → says_of is_other (t0 ∷ (ts1 ++ (t2 ∷ (ts3 ++ (ts4 ++ (t5 ∷ t6 ∷ [])))))) (act action.If (t0, (v1, (t2, (v3, (v4, (t5, (t6, tt))))))))
keep_107 t0 e0 ts1 v1 d1 t2 e2 ts3 v3 d3 ts4 v4 d4 t5 e5 t6 e6 = if_said t0 t2 t5 t6 ts1 ts3 ts4 v1 v3 v4 (the_word word.WIf t0 e0) d1 (the_word word.WThen t2 e2) d3 d4 (the_word word.WEnd t5 e5) (the_word word.WIf t6 e6)

-- other = "tagcase" subject arm arms otherwise "end" "tagcase"
pub keep_108 : (t0 : Placed) → class_of t0.kind ≡ 55 → (ts1 : List Placed) (v1 : Val sort.a_subject) → says_of is_subject ts1 v1 → (ts2 : List Placed) (v2 : Val sort.an_arm) → says_of is_arm ts2 v2 → (ts3 : List Placed) (v3 : Val sort.arms) → says_of is_arms ts3 v3 → (ts4 : List Placed) (v4 : Val sort.maybe_exprs) → says_of is_otherwise ts4 v4 → (t5 : Placed) → class_of t5.kind ≡ 10 → (t6 : Placed) → class_of t6.kind ≡ 55 → says_of is_other (t0 ∷ (ts1 ++ (ts2 ++ (ts3 ++ (ts4 ++ (t5 ∷ t6 ∷ [])))))) (act action.Case (t0, (v1, (v2, (v3, (v4, (t5, (t6, tt))))))))
keep_108 t0 e0 ts1 v1 d1 ts2 v2 d2 ts3 v3 d3 ts4 v4 d4 t5 e5 t6 e6 = case_said t0 t5 t6 ts1 ts2 ts3 ts4 v1 v2 v3 v4 (the_word word.WTagcase t0 e0) d1 d2 d3 d4 (the_word word.WEnd t5 e5) (the_word word.WTagcase t6 e6)

-- other = "for" loop "end" "for"
pub keep_109 : (t0 : Placed) → class_of t0.kind ≡ 56 → (ts1 : List Placed) (v1 : Val sort.a_loop) → says_of is_loop ts1 v1 → (t2 : Placed) → class_of t2.kind ≡ 10 → (t3 : Placed) → class_of t3.kind ≡ 56 → says_of is_other (t0 ∷ (ts1 ++ (t2 ∷ t3 ∷ []))) (act action.For (t0, (v1, (t2, (t3, tt)))))
keep_109 t0 e0 ts1 v1 d1 t2 e2 t3 e3 = d1 t0 t2 t3 (the_word word.WFor t0 e0) (the_word word.WEnd t2 e2) (the_word word.WFor t3 e3)

-- is_what = "error"
pub keep_110 : (t0 : Placed) → class_of t0.kind ≡ 49 → says_of is_is_what (t0 ∷ []) (act action.WordName (t0, tt))
keep_110 t0 e0 = λ t v w us e a b d k. spells.is_error a (the_word word.WError t0 e0) b d k

-- is_what = @name
pub keep_111 : (t0 : Placed) → class_of t0.kind ≡ 2 → says_of is_is_what (t0 ∷ []) (act action.AName (t0, tt))
keep_111 t0 e0 = λ t v w us e a b d k. spells.is_tag a (the_name t0 e0) b d k

-- named =
pub keep_112 : says_of is_named [] (act action.NoName tt)
keep_112 = spells.absent

-- named = @name
pub keep_113 : (t0 : Placed) → class_of t0.kind ≡ 2 → says_of is_named (t0 ∷ []) (act action.AName (t0, tt))
keep_113 t0 e0 = spells.present (spells.name_is (the_name t0 e0))

-- elements =
pub keep_114 : says_of is_elements [] (act action.NoElements tt)
keep_114 = spells.absent

-- elements = expr ":" exprs
pub keep_115 : (ts0 : List Placed) (v0 : Val sort.an_expr) → says_of is_expr ts0 v0 → (t1 : Placed) → class_of t1.kind ≡ 23 → (ts2 : List Placed) (v2 : Val sort.exprs) → says_of is_exprs ts2 v2 → says_of is_elements (ts0 ++ (t1 ∷ ts2)) (act action.SomeElements (v0, (t1, (v2, tt))))
keep_115 ts0 v0 d0 t1 e1 ts2 v2 d2 = spells.present (spells.elements_are d0 (the_sign sign.SColon t1 e1) d2)

-- content =
pub keep_116 : says_of is_content [] (act action.NoExpr tt)
keep_116 = spells.absent

-- content = ":" expr
pub keep_117 : (t0 : Placed) → class_of t0.kind ≡ 23 → (ts1 : List Placed) (v1 : Val sort.an_expr) → says_of is_expr ts1 v1 → says_of is_content (t0 ∷ ts1) (act action.SomeExpr (t0, (v1, tt)))
keep_117 t0 e0 ts1 v1 d1 = spells.present (spells.colon_expr_is (the_sign sign.SColon t0 e0) d1)

-- elses = "elseif" expr "then" exprs elses
pub keep_118 : (t0 : Placed) → class_of t0.kind ≡ 57 → (ts1 : List Placed) (v1 : Val sort.an_expr) → says_of is_expr ts1 v1 → (t2 : Placed) → class_of t2.kind ≡ 54 → (ts3 : List Placed) (v3 : Val sort.exprs) → says_of is_exprs ts3 v3 → (ts4 : List Placed) (v4 : Val sort.exprs) → says_of is_elses ts4 v4 → says_of is_elses (t0 ∷ (ts1 ++ (t2 ∷ (ts3 ++ (ts4))))) (act action.ElseIf (t0, (v1, (t2, (v3, (v4, tt))))))
keep_118 t0 e0 ts1 v1 d1 t2 e2 ts3 v3 d3 ts4 v4 d4 = else_if_said t0 t2 ts1 ts3 ts4 v1 v3 v4 (the_word word.WElseif t0 e0) d1 (the_word word.WThen t2 e2) d3 d4

-- elses = "else" exprs
pub keep_119 : (t0 : Placed) → class_of t0.kind ≡ 58 → (ts1 : List Placed) (v1 : Val sort.exprs) → says_of is_exprs ts1 v1 → says_of is_elses (t0 ∷ ts1) (act action.Else (t0, (v1, tt)))
keep_119 t0 e0 ts1 v1 d1 = else_said t0 ts1 v1 (the_word word.WElse t0 e0) d1

-- subject = @name subject_more
pub keep_120 : (t0 : Placed) → class_of t0.kind ≡ 2 → (ts1 : List Placed) (v1 : Val sort.a_rest) → says_of is_subject_more ts1 v1 → says_of is_subject (t0 ∷ ts1) (act action.NameSubject (t0, (v1, tt)))
keep_120 t0 e0 ts1 v1 d1 = d1 t0 (the_name t0 e0)

-- subject = o_expr
pub keep_121 : (ts0 : List Placed) (v0 : Val sort.an_expr) → says_of is_o_expr ts0 v0 → says_of is_subject ts0 (act action.OtherSubject (v0, tt))
keep_121 ts0 v0 d0 = record { front = []; back = ts0; tokens = refl; bound = spells.absent; union = d0 }

-- subject_more = ":=" expr
pub keep_122 : (t0 : Placed) → class_of t0.kind ≡ 59 → (ts1 : List Placed) (v1 : Val sort.an_expr) → says_of is_expr ts1 v1 → says_of is_subject_more (t0 ∷ ts1) (act action.Bound (t0, (v1, tt)))
keep_122 t0 e0 ts1 v1 d1 = λ t i. record { front = t ∷ t0 ∷ []; back = ts1; tokens = refl; bound = spells.present (spells.binding_is i (the_sign sign.SAssign t0 e0)); union = d1 }

-- subject_more = call posts term_more sum_more cat_more rel_more conj_more expr_more
pub keep_123 : (ts0 : List Placed) (v0 : Val sort.maybe_exprs) → says_of is_call ts0 v0 → (ts1 : List Placed) (v1 : Val sort.posts) → says_of is_posts ts1 v1 → (ts2 : List Placed) (v2 : Val sort.tail) → says_of is_term_more ts2 v2 → (ts3 : List Placed) (v3 : Val sort.tail) → says_of is_sum_more ts3 v3 → (ts4 : List Placed) (v4 : Val sort.tail) → says_of is_cat_more ts4 v4 → (ts5 : List Placed) (v5 : Val sort.tail) → says_of is_rel_more ts5 v5 → (ts6 : List Placed) (v6 : Val sort.tail) → says_of is_conj_more ts6 v6 → (ts7 : List Placed) (v7 : Val sort.tail) → says_of is_expr_more ts7 v7 → says_of is_subject_more (ts0 ++ (ts1 ++ (ts2 ++ (ts3 ++ (ts4 ++ (ts5 ++ (ts6 ++ (ts7)))))))) (act action.Rest (v0, (v1, (v2, (v3, (v4, (v5, (v6, (v7, tt)))))))))
keep_123 ts0 v0 d0 ts1 v1 d1 ts2 v2 d2 ts3 v3 d3 ts4 v4 d4 ts5 v5 d5 ts6 v6 d6 ts7 v7 d7 = λ t i. record { front = []; back = t ∷ (ts0 ++ (ts1 ++ (ts2 ++ (ts3 ++ (ts4 ++ (ts5 ++ (ts6 ++ (ts7)))))))); tokens = refl; bound = spells.absent; union = named_said t ts0 ts1 ts2 ts3 ts4 ts5 ts6 ts7 v0 v1 v2 v3 v4 v5 v6 v7 (d0 t i) d1 d2 d3 d4 d5 d6 d7 }

-- o_expr = o_conj expr_more
pub keep_124 : (ts0 : List Placed) (v0 : Val sort.an_expr) → says_of is_o_conj ts0 v0 → (ts1 : List Placed) (v1 : Val sort.tail) → says_of is_expr_more ts1 v1 → says_of is_o_expr (ts0 ++ (ts1)) (act action.Chain (v0, (v1, tt)))
keep_124 ts0 v0 d0 ts1 v1 d1 = spells.expr_is d0 d1

-- o_conj = o_inv conj_more
pub keep_125 : (ts0 : List Placed) (v0 : Val sort.an_expr) → says_of is_o_inv ts0 v0 → (ts1 : List Placed) (v1 : Val sort.tail) → says_of is_conj_more ts1 v1 → says_of is_o_conj (ts0 ++ (ts1)) (act action.Chain (v0, (v1, tt)))
keep_125 ts0 v0 d0 ts1 v1 d1 = spells.conj_is d0 d1

-- o_inv = "~" inv
pub keep_126 : (t0 : Placed) → class_of t0.kind ≡ 29 → (ts1 : List Placed) (v1 : Val sort.an_expr) → says_of is_inv ts1 v1 → says_of is_o_inv (t0 ∷ ts1) (act action.Prefix (t0, (v1, tt)))
keep_126 t0 e0 ts1 v1 d1 = subst (λ z. Spells inv (t0 ∷ ts1) (at t0.line (tree.Prefix z v1))) (sym (ap prefix_of (the_sign sign.SNot t0 e0).is)) (spells.not (the_sign sign.SNot t0 e0) d1)

-- o_inv = o_rel
pub keep_127 : (ts0 : List Placed) (v0 : Val sort.an_expr) → says_of is_o_rel ts0 v0 → says_of is_o_inv ts0 (act action.SameExpr (v0, tt))
keep_127 ts0 v0 d0 = spells.inv_rel d0

-- o_rel = o_cat rel_more
pub keep_128 : (ts0 : List Placed) (v0 : Val sort.an_expr) → says_of is_o_cat ts0 v0 → (ts1 : List Placed) (v1 : Val sort.tail) → says_of is_rel_more ts1 v1 → says_of is_o_rel (ts0 ++ (ts1)) (act action.Chain (v0, (v1, tt)))
keep_128 ts0 v0 d0 ts1 v1 d1 = rel_said ts0 ts1 v0 v1 d0 d1

-- o_cat = o_sum cat_more
pub keep_129 : (ts0 : List Placed) (v0 : Val sort.an_expr) → says_of is_o_sum ts0 v0 → (ts1 : List Placed) (v1 : Val sort.tail) → says_of is_cat_more ts1 v1 → says_of is_o_cat (ts0 ++ (ts1)) (act action.Chain (v0, (v1, tt)))
keep_129 ts0 v0 d0 ts1 v1 d1 = spells.cat_is d0 d1

-- o_sum = o_term sum_more
pub keep_130 : (ts0 : List Placed) (v0 : Val sort.an_expr) → says_of is_o_term ts0 v0 → (ts1 : List Placed) (v1 : Val sort.tail) → says_of is_sum_more ts1 v1 → says_of is_o_sum (ts0 ++ (ts1)) (act action.Chain (v0, (v1, tt)))
keep_130 ts0 v0 d0 ts1 v1 d1 = spells.sum_is d0 d1

-- o_term = o_neg term_more
pub keep_131 : (ts0 : List Placed) (v0 : Val sort.an_expr) → says_of is_o_neg ts0 v0 → (ts1 : List Placed) (v1 : Val sort.tail) → says_of is_term_more ts1 v1 → says_of is_o_term (ts0 ++ (ts1)) (act action.Chain (v0, (v1, tt)))
keep_131 ts0 v0 d0 ts1 v1 d1 = spells.term_is d0 d1

-- o_neg = "-" neg
pub keep_132 : (t0 : Placed) → class_of t0.kind ≡ 37 → (ts1 : List Placed) (v1 : Val sort.an_expr) → says_of is_neg ts1 v1 → says_of is_o_neg (t0 ∷ ts1) (act action.Prefix (t0, (v1, tt)))
keep_132 t0 e0 ts1 v1 d1 = subst (λ z. Spells neg (t0 ∷ ts1) (at t0.line (tree.Prefix z v1))) (sym (ap prefix_of (the_sign sign.SMinus t0 e0).is)) (spells.negate (the_sign sign.SMinus t0 e0) d1)

-- o_neg = o_post
pub keep_133 : (ts0 : List Placed) (v0 : Val sort.an_expr) → says_of is_o_post ts0 v0 → says_of is_o_neg ts0 (act action.SameExpr (v0, tt))
keep_133 ts0 v0 d0 = spells.neg_post d0

-- o_post = other posts
pub keep_134 : (ts0 : List Placed) (v0 : Val sort.an_expr) → says_of is_other ts0 v0 → (ts1 : List Placed) (v1 : Val sort.posts) → says_of is_posts ts1 v1 → says_of is_o_post (ts0 ++ (ts1)) (act action.Posted (v0, (v1, tt)))
keep_134 ts0 v0 d0 ts1 v1 d1 = spells.post_is d0 d1

-- arms =
pub keep_135 : says_of is_arms [] (act action.NoArms tt)
keep_135 = spells.nothing

-- arms = arm arms
pub keep_136 : (ts0 : List Placed) (v0 : Val sort.an_arm) → says_of is_arm ts0 v0 → (ts1 : List Placed) (v1 : Val sort.arms) → says_of is_arms ts1 v1 → says_of is_arms (ts0 ++ (ts1)) (act action.MoreArms (v0, (v1, tt)))
keep_136 ts0 v0 d0 ts1 v1 d1 = spells.more d0 d1

-- arm = "tag" @name names ":" exprs
pub keep_137 : (t0 : Placed) → class_of t0.kind ≡ 60 → (t1 : Placed) → class_of t1.kind ≡ 2 → (ts2 : List Placed) (v2 : Val sort.names) → says_of is_names ts2 v2 → (t3 : Placed) → class_of t3.kind ≡ 23 → (ts4 : List Placed) (v4 : Val sort.exprs) → says_of is_exprs ts4 v4 → says_of is_arm (t0 ∷ (t1 ∷ (ts2 ++ (t3 ∷ ts4)))) (act action.OneArm (t0, (t1, (v2, (t3, (v4, tt))))))
keep_137 t0 e0 t1 e1 ts2 v2 d2 t3 e3 ts4 v4 d4 = spells.arm_is (the_word word.WTag t0 e0) (the_name t1 e1) d2 (the_sign sign.SColon t3 e3) d4

-- otherwise =
pub keep_138 : says_of is_otherwise [] (act action.NoCall tt)
keep_138 = spells.absent

-- otherwise = "otherwise" ":" exprs
pub keep_139 : (t0 : Placed) → class_of t0.kind ≡ 61 → (t1 : Placed) → class_of t1.kind ≡ 23 → (ts2 : List Placed) (v2 : Val sort.exprs) → says_of is_exprs ts2 v2 → says_of is_otherwise (t0 ∷ t1 ∷ ts2) (act action.Otherwise (t0, (t1, (v2, tt))))
keep_139 t0 e0 t1 e1 ts2 v2 d2 = spells.present (spells.otherwise_is (the_word word.WOtherwise t0 e0) (the_sign sign.SColon t1 e1) d2)

-- loop = group groups body "returns" clause clauses
pub keep_140 : (ts0 : List Placed) (v0 : Val sort.gens) → says_of is_group ts0 v0 → (ts1 : List Placed) (v1 : Val sort.groups) → says_of is_groups ts1 v1 → (ts2 : List Placed) (v2 : Val sort.defs) → says_of is_body ts2 v2 → (t3 : Placed) → class_of t3.kind ≡ 25 → (ts4 : List Placed) (v4 : Val sort.a_clause) → says_of is_clause ts4 v4 → (ts5 : List Placed) (v5 : Val sort.clauses) → says_of is_clauses ts5 v5 → says_of is_loop (ts0 ++ (ts1 ++ (ts2 ++ (t3 ∷ (ts4 ++ (ts5)))))) (act action.Product (v0, (v1, (v2, (t3, (v4, (v5, tt)))))))
keep_140 ts0 v0 d0 ts1 v1 d1 ts2 v2 d2 t3 e3 ts4 v4 d4 ts5 v5 d5 = λ t u w i j k. subst (λ y. Spells prim (t ∷ y) (at t.line (tree.For (loop.Product (v0 ∷ v1) v2 (v4 ∷ v5))))) (product_tokens ts0 ts1 ts2 t3 ts4 ts5 (u ∷ w ∷ [])) (subst (λ z. Spells prim (t ∷ (ts0 ++ (ts1 ++ (ts2 ++ (t3 ∷ (ts4 ++ (ts5 ++ (u ∷ w ∷ [])))))))) (at t.line (tree.For (loop.Product (v0 ∷ v1) z (v4 ∷ v5))))) (sym d2.same) (spells.for_product i d0 d1 d2.spelled (the_word word.WReturns t3 e3) d4 d5 j k))

-- loop = "initial" defs turn "returns" clause clauses
pub keep_141 : (t0 : Placed) → class_of t0.kind ≡ 62 → (ts1 : List Placed) (v1 : Val sort.defs) → says_of is_defs ts1 v1 → (ts2 : List Placed) (v2 : Val sort.a_turn) → says_of is_turn ts2 v2 → (t3 : Placed) → class_of t3.kind ≡ 25 → (ts4 : List Placed) (v4 : Val sort.a_clause) → says_of is_clause ts4 v4 → (ts5 : List Placed) (v5 : Val sort.clauses) → says_of is_clauses ts5 v5 → says_of is_loop (t0 ∷ (ts1 ++ (ts2 ++ (t3 ∷ (ts4 ++ (ts5)))))) (act action.Initial (t0, (v1, (v2, (t3, (v4, (v5, tt)))))))
keep_141 t0 e0 ts1 v1 d1 ts2 v2 d2 t3 e3 ts4 v4 d4 ts5 v5 d5 = λ t u w i j k. subst (λ y. Spells prim (t ∷ t0 ∷ y) (at t.line (tree.For (loop.Initial v1 v2 (v4 ∷ v5))))) (loop_tokens ts1 ts2 t3 ts4 ts5 (u ∷ w ∷ [])) (spells.for_initial i (the_word word.WInitial t0 e0) d1 d2 (the_word word.WReturns t3 e3) d4 d5 j k)

-- groups =
pub keep_142 : says_of is_groups [] (act action.NoGroups tt)
keep_142 = spells.nothing

-- groups = "cross" group groups
pub keep_143 : (t0 : Placed) → class_of t0.kind ≡ 63 → (ts1 : List Placed) (v1 : Val sort.gens) → says_of is_group ts1 v1 → (ts2 : List Placed) (v2 : Val sort.groups) → says_of is_groups ts2 v2 → says_of is_groups (t0 ∷ (ts1 ++ (ts2))) (act action.MoreGroups (t0, (v1, (v2, tt))))
keep_143 t0 e0 ts1 v1 d1 ts2 v2 d2 = spells.more (spells.cross_group_is (the_word word.WCross t0 e0) d1) d2

-- group = gen gens
pub keep_144 : (ts0 : List Placed) (v0 : Val sort.a_gen) → says_of is_gen ts0 v0 → (ts1 : List Placed) (v1 : Val sort.gens) → says_of is_gens ts1 v1 → says_of is_group (ts0 ++ (ts1)) (act action.Gens (v0, (v1, tt)))
keep_144 ts0 v0 d0 ts1 v1 d1 = spells.group_is d0 d1

-- gens =
pub keep_145 : says_of is_gens [] (act action.NoGens tt)
keep_145 = spells.nothing

-- gens = "dot" gen gens
pub keep_146 : (t0 : Placed) → class_of t0.kind ≡ 64 → (ts1 : List Placed) (v1 : Val sort.a_gen) → says_of is_gen ts1 v1 → (ts2 : List Placed) (v2 : Val sort.gens) → says_of is_gens ts2 v2 → says_of is_gens (t0 ∷ (ts1 ++ (ts2))) (act action.MoreGens (t0, (v1, (v2, tt))))
keep_146 t0 e0 ts1 v1 d1 ts2 v2 d2 = spells.more (spells.dot_gen_is (the_word word.WDot t0 e0) d1) d2

-- gen = @name "in" expr to at
pub keep_147 : (t0 : Placed) → class_of t0.kind ≡ 2 → (t1 : Placed) → class_of t1.kind ≡ 52 → (ts2 : List Placed) (v2 : Val sort.an_expr) → says_of is_expr ts2 v2 → (ts3 : List Placed) (v3 : Val sort.maybe_expr) → says_of is_to ts3 v3 → (ts4 : List Placed) (v4 : Val sort.maybe_name) → says_of is_at ts4 v4 → says_of is_gen (t0 ∷ (t1 ∷ (ts2 ++ (ts3 ++ (ts4))))) (act action.OneGen (t0, (t1, (v2, (v3, (v4, tt))))))
keep_147 t0 e0 t1 e1 ts2 v2 d2 ts3 v3 d3 ts4 v4 d4 = spells.gen_is (the_name t0 e0) (the_word word.WIn t1 e1) d2 d3 d4

-- to =
pub keep_148 : says_of is_to [] (act action.NoExpr tt)
keep_148 = spells.absent

-- to = "," expr
pub keep_149 : (t0 : Placed) → class_of t0.kind ≡ 3 → (ts1 : List Placed) (v1 : Val sort.an_expr) → says_of is_expr ts1 v1 → says_of is_to (t0 ∷ ts1) (act action.SomeExpr (t0, (v1, tt)))
keep_149 t0 e0 ts1 v1 d1 = spells.present (spells.comma_expr_is (the_sign sign.SComma t0 e0) d1)

-- at =
pub keep_150 : says_of is_at [] (act action.NoName tt)
keep_150 = spells.absent

-- at = "at" @name
pub keep_151 : (t0 : Placed) → class_of t0.kind ≡ 65 → (t1 : Placed) → class_of t1.kind ≡ 2 → says_of is_at (t0 ∷ t1 ∷ []) (act action.AtName (t0, (t1, tt)))
keep_151 t0 e0 t1 e1 = spells.present (spells.at_name_is (the_word word.WAt t0 e0) (the_name t1 e1))

-- body =
pub keep_152 : says_of is_body [] (act action.NoDefs tt)
keep_152 = record { found = None; same = refl; spelled = spells.absent }

-- body = defs
pub keep_153 : (ts0 : List Placed) (v0 : Val sort.defs) → says_of is_defs ts0 v0 → says_of is_body ts0 (act action.SameDefs (v0, tt))
keep_153 ts0 v0 d0 = record { found = Some v0; same = refl; spelled = spells.present d0 }

-- defs = def defs_more
pub keep_154 : (ts0 : List Placed) (v0 : Val sort.a_def) → says_of is_def ts0 v0 → (ts1 : List Placed) (v1 : Val sort.defs) → says_of is_defs_more ts1 v1 → says_of is_defs (ts0 ++ (ts1)) (act action.Defs (v0, (v1, tt)))
keep_154 ts0 v0 d0 ts1 v1 d1 = defs_said ts0 ts1 v0 v1 d0 d1

-- defs_more =
pub keep_155 : says_of is_defs_more [] (act action.NoDefs tt)
keep_155 = ended_none semi_def

-- defs_more = ";" defs_rest
pub keep_156 : (t0 : Placed) → class_of t0.kind ≡ 4 → (ts1 : List Placed) (v1 : Val sort.defs) → says_of is_defs_rest ts1 v1 → says_of is_defs_more (t0 ∷ ts1) (act action.SemiDefs (t0, (v1, tt)))
keep_156 t0 e0 ts1 v1 d1 = d1 t0 (the_sign sign.SSemicolon t0 e0)

-- defs_rest =
pub keep_157 : says_of is_defs_rest [] (act action.NoDefs tt)
keep_157 = λ t i. ended_last semi_def t i

-- defs_rest = def defs_more
pub keep_158 : (ts0 : List Placed) (v0 : Val sort.a_def) → says_of is_def ts0 v0 → (ts1 : List Placed) (v1 : Val sort.defs) → says_of is_defs_more ts1 v1 → says_of is_defs_rest (ts0 ++ (ts1)) (act action.Defs (v0, (v1, tt)))
keep_158 ts0 v0 d0 ts1 v1 d1 = λ t i. ended_more semi_def (t ∷ ts0) ts1 v0 v1 (spells.semi_def_is i d0) d1

-- def = target targets ":=" exprs
pub keep_159 : (ts0 : List Placed) (v0 : Val sort.a_target) → says_of is_target ts0 v0 → (ts1 : List Placed) (v1 : Val sort.targets) → says_of is_targets ts1 v1 → (t2 : Placed) → class_of t2.kind ≡ 59 → (ts3 : List Placed) (v3 : Val sort.exprs) → says_of is_exprs ts3 v3 → says_of is_def (ts0 ++ (ts1 ++ (t2 ∷ ts3))) (act action.OneDef (v0, (v1, (t2, (v3, tt)))))
keep_159 ts0 v0 d0 ts1 v1 d1 t2 e2 ts3 v3 d3 = spells.def_is d0 d1 (the_sign sign.SAssign t2 e2) d3

-- targets =
pub keep_160 : says_of is_targets [] (act action.NoTargets tt)
keep_160 = spells.nothing

-- targets = "," target targets
pub keep_161 : (t0 : Placed) → class_of t0.kind ≡ 3 → (ts1 : List Placed) (v1 : Val sort.a_target) → says_of is_target ts1 v1 → (ts2 : List Placed) (v2 : Val sort.targets) → says_of is_targets ts2 v2 → says_of is_targets (t0 ∷ (ts1 ++ (ts2))) (act action.MoreTargets (t0, (v1, (v2, tt))))
keep_161 t0 e0 ts1 v1 d1 ts2 v2 d2 = spells.more (spells.comma_target_is (the_sign sign.SComma t0 e0) d1) d2

-- target = @name of_type
pub keep_162 : (t0 : Placed) → class_of t0.kind ≡ 2 → (ts1 : List Placed) (v1 : Val sort.maybe_type) → says_of is_of_type ts1 v1 → says_of is_target (t0 ∷ ts1) (act action.OneTarget (t0, (v1, tt)))
keep_162 t0 e0 ts1 v1 d1 = spells.target_is (the_name t0 e0) d1

-- of_type =
pub keep_163 : says_of is_of_type [] (act action.NoType tt)
keep_163 = spells.absent

-- of_type = ":" type
pub keep_164 : (t0 : Placed) → class_of t0.kind ≡ 23 → (ts1 : List Placed) (v1 : Val sort.a_type) → says_of is_type ts1 v1 → says_of is_of_type (t0 ∷ ts1) (act action.SomeType (t0, (v1, tt)))
keep_164 t0 e0 ts1 v1 d1 = spells.present (spells.colon_type_is (the_sign sign.SColon t0 e0) d1)

-- turn = test "repeat" defs
pub keep_165 : (ts0 : List Placed) (v0 : Val sort.a_test) → says_of is_test ts0 v0 → (t1 : Placed) → class_of t1.kind ≡ 66 → (ts2 : List Placed) (v2 : Val sort.defs) → says_of is_defs ts2 v2 → says_of is_turn (ts0 ++ (t1 ∷ ts2)) (act action.TestFirst (v0, (t1, (v2, tt))))
keep_165 ts0 v0 d0 t1 e1 ts2 v2 d2 = spells.test_first d0 (the_word word.WRepeat t1 e1) d2

-- turn = "repeat" defs test
pub keep_166 : (t0 : Placed) → class_of t0.kind ≡ 66 → (ts1 : List Placed) (v1 : Val sort.defs) → says_of is_defs ts1 v1 → (ts2 : List Placed) (v2 : Val sort.a_test) → says_of is_test ts2 v2 → says_of is_turn (t0 ∷ (ts1 ++ (ts2))) (act action.TestLast (t0, (v1, (v2, tt))))
keep_166 t0 e0 ts1 v1 d1 ts2 v2 d2 = spells.test_last (the_word word.WRepeat t0 e0) d1 d2

-- test = "while" expr
pub keep_167 : (t0 : Placed) → class_of t0.kind ≡ 67 → (ts1 : List Placed) (v1 : Val sort.an_expr) → says_of is_expr ts1 v1 → says_of is_test (t0 ∷ ts1) (act action.OneTest (t0, (v1, tt)))
keep_167 t0 e0 ts1 v1 d1 = subst (λ z. Spells test (t0 ∷ ts1) (record { is_until = z; test = v1 })) (sym (ap is_until (the_word word.WWhile t0 e0).is)) (spells.while (the_word word.WWhile t0 e0) d1)

-- test = "until" expr
pub keep_168 : (t0 : Placed) → class_of t0.kind ≡ 68 → (ts1 : List Placed) (v1 : Val sort.an_expr) → says_of is_expr ts1 v1 → says_of is_test (t0 ∷ ts1) (act action.OneTest (t0, (v1, tt)))
keep_168 t0 e0 ts1 v1 d1 = subst (λ z. Spells test (t0 ∷ ts1) (record { is_until = z; test = v1 })) (sym (ap is_until (the_word word.WUntil t0 e0).is)) (spells.until (the_word word.WUntil t0 e0) d1)

-- clauses =
pub keep_169 : says_of is_clauses [] (act action.NoClauses tt)
keep_169 = spells.nothing

-- clauses = clause clauses
pub keep_170 : (ts0 : List Placed) (v0 : Val sort.a_clause) → says_of is_clause ts0 v0 → (ts1 : List Placed) (v1 : Val sort.clauses) → says_of is_clauses ts1 v1 → says_of is_clauses (ts0 ++ (ts1)) (act action.MoreClauses (v0, (v1, tt)))
keep_170 ts0 v0 d0 ts1 v1 d1 = spells.more d0 d1

-- clause = "array" "of" expr mask
pub keep_171 : (t0 : Placed) → class_of t0.kind ≡ 17 → (t1 : Placed) → class_of t1.kind ≡ 69 → (ts2 : List Placed) (v2 : Val sort.an_expr) → says_of is_expr ts2 v2 → (ts3 : List Placed) (v3 : Val sort.maybe_mask) → says_of is_mask ts3 v3 → says_of is_clause (t0 ∷ (t1 ∷ (ts2 ++ (ts3)))) (act action.Gathered (t0, (t1, (v2, (v3, tt)))))
keep_171 t0 e0 t1 e1 ts2 v2 d2 ts3 v3 d3 = subst (λ z. Spells clause (t0 ∷ (t1 ∷ (ts2 ++ (ts3)))) (roll-Clause (record { line = t0.line; kind = z; value = v2; mask = v3 }))) (sym (ap gathered_of (the_word word.WArray t0 e0).is)) (spells.array_of (the_word word.WArray t0 e0) (the_word word.WOf t1 e1) d2 d3)

-- clause = "stream" "of" expr mask
pub keep_172 : (t0 : Placed) → class_of t0.kind ≡ 20 → (t1 : Placed) → class_of t1.kind ≡ 69 → (ts2 : List Placed) (v2 : Val sort.an_expr) → says_of is_expr ts2 v2 → (ts3 : List Placed) (v3 : Val sort.maybe_mask) → says_of is_mask ts3 v3 → says_of is_clause (t0 ∷ (t1 ∷ (ts2 ++ (ts3)))) (act action.Gathered (t0, (t1, (v2, (v3, tt)))))
keep_172 t0 e0 t1 e1 ts2 v2 d2 ts3 v3 d3 = subst (λ z. Spells clause (t0 ∷ (t1 ∷ (ts2 ++ (ts3)))) (roll-Clause (record { line = t0.line; kind = z; value = v2; mask = v3 }))) (sym (ap gathered_of (the_word word.WStream t0 e0).is)) (spells.stream_of (the_word word.WStream t0 e0) (the_word word.WOf t1 e1) d2 d3)

-- clause = "value" "of" fold expr mask
pub keep_173 : (t0 : Placed) → class_of t0.kind ≡ 70 → (t1 : Placed) → class_of t1.kind ≡ 69 → (ts2 : List Placed) (v2 : Val sort.a_kind) → says_of is_fold ts2 v2 → (ts3 : List Placed) (v3 : Val sort.an_expr) → says_of is_expr ts3 v3 → (ts4 : List Placed) (v4 : Val sort.maybe_mask) → says_of is_mask ts4 v4 → says_of is_clause (t0 ∷ (t1 ∷ (ts2 ++ (ts3 ++ (ts4))))) (act action.Valued (t0, (t1, (v2, (v3, (v4, tt))))))
keep_173 t0 e0 t1 e1 ts2 v2 d2 ts3 v3 d3 ts4 v4 d4 = subst (λ z. Spells clause (t0 ∷ (t1 ∷ (ts2 ++ (ts3 ++ (ts4))))) (roll-Clause (record { line = t0.line; kind = z; value = v3; mask = v4 }))) (sym d2.same) (spells.value_of (the_word word.WValue t0 e0) (the_word word.WOf t1 e1) d2.spelled d3 d4)

-- fold =
pub keep_174 : says_of is_fold [] (act action.NoFold tt)
keep_174 = record { found = None; same = refl; spelled = spells.absent }

-- fold = red
pub keep_175 : (ts0 : List Placed) (v0 : Val sort.a_reduction) → says_of is_red ts0 v0 → says_of is_fold ts0 (act action.PlainFold (v0, tt))
keep_175 ts0 v0 d0 = record { found = Some (made.Reduce towards.Any v0); same = refl; spelled = spells.present (spells.folding_is spells.absent d0) }

-- fold = "left" red
pub keep_176 : (t0 : Placed) → class_of t0.kind ≡ 71 → (ts1 : List Placed) (v1 : Val sort.a_reduction) → says_of is_red ts1 v1 → says_of is_fold (t0 ∷ ts1) (act action.Directed (t0, (v1, tt)))
keep_176 t0 e0 ts1 v1 d1 = record { found = Some (made.Reduce towards.Left v1); same = ap (λ z. made.Reduce (direction_of z) v1) (the_word word.WLeft t0 e0).is; spelled = spells.present (spells.folding_is (spells.present (spells.left (the_word word.WLeft t0 e0))) d1) }

-- fold = "right" red
pub keep_177 : (t0 : Placed) → class_of t0.kind ≡ 72 → (ts1 : List Placed) (v1 : Val sort.a_reduction) → says_of is_red ts1 v1 → says_of is_fold (t0 ∷ ts1) (act action.Directed (t0, (v1, tt)))
keep_177 t0 e0 ts1 v1 d1 = record { found = Some (made.Reduce towards.Right v1); same = ap (λ z. made.Reduce (direction_of z) v1) (the_word word.WRight t0 e0).is; spelled = spells.present (spells.folding_is (spells.present (spells.right (the_word word.WRight t0 e0))) d1) }

-- fold = "tree" red
pub keep_178 : (t0 : Placed) → class_of t0.kind ≡ 73 → (ts1 : List Placed) (v1 : Val sort.a_reduction) → says_of is_red ts1 v1 → says_of is_fold (t0 ∷ ts1) (act action.Directed (t0, (v1, tt)))
keep_178 t0 e0 ts1 v1 d1 = record { found = Some (made.Reduce towards.Tree v1); same = ap (λ z. made.Reduce (direction_of z) v1) (the_word word.WTree t0 e0).is; spelled = spells.present (spells.folding_is (spells.present (spells.as_tree (the_word word.WTree t0 e0))) d1) }

-- red = "sum"
pub keep_179 : (t0 : Placed) → class_of t0.kind ≡ 74 → says_of is_red (t0 ∷ []) (act action.Reduced (t0, tt))
keep_179 t0 e0 = subst (λ z. Spells red (t0 ∷ []) z) (sym (ap reduction_of (the_word word.WSum t0 e0).is)) (spells.to_sum (the_word word.WSum t0 e0))

-- red = "product"
pub keep_180 : (t0 : Placed) → class_of t0.kind ≡ 75 → says_of is_red (t0 ∷ []) (act action.Reduced (t0, tt))
keep_180 t0 e0 = subst (λ z. Spells red (t0 ∷ []) z) (sym (ap reduction_of (the_word word.WProduct t0 e0).is)) (spells.to_product (the_word word.WProduct t0 e0))

-- red = "least"
pub keep_181 : (t0 : Placed) → class_of t0.kind ≡ 76 → says_of is_red (t0 ∷ []) (act action.Reduced (t0, tt))
keep_181 t0 e0 = subst (λ z. Spells red (t0 ∷ []) z) (sym (ap reduction_of (the_word word.WLeast t0 e0).is)) (spells.to_least (the_word word.WLeast t0 e0))

-- red = "greatest"
pub keep_182 : (t0 : Placed) → class_of t0.kind ≡ 77 → says_of is_red (t0 ∷ []) (act action.Reduced (t0, tt))
keep_182 t0 e0 = subst (λ z. Spells red (t0 ∷ []) z) (sym (ap reduction_of (the_word word.WGreatest t0 e0).is)) (spells.to_greatest (the_word word.WGreatest t0 e0))

-- red = "catenate"
pub keep_183 : (t0 : Placed) → class_of t0.kind ≡ 78 → says_of is_red (t0 ∷ []) (act action.Reduced (t0, tt))
keep_183 t0 e0 = subst (λ z. Spells red (t0 ∷ []) z) (sym (ap reduction_of (the_word word.WCatenate t0 e0).is)) (spells.to_catenate (the_word word.WCatenate t0 e0))

-- mask =
pub keep_184 : says_of is_mask [] (act action.NoMask tt)
keep_184 = spells.absent

-- mask = "when" expr
pub keep_185 : (t0 : Placed) → class_of t0.kind ≡ 79 → (ts1 : List Placed) (v1 : Val sort.an_expr) → says_of is_expr ts1 v1 → says_of is_mask (t0 ∷ ts1) (act action.SomeMask (t0, (v1, tt)))
keep_185 t0 e0 ts1 v1 d1 = subst (λ z. Spells (maybe mask) (t0 ∷ ts1) (Some (record { is_unless = z; test = v1 }))) (sym (ap is_unless (the_word word.WWhen t0 e0).is)) (spells.present (spells.when (the_word word.WWhen t0 e0) d1))

-- mask = "unless" expr
pub keep_186 : (t0 : Placed) → class_of t0.kind ≡ 80 → (ts1 : List Placed) (v1 : Val sort.an_expr) → says_of is_expr ts1 v1 → says_of is_mask (t0 ∷ ts1) (act action.SomeMask (t0, (v1, tt)))
keep_186 t0 e0 ts1 v1 d1 = subst (λ z. Spells (maybe mask) (t0 ∷ ts1) (Some (record { is_unless = z; test = v1 }))) (sym (ap is_unless (the_word word.WUnless t0 e0).is)) (spells.present (spells.unless (the_word word.WUnless t0 e0) d1))
