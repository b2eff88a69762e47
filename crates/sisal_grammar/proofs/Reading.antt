-- What each production of the table derives, where its tokens are said by their words, signs and names.
use Rattle.std.proofs.Common.{◌≡◌, ℕ, ℤ, true, false, List, [], ◌∷◌, ◌++◌, Some, ap, subst}
use Rattle.sisal_tree.specs.Kind.TheVariants as kind
use Rattle.sisal_tree.specs.Word.TheVariants as word
use Rattle.sisal_tree.specs.Sign.TheVariants as sign
use Rattle.sisal_tree.specs.declared.expr.ExprKind.TheVariants as tree
use Rattle.sisal_tree.specs.declared.expr.Constant.TheVariants as constant
use Rattle.sisal_tree.specs.declared.expr.Scalar.TheVariants as scalar
use Rattle.sisal_tree.specs.declared.expr.PrefixOperator.TheVariants as prefix
use Rattle.sisal_tree.specs.declared.expr.BinaryOperator.TheVariants as binary
use Rattle.sisal_tree.specs.declared.expr.Clause.{roll-Clause}
use Rattle.sisal_tree.specs.declared.expr.ClauseKind.TheVariants as made
use Rattle.sisal_tree.specs.declared.expr.Direction.TheVariants as towards
use Rattle.sisal_tree.specs.declared.expr.Reduction.TheVariants as reduction
use Rattle.sisal_grammar.specs.declared.action.Action.TheVariants as action
use Rattle.sisal_grammar.specs.declared.value.Placed.{Placed}
use Rattle.sisal_grammar.specs.Acts.{act, at, constant_of, prefix_of, binary_of, scalar_of, direction_of, reduction_of, is_until, is_unless, gathered_of}
use Rattle.sisal_grammar.specs.Classes.{class_of}
use Rattle.sisal_grammar.specs.Sorts.{Val}
use Rattle.sisal_grammar.specs.Sorts as sort
use Rattle.sisal_grammar.specs.Spells.{IsWord, IsSign, IsName}
use Rattle.sisal_grammar.proofs.Raws.{R, raw_0, raw_1, raw_2, raw_3, raw_4, raw_5, raw_6, raw_7, raw_8, raw_9, raw_10, raw_11, raw_12, raw_13, raw_14, raw_15, raw_16, raw_17, raw_18, raw_19, raw_20, raw_21, raw_22, raw_23, raw_24, raw_25, raw_26, raw_27, raw_28, raw_29, raw_30, raw_31, raw_32, raw_33, raw_34, raw_35, raw_36, raw_37, raw_38, raw_39, raw_40, raw_41, raw_42, raw_43, raw_44, raw_45, raw_46, raw_47, raw_48, raw_49, raw_50, raw_51, raw_52, raw_53, raw_54, raw_55, raw_56, raw_57, raw_58, raw_59, raw_60, raw_61, raw_62, raw_63, raw_64, raw_65, raw_66, raw_67, raw_68, raw_69, raw_70, raw_71, raw_72, raw_73, raw_74, raw_75, raw_76, raw_77, raw_78, raw_79, raw_80, raw_81, raw_82, raw_83, raw_84, raw_85, raw_86, raw_87, raw_88, raw_89, raw_90, raw_91, raw_92, raw_93, raw_94, raw_95, raw_96, raw_97, raw_98, raw_99, raw_100, raw_101, raw_102, raw_103, raw_104, raw_105, raw_106, raw_107, raw_108, raw_109, raw_110, raw_111, raw_112, raw_113, raw_114, raw_115, raw_116, raw_117, raw_118, raw_119, raw_120, raw_121, raw_122, raw_123, raw_124, raw_125, raw_126, raw_127, raw_128, raw_129, raw_130, raw_131, raw_132, raw_133, raw_134, raw_135, raw_136, raw_137, raw_138, raw_139, raw_140, raw_141, raw_142, raw_143, raw_144, raw_145, raw_146, raw_147, raw_148, raw_149, raw_150, raw_151, raw_152, raw_153, raw_154, raw_155, raw_156, raw_157, raw_158, raw_159, raw_160, raw_161, raw_162, raw_163, raw_164, raw_165, raw_166, raw_167, raw_168, raw_169, raw_170, raw_171, raw_172, raw_173, raw_174, raw_175, raw_176, raw_177, raw_178, raw_179, raw_180, raw_181, raw_182, raw_183, raw_184, raw_185, raw_186}

-- unit = "define" @name names semi items
pub read_0 : {t0 : Placed} {t1 : Placed} {ts2 : List Placed} {v2 : Val sort.names} {ts3 : List Placed} {v3 : Val sort.nothing} {ts4 : List Placed} {v4 : Val sort.items} → IsWord word.WDefine t0 → IsName t1 → R 1 ts2 v2 → R 2 ts3 v3 → R 3 ts4 v4 → R 0 (t0 ∷ (t1 ∷ (ts2 ++ (ts3 ++ (ts4))))) (act action.Whole (t0, (t1, (v2, (v3, (v4, tt))))))
read_0 {t0} {t1} {ts2} {v2} {ts3} {v3} {ts4} {v4} i0 i1 d2 d3 d4 = raw_0 t0 (ap (λ z. class_of z) i0.is) t1 (ap (λ z. class_of z) i1.is) ts2 v2 d2 ts3 v3 d3 ts4 v4 d4

-- names
pub read_1 : R 1 [] (act action.NoNames tt)
read_1 = raw_1

-- names = "," @name names
pub read_2 : {t0 : Placed} {t1 : Placed} {ts2 : List Placed} {v2 : Val sort.names} → IsSign sign.SComma t0 → IsName t1 → R 1 ts2 v2 → R 1 (t0 ∷ t1 ∷ ts2) (act action.MoreNames (t0, (t1, (v2, tt))))
read_2 {t0} {t1} {ts2} {v2} i0 i1 d2 = raw_2 t0 (ap (λ z. class_of z) i0.is) t1 (ap (λ z. class_of z) i1.is) ts2 v2 d2

-- semi
pub read_3 : R 2 [] (act action.Absent tt)
read_3 = raw_3

-- semi = ";"
pub read_4 : {t0 : Placed} → IsSign sign.SSemicolon t0 → R 2 (t0 ∷ []) (act action.Sign (t0, tt))
read_4 {t0} i0 = raw_4 t0 (ap (λ z. class_of z) i0.is)

-- items
pub read_5 : R 3 [] (act action.NoItems tt)
read_5 = raw_5

-- items = item items
pub read_6 : {ts0 : List Placed} {v0 : Val sort.an_item} {ts1 : List Placed} {v1 : Val sort.items} → R 4 ts0 v0 → R 3 ts1 v1 → R 3 (ts0 ++ (ts1)) (act action.MoreItems (v0, (v1, tt)))
read_6 {ts0} {v0} {ts1} {v1} d0 d1 = raw_6 ts0 v0 d0 ts1 v1 d1

-- item = "type" @name "=" type semi
pub read_7 : {t0 : Placed} {t1 : Placed} {t2 : Placed} {ts3 : List Placed} {v3 : Val sort.a_type} {ts4 : List Placed} {v4 : Val sort.nothing} → IsWord word.WType t0 → IsName t1 → IsSign sign.SEqual t2 → R 5 ts3 v3 → R 2 ts4 v4 → R 4 (t0 ∷ (t1 ∷ (t2 ∷ (ts3 ++ (ts4))))) (act action.Alias (t0, (t1, (t2, (v3, (v4, tt))))))
read_7 {t0} {t1} {t2} {ts3} {v3} {ts4} {v4} i0 i1 i2 d3 d4 = raw_7 t0 (ap (λ z. class_of z) i0.is) t1 (ap (λ z. class_of z) i1.is) t2 (ap (λ z. class_of z) i2.is) ts3 v3 d3 ts4 v4 d4

-- item = "forward" "function" header semi
pub read_8 : {t0 : Placed} {t1 : Placed} {ts2 : List Placed} {v2 : Val sort.a_header} {ts3 : List Placed} {v3 : Val sort.nothing} → IsWord word.WForward t0 → IsWord word.WFunction t1 → R 13 ts2 v2 → R 2 ts3 v3 → R 4 (t0 ∷ (t1 ∷ (ts2 ++ (ts3)))) (act action.Forward (t0, (t1, (v2, (v3, tt)))))
read_8 {t0} {t1} {ts2} {v2} {ts3} {v3} i0 i1 d2 d3 = raw_8 t0 (ap (λ z. class_of z) i0.is) t1 (ap (λ z. class_of z) i1.is) ts2 v2 d2 ts3 v3 d3

-- item = "global" header semi
pub read_9 : {t0 : Placed} {ts1 : List Placed} {v1 : Val sort.a_header} {ts2 : List Placed} {v2 : Val sort.nothing} → IsWord word.WGlobal t0 → R 13 ts1 v1 → R 2 ts2 v2 → R 4 (t0 ∷ (ts1 ++ (ts2))) (act action.Global (t0, (v1, (v2, tt))))
read_9 {t0} {ts1} {v1} {ts2} {v2} i0 d1 d2 = raw_9 t0 (ap (λ z. class_of z) i0.is) ts1 v1 d1 ts2 v2 d2

-- item = "function" header exprs "end" "function" semi
pub read_10 : {t0 : Placed} {ts1 : List Placed} {v1 : Val sort.a_header} {ts2 : List Placed} {v2 : Val sort.exprs} {t3 : Placed} {t4 : Placed} {ts5 : List Placed} {v5 : Val sort.nothing} → IsWord word.WFunction t0 → R 13 ts1 v1 → R 15 ts2 v2 → IsWord word.WEnd t3 → IsWord word.WFunction t4 → R 2 ts5 v5 → R 4 (t0 ∷ (ts1 ++ (ts2 ++ (t3 ∷ t4 ∷ ts5)))) (act action.Defined (t0, (v1, (v2, (t3, (t4, (v5, tt)))))))
read_10 {t0} {ts1} {v1} {ts2} {v2} {t3} {t4} {ts5} {v5} i0 d1 d2 i3 i4 d5 = raw_10 t0 (ap (λ z. class_of z) i0.is) ts1 v1 d1 ts2 v2 d2 t3 (ap (λ z. class_of z) i3.is) t4 (ap (λ z. class_of z) i4.is) ts5 v5 d5

-- type = "integer"
pub read_11 : {t0 : Placed} → IsWord word.WInteger t0 → R 5 (t0 ∷ []) (act action.Basic (t0, tt))
read_11 {t0} i0 = raw_11 t0 (ap (λ z. class_of z) i0.is)

-- type = "boolean"
pub read_12 : {t0 : Placed} → IsWord word.WBoolean t0 → R 5 (t0 ∷ []) (act action.Basic (t0, tt))
read_12 {t0} i0 = raw_12 t0 (ap (λ z. class_of z) i0.is)

-- type = "character"
pub read_13 : {t0 : Placed} → IsWord word.WCharacter t0 → R 5 (t0 ∷ []) (act action.Basic (t0, tt))
read_13 {t0} i0 = raw_13 t0 (ap (λ z. class_of z) i0.is)

-- type = "null"
pub read_14 : {t0 : Placed} → IsWord word.WNull t0 → R 5 (t0 ∷ []) (act action.Basic (t0, tt))
read_14 {t0} i0 = raw_14 t0 (ap (λ z. class_of z) i0.is)

-- type = "real"
pub read_15 : {t0 : Placed} → IsWord word.WReal t0 → R 5 (t0 ∷ []) (act action.Basic (t0, tt))
read_15 {t0} i0 = raw_15 t0 (ap (λ z. class_of z) i0.is)

-- type = "double_real"
pub read_16 : {t0 : Placed} → IsWord word.WDoubleReal t0 → R 5 (t0 ∷ []) (act action.Basic (t0, tt))
read_16 {t0} i0 = raw_16 t0 (ap (λ z. class_of z) i0.is)

-- type = @name
pub read_17 : {t0 : Placed} → IsName t0 → R 5 (t0 ∷ []) (act action.Basic (t0, tt))
read_17 {t0} i0 = raw_17 t0 (ap (λ z. class_of z) i0.is)

-- type = "array" "[" type "]"
pub read_18 : {t0 : Placed} {t1 : Placed} {ts2 : List Placed} {v2 : Val sort.a_type} {t3 : Placed} → IsWord word.WArray t0 → IsSign sign.SOpenBracket t1 → R 5 ts2 v2 → IsSign sign.SCloseBracket t3 → R 5 (t0 ∷ (t1 ∷ (ts2 ++ (t3 ∷ [])))) (act action.Listed (t0, (t1, (v2, (t3, tt)))))
read_18 {t0} {t1} {ts2} {v2} {t3} i0 i1 d2 i3 = raw_18 t0 (ap (λ z. class_of z) i0.is) t1 (ap (λ z. class_of z) i1.is) ts2 v2 d2 t3 (ap (λ z. class_of z) i3.is)

-- type = "stream" "[" type "]"
pub read_19 : {t0 : Placed} {t1 : Placed} {ts2 : List Placed} {v2 : Val sort.a_type} {t3 : Placed} → IsWord word.WStream t0 → IsSign sign.SOpenBracket t1 → R 5 ts2 v2 → IsSign sign.SCloseBracket t3 → R 5 (t0 ∷ (t1 ∷ (ts2 ++ (t3 ∷ [])))) (act action.Listed (t0, (t1, (v2, (t3, tt)))))
read_19 {t0} {t1} {ts2} {v2} {t3} i0 i1 d2 i3 = raw_19 t0 (ap (λ z. class_of z) i0.is) t1 (ap (λ z. class_of z) i1.is) ts2 v2 d2 t3 (ap (λ z. class_of z) i3.is)

-- type = "record" "[" field fields "]"
pub read_20 : {t0 : Placed} {t1 : Placed} {ts2 : List Placed} {v2 : Val sort.a_field} {ts3 : List Placed} {v3 : Val sort.fields} {t4 : Placed} → IsWord word.WRecord t0 → IsSign sign.SOpenBracket t1 → R 8 ts2 v2 → R 6 ts3 v3 → IsSign sign.SCloseBracket t4 → R 5 (t0 ∷ (t1 ∷ (ts2 ++ (ts3 ++ (t4 ∷ []))))) (act action.Fielded (t0, (t1, (v2, (v3, (t4, tt))))))
read_20 {t0} {t1} {ts2} {v2} {ts3} {v3} {t4} i0 i1 d2 d3 i4 = raw_20 t0 (ap (λ z. class_of z) i0.is) t1 (ap (λ z. class_of z) i1.is) ts2 v2 d2 ts3 v3 d3 t4 (ap (λ z. class_of z) i4.is)

-- type = "union" "[" tagf tagfs "]"
pub read_21 : {t0 : Placed} {t1 : Placed} {ts2 : List Placed} {v2 : Val sort.nothing} {ts3 : List Placed} {v3 : Val sort.nothing} {t4 : Placed} → IsWord word.WUnion t0 → IsSign sign.SOpenBracket t1 → R 11 ts2 v2 → R 9 ts3 v3 → IsSign sign.SCloseBracket t4 → R 5 (t0 ∷ (t1 ∷ (ts2 ++ (ts3 ++ (t4 ∷ []))))) (act action.Tagged (t0, (t1, (v2, (v3, (t4, tt))))))
read_21 {t0} {t1} {ts2} {v2} {ts3} {v3} {t4} i0 i1 d2 d3 i4 = raw_21 t0 (ap (λ z. class_of z) i0.is) t1 (ap (λ z. class_of z) i1.is) ts2 v2 d2 ts3 v3 d3 t4 (ap (λ z. class_of z) i4.is)

-- fields
pub read_22 : R 6 [] (act action.NoFields tt)
read_22 = raw_22

-- fields = ";" fields_more
pub read_23 : {t0 : Placed} {ts1 : List Placed} {v1 : Val sort.fields} → IsSign sign.SSemicolon t0 → R 7 ts1 v1 → R 6 (t0 ∷ ts1) (act action.SemiFields (t0, (v1, tt)))
read_23 {t0} {ts1} {v1} i0 d1 = raw_23 t0 (ap (λ z. class_of z) i0.is) ts1 v1 d1

-- fields_more
pub read_24 : R 7 [] (act action.NoFields tt)
read_24 = raw_24

-- fields_more = field fields
pub read_25 : {ts0 : List Placed} {v0 : Val sort.a_field} {ts1 : List Placed} {v1 : Val sort.fields} → R 8 ts0 v0 → R 6 ts1 v1 → R 7 (ts0 ++ (ts1)) (act action.MoreFields (v0, (v1, tt)))
read_25 {ts0} {v0} {ts1} {v1} d0 d1 = raw_25 ts0 v0 d0 ts1 v1 d1

-- field = @name names ":" type
pub read_26 : {t0 : Placed} {ts1 : List Placed} {v1 : Val sort.names} {t2 : Placed} {ts3 : List Placed} {v3 : Val sort.a_type} → IsName t0 → R 1 ts1 v1 → IsSign sign.SColon t2 → R 5 ts3 v3 → R 8 (t0 ∷ (ts1 ++ (t2 ∷ ts3))) (act action.OneField (t0, (v1, (t2, (v3, tt)))))
read_26 {t0} {ts1} {v1} {t2} {ts3} {v3} i0 d1 i2 d3 = raw_26 t0 (ap (λ z. class_of z) i0.is) ts1 v1 d1 t2 (ap (λ z. class_of z) i2.is) ts3 v3 d3

-- tagfs
pub read_27 : R 9 [] (act action.Absent tt)
read_27 = raw_27

-- tagfs = ";" tagfs_more
pub read_28 : {t0 : Placed} {ts1 : List Placed} {v1 : Val sort.nothing} → IsSign sign.SSemicolon t0 → R 10 ts1 v1 → R 9 (t0 ∷ ts1) (act action.SemiTags (t0, (v1, tt)))
read_28 {t0} {ts1} {v1} i0 d1 = raw_28 t0 (ap (λ z. class_of z) i0.is) ts1 v1 d1

-- tagfs_more
pub read_29 : R 10 [] (act action.Absent tt)
read_29 = raw_29

-- tagfs_more = tagf tagfs
pub read_30 : {ts0 : List Placed} {v0 : Val sort.nothing} {ts1 : List Placed} {v1 : Val sort.nothing} → R 11 ts0 v0 → R 9 ts1 v1 → R 10 (ts0 ++ (ts1)) (act action.MoreTags (v0, (v1, tt)))
read_30 {ts0} {v0} {ts1} {v1} d0 d1 = raw_30 ts0 v0 d0 ts1 v1 d1

-- tagf = @name names tag_type
pub read_31 : {t0 : Placed} {ts1 : List Placed} {v1 : Val sort.names} {ts2 : List Placed} {v2 : Val sort.nothing} → IsName t0 → R 1 ts1 v1 → R 12 ts2 v2 → R 11 (t0 ∷ (ts1 ++ (ts2))) (act action.OneTag (t0, (v1, (v2, tt))))
read_31 {t0} {ts1} {v1} {ts2} {v2} i0 d1 d2 = raw_31 t0 (ap (λ z. class_of z) i0.is) ts1 v1 d1 ts2 v2 d2

-- tag_type
pub read_32 : R 12 [] (act action.Absent tt)
read_32 = raw_32

-- tag_type = ":" type
pub read_33 : {t0 : Placed} {ts1 : List Placed} {v1 : Val sort.a_type} → IsSign sign.SColon t0 → R 5 ts1 v1 → R 12 (t0 ∷ ts1) (act action.TypedTag (t0, (v1, tt)))
read_33 {t0} {ts1} {v1} i0 d1 = raw_33 t0 (ap (λ z. class_of z) i0.is) ts1 v1 d1

-- header = @name "(" fields_more "returns" type types ")"
pub read_34 : {t0 : Placed} {t1 : Placed} {ts2 : List Placed} {v2 : Val sort.fields} {t3 : Placed} {ts4 : List Placed} {v4 : Val sort.a_type} {ts5 : List Placed} {v5 : Val sort.types} {t6 : Placed} → IsName t0 → IsSign sign.SOpenParen t1 → R 7 ts2 v2 → IsWord word.WReturns t3 → R 5 ts4 v4 → R 14 ts5 v5 → IsSign sign.SCloseParen t6 → R 13 (t0 ∷ (t1 ∷ (ts2 ++ (t3 ∷ (ts4 ++ (ts5 ++ (t6 ∷ []))))))) (act action.OneHeader (t0, (t1, (v2, (t3, (v4, (v5, (t6, tt))))))))
read_34 {t0} {t1} {ts2} {v2} {t3} {ts4} {v4} {ts5} {v5} {t6} i0 i1 d2 i3 d4 d5 i6 = raw_34 t0 (ap (λ z. class_of z) i0.is) t1 (ap (λ z. class_of z) i1.is) ts2 v2 d2 t3 (ap (λ z. class_of z) i3.is) ts4 v4 d4 ts5 v5 d5 t6 (ap (λ z. class_of z) i6.is)

-- types
pub read_35 : R 14 [] (act action.NoTypes tt)
read_35 = raw_35

-- types = "," type types
pub read_36 : {t0 : Placed} {ts1 : List Placed} {v1 : Val sort.a_type} {ts2 : List Placed} {v2 : Val sort.types} → IsSign sign.SComma t0 → R 5 ts1 v1 → R 14 ts2 v2 → R 14 (t0 ∷ (ts1 ++ (ts2))) (act action.MoreTypes (t0, (v1, (v2, tt))))
read_36 {t0} {ts1} {v1} {ts2} {v2} i0 d1 d2 = raw_36 t0 (ap (λ z. class_of z) i0.is) ts1 v1 d1 ts2 v2 d2

-- exprs = expr exprs_more
pub read_37 : {ts0 : List Placed} {v0 : Val sort.an_expr} {ts1 : List Placed} {v1 : Val sort.exprs} → R 18 ts0 v0 → R 16 ts1 v1 → R 15 (ts0 ++ (ts1)) (act action.Exprs (v0, (v1, tt)))
read_37 {ts0} {v0} {ts1} {v1} d0 d1 = raw_37 ts0 v0 d0 ts1 v1 d1

-- exprs_more
pub read_38 : R 16 [] (act action.NoExprs tt)
read_38 = raw_38

-- exprs_more = "," expr exprs_more
pub read_39 : {t0 : Placed} {ts1 : List Placed} {v1 : Val sort.an_expr} {ts2 : List Placed} {v2 : Val sort.exprs} → IsSign sign.SComma t0 → R 18 ts1 v1 → R 16 ts2 v2 → R 16 (t0 ∷ (ts1 ++ (ts2))) (act action.MoreExprs (t0, (v1, (v2, tt))))
read_39 {t0} {ts1} {v1} {ts2} {v2} i0 d1 d2 = raw_39 t0 (ap (λ z. class_of z) i0.is) ts1 v1 d1 ts2 v2 d2

-- args
pub read_40 : R 17 [] (act action.NoExprs tt)
read_40 = raw_40

-- args = exprs
pub read_41 : {ts0 : List Placed} {v0 : Val sort.exprs} → R 15 ts0 v0 → R 17 ts0 (act action.SameExprs (v0, tt))
read_41 {ts0} {v0} d0 = raw_41 ts0 v0 d0

-- expr = conj expr_more
pub read_42 : {ts0 : List Placed} {v0 : Val sort.an_expr} {ts1 : List Placed} {v1 : Val sort.tail} → R 20 ts0 v0 → R 19 ts1 v1 → R 18 (ts0 ++ (ts1)) (act action.Chain (v0, (v1, tt)))
read_42 {ts0} {v0} {ts1} {v1} d0 d1 = raw_42 ts0 v0 d0 ts1 v1 d1

-- expr_more
pub read_43 : R 19 [] (act action.NoTail tt)
read_43 = raw_43

-- expr_more = "|" conj expr_more
pub read_44 : {t0 : Placed} {ts1 : List Placed} {v1 : Val sort.an_expr} {ts2 : List Placed} {v2 : Val sort.tail} → IsSign sign.SOr t0 → R 20 ts1 v1 → R 19 ts2 v2 → R 19 (t0 ∷ (ts1 ++ (ts2))) ((binary.Or, v1) ∷ v2)
read_44 {t0} {ts1} {v1} {ts2} {v2} i0 d1 d2 = subst (λ z. R 19 (t0 ∷ (ts1 ++ (ts2))) ((z, v1) ∷ v2)) (ap binary_of i0.is) (raw_44 t0 (ap (λ z. class_of z) i0.is) ts1 v1 d1 ts2 v2 d2)

-- conj = inv conj_more
pub read_45 : {ts0 : List Placed} {v0 : Val sort.an_expr} {ts1 : List Placed} {v1 : Val sort.tail} → R 22 ts0 v0 → R 21 ts1 v1 → R 20 (ts0 ++ (ts1)) (act action.Chain (v0, (v1, tt)))
read_45 {ts0} {v0} {ts1} {v1} d0 d1 = raw_45 ts0 v0 d0 ts1 v1 d1

-- conj_more
pub read_46 : R 21 [] (act action.NoTail tt)
read_46 = raw_46

-- conj_more = "&" inv conj_more
pub read_47 : {t0 : Placed} {ts1 : List Placed} {v1 : Val sort.an_expr} {ts2 : List Placed} {v2 : Val sort.tail} → IsSign sign.SAnd t0 → R 22 ts1 v1 → R 21 ts2 v2 → R 21 (t0 ∷ (ts1 ++ (ts2))) ((binary.And, v1) ∷ v2)
read_47 {t0} {ts1} {v1} {ts2} {v2} i0 d1 d2 = subst (λ z. R 21 (t0 ∷ (ts1 ++ (ts2))) ((z, v1) ∷ v2)) (ap binary_of i0.is) (raw_47 t0 (ap (λ z. class_of z) i0.is) ts1 v1 d1 ts2 v2 d2)

-- inv = "~" inv
pub read_48 : {t0 : Placed} {ts1 : List Placed} {v1 : Val sort.an_expr} → IsSign sign.SNot t0 → R 22 ts1 v1 → R 22 (t0 ∷ ts1) (at t0.line (tree.Prefix prefix.Not v1))
read_48 {t0} {ts1} {v1} i0 d1 = subst (λ z. R 22 (t0 ∷ ts1) (at t0.line (tree.Prefix z v1))) (ap prefix_of i0.is) (raw_48 t0 (ap (λ z. class_of z) i0.is) ts1 v1 d1)

-- inv = rel
pub read_49 : {ts0 : List Placed} {v0 : Val sort.an_expr} → R 23 ts0 v0 → R 22 ts0 (act action.SameExpr (v0, tt))
read_49 {ts0} {v0} d0 = raw_49 ts0 v0 d0

-- rel = cat rel_more
pub read_50 : {ts0 : List Placed} {v0 : Val sort.an_expr} {ts1 : List Placed} {v1 : Val sort.tail} → R 25 ts0 v0 → R 24 ts1 v1 → R 23 (ts0 ++ (ts1)) (act action.Chain (v0, (v1, tt)))
read_50 {ts0} {v0} {ts1} {v1} d0 d1 = raw_50 ts0 v0 d0 ts1 v1 d1

-- rel_more
pub read_51 : R 24 [] (act action.NoTail tt)
read_51 = raw_51

-- rel_more = "=" cat
pub read_52 : {t0 : Placed} {ts1 : List Placed} {v1 : Val sort.an_expr} → IsSign sign.SEqual t0 → R 25 ts1 v1 → R 24 (t0 ∷ ts1) ((binary.Equal, v1) ∷ [])
read_52 {t0} {ts1} {v1} i0 d1 = subst (λ z. R 24 (t0 ∷ ts1) ((z, v1) ∷ [])) (ap binary_of i0.is) (raw_52 t0 (ap (λ z. class_of z) i0.is) ts1 v1 d1)

-- rel_more = "~=" cat
pub read_53 : {t0 : Placed} {ts1 : List Placed} {v1 : Val sort.an_expr} → IsSign sign.SNotEqual t0 → R 25 ts1 v1 → R 24 (t0 ∷ ts1) ((binary.NotEqual, v1) ∷ [])
read_53 {t0} {ts1} {v1} i0 d1 = subst (λ z. R 24 (t0 ∷ ts1) ((z, v1) ∷ [])) (ap binary_of i0.is) (raw_53 t0 (ap (λ z. class_of z) i0.is) ts1 v1 d1)

-- rel_more = "<" cat
pub read_54 : {t0 : Placed} {ts1 : List Placed} {v1 : Val sort.an_expr} → IsSign sign.SLess t0 → R 25 ts1 v1 → R 24 (t0 ∷ ts1) ((binary.Less, v1) ∷ [])
read_54 {t0} {ts1} {v1} i0 d1 = subst (λ z. R 24 (t0 ∷ ts1) ((z, v1) ∷ [])) (ap binary_of i0.is) (raw_54 t0 (ap (λ z. class_of z) i0.is) ts1 v1 d1)

-- rel_more = "<=" cat
pub read_55 : {t0 : Placed} {ts1 : List Placed} {v1 : Val sort.an_expr} → IsSign sign.SLessEqual t0 → R 25 ts1 v1 → R 24 (t0 ∷ ts1) ((binary.LessEqual, v1) ∷ [])
read_55 {t0} {ts1} {v1} i0 d1 = subst (λ z. R 24 (t0 ∷ ts1) ((z, v1) ∷ [])) (ap binary_of i0.is) (raw_55 t0 (ap (λ z. class_of z) i0.is) ts1 v1 d1)

-- rel_more = ">" cat
pub read_56 : {t0 : Placed} {ts1 : List Placed} {v1 : Val sort.an_expr} → IsSign sign.SGreater t0 → R 25 ts1 v1 → R 24 (t0 ∷ ts1) ((binary.Greater, v1) ∷ [])
read_56 {t0} {ts1} {v1} i0 d1 = subst (λ z. R 24 (t0 ∷ ts1) ((z, v1) ∷ [])) (ap binary_of i0.is) (raw_56 t0 (ap (λ z. class_of z) i0.is) ts1 v1 d1)

-- rel_more = ">=" cat
pub read_57 : {t0 : Placed} {ts1 : List Placed} {v1 : Val sort.an_expr} → IsSign sign.SGreaterEqual t0 → R 25 ts1 v1 → R 24 (t0 ∷ ts1) ((binary.GreaterEqual, v1) ∷ [])
read_57 {t0} {ts1} {v1} i0 d1 = subst (λ z. R 24 (t0 ∷ ts1) ((z, v1) ∷ [])) (ap binary_of i0.is) (raw_57 t0 (ap (λ z. class_of z) i0.is) ts1 v1 d1)

-- cat = sum cat_more
pub read_58 : {ts0 : List Placed} {v0 : Val sort.an_expr} {ts1 : List Placed} {v1 : Val sort.tail} → R 27 ts0 v0 → R 26 ts1 v1 → R 25 (ts0 ++ (ts1)) (act action.Chain (v0, (v1, tt)))
read_58 {ts0} {v0} {ts1} {v1} d0 d1 = raw_58 ts0 v0 d0 ts1 v1 d1

-- cat_more
pub read_59 : R 26 [] (act action.NoTail tt)
read_59 = raw_59

-- cat_more = "||" sum cat_more
pub read_60 : {t0 : Placed} {ts1 : List Placed} {v1 : Val sort.an_expr} {ts2 : List Placed} {v2 : Val sort.tail} → IsSign sign.SCatenate t0 → R 27 ts1 v1 → R 26 ts2 v2 → R 26 (t0 ∷ (ts1 ++ (ts2))) ((binary.Catenate, v1) ∷ v2)
read_60 {t0} {ts1} {v1} {ts2} {v2} i0 d1 d2 = subst (λ z. R 26 (t0 ∷ (ts1 ++ (ts2))) ((z, v1) ∷ v2)) (ap binary_of i0.is) (raw_60 t0 (ap (λ z. class_of z) i0.is) ts1 v1 d1 ts2 v2 d2)

-- sum = term sum_more
pub read_61 : {ts0 : List Placed} {v0 : Val sort.an_expr} {ts1 : List Placed} {v1 : Val sort.tail} → R 29 ts0 v0 → R 28 ts1 v1 → R 27 (ts0 ++ (ts1)) (act action.Chain (v0, (v1, tt)))
read_61 {ts0} {v0} {ts1} {v1} d0 d1 = raw_61 ts0 v0 d0 ts1 v1 d1

-- sum_more
pub read_62 : R 28 [] (act action.NoTail tt)
read_62 = raw_62

-- sum_more = "+" term sum_more
pub read_63 : {t0 : Placed} {ts1 : List Placed} {v1 : Val sort.an_expr} {ts2 : List Placed} {v2 : Val sort.tail} → IsSign sign.SPlus t0 → R 29 ts1 v1 → R 28 ts2 v2 → R 28 (t0 ∷ (ts1 ++ (ts2))) ((binary.Plus, v1) ∷ v2)
read_63 {t0} {ts1} {v1} {ts2} {v2} i0 d1 d2 = subst (λ z. R 28 (t0 ∷ (ts1 ++ (ts2))) ((z, v1) ∷ v2)) (ap binary_of i0.is) (raw_63 t0 (ap (λ z. class_of z) i0.is) ts1 v1 d1 ts2 v2 d2)

-- sum_more = "-" term sum_more
pub read_64 : {t0 : Placed} {ts1 : List Placed} {v1 : Val sort.an_expr} {ts2 : List Placed} {v2 : Val sort.tail} → IsSign sign.SMinus t0 → R 29 ts1 v1 → R 28 ts2 v2 → R 28 (t0 ∷ (ts1 ++ (ts2))) ((binary.Minus, v1) ∷ v2)
read_64 {t0} {ts1} {v1} {ts2} {v2} i0 d1 d2 = subst (λ z. R 28 (t0 ∷ (ts1 ++ (ts2))) ((z, v1) ∷ v2)) (ap binary_of i0.is) (raw_64 t0 (ap (λ z. class_of z) i0.is) ts1 v1 d1 ts2 v2 d2)

-- term = neg term_more
pub read_65 : {ts0 : List Placed} {v0 : Val sort.an_expr} {ts1 : List Placed} {v1 : Val sort.tail} → R 31 ts0 v0 → R 30 ts1 v1 → R 29 (ts0 ++ (ts1)) (act action.Chain (v0, (v1, tt)))
read_65 {ts0} {v0} {ts1} {v1} d0 d1 = raw_65 ts0 v0 d0 ts1 v1 d1

-- term_more
pub read_66 : R 30 [] (act action.NoTail tt)
read_66 = raw_66

-- term_more = "*" neg term_more
pub read_67 : {t0 : Placed} {ts1 : List Placed} {v1 : Val sort.an_expr} {ts2 : List Placed} {v2 : Val sort.tail} → IsSign sign.STimes t0 → R 31 ts1 v1 → R 30 ts2 v2 → R 30 (t0 ∷ (ts1 ++ (ts2))) ((binary.Times, v1) ∷ v2)
read_67 {t0} {ts1} {v1} {ts2} {v2} i0 d1 d2 = subst (λ z. R 30 (t0 ∷ (ts1 ++ (ts2))) ((z, v1) ∷ v2)) (ap binary_of i0.is) (raw_67 t0 (ap (λ z. class_of z) i0.is) ts1 v1 d1 ts2 v2 d2)

-- term_more = "/" neg term_more
pub read_68 : {t0 : Placed} {ts1 : List Placed} {v1 : Val sort.an_expr} {ts2 : List Placed} {v2 : Val sort.tail} → IsSign sign.SDivide t0 → R 31 ts1 v1 → R 30 ts2 v2 → R 30 (t0 ∷ (ts1 ++ (ts2))) ((binary.Divide, v1) ∷ v2)
read_68 {t0} {ts1} {v1} {ts2} {v2} i0 d1 d2 = subst (λ z. R 30 (t0 ∷ (ts1 ++ (ts2))) ((z, v1) ∷ v2)) (ap binary_of i0.is) (raw_68 t0 (ap (λ z. class_of z) i0.is) ts1 v1 d1 ts2 v2 d2)

-- neg = "-" neg
pub read_69 : {t0 : Placed} {ts1 : List Placed} {v1 : Val sort.an_expr} → IsSign sign.SMinus t0 → R 31 ts1 v1 → R 31 (t0 ∷ ts1) (at t0.line (tree.Prefix prefix.Negate v1))
read_69 {t0} {ts1} {v1} i0 d1 = subst (λ z. R 31 (t0 ∷ ts1) (at t0.line (tree.Prefix z v1))) (ap prefix_of i0.is) (raw_69 t0 (ap (λ z. class_of z) i0.is) ts1 v1 d1)

-- neg = post
pub read_70 : {ts0 : List Placed} {v0 : Val sort.an_expr} → R 32 ts0 v0 → R 31 ts0 (act action.SameExpr (v0, tt))
read_70 {ts0} {v0} d0 = raw_70 ts0 v0 d0

-- post = prim posts
pub read_71 : {ts0 : List Placed} {v0 : Val sort.an_expr} {ts1 : List Placed} {v1 : Val sort.posts} → R 39 ts0 v0 → R 33 ts1 v1 → R 32 (ts0 ++ (ts1)) (act action.Posted (v0, (v1, tt)))
read_71 {ts0} {v0} {ts1} {v1} d0 d1 = raw_71 ts0 v0 d0 ts1 v1 d1

-- posts
pub read_72 : R 33 [] (act action.NoPosts tt)
read_72 = raw_72

-- posts = selector posts
pub read_73 : {ts0 : List Placed} {v0 : Val sort.a_post} {ts1 : List Placed} {v1 : Val sort.posts} → R 34 ts0 v0 → R 33 ts1 v1 → R 33 (ts0 ++ (ts1)) (act action.MorePosts (v0, (v1, tt)))
read_73 {ts0} {v0} {ts1} {v1} d0 d1 = raw_73 ts0 v0 d0 ts1 v1 d1

-- selector = "[" expr index
pub read_74 : {t0 : Placed} {ts1 : List Placed} {v1 : Val sort.an_expr} {ts2 : List Placed} {v2 : Val sort.a_bracket} → IsSign sign.SOpenBracket t0 → R 18 ts1 v1 → R 35 ts2 v2 → R 34 (t0 ∷ (ts1 ++ (ts2))) (act action.Bracket (t0, (v1, (v2, tt))))
read_74 {t0} {ts1} {v1} {ts2} {v2} i0 d1 d2 = raw_74 t0 (ap (λ z. class_of z) i0.is) ts1 v1 d1 ts2 v2 d2

-- selector = "." @name
pub read_75 : {t0 : Placed} {t1 : Placed} → IsSign sign.SDot t0 → IsName t1 → R 34 (t0 ∷ t1 ∷ []) (act action.Dot (t0, (t1, tt)))
read_75 {t0} {t1} i0 i1 = raw_75 t0 (ap (λ z. class_of z) i0.is) t1 (ap (λ z. class_of z) i1.is)

-- selector = "replace" "[" fv fvs "]"
pub read_76 : {t0 : Placed} {t1 : Placed} {ts2 : List Placed} {v2 : Val sort.a_value} {ts3 : List Placed} {v3 : Val sort.values} {t4 : Placed} → IsWord word.WReplace t0 → IsSign sign.SOpenBracket t1 → R 36 ts2 v2 → R 37 ts3 v3 → IsSign sign.SCloseBracket t4 → R 34 (t0 ∷ (t1 ∷ (ts2 ++ (ts3 ++ (t4 ∷ []))))) (act action.Replaced (t0, (t1, (v2, (v3, (t4, tt))))))
read_76 {t0} {t1} {ts2} {v2} {ts3} {v3} {t4} i0 i1 d2 d3 i4 = raw_76 t0 (ap (λ z. class_of z) i0.is) t1 (ap (λ z. class_of z) i1.is) ts2 v2 d2 ts3 v3 d3 t4 (ap (λ z. class_of z) i4.is)

-- index = "]"
pub read_77 : {t0 : Placed} → IsSign sign.SCloseBracket t0 → R 35 (t0 ∷ []) (act action.CloseBracket (t0, tt))
read_77 {t0} i0 = raw_77 t0 (ap (λ z. class_of z) i0.is)

-- index = "," expr exprs_more "]"
pub read_78 : {t0 : Placed} {ts1 : List Placed} {v1 : Val sort.an_expr} {ts2 : List Placed} {v2 : Val sort.exprs} {t3 : Placed} → IsSign sign.SComma t0 → R 18 ts1 v1 → R 16 ts2 v2 → IsSign sign.SCloseBracket t3 → R 35 (t0 ∷ (ts1 ++ (ts2 ++ (t3 ∷ [])))) (act action.MoreBracket (t0, (v1, (v2, (t3, tt)))))
read_78 {t0} {ts1} {v1} {ts2} {v2} {t3} i0 d1 d2 i3 = raw_78 t0 (ap (λ z. class_of z) i0.is) ts1 v1 d1 ts2 v2 d2 t3 (ap (λ z. class_of z) i3.is)

-- index = ":" expr "]"
pub read_79 : {t0 : Placed} {ts1 : List Placed} {v1 : Val sort.an_expr} {t2 : Placed} → IsSign sign.SColon t0 → R 18 ts1 v1 → IsSign sign.SCloseBracket t2 → R 35 (t0 ∷ (ts1 ++ (t2 ∷ []))) (act action.ColonBracket (t0, (v1, (t2, tt))))
read_79 {t0} {ts1} {v1} {t2} i0 d1 i2 = raw_79 t0 (ap (λ z. class_of z) i0.is) ts1 v1 d1 t2 (ap (λ z. class_of z) i2.is)

-- fv = @name ":" expr
pub read_80 : {t0 : Placed} {t1 : Placed} {ts2 : List Placed} {v2 : Val sort.an_expr} → IsName t0 → IsSign sign.SColon t1 → R 18 ts2 v2 → R 36 (t0 ∷ t1 ∷ ts2) (act action.OneValue (t0, (t1, (v2, tt))))
read_80 {t0} {t1} {ts2} {v2} i0 i1 d2 = raw_80 t0 (ap (λ z. class_of z) i0.is) t1 (ap (λ z. class_of z) i1.is) ts2 v2 d2

-- fvs
pub read_81 : R 37 [] (act action.NoValues tt)
read_81 = raw_81

-- fvs = ";" fvs_more
pub read_82 : {t0 : Placed} {ts1 : List Placed} {v1 : Val sort.values} → IsSign sign.SSemicolon t0 → R 38 ts1 v1 → R 37 (t0 ∷ ts1) (act action.SemiValues (t0, (v1, tt)))
read_82 {t0} {ts1} {v1} i0 d1 = raw_82 t0 (ap (λ z. class_of z) i0.is) ts1 v1 d1

-- fvs_more
pub read_83 : R 38 [] (act action.NoValues tt)
read_83 = raw_83

-- fvs_more = fv fvs
pub read_84 : {ts0 : List Placed} {v0 : Val sort.a_value} {ts1 : List Placed} {v1 : Val sort.values} → R 36 ts0 v0 → R 37 ts1 v1 → R 38 (ts0 ++ (ts1)) (act action.MoreValues (v0, (v1, tt)))
read_84 {ts0} {v0} {ts1} {v1} d0 d1 = raw_84 ts0 v0 d0 ts1 v1 d1

-- prim = @name call
pub read_85 : {t0 : Placed} {ts1 : List Placed} {v1 : Val sort.maybe_exprs} → IsName t0 → R 40 ts1 v1 → R 39 (t0 ∷ ts1) (act action.NameOrCall (t0, (v1, tt)))
read_85 {t0} {ts1} {v1} i0 d1 = raw_85 t0 (ap (λ z. class_of z) i0.is) ts1 v1 d1

-- prim = other
pub read_86 : {ts0 : List Placed} {v0 : Val sort.an_expr} → R 41 ts0 v0 → R 39 ts0 (act action.SameExpr (v0, tt))
read_86 {ts0} {v0} d0 = raw_86 ts0 v0 d0

-- call
pub read_87 : R 40 [] (act action.NoCall tt)
read_87 = raw_87

-- call = "(" args ")"
pub read_88 : {t0 : Placed} {ts1 : List Placed} {v1 : Val sort.exprs} {t2 : Placed} → IsSign sign.SOpenParen t0 → R 17 ts1 v1 → IsSign sign.SCloseParen t2 → R 40 (t0 ∷ (ts1 ++ (t2 ∷ []))) (act action.Call (t0, (v1, (t2, tt))))
read_88 {t0} {ts1} {v1} {t2} i0 d1 i2 = raw_88 t0 (ap (λ z. class_of z) i0.is) ts1 v1 d1 t2 (ap (λ z. class_of z) i2.is)

pub read_89 : (t0 : Placed) (n : ℤ) → t0.kind ≡ kind.Number n → R 41 (t0 ∷ []) (at t0.line (tree.Constant (constant.Integer n)))
read_89 t0 n e = subst (λ z. R 41 (t0 ∷ []) (at t0.line (tree.Constant z))) (ap constant_of e) (raw_89 t0 (ap (λ z. class_of z) e))

pub read_90 : (t0 : Placed) (n : ℕ) → t0.kind ≡ kind.Letter n → R 41 (t0 ∷ []) (at t0.line (tree.Constant (constant.Letter n)))
read_90 t0 n e = subst (λ z. R 41 (t0 ∷ []) (at t0.line (tree.Constant z))) (ap constant_of e) (raw_90 t0 (ap (λ z. class_of z) e))

pub read_91 : (t0 : Placed) (n : List ℕ) → t0.kind ≡ kind.Quoted n → R 41 (t0 ∷ []) (at t0.line (tree.Constant (constant.Quoted n)))
read_91 t0 n e = subst (λ z. R 41 (t0 ∷ []) (at t0.line (tree.Constant z))) (ap constant_of e) (raw_91 t0 (ap (λ z. class_of z) e))

-- other = "true"
pub read_92 : {t0 : Placed} → IsWord word.WTrue t0 → R 41 (t0 ∷ []) (at t0.line (tree.Constant constant.True))
read_92 {t0} i0 = subst (λ z. R 41 (t0 ∷ []) (at t0.line (tree.Constant z))) (ap constant_of i0.is) (raw_92 t0 (ap (λ z. class_of z) i0.is))

-- other = "false"
pub read_93 : {t0 : Placed} → IsWord word.WFalse t0 → R 41 (t0 ∷ []) (at t0.line (tree.Constant constant.False))
read_93 {t0} i0 = subst (λ z. R 41 (t0 ∷ []) (at t0.line (tree.Constant z))) (ap constant_of i0.is) (raw_93 t0 (ap (λ z. class_of z) i0.is))

-- other = "nil"
pub read_94 : {t0 : Placed} → IsWord word.WNil t0 → R 41 (t0 ∷ []) (at t0.line (tree.Constant constant.Nil))
read_94 {t0} i0 = subst (λ z. R 41 (t0 ∷ []) (at t0.line (tree.Constant z))) (ap constant_of i0.is) (raw_94 t0 (ap (λ z. class_of z) i0.is))

-- other = "old" @name
pub read_95 : {t0 : Placed} {t1 : Placed} → IsWord word.WOld t0 → IsName t1 → R 41 (t0 ∷ t1 ∷ []) (act action.Old (t0, (t1, tt)))
read_95 {t0} {t1} i0 i1 = raw_95 t0 (ap (λ z. class_of z) i0.is) t1 (ap (λ z. class_of z) i1.is)

-- other = "integer" "(" expr ")"
pub read_96 : {t0 : Placed} {t1 : Placed} {ts2 : List Placed} {v2 : Val sort.an_expr} {t3 : Placed} → IsWord word.WInteger t0 → IsSign sign.SOpenParen t1 → R 18 ts2 v2 → IsSign sign.SCloseParen t3 → R 41 (t0 ∷ (t1 ∷ (ts2 ++ (t3 ∷ [])))) (at t0.line (tree.Convert scalar.Integer v2))
read_96 {t0} {t1} {ts2} {v2} {t3} i0 i1 d2 i3 = subst (λ z. R 41 (t0 ∷ (t1 ∷ (ts2 ++ (t3 ∷ [])))) (at t0.line (tree.Convert z v2))) (ap scalar_of i0.is) (raw_96 t0 (ap (λ z. class_of z) i0.is) t1 (ap (λ z. class_of z) i1.is) ts2 v2 d2 t3 (ap (λ z. class_of z) i3.is))

-- other = "boolean" "(" expr ")"
pub read_97 : {t0 : Placed} {t1 : Placed} {ts2 : List Placed} {v2 : Val sort.an_expr} {t3 : Placed} → IsWord word.WBoolean t0 → IsSign sign.SOpenParen t1 → R 18 ts2 v2 → IsSign sign.SCloseParen t3 → R 41 (t0 ∷ (t1 ∷ (ts2 ++ (t3 ∷ [])))) (at t0.line (tree.Convert scalar.Boolean v2))
read_97 {t0} {t1} {ts2} {v2} {t3} i0 i1 d2 i3 = subst (λ z. R 41 (t0 ∷ (t1 ∷ (ts2 ++ (t3 ∷ [])))) (at t0.line (tree.Convert z v2))) (ap scalar_of i0.is) (raw_97 t0 (ap (λ z. class_of z) i0.is) t1 (ap (λ z. class_of z) i1.is) ts2 v2 d2 t3 (ap (λ z. class_of z) i3.is))

-- other = "character" "(" expr ")"
pub read_98 : {t0 : Placed} {t1 : Placed} {ts2 : List Placed} {v2 : Val sort.an_expr} {t3 : Placed} → IsWord word.WCharacter t0 → IsSign sign.SOpenParen t1 → R 18 ts2 v2 → IsSign sign.SCloseParen t3 → R 41 (t0 ∷ (t1 ∷ (ts2 ++ (t3 ∷ [])))) (at t0.line (tree.Convert scalar.Character v2))
read_98 {t0} {t1} {ts2} {v2} {t3} i0 i1 d2 i3 = subst (λ z. R 41 (t0 ∷ (t1 ∷ (ts2 ++ (t3 ∷ [])))) (at t0.line (tree.Convert z v2))) (ap scalar_of i0.is) (raw_98 t0 (ap (λ z. class_of z) i0.is) t1 (ap (λ z. class_of z) i1.is) ts2 v2 d2 t3 (ap (λ z. class_of z) i3.is))

-- other = "(" expr ")"
pub read_99 : {t0 : Placed} {ts1 : List Placed} {v1 : Val sort.an_expr} {t2 : Placed} → IsSign sign.SOpenParen t0 → R 18 ts1 v1 → IsSign sign.SCloseParen t2 → R 41 (t0 ∷ (ts1 ++ (t2 ∷ []))) (act action.Group (t0, (v1, (t2, tt))))
read_99 {t0} {ts1} {v1} {t2} i0 d1 i2 = raw_99 t0 (ap (λ z. class_of z) i0.is) ts1 v1 d1 t2 (ap (λ z. class_of z) i2.is)

-- other = "error" "[" type "]"
pub read_100 : {t0 : Placed} {t1 : Placed} {ts2 : List Placed} {v2 : Val sort.a_type} {t3 : Placed} → IsWord word.WError t0 → IsSign sign.SOpenBracket t1 → R 5 ts2 v2 → IsSign sign.SCloseBracket t3 → R 41 (t0 ∷ (t1 ∷ (ts2 ++ (t3 ∷ [])))) (act action.ErrorOf (t0, (t1, (v2, (t3, tt)))))
read_100 {t0} {t1} {ts2} {v2} {t3} i0 i1 d2 i3 = raw_100 t0 (ap (λ z. class_of z) i0.is) t1 (ap (λ z. class_of z) i1.is) ts2 v2 d2 t3 (ap (λ z. class_of z) i3.is)

-- other = "is" is_what "(" expr ")"
pub read_101 : {t0 : Placed} {ts1 : List Placed} {v1 : Val sort.maybe_name} {t2 : Placed} {ts3 : List Placed} {v3 : Val sort.an_expr} {t4 : Placed} → IsWord word.WIs t0 → R 42 ts1 v1 → IsSign sign.SOpenParen t2 → R 18 ts3 v3 → IsSign sign.SCloseParen t4 → R 41 (t0 ∷ (ts1 ++ (t2 ∷ (ts3 ++ (t4 ∷ []))))) (act action.Is (t0, (v1, (t2, (v3, (t4, tt))))))
read_101 {t0} {ts1} {v1} {t2} {ts3} {v3} {t4} i0 d1 i2 d3 i4 = raw_101 t0 (ap (λ z. class_of z) i0.is) ts1 v1 d1 t2 (ap (λ z. class_of z) i2.is) ts3 v3 d3 t4 (ap (λ z. class_of z) i4.is)

-- other = "array" named "[" elements "]"
pub read_102 : {t0 : Placed} {ts1 : List Placed} {v1 : Val sort.maybe_name} {t2 : Placed} {ts3 : List Placed} {v3 : Val sort.maybe_elements} {t4 : Placed} → IsWord word.WArray t0 → R 43 ts1 v1 → IsSign sign.SOpenBracket t2 → R 44 ts3 v3 → IsSign sign.SCloseBracket t4 → R 41 (t0 ∷ (ts1 ++ (t2 ∷ (ts3 ++ (t4 ∷ []))))) (act action.Array (t0, (v1, (t2, (v3, (t4, tt))))))
read_102 {t0} {ts1} {v1} {t2} {ts3} {v3} {t4} i0 d1 i2 d3 i4 = raw_102 t0 (ap (λ z. class_of z) i0.is) ts1 v1 d1 t2 (ap (λ z. class_of z) i2.is) ts3 v3 d3 t4 (ap (λ z. class_of z) i4.is)

-- other = "stream" named "[" args "]"
pub read_103 : {t0 : Placed} {ts1 : List Placed} {v1 : Val sort.maybe_name} {t2 : Placed} {ts3 : List Placed} {v3 : Val sort.exprs} {t4 : Placed} → IsWord word.WStream t0 → R 43 ts1 v1 → IsSign sign.SOpenBracket t2 → R 17 ts3 v3 → IsSign sign.SCloseBracket t4 → R 41 (t0 ∷ (ts1 ++ (t2 ∷ (ts3 ++ (t4 ∷ []))))) (act action.Stream (t0, (v1, (t2, (v3, (t4, tt))))))
read_103 {t0} {ts1} {v1} {t2} {ts3} {v3} {t4} i0 d1 i2 d3 i4 = raw_103 t0 (ap (λ z. class_of z) i0.is) ts1 v1 d1 t2 (ap (λ z. class_of z) i2.is) ts3 v3 d3 t4 (ap (λ z. class_of z) i4.is)

-- other = "record" named "[" fv fvs "]"
pub read_104 : {t0 : Placed} {ts1 : List Placed} {v1 : Val sort.maybe_name} {t2 : Placed} {ts3 : List Placed} {v3 : Val sort.a_value} {ts4 : List Placed} {v4 : Val sort.values} {t5 : Placed} → IsWord word.WRecord t0 → R 43 ts1 v1 → IsSign sign.SOpenBracket t2 → R 36 ts3 v3 → R 37 ts4 v4 → IsSign sign.SCloseBracket t5 → R 41 (t0 ∷ (ts1 ++ (t2 ∷ (ts3 ++ (ts4 ++ (t5 ∷ [])))))) (act action.Record (t0, (v1, (t2, (v3, (v4, (t5, tt)))))))
read_104 {t0} {ts1} {v1} {t2} {ts3} {v3} {ts4} {v4} {t5} i0 d1 i2 d3 d4 i5 = raw_104 t0 (ap (λ z. class_of z) i0.is) ts1 v1 d1 t2 (ap (λ z. class_of z) i2.is) ts3 v3 d3 ts4 v4 d4 t5 (ap (λ z. class_of z) i5.is)

-- other = "union" @name "[" @name content "]"
pub read_105 : {t0 : Placed} {t1 : Placed} {t2 : Placed} {t3 : Placed} {ts4 : List Placed} {v4 : Val sort.maybe_expr} {t5 : Placed} → IsWord word.WUnion t0 → IsName t1 → IsSign sign.SOpenBracket t2 → IsName t3 → R 45 ts4 v4 → IsSign sign.SCloseBracket t5 → R 41 (t0 ∷ (t1 ∷ (t2 ∷ (t3 ∷ (ts4 ++ (t5 ∷ [])))))) (act action.Union (t0, (t1, (t2, (t3, (v4, (t5, tt)))))))
read_105 {t0} {t1} {t2} {t3} {ts4} {v4} {t5} i0 i1 i2 i3 d4 i5 = raw_105 t0 (ap (λ z. class_of z) i0.is) t1 (ap (λ z. class_of z) i1.is) t2 (ap (λ z. class_of z) i2.is) t3 (ap (λ z. class_of z) i3.is) ts4 v4 d4 t5 (ap (λ z. class_of z) i5.is)

-- other = "let" defs "in" exprs "end" "let"
pub read_106 : {t0 : Placed} {ts1 : List Placed} {v1 : Val sort.defs} {t2 : Placed} {ts3 : List Placed} {v3 : Val sort.exprs} {t4 : Placed} {t5 : Placed} → IsWord word.WLet t0 → R 69 ts1 v1 → IsWord word.WIn t2 → R 15 ts3 v3 → IsWord word.WEnd t4 → IsWord word.WLet t5 → R 41 (t0 ∷ (ts1 ++ (t2 ∷ (ts3 ++ (t4 ∷ t5 ∷ []))))) (act action.Let (t0, (v1, (t2, (v3, (t4, (t5, tt)))))))
read_106 {t0} {ts1} {v1} {t2} {ts3} {v3} {t4} {t5} i0 d1 i2 d3 i4 i5 = raw_106 t0 (ap (λ z. class_of z) i0.is) ts1 v1 d1 t2 (ap (λ z. class_of z) i2.is) ts3 v3 d3 t4 (ap (λ z. class_of z) i4.is) t5 (ap (λ z. class_of z) i5.is)

-- other = "if" expr "then" exprs elses "end" "if"
pub read_107 : {t0 : Placed} {ts1 : List Placed} {v1 : Val sort.an_expr} {t2 : Placed} {ts3 : List Placed} {v3 : Val sort.exprs} {ts4 : List Placed} {v4 : Val sort.exprs} {t5 : Placed} {t6 : Placed} → IsWord word.WIf t0 → R 18 ts1 v1 → IsWord word.WThen t2 → R 15 ts3 v3 → R 46 ts4 v4 → IsWord word.WEnd t5 → IsWord word.WIf t6 → R 41 (t0 ∷ (ts1 ++ (t2 ∷ (ts3 ++ (ts4 ++ (t5 ∷ t6 ∷ [])))))) (act action.If (t0, (v1, (t2, (v3, (v4, (t5, (t6, tt))))))))
read_107 {t0} {ts1} {v1} {t2} {ts3} {v3} {ts4} {v4} {t5} {t6} i0 d1 i2 d3 d4 i5 i6 = raw_107 t0 (ap (λ z. class_of z) i0.is) ts1 v1 d1 t2 (ap (λ z. class_of z) i2.is) ts3 v3 d3 ts4 v4 d4 t5 (ap (λ z. class_of z) i5.is) t6 (ap (λ z. class_of z) i6.is)

-- other = "tagcase" subject arm arms otherwise "end" "tagcase"
pub read_108 : {t0 : Placed} {ts1 : List Placed} {v1 : Val sort.a_subject} {ts2 : List Placed} {v2 : Val sort.an_arm} {ts3 : List Placed} {v3 : Val sort.arms} {ts4 : List Placed} {v4 : Val sort.maybe_exprs} {t5 : Placed} {t6 : Placed} → IsWord word.WTagcase t0 → R 47 ts1 v1 → R 59 ts2 v2 → R 58 ts3 v3 → R 60 ts4 v4 → IsWord word.WEnd t5 → IsWord word.WTagcase t6 → R 41 (t0 ∷ (ts1 ++ (ts2 ++ (ts3 ++ (ts4 ++ (t5 ∷ t6 ∷ [])))))) (act action.Case (t0, (v1, (v2, (v3, (v4, (t5, (t6, tt))))))))
read_108 {t0} {ts1} {v1} {ts2} {v2} {ts3} {v3} {ts4} {v4} {t5} {t6} i0 d1 d2 d3 d4 i5 i6 = raw_108 t0 (ap (λ z. class_of z) i0.is) ts1 v1 d1 ts2 v2 d2 ts3 v3 d3 ts4 v4 d4 t5 (ap (λ z. class_of z) i5.is) t6 (ap (λ z. class_of z) i6.is)

-- other = "for" loop "end" "for"
pub read_109 : {t0 : Placed} {ts1 : List Placed} {v1 : Val sort.a_loop} {t2 : Placed} {t3 : Placed} → IsWord word.WFor t0 → R 61 ts1 v1 → IsWord word.WEnd t2 → IsWord word.WFor t3 → R 41 (t0 ∷ (ts1 ++ (t2 ∷ t3 ∷ []))) (act action.For (t0, (v1, (t2, (t3, tt)))))
read_109 {t0} {ts1} {v1} {t2} {t3} i0 d1 i2 i3 = raw_109 t0 (ap (λ z. class_of z) i0.is) ts1 v1 d1 t2 (ap (λ z. class_of z) i2.is) t3 (ap (λ z. class_of z) i3.is)

-- is_what = "error"
pub read_110 : {t0 : Placed} → IsWord word.WError t0 → R 42 (t0 ∷ []) (act action.WordName (t0, tt))
read_110 {t0} i0 = raw_110 t0 (ap (λ z. class_of z) i0.is)

-- is_what = @name
pub read_111 : {t0 : Placed} → IsName t0 → R 42 (t0 ∷ []) (act action.AName (t0, tt))
read_111 {t0} i0 = raw_111 t0 (ap (λ z. class_of z) i0.is)

-- named
pub read_112 : R 43 [] (act action.NoName tt)
read_112 = raw_112

-- named = @name
pub read_113 : {t0 : Placed} → IsName t0 → R 43 (t0 ∷ []) (act action.AName (t0, tt))
read_113 {t0} i0 = raw_113 t0 (ap (λ z. class_of z) i0.is)

-- elements
pub read_114 : R 44 [] (act action.NoElements tt)
read_114 = raw_114

-- elements = expr ":" exprs
pub read_115 : {ts0 : List Placed} {v0 : Val sort.an_expr} {t1 : Placed} {ts2 : List Placed} {v2 : Val sort.exprs} → R 18 ts0 v0 → IsSign sign.SColon t1 → R 15 ts2 v2 → R 44 (ts0 ++ (t1 ∷ ts2)) (act action.SomeElements (v0, (t1, (v2, tt))))
read_115 {ts0} {v0} {t1} {ts2} {v2} d0 i1 d2 = raw_115 ts0 v0 d0 t1 (ap (λ z. class_of z) i1.is) ts2 v2 d2

-- content
pub read_116 : R 45 [] (act action.NoExpr tt)
read_116 = raw_116

-- content = ":" expr
pub read_117 : {t0 : Placed} {ts1 : List Placed} {v1 : Val sort.an_expr} → IsSign sign.SColon t0 → R 18 ts1 v1 → R 45 (t0 ∷ ts1) (act action.SomeExpr (t0, (v1, tt)))
read_117 {t0} {ts1} {v1} i0 d1 = raw_117 t0 (ap (λ z. class_of z) i0.is) ts1 v1 d1

-- elses = "elseif" expr "then" exprs elses
pub read_118 : {t0 : Placed} {ts1 : List Placed} {v1 : Val sort.an_expr} {t2 : Placed} {ts3 : List Placed} {v3 : Val sort.exprs} {ts4 : List Placed} {v4 : Val sort.exprs} → IsWord word.WElseif t0 → R 18 ts1 v1 → IsWord word.WThen t2 → R 15 ts3 v3 → R 46 ts4 v4 → R 46 (t0 ∷ (ts1 ++ (t2 ∷ (ts3 ++ (ts4))))) (act action.ElseIf (t0, (v1, (t2, (v3, (v4, tt))))))
read_118 {t0} {ts1} {v1} {t2} {ts3} {v3} {ts4} {v4} i0 d1 i2 d3 d4 = raw_118 t0 (ap (λ z. class_of z) i0.is) ts1 v1 d1 t2 (ap (λ z. class_of z) i2.is) ts3 v3 d3 ts4 v4 d4

-- elses = "else" exprs
pub read_119 : {t0 : Placed} {ts1 : List Placed} {v1 : Val sort.exprs} → IsWord word.WElse t0 → R 15 ts1 v1 → R 46 (t0 ∷ ts1) (act action.Else (t0, (v1, tt)))
read_119 {t0} {ts1} {v1} i0 d1 = raw_119 t0 (ap (λ z. class_of z) i0.is) ts1 v1 d1

-- subject = @name subject_more
pub read_120 : {t0 : Placed} {ts1 : List Placed} {v1 : Val sort.a_rest} → IsName t0 → R 48 ts1 v1 → R 47 (t0 ∷ ts1) (act action.NameSubject (t0, (v1, tt)))
read_120 {t0} {ts1} {v1} i0 d1 = raw_120 t0 (ap (λ z. class_of z) i0.is) ts1 v1 d1

-- subject = o_expr
pub read_121 : {ts0 : List Placed} {v0 : Val sort.an_expr} → R 49 ts0 v0 → R 47 ts0 (act action.OtherSubject (v0, tt))
read_121 {ts0} {v0} d0 = raw_121 ts0 v0 d0

-- subject_more = ":=" expr
pub read_122 : {t0 : Placed} {ts1 : List Placed} {v1 : Val sort.an_expr} → IsSign sign.SAssign t0 → R 18 ts1 v1 → R 48 (t0 ∷ ts1) (act action.Bound (t0, (v1, tt)))
read_122 {t0} {ts1} {v1} i0 d1 = raw_122 t0 (ap (λ z. class_of z) i0.is) ts1 v1 d1

-- subject_more = call posts term_more sum_more cat_more rel_more conj_more expr_more
pub read_123 : {ts0 : List Placed} {v0 : Val sort.maybe_exprs} {ts1 : List Placed} {v1 : Val sort.posts} {ts2 : List Placed} {v2 : Val sort.tail} {ts3 : List Placed} {v3 : Val sort.tail} {ts4 : List Placed} {v4 : Val sort.tail} {ts5 : List Placed} {v5 : Val sort.tail} {ts6 : List Placed} {v6 : Val sort.tail} {ts7 : List Placed} {v7 : Val sort.tail} → R 40 ts0 v0 → R 33 ts1 v1 → R 30 ts2 v2 → R 28 ts3 v3 → R 26 ts4 v4 → R 24 ts5 v5 → R 21 ts6 v6 → R 19 ts7 v7 → R 48 (ts0 ++ (ts1 ++ (ts2 ++ (ts3 ++ (ts4 ++ (ts5 ++ (ts6 ++ (ts7)))))))) (act action.Rest (v0, (v1, (v2, (v3, (v4, (v5, (v6, (v7, tt)))))))))
read_123 {ts0} {v0} {ts1} {v1} {ts2} {v2} {ts3} {v3} {ts4} {v4} {ts5} {v5} {ts6} {v6} {ts7} {v7} d0 d1 d2 d3 d4 d5 d6 d7 = raw_123 ts0 v0 d0 ts1 v1 d1 ts2 v2 d2 ts3 v3 d3 ts4 v4 d4 ts5 v5 d5 ts6 v6 d6 ts7 v7 d7

-- o_expr = o_conj expr_more
pub read_124 : {ts0 : List Placed} {v0 : Val sort.an_expr} {ts1 : List Placed} {v1 : Val sort.tail} → R 50 ts0 v0 → R 19 ts1 v1 → R 49 (ts0 ++ (ts1)) (act action.Chain (v0, (v1, tt)))
read_124 {ts0} {v0} {ts1} {v1} d0 d1 = raw_124 ts0 v0 d0 ts1 v1 d1

-- o_conj = o_inv conj_more
pub read_125 : {ts0 : List Placed} {v0 : Val sort.an_expr} {ts1 : List Placed} {v1 : Val sort.tail} → R 51 ts0 v0 → R 21 ts1 v1 → R 50 (ts0 ++ (ts1)) (act action.Chain (v0, (v1, tt)))
read_125 {ts0} {v0} {ts1} {v1} d0 d1 = raw_125 ts0 v0 d0 ts1 v1 d1

-- o_inv = "~" inv
pub read_126 : {t0 : Placed} {ts1 : List Placed} {v1 : Val sort.an_expr} → IsSign sign.SNot t0 → R 22 ts1 v1 → R 51 (t0 ∷ ts1) (at t0.line (tree.Prefix prefix.Not v1))
read_126 {t0} {ts1} {v1} i0 d1 = subst (λ z. R 51 (t0 ∷ ts1) (at t0.line (tree.Prefix z v1))) (ap prefix_of i0.is) (raw_126 t0 (ap (λ z. class_of z) i0.is) ts1 v1 d1)

-- o_inv = o_rel
pub read_127 : {ts0 : List Placed} {v0 : Val sort.an_expr} → R 52 ts0 v0 → R 51 ts0 (act action.SameExpr (v0, tt))
read_127 {ts0} {v0} d0 = raw_127 ts0 v0 d0

-- o_rel = o_cat rel_more
pub read_128 : {ts0 : List Placed} {v0 : Val sort.an_expr} {ts1 : List Placed} {v1 : Val sort.tail} → R 53 ts0 v0 → R 24 ts1 v1 → R 52 (ts0 ++ (ts1)) (act action.Chain (v0, (v1, tt)))
read_128 {ts0} {v0} {ts1} {v1} d0 d1 = raw_128 ts0 v0 d0 ts1 v1 d1

-- o_cat = o_sum cat_more
pub read_129 : {ts0 : List Placed} {v0 : Val sort.an_expr} {ts1 : List Placed} {v1 : Val sort.tail} → R 54 ts0 v0 → R 26 ts1 v1 → R 53 (ts0 ++ (ts1)) (act action.Chain (v0, (v1, tt)))
read_129 {ts0} {v0} {ts1} {v1} d0 d1 = raw_129 ts0 v0 d0 ts1 v1 d1

-- o_sum = o_term sum_more
pub read_130 : {ts0 : List Placed} {v0 : Val sort.an_expr} {ts1 : List Placed} {v1 : Val sort.tail} → R 55 ts0 v0 → R 28 ts1 v1 → R 54 (ts0 ++ (ts1)) (act action.Chain (v0, (v1, tt)))
read_130 {ts0} {v0} {ts1} {v1} d0 d1 = raw_130 ts0 v0 d0 ts1 v1 d1

-- o_term = o_neg term_more
pub read_131 : {ts0 : List Placed} {v0 : Val sort.an_expr} {ts1 : List Placed} {v1 : Val sort.tail} → R 56 ts0 v0 → R 30 ts1 v1 → R 55 (ts0 ++ (ts1)) (act action.Chain (v0, (v1, tt)))
read_131 {ts0} {v0} {ts1} {v1} d0 d1 = raw_131 ts0 v0 d0 ts1 v1 d1

-- o_neg = "-" neg
pub read_132 : {t0 : Placed} {ts1 : List Placed} {v1 : Val sort.an_expr} → IsSign sign.SMinus t0 → R 31 ts1 v1 → R 56 (t0 ∷ ts1) (at t0.line (tree.Prefix prefix.Negate v1))
read_132 {t0} {ts1} {v1} i0 d1 = subst (λ z. R 56 (t0 ∷ ts1) (at t0.line (tree.Prefix z v1))) (ap prefix_of i0.is) (raw_132 t0 (ap (λ z. class_of z) i0.is) ts1 v1 d1)

-- o_neg = o_post
pub read_133 : {ts0 : List Placed} {v0 : Val sort.an_expr} → R 57 ts0 v0 → R 56 ts0 (act action.SameExpr (v0, tt))
read_133 {ts0} {v0} d0 = raw_133 ts0 v0 d0

-- o_post = other posts
pub read_134 : {ts0 : List Placed} {v0 : Val sort.an_expr} {ts1 : List Placed} {v1 : Val sort.posts} → R 41 ts0 v0 → R 33 ts1 v1 → R 57 (ts0 ++ (ts1)) (act action.Posted (v0, (v1, tt)))
read_134 {ts0} {v0} {ts1} {v1} d0 d1 = raw_134 ts0 v0 d0 ts1 v1 d1

-- arms
pub read_135 : R 58 [] (act action.NoArms tt)
read_135 = raw_135

-- arms = arm arms
pub read_136 : {ts0 : List Placed} {v0 : Val sort.an_arm} {ts1 : List Placed} {v1 : Val sort.arms} → R 59 ts0 v0 → R 58 ts1 v1 → R 58 (ts0 ++ (ts1)) (act action.MoreArms (v0, (v1, tt)))
read_136 {ts0} {v0} {ts1} {v1} d0 d1 = raw_136 ts0 v0 d0 ts1 v1 d1

-- arm = "tag" @name names ":" exprs
pub read_137 : {t0 : Placed} {t1 : Placed} {ts2 : List Placed} {v2 : Val sort.names} {t3 : Placed} {ts4 : List Placed} {v4 : Val sort.exprs} → IsWord word.WTag t0 → IsName t1 → R 1 ts2 v2 → IsSign sign.SColon t3 → R 15 ts4 v4 → R 59 (t0 ∷ (t1 ∷ (ts2 ++ (t3 ∷ ts4)))) (act action.OneArm (t0, (t1, (v2, (t3, (v4, tt))))))
read_137 {t0} {t1} {ts2} {v2} {t3} {ts4} {v4} i0 i1 d2 i3 d4 = raw_137 t0 (ap (λ z. class_of z) i0.is) t1 (ap (λ z. class_of z) i1.is) ts2 v2 d2 t3 (ap (λ z. class_of z) i3.is) ts4 v4 d4

-- otherwise
pub read_138 : R 60 [] (act action.NoCall tt)
read_138 = raw_138

-- otherwise = "otherwise" ":" exprs
pub read_139 : {t0 : Placed} {t1 : Placed} {ts2 : List Placed} {v2 : Val sort.exprs} → IsWord word.WOtherwise t0 → IsSign sign.SColon t1 → R 15 ts2 v2 → R 60 (t0 ∷ t1 ∷ ts2) (act action.Otherwise (t0, (t1, (v2, tt))))
read_139 {t0} {t1} {ts2} {v2} i0 i1 d2 = raw_139 t0 (ap (λ z. class_of z) i0.is) t1 (ap (λ z. class_of z) i1.is) ts2 v2 d2

-- loop = group groups body "returns" clause clauses
pub read_140 : {ts0 : List Placed} {v0 : Val sort.gens} {ts1 : List Placed} {v1 : Val sort.groups} {ts2 : List Placed} {v2 : Val sort.defs} {t3 : Placed} {ts4 : List Placed} {v4 : Val sort.a_clause} {ts5 : List Placed} {v5 : Val sort.clauses} → R 63 ts0 v0 → R 62 ts1 v1 → R 68 ts2 v2 → IsWord word.WReturns t3 → R 79 ts4 v4 → R 78 ts5 v5 → R 61 (ts0 ++ (ts1 ++ (ts2 ++ (t3 ∷ (ts4 ++ (ts5)))))) (act action.Product (v0, (v1, (v2, (t3, (v4, (v5, tt)))))))
read_140 {ts0} {v0} {ts1} {v1} {ts2} {v2} {t3} {ts4} {v4} {ts5} {v5} d0 d1 d2 i3 d4 d5 = raw_140 ts0 v0 d0 ts1 v1 d1 ts2 v2 d2 t3 (ap (λ z. class_of z) i3.is) ts4 v4 d4 ts5 v5 d5

-- loop = "initial" defs turn "returns" clause clauses
pub read_141 : {t0 : Placed} {ts1 : List Placed} {v1 : Val sort.defs} {ts2 : List Placed} {v2 : Val sort.a_turn} {t3 : Placed} {ts4 : List Placed} {v4 : Val sort.a_clause} {ts5 : List Placed} {v5 : Val sort.clauses} → IsWord word.WInitial t0 → R 69 ts1 v1 → R 76 ts2 v2 → IsWord word.WReturns t3 → R 79 ts4 v4 → R 78 ts5 v5 → R 61 (t0 ∷ (ts1 ++ (ts2 ++ (t3 ∷ (ts4 ++ (ts5)))))) (act action.Initial (t0, (v1, (v2, (t3, (v4, (v5, tt)))))))
read_141 {t0} {ts1} {v1} {ts2} {v2} {t3} {ts4} {v4} {ts5} {v5} i0 d1 d2 i3 d4 d5 = raw_141 t0 (ap (λ z. class_of z) i0.is) ts1 v1 d1 ts2 v2 d2 t3 (ap (λ z. class_of z) i3.is) ts4 v4 d4 ts5 v5 d5

-- groups
pub read_142 : R 62 [] (act action.NoGroups tt)
read_142 = raw_142

-- groups = "cross" group groups
pub read_143 : {t0 : Placed} {ts1 : List Placed} {v1 : Val sort.gens} {ts2 : List Placed} {v2 : Val sort.groups} → IsWord word.WCross t0 → R 63 ts1 v1 → R 62 ts2 v2 → R 62 (t0 ∷ (ts1 ++ (ts2))) (act action.MoreGroups (t0, (v1, (v2, tt))))
read_143 {t0} {ts1} {v1} {ts2} {v2} i0 d1 d2 = raw_143 t0 (ap (λ z. class_of z) i0.is) ts1 v1 d1 ts2 v2 d2

-- group = gen gens
pub read_144 : {ts0 : List Placed} {v0 : Val sort.a_gen} {ts1 : List Placed} {v1 : Val sort.gens} → R 65 ts0 v0 → R 64 ts1 v1 → R 63 (ts0 ++ (ts1)) (act action.Gens (v0, (v1, tt)))
read_144 {ts0} {v0} {ts1} {v1} d0 d1 = raw_144 ts0 v0 d0 ts1 v1 d1

-- gens
pub read_145 : R 64 [] (act action.NoGens tt)
read_145 = raw_145

-- gens = "dot" gen gens
pub read_146 : {t0 : Placed} {ts1 : List Placed} {v1 : Val sort.a_gen} {ts2 : List Placed} {v2 : Val sort.gens} → IsWord word.WDot t0 → R 65 ts1 v1 → R 64 ts2 v2 → R 64 (t0 ∷ (ts1 ++ (ts2))) (act action.MoreGens (t0, (v1, (v2, tt))))
read_146 {t0} {ts1} {v1} {ts2} {v2} i0 d1 d2 = raw_146 t0 (ap (λ z. class_of z) i0.is) ts1 v1 d1 ts2 v2 d2

-- gen = @name "in" expr to at
pub read_147 : {t0 : Placed} {t1 : Placed} {ts2 : List Placed} {v2 : Val sort.an_expr} {ts3 : List Placed} {v3 : Val sort.maybe_expr} {ts4 : List Placed} {v4 : Val sort.maybe_name} → IsName t0 → IsWord word.WIn t1 → R 18 ts2 v2 → R 66 ts3 v3 → R 67 ts4 v4 → R 65 (t0 ∷ (t1 ∷ (ts2 ++ (ts3 ++ (ts4))))) (act action.OneGen (t0, (t1, (v2, (v3, (v4, tt))))))
read_147 {t0} {t1} {ts2} {v2} {ts3} {v3} {ts4} {v4} i0 i1 d2 d3 d4 = raw_147 t0 (ap (λ z. class_of z) i0.is) t1 (ap (λ z. class_of z) i1.is) ts2 v2 d2 ts3 v3 d3 ts4 v4 d4

-- to
pub read_148 : R 66 [] (act action.NoExpr tt)
read_148 = raw_148

-- to = "," expr
pub read_149 : {t0 : Placed} {ts1 : List Placed} {v1 : Val sort.an_expr} → IsSign sign.SComma t0 → R 18 ts1 v1 → R 66 (t0 ∷ ts1) (act action.SomeExpr (t0, (v1, tt)))
read_149 {t0} {ts1} {v1} i0 d1 = raw_149 t0 (ap (λ z. class_of z) i0.is) ts1 v1 d1

-- at
pub read_150 : R 67 [] (act action.NoName tt)
read_150 = raw_150

-- at = "at" @name
pub read_151 : {t0 : Placed} {t1 : Placed} → IsWord word.WAt t0 → IsName t1 → R 67 (t0 ∷ t1 ∷ []) (act action.AtName (t0, (t1, tt)))
read_151 {t0} {t1} i0 i1 = raw_151 t0 (ap (λ z. class_of z) i0.is) t1 (ap (λ z. class_of z) i1.is)

-- body
pub read_152 : R 68 [] (act action.NoDefs tt)
read_152 = raw_152

-- body = defs
pub read_153 : {ts0 : List Placed} {v0 : Val sort.defs} → R 69 ts0 v0 → R 68 ts0 (act action.SameDefs (v0, tt))
read_153 {ts0} {v0} d0 = raw_153 ts0 v0 d0

-- defs = def defs_more
pub read_154 : {ts0 : List Placed} {v0 : Val sort.a_def} {ts1 : List Placed} {v1 : Val sort.defs} → R 72 ts0 v0 → R 70 ts1 v1 → R 69 (ts0 ++ (ts1)) (act action.Defs (v0, (v1, tt)))
read_154 {ts0} {v0} {ts1} {v1} d0 d1 = raw_154 ts0 v0 d0 ts1 v1 d1

-- defs_more
pub read_155 : R 70 [] (act action.NoDefs tt)
read_155 = raw_155

-- defs_more = ";" defs_rest
pub read_156 : {t0 : Placed} {ts1 : List Placed} {v1 : Val sort.defs} → IsSign sign.SSemicolon t0 → R 71 ts1 v1 → R 70 (t0 ∷ ts1) (act action.SemiDefs (t0, (v1, tt)))
read_156 {t0} {ts1} {v1} i0 d1 = raw_156 t0 (ap (λ z. class_of z) i0.is) ts1 v1 d1

-- defs_rest
pub read_157 : R 71 [] (act action.NoDefs tt)
read_157 = raw_157

-- defs_rest = def defs_more
pub read_158 : {ts0 : List Placed} {v0 : Val sort.a_def} {ts1 : List Placed} {v1 : Val sort.defs} → R 72 ts0 v0 → R 70 ts1 v1 → R 71 (ts0 ++ (ts1)) (act action.Defs (v0, (v1, tt)))
read_158 {ts0} {v0} {ts1} {v1} d0 d1 = raw_158 ts0 v0 d0 ts1 v1 d1

-- def = target targets ":=" exprs
pub read_159 : {ts0 : List Placed} {v0 : Val sort.a_target} {ts1 : List Placed} {v1 : Val sort.targets} {t2 : Placed} {ts3 : List Placed} {v3 : Val sort.exprs} → R 74 ts0 v0 → R 73 ts1 v1 → IsSign sign.SAssign t2 → R 15 ts3 v3 → R 72 (ts0 ++ (ts1 ++ (t2 ∷ ts3))) (act action.OneDef (v0, (v1, (t2, (v3, tt)))))
read_159 {ts0} {v0} {ts1} {v1} {t2} {ts3} {v3} d0 d1 i2 d3 = raw_159 ts0 v0 d0 ts1 v1 d1 t2 (ap (λ z. class_of z) i2.is) ts3 v3 d3

-- targets
pub read_160 : R 73 [] (act action.NoTargets tt)
read_160 = raw_160

-- targets = "," target targets
pub read_161 : {t0 : Placed} {ts1 : List Placed} {v1 : Val sort.a_target} {ts2 : List Placed} {v2 : Val sort.targets} → IsSign sign.SComma t0 → R 74 ts1 v1 → R 73 ts2 v2 → R 73 (t0 ∷ (ts1 ++ (ts2))) (act action.MoreTargets (t0, (v1, (v2, tt))))
read_161 {t0} {ts1} {v1} {ts2} {v2} i0 d1 d2 = raw_161 t0 (ap (λ z. class_of z) i0.is) ts1 v1 d1 ts2 v2 d2

-- target = @name of_type
pub read_162 : {t0 : Placed} {ts1 : List Placed} {v1 : Val sort.maybe_type} → IsName t0 → R 75 ts1 v1 → R 74 (t0 ∷ ts1) (act action.OneTarget (t0, (v1, tt)))
read_162 {t0} {ts1} {v1} i0 d1 = raw_162 t0 (ap (λ z. class_of z) i0.is) ts1 v1 d1

-- of_type
pub read_163 : R 75 [] (act action.NoType tt)
read_163 = raw_163

-- of_type = ":" type
pub read_164 : {t0 : Placed} {ts1 : List Placed} {v1 : Val sort.a_type} → IsSign sign.SColon t0 → R 5 ts1 v1 → R 75 (t0 ∷ ts1) (act action.SomeType (t0, (v1, tt)))
read_164 {t0} {ts1} {v1} i0 d1 = raw_164 t0 (ap (λ z. class_of z) i0.is) ts1 v1 d1

-- turn = test "repeat" defs
pub read_165 : {ts0 : List Placed} {v0 : Val sort.a_test} {t1 : Placed} {ts2 : List Placed} {v2 : Val sort.defs} → R 77 ts0 v0 → IsWord word.WRepeat t1 → R 69 ts2 v2 → R 76 (ts0 ++ (t1 ∷ ts2)) (act action.TestFirst (v0, (t1, (v2, tt))))
read_165 {ts0} {v0} {t1} {ts2} {v2} d0 i1 d2 = raw_165 ts0 v0 d0 t1 (ap (λ z. class_of z) i1.is) ts2 v2 d2

-- turn = "repeat" defs test
pub read_166 : {t0 : Placed} {ts1 : List Placed} {v1 : Val sort.defs} {ts2 : List Placed} {v2 : Val sort.a_test} → IsWord word.WRepeat t0 → R 69 ts1 v1 → R 77 ts2 v2 → R 76 (t0 ∷ (ts1 ++ (ts2))) (act action.TestLast (t0, (v1, (v2, tt))))
read_166 {t0} {ts1} {v1} {ts2} {v2} i0 d1 d2 = raw_166 t0 (ap (λ z. class_of z) i0.is) ts1 v1 d1 ts2 v2 d2

-- test = "while" expr
pub read_167 : {t0 : Placed} {ts1 : List Placed} {v1 : Val sort.an_expr} → IsWord word.WWhile t0 → R 18 ts1 v1 → R 77 (t0 ∷ ts1) (record { is_until = false; test = v1 })
read_167 {t0} {ts1} {v1} i0 d1 = subst (λ z. R 77 (t0 ∷ ts1) (record { is_until = z; test = v1 })) (ap is_until i0.is) (raw_167 t0 (ap (λ z. class_of z) i0.is) ts1 v1 d1)

-- test = "until" expr
pub read_168 : {t0 : Placed} {ts1 : List Placed} {v1 : Val sort.an_expr} → IsWord word.WUntil t0 → R 18 ts1 v1 → R 77 (t0 ∷ ts1) (record { is_until = true; test = v1 })
read_168 {t0} {ts1} {v1} i0 d1 = subst (λ z. R 77 (t0 ∷ ts1) (record { is_until = z; test = v1 })) (ap is_until i0.is) (raw_168 t0 (ap (λ z. class_of z) i0.is) ts1 v1 d1)

-- clauses
pub read_169 : R 78 [] (act action.NoClauses tt)
read_169 = raw_169

-- clauses = clause clauses
pub read_170 : {ts0 : List Placed} {v0 : Val sort.a_clause} {ts1 : List Placed} {v1 : Val sort.clauses} → R 79 ts0 v0 → R 78 ts1 v1 → R 78 (ts0 ++ (ts1)) (act action.MoreClauses (v0, (v1, tt)))
read_170 {ts0} {v0} {ts1} {v1} d0 d1 = raw_170 ts0 v0 d0 ts1 v1 d1

-- clause = "array" "of" expr mask
pub read_171 : {t0 : Placed} {t1 : Placed} {ts2 : List Placed} {v2 : Val sort.an_expr} {ts3 : List Placed} {v3 : Val sort.maybe_mask} → IsWord word.WArray t0 → IsWord word.WOf t1 → R 18 ts2 v2 → R 82 ts3 v3 → R 79 (t0 ∷ (t1 ∷ (ts2 ++ (ts3)))) (roll-Clause (record { line = t0.line; kind = made.Array; value = v2; mask = v3 }))
read_171 {t0} {t1} {ts2} {v2} {ts3} {v3} i0 i1 d2 d3 = subst (λ z. R 79 (t0 ∷ (t1 ∷ (ts2 ++ (ts3)))) (roll-Clause (record { line = t0.line; kind = z; value = v2; mask = v3 }))) (ap gathered_of i0.is) (raw_171 t0 (ap (λ z. class_of z) i0.is) t1 (ap (λ z. class_of z) i1.is) ts2 v2 d2 ts3 v3 d3)

-- clause = "stream" "of" expr mask
pub read_172 : {t0 : Placed} {t1 : Placed} {ts2 : List Placed} {v2 : Val sort.an_expr} {ts3 : List Placed} {v3 : Val sort.maybe_mask} → IsWord word.WStream t0 → IsWord word.WOf t1 → R 18 ts2 v2 → R 82 ts3 v3 → R 79 (t0 ∷ (t1 ∷ (ts2 ++ (ts3)))) (roll-Clause (record { line = t0.line; kind = made.Stream; value = v2; mask = v3 }))
read_172 {t0} {t1} {ts2} {v2} {ts3} {v3} i0 i1 d2 d3 = subst (λ z. R 79 (t0 ∷ (t1 ∷ (ts2 ++ (ts3)))) (roll-Clause (record { line = t0.line; kind = z; value = v2; mask = v3 }))) (ap gathered_of i0.is) (raw_172 t0 (ap (λ z. class_of z) i0.is) t1 (ap (λ z. class_of z) i1.is) ts2 v2 d2 ts3 v3 d3)

-- clause = "value" "of" fold expr mask
pub read_173 : {t0 : Placed} {t1 : Placed} {ts2 : List Placed} {v2 : Val sort.a_kind} {ts3 : List Placed} {v3 : Val sort.an_expr} {ts4 : List Placed} {v4 : Val sort.maybe_mask} → IsWord word.WValue t0 → IsWord word.WOf t1 → R 80 ts2 v2 → R 18 ts3 v3 → R 82 ts4 v4 → R 79 (t0 ∷ (t1 ∷ (ts2 ++ (ts3 ++ (ts4))))) (act action.Valued (t0, (t1, (v2, (v3, (v4, tt))))))
read_173 {t0} {t1} {ts2} {v2} {ts3} {v3} {ts4} {v4} i0 i1 d2 d3 d4 = raw_173 t0 (ap (λ z. class_of z) i0.is) t1 (ap (λ z. class_of z) i1.is) ts2 v2 d2 ts3 v3 d3 ts4 v4 d4

-- fold
pub read_174 : R 80 [] (act action.NoFold tt)
read_174 = raw_174

-- fold = red
pub read_175 : {ts0 : List Placed} {v0 : Val sort.a_reduction} → R 81 ts0 v0 → R 80 ts0 (act action.PlainFold (v0, tt))
read_175 {ts0} {v0} d0 = raw_175 ts0 v0 d0

-- fold = "left" red
pub read_176 : {t0 : Placed} {ts1 : List Placed} {v1 : Val sort.a_reduction} → IsWord word.WLeft t0 → R 81 ts1 v1 → R 80 (t0 ∷ ts1) (made.Reduce towards.Left v1)
read_176 {t0} {ts1} {v1} i0 d1 = subst (λ z. R 80 (t0 ∷ ts1) (made.Reduce z v1)) (ap direction_of i0.is) (raw_176 t0 (ap (λ z. class_of z) i0.is) ts1 v1 d1)

-- fold = "right" red
pub read_177 : {t0 : Placed} {ts1 : List Placed} {v1 : Val sort.a_reduction} → IsWord word.WRight t0 → R 81 ts1 v1 → R 80 (t0 ∷ ts1) (made.Reduce towards.Right v1)
read_177 {t0} {ts1} {v1} i0 d1 = subst (λ z. R 80 (t0 ∷ ts1) (made.Reduce z v1)) (ap direction_of i0.is) (raw_177 t0 (ap (λ z. class_of z) i0.is) ts1 v1 d1)

-- fold = "tree" red
pub read_178 : {t0 : Placed} {ts1 : List Placed} {v1 : Val sort.a_reduction} → IsWord word.WTree t0 → R 81 ts1 v1 → R 80 (t0 ∷ ts1) (made.Reduce towards.Tree v1)
read_178 {t0} {ts1} {v1} i0 d1 = subst (λ z. R 80 (t0 ∷ ts1) (made.Reduce z v1)) (ap direction_of i0.is) (raw_178 t0 (ap (λ z. class_of z) i0.is) ts1 v1 d1)

-- red = "sum"
pub read_179 : {t0 : Placed} → IsWord word.WSum t0 → R 81 (t0 ∷ []) reduction.Sum
read_179 {t0} i0 = subst (λ z. R 81 (t0 ∷ []) z) (ap reduction_of i0.is) (raw_179 t0 (ap (λ z. class_of z) i0.is))

-- red = "product"
pub read_180 : {t0 : Placed} → IsWord word.WProduct t0 → R 81 (t0 ∷ []) reduction.Product
read_180 {t0} i0 = subst (λ z. R 81 (t0 ∷ []) z) (ap reduction_of i0.is) (raw_180 t0 (ap (λ z. class_of z) i0.is))

-- red = "least"
pub read_181 : {t0 : Placed} → IsWord word.WLeast t0 → R 81 (t0 ∷ []) reduction.Least
read_181 {t0} i0 = subst (λ z. R 81 (t0 ∷ []) z) (ap reduction_of i0.is) (raw_181 t0 (ap (λ z. class_of z) i0.is))

-- red = "greatest"
pub read_182 : {t0 : Placed} → IsWord word.WGreatest t0 → R 81 (t0 ∷ []) reduction.Greatest
read_182 {t0} i0 = subst (λ z. R 81 (t0 ∷ []) z) (ap reduction_of i0.is) (raw_182 t0 (ap (λ z. class_of z) i0.is))

-- red = "catenate"
pub read_183 : {t0 : Placed} → IsWord word.WCatenate t0 → R 81 (t0 ∷ []) reduction.Catenate
read_183 {t0} i0 = subst (λ z. R 81 (t0 ∷ []) z) (ap reduction_of i0.is) (raw_183 t0 (ap (λ z. class_of z) i0.is))

-- mask
pub read_184 : R 82 [] (act action.NoMask tt)
read_184 = raw_184

-- mask = "when" expr
pub read_185 : {t0 : Placed} {ts1 : List Placed} {v1 : Val sort.an_expr} → IsWord word.WWhen t0 → R 18 ts1 v1 → R 82 (t0 ∷ ts1) (Some (record { is_unless = false; test = v1 }))
read_185 {t0} {ts1} {v1} i0 d1 = subst (λ z. R 82 (t0 ∷ ts1) (Some (record { is_unless = z; test = v1 }))) (ap is_unless i0.is) (raw_185 t0 (ap (λ z. class_of z) i0.is) ts1 v1 d1)

-- mask = "unless" expr
pub read_186 : {t0 : Placed} {ts1 : List Placed} {v1 : Val sort.an_expr} → IsWord word.WUnless t0 → R 18 ts1 v1 → R 82 (t0 ∷ ts1) (Some (record { is_unless = true; test = v1 }))
read_186 {t0} {ts1} {v1} i0 d1 = subst (λ z. R 82 (t0 ∷ ts1) (Some (record { is_unless = z; test = v1 }))) (ap is_unless i0.is) (raw_186 t0 (ap (λ z. class_of z) i0.is) ts1 v1 d1)
