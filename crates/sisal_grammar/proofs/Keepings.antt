-- Each production of the table keeps what is said.
use Rattle.std.proofs.Common.{◌≡◌, ℕ, zero, suc, ◌<◌, refl, subst, arith}
use Rattle.pushdown.specs.Fits.{Keeping}
use Rattle.sisal_grammar.specs.declared.action.Action.TheVariants as action
use Rattle.sisal_grammar.specs.Acts.{sisal, act}
use Rattle.sisal_grammar.specs.Language.{language}
use Rattle.sisal_grammar.specs.Plan.{plan}
use Rattle.sisal_grammar.proofs.Saying.{roles, says}
use Rattle.sisal_grammar.proofs.Keeps.{keep_0, keep_1, keep_2, keep_3, keep_4, keep_5, keep_6, keep_7, keep_8, keep_9, keep_10, keep_11, keep_12, keep_13, keep_14, keep_15, keep_16, keep_17, keep_18, keep_19, keep_20, keep_21, keep_22, keep_23, keep_24, keep_25, keep_26, keep_27, keep_28, keep_29, keep_30, keep_31, keep_32, keep_33, keep_34, keep_35, keep_36, keep_37, keep_38, keep_39, keep_40, keep_41, keep_42, keep_43, keep_44, keep_45, keep_46, keep_47, keep_48, keep_49, keep_50, keep_51, keep_52, keep_53, keep_54, keep_55, keep_56, keep_57, keep_58, keep_59, keep_60, keep_61, keep_62, keep_63, keep_64, keep_65, keep_66, keep_67, keep_68, keep_69, keep_70, keep_71, keep_72, keep_73, keep_74, keep_75, keep_76, keep_77, keep_78, keep_79, keep_80, keep_81, keep_82, keep_83, keep_84, keep_85, keep_86, keep_87, keep_88, keep_89, keep_90, keep_91, keep_92, keep_93, keep_94, keep_95, keep_96, keep_97, keep_98, keep_99, keep_100, keep_101, keep_102, keep_103, keep_104, keep_105, keep_106, keep_107, keep_108, keep_109, keep_110, keep_111, keep_112, keep_113, keep_114, keep_115, keep_116, keep_117, keep_118, keep_119, keep_120, keep_121, keep_122, keep_123, keep_124, keep_125, keep_126, keep_127, keep_128, keep_129, keep_130, keep_131, keep_132, keep_133, keep_134, keep_135, keep_136, keep_137, keep_138, keep_139, keep_140, keep_141, keep_142, keep_143, keep_144, keep_145, keep_146, keep_147, keep_148, keep_149, keep_150, keep_151, keep_152, keep_153, keep_154, keep_155, keep_156, keep_157, keep_158, keep_159, keep_160, keep_161, keep_162, keep_163, keep_164, keep_165, keep_166, keep_167, keep_168, keep_169, keep_170, keep_171, keep_172, keep_173, keep_174, keep_175, keep_176, keep_177, keep_178, keep_179, keep_180, keep_181, keep_182, keep_183, keep_184, keep_185, keep_186}

keeping_0 : Keeping language sisal roles says 0
unfolding language plan
keeping_0 = record { makes = record { made = act action.Whole; does = λ vs rest. refl }; fits = keep_0 }

keeping_1 : Keeping language sisal roles says 1
unfolding language plan
keeping_1 = record { makes = record { made = act action.NoNames; does = λ vs rest. refl }; fits = keep_1 }

keeping_2 : Keeping language sisal roles says 2
unfolding language plan
keeping_2 = record { makes = record { made = act action.MoreNames; does = λ vs rest. refl }; fits = keep_2 }

keeping_3 : Keeping language sisal roles says 3
unfolding language plan
keeping_3 = record { makes = record { made = act action.Absent; does = λ vs rest. refl }; fits = keep_3 }

keeping_4 : Keeping language sisal roles says 4
unfolding language plan
keeping_4 = record { makes = record { made = act action.Sign; does = λ vs rest. refl }; fits = keep_4 }

keeping_5 : Keeping language sisal roles says 5
unfolding language plan
keeping_5 = record { makes = record { made = act action.NoItems; does = λ vs rest. refl }; fits = keep_5 }

keeping_6 : Keeping language sisal roles says 6
unfolding language plan
keeping_6 = record { makes = record { made = act action.MoreItems; does = λ vs rest. refl }; fits = keep_6 }

keeping_7 : Keeping language sisal roles says 7
unfolding language plan
keeping_7 = record { makes = record { made = act action.Alias; does = λ vs rest. refl }; fits = keep_7 }

keeping_8 : Keeping language sisal roles says 8
unfolding language plan
keeping_8 = record { makes = record { made = act action.Forward; does = λ vs rest. refl }; fits = keep_8 }

keeping_9 : Keeping language sisal roles says 9
unfolding language plan
keeping_9 = record { makes = record { made = act action.Global; does = λ vs rest. refl }; fits = keep_9 }

keeping_10 : Keeping language sisal roles says 10
unfolding language plan
keeping_10 = record { makes = record { made = act action.Defined; does = λ vs rest. refl }; fits = keep_10 }

keeping_11 : Keeping language sisal roles says 11
unfolding language plan
keeping_11 = record { makes = record { made = act action.Basic; does = λ vs rest. refl }; fits = keep_11 }

keeping_12 : Keeping language sisal roles says 12
unfolding language plan
keeping_12 = record { makes = record { made = act action.Basic; does = λ vs rest. refl }; fits = keep_12 }

keeping_13 : Keeping language sisal roles says 13
unfolding language plan
keeping_13 = record { makes = record { made = act action.Basic; does = λ vs rest. refl }; fits = keep_13 }

keeping_14 : Keeping language sisal roles says 14
unfolding language plan
keeping_14 = record { makes = record { made = act action.Basic; does = λ vs rest. refl }; fits = keep_14 }

keeping_15 : Keeping language sisal roles says 15
unfolding language plan
keeping_15 = record { makes = record { made = act action.Basic; does = λ vs rest. refl }; fits = keep_15 }

keeping_16 : Keeping language sisal roles says 16
unfolding language plan
keeping_16 = record { makes = record { made = act action.Basic; does = λ vs rest. refl }; fits = keep_16 }

keeping_17 : Keeping language sisal roles says 17
unfolding language plan
keeping_17 = record { makes = record { made = act action.Basic; does = λ vs rest. refl }; fits = keep_17 }

keeping_18 : Keeping language sisal roles says 18
unfolding language plan
keeping_18 = record { makes = record { made = act action.Listed; does = λ vs rest. refl }; fits = keep_18 }

keeping_19 : Keeping language sisal roles says 19
unfolding language plan
keeping_19 = record { makes = record { made = act action.Listed; does = λ vs rest. refl }; fits = keep_19 }

keeping_20 : Keeping language sisal roles says 20
unfolding language plan
keeping_20 = record { makes = record { made = act action.Fielded; does = λ vs rest. refl }; fits = keep_20 }

keeping_21 : Keeping language sisal roles says 21
unfolding language plan
keeping_21 = record { makes = record { made = act action.Tagged; does = λ vs rest. refl }; fits = keep_21 }

keeping_22 : Keeping language sisal roles says 22
unfolding language plan
keeping_22 = record { makes = record { made = act action.NoFields; does = λ vs rest. refl }; fits = keep_22 }

keeping_23 : Keeping language sisal roles says 23
unfolding language plan
keeping_23 = record { makes = record { made = act action.SemiFields; does = λ vs rest. refl }; fits = keep_23 }

keeping_24 : Keeping language sisal roles says 24
unfolding language plan
keeping_24 = record { makes = record { made = act action.NoFields; does = λ vs rest. refl }; fits = keep_24 }

keeping_25 : Keeping language sisal roles says 25
unfolding language plan
keeping_25 = record { makes = record { made = act action.MoreFields; does = λ vs rest. refl }; fits = keep_25 }

keeping_26 : Keeping language sisal roles says 26
unfolding language plan
keeping_26 = record { makes = record { made = act action.OneField; does = λ vs rest. refl }; fits = keep_26 }

keeping_27 : Keeping language sisal roles says 27
unfolding language plan
keeping_27 = record { makes = record { made = act action.Absent; does = λ vs rest. refl }; fits = keep_27 }

keeping_28 : Keeping language sisal roles says 28
unfolding language plan
keeping_28 = record { makes = record { made = act action.SemiTags; does = λ vs rest. refl }; fits = keep_28 }

keeping_29 : Keeping language sisal roles says 29
unfolding language plan
keeping_29 = record { makes = record { made = act action.Absent; does = λ vs rest. refl }; fits = keep_29 }

keeping_30 : Keeping language sisal roles says 30
unfolding language plan
keeping_30 = record { makes = record { made = act action.MoreTags; does = λ vs rest. refl }; fits = keep_30 }

keeping_31 : Keeping language sisal roles says 31
unfolding language plan
keeping_31 = record { makes = record { made = act action.OneTag; does = λ vs rest. refl }; fits = keep_31 }

keeping_32 : Keeping language sisal roles says 32
unfolding language plan
keeping_32 = record { makes = record { made = act action.Absent; does = λ vs rest. refl }; fits = keep_32 }

keeping_33 : Keeping language sisal roles says 33
unfolding language plan
keeping_33 = record { makes = record { made = act action.TypedTag; does = λ vs rest. refl }; fits = keep_33 }

keeping_34 : Keeping language sisal roles says 34
unfolding language plan
keeping_34 = record { makes = record { made = act action.OneHeader; does = λ vs rest. refl }; fits = keep_34 }

keeping_35 : Keeping language sisal roles says 35
unfolding language plan
keeping_35 = record { makes = record { made = act action.NoTypes; does = λ vs rest. refl }; fits = keep_35 }

keeping_36 : Keeping language sisal roles says 36
unfolding language plan
keeping_36 = record { makes = record { made = act action.MoreTypes; does = λ vs rest. refl }; fits = keep_36 }

keeping_37 : Keeping language sisal roles says 37
unfolding language plan
keeping_37 = record { makes = record { made = act action.Exprs; does = λ vs rest. refl }; fits = keep_37 }

keeping_38 : Keeping language sisal roles says 38
unfolding language plan
keeping_38 = record { makes = record { made = act action.NoExprs; does = λ vs rest. refl }; fits = keep_38 }

keeping_39 : Keeping language sisal roles says 39
unfolding language plan
keeping_39 = record { makes = record { made = act action.MoreExprs; does = λ vs rest. refl }; fits = keep_39 }

keeping_40 : Keeping language sisal roles says 40
unfolding language plan
keeping_40 = record { makes = record { made = act action.NoExprs; does = λ vs rest. refl }; fits = keep_40 }

keeping_41 : Keeping language sisal roles says 41
unfolding language plan
keeping_41 = record { makes = record { made = act action.SameExprs; does = λ vs rest. refl }; fits = keep_41 }

keeping_42 : Keeping language sisal roles says 42
unfolding language plan
keeping_42 = record { makes = record { made = act action.Chain; does = λ vs rest. refl }; fits = keep_42 }

keeping_43 : Keeping language sisal roles says 43
unfolding language plan
keeping_43 = record { makes = record { made = act action.NoTail; does = λ vs rest. refl }; fits = keep_43 }

keeping_44 : Keeping language sisal roles says 44
unfolding language plan
keeping_44 = record { makes = record { made = act action.MoreTail; does = λ vs rest. refl }; fits = keep_44 }

keeping_45 : Keeping language sisal roles says 45
unfolding language plan
keeping_45 = record { makes = record { made = act action.Chain; does = λ vs rest. refl }; fits = keep_45 }

keeping_46 : Keeping language sisal roles says 46
unfolding language plan
keeping_46 = record { makes = record { made = act action.NoTail; does = λ vs rest. refl }; fits = keep_46 }

keeping_47 : Keeping language sisal roles says 47
unfolding language plan
keeping_47 = record { makes = record { made = act action.MoreTail; does = λ vs rest. refl }; fits = keep_47 }

keeping_48 : Keeping language sisal roles says 48
unfolding language plan
keeping_48 = record { makes = record { made = act action.Prefix; does = λ vs rest. refl }; fits = keep_48 }

keeping_49 : Keeping language sisal roles says 49
unfolding language plan
keeping_49 = record { makes = record { made = act action.SameExpr; does = λ vs rest. refl }; fits = keep_49 }

keeping_50 : Keeping language sisal roles says 50
unfolding language plan
keeping_50 = record { makes = record { made = act action.Chain; does = λ vs rest. refl }; fits = keep_50 }

keeping_51 : Keeping language sisal roles says 51
unfolding language plan
keeping_51 = record { makes = record { made = act action.NoTail; does = λ vs rest. refl }; fits = keep_51 }

keeping_52 : Keeping language sisal roles says 52
unfolding language plan
keeping_52 = record { makes = record { made = act action.OneTail; does = λ vs rest. refl }; fits = keep_52 }

keeping_53 : Keeping language sisal roles says 53
unfolding language plan
keeping_53 = record { makes = record { made = act action.OneTail; does = λ vs rest. refl }; fits = keep_53 }

keeping_54 : Keeping language sisal roles says 54
unfolding language plan
keeping_54 = record { makes = record { made = act action.OneTail; does = λ vs rest. refl }; fits = keep_54 }

keeping_55 : Keeping language sisal roles says 55
unfolding language plan
keeping_55 = record { makes = record { made = act action.OneTail; does = λ vs rest. refl }; fits = keep_55 }

keeping_56 : Keeping language sisal roles says 56
unfolding language plan
keeping_56 = record { makes = record { made = act action.OneTail; does = λ vs rest. refl }; fits = keep_56 }

keeping_57 : Keeping language sisal roles says 57
unfolding language plan
keeping_57 = record { makes = record { made = act action.OneTail; does = λ vs rest. refl }; fits = keep_57 }

keeping_58 : Keeping language sisal roles says 58
unfolding language plan
keeping_58 = record { makes = record { made = act action.Chain; does = λ vs rest. refl }; fits = keep_58 }

keeping_59 : Keeping language sisal roles says 59
unfolding language plan
keeping_59 = record { makes = record { made = act action.NoTail; does = λ vs rest. refl }; fits = keep_59 }

keeping_60 : Keeping language sisal roles says 60
unfolding language plan
keeping_60 = record { makes = record { made = act action.MoreTail; does = λ vs rest. refl }; fits = keep_60 }

keeping_61 : Keeping language sisal roles says 61
unfolding language plan
keeping_61 = record { makes = record { made = act action.Chain; does = λ vs rest. refl }; fits = keep_61 }

keeping_62 : Keeping language sisal roles says 62
unfolding language plan
keeping_62 = record { makes = record { made = act action.NoTail; does = λ vs rest. refl }; fits = keep_62 }

keeping_63 : Keeping language sisal roles says 63
unfolding language plan
keeping_63 = record { makes = record { made = act action.MoreTail; does = λ vs rest. refl }; fits = keep_63 }

keeping_64 : Keeping language sisal roles says 64
unfolding language plan
keeping_64 = record { makes = record { made = act action.MoreTail; does = λ vs rest. refl }; fits = keep_64 }

keeping_65 : Keeping language sisal roles says 65
unfolding language plan
keeping_65 = record { makes = record { made = act action.Chain; does = λ vs rest. refl }; fits = keep_65 }

keeping_66 : Keeping language sisal roles says 66
unfolding language plan
keeping_66 = record { makes = record { made = act action.NoTail; does = λ vs rest. refl }; fits = keep_66 }

keeping_67 : Keeping language sisal roles says 67
unfolding language plan
keeping_67 = record { makes = record { made = act action.MoreTail; does = λ vs rest. refl }; fits = keep_67 }

keeping_68 : Keeping language sisal roles says 68
unfolding language plan
keeping_68 = record { makes = record { made = act action.MoreTail; does = λ vs rest. refl }; fits = keep_68 }

keeping_69 : Keeping language sisal roles says 69
unfolding language plan
keeping_69 = record { makes = record { made = act action.Prefix; does = λ vs rest. refl }; fits = keep_69 }

keeping_70 : Keeping language sisal roles says 70
unfolding language plan
keeping_70 = record { makes = record { made = act action.SameExpr; does = λ vs rest. refl }; fits = keep_70 }

keeping_71 : Keeping language sisal roles says 71
unfolding language plan
keeping_71 = record { makes = record { made = act action.Posted; does = λ vs rest. refl }; fits = keep_71 }

keeping_72 : Keeping language sisal roles says 72
unfolding language plan
keeping_72 = record { makes = record { made = act action.NoPosts; does = λ vs rest. refl }; fits = keep_72 }

keeping_73 : Keeping language sisal roles says 73
unfolding language plan
keeping_73 = record { makes = record { made = act action.MorePosts; does = λ vs rest. refl }; fits = keep_73 }

keeping_74 : Keeping language sisal roles says 74
unfolding language plan
keeping_74 = record { makes = record { made = act action.Bracket; does = λ vs rest. refl }; fits = keep_74 }

keeping_75 : Keeping language sisal roles says 75
unfolding language plan
keeping_75 = record { makes = record { made = act action.Dot; does = λ vs rest. refl }; fits = keep_75 }

keeping_76 : Keeping language sisal roles says 76
unfolding language plan
keeping_76 = record { makes = record { made = act action.Replaced; does = λ vs rest. refl }; fits = keep_76 }

keeping_77 : Keeping language sisal roles says 77
unfolding language plan
keeping_77 = record { makes = record { made = act action.CloseBracket; does = λ vs rest. refl }; fits = keep_77 }

keeping_78 : Keeping language sisal roles says 78
unfolding language plan
keeping_78 = record { makes = record { made = act action.MoreBracket; does = λ vs rest. refl }; fits = keep_78 }

keeping_79 : Keeping language sisal roles says 79
unfolding language plan
keeping_79 = record { makes = record { made = act action.ColonBracket; does = λ vs rest. refl }; fits = keep_79 }

keeping_80 : Keeping language sisal roles says 80
unfolding language plan
keeping_80 = record { makes = record { made = act action.OneValue; does = λ vs rest. refl }; fits = keep_80 }

keeping_81 : Keeping language sisal roles says 81
unfolding language plan
keeping_81 = record { makes = record { made = act action.NoValues; does = λ vs rest. refl }; fits = keep_81 }

keeping_82 : Keeping language sisal roles says 82
unfolding language plan
keeping_82 = record { makes = record { made = act action.SemiValues; does = λ vs rest. refl }; fits = keep_82 }

keeping_83 : Keeping language sisal roles says 83
unfolding language plan
keeping_83 = record { makes = record { made = act action.NoValues; does = λ vs rest. refl }; fits = keep_83 }

keeping_84 : Keeping language sisal roles says 84
unfolding language plan
keeping_84 = record { makes = record { made = act action.MoreValues; does = λ vs rest. refl }; fits = keep_84 }

keeping_85 : Keeping language sisal roles says 85
unfolding language plan
keeping_85 = record { makes = record { made = act action.NameOrCall; does = λ vs rest. refl }; fits = keep_85 }

keeping_86 : Keeping language sisal roles says 86
unfolding language plan
keeping_86 = record { makes = record { made = act action.SameExpr; does = λ vs rest. refl }; fits = keep_86 }

keeping_87 : Keeping language sisal roles says 87
unfolding language plan
keeping_87 = record { makes = record { made = act action.NoCall; does = λ vs rest. refl }; fits = keep_87 }

keeping_88 : Keeping language sisal roles says 88
unfolding language plan
keeping_88 = record { makes = record { made = act action.Call; does = λ vs rest. refl }; fits = keep_88 }

keeping_89 : Keeping language sisal roles says 89
unfolding language plan
keeping_89 = record { makes = record { made = act action.Literal; does = λ vs rest. refl }; fits = keep_89 }

keeping_90 : Keeping language sisal roles says 90
unfolding language plan
keeping_90 = record { makes = record { made = act action.Literal; does = λ vs rest. refl }; fits = keep_90 }

keeping_91 : Keeping language sisal roles says 91
unfolding language plan
keeping_91 = record { makes = record { made = act action.Literal; does = λ vs rest. refl }; fits = keep_91 }

keeping_92 : Keeping language sisal roles says 92
unfolding language plan
keeping_92 = record { makes = record { made = act action.Literal; does = λ vs rest. refl }; fits = keep_92 }

keeping_93 : Keeping language sisal roles says 93
unfolding language plan
keeping_93 = record { makes = record { made = act action.Literal; does = λ vs rest. refl }; fits = keep_93 }

keeping_94 : Keeping language sisal roles says 94
unfolding language plan
keeping_94 = record { makes = record { made = act action.Literal; does = λ vs rest. refl }; fits = keep_94 }

keeping_95 : Keeping language sisal roles says 95
unfolding language plan
keeping_95 = record { makes = record { made = act action.Old; does = λ vs rest. refl }; fits = keep_95 }

keeping_96 : Keeping language sisal roles says 96
unfolding language plan
keeping_96 = record { makes = record { made = act action.Convert; does = λ vs rest. refl }; fits = keep_96 }

keeping_97 : Keeping language sisal roles says 97
unfolding language plan
keeping_97 = record { makes = record { made = act action.Convert; does = λ vs rest. refl }; fits = keep_97 }

keeping_98 : Keeping language sisal roles says 98
unfolding language plan
keeping_98 = record { makes = record { made = act action.Convert; does = λ vs rest. refl }; fits = keep_98 }

keeping_99 : Keeping language sisal roles says 99
unfolding language plan
keeping_99 = record { makes = record { made = act action.Group; does = λ vs rest. refl }; fits = keep_99 }

keeping_100 : Keeping language sisal roles says 100
unfolding language plan
keeping_100 = record { makes = record { made = act action.ErrorOf; does = λ vs rest. refl }; fits = keep_100 }

keeping_101 : Keeping language sisal roles says 101
unfolding language plan
keeping_101 = record { makes = record { made = act action.Is; does = λ vs rest. refl }; fits = keep_101 }

keeping_102 : Keeping language sisal roles says 102
unfolding language plan
keeping_102 = record { makes = record { made = act action.Array; does = λ vs rest. refl }; fits = keep_102 }

keeping_103 : Keeping language sisal roles says 103
unfolding language plan
keeping_103 = record { makes = record { made = act action.Stream; does = λ vs rest. refl }; fits = keep_103 }

keeping_104 : Keeping language sisal roles says 104
unfolding language plan
keeping_104 = record { makes = record { made = act action.Record; does = λ vs rest. refl }; fits = keep_104 }

keeping_105 : Keeping language sisal roles says 105
unfolding language plan
keeping_105 = record { makes = record { made = act action.Union; does = λ vs rest. refl }; fits = keep_105 }

keeping_106 : Keeping language sisal roles says 106
unfolding language plan
keeping_106 = record { makes = record { made = act action.Let; does = λ vs rest. refl }; fits = keep_106 }

keeping_107 : Keeping language sisal roles says 107
unfolding language plan
keeping_107 = record { makes = record { made = act action.If; does = λ vs rest. refl }; fits = keep_107 }

keeping_108 : Keeping language sisal roles says 108
unfolding language plan
keeping_108 = record { makes = record { made = act action.Case; does = λ vs rest. refl }; fits = keep_108 }

keeping_109 : Keeping language sisal roles says 109
unfolding language plan
keeping_109 = record { makes = record { made = act action.For; does = λ vs rest. refl }; fits = keep_109 }

keeping_110 : Keeping language sisal roles says 110
unfolding language plan
keeping_110 = record { makes = record { made = act action.WordName; does = λ vs rest. refl }; fits = keep_110 }

keeping_111 : Keeping language sisal roles says 111
unfolding language plan
keeping_111 = record { makes = record { made = act action.AName; does = λ vs rest. refl }; fits = keep_111 }

keeping_112 : Keeping language sisal roles says 112
unfolding language plan
keeping_112 = record { makes = record { made = act action.NoName; does = λ vs rest. refl }; fits = keep_112 }

keeping_113 : Keeping language sisal roles says 113
unfolding language plan
keeping_113 = record { makes = record { made = act action.AName; does = λ vs rest. refl }; fits = keep_113 }

keeping_114 : Keeping language sisal roles says 114
unfolding language plan
keeping_114 = record { makes = record { made = act action.NoElements; does = λ vs rest. refl }; fits = keep_114 }

keeping_115 : Keeping language sisal roles says 115
unfolding language plan
keeping_115 = record { makes = record { made = act action.SomeElements; does = λ vs rest. refl }; fits = keep_115 }

keeping_116 : Keeping language sisal roles says 116
unfolding language plan
keeping_116 = record { makes = record { made = act action.NoExpr; does = λ vs rest. refl }; fits = keep_116 }

keeping_117 : Keeping language sisal roles says 117
unfolding language plan
keeping_117 = record { makes = record { made = act action.SomeExpr; does = λ vs rest. refl }; fits = keep_117 }

keeping_118 : Keeping language sisal roles says 118
unfolding language plan
keeping_118 = record { makes = record { made = act action.ElseIf; does = λ vs rest. refl }; fits = keep_118 }

keeping_119 : Keeping language sisal roles says 119
unfolding language plan
keeping_119 = record { makes = record { made = act action.Else; does = λ vs rest. refl }; fits = keep_119 }

keeping_120 : Keeping language sisal roles says 120
unfolding language plan
keeping_120 = record { makes = record { made = act action.NameSubject; does = λ vs rest. refl }; fits = keep_120 }

keeping_121 : Keeping language sisal roles says 121
unfolding language plan
keeping_121 = record { makes = record { made = act action.OtherSubject; does = λ vs rest. refl }; fits = keep_121 }

keeping_122 : Keeping language sisal roles says 122
unfolding language plan
keeping_122 = record { makes = record { made = act action.Bound; does = λ vs rest. refl }; fits = keep_122 }

keeping_123 : Keeping language sisal roles says 123
unfolding language plan
keeping_123 = record { makes = record { made = act action.Rest; does = λ vs rest. refl }; fits = keep_123 }

keeping_124 : Keeping language sisal roles says 124
unfolding language plan
keeping_124 = record { makes = record { made = act action.Chain; does = λ vs rest. refl }; fits = keep_124 }

keeping_125 : Keeping language sisal roles says 125
unfolding language plan
keeping_125 = record { makes = record { made = act action.Chain; does = λ vs rest. refl }; fits = keep_125 }

keeping_126 : Keeping language sisal roles says 126
unfolding language plan
keeping_126 = record { makes = record { made = act action.Prefix; does = λ vs rest. refl }; fits = keep_126 }

keeping_127 : Keeping language sisal roles says 127
unfolding language plan
keeping_127 = record { makes = record { made = act action.SameExpr; does = λ vs rest. refl }; fits = keep_127 }

keeping_128 : Keeping language sisal roles says 128
unfolding language plan
keeping_128 = record { makes = record { made = act action.Chain; does = λ vs rest. refl }; fits = keep_128 }

keeping_129 : Keeping language sisal roles says 129
unfolding language plan
keeping_129 = record { makes = record { made = act action.Chain; does = λ vs rest. refl }; fits = keep_129 }

keeping_130 : Keeping language sisal roles says 130
unfolding language plan
keeping_130 = record { makes = record { made = act action.Chain; does = λ vs rest. refl }; fits = keep_130 }

keeping_131 : Keeping language sisal roles says 131
unfolding language plan
keeping_131 = record { makes = record { made = act action.Chain; does = λ vs rest. refl }; fits = keep_131 }

keeping_132 : Keeping language sisal roles says 132
unfolding language plan
keeping_132 = record { makes = record { made = act action.Prefix; does = λ vs rest. refl }; fits = keep_132 }

keeping_133 : Keeping language sisal roles says 133
unfolding language plan
keeping_133 = record { makes = record { made = act action.SameExpr; does = λ vs rest. refl }; fits = keep_133 }

keeping_134 : Keeping language sisal roles says 134
unfolding language plan
keeping_134 = record { makes = record { made = act action.Posted; does = λ vs rest. refl }; fits = keep_134 }

keeping_135 : Keeping language sisal roles says 135
unfolding language plan
keeping_135 = record { makes = record { made = act action.NoArms; does = λ vs rest. refl }; fits = keep_135 }

keeping_136 : Keeping language sisal roles says 136
unfolding language plan
keeping_136 = record { makes = record { made = act action.MoreArms; does = λ vs rest. refl }; fits = keep_136 }

keeping_137 : Keeping language sisal roles says 137
unfolding language plan
keeping_137 = record { makes = record { made = act action.OneArm; does = λ vs rest. refl }; fits = keep_137 }

keeping_138 : Keeping language sisal roles says 138
unfolding language plan
keeping_138 = record { makes = record { made = act action.NoCall; does = λ vs rest. refl }; fits = keep_138 }

keeping_139 : Keeping language sisal roles says 139
unfolding language plan
keeping_139 = record { makes = record { made = act action.Otherwise; does = λ vs rest. refl }; fits = keep_139 }

keeping_140 : Keeping language sisal roles says 140
unfolding language plan
keeping_140 = record { makes = record { made = act action.Product; does = λ vs rest. refl }; fits = keep_140 }

keeping_141 : Keeping language sisal roles says 141
unfolding language plan
keeping_141 = record { makes = record { made = act action.Initial; does = λ vs rest. refl }; fits = keep_141 }

keeping_142 : Keeping language sisal roles says 142
unfolding language plan
keeping_142 = record { makes = record { made = act action.NoGroups; does = λ vs rest. refl }; fits = keep_142 }

keeping_143 : Keeping language sisal roles says 143
unfolding language plan
keeping_143 = record { makes = record { made = act action.MoreGroups; does = λ vs rest. refl }; fits = keep_143 }

keeping_144 : Keeping language sisal roles says 144
unfolding language plan
keeping_144 = record { makes = record { made = act action.Gens; does = λ vs rest. refl }; fits = keep_144 }

keeping_145 : Keeping language sisal roles says 145
unfolding language plan
keeping_145 = record { makes = record { made = act action.NoGens; does = λ vs rest. refl }; fits = keep_145 }

keeping_146 : Keeping language sisal roles says 146
unfolding language plan
keeping_146 = record { makes = record { made = act action.MoreGens; does = λ vs rest. refl }; fits = keep_146 }

keeping_147 : Keeping language sisal roles says 147
unfolding language plan
keeping_147 = record { makes = record { made = act action.OneGen; does = λ vs rest. refl }; fits = keep_147 }

keeping_148 : Keeping language sisal roles says 148
unfolding language plan
keeping_148 = record { makes = record { made = act action.NoExpr; does = λ vs rest. refl }; fits = keep_148 }

keeping_149 : Keeping language sisal roles says 149
unfolding language plan
keeping_149 = record { makes = record { made = act action.SomeExpr; does = λ vs rest. refl }; fits = keep_149 }

keeping_150 : Keeping language sisal roles says 150
unfolding language plan
keeping_150 = record { makes = record { made = act action.NoName; does = λ vs rest. refl }; fits = keep_150 }

keeping_151 : Keeping language sisal roles says 151
unfolding language plan
keeping_151 = record { makes = record { made = act action.AtName; does = λ vs rest. refl }; fits = keep_151 }

keeping_152 : Keeping language sisal roles says 152
unfolding language plan
keeping_152 = record { makes = record { made = act action.NoDefs; does = λ vs rest. refl }; fits = keep_152 }

keeping_153 : Keeping language sisal roles says 153
unfolding language plan
keeping_153 = record { makes = record { made = act action.SameDefs; does = λ vs rest. refl }; fits = keep_153 }

keeping_154 : Keeping language sisal roles says 154
unfolding language plan
keeping_154 = record { makes = record { made = act action.Defs; does = λ vs rest. refl }; fits = keep_154 }

keeping_155 : Keeping language sisal roles says 155
unfolding language plan
keeping_155 = record { makes = record { made = act action.NoDefs; does = λ vs rest. refl }; fits = keep_155 }

keeping_156 : Keeping language sisal roles says 156
unfolding language plan
keeping_156 = record { makes = record { made = act action.SemiDefs; does = λ vs rest. refl }; fits = keep_156 }

keeping_157 : Keeping language sisal roles says 157
unfolding language plan
keeping_157 = record { makes = record { made = act action.NoDefs; does = λ vs rest. refl }; fits = keep_157 }

keeping_158 : Keeping language sisal roles says 158
unfolding language plan
keeping_158 = record { makes = record { made = act action.Defs; does = λ vs rest. refl }; fits = keep_158 }

keeping_159 : Keeping language sisal roles says 159
unfolding language plan
keeping_159 = record { makes = record { made = act action.OneDef; does = λ vs rest. refl }; fits = keep_159 }

keeping_160 : Keeping language sisal roles says 160
unfolding language plan
keeping_160 = record { makes = record { made = act action.NoTargets; does = λ vs rest. refl }; fits = keep_160 }

keeping_161 : Keeping language sisal roles says 161
unfolding language plan
keeping_161 = record { makes = record { made = act action.MoreTargets; does = λ vs rest. refl }; fits = keep_161 }

keeping_162 : Keeping language sisal roles says 162
unfolding language plan
keeping_162 = record { makes = record { made = act action.OneTarget; does = λ vs rest. refl }; fits = keep_162 }

keeping_163 : Keeping language sisal roles says 163
unfolding language plan
keeping_163 = record { makes = record { made = act action.NoType; does = λ vs rest. refl }; fits = keep_163 }

keeping_164 : Keeping language sisal roles says 164
unfolding language plan
keeping_164 = record { makes = record { made = act action.SomeType; does = λ vs rest. refl }; fits = keep_164 }

keeping_165 : Keeping language sisal roles says 165
unfolding language plan
keeping_165 = record { makes = record { made = act action.TestFirst; does = λ vs rest. refl }; fits = keep_165 }

keeping_166 : Keeping language sisal roles says 166
unfolding language plan
keeping_166 = record { makes = record { made = act action.TestLast; does = λ vs rest. refl }; fits = keep_166 }

keeping_167 : Keeping language sisal roles says 167
unfolding language plan
keeping_167 = record { makes = record { made = act action.OneTest; does = λ vs rest. refl }; fits = keep_167 }

keeping_168 : Keeping language sisal roles says 168
unfolding language plan
keeping_168 = record { makes = record { made = act action.OneTest; does = λ vs rest. refl }; fits = keep_168 }

keeping_169 : Keeping language sisal roles says 169
unfolding language plan
keeping_169 = record { makes = record { made = act action.NoClauses; does = λ vs rest. refl }; fits = keep_169 }

keeping_170 : Keeping language sisal roles says 170
unfolding language plan
keeping_170 = record { makes = record { made = act action.MoreClauses; does = λ vs rest. refl }; fits = keep_170 }

keeping_171 : Keeping language sisal roles says 171
unfolding language plan
keeping_171 = record { makes = record { made = act action.Gathered; does = λ vs rest. refl }; fits = keep_171 }

keeping_172 : Keeping language sisal roles says 172
unfolding language plan
keeping_172 = record { makes = record { made = act action.Gathered; does = λ vs rest. refl }; fits = keep_172 }

keeping_173 : Keeping language sisal roles says 173
unfolding language plan
keeping_173 = record { makes = record { made = act action.Valued; does = λ vs rest. refl }; fits = keep_173 }

keeping_174 : Keeping language sisal roles says 174
unfolding language plan
keeping_174 = record { makes = record { made = act action.NoFold; does = λ vs rest. refl }; fits = keep_174 }

keeping_175 : Keeping language sisal roles says 175
unfolding language plan
keeping_175 = record { makes = record { made = act action.PlainFold; does = λ vs rest. refl }; fits = keep_175 }

keeping_176 : Keeping language sisal roles says 176
unfolding language plan
keeping_176 = record { makes = record { made = act action.Directed; does = λ vs rest. refl }; fits = keep_176 }

keeping_177 : Keeping language sisal roles says 177
unfolding language plan
keeping_177 = record { makes = record { made = act action.Directed; does = λ vs rest. refl }; fits = keep_177 }

keeping_178 : Keeping language sisal roles says 178
unfolding language plan
keeping_178 = record { makes = record { made = act action.Directed; does = λ vs rest. refl }; fits = keep_178 }

keeping_179 : Keeping language sisal roles says 179
unfolding language plan
keeping_179 = record { makes = record { made = act action.Reduced; does = λ vs rest. refl }; fits = keep_179 }

keeping_180 : Keeping language sisal roles says 180
unfolding language plan
keeping_180 = record { makes = record { made = act action.Reduced; does = λ vs rest. refl }; fits = keep_180 }

keeping_181 : Keeping language sisal roles says 181
unfolding language plan
keeping_181 = record { makes = record { made = act action.Reduced; does = λ vs rest. refl }; fits = keep_181 }

keeping_182 : Keeping language sisal roles says 182
unfolding language plan
keeping_182 = record { makes = record { made = act action.Reduced; does = λ vs rest. refl }; fits = keep_182 }

keeping_183 : Keeping language sisal roles says 183
unfolding language plan
keeping_183 = record { makes = record { made = act action.Reduced; does = λ vs rest. refl }; fits = keep_183 }

keeping_184 : Keeping language sisal roles says 184
unfolding language plan
keeping_184 = record { makes = record { made = act action.NoMask; does = λ vs rest. refl }; fits = keep_184 }

keeping_185 : Keeping language sisal roles says 185
unfolding language plan
keeping_185 = record { makes = record { made = act action.SomeMask; does = λ vs rest. refl }; fits = keep_185 }

keeping_186 : Keeping language sisal roles says 186
unfolding language plan
keeping_186 = record { makes = record { made = act action.SomeMask; does = λ vs rest. refl }; fits = keep_186 }

-- what holds of each number below n
abbrev pub EachBelow : ℕ → (ℕ → Type 0) → Type 0
EachBelow zero P = Unit {0}
EachBelow (suc n) P = P 0 × EachBelow n (λ k. P (suc k))

pub each_at : (n : ℕ) (P : ℕ → Type 0) → EachBelow n P → (p : ℕ) → p < n → P p
each_at zero P e p lt = absurd (omega (arith, lt))
each_at (suc n) P e zero lt = e.0
each_at (suc n) P e (suc p) lt = each_at n (λ k. P (suc k)) e.1 p (omega (arith, lt))

keeping_each : EachBelow 187 (Keeping language sisal roles says)
keeping_each = (keeping_0, (keeping_1, (keeping_2, (keeping_3, (keeping_4, (keeping_5, (keeping_6, (keeping_7, (keeping_8, (keeping_9, (keeping_10, (keeping_11, (keeping_12, (keeping_13, (keeping_14, (keeping_15, (keeping_16, (keeping_17, (keeping_18, (keeping_19, (keeping_20, (keeping_21, (keeping_22, (keeping_23, (keeping_24, (keeping_25, (keeping_26, (keeping_27, (keeping_28, (keeping_29, (keeping_30, (keeping_31, (keeping_32, (keeping_33, (keeping_34, (keeping_35, (keeping_36, (keeping_37, (keeping_38, (keeping_39, (keeping_40, (keeping_41, (keeping_42, (keeping_43, (keeping_44, (keeping_45, (keeping_46, (keeping_47, (keeping_48, (keeping_49, (keeping_50, (keeping_51, (keeping_52, (keeping_53, (keeping_54, (keeping_55, (keeping_56, (keeping_57, (keeping_58, (keeping_59, (keeping_60, (keeping_61, (keeping_62, (keeping_63, (keeping_64, (keeping_65, (keeping_66, (keeping_67, (keeping_68, (keeping_69, (keeping_70, (keeping_71, (keeping_72, (keeping_73, (keeping_74, (keeping_75, (keeping_76, (keeping_77, (keeping_78, (keeping_79, (keeping_80, (keeping_81, (keeping_82, (keeping_83, (keeping_84, (keeping_85, (keeping_86, (keeping_87, (keeping_88, (keeping_89, (keeping_90, (keeping_91, (keeping_92, (keeping_93, (keeping_94, (keeping_95, (keeping_96, (keeping_97, (keeping_98, (keeping_99, (keeping_100, (keeping_101, (keeping_102, (keeping_103, (keeping_104, (keeping_105, (keeping_106, (keeping_107, (keeping_108, (keeping_109, (keeping_110, (keeping_111, (keeping_112, (keeping_113, (keeping_114, (keeping_115, (keeping_116, (keeping_117, (keeping_118, (keeping_119, (keeping_120, (keeping_121, (keeping_122, (keeping_123, (keeping_124, (keeping_125, (keeping_126, (keeping_127, (keeping_128, (keeping_129, (keeping_130, (keeping_131, (keeping_132, (keeping_133, (keeping_134, (keeping_135, (keeping_136, (keeping_137, (keeping_138, (keeping_139, (keeping_140, (keeping_141, (keeping_142, (keeping_143, (keeping_144, (keeping_145, (keeping_146, (keeping_147, (keeping_148, (keeping_149, (keeping_150, (keeping_151, (keeping_152, (keeping_153, (keeping_154, (keeping_155, (keeping_156, (keeping_157, (keeping_158, (keeping_159, (keeping_160, (keeping_161, (keeping_162, (keeping_163, (keeping_164, (keeping_165, (keeping_166, (keeping_167, (keeping_168, (keeping_169, (keeping_170, (keeping_171, (keeping_172, (keeping_173, (keeping_174, (keeping_175, (keeping_176, (keeping_177, (keeping_178, (keeping_179, (keeping_180, (keeping_181, (keeping_182, (keeping_183, (keeping_184, (keeping_185, (keeping_186, tt)))))))))))))))))))))))))))))))))))))))))))))))))))))))))))))))))))))))))))))))))))))))))))))))))))))))))))))))))))))))))))))))))))))))))))))))))))))))))))))))))))))))))))))))))))))))))))

pub productions_are : language.productions ≡ 187
unfolding language
productions_are = refl

pub keeping : (p : ℕ) → p < language.productions → Keeping language sisal roles says p
keeping p lt = each_at 187 (Keeping language sisal roles says) keeping_each p (subst (λ n. p < n) productions_are lt)
