-- What each production of the table derives, of what its symbols derive.
use Rattle.std.proofs.Common.{◌≡◌, ℕ, ◌<◌, List, [], ◌∷◌, ◌++◌, refl, sym, subst, arith}
use Rattle.pushdown.specs.Fits.{Reads}
use Rattle.pushdown.proofs.Fits.{reads}
use Rattle.sisal_grammar.specs.declared.action.Action.TheVariants as action
use Rattle.sisal_grammar.specs.Language.{language}
use Rattle.sisal_grammar.specs.Plan.{plan}
use Rattle.sisal_grammar.proofs.Keepings.{productions_are}
use Rattle.sisal_grammar.specs.declared.value.Placed.{Placed}
use Rattle.sisal_grammar.specs.Acts.{sisal, act}
use Rattle.sisal_grammar.specs.Classes.{class_of}
use Rattle.sisal_grammar.specs.Sorts.{Val}
use Rattle.sisal_grammar.specs.Sorts as sort
use Rattle.sisal_grammar.proofs.Saying.{roles}

-- the rule derives these tokens with this value, whatever follows
abbrev pub R : (n : ℕ) → List Placed → Val (roles.kind n) → Type 0
R n ts v = Reads language sisal roles n ts v

below : (p : ℕ) → p < 187 → p < language.productions
below p lt = subst (λ n. p < n) (sym productions_are) lt

-- unit = "define" @name names semi items
pub raw_0 : (t0 : Placed) → class_of t0.kind ≡ 1 → (t1 : Placed) → class_of t1.kind ≡ 2 → (ts2 : List Placed) (v2 : Val sort.names) → R 1 ts2 v2 → (ts3 : List Placed) (v3 : Val sort.nothing) → R 2 ts3 v3 → (ts4 : List Placed) (v4 : Val sort.items) → R 3 ts4 v4 → R 0 (t0 ∷ (t1 ∷ (ts2 ++ (ts3 ++ (ts4))))) (act action.Whole (t0, (t1, (v2, (v3, (v4, tt))))))
unfolding language plan
raw_0 = reads language sisal roles 0 (below 0 (omega arith)) (record { made = act action.Whole; does = λ vs rest. refl })

-- names
pub raw_1 : R 1 [] (act action.NoNames tt)
unfolding language plan
raw_1 = reads language sisal roles 1 (below 1 (omega arith)) (record { made = act action.NoNames; does = λ vs rest. refl })

-- names = "," @name names
pub raw_2 : (t0 : Placed) → class_of t0.kind ≡ 3 → (t1 : Placed) → class_of t1.kind ≡ 2 → (ts2 : List Placed) (v2 : Val sort.names) → R 1 ts2 v2 → R 1 (t0 ∷ t1 ∷ ts2) (act action.MoreNames (t0, (t1, (v2, tt))))
unfolding language plan
raw_2 = reads language sisal roles 2 (below 2 (omega arith)) (record { made = act action.MoreNames; does = λ vs rest. refl })

-- semi
pub raw_3 : R 2 [] (act action.Absent tt)
unfolding language plan
raw_3 = reads language sisal roles 3 (below 3 (omega arith)) (record { made = act action.Absent; does = λ vs rest. refl })

-- semi = ";"
pub raw_4 : (t0 : Placed) → class_of t0.kind ≡ 4 → R 2 (t0 ∷ []) (act action.Sign (t0, tt))
unfolding language plan
raw_4 = reads language sisal roles 4 (below 4 (omega arith)) (record { made = act action.Sign; does = λ vs rest. refl })

-- items
pub raw_5 : R 3 [] (act action.NoItems tt)
unfolding language plan
raw_5 = reads language sisal roles 5 (below 5 (omega arith)) (record { made = act action.NoItems; does = λ vs rest. refl })

-- items = item items
pub raw_6 : (ts0 : List Placed) (v0 : Val sort.an_item) → R 4 ts0 v0 → (ts1 : List Placed) (v1 : Val sort.items) → R 3 ts1 v1 → R 3 (ts0 ++ (ts1)) (act action.MoreItems (v0, (v1, tt)))
unfolding language plan
raw_6 = reads language sisal roles 6 (below 6 (omega arith)) (record { made = act action.MoreItems; does = λ vs rest. refl })

-- item = "type" @name "=" type semi
pub raw_7 : (t0 : Placed) → class_of t0.kind ≡ 5 → (t1 : Placed) → class_of t1.kind ≡ 2 → (t2 : Placed) → class_of t2.kind ≡ 6 → (ts3 : List Placed) (v3 : Val sort.a_type) → R 5 ts3 v3 → (ts4 : List Placed) (v4 : Val sort.nothing) → R 2 ts4 v4 → R 4 (t0 ∷ (t1 ∷ (t2 ∷ (ts3 ++ (ts4))))) (act action.Alias (t0, (t1, (t2, (v3, (v4, tt))))))
unfolding language plan
raw_7 = reads language sisal roles 7 (below 7 (omega arith)) (record { made = act action.Alias; does = λ vs rest. refl })

-- item = "forward" "function" header semi
pub raw_8 : (t0 : Placed) → class_of t0.kind ≡ 7 → (t1 : Placed) → class_of t1.kind ≡ 8 → (ts2 : List Placed) (v2 : Val sort.a_header) → R 13 ts2 v2 → (ts3 : List Placed) (v3 : Val sort.nothing) → R 2 ts3 v3 → R 4 (t0 ∷ (t1 ∷ (ts2 ++ (ts3)))) (act action.Forward (t0, (t1, (v2, (v3, tt)))))
unfolding language plan
raw_8 = reads language sisal roles 8 (below 8 (omega arith)) (record { made = act action.Forward; does = λ vs rest. refl })

-- item = "global" header semi
pub raw_9 : (t0 : Placed) → class_of t0.kind ≡ 9 → (ts1 : List Placed) (v1 : Val sort.a_header) → R 13 ts1 v1 → (ts2 : List Placed) (v2 : Val sort.nothing) → R 2 ts2 v2 → R 4 (t0 ∷ (ts1 ++ (ts2))) (act action.Global (t0, (v1, (v2, tt))))
unfolding language plan
raw_9 = reads language sisal roles 9 (below 9 (omega arith)) (record { made = act action.Global; does = λ vs rest. refl })

-- item = "function" header exprs "end" "function" semi
pub raw_10 : (t0 : Placed) → class_of t0.kind ≡ 8 → (ts1 : List Placed) (v1 : Val sort.a_header) → R 13 ts1 v1 → (ts2 : List Placed) (v2 : Val sort.exprs) → R 15 ts2 v2 → (t3 : Placed) → class_of t3.kind ≡ 10 → (t4 : Placed) → class_of t4.kind ≡ 8 → (ts5 : List Placed) (v5 : Val sort.nothing) → R 2 ts5 v5 → R 4 (t0 ∷ (ts1 ++ (ts2 ++ (t3 ∷ t4 ∷ ts5)))) (act action.Defined (t0, (v1, (v2, (t3, (t4, (v5, tt)))))))
unfolding language plan
raw_10 = reads language sisal roles 10 (below 10 (omega arith)) (record { made = act action.Defined; does = λ vs rest. refl })

-- type = "integer"
pub raw_11 : (t0 : Placed) → class_of t0.kind ≡ 11 → R 5 (t0 ∷ []) (act action.Basic (t0, tt))
unfolding language plan
raw_11 = reads language sisal roles 11 (below 11 (omega arith)) (record { made = act action.Basic; does = λ vs rest. refl })

-- type = "boolean"
pub raw_12 : (t0 : Placed) → class_of t0.kind ≡ 12 → R 5 (t0 ∷ []) (act action.Basic (t0, tt))
unfolding language plan
raw_12 = reads language sisal roles 12 (below 12 (omega arith)) (record { made = act action.Basic; does = λ vs rest. refl })

-- type = "character"
pub raw_13 : (t0 : Placed) → class_of t0.kind ≡ 13 → R 5 (t0 ∷ []) (act action.Basic (t0, tt))
unfolding language plan
raw_13 = reads language sisal roles 13 (below 13 (omega arith)) (record { made = act action.Basic; does = λ vs rest. refl })

-- type = "null"
pub raw_14 : (t0 : Placed) → class_of t0.kind ≡ 14 → R 5 (t0 ∷ []) (act action.Basic (t0, tt))
unfolding language plan
raw_14 = reads language sisal roles 14 (below 14 (omega arith)) (record { made = act action.Basic; does = λ vs rest. refl })

-- type = "real"
pub raw_15 : (t0 : Placed) → class_of t0.kind ≡ 15 → R 5 (t0 ∷ []) (act action.Basic (t0, tt))
unfolding language plan
raw_15 = reads language sisal roles 15 (below 15 (omega arith)) (record { made = act action.Basic; does = λ vs rest. refl })

-- type = "double_real"
pub raw_16 : (t0 : Placed) → class_of t0.kind ≡ 16 → R 5 (t0 ∷ []) (act action.Basic (t0, tt))
unfolding language plan
raw_16 = reads language sisal roles 16 (below 16 (omega arith)) (record { made = act action.Basic; does = λ vs rest. refl })

-- type = @name
pub raw_17 : (t0 : Placed) → class_of t0.kind ≡ 2 → R 5 (t0 ∷ []) (act action.Basic (t0, tt))
unfolding language plan
raw_17 = reads language sisal roles 17 (below 17 (omega arith)) (record { made = act action.Basic; does = λ vs rest. refl })

-- type = "array" "[" type "]"
pub raw_18 : (t0 : Placed) → class_of t0.kind ≡ 17 → (t1 : Placed) → class_of t1.kind ≡ 18 → (ts2 : List Placed) (v2 : Val sort.a_type) → R 5 ts2 v2 → (t3 : Placed) → class_of t3.kind ≡ 19 → R 5 (t0 ∷ (t1 ∷ (ts2 ++ (t3 ∷ [])))) (act action.Listed (t0, (t1, (v2, (t3, tt)))))
unfolding language plan
raw_18 = reads language sisal roles 18 (below 18 (omega arith)) (record { made = act action.Listed; does = λ vs rest. refl })

-- type = "stream" "[" type "]"
pub raw_19 : (t0 : Placed) → class_of t0.kind ≡ 20 → (t1 : Placed) → class_of t1.kind ≡ 18 → (ts2 : List Placed) (v2 : Val sort.a_type) → R 5 ts2 v2 → (t3 : Placed) → class_of t3.kind ≡ 19 → R 5 (t0 ∷ (t1 ∷ (ts2 ++ (t3 ∷ [])))) (act action.Listed (t0, (t1, (v2, (t3, tt)))))
unfolding language plan
raw_19 = reads language sisal roles 19 (below 19 (omega arith)) (record { made = act action.Listed; does = λ vs rest. refl })

-- type = "record" "[" field fields "]"
pub raw_20 : (t0 : Placed) → class_of t0.kind ≡ 21 → (t1 : Placed) → class_of t1.kind ≡ 18 → (ts2 : List Placed) (v2 : Val sort.a_field) → R 8 ts2 v2 → (ts3 : List Placed) (v3 : Val sort.fields) → R 6 ts3 v3 → (t4 : Placed) → class_of t4.kind ≡ 19 → R 5 (t0 ∷ (t1 ∷ (ts2 ++ (ts3 ++ (t4 ∷ []))))) (act action.Fielded (t0, (t1, (v2, (v3, (t4, tt))))))
unfolding language plan
raw_20 = reads language sisal roles 20 (below 20 (omega arith)) (record { made = act action.Fielded; does = λ vs rest. refl })

-- type = "union" "[" tagf tagfs "]"
pub raw_21 : (t0 : Placed) → class_of t0.kind ≡ 22 → (t1 : Placed) → class_of t1.kind ≡ 18 → (ts2 : List Placed) (v2 : Val sort.nothing) → R 11 ts2 v2 → (ts3 : List Placed) (v3 : Val sort.nothing) → R 9 ts3 v3 → (t4 : Placed) → class_of t4.kind ≡ 19 → R 5 (t0 ∷ (t1 ∷ (ts2 ++ (ts3 ++ (t4 ∷ []))))) (act action.Tagged (t0, (t1, (v2, (v3, (t4, tt))))))
unfolding language plan
raw_21 = reads language sisal roles 21 (below 21 (omega arith)) (record { made = act action.Tagged; does = λ vs rest. refl })

-- fields
pub raw_22 : R 6 [] (act action.NoFields tt)
unfolding language plan
raw_22 = reads language sisal roles 22 (below 22 (omega arith)) (record { made = act action.NoFields; does = λ vs rest. refl })

-- fields = ";" fields_more
pub raw_23 : (t0 : Placed) → class_of t0.kind ≡ 4 → (ts1 : List Placed) (v1 : Val sort.fields) → R 7 ts1 v1 → R 6 (t0 ∷ ts1) (act action.SemiFields (t0, (v1, tt)))
unfolding language plan
raw_23 = reads language sisal roles 23 (below 23 (omega arith)) (record { made = act action.SemiFields; does = λ vs rest. refl })

-- fields_more
pub raw_24 : R 7 [] (act action.NoFields tt)
unfolding language plan
raw_24 = reads language sisal roles 24 (below 24 (omega arith)) (record { made = act action.NoFields; does = λ vs rest. refl })

-- fields_more = field fields
pub raw_25 : (ts0 : List Placed) (v0 : Val sort.a_field) → R 8 ts0 v0 → (ts1 : List Placed) (v1 : Val sort.fields) → R 6 ts1 v1 → R 7 (ts0 ++ (ts1)) (act action.MoreFields (v0, (v1, tt)))
unfolding language plan
raw_25 = reads language sisal roles 25 (below 25 (omega arith)) (record { made = act action.MoreFields; does = λ vs rest. refl })

-- field = @name names ":" type
pub raw_26 : (t0 : Placed) → class_of t0.kind ≡ 2 → (ts1 : List Placed) (v1 : Val sort.names) → R 1 ts1 v1 → (t2 : Placed) → class_of t2.kind ≡ 23 → (ts3 : List Placed) (v3 : Val sort.a_type) → R 5 ts3 v3 → R 8 (t0 ∷ (ts1 ++ (t2 ∷ ts3))) (act action.OneField (t0, (v1, (t2, (v3, tt)))))
unfolding language plan
raw_26 = reads language sisal roles 26 (below 26 (omega arith)) (record { made = act action.OneField; does = λ vs rest. refl })

-- tagfs
pub raw_27 : R 9 [] (act action.Absent tt)
unfolding language plan
raw_27 = reads language sisal roles 27 (below 27 (omega arith)) (record { made = act action.Absent; does = λ vs rest. refl })

-- tagfs = ";" tagfs_more
pub raw_28 : (t0 : Placed) → class_of t0.kind ≡ 4 → (ts1 : List Placed) (v1 : Val sort.nothing) → R 10 ts1 v1 → R 9 (t0 ∷ ts1) (act action.SemiTags (t0, (v1, tt)))
unfolding language plan
raw_28 = reads language sisal roles 28 (below 28 (omega arith)) (record { made = act action.SemiTags; does = λ vs rest. refl })

-- tagfs_more
pub raw_29 : R 10 [] (act action.Absent tt)
unfolding language plan
raw_29 = reads language sisal roles 29 (below 29 (omega arith)) (record { made = act action.Absent; does = λ vs rest. refl })

-- tagfs_more = tagf tagfs
pub raw_30 : (ts0 : List Placed) (v0 : Val sort.nothing) → R 11 ts0 v0 → (ts1 : List Placed) (v1 : Val sort.nothing) → R 9 ts1 v1 → R 10 (ts0 ++ (ts1)) (act action.MoreTags (v0, (v1, tt)))
unfolding language plan
raw_30 = reads language sisal roles 30 (below 30 (omega arith)) (record { made = act action.MoreTags; does = λ vs rest. refl })

-- tagf = @name names tag_type
pub raw_31 : (t0 : Placed) → class_of t0.kind ≡ 2 → (ts1 : List Placed) (v1 : Val sort.names) → R 1 ts1 v1 → (ts2 : List Placed) (v2 : Val sort.nothing) → R 12 ts2 v2 → R 11 (t0 ∷ (ts1 ++ (ts2))) (act action.OneTag (t0, (v1, (v2, tt))))
unfolding language plan
raw_31 = reads language sisal roles 31 (below 31 (omega arith)) (record { made = act action.OneTag; does = λ vs rest. refl })

-- tag_type
pub raw_32 : R 12 [] (act action.Absent tt)
unfolding language plan
raw_32 = reads language sisal roles 32 (below 32 (omega arith)) (record { made = act action.Absent; does = λ vs rest. refl })

-- tag_type = ":" type
pub raw_33 : (t0 : Placed) → class_of t0.kind ≡ 23 → (ts1 : List Placed) (v1 : Val sort.a_type) → R 5 ts1 v1 → R 12 (t0 ∷ ts1) (act action.TypedTag (t0, (v1, tt)))
unfolding language plan
raw_33 = reads language sisal roles 33 (below 33 (omega arith)) (record { made = act action.TypedTag; does = λ vs rest. refl })

-- header = @name "(" fields_more "returns" type types ")"
pub raw_34 : (t0 : Placed) → class_of t0.kind ≡ 2 → (t1 : Placed) → class_of t1.kind ≡ 24 → (ts2 : List Placed) (v2 : Val sort.fields) → R 7 ts2 v2 → (t3 : Placed) → class_of t3.kind ≡ 25 → (ts4 : List Placed) (v4 : Val sort.a_type) → R 5 ts4 v4 → (ts5 : List Placed) (v5 : Val sort.types) → R 14 ts5 v5 → (t6 : Placed) → class_of t6.kind ≡ 26 → R 13 (t0 ∷ (t1 ∷ (ts2 ++ (t3 ∷ (ts4 ++ (ts5 ++ (t6 ∷ []))))))) (act action.OneHeader (t0, (t1, (v2, (t3, (v4, (v5, (t6, tt))))))))
unfolding language plan
raw_34 = reads language sisal roles 34 (below 34 (omega arith)) (record { made = act action.OneHeader; does = λ vs rest. refl })

-- types
pub raw_35 : R 14 [] (act action.NoTypes tt)
unfolding language plan
raw_35 = reads language sisal roles 35 (below 35 (omega arith)) (record { made = act action.NoTypes; does = λ vs rest. refl })

-- types = "," type types
pub raw_36 : (t0 : Placed) → class_of t0.kind ≡ 3 → (ts1 : List Placed) (v1 : Val sort.a_type) → R 5 ts1 v1 → (ts2 : List Placed) (v2 : Val sort.types) → R 14 ts2 v2 → R 14 (t0 ∷ (ts1 ++ (ts2))) (act action.MoreTypes (t0, (v1, (v2, tt))))
unfolding language plan
raw_36 = reads language sisal roles 36 (below 36 (omega arith)) (record { made = act action.MoreTypes; does = λ vs rest. refl })

-- exprs = expr exprs_more
pub raw_37 : (ts0 : List Placed) (v0 : Val sort.an_expr) → R 18 ts0 v0 → (ts1 : List Placed) (v1 : Val sort.exprs) → R 16 ts1 v1 → R 15 (ts0 ++ (ts1)) (act action.Exprs (v0, (v1, tt)))
unfolding language plan
raw_37 = reads language sisal roles 37 (below 37 (omega arith)) (record { made = act action.Exprs; does = λ vs rest. refl })

-- exprs_more
pub raw_38 : R 16 [] (act action.NoExprs tt)
unfolding language plan
raw_38 = reads language sisal roles 38 (below 38 (omega arith)) (record { made = act action.NoExprs; does = λ vs rest. refl })

-- exprs_more = "," expr exprs_more
pub raw_39 : (t0 : Placed) → class_of t0.kind ≡ 3 → (ts1 : List Placed) (v1 : Val sort.an_expr) → R 18 ts1 v1 → (ts2 : List Placed) (v2 : Val sort.exprs) → R 16 ts2 v2 → R 16 (t0 ∷ (ts1 ++ (ts2))) (act action.MoreExprs (t0, (v1, (v2, tt))))
unfolding language plan
raw_39 = reads language sisal roles 39 (below 39 (omega arith)) (record { made = act action.MoreExprs; does = λ vs rest. refl })

-- args
pub raw_40 : R 17 [] (act action.NoExprs tt)
unfolding language plan
raw_40 = reads language sisal roles 40 (below 40 (omega arith)) (record { made = act action.NoExprs; does = λ vs rest. refl })

-- args = exprs
pub raw_41 : (ts0 : List Placed) (v0 : Val sort.exprs) → R 15 ts0 v0 → R 17 ts0 (act action.SameExprs (v0, tt))
unfolding language plan
raw_41 = reads language sisal roles 41 (below 41 (omega arith)) (record { made = act action.SameExprs; does = λ vs rest. refl })

-- expr = conj expr_more
pub raw_42 : (ts0 : List Placed) (v0 : Val sort.an_expr) → R 20 ts0 v0 → (ts1 : List Placed) (v1 : Val sort.tail) → R 19 ts1 v1 → R 18 (ts0 ++ (ts1)) (act action.Chain (v0, (v1, tt)))
unfolding language plan
raw_42 = reads language sisal roles 42 (below 42 (omega arith)) (record { made = act action.Chain; does = λ vs rest. refl })

-- expr_more
pub raw_43 : R 19 [] (act action.NoTail tt)
unfolding language plan
raw_43 = reads language sisal roles 43 (below 43 (omega arith)) (record { made = act action.NoTail; does = λ vs rest. refl })

-- expr_more = "|" conj expr_more
pub raw_44 : (t0 : Placed) → class_of t0.kind ≡ 27 → (ts1 : List Placed) (v1 : Val sort.an_expr) → R 20 ts1 v1 → (ts2 : List Placed) (v2 : Val sort.tail) → R 19 ts2 v2 → R 19 (t0 ∷ (ts1 ++ (ts2))) (act action.MoreTail (t0, (v1, (v2, tt))))
unfolding language plan
raw_44 = reads language sisal roles 44 (below 44 (omega arith)) (record { made = act action.MoreTail; does = λ vs rest. refl })

-- conj = inv conj_more
pub raw_45 : (ts0 : List Placed) (v0 : Val sort.an_expr) → R 22 ts0 v0 → (ts1 : List Placed) (v1 : Val sort.tail) → R 21 ts1 v1 → R 20 (ts0 ++ (ts1)) (act action.Chain (v0, (v1, tt)))
unfolding language plan
raw_45 = reads language sisal roles 45 (below 45 (omega arith)) (record { made = act action.Chain; does = λ vs rest. refl })

-- conj_more
pub raw_46 : R 21 [] (act action.NoTail tt)
unfolding language plan
raw_46 = reads language sisal roles 46 (below 46 (omega arith)) (record { made = act action.NoTail; does = λ vs rest. refl })

-- conj_more = "&" inv conj_more
pub raw_47 : (t0 : Placed) → class_of t0.kind ≡ 28 → (ts1 : List Placed) (v1 : Val sort.an_expr) → R 22 ts1 v1 → (ts2 : List Placed) (v2 : Val sort.tail) → R 21 ts2 v2 → R 21 (t0 ∷ (ts1 ++ (ts2))) (act action.MoreTail (t0, (v1, (v2, tt))))
unfolding language plan
raw_47 = reads language sisal roles 47 (below 47 (omega arith)) (record { made = act action.MoreTail; does = λ vs rest. refl })

-- inv = "~" inv
pub raw_48 : (t0 : Placed) → class_of t0.kind ≡ 29 → (ts1 : List Placed) (v1 : Val sort.an_expr) → R 22 ts1 v1 → R 22 (t0 ∷ ts1) (act action.Prefix (t0, (v1, tt)))
unfolding language plan
raw_48 = reads language sisal roles 48 (below 48 (omega arith)) (record { made = act action.Prefix; does = λ vs rest. refl })

-- inv = rel
pub raw_49 : (ts0 : List Placed) (v0 : Val sort.an_expr) → R 23 ts0 v0 → R 22 ts0 (act action.SameExpr (v0, tt))
unfolding language plan
raw_49 = reads language sisal roles 49 (below 49 (omega arith)) (record { made = act action.SameExpr; does = λ vs rest. refl })

-- rel = cat rel_more
pub raw_50 : (ts0 : List Placed) (v0 : Val sort.an_expr) → R 25 ts0 v0 → (ts1 : List Placed) (v1 : Val sort.tail) → R 24 ts1 v1 → R 23 (ts0 ++ (ts1)) (act action.Chain (v0, (v1, tt)))
unfolding language plan
raw_50 = reads language sisal roles 50 (below 50 (omega arith)) (record { made = act action.Chain; does = λ vs rest. refl })

-- rel_more
pub raw_51 : R 24 [] (act action.NoTail tt)
unfolding language plan
raw_51 = reads language sisal roles 51 (below 51 (omega arith)) (record { made = act action.NoTail; does = λ vs rest. refl })

-- rel_more = "=" cat
pub raw_52 : (t0 : Placed) → class_of t0.kind ≡ 6 → (ts1 : List Placed) (v1 : Val sort.an_expr) → R 25 ts1 v1 → R 24 (t0 ∷ ts1) (act action.OneTail (t0, (v1, tt)))
unfolding language plan
raw_52 = reads language sisal roles 52 (below 52 (omega arith)) (record { made = act action.OneTail; does = λ vs rest. refl })

-- rel_more = "~=" cat
pub raw_53 : (t0 : Placed) → class_of t0.kind ≡ 30 → (ts1 : List Placed) (v1 : Val sort.an_expr) → R 25 ts1 v1 → R 24 (t0 ∷ ts1) (act action.OneTail (t0, (v1, tt)))
unfolding language plan
raw_53 = reads language sisal roles 53 (below 53 (omega arith)) (record { made = act action.OneTail; does = λ vs rest. refl })

-- rel_more = "<" cat
pub raw_54 : (t0 : Placed) → class_of t0.kind ≡ 31 → (ts1 : List Placed) (v1 : Val sort.an_expr) → R 25 ts1 v1 → R 24 (t0 ∷ ts1) (act action.OneTail (t0, (v1, tt)))
unfolding language plan
raw_54 = reads language sisal roles 54 (below 54 (omega arith)) (record { made = act action.OneTail; does = λ vs rest. refl })

-- rel_more = "<=" cat
pub raw_55 : (t0 : Placed) → class_of t0.kind ≡ 32 → (ts1 : List Placed) (v1 : Val sort.an_expr) → R 25 ts1 v1 → R 24 (t0 ∷ ts1) (act action.OneTail (t0, (v1, tt)))
unfolding language plan
raw_55 = reads language sisal roles 55 (below 55 (omega arith)) (record { made = act action.OneTail; does = λ vs rest. refl })

-- rel_more = ">" cat
pub raw_56 : (t0 : Placed) → class_of t0.kind ≡ 33 → (ts1 : List Placed) (v1 : Val sort.an_expr) → R 25 ts1 v1 → R 24 (t0 ∷ ts1) (act action.OneTail (t0, (v1, tt)))
unfolding language plan
raw_56 = reads language sisal roles 56 (below 56 (omega arith)) (record { made = act action.OneTail; does = λ vs rest. refl })

-- rel_more = ">=" cat
pub raw_57 : (t0 : Placed) → class_of t0.kind ≡ 34 → (ts1 : List Placed) (v1 : Val sort.an_expr) → R 25 ts1 v1 → R 24 (t0 ∷ ts1) (act action.OneTail (t0, (v1, tt)))
unfolding language plan
raw_57 = reads language sisal roles 57 (below 57 (omega arith)) (record { made = act action.OneTail; does = λ vs rest. refl })

-- cat = sum cat_more
pub raw_58 : (ts0 : List Placed) (v0 : Val sort.an_expr) → R 27 ts0 v0 → (ts1 : List Placed) (v1 : Val sort.tail) → R 26 ts1 v1 → R 25 (ts0 ++ (ts1)) (act action.Chain (v0, (v1, tt)))
unfolding language plan
raw_58 = reads language sisal roles 58 (below 58 (omega arith)) (record { made = act action.Chain; does = λ vs rest. refl })

-- cat_more
pub raw_59 : R 26 [] (act action.NoTail tt)
unfolding language plan
raw_59 = reads language sisal roles 59 (below 59 (omega arith)) (record { made = act action.NoTail; does = λ vs rest. refl })

-- cat_more = "||" sum cat_more
pub raw_60 : (t0 : Placed) → class_of t0.kind ≡ 35 → (ts1 : List Placed) (v1 : Val sort.an_expr) → R 27 ts1 v1 → (ts2 : List Placed) (v2 : Val sort.tail) → R 26 ts2 v2 → R 26 (t0 ∷ (ts1 ++ (ts2))) (act action.MoreTail (t0, (v1, (v2, tt))))
unfolding language plan
raw_60 = reads language sisal roles 60 (below 60 (omega arith)) (record { made = act action.MoreTail; does = λ vs rest. refl })

-- sum = term sum_more
pub raw_61 : (ts0 : List Placed) (v0 : Val sort.an_expr) → R 29 ts0 v0 → (ts1 : List Placed) (v1 : Val sort.tail) → R 28 ts1 v1 → R 27 (ts0 ++ (ts1)) (act action.Chain (v0, (v1, tt)))
unfolding language plan
raw_61 = reads language sisal roles 61 (below 61 (omega arith)) (record { made = act action.Chain; does = λ vs rest. refl })

-- sum_more
pub raw_62 : R 28 [] (act action.NoTail tt)
unfolding language plan
raw_62 = reads language sisal roles 62 (below 62 (omega arith)) (record { made = act action.NoTail; does = λ vs rest. refl })

-- sum_more = "+" term sum_more
pub raw_63 : (t0 : Placed) → class_of t0.kind ≡ 36 → (ts1 : List Placed) (v1 : Val sort.an_expr) → R 29 ts1 v1 → (ts2 : List Placed) (v2 : Val sort.tail) → R 28 ts2 v2 → R 28 (t0 ∷ (ts1 ++ (ts2))) (act action.MoreTail (t0, (v1, (v2, tt))))
unfolding language plan
raw_63 = reads language sisal roles 63 (below 63 (omega arith)) (record { made = act action.MoreTail; does = λ vs rest. refl })

-- sum_more = "-" term sum_more
pub raw_64 : (t0 : Placed) → class_of t0.kind ≡ 37 → (ts1 : List Placed) (v1 : Val sort.an_expr) → R 29 ts1 v1 → (ts2 : List Placed) (v2 : Val sort.tail) → R 28 ts2 v2 → R 28 (t0 ∷ (ts1 ++ (ts2))) (act action.MoreTail (t0, (v1, (v2, tt))))
unfolding language plan
raw_64 = reads language sisal roles 64 (below 64 (omega arith)) (record { made = act action.MoreTail; does = λ vs rest. refl })

-- term = neg term_more
pub raw_65 : (ts0 : List Placed) (v0 : Val sort.an_expr) → R 31 ts0 v0 → (ts1 : List Placed) (v1 : Val sort.tail) → R 30 ts1 v1 → R 29 (ts0 ++ (ts1)) (act action.Chain (v0, (v1, tt)))
unfolding language plan
raw_65 = reads language sisal roles 65 (below 65 (omega arith)) (record { made = act action.Chain; does = λ vs rest. refl })

-- term_more
pub raw_66 : R 30 [] (act action.NoTail tt)
unfolding language plan
raw_66 = reads language sisal roles 66 (below 66 (omega arith)) (record { made = act action.NoTail; does = λ vs rest. refl })

-- term_more = "*" neg term_more
pub raw_67 : (t0 : Placed) → class_of t0.kind ≡ 38 → (ts1 : List Placed) (v1 : Val sort.an_expr) → R 31 ts1 v1 → (ts2 : List Placed) (v2 : Val sort.tail) → R 30 ts2 v2 → R 30 (t0 ∷ (ts1 ++ (ts2))) (act action.MoreTail (t0, (v1, (v2, tt))))
unfolding language plan
raw_67 = reads language sisal roles 67 (below 67 (omega arith)) (record { made = act action.MoreTail; does = λ vs rest. refl })

-- term_more = "/" neg term_more
pub raw_68 : (t0 : Placed) → class_of t0.kind ≡ 39 → (ts1 : List Placed) (v1 : Val sort.an_expr) → R 31 ts1 v1 → (ts2 : List Placed) (v2 : Val sort.tail) → R 30 ts2 v2 → R 30 (t0 ∷ (ts1 ++ (ts2))) (act action.MoreTail (t0, (v1, (v2, tt))))
unfolding language plan
raw_68 = reads language sisal roles 68 (below 68 (omega arith)) (record { made = act action.MoreTail; does = λ vs rest. refl })

-- neg = "-" neg
pub raw_69 : (t0 : Placed) → class_of t0.kind ≡ 37 → (ts1 : List Placed) (v1 : Val sort.an_expr) → R 31 ts1 v1 → R 31 (t0 ∷ ts1) (act action.Prefix (t0, (v1, tt)))
unfolding language plan
raw_69 = reads language sisal roles 69 (below 69 (omega arith)) (record { made = act action.Prefix; does = λ vs rest. refl })

-- neg = post
pub raw_70 : (ts0 : List Placed) (v0 : Val sort.an_expr) → R 32 ts0 v0 → R 31 ts0 (act action.SameExpr (v0, tt))
unfolding language plan
raw_70 = reads language sisal roles 70 (below 70 (omega arith)) (record { made = act action.SameExpr; does = λ vs rest. refl })

-- post = prim posts
pub raw_71 : (ts0 : List Placed) (v0 : Val sort.an_expr) → R 39 ts0 v0 → (ts1 : List Placed) (v1 : Val sort.posts) → R 33 ts1 v1 → R 32 (ts0 ++ (ts1)) (act action.Posted (v0, (v1, tt)))
unfolding language plan
raw_71 = reads language sisal roles 71 (below 71 (omega arith)) (record { made = act action.Posted; does = λ vs rest. refl })

-- posts
pub raw_72 : R 33 [] (act action.NoPosts tt)
unfolding language plan
raw_72 = reads language sisal roles 72 (below 72 (omega arith)) (record { made = act action.NoPosts; does = λ vs rest. refl })

-- posts = selector posts
pub raw_73 : (ts0 : List Placed) (v0 : Val sort.a_post) → R 34 ts0 v0 → (ts1 : List Placed) (v1 : Val sort.posts) → R 33 ts1 v1 → R 33 (ts0 ++ (ts1)) (act action.MorePosts (v0, (v1, tt)))
unfolding language plan
raw_73 = reads language sisal roles 73 (below 73 (omega arith)) (record { made = act action.MorePosts; does = λ vs rest. refl })

-- selector = "[" expr index
pub raw_74 : (t0 : Placed) → class_of t0.kind ≡ 18 → (ts1 : List Placed) (v1 : Val sort.an_expr) → R 18 ts1 v1 → (ts2 : List Placed) (v2 : Val sort.a_bracket) → R 35 ts2 v2 → R 34 (t0 ∷ (ts1 ++ (ts2))) (act action.Bracket (t0, (v1, (v2, tt))))
unfolding language plan
raw_74 = reads language sisal roles 74 (below 74 (omega arith)) (record { made = act action.Bracket; does = λ vs rest. refl })

-- selector = "." @name
pub raw_75 : (t0 : Placed) → class_of t0.kind ≡ 40 → (t1 : Placed) → class_of t1.kind ≡ 2 → R 34 (t0 ∷ t1 ∷ []) (act action.Dot (t0, (t1, tt)))
unfolding language plan
raw_75 = reads language sisal roles 75 (below 75 (omega arith)) (record { made = act action.Dot; does = λ vs rest. refl })

-- selector = "replace" "[" fv fvs "]"
pub raw_76 : (t0 : Placed) → class_of t0.kind ≡ 41 → (t1 : Placed) → class_of t1.kind ≡ 18 → (ts2 : List Placed) (v2 : Val sort.a_value) → R 36 ts2 v2 → (ts3 : List Placed) (v3 : Val sort.values) → R 37 ts3 v3 → (t4 : Placed) → class_of t4.kind ≡ 19 → R 34 (t0 ∷ (t1 ∷ (ts2 ++ (ts3 ++ (t4 ∷ []))))) (act action.Replaced (t0, (t1, (v2, (v3, (t4, tt))))))
unfolding language plan
raw_76 = reads language sisal roles 76 (below 76 (omega arith)) (record { made = act action.Replaced; does = λ vs rest. refl })

-- index = "]"
pub raw_77 : (t0 : Placed) → class_of t0.kind ≡ 19 → R 35 (t0 ∷ []) (act action.CloseBracket (t0, tt))
unfolding language plan
raw_77 = reads language sisal roles 77 (below 77 (omega arith)) (record { made = act action.CloseBracket; does = λ vs rest. refl })

-- index = "," expr exprs_more "]"
pub raw_78 : (t0 : Placed) → class_of t0.kind ≡ 3 → (ts1 : List Placed) (v1 : Val sort.an_expr) → R 18 ts1 v1 → (ts2 : List Placed) (v2 : Val sort.exprs) → R 16 ts2 v2 → (t3 : Placed) → class_of t3.kind ≡ 19 → R 35 (t0 ∷ (ts1 ++ (ts2 ++ (t3 ∷ [])))) (act action.MoreBracket (t0, (v1, (v2, (t3, tt)))))
unfolding language plan
raw_78 = reads language sisal roles 78 (below 78 (omega arith)) (record { made = act action.MoreBracket; does = λ vs rest. refl })

-- index = ":" expr "]"
pub raw_79 : (t0 : Placed) → class_of t0.kind ≡ 23 → (ts1 : List Placed) (v1 : Val sort.an_expr) → R 18 ts1 v1 → (t2 : Placed) → class_of t2.kind ≡ 19 → R 35 (t0 ∷ (ts1 ++ (t2 ∷ []))) (act action.ColonBracket (t0, (v1, (t2, tt))))
unfolding language plan
raw_79 = reads language sisal roles 79 (below 79 (omega arith)) (record { made = act action.ColonBracket; does = λ vs rest. refl })

-- fv = @name ":" expr
pub raw_80 : (t0 : Placed) → class_of t0.kind ≡ 2 → (t1 : Placed) → class_of t1.kind ≡ 23 → (ts2 : List Placed) (v2 : Val sort.an_expr) → R 18 ts2 v2 → R 36 (t0 ∷ t1 ∷ ts2) (act action.OneValue (t0, (t1, (v2, tt))))
unfolding language plan
raw_80 = reads language sisal roles 80 (below 80 (omega arith)) (record { made = act action.OneValue; does = λ vs rest. refl })

-- fvs
pub raw_81 : R 37 [] (act action.NoValues tt)
unfolding language plan
raw_81 = reads language sisal roles 81 (below 81 (omega arith)) (record { made = act action.NoValues; does = λ vs rest. refl })

-- fvs = ";" fvs_more
pub raw_82 : (t0 : Placed) → class_of t0.kind ≡ 4 → (ts1 : List Placed) (v1 : Val sort.values) → R 38 ts1 v1 → R 37 (t0 ∷ ts1) (act action.SemiValues (t0, (v1, tt)))
unfolding language plan
raw_82 = reads language sisal roles 82 (below 82 (omega arith)) (record { made = act action.SemiValues; does = λ vs rest. refl })

-- fvs_more
pub raw_83 : R 38 [] (act action.NoValues tt)
unfolding language plan
raw_83 = reads language sisal roles 83 (below 83 (omega arith)) (record { made = act action.NoValues; does = λ vs rest. refl })

-- fvs_more = fv fvs
pub raw_84 : (ts0 : List Placed) (v0 : Val sort.a_value) → R 36 ts0 v0 → (ts1 : List Placed) (v1 : Val sort.values) → R 37 ts1 v1 → R 38 (ts0 ++ (ts1)) (act action.MoreValues (v0, (v1, tt)))
unfolding language plan
raw_84 = reads language sisal roles 84 (below 84 (omega arith)) (record { made = act action.MoreValues; does = λ vs rest. refl })

-- prim = @name call
pub raw_85 : (t0 : Placed) → class_of t0.kind ≡ 2 → (ts1 : List Placed) (v1 : Val sort.maybe_exprs) → R 40 ts1 v1 → R 39 (t0 ∷ ts1) (act action.NameOrCall (t0, (v1, tt)))
unfolding language plan
raw_85 = reads language sisal roles 85 (below 85 (omega arith)) (record { made = act action.NameOrCall; does = λ vs rest. refl })

-- prim = other
pub raw_86 : (ts0 : List Placed) (v0 : Val sort.an_expr) → R 41 ts0 v0 → R 39 ts0 (act action.SameExpr (v0, tt))
unfolding language plan
raw_86 = reads language sisal roles 86 (below 86 (omega arith)) (record { made = act action.SameExpr; does = λ vs rest. refl })

-- call
pub raw_87 : R 40 [] (act action.NoCall tt)
unfolding language plan
raw_87 = reads language sisal roles 87 (below 87 (omega arith)) (record { made = act action.NoCall; does = λ vs rest. refl })

-- call = "(" args ")"
pub raw_88 : (t0 : Placed) → class_of t0.kind ≡ 24 → (ts1 : List Placed) (v1 : Val sort.exprs) → R 17 ts1 v1 → (t2 : Placed) → class_of t2.kind ≡ 26 → R 40 (t0 ∷ (ts1 ++ (t2 ∷ []))) (act action.Call (t0, (v1, (t2, tt))))
unfolding language plan
raw_88 = reads language sisal roles 88 (below 88 (omega arith)) (record { made = act action.Call; does = λ vs rest. refl })

-- other = @number
pub raw_89 : (t0 : Placed) → class_of t0.kind ≡ 42 → R 41 (t0 ∷ []) (act action.Literal (t0, tt))
unfolding language plan
raw_89 = reads language sisal roles 89 (below 89 (omega arith)) (record { made = act action.Literal; does = λ vs rest. refl })

-- other = @character
pub raw_90 : (t0 : Placed) → class_of t0.kind ≡ 43 → R 41 (t0 ∷ []) (act action.Literal (t0, tt))
unfolding language plan
raw_90 = reads language sisal roles 90 (below 90 (omega arith)) (record { made = act action.Literal; does = λ vs rest. refl })

-- other = @text
pub raw_91 : (t0 : Placed) → class_of t0.kind ≡ 44 → R 41 (t0 ∷ []) (act action.Literal (t0, tt))
unfolding language plan
raw_91 = reads language sisal roles 91 (below 91 (omega arith)) (record { made = act action.Literal; does = λ vs rest. refl })

-- other = "true"
pub raw_92 : (t0 : Placed) → class_of t0.kind ≡ 45 → R 41 (t0 ∷ []) (act action.Literal (t0, tt))
unfolding language plan
raw_92 = reads language sisal roles 92 (below 92 (omega arith)) (record { made = act action.Literal; does = λ vs rest. refl })

-- other = "false"
pub raw_93 : (t0 : Placed) → class_of t0.kind ≡ 46 → R 41 (t0 ∷ []) (act action.Literal (t0, tt))
unfolding language plan
raw_93 = reads language sisal roles 93 (below 93 (omega arith)) (record { made = act action.Literal; does = λ vs rest. refl })

-- other = "nil"
pub raw_94 : (t0 : Placed) → class_of t0.kind ≡ 47 → R 41 (t0 ∷ []) (act action.Literal (t0, tt))
unfolding language plan
raw_94 = reads language sisal roles 94 (below 94 (omega arith)) (record { made = act action.Literal; does = λ vs rest. refl })

-- other = "old" @name
pub raw_95 : (t0 : Placed) → class_of t0.kind ≡ 48 → (t1 : Placed) → class_of t1.kind ≡ 2 → R 41 (t0 ∷ t1 ∷ []) (act action.Old (t0, (t1, tt)))
unfolding language plan
raw_95 = reads language sisal roles 95 (below 95 (omega arith)) (record { made = act action.Old; does = λ vs rest. refl })

-- other = "integer" "(" expr ")"
pub raw_96 : (t0 : Placed) → class_of t0.kind ≡ 11 → (t1 : Placed) → class_of t1.kind ≡ 24 → (ts2 : List Placed) (v2 : Val sort.an_expr) → R 18 ts2 v2 → (t3 : Placed) → class_of t3.kind ≡ 26 → R 41 (t0 ∷ (t1 ∷ (ts2 ++ (t3 ∷ [])))) (act action.Convert (t0, (t1, (v2, (t3, tt)))))
unfolding language plan
raw_96 = reads language sisal roles 96 (below 96 (omega arith)) (record { made = act action.Convert; does = λ vs rest. refl })

-- other = "boolean" "(" expr ")"
pub raw_97 : (t0 : Placed) → class_of t0.kind ≡ 12 → (t1 : Placed) → class_of t1.kind ≡ 24 → (ts2 : List Placed) (v2 : Val sort.an_expr) → R 18 ts2 v2 → (t3 : Placed) → class_of t3.kind ≡ 26 → R 41 (t0 ∷ (t1 ∷ (ts2 ++ (t3 ∷ [])))) (act action.Convert (t0, (t1, (v2, (t3, tt)))))
unfolding language plan
raw_97 = reads language sisal roles 97 (below 97 (omega arith)) (record { made = act action.Convert; does = λ vs rest. refl })

-- other = "character" "(" expr ")"
pub raw_98 : (t0 : Placed) → class_of t0.kind ≡ 13 → (t1 : Placed) → class_of t1.kind ≡ 24 → (ts2 : List Placed) (v2 : Val sort.an_expr) → R 18 ts2 v2 → (t3 : Placed) → class_of t3.kind ≡ 26 → R 41 (t0 ∷ (t1 ∷ (ts2 ++ (t3 ∷ [])))) (act action.Convert (t0, (t1, (v2, (t3, tt)))))
unfolding language plan
raw_98 = reads language sisal roles 98 (below 98 (omega arith)) (record { made = act action.Convert; does = λ vs rest. refl })

-- other = "(" expr ")"
pub raw_99 : (t0 : Placed) → class_of t0.kind ≡ 24 → (ts1 : List Placed) (v1 : Val sort.an_expr) → R 18 ts1 v1 → (t2 : Placed) → class_of t2.kind ≡ 26 → R 41 (t0 ∷ (ts1 ++ (t2 ∷ []))) (act action.Group (t0, (v1, (t2, tt))))
unfolding language plan
raw_99 = reads language sisal roles 99 (below 99 (omega arith)) (record { made = act action.Group; does = λ vs rest. refl })

-- other = "error" "[" type "]"
pub raw_100 : (t0 : Placed) → class_of t0.kind ≡ 49 → (t1 : Placed) → class_of t1.kind ≡ 18 → (ts2 : List Placed) (v2 : Val sort.a_type) → R 5 ts2 v2 → (t3 : Placed) → class_of t3.kind ≡ 19 → R 41 (t0 ∷ (t1 ∷ (ts2 ++ (t3 ∷ [])))) (act action.ErrorOf (t0, (t1, (v2, (t3, tt)))))
unfolding language plan
raw_100 = reads language sisal roles 100 (below 100 (omega arith)) (record { made = act action.ErrorOf; does = λ vs rest. refl })

-- other = "is" is_what "(" expr ")"
pub raw_101 : (t0 : Placed) → class_of t0.kind ≡ 50 → (ts1 : List Placed) (v1 : Val sort.maybe_name) → R 42 ts1 v1 → (t2 : Placed) → class_of t2.kind ≡ 24 → (ts3 : List Placed) (v3 : Val sort.an_expr) → R 18 ts3 v3 → (t4 : Placed) → class_of t4.kind ≡ 26 → R 41 (t0 ∷ (ts1 ++ (t2 ∷ (ts3 ++ (t4 ∷ []))))) (act action.Is (t0, (v1, (t2, (v3, (t4, tt))))))
unfolding language plan
raw_101 = reads language sisal roles 101 (below 101 (omega arith)) (record { made = act action.Is; does = λ vs rest. refl })

-- other = "array" named "[" elements "]"
pub raw_102 : (t0 : Placed) → class_of t0.kind ≡ 17 → (ts1 : List Placed) (v1 : Val sort.maybe_name) → R 43 ts1 v1 → (t2 : Placed) → class_of t2.kind ≡ 18 → (ts3 : List Placed) (v3 : Val sort.maybe_elements) → R 44 ts3 v3 → (t4 : Placed) → class_of t4.kind ≡ 19 → R 41 (t0 ∷ (ts1 ++ (t2 ∷ (ts3 ++ (t4 ∷ []))))) (act action.Array (t0, (v1, (t2, (v3, (t4, tt))))))
unfolding language plan
raw_102 = reads language sisal roles 102 (below 102 (omega arith)) (record { made = act action.Array; does = λ vs rest. refl })

-- other = "stream" named "[" args "]"
pub raw_103 : (t0 : Placed) → class_of t0.kind ≡ 20 → (ts1 : List Placed) (v1 : Val sort.maybe_name) → R 43 ts1 v1 → (t2 : Placed) → class_of t2.kind ≡ 18 → (ts3 : List Placed) (v3 : Val sort.exprs) → R 17 ts3 v3 → (t4 : Placed) → class_of t4.kind ≡ 19 → R 41 (t0 ∷ (ts1 ++ (t2 ∷ (ts3 ++ (t4 ∷ []))))) (act action.Stream (t0, (v1, (t2, (v3, (t4, tt))))))
unfolding language plan
raw_103 = reads language sisal roles 103 (below 103 (omega arith)) (record { made = act action.Stream; does = λ vs rest. refl })

-- other = "record" named "[" fv fvs "]"
pub raw_104 : (t0 : Placed) → class_of t0.kind ≡ 21 → (ts1 : List Placed) (v1 : Val sort.maybe_name) → R 43 ts1 v1 → (t2 : Placed) → class_of t2.kind ≡ 18 → (ts3 : List Placed) (v3 : Val sort.a_value) → R 36 ts3 v3 → (ts4 : List Placed) (v4 : Val sort.values) → R 37 ts4 v4 → (t5 : Placed) → class_of t5.kind ≡ 19 → R 41 (t0 ∷ (ts1 ++ (t2 ∷ (ts3 ++ (ts4 ++ (t5 ∷ [])))))) (act action.Record (t0, (v1, (t2, (v3, (v4, (t5, tt)))))))
unfolding language plan
raw_104 = reads language sisal roles 104 (below 104 (omega arith)) (record { made = act action.Record; does = λ vs rest. refl })

-- other = "union" @name "[" @name content "]"
pub raw_105 : (t0 : Placed) → class_of t0.kind ≡ 22 → (t1 : Placed) → class_of t1.kind ≡ 2 → (t2 : Placed) → class_of t2.kind ≡ 18 → (t3 : Placed) → class_of t3.kind ≡ 2 → (ts4 : List Placed) (v4 : Val sort.maybe_expr) → R 45 ts4 v4 → (t5 : Placed) → class_of t5.kind ≡ 19 → R 41 (t0 ∷ (t1 ∷ (t2 ∷ (t3 ∷ (ts4 ++ (t5 ∷ [])))))) (act action.Union (t0, (t1, (t2, (t3, (v4, (t5, tt)))))))
unfolding language plan
raw_105 = reads language sisal roles 105 (below 105 (omega arith)) (record { made = act action.Union; does = λ vs rest. refl })

-- other = "let" defs "in" exprs "end" "let"
pub raw_106 : (t0 : Placed) → class_of t0.kind ≡ 51 → (ts1 : List Placed) (v1 : Val sort.defs) → R 69 ts1 v1 → (t2 : Placed) → class_of t2.kind ≡ 52 → (ts3 : List Placed) (v3 : Val sort.exprs) → R 15 ts3 v3 → (t4 : Placed) → class_of t4.kind ≡ 10 → (t5 : Placed) → class_of t5.kind ≡ 51 → R 41 (t0 ∷ (ts1 ++ (t2 ∷ (ts3 ++ (t4 ∷ t5 ∷ []))))) (act action.Let (t0, (v1, (t2, (v3, (t4, (t5, tt)))))))
unfolding language plan
raw_106 = reads language sisal roles 106 (below 106 (omega arith)) (record { made = act action.Let; does = λ vs rest. refl })

-- other = "if" expr "then" exprs elses "end" "if"
pub raw_107 : (t0 : Placed) → class_of t0.kind ≡ 53 → (ts1 : List Placed) (v1 : Val sort.an_expr) → R 18 ts1 v1 → (t2 : Placed) → class_of t2.kind ≡ 54 → (ts3 : List Placed) (v3 : Val sort.exprs) → R 15 ts3 v3 → (ts4 : List Placed) (v4 : Val sort.exprs) → R 46 ts4 v4 → (t5 : Placed) → class_of t5.kind ≡ 10 → (t6 : Placed) → class_of t6.kind ≡ 53 → R 41 (t0 ∷ (ts1 ++ (t2 ∷ (ts3 ++ (ts4 ++ (t5 ∷ t6 ∷ [])))))) (act action.If (t0, (v1, (t2, (v3, (v4, (t5, (t6, tt))))))))
unfolding language plan
raw_107 = reads language sisal roles 107 (below 107 (omega arith)) (record { made = act action.If; does = λ vs rest. refl })

-- other = "tagcase" subject arm arms otherwise "end" "tagcase"
pub raw_108 : (t0 : Placed) → class_of t0.kind ≡ 55 → (ts1 : List Placed) (v1 : Val sort.a_subject) → R 47 ts1 v1 → (ts2 : List Placed) (v2 : Val sort.an_arm) → R 59 ts2 v2 → (ts3 : List Placed) (v3 : Val sort.arms) → R 58 ts3 v3 → (ts4 : List Placed) (v4 : Val sort.maybe_exprs) → R 60 ts4 v4 → (t5 : Placed) → class_of t5.kind ≡ 10 → (t6 : Placed) → class_of t6.kind ≡ 55 → R 41 (t0 ∷ (ts1 ++ (ts2 ++ (ts3 ++ (ts4 ++ (t5 ∷ t6 ∷ [])))))) (act action.Case (t0, (v1, (v2, (v3, (v4, (t5, (t6, tt))))))))
unfolding language plan
raw_108 = reads language sisal roles 108 (below 108 (omega arith)) (record { made = act action.Case; does = λ vs rest. refl })

-- other = "for" loop "end" "for"
pub raw_109 : (t0 : Placed) → class_of t0.kind ≡ 56 → (ts1 : List Placed) (v1 : Val sort.a_loop) → R 61 ts1 v1 → (t2 : Placed) → class_of t2.kind ≡ 10 → (t3 : Placed) → class_of t3.kind ≡ 56 → R 41 (t0 ∷ (ts1 ++ (t2 ∷ t3 ∷ []))) (act action.For (t0, (v1, (t2, (t3, tt)))))
unfolding language plan
raw_109 = reads language sisal roles 109 (below 109 (omega arith)) (record { made = act action.For; does = λ vs rest. refl })

-- is_what = "error"
pub raw_110 : (t0 : Placed) → class_of t0.kind ≡ 49 → R 42 (t0 ∷ []) (act action.WordName (t0, tt))
unfolding language plan
raw_110 = reads language sisal roles 110 (below 110 (omega arith)) (record { made = act action.WordName; does = λ vs rest. refl })

-- is_what = @name
pub raw_111 : (t0 : Placed) → class_of t0.kind ≡ 2 → R 42 (t0 ∷ []) (act action.AName (t0, tt))
unfolding language plan
raw_111 = reads language sisal roles 111 (below 111 (omega arith)) (record { made = act action.AName; does = λ vs rest. refl })

-- named
pub raw_112 : R 43 [] (act action.NoName tt)
unfolding language plan
raw_112 = reads language sisal roles 112 (below 112 (omega arith)) (record { made = act action.NoName; does = λ vs rest. refl })

-- named = @name
pub raw_113 : (t0 : Placed) → class_of t0.kind ≡ 2 → R 43 (t0 ∷ []) (act action.AName (t0, tt))
unfolding language plan
raw_113 = reads language sisal roles 113 (below 113 (omega arith)) (record { made = act action.AName; does = λ vs rest. refl })

-- elements
pub raw_114 : R 44 [] (act action.NoElements tt)
unfolding language plan
raw_114 = reads language sisal roles 114 (below 114 (omega arith)) (record { made = act action.NoElements; does = λ vs rest. refl })

-- elements = expr ":" exprs
pub raw_115 : (ts0 : List Placed) (v0 : Val sort.an_expr) → R 18 ts0 v0 → (t1 : Placed) → class_of t1.kind ≡ 23 → (ts2 : List Placed) (v2 : Val sort.exprs) → R 15 ts2 v2 → R 44 (ts0 ++ (t1 ∷ ts2)) (act action.SomeElements (v0, (t1, (v2, tt))))
unfolding language plan
raw_115 = reads language sisal roles 115 (below 115 (omega arith)) (record { made = act action.SomeElements; does = λ vs rest. refl })

-- content
pub raw_116 : R 45 [] (act action.NoExpr tt)
unfolding language plan
raw_116 = reads language sisal roles 116 (below 116 (omega arith)) (record { made = act action.NoExpr; does = λ vs rest. refl })

-- content = ":" expr
pub raw_117 : (t0 : Placed) → class_of t0.kind ≡ 23 → (ts1 : List Placed) (v1 : Val sort.an_expr) → R 18 ts1 v1 → R 45 (t0 ∷ ts1) (act action.SomeExpr (t0, (v1, tt)))
unfolding language plan
raw_117 = reads language sisal roles 117 (below 117 (omega arith)) (record { made = act action.SomeExpr; does = λ vs rest. refl })

-- elses = "elseif" expr "then" exprs elses
pub raw_118 : (t0 : Placed) → class_of t0.kind ≡ 57 → (ts1 : List Placed) (v1 : Val sort.an_expr) → R 18 ts1 v1 → (t2 : Placed) → class_of t2.kind ≡ 54 → (ts3 : List Placed) (v3 : Val sort.exprs) → R 15 ts3 v3 → (ts4 : List Placed) (v4 : Val sort.exprs) → R 46 ts4 v4 → R 46 (t0 ∷ (ts1 ++ (t2 ∷ (ts3 ++ (ts4))))) (act action.ElseIf (t0, (v1, (t2, (v3, (v4, tt))))))
unfolding language plan
raw_118 = reads language sisal roles 118 (below 118 (omega arith)) (record { made = act action.ElseIf; does = λ vs rest. refl })

-- elses = "else" exprs
pub raw_119 : (t0 : Placed) → class_of t0.kind ≡ 58 → (ts1 : List Placed) (v1 : Val sort.exprs) → R 15 ts1 v1 → R 46 (t0 ∷ ts1) (act action.Else (t0, (v1, tt)))
unfolding language plan
raw_119 = reads language sisal roles 119 (below 119 (omega arith)) (record { made = act action.Else; does = λ vs rest. refl })

-- subject = @name subject_more
pub raw_120 : (t0 : Placed) → class_of t0.kind ≡ 2 → (ts1 : List Placed) (v1 : Val sort.a_rest) → R 48 ts1 v1 → R 47 (t0 ∷ ts1) (act action.NameSubject (t0, (v1, tt)))
unfolding language plan
raw_120 = reads language sisal roles 120 (below 120 (omega arith)) (record { made = act action.NameSubject; does = λ vs rest. refl })

-- subject = o_expr
pub raw_121 : (ts0 : List Placed) (v0 : Val sort.an_expr) → R 49 ts0 v0 → R 47 ts0 (act action.OtherSubject (v0, tt))
unfolding language plan
raw_121 = reads language sisal roles 121 (below 121 (omega arith)) (record { made = act action.OtherSubject; does = λ vs rest. refl })

-- subject_more = ":=" expr
pub raw_122 : (t0 : Placed) → class_of t0.kind ≡ 59 → (ts1 : List Placed) (v1 : Val sort.an_expr) → R 18 ts1 v1 → R 48 (t0 ∷ ts1) (act action.Bound (t0, (v1, tt)))
unfolding language plan
raw_122 = reads language sisal roles 122 (below 122 (omega arith)) (record { made = act action.Bound; does = λ vs rest. refl })

-- subject_more = call posts term_more sum_more cat_more rel_more conj_more expr_more
pub raw_123 : (ts0 : List Placed) (v0 : Val sort.maybe_exprs) → R 40 ts0 v0 → (ts1 : List Placed) (v1 : Val sort.posts) → R 33 ts1 v1 → (ts2 : List Placed) (v2 : Val sort.tail) → R 30 ts2 v2 → (ts3 : List Placed) (v3 : Val sort.tail) → R 28 ts3 v3 → (ts4 : List Placed) (v4 : Val sort.tail) → R 26 ts4 v4 → (ts5 : List Placed) (v5 : Val sort.tail) → R 24 ts5 v5 → (ts6 : List Placed) (v6 : Val sort.tail) → R 21 ts6 v6 → (ts7 : List Placed) (v7 : Val sort.tail) → R 19 ts7 v7 → R 48 (ts0 ++ (ts1 ++ (ts2 ++ (ts3 ++ (ts4 ++ (ts5 ++ (ts6 ++ (ts7)))))))) (act action.Rest (v0, (v1, (v2, (v3, (v4, (v5, (v6, (v7, tt)))))))))
unfolding language plan
raw_123 = reads language sisal roles 123 (below 123 (omega arith)) (record { made = act action.Rest; does = λ vs rest. refl })

-- o_expr = o_conj expr_more
pub raw_124 : (ts0 : List Placed) (v0 : Val sort.an_expr) → R 50 ts0 v0 → (ts1 : List Placed) (v1 : Val sort.tail) → R 19 ts1 v1 → R 49 (ts0 ++ (ts1)) (act action.Chain (v0, (v1, tt)))
unfolding language plan
raw_124 = reads language sisal roles 124 (below 124 (omega arith)) (record { made = act action.Chain; does = λ vs rest. refl })

-- o_conj = o_inv conj_more
pub raw_125 : (ts0 : List Placed) (v0 : Val sort.an_expr) → R 51 ts0 v0 → (ts1 : List Placed) (v1 : Val sort.tail) → R 21 ts1 v1 → R 50 (ts0 ++ (ts1)) (act action.Chain (v0, (v1, tt)))
unfolding language plan
raw_125 = reads language sisal roles 125 (below 125 (omega arith)) (record { made = act action.Chain; does = λ vs rest. refl })

-- o_inv = "~" inv
pub raw_126 : (t0 : Placed) → class_of t0.kind ≡ 29 → (ts1 : List Placed) (v1 : Val sort.an_expr) → R 22 ts1 v1 → R 51 (t0 ∷ ts1) (act action.Prefix (t0, (v1, tt)))
unfolding language plan
raw_126 = reads language sisal roles 126 (below 126 (omega arith)) (record { made = act action.Prefix; does = λ vs rest. refl })

-- o_inv = o_rel
pub raw_127 : (ts0 : List Placed) (v0 : Val sort.an_expr) → R 52 ts0 v0 → R 51 ts0 (act action.SameExpr (v0, tt))
unfolding language plan
raw_127 = reads language sisal roles 127 (below 127 (omega arith)) (record { made = act action.SameExpr; does = λ vs rest. refl })

-- o_rel = o_cat rel_more
pub raw_128 : (ts0 : List Placed) (v0 : Val sort.an_expr) → R 53 ts0 v0 → (ts1 : List Placed) (v1 : Val sort.tail) → R 24 ts1 v1 → R 52 (ts0 ++ (ts1)) (act action.Chain (v0, (v1, tt)))
unfolding language plan
raw_128 = reads language sisal roles 128 (below 128 (omega arith)) (record { made = act action.Chain; does = λ vs rest. refl })

-- o_cat = o_sum cat_more
pub raw_129 : (ts0 : List Placed) (v0 : Val sort.an_expr) → R 54 ts0 v0 → (ts1 : List Placed) (v1 : Val sort.tail) → R 26 ts1 v1 → R 53 (ts0 ++ (ts1)) (act action.Chain (v0, (v1, tt)))
unfolding language plan
raw_129 = reads language sisal roles 129 (below 129 (omega arith)) (record { made = act action.Chain; does = λ vs rest. refl })

-- o_sum = o_term sum_more
pub raw_130 : (ts0 : List Placed) (v0 : Val sort.an_expr) → R 55 ts0 v0 → (ts1 : List Placed) (v1 : Val sort.tail) → R 28 ts1 v1 → R 54 (ts0 ++ (ts1)) (act action.Chain (v0, (v1, tt)))
unfolding language plan
raw_130 = reads language sisal roles 130 (below 130 (omega arith)) (record { made = act action.Chain; does = λ vs rest. refl })

-- o_term = o_neg term_more
pub raw_131 : (ts0 : List Placed) (v0 : Val sort.an_expr) → R 56 ts0 v0 → (ts1 : List Placed) (v1 : Val sort.tail) → R 30 ts1 v1 → R 55 (ts0 ++ (ts1)) (act action.Chain (v0, (v1, tt)))
unfolding language plan
raw_131 = reads language sisal roles 131 (below 131 (omega arith)) (record { made = act action.Chain; does = λ vs rest. refl })

-- o_neg = "-" neg
pub raw_132 : (t0 : Placed) → class_of t0.kind ≡ 37 → (ts1 : List Placed) (v1 : Val sort.an_expr) → R 31 ts1 v1 → R 56 (t0 ∷ ts1) (act action.Prefix (t0, (v1, tt)))
unfolding language plan
raw_132 = reads language sisal roles 132 (below 132 (omega arith)) (record { made = act action.Prefix; does = λ vs rest. refl })

-- o_neg = o_post
pub raw_133 : (ts0 : List Placed) (v0 : Val sort.an_expr) → R 57 ts0 v0 → R 56 ts0 (act action.SameExpr (v0, tt))
unfolding language plan
raw_133 = reads language sisal roles 133 (below 133 (omega arith)) (record { made = act action.SameExpr; does = λ vs rest. refl })

-- o_post = other posts
pub raw_134 : (ts0 : List Placed) (v0 : Val sort.an_expr) → R 41 ts0 v0 → (ts1 : List Placed) (v1 : Val sort.posts) → R 33 ts1 v1 → R 57 (ts0 ++ (ts1)) (act action.Posted (v0, (v1, tt)))
unfolding language plan
raw_134 = reads language sisal roles 134 (below 134 (omega arith)) (record { made = act action.Posted; does = λ vs rest. refl })

-- arms
pub raw_135 : R 58 [] (act action.NoArms tt)
unfolding language plan
raw_135 = reads language sisal roles 135 (below 135 (omega arith)) (record { made = act action.NoArms; does = λ vs rest. refl })

-- arms = arm arms
pub raw_136 : (ts0 : List Placed) (v0 : Val sort.an_arm) → R 59 ts0 v0 → (ts1 : List Placed) (v1 : Val sort.arms) → R 58 ts1 v1 → R 58 (ts0 ++ (ts1)) (act action.MoreArms (v0, (v1, tt)))
unfolding language plan
raw_136 = reads language sisal roles 136 (below 136 (omega arith)) (record { made = act action.MoreArms; does = λ vs rest. refl })

-- arm = "tag" @name names ":" exprs
pub raw_137 : (t0 : Placed) → class_of t0.kind ≡ 60 → (t1 : Placed) → class_of t1.kind ≡ 2 → (ts2 : List Placed) (v2 : Val sort.names) → R 1 ts2 v2 → (t3 : Placed) → class_of t3.kind ≡ 23 → (ts4 : List Placed) (v4 : Val sort.exprs) → R 15 ts4 v4 → R 59 (t0 ∷ (t1 ∷ (ts2 ++ (t3 ∷ ts4)))) (act action.OneArm (t0, (t1, (v2, (t3, (v4, tt))))))
unfolding language plan
raw_137 = reads language sisal roles 137 (below 137 (omega arith)) (record { made = act action.OneArm; does = λ vs rest. refl })

-- otherwise
pub raw_138 : R 60 [] (act action.NoCall tt)
unfolding language plan
raw_138 = reads language sisal roles 138 (below 138 (omega arith)) (record { made = act action.NoCall; does = λ vs rest. refl })

-- otherwise = "otherwise" ":" exprs
pub raw_139 : (t0 : Placed) → class_of t0.kind ≡ 61 → (t1 : Placed) → class_of t1.kind ≡ 23 → (ts2 : List Placed) (v2 : Val sort.exprs) → R 15 ts2 v2 → R 60 (t0 ∷ t1 ∷ ts2) (act action.Otherwise (t0, (t1, (v2, tt))))
unfolding language plan
raw_139 = reads language sisal roles 139 (below 139 (omega arith)) (record { made = act action.Otherwise; does = λ vs rest. refl })

-- loop = group groups body "returns" clause clauses
pub raw_140 : (ts0 : List Placed) (v0 : Val sort.gens) → R 63 ts0 v0 → (ts1 : List Placed) (v1 : Val sort.groups) → R 62 ts1 v1 → (ts2 : List Placed) (v2 : Val sort.defs) → R 68 ts2 v2 → (t3 : Placed) → class_of t3.kind ≡ 25 → (ts4 : List Placed) (v4 : Val sort.a_clause) → R 79 ts4 v4 → (ts5 : List Placed) (v5 : Val sort.clauses) → R 78 ts5 v5 → R 61 (ts0 ++ (ts1 ++ (ts2 ++ (t3 ∷ (ts4 ++ (ts5)))))) (act action.Product (v0, (v1, (v2, (t3, (v4, (v5, tt)))))))
unfolding language plan
raw_140 = reads language sisal roles 140 (below 140 (omega arith)) (record { made = act action.Product; does = λ vs rest. refl })

-- loop = "initial" defs turn "returns" clause clauses
pub raw_141 : (t0 : Placed) → class_of t0.kind ≡ 62 → (ts1 : List Placed) (v1 : Val sort.defs) → R 69 ts1 v1 → (ts2 : List Placed) (v2 : Val sort.a_turn) → R 76 ts2 v2 → (t3 : Placed) → class_of t3.kind ≡ 25 → (ts4 : List Placed) (v4 : Val sort.a_clause) → R 79 ts4 v4 → (ts5 : List Placed) (v5 : Val sort.clauses) → R 78 ts5 v5 → R 61 (t0 ∷ (ts1 ++ (ts2 ++ (t3 ∷ (ts4 ++ (ts5)))))) (act action.Initial (t0, (v1, (v2, (t3, (v4, (v5, tt)))))))
unfolding language plan
raw_141 = reads language sisal roles 141 (below 141 (omega arith)) (record { made = act action.Initial; does = λ vs rest. refl })

-- groups
pub raw_142 : R 62 [] (act action.NoGroups tt)
unfolding language plan
raw_142 = reads language sisal roles 142 (below 142 (omega arith)) (record { made = act action.NoGroups; does = λ vs rest. refl })

-- groups = "cross" group groups
pub raw_143 : (t0 : Placed) → class_of t0.kind ≡ 63 → (ts1 : List Placed) (v1 : Val sort.gens) → R 63 ts1 v1 → (ts2 : List Placed) (v2 : Val sort.groups) → R 62 ts2 v2 → R 62 (t0 ∷ (ts1 ++ (ts2))) (act action.MoreGroups (t0, (v1, (v2, tt))))
unfolding language plan
raw_143 = reads language sisal roles 143 (below 143 (omega arith)) (record { made = act action.MoreGroups; does = λ vs rest. refl })

-- group = gen gens
pub raw_144 : (ts0 : List Placed) (v0 : Val sort.a_gen) → R 65 ts0 v0 → (ts1 : List Placed) (v1 : Val sort.gens) → R 64 ts1 v1 → R 63 (ts0 ++ (ts1)) (act action.Gens (v0, (v1, tt)))
unfolding language plan
raw_144 = reads language sisal roles 144 (below 144 (omega arith)) (record { made = act action.Gens; does = λ vs rest. refl })

-- gens
pub raw_145 : R 64 [] (act action.NoGens tt)
unfolding language plan
raw_145 = reads language sisal roles 145 (below 145 (omega arith)) (record { made = act action.NoGens; does = λ vs rest. refl })

-- gens = "dot" gen gens
pub raw_146 : (t0 : Placed) → class_of t0.kind ≡ 64 → (ts1 : List Placed) (v1 : Val sort.a_gen) → R 65 ts1 v1 → (ts2 : List Placed) (v2 : Val sort.gens) → R 64 ts2 v2 → R 64 (t0 ∷ (ts1 ++ (ts2))) (act action.MoreGens (t0, (v1, (v2, tt))))
unfolding language plan
raw_146 = reads language sisal roles 146 (below 146 (omega arith)) (record { made = act action.MoreGens; does = λ vs rest. refl })

-- gen = @name "in" expr to at
pub raw_147 : (t0 : Placed) → class_of t0.kind ≡ 2 → (t1 : Placed) → class_of t1.kind ≡ 52 → (ts2 : List Placed) (v2 : Val sort.an_expr) → R 18 ts2 v2 → (ts3 : List Placed) (v3 : Val sort.maybe_expr) → R 66 ts3 v3 → (ts4 : List Placed) (v4 : Val sort.maybe_name) → R 67 ts4 v4 → R 65 (t0 ∷ (t1 ∷ (ts2 ++ (ts3 ++ (ts4))))) (act action.OneGen (t0, (t1, (v2, (v3, (v4, tt))))))
unfolding language plan
raw_147 = reads language sisal roles 147 (below 147 (omega arith)) (record { made = act action.OneGen; does = λ vs rest. refl })

-- to
pub raw_148 : R 66 [] (act action.NoExpr tt)
unfolding language plan
raw_148 = reads language sisal roles 148 (below 148 (omega arith)) (record { made = act action.NoExpr; does = λ vs rest. refl })

-- to = "," expr
pub raw_149 : (t0 : Placed) → class_of t0.kind ≡ 3 → (ts1 : List Placed) (v1 : Val sort.an_expr) → R 18 ts1 v1 → R 66 (t0 ∷ ts1) (act action.SomeExpr (t0, (v1, tt)))
unfolding language plan
raw_149 = reads language sisal roles 149 (below 149 (omega arith)) (record { made = act action.SomeExpr; does = λ vs rest. refl })

-- at
pub raw_150 : R 67 [] (act action.NoName tt)
unfolding language plan
raw_150 = reads language sisal roles 150 (below 150 (omega arith)) (record { made = act action.NoName; does = λ vs rest. refl })

-- at = "at" @name
pub raw_151 : (t0 : Placed) → class_of t0.kind ≡ 65 → (t1 : Placed) → class_of t1.kind ≡ 2 → R 67 (t0 ∷ t1 ∷ []) (act action.AtName (t0, (t1, tt)))
unfolding language plan
raw_151 = reads language sisal roles 151 (below 151 (omega arith)) (record { made = act action.AtName; does = λ vs rest. refl })

-- body
pub raw_152 : R 68 [] (act action.NoDefs tt)
unfolding language plan
raw_152 = reads language sisal roles 152 (below 152 (omega arith)) (record { made = act action.NoDefs; does = λ vs rest. refl })

-- body = defs
pub raw_153 : (ts0 : List Placed) (v0 : Val sort.defs) → R 69 ts0 v0 → R 68 ts0 (act action.SameDefs (v0, tt))
unfolding language plan
raw_153 = reads language sisal roles 153 (below 153 (omega arith)) (record { made = act action.SameDefs; does = λ vs rest. refl })

-- defs = def defs_more
pub raw_154 : (ts0 : List Placed) (v0 : Val sort.a_def) → R 72 ts0 v0 → (ts1 : List Placed) (v1 : Val sort.defs) → R 70 ts1 v1 → R 69 (ts0 ++ (ts1)) (act action.Defs (v0, (v1, tt)))
unfolding language plan
raw_154 = reads language sisal roles 154 (below 154 (omega arith)) (record { made = act action.Defs; does = λ vs rest. refl })

-- defs_more
pub raw_155 : R 70 [] (act action.NoDefs tt)
unfolding language plan
raw_155 = reads language sisal roles 155 (below 155 (omega arith)) (record { made = act action.NoDefs; does = λ vs rest. refl })

-- defs_more = ";" defs_rest
pub raw_156 : (t0 : Placed) → class_of t0.kind ≡ 4 → (ts1 : List Placed) (v1 : Val sort.defs) → R 71 ts1 v1 → R 70 (t0 ∷ ts1) (act action.SemiDefs (t0, (v1, tt)))
unfolding language plan
raw_156 = reads language sisal roles 156 (below 156 (omega arith)) (record { made = act action.SemiDefs; does = λ vs rest. refl })

-- defs_rest
pub raw_157 : R 71 [] (act action.NoDefs tt)
unfolding language plan
raw_157 = reads language sisal roles 157 (below 157 (omega arith)) (record { made = act action.NoDefs; does = λ vs rest. refl })

-- defs_rest = def defs_more
pub raw_158 : (ts0 : List Placed) (v0 : Val sort.a_def) → R 72 ts0 v0 → (ts1 : List Placed) (v1 : Val sort.defs) → R 70 ts1 v1 → R 71 (ts0 ++ (ts1)) (act action.Defs (v0, (v1, tt)))
unfolding language plan
raw_158 = reads language sisal roles 158 (below 158 (omega arith)) (record { made = act action.Defs; does = λ vs rest. refl })

-- def = target targets ":=" exprs
pub raw_159 : (ts0 : List Placed) (v0 : Val sort.a_target) → R 74 ts0 v0 → (ts1 : List Placed) (v1 : Val sort.targets) → R 73 ts1 v1 → (t2 : Placed) → class_of t2.kind ≡ 59 → (ts3 : List Placed) (v3 : Val sort.exprs) → R 15 ts3 v3 → R 72 (ts0 ++ (ts1 ++ (t2 ∷ ts3))) (act action.OneDef (v0, (v1, (t2, (v3, tt)))))
unfolding language plan
raw_159 = reads language sisal roles 159 (below 159 (omega arith)) (record { made = act action.OneDef; does = λ vs rest. refl })

-- targets
pub raw_160 : R 73 [] (act action.NoTargets tt)
unfolding language plan
raw_160 = reads language sisal roles 160 (below 160 (omega arith)) (record { made = act action.NoTargets; does = λ vs rest. refl })

-- targets = "," target targets
pub raw_161 : (t0 : Placed) → class_of t0.kind ≡ 3 → (ts1 : List Placed) (v1 : Val sort.a_target) → R 74 ts1 v1 → (ts2 : List Placed) (v2 : Val sort.targets) → R 73 ts2 v2 → R 73 (t0 ∷ (ts1 ++ (ts2))) (act action.MoreTargets (t0, (v1, (v2, tt))))
unfolding language plan
raw_161 = reads language sisal roles 161 (below 161 (omega arith)) (record { made = act action.MoreTargets; does = λ vs rest. refl })

-- target = @name of_type
pub raw_162 : (t0 : Placed) → class_of t0.kind ≡ 2 → (ts1 : List Placed) (v1 : Val sort.maybe_type) → R 75 ts1 v1 → R 74 (t0 ∷ ts1) (act action.OneTarget (t0, (v1, tt)))
unfolding language plan
raw_162 = reads language sisal roles 162 (below 162 (omega arith)) (record { made = act action.OneTarget; does = λ vs rest. refl })

-- of_type
pub raw_163 : R 75 [] (act action.NoType tt)
unfolding language plan
raw_163 = reads language sisal roles 163 (below 163 (omega arith)) (record { made = act action.NoType; does = λ vs rest. refl })

-- of_type = ":" type
pub raw_164 : (t0 : Placed) → class_of t0.kind ≡ 23 → (ts1 : List Placed) (v1 : Val sort.a_type) → R 5 ts1 v1 → R 75 (t0 ∷ ts1) (act action.SomeType (t0, (v1, tt)))
unfolding language plan
raw_164 = reads language sisal roles 164 (below 164 (omega arith)) (record { made = act action.SomeType; does = λ vs rest. refl })

-- turn = test "repeat" defs
pub raw_165 : (ts0 : List Placed) (v0 : Val sort.a_test) → R 77 ts0 v0 → (t1 : Placed) → class_of t1.kind ≡ 66 → (ts2 : List Placed) (v2 : Val sort.defs) → R 69 ts2 v2 → R 76 (ts0 ++ (t1 ∷ ts2)) (act action.TestFirst (v0, (t1, (v2, tt))))
unfolding language plan
raw_165 = reads language sisal roles 165 (below 165 (omega arith)) (record { made = act action.TestFirst; does = λ vs rest. refl })

-- turn = "repeat" defs test
pub raw_166 : (t0 : Placed) → class_of t0.kind ≡ 66 → (ts1 : List Placed) (v1 : Val sort.defs) → R 69 ts1 v1 → (ts2 : List Placed) (v2 : Val sort.a_test) → R 77 ts2 v2 → R 76 (t0 ∷ (ts1 ++ (ts2))) (act action.TestLast (t0, (v1, (v2, tt))))
unfolding language plan
raw_166 = reads language sisal roles 166 (below 166 (omega arith)) (record { made = act action.TestLast; does = λ vs rest. refl })

-- test = "while" expr
pub raw_167 : (t0 : Placed) → class_of t0.kind ≡ 67 → (ts1 : List Placed) (v1 : Val sort.an_expr) → R 18 ts1 v1 → R 77 (t0 ∷ ts1) (act action.OneTest (t0, (v1, tt)))
unfolding language plan
raw_167 = reads language sisal roles 167 (below 167 (omega arith)) (record { made = act action.OneTest; does = λ vs rest. refl })

-- test = "until" expr
pub raw_168 : (t0 : Placed) → class_of t0.kind ≡ 68 → (ts1 : List Placed) (v1 : Val sort.an_expr) → R 18 ts1 v1 → R 77 (t0 ∷ ts1) (act action.OneTest (t0, (v1, tt)))
unfolding language plan
raw_168 = reads language sisal roles 168 (below 168 (omega arith)) (record { made = act action.OneTest; does = λ vs rest. refl })

-- clauses
pub raw_169 : R 78 [] (act action.NoClauses tt)
unfolding language plan
raw_169 = reads language sisal roles 169 (below 169 (omega arith)) (record { made = act action.NoClauses; does = λ vs rest. refl })

-- clauses = clause clauses
pub raw_170 : (ts0 : List Placed) (v0 : Val sort.a_clause) → R 79 ts0 v0 → (ts1 : List Placed) (v1 : Val sort.clauses) → R 78 ts1 v1 → R 78 (ts0 ++ (ts1)) (act action.MoreClauses (v0, (v1, tt)))
unfolding language plan
raw_170 = reads language sisal roles 170 (below 170 (omega arith)) (record { made = act action.MoreClauses; does = λ vs rest. refl })

-- clause = "array" "of" expr mask
pub raw_171 : (t0 : Placed) → class_of t0.kind ≡ 17 → (t1 : Placed) → class_of t1.kind ≡ 69 → (ts2 : List Placed) (v2 : Val sort.an_expr) → R 18 ts2 v2 → (ts3 : List Placed) (v3 : Val sort.maybe_mask) → R 82 ts3 v3 → R 79 (t0 ∷ (t1 ∷ (ts2 ++ (ts3)))) (act action.Gathered (t0, (t1, (v2, (v3, tt)))))
unfolding language plan
raw_171 = reads language sisal roles 171 (below 171 (omega arith)) (record { made = act action.Gathered; does = λ vs rest. refl })

-- clause = "stream" "of" expr mask
pub raw_172 : (t0 : Placed) → class_of t0.kind ≡ 20 → (t1 : Placed) → class_of t1.kind ≡ 69 → (ts2 : List Placed) (v2 : Val sort.an_expr) → R 18 ts2 v2 → (ts3 : List Placed) (v3 : Val sort.maybe_mask) → R 82 ts3 v3 → R 79 (t0 ∷ (t1 ∷ (ts2 ++ (ts3)))) (act action.Gathered (t0, (t1, (v2, (v3, tt)))))
unfolding language plan
raw_172 = reads language sisal roles 172 (below 172 (omega arith)) (record { made = act action.Gathered; does = λ vs rest. refl })

-- clause = "value" "of" fold expr mask
pub raw_173 : (t0 : Placed) → class_of t0.kind ≡ 70 → (t1 : Placed) → class_of t1.kind ≡ 69 → (ts2 : List Placed) (v2 : Val sort.a_kind) → R 80 ts2 v2 → (ts3 : List Placed) (v3 : Val sort.an_expr) → R 18 ts3 v3 → (ts4 : List Placed) (v4 : Val sort.maybe_mask) → R 82 ts4 v4 → R 79 (t0 ∷ (t1 ∷ (ts2 ++ (ts3 ++ (ts4))))) (act action.Valued (t0, (t1, (v2, (v3, (v4, tt))))))
unfolding language plan
raw_173 = reads language sisal roles 173 (below 173 (omega arith)) (record { made = act action.Valued; does = λ vs rest. refl })

-- fold
pub raw_174 : R 80 [] (act action.NoFold tt)
unfolding language plan
raw_174 = reads language sisal roles 174 (below 174 (omega arith)) (record { made = act action.NoFold; does = λ vs rest. refl })

-- fold = red
pub raw_175 : (ts0 : List Placed) (v0 : Val sort.a_reduction) → R 81 ts0 v0 → R 80 ts0 (act action.PlainFold (v0, tt))
unfolding language plan
raw_175 = reads language sisal roles 175 (below 175 (omega arith)) (record { made = act action.PlainFold; does = λ vs rest. refl })

-- fold = "left" red
pub raw_176 : (t0 : Placed) → class_of t0.kind ≡ 71 → (ts1 : List Placed) (v1 : Val sort.a_reduction) → R 81 ts1 v1 → R 80 (t0 ∷ ts1) (act action.Directed (t0, (v1, tt)))
unfolding language plan
raw_176 = reads language sisal roles 176 (below 176 (omega arith)) (record { made = act action.Directed; does = λ vs rest. refl })

-- fold = "right" red
pub raw_177 : (t0 : Placed) → class_of t0.kind ≡ 72 → (ts1 : List Placed) (v1 : Val sort.a_reduction) → R 81 ts1 v1 → R 80 (t0 ∷ ts1) (act action.Directed (t0, (v1, tt)))
unfolding language plan
raw_177 = reads language sisal roles 177 (below 177 (omega arith)) (record { made = act action.Directed; does = λ vs rest. refl })

-- fold = "tree" red
pub raw_178 : (t0 : Placed) → class_of t0.kind ≡ 73 → (ts1 : List Placed) (v1 : Val sort.a_reduction) → R 81 ts1 v1 → R 80 (t0 ∷ ts1) (act action.Directed (t0, (v1, tt)))
unfolding language plan
raw_178 = reads language sisal roles 178 (below 178 (omega arith)) (record { made = act action.Directed; does = λ vs rest. refl })

-- red = "sum"
pub raw_179 : (t0 : Placed) → class_of t0.kind ≡ 74 → R 81 (t0 ∷ []) (act action.Reduced (t0, tt))
unfolding language plan
raw_179 = reads language sisal roles 179 (below 179 (omega arith)) (record { made = act action.Reduced; does = λ vs rest. refl })

-- red = "product"
pub raw_180 : (t0 : Placed) → class_of t0.kind ≡ 75 → R 81 (t0 ∷ []) (act action.Reduced (t0, tt))
unfolding language plan
raw_180 = reads language sisal roles 180 (below 180 (omega arith)) (record { made = act action.Reduced; does = λ vs rest. refl })

-- red = "least"
pub raw_181 : (t0 : Placed) → class_of t0.kind ≡ 76 → R 81 (t0 ∷ []) (act action.Reduced (t0, tt))
unfolding language plan
raw_181 = reads language sisal roles 181 (below 181 (omega arith)) (record { made = act action.Reduced; does = λ vs rest. refl })

-- red = "greatest"
pub raw_182 : (t0 : Placed) → class_of t0.kind ≡ 77 → R 81 (t0 ∷ []) (act action.Reduced (t0, tt))
unfolding language plan
raw_182 = reads language sisal roles 182 (below 182 (omega arith)) (record { made = act action.Reduced; does = λ vs rest. refl })

-- red = "catenate"
pub raw_183 : (t0 : Placed) → class_of t0.kind ≡ 78 → R 81 (t0 ∷ []) (act action.Reduced (t0, tt))
unfolding language plan
raw_183 = reads language sisal roles 183 (below 183 (omega arith)) (record { made = act action.Reduced; does = λ vs rest. refl })

-- mask
pub raw_184 : R 82 [] (act action.NoMask tt)
unfolding language plan
raw_184 = reads language sisal roles 184 (below 184 (omega arith)) (record { made = act action.NoMask; does = λ vs rest. refl })

-- mask = "when" expr
pub raw_185 : (t0 : Placed) → class_of t0.kind ≡ 79 → (ts1 : List Placed) (v1 : Val sort.an_expr) → R 18 ts1 v1 → R 82 (t0 ∷ ts1) (act action.SomeMask (t0, (v1, tt)))
unfolding language plan
raw_185 = reads language sisal roles 185 (below 185 (omega arith)) (record { made = act action.SomeMask; does = λ vs rest. refl })

-- mask = "unless" expr
pub raw_186 : (t0 : Placed) → class_of t0.kind ≡ 80 → (ts1 : List Placed) (v1 : Val sort.an_expr) → R 18 ts1 v1 → R 82 (t0 ∷ ts1) (act action.SomeMask (t0, (v1, tt)))
unfolding language plan
raw_186 = reads language sisal roles 186 (below 186 (omega arith)) (record { made = act action.SomeMask; does = λ vs rest. refl })
