-- What is spelled is derived by the table, with its value.
use Rattle.std.proofs.Common.{◌≡◌, ℕ, List, [], ◌∷◌, ◌++◌, Option, Some, None, ◌⊎◌, inl, inr, refl, sym, ◌∙◌, ap, subst, append_assoc}
use Rattle.sisal_tree.specs.Word.TheVariants as word
use Rattle.sisal_tree.specs.Sign.TheVariants as sign
use Rattle.sisal_tree.specs.declared.unit.Field.{Field}
use Rattle.sisal_tree.specs.declared.expr.Expr.{Expr}
use Rattle.sisal_tree.specs.declared.expr.ExprKind.TheVariants as tree
use Rattle.sisal_tree.specs.declared.expr.BinaryOperator.{BinaryOperator}
use Rattle.sisal_tree.specs.declared.expr.FieldValue.{FieldValue}
use Rattle.sisal_tree.specs.declared.expr.Loop.TheVariants as loop
use Rattle.sisal_tree.specs.declared.expr.Def.{Def}
use Rattle.sisal_tree.specs.declared.expr.Arm.{Arm}
use Rattle.sisal_tree.specs.declared.expr.Generator.{Generator}
use Rattle.sisal_tree.specs.declared.expr.Turn.{Turn}
use Rattle.sisal_tree.specs.declared.expr.Clause.{Clause}
use Rattle.sisal_grammar.specs.declared.value.Placed.{Placed}
use Rattle.sisal_grammar.specs.declared.value.Bracket.TheVariants as bracket
use Rattle.sisal_grammar.specs.declared.value.Selector.{Selector}
use Rattle.sisal_grammar.specs.declared.value.Selector.TheVariants as select
use Rattle.sisal_grammar.specs.declared.value.Subject.{Subject}
use Rattle.sisal_grammar.specs.declared.value.ExprRest.{ExprRest}
use Rattle.sisal_grammar.specs.declared.value.SubjectRest.TheVariants as more_is
use Rattle.sisal_grammar.specs.Acts.{at, span, chained, posted, called, rest_of, tag_case}
use Rattle.sisal_grammar.specs.Phrases.{Phrase, ElseIf, Meant, many, maybe, definition, fields, exprs, rel, cat, selector, prim, arm, defs, clause, mask, name, comma_name, semicolon, semi_field, semi_tagf, comma_type, colon_type, comma_expr, colon_expr, or_conj, and_inv, comparison, or_sum, sum_term, term_neg, semi_fv, elements, else_if, binding, otherwise, semi_def, comma_target, cross_group, dot_gen, at_name, folding, direction}
use Rattle.sisal_grammar.specs.Spells as spells
use Rattle.sisal_grammar.specs.Spells.{Spells, IsWord, IsSign, IsName, listed, compared, nested}
use Rattle.sisal_grammar.proofs.Goals.{Grown, NamedPrim, NamedPost, NamedTerm, NamedSum, NamedCat, NamedRel, NamedConj, NamedExpr, FieldsParts, Places, Indices, Goal}
use Rattle.sisal_grammar.proofs.Joins.{tail_is, regrouped, loop_tokens, product_tokens}
use Rattle.sisal_grammar.proofs.Saying.{as_tail}
use Rattle.sisal_grammar.proofs.Raws.{R}
use Rattle.sisal_grammar.proofs.Reading.{read_0, read_1, read_2, read_3, read_4, read_5, read_6, read_7, read_8, read_9, read_10, read_11, read_12, read_13, read_14, read_15, read_16, read_17, read_18, read_19, read_20, read_21, read_22, read_23, read_24, read_25, read_26, read_27, read_28, read_29, read_30, read_31, read_32, read_33, read_34, read_35, read_36, read_37, read_38, read_39, read_40, read_41, read_42, read_43, read_44, read_45, read_46, read_47, read_48, read_49, read_50, read_51, read_52, read_53, read_54, read_55, read_56, read_57, read_58, read_59, read_60, read_61, read_62, read_63, read_64, read_65, read_66, read_67, read_68, read_69, read_70, read_71, read_72, read_73, read_74, read_75, read_76, read_77, read_78, read_79, read_80, read_81, read_82, read_83, read_84, read_85, read_86, read_87, read_88, read_89, read_90, read_91, read_92, read_93, read_94, read_95, read_96, read_97, read_98, read_99, read_100, read_101, read_102, read_103, read_104, read_105, read_106, read_107, read_108, read_109, read_110, read_111, read_112, read_113, read_114, read_115, read_116, read_117, read_118, read_119, read_120, read_121, read_122, read_123, read_124, read_125, read_126, read_127, read_128, read_129, read_130, read_131, read_132, read_133, read_134, read_135, read_136, read_137, read_138, read_139, read_140, read_141, read_142, read_143, read_144, read_145, read_146, read_147, read_148, read_149, read_150, read_151, read_152, read_153, read_154, read_155, read_156, read_157, read_158, read_159, read_160, read_161, read_162, read_163, read_164, read_165, read_166, read_167, read_168, read_169, read_170, read_171, read_172, read_173, read_174, read_175, read_176, read_177, read_178, read_179, read_180, read_181, read_182, read_183, read_184, read_185, read_186}

-- where there is none
none : (p : Phrase) → Goal (many p) [] []
none definition = read_5
none comma_name = read_1
none semi_field = λ us r. r
none semi_tagf = λ us r. r
none comma_type = read_35
none comma_expr = (read_38, λ u i. read_77 i)
none or_conj = read_43
none and_inv = read_46
none or_sum = read_59
none sum_term = read_62
none term_neg = read_66
none selector = read_72
none semi_fv = λ us r. r
none else_if = λ us es r. r
none arm = read_135
none semi_def = λ us r. r
none comma_target = read_160
none cross_group = read_142
none dot_gen = read_145
none clause = read_169
none _ = tt

-- one more
next : (p : Phrase) (ts us : List Placed) (a : Meant p) (l : List (Meant p)) → Goal p ts a → Goal (many p) us l → Goal (many p) (ts ++ us) (a ∷ l)
next definition ts us a l g k = read_6 g k
next comma_name ts us a l g k = g us l k
next semi_field ts us a l g k = λ vs r. subst (λ z. R 6 z (a ∷ l)) (sym (append_assoc ts us vs)) (g (us ++ vs) l (k vs r))
next semi_tagf ts us a l g k = λ vs r. subst (λ z. R 9 z tt) (sym (append_assoc ts us vs)) (g (us ++ vs) (k vs r))
next comma_type ts us a l g k = g us l k
next comma_expr ts us a l g k = g.0 us l k.0
next or_conj ts us a l g k = g us l k
next and_inv ts us a l g k = g us l k
next or_sum ts us a l g k = g us l k
next sum_term ts us a l g k = g us l k
next term_neg ts us a l g k = g us l k
next selector ts us a l g k = read_73 g k
next semi_fv ts us a l g k = λ vs r. subst (λ z. R 37 z (a ∷ l)) (sym (append_assoc ts us vs)) (g (us ++ vs) l (k vs r))
next else_if ts us a l g k = λ vs es r. subst (λ z. R 46 z (nested (a ∷ l) es)) (sym (append_assoc ts us vs)) (g (us ++ vs) (nested l es) (k vs es r))
next arm ts us a l g k = read_136 g k
next semi_def ts us a l g k = λ vs r. subst (λ z. R 70 z (a ∷ l)) (sym (append_assoc ts us vs)) (g (us ++ vs) l (k vs r))
next comma_target ts us a l g k = g us l k
next cross_group ts us a l g k = g us l k
next dot_gen ts us a l g k = g us l k
next clause ts us a l g k = read_170 g k
next _ ts us a l g k = tt

-- parts of an expression that begins with a name
named_tokens : (ts : List Placed) (e : Expr) (x : NamedExpr ts e) → ts ≡ (((((((x.head.head.head.head.head.head.head.token ∷ x.head.head.head.head.head.head.head.back) ++ x.head.head.head.head.head.head.back) ++ x.head.head.head.head.head.back) ++ x.head.head.head.head.back) ++ x.head.head.head.back) ++ x.head.head.back) ++ x.head.back) ++ x.back
named_tokens ts e x =
    x.tokens ∙ ap (λ z. z ++ x.back) (x.head.tokens ∙ ap (λ z. z ++ x.head.back) (x.head.head.tokens ∙ ap (λ z. z ++ x.head.head.back) (x.head.head.head.tokens ∙ ap (λ z. z ++ x.head.head.head.back)
    (x.head.head.head.head.tokens ∙ ap (λ z. z ++ x.head.head.head.head.back) (x.head.head.head.head.head.tokens ∙ ap (λ z. z ++ x.head.head.head.head.head.back)
    (x.head.head.head.head.head.head.tokens ∙ ap (λ z. z ++ x.head.head.head.head.head.head.back) x.head.head.head.head.head.head.head.tokens))))))

rest_in : (ts : List Placed) (e : Expr) (x : NamedExpr ts e) → ExprRest
rest_in ts e x = record {
  call = x.head.head.head.head.head.head.head.rest;
  posts = x.head.head.head.head.head.head.rest;
  factors = x.head.head.head.head.head.rest;
  terms = x.head.head.head.head.rest;
  parts = x.head.head.head.rest;
  compared = x.head.head.rest;
  all = x.head.rest;
  any = x.rest;
}

named_value : (ts : List Placed) (e : Expr) (x : NamedExpr ts e) → e ≡ rest_of x.head.head.head.head.head.head.head.token (rest_in ts e x)
unfolding rest_in
named_value ts e x =
    x.value ∙ ap (λ z. chained z x.rest) (x.head.value ∙ ap (λ z. chained z x.head.rest) (x.head.head.value ∙ ap (λ z. chained z x.head.head.rest) (x.head.head.head.value ∙ ap (λ z. chained z x.head.head.head.rest)
    (x.head.head.head.head.value ∙ ap (λ z. chained z x.head.head.head.head.rest) (x.head.head.head.head.head.value ∙ ap (λ z. chained z x.head.head.head.head.head.rest)
    (x.head.head.head.head.head.head.value ∙ ap (λ z. posted z x.head.head.head.head.head.head.rest) x.head.head.head.head.head.head.head.value))))))

abbrev as_subject : Expr → Subject
as_subject e = record { name = None; expr = e }

named_subject : (ts : List Placed) (e : Expr) → NamedExpr ts e → R 47 ts (as_subject e)
unfolding rest_in
named_subject ts e x =
    let p : NamedPrim x.head.head.head.head.head.head.front x.head.head.head.head.head.head.first = x.head.head.head.head.head.head.head in
    let back : List Placed = p.back ++ (x.head.head.head.head.head.head.back ++ (x.head.head.head.head.head.back ++ (x.head.head.head.head.back ++ (x.head.head.head.back ++ (x.head.head.back ++ (x.head.back ++ x.back)))))) in
    let tokens : ts ≡ p.token ∷ back = named_tokens ts e x ∙ regrouped (p.token ∷ p.back) x.head.head.head.head.head.head.back x.head.head.head.head.head.back x.head.head.head.head.back x.head.head.head.back x.head.head.back x.head.back x.back in
    let r : R 48 back (more_is.Rest (rest_in ts e x)) = read_123 p.tail x.head.head.head.head.head.head.tail x.head.head.head.head.head.tail x.head.head.head.head.tail x.head.head.head.tail x.head.head.tail x.head.tail x.tail in
    let whole : R 47 (p.token ∷ back) (as_subject (rest_of p.token (rest_in ts e x))) = read_120 p.is_name r in
    subst (λ z. R 47 ts (as_subject z)) (sym (named_value ts e x)) (subst (λ z. R 47 z (as_subject (rest_of p.token (rest_in ts e x)))) (sym tokens) whole)

plain_subject : (ts : List Placed) (e : Expr) → R 49 ts e ⊎ NamedExpr ts e → R 47 ts (as_subject e)
plain_subject ts e (inl r) = read_121 r
plain_subject ts e (inr x) = named_subject ts e x

-- where it is left out
gone : (p : Phrase) → Goal (maybe p) [] None
gone semicolon = (read_3, read_22, read_27, read_81, read_155)
gone fields = read_24
gone colon_type = (read_32, read_163)
gone exprs = read_40
gone comparison = read_51
gone name = read_112
gone elements = read_114
gone colon_expr = read_116
gone binding = λ us e r s. plain_subject us e s
gone otherwise = read_138
gone comma_expr = read_148
gone at_name = read_150
gone defs = read_152
gone folding = read_174
gone direction = λ us r d. read_175 d
gone mask = read_184
gone _ = tt

-- where it stands
there : (p : Phrase) (ts : List Placed) (a : Meant p) → Goal p ts a → Goal (maybe p) ts (Some a)
there semicolon ts a g = g
there fields ts a g = subst (λ z. R 7 ts z) (sym g.value) (subst (λ z. R 7 z (g.first ∷ g.rest)) (sym g.tokens) (read_25 g.head g.tail))
there colon_type ts a g = g
there exprs ts a g = read_41 g.0
there comparison ts a g = g
there name ts a g = g
there elements ts a g = g
there colon_expr ts a g = g
there binding ts a g = λ us e r s. g us e r
there otherwise ts a g = g
there comma_expr ts a g = g.1
there at_name ts a g = g
there defs ts a g = read_153 g
there folding ts a g = g
there direction ts a g = g
there mask ts a g = g
there _ ts a g = tt

-- an operand that goes on
grown : {A : Type 0} {ts us : List Placed} {e : Expr} {l : A} (H : List Placed → Expr → Type 0) (T : List Placed → A → Type 0) (f : Expr → A → Expr) → H ts e → T us l → Grown H T f (ts ++ us) (f e l)
grown {A} {ts} {us} {e} {l} H T f h t = record { front = ts; back = us; first = e; rest = l; tokens = refl; value = refl; head = h; tail = t }

side_post : {ts us : List Placed} {e : Expr} {l : List Selector} → R 41 ts e ⊎ NamedPrim ts e → R 33 us l → R 57 (ts ++ us) (posted e l) ⊎ NamedPost (ts ++ us) (posted e l)
side_post (inl r) t = inl (read_134 r t)
side_post (inr h) t = inr (grown NamedPrim (R 33) posted h t)

side_term : {ts us : List Placed} {e : Expr} {l : List (BinaryOperator × Expr)} → R 56 ts e ⊎ NamedPost ts e → R 30 us l → R 55 (ts ++ us) (chained e l) ⊎ NamedTerm (ts ++ us) (chained e l)
side_term (inl r) t = inl (read_131 r t)
side_term (inr h) t = inr (grown NamedPost (R 30) chained h t)

side_sum : {ts us : List Placed} {e : Expr} {l : List (BinaryOperator × Expr)} → R 55 ts e ⊎ NamedTerm ts e → R 28 us l → R 54 (ts ++ us) (chained e l) ⊎ NamedSum (ts ++ us) (chained e l)
side_sum (inl r) t = inl (read_130 r t)
side_sum (inr h) t = inr (grown NamedTerm (R 28) chained h t)

side_cat : {ts us : List Placed} {e : Expr} {l : List (BinaryOperator × Expr)} → R 54 ts e ⊎ NamedSum ts e → R 26 us l → R 53 (ts ++ us) (chained e l) ⊎ NamedCat (ts ++ us) (chained e l)
side_cat (inl r) t = inl (read_129 r t)
side_cat (inr h) t = inr (grown NamedSum (R 26) chained h t)

side_rel : {ts us : List Placed} {e : Expr} {l : List (BinaryOperator × Expr)} → R 53 ts e ⊎ NamedCat ts e → R 24 us l → R 52 (ts ++ us) (chained e l) ⊎ NamedRel (ts ++ us) (chained e l)
side_rel (inl r) t = inl (read_128 r t)
side_rel (inr h) t = inr (grown NamedCat (R 24) chained h t)

side_conj : {ts us : List Placed} {e : Expr} {l : List (BinaryOperator × Expr)} → R 51 ts e ⊎ NamedRel ts e → R 21 us l → R 50 (ts ++ us) (chained e l) ⊎ NamedConj (ts ++ us) (chained e l)
side_conj (inl r) t = inl (read_125 r t)
side_conj (inr h) t = inr (grown NamedRel (R 21) chained h t)

side_expr : {ts us : List Placed} {e : Expr} {l : List (BinaryOperator × Expr)} → R 50 ts e ⊎ NamedConj ts e → R 19 us l → R 49 (ts ++ us) (chained e l) ⊎ NamedExpr (ts ++ us) (chained e l)
side_expr (inl r) t = inl (read_124 r t)
side_expr (inr h) t = inr (grown NamedConj (R 19) chained h t)

side_neg : {ts : List Placed} {e : Expr} → R 57 ts e ⊎ NamedPost ts e → R 56 ts e ⊎ NamedPost ts e
side_neg (inl r) = inl (read_133 r)
side_neg (inr h) = inr h

side_inv : {ts : List Placed} {e : Expr} → R 52 ts e ⊎ NamedRel ts e → R 51 ts e ⊎ NamedRel ts e
side_inv (inl r) = inl (read_127 r)
side_inv (inr h) = inr h

-- a primary that begins with no name
other : {ts : List Placed} {e : Expr} → R 41 ts e → Goal prim ts e
other r = (read_86 r, inl r)

-- a name, or a call of it
named_prim : (t : Placed) (ts : List Placed) (o : Option (List Expr)) → IsName t → R 40 ts o → Goal prim (t ∷ ts) (called t o)
named_prim t ts o i r = (read_85 i r, inr (record { token = t; back = ts; rest = o; tokens = refl; is_name = i; value = refl; tail = r }))

compare : (ts us : List Placed) (a : Expr) (c : Option (BinaryOperator × Expr)) → Goal cat ts a → R 24 us (as_tail c) → Goal rel (ts ++ us) (compared a c)
compare ts us a c g r = subst (λ z. Goal rel (ts ++ us) z) (sym (tail_is a c)) (read_50 g.0 r, side_rel g.1 r)

places : (ts us : List Placed) (e : Expr) (l : List Expr) → R 18 ts e → R 16 us l × Indices us l → Places (ts ++ us) (e ∷ l)
places ts us e l r k = λ t u i j. subst (λ z. R 34 (t ∷ z) (select.At (e ∷ l))) (sym (append_assoc ts us (u ∷ []))) (read_74 i r (k.1 u j))

indices : (t : Placed) (ts us : List Placed) (e : Expr) (l : List Expr) → IsSign sign.SComma t → R 18 ts e → R 16 us l → Indices ((t ∷ ts) ++ us) (e ∷ l)
indices t ts us e l i r k = λ u j. subst (λ z. R 35 (t ∷ z) (bracket.Further (e ∷ l))) (sym (append_assoc ts us (u ∷ []))) (read_78 i r k j)

record_read : (t u v : Placed) (ts : List Placed) (l : List Field) → IsWord word.WRecord t → IsSign sign.SOpenBracket u → FieldsParts ts l → IsSign sign.SCloseBracket v → R 5 (t ∷ u ∷ (ts ++ (v ∷ []))) (span t v)
record_read t u v ts l i j g k =
    let tokens : g.front ++ (g.back ++ (v ∷ [])) ≡ ts ++ (v ∷ []) = sym (append_assoc g.front g.back (v ∷ [])) ∙ ap (λ z. z ++ (v ∷ [])) (sym g.tokens) in
    subst (λ z. R 5 (t ∷ u ∷ z) (span t v)) tokens (read_20 i j g.head g.tail k)

union_read : (t u v : Placed) (ts us vs : List Placed) → IsWord word.WUnion t → IsSign sign.SOpenBracket u → R 11 ts tt → R 9 (us ++ vs) tt → IsSign sign.SCloseBracket v → R 5 (t ∷ u ∷ (ts ++ (us ++ (vs ++ (v ∷ []))))) (span t v)
union_read t u v ts us vs i j d e k = subst (λ z. R 5 (t ∷ u ∷ (ts ++ z)) (span t v)) (append_assoc us vs (v ∷ [])) (read_21 i j d e k)

replace_read : (t u v : Placed) (ts us vs : List Placed) (f : FieldValue) (l : List FieldValue) → IsWord word.WReplace t → IsSign sign.SOpenBracket u → R 36 ts f → R 37 (us ++ vs) l → IsSign sign.SCloseBracket v
    → R 34 (t ∷ u ∷ (ts ++ (us ++ (vs ++ (v ∷ []))))) (select.Replace (f ∷ l))
replace_read t u v ts us vs f l i j d e k = subst (λ z. R 34 (t ∷ u ∷ (ts ++ z)) (select.Replace (f ∷ l))) (append_assoc us vs (v ∷ [])) (read_76 i j d e k)

made_record_read : (t u v : Placed) (ns ts us vs : List Placed) (n : Option ℕ) (f : FieldValue) (l : List FieldValue) → IsWord word.WRecord t → R 43 ns n → IsSign sign.SOpenBracket u → R 36 ts f → R 37 (us ++ vs) l → IsSign sign.SCloseBracket v
    → R 41 (t ∷ (ns ++ (u ∷ (ts ++ (us ++ (vs ++ (v ∷ []))))))) (at t.line (tree.Record n (f ∷ l)))
made_record_read t u v ns ts us vs n f l i m j d e k = subst (λ z. R 41 (t ∷ (ns ++ (u ∷ (ts ++ z)))) (at t.line (tree.Record n (f ∷ l)))) (append_assoc us vs (v ∷ [])) (read_104 i m j d e k)

if_read : (t u v w x : Placed) (ts us vs ws : List Placed) (e : Expr) (es fs : List Expr) (l : List ElseIf) → IsWord word.WIf t → R 18 ts e → IsWord word.WThen u → R 15 us es
    → R 46 (vs ++ (v ∷ ws)) (nested l fs) → IsWord word.WEnd w → IsWord word.WIf x
    → R 41 (t ∷ (ts ++ (u ∷ (us ++ (vs ++ (v ∷ (ws ++ (w ∷ x ∷ [])))))))) (at t.line (tree.If e es (nested l fs)))
if_read t u v w x ts us vs ws e es fs l i d j g k m n =
    subst (λ z. R 41 (t ∷ (ts ++ (u ∷ (us ++ z)))) (at t.line (tree.If e es (nested l fs)))) (append_assoc vs (v ∷ ws) (w ∷ x ∷ [])) (read_107 i d j g k m n)

else_if_read : (t u : Placed) (ts us : List Placed) (e : Expr) (es : List Expr) → IsWord word.WElseif t → R 18 ts e → IsWord word.WThen u → R 15 us es
    → Goal else_if (t ∷ (ts ++ (u ∷ us))) (record { line = t.line; test = e; results = es })
else_if_read t u ts us e es i d j g = λ vs fs r. subst (λ z. R 46 (t ∷ z) (at t.line (tree.If e es fs) ∷ [])) (sym (append_assoc ts (u ∷ us) vs)) (read_118 i d j g r)

case_read : (t u v : Placed) (ts us vs ws xs : List Placed) (n : Option ℕ) (e : Expr) (a : Arm) (l : List Arm) (o : Option (List Expr)) → IsWord word.WTagcase t
    → R 47 (ts ++ us) (record { name = n; expr = e }) → R 59 vs a → R 58 ws l → R 60 xs o → IsWord word.WEnd u → IsWord word.WTagcase v
    → R 41 (t ∷ (ts ++ (us ++ (vs ++ (ws ++ (xs ++ (u ∷ v ∷ []))))))) (at t.line (tree.TagCase (tag_case (record { name = n; expr = e }) (a ∷ l) o)))
case_read t u v ts us vs ws xs n e a l o i d k m p q r =
    subst (λ z. R 41 (t ∷ z) (at t.line (tree.TagCase (tag_case (record { name = n; expr = e }) (a ∷ l) o)))) (append_assoc ts us (vs ++ (ws ++ (xs ++ (u ∷ v ∷ []))))) (read_108 i d k m p q r)

product_read : (t u v w : Placed) (ts us vs ws xs : List Placed) (g : List Generator) (gs : List (List Generator)) (ds : List Def) (c : Clause) (cs : List Clause)
    → IsWord word.WFor t → R 63 ts g → R 62 us gs → R 68 vs ds → IsWord word.WReturns u → R 79 ws c → R 78 xs cs → IsWord word.WEnd v → IsWord word.WFor w
    → R 41 (t ∷ (ts ++ (us ++ (vs ++ (u ∷ (ws ++ (xs ++ (v ∷ w ∷ [])))))))) (at t.line (tree.For (loop.Product (g ∷ gs) ds (c ∷ cs))))
product_read t u v w ts us vs ws xs g gs ds c cs i a b d j e k m n =
    subst (λ z. R 41 (t ∷ z) (at t.line (tree.For (loop.Product (g ∷ gs) ds (c ∷ cs))))) (sym (product_tokens ts us vs u ws xs (v ∷ w ∷ []))) (read_109 i (read_140 a b d j e k) m n)

initial_read : (t u v w x : Placed) (ts us vs ws : List Placed) (ds : List Def) (r : Turn) (c : Clause) (cs : List Clause)
    → IsWord word.WFor t → IsWord word.WInitial u → R 69 ts ds → R 76 us r → IsWord word.WReturns v → R 79 vs c → R 78 ws cs → IsWord word.WEnd w → IsWord word.WFor x
    → R 41 (t ∷ u ∷ (ts ++ (us ++ (v ∷ (vs ++ (ws ++ (w ∷ x ∷ []))))))) (at t.line (tree.For (loop.Initial ds r (c ∷ cs))))
initial_read t u v w x ts us vs ws ds r c cs i y a b j e k m n =
    subst (λ z. R 41 (t ∷ u ∷ z) (at t.line (tree.For (loop.Initial ds r (c ∷ cs))))) (sym (loop_tokens ts us v vs ws (w ∷ x ∷ []))) (read_109 i (read_141 y a b j e k) m n)

-- By the cases of the grammar.
pub read : {p : Phrase} {ts : List Placed} {v : Meant p} → Spells p ts v → Goal p ts v
read (spells.nothing {p}) = none p
read (spells.more {p} {ts} {us} {a} {l} d k) = next p ts us a l (read d) (read k)
read (spells.absent {p}) = gone p
read (spells.present {p} {ts} {a} d) = there p ts a (read d)
read (spells.unit_is i j d s k) = read_0 i j (read d) (read s).0 (read k)
read (spells.comma_name_is i j) = λ us l r. read_2 i j r
read (spells.semicolon_is i) = (read_4 i, read_23 i read_24, read_28 i read_29, read_82 i read_83, read_156 i read_157)
read (spells.a_typedef d) = read d
read (spells.a_fundef d) = read d
read (spells.typedef_is i j k d s) = read_7 i j k (read d) (read s).0
read (spells.forward i j d s) = read_8 i j (read d) (read s).0
read (spells.global i d s) = read_9 i (read d) (read s).0
read (spells.function i d e j k s) = read_10 i (read d) (read e).0 j k (read s).0
read (spells.integer_type i) = read_11 i
read (spells.boolean_type i) = read_12 i
read (spells.character_type i) = read_13 i
read (spells.null_type i) = read_14 i
read (spells.real_type i) = read_15 i
read (spells.double_real_type i) = read_16 i
read (spells.named_type i) = read_17 i
read (spells.array_type i j d k) = read_18 i j (read d) k
read (spells.stream_type i j d k) = read_19 i j (read d) k
read (spells.record_type {t} {u} {v} {ts} {l} i j d k) = record_read t u v ts l i j (read d) k
read (spells.union_type {t} {u} {v} {ts} {us} {vs} i j d e s k) = union_read t u v ts us vs i j (read d) (read e vs (read s).2) k
read (spells.fields_are {ts} {us} {vs} {f} {l} d k s) = record { front = ts; back = us ++ vs; first = f; rest = l; tokens = refl; value = refl; head = read d; tail = read k vs (read s).1 }
read (spells.semi_field_is i d) = λ us l r. read_23 i (read_25 (read d) r)
read (spells.field_is i d j k) = read_26 i (read d) j (read k)
read (spells.tagf_is i d k) = read_31 i (read d) (read k).0
read (spells.semi_tagf_is i d) = λ us r. read_28 i (read_30 (read d) r)
read (spells.colon_type_is i d) = (read_33 i (read d), read_164 i (read d))
read (spells.header_is i j d k e f m) = read_34 i j (read d) k (read e) (read f) m
read (spells.comma_type_is i d) = λ us l r. read_36 i (read d) r
read (spells.exprs_are {ts} {us} {e} {es} d k) = (read_37 (read d).0 (read k).0, places ts us e es (read d).0 (read k))
read (spells.comma_expr_is {t} {ts} {e} i d) = (λ us l r. (read_39 i (read d).0 r, indices t ts us e l i (read d).0 r), read_149 i (read d).0)
read (spells.expr_is d k) = (read_42 (read d).0 (read k), side_expr (read d).1 (read k))
read (spells.or_conj_is i d) = λ us l r. read_44 i (read d).0 r
read (spells.conj_is d k) = (read_45 (read d).0 (read k), side_conj (read d).1 (read k))
read (spells.and_inv_is i d) = λ us l r. read_47 i (read d).0 r
read (spells.not i d) = (read_48 i (read d).0, inl (read_126 i (read d).0))
read (spells.inv_rel d) = (read_49 (read d).0, side_inv (read d).1)
read (spells.rel_is {ts} {us} {a} {c} d k) = compare ts us a c (read d) (read k)
read (spells.equal i d) = read_52 i (read d).0
read (spells.not_equal i d) = read_53 i (read d).0
read (spells.less i d) = read_54 i (read d).0
read (spells.less_equal i d) = read_55 i (read d).0
read (spells.greater i d) = read_56 i (read d).0
read (spells.greater_equal i d) = read_57 i (read d).0
read (spells.cat_is d k) = (read_58 (read d).0 (read k), side_cat (read d).1 (read k))
read (spells.catenate i d) = λ us l r. read_60 i (read d).0 r
read (spells.sum_is d k) = (read_61 (read d).0 (read k), side_sum (read d).1 (read k))
read (spells.plus i d) = λ us l r. read_63 i (read d).0 r
read (spells.minus i d) = λ us l r. read_64 i (read d).0 r
read (spells.term_is d k) = (read_65 (read d).0 (read k), side_term (read d).1 (read k))
read (spells.times i d) = λ us l r. read_67 i (read d).0 r
read (spells.divide i d) = λ us l r. read_68 i (read d).0 r
read (spells.negate i d) = (read_69 i (read d).0, inl (read_132 i (read d).0))
read (spells.neg_post d) = (read_70 (read d).0, side_neg (read d).1)
read (spells.post_is d k) = (read_71 (read d).0 (read k), side_post (read d).1 (read k))
read (spells.at_places {t} {u} {ts} {es} i d j) = (read d).1 t u i j
read (spells.change i d j e k) = read_74 i (read d).0 (read_79 j (read e).0 k)
read (spells.dot i j) = read_75 i j
read (spells.replace {t} {u} {v} {ts} {us} {vs} {f} {l} i j d e s k) = replace_read t u v ts us vs f l i j (read d) (read e vs (read s).3) k
read (spells.fv_is i j d) = read_80 i j (read d).0
read (spells.semi_fv_is i d) = λ us l r. read_82 i (read_84 (read d) r)
read (spells.number {t} {n} e) = other (read_89 t n e)
read (spells.character {t} {c} e) = other (read_90 t c e)
read (spells.text {t} {s} e) = other (read_91 t s e)
read (spells.true_is i) = other (read_92 i)
read (spells.false_is i) = other (read_93 i)
read (spells.nil_is i) = other (read_94 i)
read (spells.a_name {t} i) = named_prim t [] None i read_87
read (spells.old i j) = other (read_95 i j)
read (spells.call {t} {u} {v} {ts} {es} i j d k) = named_prim t (u ∷ (ts ++ (v ∷ []))) (Some (listed es)) i (read_88 j (read d) k)
read (spells.to_integer i j d k) = other (read_96 i j (read d).0 k)
read (spells.to_boolean i j d k) = other (read_97 i j (read d).0 k)
read (spells.to_character i j d k) = other (read_98 i j (read d).0 k)
read (spells.parens i d j) = other (read_99 i (read d).0 j)
read (spells.error_of i j d k) = other (read_100 i j (read d) k)
read (spells.is_error i j k d m) = other (read_101 i (read_110 j) k (read d).0 m)
read (spells.is_tag i j k d m) = other (read_101 i (read_111 j) k (read d).0 m)
read (spells.array i d j e k) = other (read_102 i (read d) j (read e) k)
read (spells.stream i d j e k) = other (read_103 i (read d) j (read e) k)
read (spells.a_record {t} {u} {v} {ts} {us} {vs} {ws} {n} {f} {l} i m j d e s k) = other (made_record_read t u v ts us vs ws n f l i (read m) j (read d) (read e ws (read s).3) k)
read (spells.union i j k m d n) = other (read_105 i j k m (read d) n)
read (spells.name_is i) = read_113 i
read (spells.elements_are d i k) = read_115 (read d).0 i (read k).0
read (spells.colon_expr_is i d) = read_117 i (read d).0
read (spells.let_in i d j e k m) = other (read_106 i (read d) j (read e).0 k m)
read (spells.if_else {t} {u} {v} {w} {x} {ts} {us} {vs} {ws} {e} {es} {fs} {l} i d j g k m h n p) = other (if_read t u v w x ts us vs ws e es fs l i (read d).0 j (read g).0 (read k (v ∷ ws) fs (read_119 m (read h).0)) n p)
read (spells.else_if_is {t} {u} {ts} {us} {e} {es} i d j g) = else_if_read t u ts us e es i (read d).0 j (read g).0
read (spells.tagcase {t} {u} {v} {ts} {us} {vs} {ws} {xs} {n} {e} {a} {l} {o} i b d k m p q r) = other (case_read t u v ts us vs ws xs n e a l o i (read b us e (read d).0 (read d).1) (read k) (read m) (read p) q r)
read (spells.binding_is i j) = λ us e r. read_120 i (read_122 j r)
read (spells.otherwise_is i j d) = read_139 i j (read d).0
read (spells.arm_is i j d k e) = read_137 i j (read d) k (read e).0
read (spells.for_product {t} {u} {v} {w} {ts} {us} {vs} {ws} {xs} {g} {gs} {ds} {c} {cs} i a b d j e k m n) = other (product_read t u v w ts us vs ws xs g gs (listed ds) c cs i (read a) (read b) (read d) j (read e) (read k) m n)
read (spells.for_initial {t} {u} {v} {w} {x} {ts} {us} {vs} {ws} {ds} {r} {c} {cs} i y a b j e k m n) = other (initial_read t u v w x ts us vs ws ds r c cs i y (read a) (read b) j (read e) (read k) m n)
read (spells.cross_group_is i d) = λ us l r. read_143 i (read d) r
read (spells.group_is d k) = read_144 (read d) (read k)
read (spells.dot_gen_is i d) = λ us l r. read_146 i (read d) r
read (spells.gen_is i j d e k) = read_147 i j (read d).0 (read e) (read k)
read (spells.at_name_is i j) = read_151 i j
read (spells.defs_are {vs} e k i) = read_154 (read e) (read k vs (read i).4)
read (spells.semi_def_is i d) = λ us l r. read_156 i (read_158 (read d) r)
read (spells.def_is d e i k) = read_159 (read d) (read e) i (read k).0
read (spells.comma_target_is i d) = λ us l r. read_161 i (read d) r
read (spells.target_is i d) = read_162 i (read d).1
read (spells.test_first d i e) = read_165 (read d) i (read e)
read (spells.test_last i d e) = read_166 i (read d) (read e)
read (spells.while i d) = read_167 i (read d).0
read (spells.until i d) = read_168 i (read d).0
read (spells.array_of i j d k) = read_171 i j (read d).0 (read k)
read (spells.stream_of i j d k) = read_172 i j (read d).0 (read k)
read (spells.value_of i j f d k) = read_173 i j (read f) (read d).0 (read k)
read (spells.folding_is {ts} {us} {d} {r} f k) = read f us r (read k)
read (spells.left i) = λ us r d. read_176 i d
read (spells.right i) = λ us r d. read_177 i d
read (spells.as_tree i) = λ us r d. read_178 i d
read (spells.to_sum i) = read_179 i
read (spells.to_product i) = read_180 i
read (spells.to_least i) = read_181 i
read (spells.to_greatest i) = read_182 i
read (spells.to_catenate i) = read_183 i
read (spells.when i d) = read_185 i (read d).0
read (spells.unless i d) = read_186 i (read d).0
