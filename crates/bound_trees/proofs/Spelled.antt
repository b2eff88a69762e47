-- What a text spells has only literals.
use Rattle.std.proofs.Common.{◌≤◌, ◌<◌, sym, ℕ, List, [], ◌∷◌, ◌++◌, Bool, true, false, Option, Some, None, length, subst, arith}
use Rattle.sisal_tree.specs.declared.unit.Named.{Named}
use Rattle.sisal_tree.specs.declared.expr.Expr.{Expr}
use Rattle.sisal_tree.specs.declared.expr.ExprKind.TheVariants as tree
use Rattle.sisal_tree.specs.declared.expr.Constant.TheVariants as constant
use Rattle.sisal_tree.specs.declared.expr.Scalar.TheVariants as scalar
use Rattle.sisal_tree.specs.declared.expr.PrefixOperator.TheVariants as prefix
use Rattle.sisal_tree.specs.declared.expr.Elements.{roll-Elements}
use Rattle.sisal_tree.specs.declared.expr.Def.{Def, roll-Def}
use Rattle.sisal_tree.specs.declared.expr.Arm.{Arm, roll-Arm}
use Rattle.sisal_tree.specs.declared.expr.Loop.TheVariants as loop
use Rattle.sisal_tree.specs.declared.expr.Generator.{Generator, roll-Generator}
use Rattle.sisal_tree.specs.declared.expr.Turn.{Turn, roll-Turn}
use Rattle.sisal_tree.specs.declared.expr.Clause.{Clause, roll-Clause}
use Rattle.sisal_tree.specs.declared.expr.ClauseKind.{ClauseKind}
use Rattle.sisal_tree.specs.declared.expr.ClauseKind.TheVariants as made_by
use Rattle.sisal_tree.specs.declared.expr.Mask.{Mask}
use Rattle.sisal_grammar.specs.declared.value.Placed.{Placed}
use Rattle.sisal_grammar.specs.Acts.{named, name_in, name_of, at, content, tag_case}
use Rattle.sisal_grammar.specs.Phrases.{Phrase, Meant, many, maybe, and_inv, arm, cat, clause, colon_expr, comma_expr, comparison, conj, cross_group, def, definition, defs, dot_gen, elements, else_if, expr, exprs, fundef, fv, gen, group, header, inv, mask, neg, or_conj, or_sum, otherwise, post, prim, rel, selector, semi_def, semi_fv, sum, sum_term, term, term_neg, test, turn, typedef, unit}
use Rattle.sisal_grammar.specs.Spells as grammar
use Rattle.sisal_grammar.specs.Spells.{Spells, listed, nested, folded}
use Rattle.bound_trees.specs.Leaves.{leaves, a_constant, a_record, a_case}
use Rattle.bound_trees.specs.Tokens.{IsOfText}
use Rattle.bound_trees.proofs.Every.{Each}
use Rattle.bound_trees.proofs.Tokens.{AreTold, left, right, fields_counted, fields_few}
use Rattle.bound_trees.proofs.Literals.{Fine, IfFine, IsFineSelector, IsFineElse, IsFineItem, IsFineHeader, made, both, gathered, groups_fine, chained_fine, compared_fine, posted_fine, listed_fine, array_fine, content_fine, if_fine, nested_fine}
use Rattle.bound_trees.proofs.Forms.{exprs_leaves, values_leaves, value_leaves, defs_leaves, def_leaves, arms_leaves, arm_leaves, clauses_leaves, clause_leaves, generators_leaves, generator_leaves, group_leaves, groups_leaves, turn_leaves, mask_leaves, elements_leaves, case_leaves, loop_leaves, of_value, of_mask, of_arm, of_no_mask, of_a_mask, of_def, of_elements, of_no_end, of_an_end, of_no_otherwise, of_an_otherwise, of_turn, in_constant, in_name, in_old, in_group, in_call, in_convert, in_error_of, in_is_error, in_is_tag, in_prefix, in_stream, in_record, in_union, in_let, in_tag_case, in_for, in_product, in_initial}

-- ---- parts

listed_defs : (o : Option (List Def)) → IfFine (λ ds. Fine (defs_leaves ds)) o → Fine (defs_leaves (listed o))
listed_defs None p = tt
listed_defs (Some ds) p = p

generator_fine : (n : Named) (e : Expr) (o : Option Expr) (x : Option ℕ) → Fine (leaves e) → IfFine (λ f. Fine (leaves f)) o → Fine (generator_leaves (roll-Generator (record { name = n; from = e; to = o; at = x })))
generator_fine n e None x p q = made (generator_leaves (roll-Generator (record { name = n; from = e; to = None; at = x }))) (leaves e ++ []) (of_no_end n e x) (both (leaves e) [] p tt)
generator_fine n e (Some f) x p q = made (generator_leaves (roll-Generator (record { name = n; from = e; to = Some f; at = x }))) (leaves e ++ leaves f) (of_an_end n e f x) (both (leaves e) (leaves f) p q)

turn_fine : (f u : Bool) (e : Expr) (ds : List Def) → Fine (leaves e) → Fine (defs_leaves ds) → Fine (turn_leaves (roll-Turn (record { is_first = f; is_until = u; test = e; defs = ds })))
turn_fine f u e ds p q = made (turn_leaves (roll-Turn (record { is_first = f; is_until = u; test = e; defs = ds }))) (leaves e ++ defs_leaves ds) (of_turn f u e ds) (both (leaves e) (defs_leaves ds) p q)

clause_fine : (l : ℕ) (k : ClauseKind) (e : Expr) (m : Option Mask) → Fine (leaves e) → IfFine (λ m. Fine (mask_leaves m)) m → Fine (clause_leaves (roll-Clause (record { line = l; kind = k; value = e; mask = m })))
clause_fine l k e None p q = made (clause_leaves (roll-Clause (record { line = l; kind = k; value = e; mask = None }))) (leaves e ++ []) (of_no_mask l k e) (both (leaves e) [] p tt)
clause_fine l k e (Some m) p q = made (clause_leaves (roll-Clause (record { line = l; kind = k; value = e; mask = Some m }))) (leaves e ++ mask_leaves m) (of_a_mask l k e m) (both (leaves e) (mask_leaves m) p q)

case_fine : (l : ℕ) (x : Option ℕ) (e : Expr) (bs : List Arm) (o : Option (List Expr)) → 1 ≤ length bs → Fine (leaves e) → Fine (arms_leaves bs) → IfFine (λ es. Fine (exprs_leaves es)) o
    → Fine (leaves (at l (tree.TagCase (tag_case (record { name = x; expr = e }) bs o))))
case_fine l x e bs None some p q r =
    let c = tag_case (record { name = x; expr = e }) bs None in
    made (leaves (at l (tree.TagCase c))) (case_leaves c) (in_tag_case l c) (made (case_leaves c) (a_case (length bs) ∷ leaves e ++ (arms_leaves bs ++ [])) (of_no_otherwise x e bs) (some, both (leaves e) (arms_leaves bs ++ []) p (both (arms_leaves bs) [] q tt)))
case_fine l x e bs (Some es) some p q r =
    let c = tag_case (record { name = x; expr = e }) bs (Some es) in
    made (leaves (at l (tree.TagCase c))) (case_leaves c) (in_tag_case l c)
    (made (case_leaves c) (a_case (length bs) ∷ leaves e ++ (arms_leaves bs ++ exprs_leaves es)) (of_an_otherwise x e bs es) (some, both (leaves e) (arms_leaves bs ++ exprs_leaves es) p (both (arms_leaves bs) (exprs_leaves es) q r)))

product_fine : (l : ℕ) (gs : List (List Generator)) (ds : List Def) (cs : List Clause) → Fine (groups_leaves gs) → Fine (defs_leaves ds) → Fine (clauses_leaves cs) → Fine (leaves (at l (tree.For (loop.Product gs ds cs))))
product_fine l gs ds cs p q r =
    made (leaves (at l (tree.For (loop.Product gs ds cs)))) (loop_leaves (loop.Product gs ds cs)) (in_for l (loop.Product gs ds cs))
    (made (loop_leaves (loop.Product gs ds cs)) (groups_leaves gs ++ (defs_leaves ds ++ clauses_leaves cs)) (in_product gs ds cs)
    (both (groups_leaves gs) (defs_leaves ds ++ clauses_leaves cs) p (both (defs_leaves ds) (clauses_leaves cs) q r)))

initial_fine : (l : ℕ) (ds : List Def) (t : Turn) (cs : List Clause) → Fine (defs_leaves ds) → Fine (turn_leaves t) → Fine (clauses_leaves cs) → Fine (leaves (at l (tree.For (loop.Initial ds t cs))))
initial_fine l ds t cs p q r =
    made (leaves (at l (tree.For (loop.Initial ds t cs)))) (loop_leaves (loop.Initial ds t cs)) (in_for l (loop.Initial ds t cs))
    (made (loop_leaves (loop.Initial ds t cs)) (defs_leaves ds ++ (turn_leaves t ++ clauses_leaves cs)) (in_initial ds t cs)
    (both (defs_leaves ds) (turn_leaves t ++ clauses_leaves cs) p (both (turn_leaves t) (clauses_leaves cs) q r)))

-- ---- phrases

abbrev pub IsFine : ℕ → (p : Phrase) → Meant p → Type 0
IsFine names (many p) l = Each (IsFine names p) l
IsFine names (maybe p) o = IfFine (IsFine names p) o
IsFine names expr a = Fine (leaves a)
IsFine names conj a = Fine (leaves a)
IsFine names inv a = Fine (leaves a)
IsFine names rel a = Fine (leaves a)
IsFine names cat a = Fine (leaves a)
IsFine names sum a = Fine (leaves a)
IsFine names term a = Fine (leaves a)
IsFine names neg a = Fine (leaves a)
IsFine names post a = Fine (leaves a)
IsFine names prim a = Fine (leaves a)
IsFine names comma_expr a = Fine (leaves a)
IsFine names colon_expr a = Fine (leaves a)
IsFine names or_conj a = Fine (leaves a.1)
IsFine names and_inv a = Fine (leaves a.1)
IsFine names comparison a = Fine (leaves a.1)
IsFine names or_sum a = Fine (leaves a.1)
IsFine names sum_term a = Fine (leaves a.1)
IsFine names term_neg a = Fine (leaves a.1)
IsFine names exprs a = Fine (exprs_leaves a)
IsFine names otherwise a = Fine (exprs_leaves a)
IsFine names unit a = Each (IsFineItem names) a.items
IsFine names definition a = IsFineItem names a
IsFine names typedef a = IsFineItem names a
IsFine names fundef a = IsFineItem names a
IsFine names header a = IsFineHeader names a
IsFine names selector a = IsFineSelector a
IsFine names fv a = Fine (value_leaves a)
IsFine names semi_fv a = Fine (value_leaves a)
IsFine names arm a = Fine (arm_leaves a)
IsFine names defs a = Fine (defs_leaves a)
IsFine names def a = Fine (def_leaves a)
IsFine names semi_def a = Fine (def_leaves a)
IsFine names group a = Fine (group_leaves a)
IsFine names cross_group a = Fine (group_leaves a)
IsFine names gen a = Fine (generator_leaves a)
IsFine names dot_gen a = Fine (generator_leaves a)
IsFine names turn a = Fine (turn_leaves a)
IsFine names test a = Fine (leaves a.test)
IsFine names clause a = Fine (clause_leaves a)
IsFine names mask a = Fine (mask_leaves a)
IsFine names elements a = Fine (elements_leaves a)
IsFine names else_if a = IsFineElse a
IsFine names _ a = Unit {0}

name_low : (names : ℕ) (t : Placed) → grammar.IsName t → IsOfText names t.kind → name_in t < names
name_low names t i h = subst (λ k. name_of k < names) (sym i.is) (subst (λ k. IsOfText names k) i.is h)

module _ (names : ℕ) where
  pub fine : (p : Phrase) (ts : List Placed) (a : Meant p) → Spells p ts a → AreTold names ts → IsFine names p a
  fine _ _ _ grammar.nothing told = tt
  fine _ _ _ (grammar.more {p = p} {ts = ts} {us = us} {a = a} {l = l} p0 p1) told = ((fine p ts a p0 (left names ts us told)), (fine (many p) us l p1 (right names ts us told)))
  fine _ _ _ grammar.absent told = tt
  fine _ _ _ (grammar.present {p = p} {ts = ts} {a = a} p0) told = fine p ts a p0 told
  fine _ _ _ (grammar.unit_is {ts = ts} {us = us} {vs = vs} {l = l} i0 i1 p0 p1 p2) told = fine (many definition) vs l p2 (right names us vs (right names ts (us ++ vs) told.1.1))
  fine _ _ _ (grammar.comma_name_is i0 i1) told = tt
  fine _ _ _ (grammar.semicolon_is i0) told = tt
  fine _ _ _ (grammar.a_typedef {ts = ts} {i = i} p0) told = fine typedef ts i p0 told
  fine _ _ _ (grammar.a_fundef {ts = ts} {i = i} p0) told = fine fundef ts i p0 told
  fine _ _ _ (grammar.typedef_is i0 i1 i2 p0 p1) told = tt
  fine _ _ _ (grammar.forward {ts = ts} {us = us} {h = h} i0 i1 p0 p1) told = (tt, fine header ts h p0 (left names ts us told.1.1))
  fine _ _ _ (grammar.global {ts = ts} {us = us} {h = h} i0 p0 p1) told = (tt, fine header ts h p0 (left names ts us told.1))
  fine _ _ _ (grammar.function {u = u} {v = v} {ts = ts} {us = us} {vs = vs} {h = h} {es = es} i0 p0 p1 i1 i2 p2) told = (fine exprs us es p1 (left names us (u ∷ v ∷ vs) (right names ts (us ++ (u ∷ v ∷ vs)) told.1)), fine header ts h p0 (left names ts (us ++ (u ∷ v ∷ vs)) told.1))
  fine _ _ _ (grammar.integer_type i0) told = tt
  fine _ _ _ (grammar.boolean_type i0) told = tt
  fine _ _ _ (grammar.character_type i0) told = tt
  fine _ _ _ (grammar.null_type i0) told = tt
  fine _ _ _ (grammar.real_type i0) told = tt
  fine _ _ _ (grammar.double_real_type i0) told = tt
  fine _ _ _ (grammar.named_type i0) told = tt
  fine _ _ _ (grammar.array_type i0 i1 p0 i2) told = tt
  fine _ _ _ (grammar.stream_type i0 i1 p0 i2) told = tt
  fine _ _ _ (grammar.record_type i0 i1 p0 i2) told = tt
  fine _ _ _ (grammar.union_type i0 i1 p0 p1 p2 i2) told = tt
  fine _ _ _ (grammar.fields_are p0 p1 p2) told = tt
  fine _ _ _ (grammar.semi_field_is i0 p0) told = tt
  fine _ _ _ (grammar.field_is i0 p0 i1 p1) told = tt
  fine _ _ _ (grammar.tagf_is i0 p0 p1) told = tt
  fine _ _ _ (grammar.semi_tagf_is i0 p0) told = tt
  fine _ _ _ (grammar.colon_type_is i0 p0) told = tt
  fine _ _ _ (grammar.header_is {t = t} {rs = rs} i0 i1 p0 i2 p1 p2 i3) told = (omega arith, name_low names t i0 told.0.0)
  fine _ _ _ (grammar.comma_type_is i0 p0) told = tt
  fine _ _ _ (grammar.exprs_are {ts = ts} {us = us} {e = e} {es = es} p0 p1) told = both (leaves e) (exprs_leaves es) (fine expr ts e p0 (left names ts us told)) (gathered leaves es (fine (many comma_expr) us es p1 (right names ts us told)))
  fine _ _ _ (grammar.comma_expr_is {ts = ts} {e = e} i0 p0) told = fine expr ts e p0 told.1
  fine _ _ _ (grammar.expr_is {ts = ts} {us = us} {a = a} {l = l} p0 p1) told = chained_fine l a (fine conj ts a p0 (left names ts us told)) (fine (many or_conj) us l p1 (right names ts us told))
  fine _ _ _ (grammar.or_conj_is {ts = ts} {a = a} i0 p0) told = fine conj ts a p0 told.1
  fine _ _ _ (grammar.conj_is {ts = ts} {us = us} {a = a} {l = l} p0 p1) told = chained_fine l a (fine inv ts a p0 (left names ts us told)) (fine (many and_inv) us l p1 (right names ts us told))
  fine _ _ _ (grammar.and_inv_is {ts = ts} {a = a} i0 p0) told = fine inv ts a p0 told.1
  fine _ _ _ (grammar.not {t = t} {ts = ts} {a = a} i0 p0) told = made (leaves (at t.line (tree.Prefix prefix.Not a))) (leaves a) (in_prefix t.line prefix.Not a) (fine inv ts a p0 told.1)
  fine _ _ _ (grammar.inv_rel {ts = ts} {a = a} p0) told = fine rel ts a p0 told
  fine _ _ _ (grammar.rel_is {ts = ts} {us = us} {a = a} {c = c} p0 p1) told = compared_fine c a (fine cat ts a p0 (left names ts us told)) (fine (maybe comparison) us c p1 (right names ts us told))
  fine _ _ _ (grammar.equal {ts = ts} {a = a} i0 p0) told = fine cat ts a p0 told.1
  fine _ _ _ (grammar.not_equal {ts = ts} {a = a} i0 p0) told = fine cat ts a p0 told.1
  fine _ _ _ (grammar.less {ts = ts} {a = a} i0 p0) told = fine cat ts a p0 told.1
  fine _ _ _ (grammar.less_equal {ts = ts} {a = a} i0 p0) told = fine cat ts a p0 told.1
  fine _ _ _ (grammar.greater {ts = ts} {a = a} i0 p0) told = fine cat ts a p0 told.1
  fine _ _ _ (grammar.greater_equal {ts = ts} {a = a} i0 p0) told = fine cat ts a p0 told.1
  fine _ _ _ (grammar.cat_is {ts = ts} {us = us} {a = a} {l = l} p0 p1) told = chained_fine l a (fine sum ts a p0 (left names ts us told)) (fine (many or_sum) us l p1 (right names ts us told))
  fine _ _ _ (grammar.catenate {ts = ts} {a = a} i0 p0) told = fine sum ts a p0 told.1
  fine _ _ _ (grammar.sum_is {ts = ts} {us = us} {a = a} {l = l} p0 p1) told = chained_fine l a (fine term ts a p0 (left names ts us told)) (fine (many sum_term) us l p1 (right names ts us told))
  fine _ _ _ (grammar.plus {ts = ts} {a = a} i0 p0) told = fine term ts a p0 told.1
  fine _ _ _ (grammar.minus {ts = ts} {a = a} i0 p0) told = fine term ts a p0 told.1
  fine _ _ _ (grammar.term_is {ts = ts} {us = us} {a = a} {l = l} p0 p1) told = chained_fine l a (fine neg ts a p0 (left names ts us told)) (fine (many term_neg) us l p1 (right names ts us told))
  fine _ _ _ (grammar.times {ts = ts} {a = a} i0 p0) told = fine neg ts a p0 told.1
  fine _ _ _ (grammar.divide {ts = ts} {a = a} i0 p0) told = fine neg ts a p0 told.1
  fine _ _ _ (grammar.negate {t = t} {ts = ts} {a = a} i0 p0) told = made (leaves (at t.line (tree.Prefix prefix.Negate a))) (leaves a) (in_prefix t.line prefix.Negate a) (fine neg ts a p0 told.1)
  fine _ _ _ (grammar.neg_post {ts = ts} {a = a} p0) told = fine post ts a p0 told
  fine _ _ _ (grammar.post_is {ts = ts} {us = us} {a = a} {l = l} p0 p1) told = posted_fine l a (fine prim ts a p0 (left names ts us told)) (fine (many selector) us l p1 (right names ts us told))
  fine _ _ _ (grammar.at_places {u = u} {ts = ts} {es = es} i0 p0 i1) told = fine exprs ts es p0 (left names ts (u ∷ []) told.1)
  fine _ _ _ (grammar.change {u = u} {v = v} {ts = ts} {us = us} {i = i} {e = e} i0 p0 i1 p1 i2) told = ((fine expr ts i p0 (left names ts (u ∷ (us ++ (v ∷ []))) told.1)), (fine expr us e p1 (left names us (v ∷ []) ((right names ts (u ∷ (us ++ (v ∷ []))) told.1).1))))
  fine _ _ _ (grammar.dot i0 i1) told = tt
  fine _ _ _ (grammar.replace {v = v} {ts = ts} {us = us} {vs = vs} {f = f} {l = l} i0 i1 p0 p1 p2 i2) told = (omega arith, both (value_leaves f) (values_leaves l) (fine fv ts f p0 (left names ts (us ++ (vs ++ (v ∷ []))) told.1.1)) (gathered value_leaves l (fine (many semi_fv) us l p1 (left names us (vs ++ (v ∷ [])) (right names ts (us ++ (vs ++ (v ∷ []))) told.1.1)))))
  fine _ _ _ (grammar.fv_is {t = t} {ts = ts} {e = e} i0 i1 p0) told = made (value_leaves (record { field = named t; value = e })) (leaves e) (of_value (named t) e) (fine expr ts e p0 told.1.1)
  fine _ _ _ (grammar.semi_fv_is {ts = ts} {f = f} i0 p0) told = fine fv ts f p0 told.1
  fine _ _ _ (grammar.number {t = t} {n = n} h) told = made (leaves (at t.line (tree.Constant (constant.Integer n)))) (a_constant (constant.Integer n) ∷ []) (in_constant t.line (constant.Integer n)) (subst (λ z. IsOfText names z) h told.0.0, tt)
  fine _ _ _ (grammar.character {t = t} {c = c} h) told = made (leaves (at t.line (tree.Constant (constant.Letter c)))) (a_constant (constant.Letter c) ∷ []) (in_constant t.line (constant.Letter c)) (subst (λ z. IsOfText names z) h told.0.0, tt)
  fine _ _ _ (grammar.text {t = t} {s = s} h) told = made (leaves (at t.line (tree.Constant (constant.Quoted s)))) (a_constant (constant.Quoted s) ∷ []) (in_constant t.line (constant.Quoted s)) (subst (λ z. IsOfText names z) h told.0.0, tt)
  fine _ _ _ (grammar.true_is {t = t} i0) told = made (leaves (at t.line (tree.Constant constant.True))) (a_constant constant.True ∷ []) (in_constant t.line constant.True) (tt, tt)
  fine _ _ _ (grammar.false_is {t = t} i0) told = made (leaves (at t.line (tree.Constant constant.False))) (a_constant constant.False ∷ []) (in_constant t.line constant.False) (tt, tt)
  fine _ _ _ (grammar.nil_is {t = t} i0) told = made (leaves (at t.line (tree.Constant constant.Nil))) (a_constant constant.Nil ∷ []) (in_constant t.line constant.Nil) (tt, tt)
  fine _ _ _ (grammar.a_name {t = t} i0) told = made (leaves (at t.line (tree.Name (name_in t)))) ([]) (in_name t.line (name_in t)) (tt)
  fine _ _ _ (grammar.old {t = t} {u = u} i0 i1) told = made (leaves (at t.line (tree.Old (name_in u)))) ([]) (in_old t.line (name_in u)) (tt)
  fine _ _ _ (grammar.call {t = t} {v = v} {ts = ts} {es = es} i0 i1 p0 i2) told = made (leaves (at t.line (tree.Call (name_in t) (listed es)))) (exprs_leaves (listed es)) (in_call t.line (name_in t) (listed es)) (listed_fine es (fine (maybe exprs) ts es p0 (left names ts (v ∷ []) told.1.1)))
  fine _ _ _ (grammar.to_integer {t = t} {v = v} {ts = ts} {e = e} i0 i1 p0 i2) told = made (leaves (at t.line (tree.Convert scalar.Integer e))) (leaves e) (in_convert t.line scalar.Integer e) (fine expr ts e p0 (left names ts (v ∷ []) told.1.1))
  fine _ _ _ (grammar.to_boolean {t = t} {v = v} {ts = ts} {e = e} i0 i1 p0 i2) told = made (leaves (at t.line (tree.Convert scalar.Boolean e))) (leaves e) (in_convert t.line scalar.Boolean e) (fine expr ts e p0 (left names ts (v ∷ []) told.1.1))
  fine _ _ _ (grammar.to_character {t = t} {v = v} {ts = ts} {e = e} i0 i1 p0 i2) told = made (leaves (at t.line (tree.Convert scalar.Character e))) (leaves e) (in_convert t.line scalar.Character e) (fine expr ts e p0 (left names ts (v ∷ []) told.1.1))
  fine _ _ _ (grammar.parens {t = t} {u = u} {ts = ts} {e = e} i0 p0 i1) told = made (leaves (at t.line (tree.Group e))) (leaves e) (in_group t.line e) (fine expr ts e p0 (left names ts (u ∷ []) told.1))
  fine _ _ _ (grammar.error_of {t = t} {w = w} i0 i1 p0 i2) told = made (leaves (at t.line (tree.ErrorOf w))) ([]) (in_error_of t.line w) (tt)
  fine _ _ _ (grammar.is_error {t = t} {w = w} {ts = ts} {e = e} i0 i1 i2 p0 i3) told = made (leaves (at t.line (tree.IsError e))) (leaves e) (in_is_error t.line e) (fine expr ts e p0 (left names ts (w ∷ []) told.1.1.1))
  fine _ _ _ (grammar.is_tag {t = t} {u = u} {w = w} {ts = ts} {e = e} i0 i1 i2 p0 i3) told = made (leaves (at t.line (tree.IsTag (name_in u) e))) (leaves e) (in_is_tag t.line (name_in u) e) (fine expr ts e p0 (left names ts (w ∷ []) told.1.1.1))
  fine _ _ _ (grammar.array {t = t} {u = u} {v = v} {ts = ts} {us = us} {n = n} {es = es} i0 p0 i1 p1 i2) told = array_fine t.line n es (fine (maybe elements) us es p1 (left names us (v ∷ []) ((right names ts (u ∷ (us ++ (v ∷ []))) told.1).1)))
  fine _ _ _ (grammar.stream {t = t} {u = u} {v = v} {ts = ts} {us = us} {n = n} {es = es} i0 p0 i1 p1 i2) told = made (leaves (at t.line (tree.Stream n (listed es)))) (exprs_leaves (listed es)) (in_stream t.line n (listed es)) (listed_fine es (fine (maybe exprs) us es p1 (left names us (v ∷ []) ((right names ts (u ∷ (us ++ (v ∷ []))) told.1).1))))
  fine _ _ _ (grammar.a_record {t = t} {u = u} {v = v} {ts = ts} {us = us} {vs = vs} {ws = ws} {n = n} {f = f} {l = l} i0 p0 i1 p1 p2 p3 i2) told = made (leaves (at t.line (tree.Record n (f ∷ l)))) (a_record (length (f ∷ l)) ∷ values_leaves (f ∷ l)) (in_record t.line n (f ∷ l)) (fields_few names u us vs (ws ++ (v ∷ [])) l (right names ts (u ∷ (us ++ (vs ++ (ws ++ (v ∷ []))))) told.1) (fields_counted vs l p2), both (value_leaves f) (values_leaves l) (fine fv us f p1 (left names us (vs ++ (ws ++ (v ∷ []))) ((right names ts (u ∷ (us ++ (vs ++ (ws ++ (v ∷ []))))) told.1).1))) (gathered value_leaves l (fine (many semi_fv) vs l p2 (left names vs (ws ++ (v ∷ [])) (right names us (vs ++ (ws ++ (v ∷ []))) ((right names ts (u ∷ (us ++ (vs ++ (ws ++ (v ∷ []))))) told.1).1))))))
  fine _ _ _ (grammar.union {t = t} {u = u} {w = w} {x = x} {ts = ts} {e = e} i0 i1 i2 i3 p0 i4) told = made (leaves (at t.line (tree.Union (name_in u) (name_in w) (content w e)))) (leaves (content w e)) (in_union t.line (name_in u) (name_in w) (content w e)) (content_fine w e (fine (maybe colon_expr) ts e p0 (left names ts (x ∷ []) told.1.1.1.1)))
  fine _ _ _ (grammar.name_is i0) told = tt
  fine _ _ _ (grammar.elements_are {t = t} {ts = ts} {us = us} {e = e} {es = es} p0 i0 p1) told = made (elements_leaves (roll-Elements (record { lower = e; values = es }))) (leaves e ++ exprs_leaves es) (of_elements e es) (both (leaves e) (exprs_leaves es) (fine expr ts e p0 (left names ts (t ∷ us) told)) (fine exprs us es p1 ((right names ts (t ∷ us) told).1)))
  fine _ _ _ (grammar.colon_expr_is {ts = ts} {e = e} i0 p0) told = fine expr ts e p0 told.1
  fine _ _ _ (grammar.let_in {t = t} {u = u} {v = v} {w = w} {ts = ts} {us = us} {ds = ds} {es = es} i0 p0 i1 p1 i2 i3) told = made (leaves (at t.line (tree.Let ds es))) (defs_leaves ds ++ exprs_leaves es) (in_let t.line ds es) (both (defs_leaves ds) (exprs_leaves es) (fine defs ts ds p0 (left names ts (u ∷ (us ++ (v ∷ w ∷ []))) told.1)) (fine exprs us es p1 (left names us (v ∷ w ∷ []) ((right names ts (u ∷ (us ++ (v ∷ w ∷ []))) told.1).1))))
  fine _ _ _ (grammar.if_else {t = t} {u = u} {v = v} {w = w} {x = x} {ts = ts} {us = us} {vs = vs} {ws = ws} {e = e} {es = es} {fs = fs} {l = l} i0 p0 i1 p1 p2 i2 p3 i3 i4) told = if_fine t.line e es (nested l fs) (fine expr ts e p0 (left names ts (u ∷ (us ++ (vs ++ (v ∷ (ws ++ (w ∷ x ∷ [])))))) told.1)) (fine exprs us es p1 (left names us (vs ++ (v ∷ (ws ++ (w ∷ x ∷ [])))) ((right names ts (u ∷ (us ++ (vs ++ (v ∷ (ws ++ (w ∷ x ∷ [])))))) told.1).1))) (nested_fine l fs (fine (many else_if) vs l p2 (left names vs (v ∷ (ws ++ (w ∷ x ∷ []))) (right names us (vs ++ (v ∷ (ws ++ (w ∷ x ∷ [])))) ((right names ts (u ∷ (us ++ (vs ++ (v ∷ (ws ++ (w ∷ x ∷ [])))))) told.1).1)))) (fine exprs ws fs p3 (left names ws (w ∷ x ∷ []) ((right names vs (v ∷ (ws ++ (w ∷ x ∷ []))) (right names us (vs ++ (v ∷ (ws ++ (w ∷ x ∷ [])))) ((right names ts (u ∷ (us ++ (vs ++ (v ∷ (ws ++ (w ∷ x ∷ [])))))) told.1).1))).1))))
  fine _ _ _ (grammar.else_if_is {u = u} {ts = ts} {us = us} {e = e} {es = es} i0 p0 i1 p1) told = ((fine expr ts e p0 (left names ts (u ∷ us) told.1)), (fine exprs us es p1 ((right names ts (u ∷ us) told.1).1)))
  fine _ _ _ (grammar.tagcase {t = t} {u = u} {v = v} {ts = ts} {us = us} {vs = vs} {ws = ws} {xs = xs} {n = n} {e = e} {a = a} {l = l} {o = o} i0 p0 p1 p2 p3 p4 i1 i2) told = case_fine t.line n e (a ∷ l) o (omega arith) (fine expr us e p1 (left names us (vs ++ (ws ++ (xs ++ (u ∷ v ∷ [])))) (right names ts (us ++ (vs ++ (ws ++ (xs ++ (u ∷ v ∷ []))))) told.1))) (both (arm_leaves a) (arms_leaves l) (fine arm vs a p2 (left names vs (ws ++ (xs ++ (u ∷ v ∷ []))) (right names us (vs ++ (ws ++ (xs ++ (u ∷ v ∷ [])))) (right names ts (us ++ (vs ++ (ws ++ (xs ++ (u ∷ v ∷ []))))) told.1)))) (gathered arm_leaves l (fine (many arm) ws l p3 (left names ws (xs ++ (u ∷ v ∷ [])) (right names vs (ws ++ (xs ++ (u ∷ v ∷ []))) (right names us (vs ++ (ws ++ (xs ++ (u ∷ v ∷ [])))) (right names ts (us ++ (vs ++ (ws ++ (xs ++ (u ∷ v ∷ []))))) told.1))))))) (fine (maybe otherwise) xs o p4 (left names xs (u ∷ v ∷ []) (right names ws (xs ++ (u ∷ v ∷ [])) (right names vs (ws ++ (xs ++ (u ∷ v ∷ []))) (right names us (vs ++ (ws ++ (xs ++ (u ∷ v ∷ [])))) (right names ts (us ++ (vs ++ (ws ++ (xs ++ (u ∷ v ∷ []))))) told.1))))))
  fine _ _ _ (grammar.binding_is i0 i1) told = tt
  fine _ _ _ (grammar.otherwise_is {ts = ts} {es = es} i0 i1 p0) told = fine exprs ts es p0 told.1.1
  fine _ _ _ (grammar.arm_is {t = t} {u = u} {v = v} {ts = ts} {us = us} {ns = ns} {es = es} i0 i1 p0 i2 p1) told = made (arm_leaves (roll-Arm (record { line = t.line; tags = named u ∷ ns; results = es }))) (exprs_leaves es) (of_arm t.line (named u ∷ ns) es) (fine exprs us es p1 ((right names ts (v ∷ us) told.1.1).1))
  fine _ _ _ (grammar.for_product {t = t} {u = u} {v = v} {w = w} {ts = ts} {us = us} {vs = vs} {ws = ws} {xs = xs} {g = g} {gs = gs} {ds = ds} {c = c} {cs = cs} i0 p0 p1 p2 i1 p3 p4 i2 i3) told = product_fine t.line (g ∷ gs) (listed ds) (c ∷ cs) (both (group_leaves g) (groups_leaves gs) (fine group ts g p0 (left names ts (us ++ (vs ++ (u ∷ (ws ++ (xs ++ (v ∷ w ∷ [])))))) told.1)) (groups_fine gs (fine (many cross_group) us gs p1 (left names us (vs ++ (u ∷ (ws ++ (xs ++ (v ∷ w ∷ []))))) (right names ts (us ++ (vs ++ (u ∷ (ws ++ (xs ++ (v ∷ w ∷ [])))))) told.1))))) (listed_defs ds (fine (maybe defs) vs ds p2 (left names vs (u ∷ (ws ++ (xs ++ (v ∷ w ∷ [])))) (right names us (vs ++ (u ∷ (ws ++ (xs ++ (v ∷ w ∷ []))))) (right names ts (us ++ (vs ++ (u ∷ (ws ++ (xs ++ (v ∷ w ∷ [])))))) told.1))))) (both (clause_leaves c) (clauses_leaves cs) (fine clause ws c p3 (left names ws (xs ++ (v ∷ w ∷ [])) ((right names vs (u ∷ (ws ++ (xs ++ (v ∷ w ∷ [])))) (right names us (vs ++ (u ∷ (ws ++ (xs ++ (v ∷ w ∷ []))))) (right names ts (us ++ (vs ++ (u ∷ (ws ++ (xs ++ (v ∷ w ∷ [])))))) told.1))).1))) (gathered clause_leaves cs (fine (many clause) xs cs p4 (left names xs (v ∷ w ∷ []) (right names ws (xs ++ (v ∷ w ∷ [])) ((right names vs (u ∷ (ws ++ (xs ++ (v ∷ w ∷ [])))) (right names us (vs ++ (u ∷ (ws ++ (xs ++ (v ∷ w ∷ []))))) (right names ts (us ++ (vs ++ (u ∷ (ws ++ (xs ++ (v ∷ w ∷ [])))))) told.1))).1))))))
  fine _ _ _ (grammar.for_initial {t = t} {v = v} {w = w} {x = x} {ts = ts} {us = us} {vs = vs} {ws = ws} {ds = ds} {r = r} {c = c} {cs = cs} i0 i1 p0 p1 i2 p2 p3 i3 i4) told = initial_fine t.line ds r (c ∷ cs) (fine defs ts ds p0 (left names ts (us ++ (v ∷ (vs ++ (ws ++ (w ∷ x ∷ []))))) told.1.1)) (fine turn us r p1 (left names us (v ∷ (vs ++ (ws ++ (w ∷ x ∷ [])))) (right names ts (us ++ (v ∷ (vs ++ (ws ++ (w ∷ x ∷ []))))) told.1.1))) (both (clause_leaves c) (clauses_leaves cs) (fine clause vs c p2 (left names vs (ws ++ (w ∷ x ∷ [])) ((right names us (v ∷ (vs ++ (ws ++ (w ∷ x ∷ [])))) (right names ts (us ++ (v ∷ (vs ++ (ws ++ (w ∷ x ∷ []))))) told.1.1)).1))) (gathered clause_leaves cs (fine (many clause) ws cs p3 (left names ws (w ∷ x ∷ []) (right names vs (ws ++ (w ∷ x ∷ [])) ((right names us (v ∷ (vs ++ (ws ++ (w ∷ x ∷ [])))) (right names ts (us ++ (v ∷ (vs ++ (ws ++ (w ∷ x ∷ []))))) told.1.1)).1))))))
  fine _ _ _ (grammar.cross_group_is {ts = ts} {g = g} i0 p0) told = fine group ts g p0 told.1
  fine _ _ _ (grammar.group_is {ts = ts} {us = us} {g = g} {gs = gs} p0 p1) told = (omega arith, both (generator_leaves g) (generators_leaves gs) (fine gen ts g p0 (left names ts us told)) (gathered generator_leaves gs (fine (many dot_gen) us gs p1 (right names ts us told))))
  fine _ _ _ (grammar.dot_gen_is {ts = ts} {g = g} i0 p0) told = fine gen ts g p0 told.1
  fine _ _ _ (grammar.gen_is {t = t} {ts = ts} {us = us} {vs = vs} {e = e} {o = o} {n = n} i0 i1 p0 p1 p2) told = generator_fine (named t) e o n (fine expr ts e p0 (left names ts (us ++ vs) told.1.1)) (fine (maybe comma_expr) us o p1 (left names us vs (right names ts (us ++ vs) told.1.1)))
  fine _ _ _ (grammar.at_name_is i0 i1) told = tt
  fine _ _ _ (grammar.defs_are {ts = ts} {us = us} {vs = vs} {d = d} {l = l} p0 p1 p2) told = both (def_leaves d) (defs_leaves l) (fine def ts d p0 (left names ts (us ++ vs) told)) (gathered def_leaves l (fine (many semi_def) us l p1 (left names us vs (right names ts (us ++ vs) told))))
  fine _ _ _ (grammar.semi_def_is {ts = ts} {d = d} i0 p0) told = fine def ts d p0 told.1
  fine _ _ _ (grammar.def_is {t = t} {ts = ts} {us = us} {vs = vs} {x = x} {l = l} {es = es} p0 p1 i0 p2) told = made (def_leaves (roll-Def (record { targets = x ∷ l; values = es }))) (exprs_leaves es) (of_def (x ∷ l) es) (fine exprs vs es p2 ((right names us (t ∷ vs) (right names ts (us ++ (t ∷ vs)) told)).1))
  fine _ _ _ (grammar.comma_target_is i0 p0) told = tt
  fine _ _ _ (grammar.target_is i0 p0) told = tt
  fine _ _ _ (grammar.test_first {t = t} {ts = ts} {us = us} {x = x} {ds = ds} p0 i0 p1) told = turn_fine true x.is_until x.test ds (fine test ts x p0 (left names ts (t ∷ us) told)) (fine defs us ds p1 ((right names ts (t ∷ us) told).1))
  fine _ _ _ (grammar.test_last {ts = ts} {us = us} {x = x} {ds = ds} i0 p0 p1) told = turn_fine false x.is_until x.test ds (fine test us x p1 (right names ts us told.1)) (fine defs ts ds p0 (left names ts us told.1))
  fine _ _ _ (grammar.while {ts = ts} {e = e} i0 p0) told = fine expr ts e p0 told.1
  fine _ _ _ (grammar.until {ts = ts} {e = e} i0 p0) told = fine expr ts e p0 told.1
  fine _ _ _ (grammar.array_of {t = t} {ts = ts} {us = us} {e = e} {m = m} i0 i1 p0 p1) told = clause_fine t.line made_by.Array e m (fine expr ts e p0 (left names ts us told.1.1)) (fine (maybe mask) us m p1 (right names ts us told.1.1))
  fine _ _ _ (grammar.stream_of {t = t} {ts = ts} {us = us} {e = e} {m = m} i0 i1 p0 p1) told = clause_fine t.line made_by.Stream e m (fine expr ts e p0 (left names ts us told.1.1)) (fine (maybe mask) us m p1 (right names ts us told.1.1))
  fine _ _ _ (grammar.value_of {t = t} {ts = ts} {us = us} {vs = vs} {k = k} {e = e} {m = m} i0 i1 p0 p1 p2) told = clause_fine t.line (folded k) e m (fine expr us e p1 (left names us vs (right names ts (us ++ vs) told.1.1))) (fine (maybe mask) vs m p2 (right names us vs (right names ts (us ++ vs) told.1.1)))
  fine _ _ _ (grammar.folding_is p0 p1) told = tt
  fine _ _ _ (grammar.left i0) told = tt
  fine _ _ _ (grammar.right i0) told = tt
  fine _ _ _ (grammar.as_tree i0) told = tt
  fine _ _ _ (grammar.to_sum i0) told = tt
  fine _ _ _ (grammar.to_product i0) told = tt
  fine _ _ _ (grammar.to_least i0) told = tt
  fine _ _ _ (grammar.to_greatest i0) told = tt
  fine _ _ _ (grammar.to_catenate i0) told = tt
  fine _ _ _ (grammar.when {ts = ts} {e = e} i0 p0) told = made (mask_leaves (record { is_unless = false; test = e })) (leaves e) (of_mask false e) (fine expr ts e p0 told.1)
  fine _ _ _ (grammar.unless {ts = ts} {e = e} i0 p0) told = made (mask_leaves (record { is_unless = true; test = e })) (leaves e) (of_mask true e) (fine expr ts e p0 told.1)
