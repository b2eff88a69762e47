-- What is derived of each phrase.
use Rattle.std.proofs.Common.{◌≡◌, ℕ, List, [], ◌∷◌, ◌++◌, Option, Some, ◌⊎◌}
use Rattle.sisal_tree.specs.Sign.TheVariants as sign
use Rattle.sisal_tree.specs.declared.unit.Written.{Written}
use Rattle.sisal_tree.specs.declared.unit.Field.{Field}
use Rattle.sisal_tree.specs.declared.expr.Expr.{Expr}
use Rattle.sisal_tree.specs.declared.expr.ExprKind.TheVariants as tree
use Rattle.sisal_tree.specs.declared.expr.BinaryOperator.{BinaryOperator}
use Rattle.sisal_tree.specs.declared.expr.FieldValue.{FieldValue}
use Rattle.sisal_tree.specs.declared.expr.Def.{Def}
use Rattle.sisal_tree.specs.declared.expr.ClauseKind.TheVariants as made
use Rattle.sisal_tree.specs.declared.expr.Reduction.{Reduction}
use Rattle.sisal_grammar.specs.declared.value.Placed.{Placed}
use Rattle.sisal_grammar.specs.declared.value.Bracket.TheVariants as bracket
use Rattle.sisal_grammar.specs.declared.value.Selector.TheVariants as select
use Rattle.sisal_grammar.specs.Acts.{at, chained, posted, called}
use Rattle.sisal_grammar.specs.Phrases.{Phrase, Meant, many, maybe, unit, definition, typedef, fundef, ty, field, fields, tagf, header, exprs, expr, conj, inv, rel, cat, sum, term, neg, post, selector, fv, prim, arm, defs, def, target, group, gen, turn, test, clause, red, mask, name, comma_name, semicolon, semi_field, semi_tagf, comma_type, colon_type, comma_expr, colon_expr, or_conj, and_inv, comparison, or_sum, sum_term, term_neg, semi_fv, elements, else_if, binding, otherwise, semi_def, comma_target, cross_group, dot_gen, at_name, folding, direction}
use Rattle.sisal_grammar.specs.Spells.{IsSign, IsName, listed, nested, grouped, folded}
use Rattle.sisal_grammar.proofs.Saying.{as_tail}
use Rattle.sisal_grammar.proofs.Raws.{R}

-- a phrase that goes on with what follows it
pub record Grown {A : Type 0} (H : List Placed → Expr → Type 0) (T : List Placed → A → Type 0) (f : Expr → A → Expr) (ts : List Placed) (e : Expr) : Type 0 where
  pub front : List Placed
  pub back : List Placed
  pub first : Expr
  pub rest : A
  pub tokens : ts ≡ front ++ back
  pub value : e ≡ f first rest
  pub head : H front first
  pub tail : T back rest

-- a primary, and each level of expression, that begins with a name
pub record NamedPrim (ts : List Placed) (e : Expr) : Type 0 where
  pub token : Placed
  pub back : List Placed
  pub rest : Option (List Expr)
  pub tokens : ts ≡ token ∷ back
  pub is_name : IsName token
  pub value : e ≡ called token rest
  pub tail : R 40 back rest

abbrev pub NamedPost : List Placed → Expr → Type 0
NamedPost = Grown NamedPrim (R 33) posted

abbrev pub NamedTerm : List Placed → Expr → Type 0
NamedTerm = Grown NamedPost (R 30) chained

abbrev pub NamedSum : List Placed → Expr → Type 0
NamedSum = Grown NamedTerm (R 28) chained

abbrev pub NamedCat : List Placed → Expr → Type 0
NamedCat = Grown NamedSum (R 26) chained

abbrev pub NamedRel : List Placed → Expr → Type 0
NamedRel = Grown NamedCat (R 24) chained

abbrev pub NamedConj : List Placed → Expr → Type 0
NamedConj = Grown NamedRel (R 21) chained

abbrev pub NamedExpr : List Placed → Expr → Type 0
NamedExpr = Grown NamedConj (R 19) chained

-- fields, the first apart
pub record FieldsParts (ts : List Placed) (l : List Field) : Type 0 where
  pub front : List Placed
  pub back : List Placed
  pub first : Field
  pub rest : List Field
  pub tokens : ts ≡ front ++ back
  pub value : l ≡ first ∷ rest
  pub head : R 8 front first
  pub tail : R 6 back rest

-- a semicolon or none at an end
abbrev pub Ends : List Placed → Type 0
Ends ts = R 2 ts tt × R 6 ts [] × R 9 ts tt × R 37 ts [] × R 70 ts []

-- expressions in brackets
abbrev pub Places : List Placed → List Expr → Type 0
Places ts es = (t u : Placed) → IsSign sign.SOpenBracket t → IsSign sign.SCloseBracket u → R 34 (t ∷ (ts ++ (u ∷ []))) (select.At es)

abbrev pub Indices : List Placed → List Expr → Type 0
Indices ts es = (u : Placed) → IsSign sign.SCloseBracket u → R 35 (ts ++ (u ∷ [])) (bracket.Further es)

-- the subject of a `tagcase`
abbrev pub Subjects : List Placed → Option ℕ → Type 0
Subjects ts n = (us : List Placed) (e : Expr) → R 18 us e → R 49 us e ⊎ NamedExpr us e → R 47 (ts ++ us) (record { name = n; expr = e })

abbrev pub Goal : (p : Phrase) → List Placed → Meant p → Type 0
Goal (many definition) ts v = R 3 ts v
Goal (many comma_name) ts v = R 1 ts v
Goal (many semi_field) ts v = (us : List Placed) → R 6 us [] → R 6 (ts ++ us) v
Goal (many semi_tagf) ts v = (us : List Placed) → R 9 us tt → R 9 (ts ++ us) tt
Goal (many comma_type) ts v = R 14 ts v
Goal (many comma_expr) ts v = R 16 ts v × Indices ts v
Goal (many or_conj) ts v = R 19 ts v
Goal (many and_inv) ts v = R 21 ts v
Goal (many or_sum) ts v = R 26 ts v
Goal (many sum_term) ts v = R 28 ts v
Goal (many term_neg) ts v = R 30 ts v
Goal (many selector) ts v = R 33 ts v
Goal (many semi_fv) ts v = (us : List Placed) → R 37 us [] → R 37 (ts ++ us) v
Goal (many else_if) ts v = (us : List Placed) (es : List Expr) → R 46 us es → R 46 (ts ++ us) (nested v es)
Goal (many arm) ts v = R 58 ts v
Goal (many semi_def) ts v = (us : List Placed) → R 70 us [] → R 70 (ts ++ us) v
Goal (many comma_target) ts v = R 73 ts v
Goal (many cross_group) ts v = R 62 ts v
Goal (many dot_gen) ts v = R 64 ts v
Goal (many clause) ts v = R 78 ts v
Goal (many p) ts v = Unit {0}
Goal (maybe semicolon) ts v = Ends ts
Goal (maybe fields) ts v = R 7 ts (listed v)
Goal (maybe colon_type) ts v = R 12 ts tt × R 75 ts v
Goal (maybe exprs) ts v = R 17 ts (listed v)
Goal (maybe comparison) ts v = R 24 ts (as_tail v)
Goal (maybe name) ts v = R 43 ts v
Goal (maybe elements) ts v = R 44 ts v
Goal (maybe colon_expr) ts v = R 45 ts v
Goal (maybe binding) ts v = Subjects ts v
Goal (maybe otherwise) ts v = R 60 ts v
Goal (maybe comma_expr) ts v = R 66 ts v
Goal (maybe at_name) ts v = R 67 ts v
Goal (maybe defs) ts v = R 68 ts (listed v)
Goal (maybe folding) ts v = R 80 ts (folded v)
Goal (maybe direction) ts v = (us : List Placed) (r : Reduction) → R 81 us r → R 80 (ts ++ us) (made.Reduce (grouped v) r)
Goal (maybe mask) ts v = R 82 ts v
Goal (maybe p) ts v = Unit {0}
Goal unit ts v = R 0 ts v
Goal definition ts v = R 4 ts v
Goal typedef ts v = R 4 ts v
Goal fundef ts v = R 4 ts v
Goal ty ts v = R 5 ts v
Goal field ts v = R 8 ts v
Goal fields ts v = FieldsParts ts v
Goal tagf ts v = R 11 ts tt
Goal header ts v = R 13 ts v
Goal exprs ts v = R 15 ts v × Places ts v
Goal expr ts v = R 18 ts v × (R 49 ts v ⊎ NamedExpr ts v)
Goal conj ts v = R 20 ts v × (R 50 ts v ⊎ NamedConj ts v)
Goal inv ts v = R 22 ts v × (R 51 ts v ⊎ NamedRel ts v)
Goal rel ts v = R 23 ts v × (R 52 ts v ⊎ NamedRel ts v)
Goal cat ts v = R 25 ts v × (R 53 ts v ⊎ NamedCat ts v)
Goal sum ts v = R 27 ts v × (R 54 ts v ⊎ NamedSum ts v)
Goal term ts v = R 29 ts v × (R 55 ts v ⊎ NamedTerm ts v)
Goal neg ts v = R 31 ts v × (R 56 ts v ⊎ NamedPost ts v)
Goal post ts v = R 32 ts v × (R 57 ts v ⊎ NamedPost ts v)
Goal selector ts v = R 34 ts v
Goal fv ts v = R 36 ts v
Goal prim ts v = R 39 ts v × (R 41 ts v ⊎ NamedPrim ts v)
Goal arm ts v = R 59 ts v
Goal defs ts v = R 69 ts v
Goal def ts v = R 72 ts v
Goal target ts v = R 74 ts v
Goal group ts v = R 63 ts v
Goal gen ts v = R 65 ts v
Goal turn ts v = R 76 ts v
Goal test ts v = R 77 ts v
Goal clause ts v = R 79 ts v
Goal red ts v = R 81 ts v
Goal mask ts v = R 82 ts (Some v)
Goal name ts v = R 43 ts (Some v)
Goal comma_name ts v = (us : List Placed) (l : List (Meant comma_name)) → R 1 us l → R 1 (ts ++ us) (v ∷ l)
Goal semicolon ts v = Ends ts
Goal semi_field ts v = (us : List Placed) (l : List Field) → R 6 us l → R 6 (ts ++ us) (v ∷ l)
Goal semi_tagf ts v = (us : List Placed) → R 9 us tt → R 9 (ts ++ us) tt
Goal comma_type ts v = (us : List Placed) (l : List Written) → R 14 us l → R 14 (ts ++ us) (v ∷ l)
Goal colon_type ts v = R 12 ts tt × R 75 ts (Some v)
Goal comma_expr ts v = ((us : List Placed) (l : List Expr) → R 16 us l → R 16 (ts ++ us) (v ∷ l) × Indices (ts ++ us) (v ∷ l)) × R 66 ts (Some v)
Goal colon_expr ts v = R 45 ts (Some v)
Goal or_conj ts v = (us : List Placed) (l : List (BinaryOperator × Expr)) → R 19 us l → R 19 (ts ++ us) (v ∷ l)
Goal and_inv ts v = (us : List Placed) (l : List (BinaryOperator × Expr)) → R 21 us l → R 21 (ts ++ us) (v ∷ l)
Goal comparison ts v = R 24 ts (v ∷ [])
Goal or_sum ts v = (us : List Placed) (l : List (BinaryOperator × Expr)) → R 26 us l → R 26 (ts ++ us) (v ∷ l)
Goal sum_term ts v = (us : List Placed) (l : List (BinaryOperator × Expr)) → R 28 us l → R 28 (ts ++ us) (v ∷ l)
Goal term_neg ts v = (us : List Placed) (l : List (BinaryOperator × Expr)) → R 30 us l → R 30 (ts ++ us) (v ∷ l)
Goal semi_fv ts v = (us : List Placed) (l : List FieldValue) → R 37 us l → R 37 (ts ++ us) (v ∷ l)
Goal elements ts v = R 44 ts (Some v)
Goal else_if ts v = (us : List Placed) (es : List Expr) → R 46 us es → R 46 (ts ++ us) (at v.line (tree.If v.test v.results es) ∷ [])
Goal binding ts v = (us : List Placed) (e : Expr) → R 18 us e → R 47 (ts ++ us) (record { name = Some v; expr = e })
Goal otherwise ts v = R 60 ts (Some v)
Goal semi_def ts v = (us : List Placed) (l : List Def) → R 70 us l → R 70 (ts ++ us) (v ∷ l)
Goal comma_target ts v = (us : List Placed) (l : List (Meant comma_target)) → R 73 us l → R 73 (ts ++ us) (v ∷ l)
Goal cross_group ts v = (us : List Placed) (l : List (Meant cross_group)) → R 62 us l → R 62 (ts ++ us) (v ∷ l)
Goal dot_gen ts v = (us : List Placed) (l : List (Meant dot_gen)) → R 64 us l → R 64 (ts ++ us) (v ∷ l)
Goal at_name ts v = R 67 ts (Some v)
Goal folding ts v = R 80 ts v
Goal direction ts v = (us : List Placed) (r : Reduction) → R 81 us r → R 80 (ts ++ us) (made.Reduce v r)
