-- Forms of expressions are spelled where their parts are.
use Rattle.std.proofs.Common.{◌≤◌, ◌<◌, ℕ, List, [], ◌∷◌, Option, Some, None, length, arith}
use Rattle.std.specs.Prelude.{fold}
use Rattle.sisal_lex.specs.declared.token.Token.{Token}
use Rattle.sisal_tree.specs.declared.unit.Named.{Named}
use Rattle.sisal_tree.specs.declared.unit.Written.{Written}
use Rattle.sisal_tree.specs.declared.expr.Expr.{Expr}
use Rattle.sisal_tree.specs.declared.expr.ExprKind.TheVariants as tree
use Rattle.sisal_tree.specs.declared.expr.BinaryOperator.{BinaryOperator}
use Rattle.sisal_tree.specs.declared.expr.FieldValue.{FieldValue}
use Rattle.sisal_tree.specs.declared.expr.Elements.{Elements}
use Rattle.sisal_tree.specs.declared.expr.Def.{Def}
use Rattle.sisal_tree.specs.declared.expr.Arm.{Arm}
use Rattle.sisal_tree.specs.declared.expr.Generator.{Generator, roll-Generator}
use Rattle.sisal_tree.specs.declared.expr.Clause.{Clause, roll-Clause}
use Rattle.sisal_tree.specs.declared.expr.ClauseKind.{ClauseKind}
use Rattle.sisal_tree.specs.declared.expr.Mask.{Mask}
use Rattle.sisal_grammar.specs.declared.value.Placed.{Placed}
use Rattle.sisal_grammar.specs.declared.value.Selector.{Selector}
use Rattle.sisal_grammar.specs.declared.value.Selector.TheVariants as select
use Rattle.sisal_grammar.specs.Acts.{at, joined, chained, selected, followed, posted, content, tag_case}
use Rattle.sisal_grammar.specs.Phrases.{ElseIf}
use Rattle.sisal_grammar.specs.Spells.{compared, nested, listed}
use Rattle.text_trees.specs.Spelled as is
use Rattle.text_trees.specs.Spelled.{IsType, IsTypeIf, IsSpelled, AreSpelled, AreValues, AreElements, AreDefs, IsArm, AreArms, HasArms, IsGenerator, AreGenerators, IsClause, AreClauses}
use Rattle.text_trees.proofs.Every.{Each, IfAny}

module _ (tokens : List Token) (names h : ℕ) where
  -- ---- one or more

  abbrev pub Exprs : List Expr → Type 0
  Exprs es = AreSpelled tokens names h es × (1 ≤ length es)

  abbrev pub Defs : List Def → Type 0
  Defs ds = AreDefs tokens names h ds × (1 ≤ length ds)

  abbrev pub Group : List Generator → Type 0
  Group g = AreGenerators tokens names h g × (1 ≤ length g)

  abbrev pub Value : FieldValue → Type 0
  Value v = (v.field.name < names) × IsSpelled tokens names h v.value

  -- ---- lists

  pub exprs_of : (es : List Expr) → Each (λ e. IsSpelled tokens names h e) es → AreSpelled tokens names h es
  exprs_of [] p = is.no_expr
  exprs_of (e ∷ es) p = is.an_expr p.0 (exprs_of es p.1)

  pub values_of : (vs : List FieldValue) → Each Value vs → AreValues tokens names h vs
  values_of [] p = is.no_value
  values_of (v ∷ vs) p = is.a_value {n = v.field} {e = v.value} p.0.0 p.0.1 (values_of vs p.1)

  pub arms_of : (bs : List Arm) → Each (λ a. IsArm tokens names h a) bs → AreArms tokens names h bs
  arms_of [] p = is.no_arm
  arms_of (a ∷ bs) p = is.an_arm p.0 (arms_of bs p.1)

  pub generators_of : (gs : List Generator) → Each (λ g. IsGenerator tokens names h g) gs → AreGenerators tokens names h gs
  generators_of [] p = is.no_generator
  generators_of (g ∷ gs) p = is.a_generator p.0 (generators_of gs p.1)

  pub clauses_of : (cs : List Clause) → Each (λ c. IsClause tokens names h c) cs → AreClauses tokens names h cs
  clauses_of [] p = is.no_clause
  clauses_of (c ∷ cs) p = is.a_clause p.0 (clauses_of cs p.1)

  -- ---- operators and selections one after another

  pub chained_spelled : (l : List (BinaryOperator × Expr)) (a : Expr) → IsSpelled tokens names h a → Each (λ t. IsSpelled tokens names h t.1) l → IsSpelled tokens names h (chained a l)
  chained_spelled [] a p q = p
  chained_spelled (t ∷ l) a p q = chained_spelled l (joined a t) (is.binary p q.0) q.1

  pub compared_spelled : (c : Option (BinaryOperator × Expr)) (a : Expr) → IsSpelled tokens names h a → IfAny (λ t. IsSpelled tokens names h t.1) c → IsSpelled tokens names h (compared a c)
  compared_spelled None a p q = p
  compared_spelled (Some t) a p q = is.binary p q

  selected_spelled : (es : List Expr) (a : Expr) → IsSpelled tokens names h a → AreSpelled tokens names h es → IsSpelled tokens names h (fold selected a es)
  selected_spelled _ a p is.no_expr = p
  selected_spelled _ a p (is.an_expr {e = e} {es = es} q qs) = selected_spelled es (selected a e) (is.select p q) qs

  abbrev pub IsFineSelector : Selector → Type 0
  IsFineSelector (select.At es) = AreSpelled tokens names h es
  IsFineSelector (select.Change i v) = IsSpelled tokens names h i × IsSpelled tokens names h v
  IsFineSelector (select.Field x) = x < names
  IsFineSelector (select.Replace vs) = AreValues tokens names h vs × (1 ≤ length vs)

  followed_spelled : (a : Expr) (s : Selector) → IsSpelled tokens names h a → IsFineSelector s → IsSpelled tokens names h (followed a s)
  followed_spelled a (select.At es) p q = selected_spelled es a p q
  followed_spelled a (select.Change i v) p q = is.update p q.0 q.1
  followed_spelled a (select.Field x) p q = is.field q p
  followed_spelled a (select.Replace vs) p q = is.replace p q.0 q.1

  pub posted_spelled : (l : List Selector) (a : Expr) → IsSpelled tokens names h a → Each IsFineSelector l → IsSpelled tokens names h (posted a l)
  posted_spelled [] a p q = p
  posted_spelled (s ∷ l) a p q = posted_spelled l (followed a s) (followed_spelled a s p q.0) q.1

  -- ---- parts that may be absent

  pub type_if : (o : Option Written) → IfAny (λ w. IsType tokens w) o → IsTypeIf tokens o
  type_if None p = tt
  type_if (Some w) p = p

  pub listed_exprs : (o : Option (List Expr)) → IfAny Exprs o → AreSpelled tokens names h (listed o)
  listed_exprs None p = is.no_expr
  listed_exprs (Some es) p = p.0

  pub listed_defs : (o : Option (List Def)) → IfAny Defs o → AreDefs tokens names h (listed o)
  listed_defs None p = is.no_def
  listed_defs (Some ds) p = p.0

  pub array_spelled : (l : ℕ) (x : Option ℕ) (o : Option Elements) → IfAny (λ els. AreElements tokens names h els) o → IsSpelled tokens names h (at l (tree.Array x o))
  array_spelled l x None p = is.no_elements
  array_spelled l x (Some els) p = is.array p

  pub content_spelled : (t : Placed) (o : Option Expr) → IfAny (λ e. IsSpelled tokens names h e) o → IsSpelled tokens names h (content t o)
  content_spelled t None p = is.constant
  content_spelled t (Some e) p = p

  pub generator_spelled : (n : Named) (e : Expr) (o : Option Expr) (x : Option ℕ) → n.name < names → IsSpelled tokens names h e → IfAny (λ f. IsSpelled tokens names h f) o
      → IsGenerator tokens names h (roll-Generator (record { name = n; from = e; to = o; at = x }))
  generator_spelled n e None x low p q = is.over n x low p
  generator_spelled n e (Some f) x low p q = is.range n x low p q

  pub clause_spelled : (l : ℕ) (k : ClauseKind) (e : Expr) (o : Option Mask) → IsSpelled tokens names h e → IfAny (λ m. IsSpelled tokens names h m.test) o
      → IsClause tokens names h (roll-Clause (record { line = l; kind = k; value = e; mask = o }))
  clause_spelled l k e None p q = is.all_kept l k p
  clause_spelled l k e (Some m) p q = is.masked l k m.is_unless {f = m.test} p q

  pub case_spelled : (l : ℕ) (x : Option ℕ) (e : Expr) (bs : List Arm) (o : Option (List Expr)) → IsSpelled tokens names h e → HasArms tokens names h x bs → IfAny Exprs o
      → IsSpelled tokens names h (at l (tree.TagCase (tag_case (record { name = x; expr = e }) bs o)))
  case_spelled l x e bs None p q r = is.tag_case (is.all_named x p q)
  case_spelled l x e bs (Some es) p q r = is.tag_case (is.otherwise x p q r.0 r.1)

  -- ---- an `elseif` is an `if` in the `else` part

  abbrev pub IsFineElse : ElseIf → Type 0
  IsFineElse i = IsSpelled tokens names h i.test × Exprs i.results

  pub nested_spelled : (l : List ElseIf) (es : List Expr) → Each IsFineElse l → Exprs es → Exprs (nested l es)
  nested_spelled [] es p q = q
  nested_spelled (i ∷ l) es p q = let rest = nested_spelled l es p.1 q in (is.an_expr (is.if_else p.0.0 p.0.1.0 p.0.1.1 rest.0 rest.1) is.no_expr, omega arith)
