-- The forms of expressions and of their parts, opened.
use Rattle.std.proofs.Common.{◌≡◌, ℕ, List, Bool, Option, Some, None, rules}
use Rattle.sisal_tree.specs.declared.unit.Named.{Named}
use Rattle.sisal_tree.specs.declared.unit.Written.{Written}
use Rattle.sisal_tree.specs.declared.expr.Constant.{Constant}
use Rattle.sisal_tree.specs.declared.expr.Scalar.{Scalar}
use Rattle.sisal_tree.specs.declared.expr.PrefixOperator.{PrefixOperator}
use Rattle.sisal_tree.specs.declared.expr.BinaryOperator.{BinaryOperator}
use Rattle.sisal_tree.specs.declared.expr.ClauseKind.{ClauseKind}
use Rattle.sisal_tree.specs.declared.expr.FieldValue.{FieldValue}
use Rattle.sisal_tree.specs.declared.expr.Mask.{Mask}
use Rattle.sisal_tree.specs.declared.expr.Elements.{Elements, out-Elements, roll-Elements}
use Rattle.sisal_tree.specs.declared.expr.Def.{Def, out-Def, roll-Def}
use Rattle.sisal_tree.specs.declared.expr.Target.{Target}
use Rattle.sisal_tree.specs.declared.expr.TagCase.{TagCase, out-TagCase, roll-TagCase}
use Rattle.sisal_tree.specs.declared.expr.Arm.{Arm, out-Arm, roll-Arm}
use Rattle.sisal_tree.specs.declared.expr.Loop.{Loop}
use Rattle.sisal_tree.specs.declared.expr.Loop.TheVariants as loop
use Rattle.sisal_tree.specs.declared.expr.Generator.{Generator, out-Generator, roll-Generator}
use Rattle.sisal_tree.specs.declared.expr.Turn.{Turn, out-Turn, roll-Turn}
use Rattle.sisal_tree.specs.declared.expr.Clause.{Clause, out-Clause, roll-Clause}
use Rattle.sisal_tree.specs.declared.expr.Expr.{Expr}
use Rattle.sisal_tree.specs.declared.expr.ExprKind.TheVariants as tree
use Rattle.sisal_tree.specs.declared.expr.ExprKind.TheOpen.{ExprKind-F, Loop-F}
use Rattle.sisal_tree.specs.declared.expr.ExprKind.TheViews as kinds
use Rattle.sisal_tree.specs.declared.expr.ExprKind.TheViews.{out-ExprKind, out-Loop}

-- ---- expressions

pub out_constant : (c : Constant) → out-ExprKind (tree.Constant c) ≡ ExprKind-F.Constant c
out_constant c = search (rules, kinds.the_lemmas)

pub out_name : (x : ℕ) → out-ExprKind (tree.Name x) ≡ ExprKind-F.Name x
out_name x = search (rules, kinds.the_lemmas)

pub out_old : (x : ℕ) → out-ExprKind (tree.Old x) ≡ ExprKind-F.Old x
out_old x = search (rules, kinds.the_lemmas)

pub out_group : (e : Expr) → out-ExprKind (tree.Group e) ≡ ExprKind-F.Group e
out_group e = search (rules, kinds.the_lemmas)

pub out_call : (x : ℕ) (es : List Expr) → out-ExprKind (tree.Call x es) ≡ ExprKind-F.Call x es
out_call x es = search (rules, kinds.the_lemmas)

pub out_convert : (c : Scalar) (e : Expr) → out-ExprKind (tree.Convert c e) ≡ ExprKind-F.Convert c e
out_convert c e = search (rules, kinds.the_lemmas)

pub out_error_of : (w : Written) → out-ExprKind (tree.ErrorOf w) ≡ ExprKind-F.ErrorOf w
out_error_of w = search (rules, kinds.the_lemmas)

pub out_is_error : (e : Expr) → out-ExprKind (tree.IsError e) ≡ ExprKind-F.IsError e
out_is_error e = search (rules, kinds.the_lemmas)

pub out_is_tag : (x : ℕ) (e : Expr) → out-ExprKind (tree.IsTag x e) ≡ ExprKind-F.IsTag x e
out_is_tag x e = search (rules, kinds.the_lemmas)

pub out_prefix : (o : PrefixOperator) (e : Expr) → out-ExprKind (tree.Prefix o e) ≡ ExprKind-F.Prefix o e
out_prefix o e = search (rules, kinds.the_lemmas)

pub out_binary : (o : BinaryOperator) (e f : Expr) → out-ExprKind (tree.Binary o e f) ≡ ExprKind-F.Binary o e f
out_binary o e f = search (rules, kinds.the_lemmas)

pub out_select : (e i : Expr) → out-ExprKind (tree.Select e i) ≡ ExprKind-F.Select e i
out_select e i = search (rules, kinds.the_lemmas)

pub out_update : (e i f : Expr) → out-ExprKind (tree.Update e i f) ≡ ExprKind-F.Update e i f
out_update e i f = search (rules, kinds.the_lemmas)

pub out_field : (e : Expr) (x : ℕ) → out-ExprKind (tree.Field e x) ≡ ExprKind-F.Field e x
out_field e x = search (rules, kinds.the_lemmas)

pub out_replace : (e : Expr) (vs : List FieldValue) → out-ExprKind (tree.Replace e vs) ≡ ExprKind-F.Replace e vs
out_replace e vs = search (rules, kinds.the_lemmas)

pub out_empty_array : (x : Option ℕ) → out-ExprKind (tree.Array x None) ≡ ExprKind-F.Array x None
out_empty_array x = search (rules, kinds.the_lemmas)

pub out_array : (x : Option ℕ) (els : Elements) → out-ExprKind (tree.Array x (Some els)) ≡ ExprKind-F.Array x (Some els)
out_array x els = search (rules, kinds.the_lemmas)

pub out_stream : (x : Option ℕ) (es : List Expr) → out-ExprKind (tree.Stream x es) ≡ ExprKind-F.Stream x es
out_stream x es = search (rules, kinds.the_lemmas)

pub out_a_record : (x : Option ℕ) (vs : List FieldValue) → out-ExprKind (tree.Record x vs) ≡ ExprKind-F.Record x vs
out_a_record x vs = search (rules, kinds.the_lemmas)

pub out_union : (x tag : ℕ) (e : Expr) → out-ExprKind (tree.Union x tag e) ≡ ExprKind-F.Union x tag e
out_union x tag e = search (rules, kinds.the_lemmas)

pub out_let : (ds : List Def) (es : List Expr) → out-ExprKind (tree.Let ds es) ≡ ExprKind-F.Let ds es
out_let ds es = search (rules, kinds.the_lemmas)

pub out_if : (c : Expr) (es fs : List Expr) → out-ExprKind (tree.If c es fs) ≡ ExprKind-F.If c es fs
out_if c es fs = search (rules, kinds.the_lemmas)

pub out_tag_case : (c : TagCase) → out-ExprKind (tree.TagCase c) ≡ ExprKind-F.TagCase c
out_tag_case c = search (rules, kinds.the_lemmas)

pub out_for : (p : Loop) → out-ExprKind (tree.For p) ≡ ExprKind-F.For p
out_for p = search (rules, kinds.the_lemmas)

-- ---- loops

pub out_product : (gs : List (List Generator)) (ds : List Def) (cs : List Clause) → out-Loop (loop.Product gs ds cs) ≡ Loop-F.Product gs ds cs
out_product gs ds cs = search (rules, kinds.the_lemmas)

pub out_initial : (ds : List Def) (t : Turn) (cs : List Clause) → out-Loop (loop.Initial ds t cs) ≡ Loop-F.Initial ds t cs
out_initial ds t cs = search (rules, kinds.the_lemmas)

-- ---- parts

pub out_elements : (low : Expr) (es : List Expr) → out-Elements (roll-Elements (record { lower = low; values = es })) ≡ record { lower = low; values = es }
out_elements low es = search (rules, kinds.the_lemmas)

pub out_def : (xs : List Target) (es : List Expr) → out-Def (roll-Def (record { targets = xs; values = es })) ≡ record { targets = xs; values = es }
out_def xs es = search (rules, kinds.the_lemmas)

pub out_case : (x : Option ℕ) (e : Expr) (arms : List Arm) (other : Option (List Expr)) → out-TagCase (roll-TagCase (record { name = x; subject = e; arms = arms; otherwise = other })) ≡ record { name = x; subject = e; arms = arms; otherwise = other }
out_case x e arms other = search (rules, kinds.the_lemmas)

pub out_arm : (l : ℕ) (tags : List Named) (es : List Expr) → out-Arm (roll-Arm (record { line = l; tags = tags; results = es })) ≡ record { line = l; tags = tags; results = es }
out_arm l tags es = search (rules, kinds.the_lemmas)

pub out_generator : (n : Named) (e : Expr) (to : Option Expr) (i : Option ℕ) → out-Generator (roll-Generator (record { name = n; from = e; to = to; at = i })) ≡ record { name = n; from = e; to = to; at = i }
out_generator n e to i = search (rules, kinds.the_lemmas)

pub out_turn : (is_first is_until : Bool) (e : Expr) (ds : List Def) → out-Turn (roll-Turn (record { is_first = is_first; is_until = is_until; test = e; defs = ds })) ≡ record { is_first = is_first; is_until = is_until; test = e; defs = ds }
out_turn is_first is_until e ds = search (rules, kinds.the_lemmas)

pub out_clause : (l : ℕ) (kind : ClauseKind) (e : Expr) (m : Option Mask) → out-Clause (roll-Clause (record { line = l; kind = kind; value = e; mask = m })) ≡ record { line = l; kind = kind; value = e; mask = m }
out_clause l kind e m = search (rules, kinds.the_lemmas)
