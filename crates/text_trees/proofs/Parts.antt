-- What a spelled expression consists of.
use Rattle.std.proofs.Common.{◌≡◌, ◌≤◌, ◌+◌, ℕ, List, ◌∷◌, Option, Some, None, All, length, sym, subst}
use Rattle.std.proofs.lemmas.List.Elements.{All-nil, All-cons}
use Rattle.sisal_lex.specs.declared.token.Token.{Token}
use Rattle.sisal_tree.specs.declared.expr.Expr.{Expr}
use Rattle.sisal_tree.specs.declared.expr.ExprKind.{ExprKind}
use Rattle.sisal_tree.specs.declared.expr.ExprKind.TheVariants as tree
use Rattle.sisal_tree.specs.declared.expr.ExprKind.TheOpen.{ExprKind-F, Loop-F}
use Rattle.sisal_tree.specs.declared.expr.ExprKind.TheViews.{out-ExprKind, out-Loop}
use Rattle.sisal_tree.specs.declared.expr.FieldValue.{FieldValue}
use Rattle.sisal_tree.specs.declared.expr.Elements.{Elements, out-Elements}
use Rattle.sisal_tree.specs.declared.expr.Def.{Def, out-Def}
use Rattle.sisal_tree.specs.declared.expr.Arm.{Arm, out-Arm}
use Rattle.sisal_tree.specs.declared.expr.TagCase.{TagCase, out-TagCase}
use Rattle.sisal_tree.specs.declared.expr.Loop.{Loop}
use Rattle.sisal_tree.specs.declared.expr.Loop.TheVariants as loop
use Rattle.sisal_tree.specs.declared.expr.Generator.{Generator, out-Generator}
use Rattle.sisal_tree.specs.declared.expr.Turn.{Turn, out-Turn}
use Rattle.sisal_tree.specs.declared.expr.Clause.{Clause, out-Clause}
use Rattle.sisal_tree.specs.declared.expr.Mask.{Mask}
use Rattle.text_trees.specs.Spelled as is
use Rattle.text_trees.specs.Spelled.{IsTarget, IsSpelled, AreSpelled, AreValues, AreElements, IsDef, AreDefs, IsArm, AreArms, HasArms, IsTagCase, IsLoop, AreGroups, AreGenerators, IsGenerator, IsTurn, IsClause, AreClauses, defs_levels, group_levels, groups_levels, content_levels}
use Rattle.text_trees.specs.Parts.{IsValue, HasParts, HasLoopParts, HasEachArm, AreLast, IsEnd, IsMask}
use Rattle.text_trees.specs.Laws.{PartsLaw}
use Rattle.text_trees.proofs.Views.{out_constant, out_name, out_old, out_group, out_call, out_convert, out_error_of, out_is_error, out_is_tag, out_prefix, out_binary, out_select, out_update, out_field, out_replace, out_empty_array, out_array, out_stream, out_a_record, out_union, out_let, out_if, out_tag_case, out_for, out_product, out_initial, out_elements, out_def, out_case, out_arm, out_generator, out_turn, out_clause}

module _ (tokens : List Token) (names : ℕ) where
  -- ---- one by one

  each_expr : (h : ℕ) (es : List Expr) → AreSpelled tokens names h es → All (IsSpelled tokens names h) es
  each_expr h _ is.no_expr = All-nil (IsSpelled tokens names h)
  each_expr h _ (is.an_expr {e = e} {es = es} p ps) = All-cons (IsSpelled tokens names h) e es p (each_expr h es ps)

  each_value : (h : ℕ) (vs : List FieldValue) → AreValues tokens names h vs → All (IsValue tokens names h) vs
  each_value h _ is.no_value = All-nil (IsValue tokens names h)
  each_value h _ (is.a_value {n = n} {e = e} {vs = vs} low p ps) =
      All-cons (IsValue tokens names h) (record { field = n; value = e }) vs (record { named = low; value = p }) (each_value h vs ps)

  each_arm : (h : ℕ) (bs : List Arm) → AreArms tokens names h bs → All (IsArm tokens names h) bs
  each_arm h _ is.no_arm = All-nil (IsArm tokens names h)
  each_arm h _ (is.an_arm {a = a} {bs = bs} p ps) = All-cons (IsArm tokens names h) a bs p (each_arm h bs ps)

  each_generator : (h : ℕ) (gs : List Generator) → AreGenerators tokens names h gs → All (IsGenerator tokens names h) gs
  each_generator h _ is.no_generator = All-nil (IsGenerator tokens names h)
  each_generator h _ (is.a_generator {g = g} {gs = gs} p ps) = All-cons (IsGenerator tokens names h) g gs p (each_generator h gs ps)

  defs_parts : (h : ℕ) (d : Def) (ds : List Def) → AreDefs tokens names h (d ∷ ds) → IsDef tokens names h d × AreDefs tokens names (h + length (out-Def d).targets) ds
  defs_parts h _ _ (is.a_def p ps) = (p, ps)

  groups_parts : (h : ℕ) (g : List Generator) (gs : List (List Generator)) → AreGroups tokens names h (g ∷ gs)
      → All (IsGenerator tokens names h) g × (1 ≤ length g) × (h + group_levels g ≤ 4294967295) × AreGroups tokens names (h + group_levels g) gs
  groups_parts h _ _ (is.a_group {g = g} p some room ps) = (each_generator h g p, some, room, ps)

  arms_parts : (h : ℕ) (x : Option ℕ) (bs : List Arm) → HasArms tokens names h x bs → HasEachArm tokens names h x bs
  arms_parts h _ _ (is.arms x {bs = bs} p room some few) = record { each = each_arm (h + content_levels x) bs p; room = room; some = some; few = few }

  each_clause : (h : ℕ) (cs : List Clause) → AreClauses tokens names h cs → All (IsClause tokens names h) cs
  each_clause h _ is.no_clause = All-nil (IsClause tokens names h)
  each_clause h _ (is.a_clause {c = c} {cs = cs} p ps) = All-cons (IsClause tokens names h) c cs p (each_clause h cs ps)

  -- ---- expressions

  opened : (h : ℕ) (x : ExprKind) (y : ExprKind-F ExprKind Loop Arm Clause Def Elements Expr FieldValue Generator Mask TagCase Turn)
      → out-ExprKind x ≡ y → HasParts tokens names h y → HasParts tokens names h (out-ExprKind x)
  opened h x y e p = subst (λ z. HasParts tokens names h z) (sym e) p

  expr_parts : (h : ℕ) (e : Expr) → IsSpelled tokens names h e → HasParts tokens names h (out-ExprKind e.kind)
  expr_parts h _ (is.constant {c = c}) = opened h (tree.Constant c) (ExprKind-F.Constant c) (out_constant c) tt
  expr_parts h _ (is.name {x = x} low) = opened h (tree.Name x) (ExprKind-F.Name x) (out_name x) low
  expr_parts h _ (is.old {x = x} low) = opened h (tree.Old x) (ExprKind-F.Old x) (out_old x) low
  expr_parts h _ (is.group {e = e} p) = opened h (tree.Group e) (ExprKind-F.Group e) (out_group e) p
  expr_parts h _ (is.call {x = x} {es = es} low p) = opened h (tree.Call x es) (ExprKind-F.Call x es) (out_call x es) (each_expr h es p)
  expr_parts h _ (is.convert {s = s} {e = e} p) = opened h (tree.Convert s e) (ExprKind-F.Convert s e) (out_convert s e) p
  expr_parts h _ (is.error_of {w = w} p) = opened h (tree.ErrorOf w) (ExprKind-F.ErrorOf w) (out_error_of w) p
  expr_parts h _ (is.is_error {e = e} p) = opened h (tree.IsError e) (ExprKind-F.IsError e) (out_is_error e) p
  expr_parts h _ (is.is_tag {x = x} {e = e} low p) = opened h (tree.IsTag x e) (ExprKind-F.IsTag x e) (out_is_tag x e) p
  expr_parts h _ (is.prefix {o = o} {e = e} p) = opened h (tree.Prefix o e) (ExprKind-F.Prefix o e) (out_prefix o e) p
  expr_parts h _ (is.binary {o = o} {e = e} {f = f} p q) = opened h (tree.Binary o e f) (ExprKind-F.Binary o e f) (out_binary o e f) (p, q)
  expr_parts h _ (is.select {e = e} {i = i} p q) = opened h (tree.Select e i) (ExprKind-F.Select e i) (out_select e i) (p, q)
  expr_parts h _ (is.update {e = e} {i = i} {f = f} p q r) = opened h (tree.Update e i f) (ExprKind-F.Update e i f) (out_update e i f) (p, q, r)
  expr_parts h _ (is.field {x = x} {e = e} low p) = opened h (tree.Field e x) (ExprKind-F.Field e x) (out_field e x) p
  expr_parts h _ (is.replace {e = e} {vs = vs} p q some) = opened h (tree.Replace e vs) (ExprKind-F.Replace e vs) (out_replace e vs) (p, each_value h vs q, some)
  expr_parts h _ (is.no_elements {x = x}) = opened h (tree.Array x None) (ExprKind-F.Array x None) (out_empty_array x) tt
  expr_parts h _ (is.array {x = x} {els = els} p) = opened h (tree.Array x (Some els)) (ExprKind-F.Array x (Some els)) (out_array x els) p
  expr_parts h _ (is.stream {x = x} {es = es} p) = opened h (tree.Stream x es) (ExprKind-F.Stream x es) (out_stream x es) (each_expr h es p)
  expr_parts h _ (is.a_record {x = x} {vs = vs} p some) = opened h (tree.Record x vs) (ExprKind-F.Record x vs) (out_a_record x vs) (each_value h vs p, some)
  expr_parts h _ (is.union {x = x} {t = t} {e = e} low tag p) = opened h (tree.Union x t e) (ExprKind-F.Union x t e) (out_union x t e) p
  expr_parts h _ (is.let_in {ds = ds} {es = es} p q some) = opened h (tree.Let ds es) (ExprKind-F.Let ds es) (out_let ds es) (p, each_expr (h + defs_levels ds) es q, some)
  expr_parts h _ (is.if_else {e = e} {es = es} {fs = fs} p q some r more) =
      opened h (tree.If e es fs) (ExprKind-F.If e es fs) (out_if e es fs) (p, each_expr h es q, some, each_expr h fs r, more)
  expr_parts h _ (is.tag_case {c = c} p) = opened h (tree.TagCase c) (ExprKind-F.TagCase c) (out_tag_case c) p
  expr_parts h _ (is.for_all {p = p} q) = opened h (tree.For p) (ExprKind-F.For p) (out_for p) q

  loop_opened : (h : ℕ) (x : Loop) (y : Loop-F ExprKind Loop Arm Clause Def Elements Expr FieldValue Generator Mask TagCase Turn)
      → out-Loop x ≡ y → HasLoopParts tokens names h y → HasLoopParts tokens names h (out-Loop x)
  loop_opened h x y e p = subst (λ z. HasLoopParts tokens names h z) (sym e) p

  loop_parts : (h : ℕ) (p : Loop) → IsLoop tokens names h p → HasLoopParts tokens names h (out-Loop p)
  loop_parts h _ (is.product {gs = gs} {ds = ds} {cs = cs} p some q r more) =
      loop_opened h (loop.Product gs ds cs) (Loop-F.Product gs ds cs) (out_product gs ds cs) (p, some, q, each_clause (h + groups_levels gs + defs_levels ds) cs r, more)
  loop_parts h _ (is.initial {ds = ds} {t = t} {cs = cs} p some q r more) =
      loop_opened h (loop.Initial ds t cs) (Loop-F.Initial ds t cs) (out_initial ds t cs) (p, some, q, each_clause (h + defs_levels ds) cs r, more)

  -- ---- parts

  elements_parts : (h : ℕ) (els : Elements) → AreElements tokens names h els
      → IsSpelled tokens names h (out-Elements els).lower × All (IsSpelled tokens names h) (out-Elements els).values × (1 ≤ length (out-Elements els).values)
  elements_parts h _ (is.elements {e = e} {es = es} p q some) =
      subst (λ z. IsSpelled tokens names h z.lower × All (IsSpelled tokens names h) z.values × (1 ≤ length z.values)) (sym (out_elements e es)) (p, each_expr h es q, some)

  def_parts : (h : ℕ) (d : Def) → IsDef tokens names h d
      → All (IsTarget tokens names) (out-Def d).targets × (1 ≤ length (out-Def d).targets) × (h + length (out-Def d).targets ≤ 4294967295) × All (IsSpelled tokens names h) (out-Def d).values × (1 ≤ length (out-Def d).values)
  def_parts h _ (is.def xs {es = es} p some room q more) =
      subst (λ z. All (IsTarget tokens names) z.targets × (1 ≤ length z.targets) × (h + length z.targets ≤ 4294967295) × All (IsSpelled tokens names h) z.values × (1 ≤ length z.values)) (sym (out_def xs es))
      (p, some, room, each_expr h es q, more)

  arm_parts : (h : ℕ) (a : Arm) → IsArm tokens names h a → (1 ≤ length (out-Arm a).tags) × All (IsSpelled tokens names h) (out-Arm a).results × (1 ≤ length (out-Arm a).results)
  arm_parts h _ (is.arm l ts {es = es} low some q more) =
      subst (λ z. (1 ≤ length z.tags) × All (IsSpelled tokens names h) z.results × (1 ≤ length z.results)) (sym (out_arm l ts es)) (some, each_expr h es q, more)

  case_parts : (h : ℕ) (c : TagCase) → IsTagCase tokens names h c
      → IsSpelled tokens names h (out-TagCase c).subject × HasEachArm tokens names h (out-TagCase c).name (out-TagCase c).arms × AreLast tokens names h (out-TagCase c).otherwise
  case_parts h _ (is.all_named x {e = e} {bs = bs} p q) =
      subst (λ z. IsSpelled tokens names h z.subject × HasEachArm tokens names h z.name z.arms × AreLast tokens names h z.otherwise) (sym (out_case x e bs None))
      (p, arms_parts h x bs q, tt)
  case_parts h _ (is.otherwise x {e = e} {bs = bs} {es = es} p q r more) =
      subst (λ z. IsSpelled tokens names h z.subject × HasEachArm tokens names h z.name z.arms × AreLast tokens names h z.otherwise) (sym (out_case x e bs (Some es)))
      (p, arms_parts h x bs q, (each_expr h es r, more))

  generator_parts : (h : ℕ) (g : Generator) → IsGenerator tokens names h g → IsSpelled tokens names h (out-Generator g).from × IsEnd tokens names h (out-Generator g).to
  generator_parts h _ (is.over n {e = e} x low p) = subst (λ z. IsSpelled tokens names h z.from × IsEnd tokens names h z.to) (sym (out_generator n e None x)) (p, tt)
  generator_parts h _ (is.range n {e = e} {f = f} x low p q) =
      subst (λ z. IsSpelled tokens names h z.from × IsEnd tokens names h z.to) (sym (out_generator n e (Some f) x)) (p, q)

  turn_parts : (h : ℕ) (t : Turn) → IsTurn tokens names h t → IsSpelled tokens names h (out-Turn t).test × AreDefs tokens names h (out-Turn t).defs × (1 ≤ length (out-Turn t).defs)
  turn_parts h _ (is.turn f u {e = e} {ds = ds} p q some) =
      subst (λ z. IsSpelled tokens names h z.test × AreDefs tokens names h z.defs × (1 ≤ length z.defs)) (sym (out_turn f u e ds)) (p, q, some)

  clause_parts : (h : ℕ) (c : Clause) → IsClause tokens names h c → IsSpelled tokens names h (out-Clause c).value × IsMask tokens names h (out-Clause c).mask
  clause_parts h _ (is.all_kept l k {e = e} p) = subst (λ z. IsSpelled tokens names h z.value × IsMask tokens names h z.mask) (sym (out_clause l k e None)) (p, tt)
  clause_parts h _ (is.masked l k u {e = e} {f = f} p q) =
      subst (λ z. IsSpelled tokens names h z.value × IsMask tokens names h z.mask) (sym (out_clause l k e (Some (record { is_unless = u; test = f })))) (p, q)

pub spelled_parts : PartsLaw
spelled_parts = record {
  exprs = each_expr;
  expr = expr_parts;
  elements = elements_parts;
  def = def_parts;
  defs = defs_parts;
  arm = arm_parts;
  tag_case = case_parts;
  loop = loop_parts;
  groups = groups_parts;
  generator = generator_parts;
  turn = turn_parts;
  clause = clause_parts;
}
