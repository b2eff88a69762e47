-- Names that came into force are left again.
use Rattle.std.proofs.Common.{◌≡◌, ℕ, ◌+◌, ◌-◌, List, [], ◌∷◌, ◌++◌, None, drop, length, refl, sym, ap, subst, ◌∙◌, arith}
use Rattle.std.proofs.lemmas.List.{length-append}
use Rattle.type_table.specs.declared.form.Form.{Form}
use Rattle.sisal_tree.specs.declared.expr.Def.{Def}
use Rattle.sisal_tree.specs.declared.expr.Expr.{Expr}
use Rattle.sisal_tree.specs.declared.expr.ExprKind.TheVariants as tree
use Rattle.typed_tree.specs.declared.expr.TypedExpr.{TypedExpr}
use Rattle.typed_tree.specs.declared.expr.TypedKind.TheVariants as typed
use Rattle.typed_tree.specs.Scopes.{AreDistinct, targets}
use Rattle.typed_tree.specs.Typing as rule
use Rattle.typed_tree.specs.Typing.{at, with}
use Rattle.type_rules.specs.Applies.{Grows}
use Rattle.value_names.specs.Names.{Names}
use Rattle.value_names.specs.Scopes.{mark_of, left}
use Rattle.typing_laws.specs.Given.{Given}
use Rattle.typing_laws.specs.Judged.{IsAbove, IsTypedAs, Typed, AllTyped}
use Rattle.typing_laws.specs.Defining.{AllDefined}
use Rattle.typing_laws.proofs.Later.{agrees_before}

drop_more : {A : Type 0} (more old : List A) → drop (length more) (more ++ old) ≡ old
drop_more [] old = refl
drop_more (x ∷ more) old = drop_more more old

pub drop_back : {A : Type 0} (new more old : List A) → new ≡ more ++ old → drop (length new - length old) new ≡ old
drop_back new more old e =
    let size : length new - length old ≡ length more = (let n : length new ≡ length more + length old = ap length e ∙ length-append more old in omega (arith, n)) in
    ap (λ n. drop n new) size ∙ ap (drop (length more)) e ∙ drop_more more old

pub left_above : (old new : Names) → IsAbove old new → left (mark_of old) new ≡ old
left_above old new above =
    ap (λ l. record { names = l; olds = drop (length new.olds - length old.olds) new.olds; height = old.height }) (drop_back new.names above.more old.names above.names)
    ∙ ap (λ l. record { names = old.names; olds = l; height = old.height }) (drop_back new.olds [] old.olds above.olds)

pub let_typed : (g : Given) (f1 f2 : List Form) (names inside : Names) (line : ℕ) (ds : List Def) (es : List Expr) (us : List (List TypedExpr)) (made : List ℕ) (ts : List TypedExpr) (ns : List ℕ) (t : TypedExpr)
    → Grows f1 f2 → AllDefined g f1 names inside None ds us made → AreDistinct (targets ds) → AllTyped g f2 inside es ts ns
    → t ≡ with line ns (typed.Let us ts) → Typed g f2 names (at line (tree.Let ds es)) t
let_typed g f1 f2 names inside line ds es us made ts ns t grows defined distinct p is = record {
  holds = λ k s a st.
      let d = defined.holds k s (agrees_before g f1 f2 k grows a) st in
      let x = p.holds k d.inside a d.stands in
      subst (λ u. IsTypedAs k g s (at line (tree.Let ds es)) u) (sym is) (record { tys = x.tys; number = x.number; typed = rule.let_in d.defines distinct x.typed x.number });
}
