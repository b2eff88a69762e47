-- What each form of expression becomes, by its parts.
use Rattle.std.proofs.Common.{◌≡◌, ℕ, List, [], ◌∷◌, sym, ap, ◌∙◌}
use Rattle.type_table.specs.declared.form.Form.{Form}
use Rattle.sisal_tree.specs.declared.expr.Constant.{Constant}
use Rattle.value_ops.specs.declared.operation.Operation.{Operation}
use Rattle.typed_tree.specs.declared.expr.TypedExpr.{TypedExpr}
use Rattle.typed_tree.specs.declared.expr.TypedKind.{TypedKind}
use Rattle.typed_tree.specs.declared.expr.TypedKind.TheVariants as typed
use Rattle.typed_tree.specs.declared.expr.TypedKind.TheViews.{roll-TypedKind}
use Rattle.typed_tree.specs.declared.expr.TypedKind.TheOpen.{TypedKind-F}
use Rattle.typed_tree.specs.declared.expr.TypedKind.TheFolds.{map-TypedKind, fold-roll-TypedKind, fold-roll-TypedExpr}
use Rattle.typed_tree.specs.declared.expr.Case.{Case}
use Rattle.typed_tree.specs.declared.expr.Product.{Product}
use Rattle.typed_tree.specs.declared.expr.Turns.{Turns}
use Rattle.lowering.specs.declared.feed.Wire.{Wire}
use Rattle.lowering.specs.Graphs.{only, andthen}
use Rattle.lowering.specs.Operations.{body_lowered, wire_at, constant_lowered}
use Rattle.lowering.specs.Choices.{if_lowered, case_lowered}
use Rattle.lowering.specs.Loops.{Phrase, product_lowered, initial_lowered}
use Rattle.lowering.specs.Phrases.{Kind, each, phrase, phrase_kind, kind_lowered, expr_lowered, lowers}
use Rattle.lower_exprs.specs.Phrased.{kind_of, phrases, alls, lists, call_of, apply_of}

module _ (forms : List Form) where
  -- an expression is its kind at its types
  pub expr_is : (e : TypedExpr) (env : List Wire) → lowers forms e env ≡ kind_of forms e.kind e.types env
  expr_is e env = ap (λ (p : Phrase). p.lowers env) (fold-roll-TypedExpr Kind Phrase (kind_lowered forms) expr_lowered (record { line = e.line; types = e.types; kind = e.kind }))

  layer_is : (x : TypedKind-F TypedKind TypedExpr) (ts : List ℕ) (env : List Wire)
      → kind_of forms (roll-TypedKind x) ts env ≡ (kind_lowered forms (map-TypedKind TypedKind TypedExpr Kind Phrase (phrase_kind forms) (phrase forms) x)).lowers ts env
  layer_is x ts env = ap (λ (k : Kind). k.lowers ts env) (fold-roll-TypedKind Kind Phrase (kind_lowered forms) expr_lowered x)

  module _ (k : TypedKind) (ts : List ℕ) (env : List Wire) where
    pub constant_is : (c : Constant) → k ≡ typed.Constant c → kind_of forms k ts env ≡ constant_lowered c ts
    constant_is c h = ap (λ y. kind_of forms y ts env) (h ∙ sym (typed.rolls-Constant c)) ∙ layer_is (TypedKind-F.Constant c) ts env

    pub value_is : (x : ℕ) → k ≡ typed.Value x → kind_of forms k ts env ≡ only (wire_at env x ∷ [])
    value_is x h = ap (λ y. kind_of forms y ts env) (h ∙ sym (typed.rolls-Value x)) ∙ layer_is (TypedKind-F.Value x) ts env

    pub group_is : (es : List TypedExpr) → k ≡ typed.Group es → kind_of forms k ts env ≡ alls forms es env
    group_is es h = ap (λ y. kind_of forms y ts env) (h ∙ sym (typed.rolls-Group es)) ∙ layer_is (TypedKind-F.Group es) ts env

    pub call_is : (f : ℕ) (es : List TypedExpr) → k ≡ typed.Call f es → kind_of forms k ts env ≡ call_of forms f es ts env
    call_is f es h = ap (λ y. kind_of forms y ts env) (h ∙ sym (typed.rolls-Call f es)) ∙ layer_is (TypedKind-F.Call f es) ts env

    pub apply_is : (op : Operation) (es : List TypedExpr) → k ≡ typed.Apply op es → kind_of forms k ts env ≡ apply_of forms op es ts env
    apply_is op es h = ap (λ y. kind_of forms y ts env) (h ∙ sym (typed.rolls-Apply op es)) ∙ layer_is (TypedKind-F.Apply op es) ts env

    pub let_is : (ds : List (List TypedExpr)) (es : List TypedExpr) → k ≡ typed.Let ds es → kind_of forms k ts env ≡ body_lowered (lists forms ds) (each (phrases forms es)) env
    let_is ds es h = ap (λ y. kind_of forms y ts env) (h ∙ sym (typed.rolls-Let ds es)) ∙ layer_is (TypedKind-F.Let ds es) ts env

    pub if_is : (test arm other : List TypedExpr) → k ≡ typed.If test arm other
        → kind_of forms k ts env ≡ if_lowered (each (phrases forms test)) (each (phrases forms arm)) (each (phrases forms other)) ts env
    if_is test arm other h = ap (λ y. kind_of forms y ts env) (h ∙ sym (typed.rolls-If test arm other)) ∙ layer_is (TypedKind-F.If test arm other) ts env

    pub case_is : (c : Case) (us : List TypedExpr) (arms : List (List TypedExpr)) → k ≡ typed.Case c us arms
        → kind_of forms k ts env ≡ andthen (alls forms us env) (λ ws. case_lowered forms c (lists forms arms) ts ws env)
    case_is c us arms h = ap (λ y. kind_of forms y ts env) (h ∙ sym (typed.rolls-Case c us arms)) ∙ layer_is (TypedKind-F.Case c us arms) ts env

    pub product_is : (p : Product) (bs : List TypedExpr) (ds : List (List TypedExpr)) (es : List TypedExpr) → k ≡ typed.Product p bs ds es
        → kind_of forms k ts env ≡ andthen (alls forms bs env) (λ ws. product_lowered forms p (lists forms ds) (each (phrases forms es)) ts ws env)
    product_is p bs ds es h = ap (λ y. kind_of forms y ts env) (h ∙ sym (typed.rolls-Product p bs ds es)) ∙ layer_is (TypedKind-F.Product p bs ds es) ts env

    pub initial_is : (t : Turns) (fs : List (List TypedExpr)) (test : List TypedExpr) (ds : List (List TypedExpr)) (es : List TypedExpr) → k ≡ typed.Initial t fs test ds es
        → kind_of forms k ts env ≡ initial_lowered t (lists forms fs) (each (phrases forms test)) (lists forms ds) (phrases forms es) ts env
    initial_is t fs test ds es h = ap (λ y. kind_of forms y ts env) (h ∙ sym (typed.rolls-Initial t fs test ds es)) ∙ layer_is (TypedKind-F.Initial t fs test ds es) ts env
