-- Expressions, a case a form.
use Rattle.std.proofs.Common.{◌≡◌, ℕ, List, [], ◌∷◌, map, refl, sym, ap, subst, ◌∙◌}
use Rattle.type_table.specs.declared.form.Form.{Form}
use Rattle.typed_tree.specs.declared.expr.TypedExpr.{TypedExpr, roll-TypedExpr}
use Rattle.typed_tree.specs.declared.expr.TypedKind.{TypedKind}
use Rattle.typed_tree.specs.declared.expr.TypedKind.TheViews.{roll-TypedKind}
use Rattle.typed_tree.specs.declared.expr.TypedKind.TheOpen.{TypedKind-F, TypedExpr-F}
use Rattle.typed_tree.specs.declared.expr.TypedKind.TheFolds.{map-TypedKind, map-TypedExpr, fold-roll-TypedKind, fold-roll-TypedExpr, ind-TypedExpr}
use Rattle.typing_unique.specs.Bare.{renumbered, renumbered_kind, renumbered_expr}
use Rattle.lowering.specs.Operations.{Lowers, all_lowered}
use Rattle.lowering.specs.Choices.{case_lowered, applied}
use Rattle.lowering.specs.Loops.{Phrase, product_lowered}
use Rattle.lowering.specs.Phrases.{Kind, each, expr_lowered, kind_lowered, phrase, phrase_kind, lowers}
use Rattle.one_lowering.specs.Moves.{Moves}
use Rattle.one_lowering.proofs.Moved.{wires, then-moved}
use Rattle.one_lowering.proofs.Forms.{Becomes, AllTo, DefsTo}
use Rattle.one_lowering.proofs.Forms as forms_are
use Rattle.one_lowering.proofs.Loops as loops_are
use Rattle.one_lowering.proofs.Turns.{PhrasesTo}
use Rattle.one_lowering.proofs.Turns as turns_are

module _ (to : ℕ → ℕ) (forms others : List Form) (moves : Moves to forms others) where
  -- two kinds, by the types of their values
  pub record KindsAre (x y : Kind) : Type 0 where
    pub name : x.name ≡ y.name
    pub makes : (ts : List ℕ) → Becomes to forms others moves (x.lowers ts) (y.lowers (map to ts))

  abbrev pub PhrasesAre : Phrase → Phrase → Type 0
  PhrasesAre p t = (p.name ≡ t.name) × Becomes to forms others moves p.lowers t.lowers

  abbrev IsKind : TypedKind → Type 0
  IsKind k = KindsAre (phrase_kind forms k) (phrase_kind others (renumbered_kind to k))

  abbrev pub IsExpr : TypedExpr → Type 0
  IsExpr e = PhrasesAre (phrase forms e) (phrase others (renumbered to e))

  abbrev Proved : Type 0
  Proved = (e : TypedExpr) × IsExpr e

  abbrev KindProved : Type 0
  KindProved = (k : TypedKind) × IsKind k

  abbrev here : List Proved → List Phrase
  here es = map (phrase forms) (map (λ e. e.0) es)

  abbrev there : List Proved → List Phrase
  there es = map (phrase others) (map (renumbered to) (map (λ e. e.0) es))

  abbrev here_lists : List (List Proved) → List (List Lowers)
  here_lists ds = map each (map (map (phrase forms)) (map (map (λ e. e.0)) ds))

  abbrev there_lists : List (List Proved) → List (List Lowers)
  there_lists ds = map each (map (map (phrase others)) (map (map (renumbered to)) (map (map (λ e. e.0)) ds)))

  phrases : (es : List Proved) → PhrasesTo to forms others moves (here es) (there es)
  phrases [] = tt
  phrases (e ∷ es) = (e.1, phrases es)

  parts : (es : List Proved) → AllTo to forms others moves (each (here es)) (each (there es))
  parts [] = tt
  parts (e ∷ es) = (e.1.1, parts es)

  lists : (ds : List (List Proved)) → DefsTo to forms others moves (here_lists ds) (there_lists ds)
  lists [] = tt
  lists (d ∷ ds) = (parts d, lists ds)

  abbrev firsts : TypedKind-F KindProved Proved → TypedKind-F TypedKind TypedExpr
  firsts y = map-TypedKind KindProved Proved TypedKind TypedExpr (λ x. x.0) (λ e. e.0) y

  abbrev moved_kind : TypedKind-F TypedKind TypedExpr → TypedKind-F TypedKind TypedExpr
  moved_kind x = map-TypedKind TypedKind TypedExpr TypedKind TypedExpr (renumbered_kind to) (renumbered to) x

  abbrev kind_of : List Form → TypedKind-F TypedKind TypedExpr → Kind
  kind_of fs x = kind_lowered fs (map-TypedKind TypedKind TypedExpr Kind Phrase (phrase_kind fs) (phrase fs) x)

  kind-is : (y : TypedKind-F KindProved Proved) → KindsAre (kind_of forms (firsts y)) (kind_of others (moved_kind (firsts y)))
  kind-is (TypedKind-F.Constant c) = record { name = refl; makes = λ ts env. forms_are.constant-to to forms others moves c ts }
  kind-is (TypedKind-F.Value x) = record { name = refl; makes = λ ts. forms_are.name-to to forms others moves x }
  kind-is (TypedKind-F.Group es) = record { name = refl; makes = λ ts. forms_are.all-to to forms others moves (each (here es)) (each (there es)) (parts es) }
  kind-is (TypedKind-F.Call f es) = record { name = refl; makes = λ ts. forms_are.call-to to forms others moves f (each (here es)) (each (there es)) ts (parts es) }
  kind-is (TypedKind-F.Apply o es) = record {
    name = refl;
    makes = λ ts env. then-moved to (all_lowered (each (here es)) env) (all_lowered (each (there es)) (wires to env)) (λ ws. applied forms o ws ts) (λ ws. applied others o ws (map to ts))
        (forms_are.all-to to forms others moves (each (here es)) (each (there es)) (parts es) env) (λ ws. forms_are.applied-to to forms others moves o ws ts);
  }
  kind-is (TypedKind-F.Let ds es) = record { name = refl; makes = λ ts. forms_are.body-to to forms others moves (here_lists ds) (there_lists ds) (each (here es)) (each (there es)) (lists ds) (parts es) }
  kind-is (TypedKind-F.If xs ys zs) = record {
    name = refl;
    makes = λ ts. forms_are.if-to to forms others moves (each (here xs)) (each (here ys)) (each (here zs)) (each (there xs)) (each (there ys)) (each (there zs)) ts (parts xs) (parts ys) (parts zs);
  }
  kind-is (TypedKind-F.Case c us arms) = record {
    name = refl;
    makes = λ ts env. then-moved to (all_lowered (each (here us)) env) (all_lowered (each (there us)) (wires to env)) (λ ws. case_lowered forms c (here_lists arms) ts ws env) (λ ws. case_lowered others c (there_lists arms) (map to ts) ws (wires to env))
        (forms_are.all-to to forms others moves (each (here us)) (each (there us)) (parts us) env) (λ ws. forms_are.case-to to forms others moves c (here_lists arms) (there_lists arms) ts ws (lists arms) env);
  }
  kind-is (TypedKind-F.Product p bs ds es) = record {
    name = refl;
    makes = λ ts env. then-moved to (all_lowered (each (here bs)) env) (all_lowered (each (there bs)) (wires to env)) (λ ws. product_lowered forms p (here_lists ds) (each (here es)) ts ws env)
        (λ ws. product_lowered others p (there_lists ds) (each (there es)) (map to ts) ws (wires to env)) (forms_are.all-to to forms others moves (each (here bs)) (each (there bs)) (parts bs) env)
        (λ ws. loops_are.product-to to forms others moves p (here_lists ds) (there_lists ds) (each (here es)) (each (there es)) ts ws (lists ds) (parts es) env);
  }
  kind-is (TypedKind-F.Initial t us xs vs es) = record {
    name = refl;
    makes = λ ts. turns_are.initial-to to forms others moves t (here_lists us) (there_lists us) (each (here xs)) (each (there xs)) (here_lists vs) (there_lists vs) (here es) (there es) ts (lists us) (parts xs) (lists vs) (phrases es);
  }

  -- ---- the whole tree

  kind-layer : (fs : List Form) (x : TypedKind-F TypedKind TypedExpr) → phrase_kind fs (roll-TypedKind x) ≡ kind_of fs x
  kind-layer fs x = fold-roll-TypedKind Kind Phrase (kind_lowered fs) expr_lowered x

  kind-step : (y : TypedKind-F KindProved Proved) → IsKind (roll-TypedKind (firsts y))
  kind-step y =
      let x = firsts y in
      let a : phrase_kind forms (roll-TypedKind x) ≡ kind_of forms x = kind-layer forms x in
      let b : phrase_kind others (renumbered_kind to (roll-TypedKind x)) ≡ kind_of others (moved_kind x) =
      ap (phrase_kind others) (fold-roll-TypedKind TypedKind TypedExpr roll-TypedKind (renumbered_expr to) x) ∙ kind-layer others (moved_kind x) in
      subst (λ k. KindsAre k (phrase_kind others (renumbered_kind to (roll-TypedKind x)))) (sym a) (subst (KindsAre (kind_of forms x)) (sym b) (kind-is y))

  abbrev phrase_of : Kind → List ℕ → Phrase
  phrase_of k ts = record { name = k.name; lowers = k.lowers ts }

  phrase-is : (fs : List Form) (e : TypedExpr) → phrase fs e ≡ phrase_of (phrase_kind fs e.kind) e.types
  phrase-is fs e = fold-roll-TypedExpr Kind Phrase (kind_lowered fs) expr_lowered (record { line = e.line; types = e.types; kind = e.kind })

  renumbered-is : (e : TypedExpr) → renumbered to e ≡ record { line = e.line; types = map to e.types; kind = renumbered_kind to e.kind }
  renumbered-is e = fold-roll-TypedExpr TypedKind TypedExpr roll-TypedKind (renumbered_expr to) (record { line = e.line; types = e.types; kind = e.kind })

  expr-step : (e : TypedExpr) → IsKind e.kind → IsExpr e
  expr-step e k =
      let a : phrase forms e ≡ phrase_of (phrase_kind forms e.kind) e.types = phrase-is forms e in
      let b : phrase others (renumbered to e) ≡ phrase_of (phrase_kind others (renumbered_kind to e.kind)) (map to e.types) =
      ap (phrase others) (renumbered-is e) ∙ phrase-is others (record { line = e.line; types = map to e.types; kind = renumbered_kind to e.kind }) in
      subst (λ p. PhrasesAre p (phrase others (renumbered to e))) (sym a)
      (subst (PhrasesAre (phrase_of (phrase_kind forms e.kind) e.types)) (sym b) (k.name, k.makes e.types))

  whole-step : (y : TypedExpr-F KindProved Proved) → IsExpr (roll-TypedExpr (map-TypedExpr KindProved Proved TypedKind TypedExpr (λ x. x.0) (λ e. e.0) y))
  whole-step y = expr-step (roll-TypedExpr (map-TypedExpr KindProved Proved TypedKind TypedExpr (λ x. x.0) (λ e. e.0) y)) y.kind.1

  pub expr-is : (e : TypedExpr) → IsExpr e
  expr-is = ind-TypedExpr IsKind IsExpr (λ x y is. subst (λ z. IsKind (roll-TypedKind z)) is (kind-step y)) (λ x y is. subst (λ z. IsExpr (roll-TypedExpr z)) is (whole-step y))

  pub exprs-to : (es : List TypedExpr) → AllTo to forms others moves (map (lowers forms) es) (map (lowers others) (map (renumbered to) es))
  exprs-to [] = tt
  exprs-to (e ∷ es) = ((expr-is e).1, exprs-to es)
