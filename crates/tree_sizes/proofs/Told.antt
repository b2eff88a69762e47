-- The name and the types of a phrase.
use Rattle.std.proofs.Common.{◌≡◌, ◌∙◌, ℕ, suc, ◌+◌, ◌<◌, Bool, List, [], ◌∷◌, ◌++◌, map, length, drop, get_or, Option, Some, None, sym, ap, refl, arith}
use Rattle.std.specs.Prelude.{slice_get}
use Rattle.std.proofs.Math.Seq.{drop-cons}
use Rattle.type_table.specs.declared.form.Form.{Form}
use Rattle.typed_tree.specs.declared.expr.TypedExpr.{TypedExpr}
use Rattle.typed_tree.specs.declared.expr.TypedKind.{TypedKind}
use Rattle.typed_tree.specs.declared.expr.TypedKind.TheVariants as typed
use Rattle.typed_tree.specs.declared.expr.TypedKind.TheViews.{roll-TypedKind, out-TypedKind, roll-out-TypedKind}
use Rattle.typed_tree.specs.declared.expr.TypedKind.TheOpen.{TypedKind-F}
use Rattle.typed_tree.specs.declared.expr.TypedKind.TheFolds.{map-TypedKind, fold-roll-TypedKind, fold-roll-TypedExpr}
use Rattle.lowering.specs.Choices.{is_array}
use Rattle.lowered_sizes.specs.Forms.{SizedKind, SizedPhrase, expr_sized, kind_sized, phrase_sized, kind_sizes, first_array, types_of}

pub types-are : (forms : List Form) (e : TypedExpr) → (phrase_sized forms e).types ≡ e.types
types-are forms e = ap (λ (p : SizedPhrase). p.types) (fold-roll-TypedExpr SizedKind SizedPhrase (kind_sized forms) expr_sized (record { line = e.line; types = e.types; kind = e.kind }))

pub name-is : (forms : List Form) (e : TypedExpr) → (phrase_sized forms e).name ≡ (kind_sizes forms e.kind).name
name-is forms e = ap (λ (p : SizedPhrase). p.name) (fold-roll-TypedExpr SizedKind SizedPhrase (kind_sized forms) expr_sized (record { line = e.line; types = e.types; kind = e.kind }))

name-at : (forms : List Form) (x : TypedKind-F TypedKind TypedExpr)
    → (kind_sizes forms (roll-TypedKind x)).name ≡ (kind_sized forms (map-TypedKind TypedKind TypedExpr SizedKind SizedPhrase (kind_sizes forms) (phrase_sized forms) x)).name
name-at forms x = ap (λ (z : SizedKind). z.name) (fold-roll-TypedKind SizedKind SizedPhrase (kind_sized forms) expr_sized x)

pub name-of : (forms : List Form) (k : TypedKind) (l : ℕ) → k ≡ typed.Value l → (kind_sizes forms k).name ≡ Some l
name-of forms k l e = ap (λ z. (kind_sizes forms z).name) (e ∙ sym (typed.rolls-Value l)) ∙ name-at forms (TypedKind-F.Value l)

none-at : (forms : List Form) (x : TypedKind-F TypedKind TypedExpr) → ((l : ℕ) → roll-TypedKind x ≡ typed.Value l → ⊥) → (kind_sizes forms (roll-TypedKind x)).name ≡ None
none-at forms (TypedKind-F.Value l) h = absurd (h l (typed.rolls-Value l))
none-at forms (TypedKind-F.Constant c) h = name-at forms (TypedKind-F.Constant c)
none-at forms (TypedKind-F.Group gs) h = name-at forms (TypedKind-F.Group gs)
none-at forms (TypedKind-F.Call f gs) h = name-at forms (TypedKind-F.Call f gs)
none-at forms (TypedKind-F.Apply op gs) h = name-at forms (TypedKind-F.Apply op gs)
none-at forms (TypedKind-F.Let ds gs) h = name-at forms (TypedKind-F.Let ds gs)
none-at forms (TypedKind-F.If test arm other) h = name-at forms (TypedKind-F.If test arm other)
none-at forms (TypedKind-F.Case c us arms) h = name-at forms (TypedKind-F.Case c us arms)
none-at forms (TypedKind-F.Product p bs ds gs) h = name-at forms (TypedKind-F.Product p bs ds gs)
none-at forms (TypedKind-F.Initial t fs test ds ps) h = name-at forms (TypedKind-F.Initial t fs test ds ps)

pub no-name : (forms : List Form) (k : TypedKind) → ((l : ℕ) → k ≡ typed.Value l → ⊥) → (kind_sizes forms k).name ≡ None
no-name forms k h = ap (λ z. (kind_sizes forms z).name) (sym (roll-out-TypedKind k)) ∙ none-at forms (out-TypedKind k) (λ l e. h l (sym (roll-out-TypedKind k) ∙ e))

-- the first type, by that of the first expression
abbrev pub first_or : List Form → List ℕ → Option ℕ → Bool
first_or forms us (Some t) = is_array forms t
first_or forms us None = first_array forms us

first-of : (forms : List Form) (ts us : List ℕ) → first_array forms (ts ++ us) ≡ first_or forms us (slice_get ts 0)
first-of forms [] us = refl
first-of forms (t ∷ ts) us = refl

pub first-step : (forms : List Form) (es : List TypedExpr) (i : ℕ) (e : TypedExpr) → i < length es → e ≡ get_or es i e
    → first_array forms (types_of (map (phrase_sized forms) (drop i es))) ≡ first_or forms (types_of (map (phrase_sized forms) (drop (i + 1) es))) (slice_get e.types 0)
first-step forms es i e lt here =
    let cons : drop i es ≡ e ∷ drop (suc i) es = drop-cons es i e lt ∙ ap (λ x. x ∷ drop (suc i) es) (sym here) in
    let left = types_of (map (phrase_sized forms) (drop (suc i) es)) in
    let further : suc i ≡ i + 1 = omega arith in
    ap (λ l. first_array forms (types_of (map (phrase_sized forms) l))) cons ∙ ap (λ ts. first_array forms (ts ++ left)) (types-are forms e) ∙ first-of forms e.types left
    ∙ ap (λ j. first_or forms (types_of (map (phrase_sized forms) (drop j es))) (slice_get e.types 0)) further
