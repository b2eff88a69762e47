-- What an expression means, what it becomes, and whether it is covered, by its parts.
use Rattle.std.proofs.Common.{◌≡◌, ℕ, Bool, true, false, ◌&&◌, List, length, refl, ap, ◌∙◌}
use Rattle.flow_value.specs.declared.value.Val.{Val}
use Rattle.type_table.specs.declared.form.Form.{Form}
use Rattle.typed_tree.specs.declared.expr.TypedExpr.{TypedExpr}
use Rattle.typed_tree.specs.declared.expr.TypedKind.{TypedKind}
use Rattle.typed_tree.specs.declared.expr.TypedKind.TheViews.{roll-TypedKind}
use Rattle.typed_tree.specs.declared.expr.TypedKind.TheOpen.{TypedKind-F}
use Rattle.typed_tree.specs.declared.expr.TypedKind.TheFolds.{map-TypedKind, fold-roll-TypedKind, fold-roll-TypedExpr}
use Rattle.typed_tree.specs.declared.program.Function.{Function}
use Rattle.typed_tree.specs.Typing.{with}
use Rattle.meaning.specs.Timed.{plus}
use Rattle.meaning.specs.Meaning.{Gives as Means, kind_gives, expr_gives, calls, meaning, kind_meaning}
use Rattle.lowering.specs.declared.feed.Wire.{Wire}
use Rattle.lowering.specs.Loops.{Phrase}
use Rattle.lowering.specs.Phrases.{Kind, expr_lowered, kind_lowered, phrase, phrase_kind, lowers}
use Rattle.lowering_meaning.specs.Coverage.{Coverage, Verdict, kind_covered, expr_covered, verdict, is_covered_kind}

abbrev pub parts_meant : ℕ → List Function → TypedKind-F TypedKind TypedExpr → TypedKind-F (ℕ → Means) Means
parts_meant n p x = map-TypedKind TypedKind TypedExpr (ℕ → Means) Means (kind_meaning n p) (meaning n p) x

pub meaning-is : (n : ℕ) (p : List Function) (l : ℕ) (ns : List ℕ) (y : TypedKind) (x : TypedKind-F TypedKind TypedExpr) → y ≡ roll-TypedKind x → (env : List Val)
    → meaning n p (with l ns y) env ≡ plus 1 (kind_gives n (calls n p) (parts_meant n p x) (length ns) env)
meaning-is n p l ns y x is env =
    ap (λ g. g env) (fold-roll-TypedExpr (ℕ → Means) Means (kind_gives n (calls n p)) expr_gives (record { line = l; types = ns; kind = y }))
    ∙ ap (λ k. plus 1 (kind_meaning n p k (length ns) env)) is
    ∙ ap (λ g. plus 1 (g (length ns) env)) (fold-roll-TypedKind (ℕ → Means) Means (kind_gives n (calls n p)) expr_gives x)

abbrev pub parts_lowered : List Form → TypedKind-F TypedKind TypedExpr → TypedKind-F Kind Phrase
parts_lowered forms x = map-TypedKind TypedKind TypedExpr Kind Phrase (phrase_kind forms) (phrase forms) x

pub lowers-is : (forms : List Form) (l : ℕ) (ns : List ℕ) (y : TypedKind) (x : TypedKind-F TypedKind TypedExpr) → y ≡ roll-TypedKind x → (env : List Wire)
    → lowers forms (with l ns y) env ≡ (kind_lowered forms (parts_lowered forms x)).lowers ns env
lowers-is forms l ns y x is env =
    ap (λ (p : Phrase). p.lowers env) (fold-roll-TypedExpr Kind Phrase (kind_lowered forms) expr_lowered (record { line = l; types = ns; kind = y }))
    ∙ (ap (λ z. (phrase_kind forms z).lowers ns env) is ∙ ap (λ (z : Kind). z.lowers ns env) (fold-roll-TypedKind Kind Phrase (kind_lowered forms) expr_lowered x))

pub name-is : (forms : List Form) (l : ℕ) (ns : List ℕ) (y : TypedKind) (x : TypedKind-F TypedKind TypedExpr) → y ≡ roll-TypedKind x → (phrase forms (with l ns y)).name ≡ (kind_lowered forms (parts_lowered forms x)).name
name-is forms l ns y x is =
    ap (λ (p : Phrase). p.name) (fold-roll-TypedExpr Kind Phrase (kind_lowered forms) expr_lowered (record { line = l; types = ns; kind = y }))
    ∙ (ap (λ z. (phrase_kind forms z).name) is ∙ ap (λ (z : Kind). z.name) (fold-roll-TypedKind Kind Phrase (kind_lowered forms) expr_lowered x))

abbrev pub parts_covered : Coverage → TypedKind-F TypedKind TypedExpr → TypedKind-F Bool Verdict
parts_covered c x = map-TypedKind TypedKind TypedExpr Bool Verdict (is_covered_kind c) (verdict c) x

pub covered-is : (c : Coverage) (l : ℕ) (ns : List ℕ) (y : TypedKind) (x : TypedKind-F TypedKind TypedExpr) → y ≡ roll-TypedKind x → (verdict c (with l ns y)).ok ≡ kind_covered c (parts_covered c x)
covered-is c l ns y x is =
    ap (λ (v : Verdict). v.ok) (fold-roll-TypedExpr Bool Verdict (kind_covered c) (expr_covered c) (record { line = l; types = ns; kind = y }))
    ∙ (ap (is_covered_kind c) is ∙ fold-roll-TypedKind Bool Verdict (kind_covered c) (expr_covered c) x)

pub count-is : (c : Coverage) (e : TypedExpr) → (verdict c e).count ≡ length e.types
count-is c e = ap (λ (v : Verdict). v.count) (fold-roll-TypedExpr Bool Verdict (kind_covered c) (expr_covered c) (record { line = e.line; types = e.types; kind = e.kind }))

pub and-true : (a b : Bool) → (a && b) ≡ true → (a ≡ true) × (b ≡ true)
and-true true b e = (refl, e)
and-true false b e = absurd cc
