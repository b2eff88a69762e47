-- Two names that are spelled alike.
use Rattle.std.proofs.Common.{◌≡◌, ℕ, pos, true, List, [], ◌∷◌, length, Contains, Some, refl, sym, ap, ◌∙◌, arith}
use Rattle.std.specs.Prelude.{codes}
use Rattle.std.proofs.lemmas.List.Elements.{All-nil, All-cons}
use Rattle.flow_value.specs.declared.value.Val.{Val}
use Rattle.flow_value.specs.declared.value.Val.TheVariants as val
use Rattle.flow_value.specs.declared.ty.Ty.TheVariants as ty
use Rattle.sisal_tree.specs.declared.expr.Constant.TheVariants as constant
use Rattle.typed_tree.specs.declared.expr.TypedExpr.{TypedExpr}
use Rattle.typed_tree.specs.declared.expr.Case.{Case}
use Rattle.typed_tree.specs.declared.expr.TypedKind.{TypedKind}
use Rattle.typed_tree.specs.declared.expr.TypedKind.TheVariants as typed
use Rattle.typed_tree.specs.declared.expr.TypedKind.TheViews.{roll-TypedKind}
use Rattle.typed_tree.specs.declared.expr.TypedKind.TheOpen.{TypedKind-F}
use Rattle.typed_tree.specs.declared.expr.TypedKind.TheFolds.{map-TypedKind, fold-roll-TypedKind, fold-roll-TypedExpr}
use Rattle.typed_tree.specs.Typing.{with, Types, tag_case, name, constant as a_constant, no_more, more, no_arm, an_arm, otherwise, IsTag}
use Rattle.typed_tree.specs.Types.{IsNumber, integer, boolean, a_union, no_member, a_member}
use Rattle.meaning.specs.Timed.{plus}
use Rattle.meaning.specs.Meaning.{Gives}
use Rattle.meaning.specs.Plain.{Depth, Deep, kind_at, expr_at, plain, plain_kind, plain_meaning}
use Rattle.typed_rows.proofs.ValueKinds.{out_uni, of_uni, of_bool}
use Rattle.typed_values.specs.Alike.{tags, forms, spellings, known, scope, none_written, named, expression, typed_expression, truth, DoNamesAlikeBreak}
use Rattle.typed_values.proofs.NoTree.{no_integer}

int_number : IsNumber forms spellings 2 ty.Int
int_number = integer refl

union_number : IsNumber forms spellings 5 (ty.Uni tags)
union_number = a_union refl (a_member refl (integer refl) (a_member refl (boolean refl) no_member))

absent : (x : ℕ) → Contains [] x → ⊥
absent x c = absurd (omega (arith, c.1))

is_typed : Types known none_written scope expression typed_expression (ty.Int ∷ [])
is_typed =
    tag_case (name refl (record { each = (union_number, tt) }))
    (an_arm 1 ty.Int (named 0 ∷ []) (λ e. cc)
    (All-cons (λ tag. IsTag known tags tag ty.Int) 0 [] (0, record { spelling = codes "a"; spelled = refl; member = refl }) (All-nil (λ tag. IsTag known tags tag ty.Int)))
    (more (name refl (record { each = (int_number, tt) })) no_more) no_arm)
    (absent 0, tt) tt (otherwise (more (a_constant (record { each = (int_number, tt) })) no_more))
    (record { each = ((((ty.Bool, record { spelling = codes "a"; spelled = refl; member = refl })), refl), tt) })
    (record { each = (int_number, tt) })

kind_is : (x : TypedKind-F TypedKind TypedExpr) (y : TypedKind) (l : ℕ) (ns : List ℕ) (env : List Val) → y ≡ roll-TypedKind x
    → plain_meaning 0 [] (with l ns y) env ≡ plus 1 (kind_at (map-TypedKind TypedKind TypedExpr (Depth → ℕ → Gives) Deep plain_kind plain x) [] (length ns) env)
kind_is x y l ns env e =
    ap (λ g. g [] env) (fold-roll-TypedExpr (Depth → ℕ → Gives) Deep kind_at expr_at (record { line = l; types = ns; kind = y }))
    ∙ ap (plus 1) (ap (λ z. plain_kind z [] (length ns) env) e ∙ ap (λ g. g [] (length ns) env) (fold-roll-TypedKind (Depth → ℕ → Gives) Deep kind_at expr_at x))

value_is : (level l : ℕ) (ns : List ℕ) (env : List Val) → plain_meaning 0 [] (with l ns (typed.Value level)) env ≡ plus 1 (kind_at (TypedKind-F.Value level) [] (length ns) env)
value_is level l ns env = kind_is (TypedKind-F.Value level) (typed.Value level) l ns env (sym (typed.rolls-Value level))

abbrev union : Val
union = val.Uni 1 truth

is_value : plain_meaning 0 [] typed_expression (union ∷ []) ≡ Some (truth ∷ [], 3)
is_value =
    let c : Case = record { named = 1; choices = record { tag = 1; arm = 0 } ∷ []; others = 1 } in
    let subject : List TypedExpr = with 1 (5 ∷ []) (typed.Value 0) ∷ [] in
    let arms : List (List TypedExpr) = (with 1 (2 ∷ []) (typed.Value 1) ∷ []) ∷ (with 1 (2 ∷ []) (typed.Constant (constant.Integer (pos 0))) ∷ []) ∷ [] in
    kind_is (TypedKind-F.Case c subject arms) (typed.Case c subject arms) 1 (2 ∷ []) (union ∷ []) (sym (typed.rolls-Case c subject arms))
    ∙ rw (value_is 0 1 (5 ∷ []) (union ∷ [])) (rw (out_uni 1 truth) (rw (value_is 1 1 (2 ∷ []) (union ∷ truth ∷ [])) refl))

pub names_alike_break : DoNamesAlikeBreak
names_alike_break =
    record { typed = is_typed; argument = of_uni tags 1 truth (of_bool true); steps = 3; value = is_value; wrong = no_integer true }
