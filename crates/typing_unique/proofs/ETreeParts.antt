-- What the parts of a typed tree are, where each type has one number.
use Rattle.std.proofs.Common.{◌≡◌, ℕ, List, [], ◌∷◌, None, refl, sym, ap, subst, ◌∙◌}
use Rattle.flow_value.specs.declared.ty.Ty.{Ty}
use Rattle.sisal_tree.specs.declared.unit.Written.{Written}
use Rattle.sisal_tree.specs.declared.expr.Clause.{Clause, out-Clause, roll-Clause}
use Rattle.typed_tree.specs.declared.expr.TypedExpr.{TypedExpr}
use Rattle.typed_tree.specs.declared.expr.TypedKind.{TypedKind}
use Rattle.typed_tree.specs.declared.expr.Choice.{Choice}
use Rattle.typed_tree.specs.declared.expr.ClauseForm.{ClauseForm}
use Rattle.typed_tree.specs.Types.{Member, AreNumbers}
use Rattle.typed_tree.specs.Operations.{clause_form}
use Rattle.typed_tree.specs.Typing as rule
use Rattle.typed_tree.specs.Typing.{Known, Number, AreChoices, with, Folds}
use Rattle.typing_unique.specs.Fair.{AreOnce}
use Rattle.typing_unique.specs.InvertedTree.{AreNumbered, HasTree}
use Rattle.text_trees.proofs.Views.{out_clause}
use Rattle.typing_unique.proofs.ETypes.{one_place}

-- ---- numbers

pub numbers_one : (k : Known) → AreNumbered k → (ns ms : List ℕ) (tys : List Ty) → AreNumbers k.forms k.spellings ns tys → AreNumbers k.forms k.spellings ms tys → ns ≡ ms
numbers_one k one [] [] [] p q = refl
numbers_one k one [] (m ∷ ms) [] p q = absurd q
numbers_one k one (n ∷ ns) ms [] p q = absurd p
numbers_one k one [] ms (a ∷ tys) p q = absurd p
numbers_one k one (n ∷ ns) [] (a ∷ tys) p q = absurd q
numbers_one k one (n ∷ ns) (m ∷ ms) (a ∷ tys) p q =
    ap (λ i. i ∷ ns) (one.types n m a p.0 q.0) ∙ ap (λ l. m ∷ l) (numbers_one k one ns ms tys p.1 q.1)

pub one_numbers : (k : Known) → AreNumbered k → (ns ms : List ℕ) (tys : List Ty) → Number k ns tys → Number k ms tys → ns ≡ ms
one_numbers k one ns ms tys p q = numbers_one k one ns ms tys p.each q.each

-- trees of one kind on one line, of expressions of the same types
pub same_tree : (k : Known) (denotes : Written → Ty → Type 0) → AreNumbered k → (l : ℕ) (ns : List ℕ) (c d : TypedKind) (u : TypedExpr) (tys others : List Ty)
    → Number k ns tys → tys ≡ others → HasTree k denotes l d u others → c ≡ d → with l ns c ≡ u
same_tree k denotes one l ns c d u tys others n e q f =
    let same : ns ≡ q.numbers = one_numbers k one ns q.numbers tys n (subst (λ x. Number k q.numbers x) (sym e) q.number) in
    ap (λ x. with l x c) same ∙ ap (λ x. with l q.numbers x) f ∙ sym q.is

-- ---- clauses of a loop around another

abbrev forms_of : List Clause → List Ty → List ClauseForm
forms_of (c ∷ cs) (a ∷ tys) = clause_form (out-Clause c).kind a None ∷ forms_of cs tys
forms_of _ _ = []

folds_forms : (cs : List Clause) (inner : List Ty) (clauses : List ClauseForm) (tys : List Ty) → Folds cs inner clauses tys → clauses ≡ forms_of cs inner
folds_forms _ _ _ _ rule.no_clause = refl
folds_forms _ _ _ _ (rule.a_clause i {kind = kind} {a = a} {b = b} e m {cs = cs} {tys = tys} {made = made} {forms = clauses} h d q) =
    ap (λ r. clause_form r.kind a None ∷ clauses) (sym (out_clause i kind e m))
    ∙ ap (λ l. clause_form (out-Clause (roll-Clause (record { line = i; kind = kind; value = e; mask = m }))).kind a None ∷ l) (folds_forms cs tys clauses made q)

pub one_forms : (cs : List Clause) (inner outer : List Ty) (clauses others : List ClauseForm) (tys us : List Ty) → inner ≡ outer → Folds cs inner clauses tys → Folds cs outer others us → clauses ≡ others
one_forms cs inner outer clauses others tys us e p q = folds_forms cs inner clauses tys p ∙ ap (λ l. forms_of cs l) e ∙ sym (folds_forms cs outer others us q)

-- ---- arms of tags

-- for each tag that is named there is one place
pub one_choices : (k : Known) (ms : List Member) → AreOnce ms → (xs : List (ℕ × ℕ)) (is js : List Choice) → AreChoices k ms xs is → AreChoices k ms xs js → is ≡ js
one_choices k ms once [] [] [] p q = refl
one_choices k ms once [] [] (j ∷ js) p q = absurd q
one_choices k ms once [] (i ∷ is) js p q = absurd p
one_choices k ms once (x ∷ xs) [] js p q = absurd p
one_choices k ms once (x ∷ xs) (i ∷ is) [] p q = absurd q
one_choices k ms once (x ∷ xs) (i ∷ is) (j ∷ js) p q =
    let place : i.tag ≡ j.tag = (one_place k ms x.0 i.tag j.tag p.0.0.0 q.0.0.0 once p.0.0.1 q.0.0.1).0 in
    ap (λ n. record { tag = n; arm = i.arm } ∷ is) place ∙ ap (λ n. record { tag = j.tag; arm = n } ∷ is) (p.0.1 ∙ sym q.0.1) ∙ ap (λ l. j ∷ l) (one_choices k ms once xs is js p.1 q.1)
