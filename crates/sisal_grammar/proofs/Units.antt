-- Whole units: the table derives what the grammar of the manual spells, and nothing else.
use Rattle.std.proofs.Common.{◌≡◌, List, [], ◌∷◌, Some, true, refl, sym, ◌∙◌, ap, subst}
use Rattle.pushdown.specs.declared.Step.{Step}
use Rattle.pushdown.specs.declared.Step.TheVariants.{Read, Open}
use Rattle.pushdown.specs.declared.Symbol.TheVariants.{Rule}
use Rattle.pushdown.specs.declared.tables.Tables.{Tables}
use Rattle.pushdown.specs.Meaning.{run, bind, perform}
use Rattle.pushdown.specs.Rows.{AreRight, grammar_in, rows_of, start_test, table_in}
use Rattle.pushdown.specs.Spelling.{Built}
use Rattle.pushdown.specs.Table.{Table, IsRight, Proper, IsEnd}
use Rattle.pushdown.proofs.Fits.{Means, whole_said, whole_built}
use Rattle.pushdown.proofs.RowTests.{right, starts_proper}
use Rattle.pushdown.proofs.Spelling.{built_one}
use Rattle.sisal_grammar.specs.declared.value.Outline.{Outline}
use Rattle.sisal_grammar.specs.declared.value.Placed.{Placed}
use Rattle.sisal_grammar.specs.declared.value.Value.TheVariants as value
use Rattle.sisal_grammar.specs.Acts.{sisal}
use Rattle.sisal_grammar.specs.Derived.{IsDerived}
use Rattle.sisal_grammar.specs.Language.{language}
use Rattle.sisal_grammar.specs.Phrases.{unit}
use Rattle.sisal_grammar.specs.Plan.{plan}
use Rattle.sisal_grammar.specs.Spells.{Spells}
use Rattle.sisal_grammar.proofs.Complete.{read}
use Rattle.sisal_grammar.proofs.Keepings.{keeping}
use Rattle.sisal_grammar.proofs.Saying.{roles, says}

-- the kinds of rules play no part in a run
same_run : (es : List Step) (ts : List Placed) → run sisal roles es ts ≡ run sisal plan es ts
same_run [] [] = refl
same_run [] (t ∷ ts) = refl
same_run (Read ∷ es) [] = refl
same_run (Read ∷ es) (t ∷ ts) = ap (λ o. bind o (λ s. Some (value.AToken t ∷ s))) (same_run es ts)
same_run (Open p ∷ es) ts = ap (λ o. bind o (λ s. perform sisal (plan.action p) s)) (same_run es ts)

same_outline : (o p : Outline) → value.AnOutline o ≡ value.AnOutline p → o ≡ p
same_outline o p e = cc

outline_said : (ts : List Placed) (o : Outline) → Means sisal roles says 0 ts (value.AnOutline o) → Spells unit ts o
outline_said ts o m = subst (λ z. Spells unit ts z) (sym (same_outline o m.0 m.1)) m.2

pub spelled : (tokens : List Placed) (o : Outline) (steps : List Step) → IsDerived tokens o steps → Spells unit tokens o
spelled tokens o steps d =
    outline_said tokens o (whole_said language sisal roles says keeping 0 tokens steps (value.AnOutline o) d.derives (same_run steps tokens ∙ d.gives))

built : (tokens : List Placed) (o : Outline) → Spells unit tokens o → Built language sisal roles (Rule 0 ∷ []) tokens (value.AnOutline o ∷ [])
built tokens o d = whole_built language sisal roles 0 tokens o (read d)

pub derived : (tokens : List Placed) (o : Outline) → Spells unit tokens o → (steps : List Step) × IsDerived tokens o steps
derived tokens o d =
    let b : Built language sisal roles (Rule 0 ∷ []) tokens (value.AnOutline o ∷ []) = built tokens o d in
    (b.steps, record { derives = b.derived; gives = sym (same_run b.steps tokens) ∙ b.means })

same_head : (o p : Outline) → value.AnOutline o ∷ [] ≡ value.AnOutline p ∷ [] → o ≡ p
same_head o p e = cc

one_of : (t : Table) → IsRight language t → Proper t IsEnd (Rule 0 ∷ []) → (tokens : List Placed) (o p : Outline) → Spells unit tokens o → Spells unit tokens p → o ≡ p
one_of t r ok tokens o p d e =
    same_head o p (built_one language t r sisal roles (Rule 0 ∷ []) tokens (value.AnOutline o ∷ []) (value.AnOutline p ∷ []) ok (built tokens o d) (built tokens p e))

right_table : (t : Tables) → AreRight t → grammar_in t ≡ language → IsRight language (table_in t)
right_table t r g = subst (λ l. IsRight l (table_in t)) g (right (rows_of t) r)

-- no tokens are two units
pub one_unit : (t : Tables) → AreRight t → grammar_in t ≡ language → start_test (rows_of t) ≡ true
    → (tokens : List Placed) (o p : Outline) → Spells unit tokens o → Spells unit tokens p → o ≡ p
one_unit t r g start = one_of (table_in t) (right_table t r g) (starts_proper (rows_of t) start)
