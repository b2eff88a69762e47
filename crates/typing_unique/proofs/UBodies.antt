-- The results of the functions of a unit have one list of types, and none where they break a rule.
use Rattle.std.proofs.Common.{◌≡◌, ℕ, List, Contains}
use Rattle.flow_value.specs.declared.ty.Ty.{Ty}
use Rattle.type_table.specs.declared.form.Form.{Form}
use Rattle.sisal_tree.specs.declared.unit.Unit as tree
use Rattle.sisal_tree.specs.declared.unit.Written.{Written}
use Rattle.sisal_tree.specs.declared.expr.Expr.{Expr}
use Rattle.typed_tree.specs.declared.expr.TypedExpr.{TypedExpr}
use Rattle.typed_tree.specs.Scopes.{Scope, no_names}
use Rattle.typed_tree.specs.Typing.{Known, AreTyped}
use Rattle.typed_tree.specs.Breaks.{BreaksIn}
use Rattle.typed_tree.specs.Units.{Declared, parameters, denotes, known, AreDeclared}
use Rattle.typed_tree.specs.Faults.{misnames}
use Rattle.typing_unique.specs.Inverted.{at_table, IsProperScope}
use Rattle.typing_unique.specs.Fair.{IsFair}
use Rattle.typing_unique.specs.UnitLaws.{AreSpelledOnce, NoProgramLaw}
use Rattle.typing_unique.proofs.EOne.{all_one}
use Rattle.typing_unique.proofs.EScopes.{no_names_proper, defined_proper}
use Rattle.typing_unique.proofs.UFair.{declared_proper, fair}
use Rattle.typing_unique.proofs.UPrograms.{no_program}

module _ (u : tree.Unit) (once : AreSpelledOnce u.tokens.names) (ds : List Declared) (are : AreDeclared u ds) where
  pub parameters_proper : (d : Declared) → Contains ds d → IsProperScope (parameters d.signature)
  parameters_proper d c = defined_proper d.signature.parameters d.signature.params no_names (declared_proper u once ds are d c).params no_names_proper

  pub one_body : (forms others : List Form) (d : Declared) → Contains ds d → (es : List Expr) (ts us : List TypedExpr) (tys more : List Ty)
      → AreTyped (known u forms ds d.types) (denotes u d.types) (parameters d.signature) es ts tys
      → AreTyped (known u others ds d.types) (denotes u d.types) (parameters d.signature) es us more → tys ≡ more
  one_body forms others d c es ts us tys more p q =
      all_one (known u forms ds d.types) forms others (denotes u d.types) (misnames u d.types) (fair u once ds are forms d c)
      (parameters d.signature) es ts tys p (parameters_proper d c) us more q

-- where what breaks a rule has no types, a unit that breaks a rule is no program
pub no_program_if : ((k : Known) (forms : List Form) (denotes : Written → Ty → Type 0) (misnames : Written → ℕ → ℕ → Type 0) → IsFair k denotes misnames
    → (s : Scope) (es : List Expr) (rule line : ℕ) (ts : List TypedExpr) (tys : List Ty) → IsProperScope s → BreaksIn k denotes misnames s es rule line → AreTyped (at_table k forms) denotes s es ts tys → ⊥)
    → NoProgramLaw
no_program_if none u rule line p once b t =
    no_program u rule line p
    (λ ds are. record {
      one = one_body u once ds are;
      none = λ forms others d c es rule line us more q r.
          none (known u forms ds d.types) others (denotes u d.types) (misnames u d.types) (fair u once ds are forms d c)
          (parameters d.signature) es rule line us more (parameters_proper u once ds are d c) q r;
    })
    b t
