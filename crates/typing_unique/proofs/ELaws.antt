-- The laws on expressions, as they are stated.
use Rattle.std.proofs.Common.{ℕ, List}
use Rattle.flow_value.specs.declared.ty.Ty.{Ty}
use Rattle.type_table.specs.declared.form.Form.{Form}
use Rattle.sisal_tree.specs.declared.unit.Written.{Written}
use Rattle.sisal_tree.specs.declared.expr.Expr.{Expr}
use Rattle.typed_tree.specs.declared.expr.TypedExpr.{TypedExpr}
use Rattle.typed_tree.specs.Scopes.{Scope}
use Rattle.typed_tree.specs.Typing.{Known, AreTyped}
use Rattle.typed_tree.specs.Breaks.{BreaksIn}
use Rattle.typed_tree.specs.Units.{denotes}
use Rattle.typed_tree.specs.Faults.{misnames}
use Rattle.typing_unique.specs.Fair.{IsFair}
use Rattle.typing_unique.specs.Inverted.{at_table, IsProperScope}
use Rattle.typing_unique.specs.ExprLaws.{ProperLaw, OneTypeLaw, OneListLaw, OneScopeLaw, NoTypeLaw, NoOneLaw, NoListLaw, NoScopeLaw}
use Rattle.typing_unique.proofs.EProper.{all_proper}
use Rattle.typing_unique.proofs.EOne.{one_type, all_one, definitions_one}
use Rattle.typing_unique.proofs.ENone as none
use Rattle.typing_unique.proofs.ENone.{no_type, no_one, none_defined}

pub none_in : (k : Known) (forms : List Form) (denotes : Written → Ty → Type 0) (misnames : Written → ℕ → ℕ → Type 0) → IsFair k denotes misnames
    → (s : Scope) (es : List Expr) (rule line : ℕ) (ts : List TypedExpr) (tys : List Ty) → IsProperScope s → BreaksIn k denotes misnames s es rule line → AreTyped (at_table k forms) denotes s es ts tys → ⊥
none_in k forms denotes misnames fair s es rule line ts tys sc p q = none.none_in k forms denotes misnames fair s es rule line p sc ts tys q

pub proper_law : ProperLaw
proper_law u types k s f es ts tys p = all_proper k k.forms (denotes u types) (misnames u types) f.fair s es ts tys p f.scope

pub one_type_law : OneTypeLaw
one_type_law u types k s f forms e t v tys others p q = one_type k k.forms forms (denotes u types) (misnames u types) f.fair s e t tys p f.scope v others q

pub one_list_law : OneListLaw
one_list_law u types k s f forms es ts vs tys others p q = all_one k k.forms forms (denotes u types) (misnames u types) f.fair s es ts tys p f.scope vs others q

pub one_scope_law : OneScopeLaw
one_scope_law u types k s f forms ds ts vs tys others after later p q = definitions_one k k.forms forms (denotes u types) (misnames u types) f.fair s ds ts tys after p f.scope vs others later q

pub no_type_law : NoTypeLaw
no_type_law u types k s f forms e rule line t tys p q = no_type k forms (denotes u types) (misnames u types) f.fair s e rule line p f.scope t tys q

pub no_one_law : NoOneLaw
no_one_law u types k s f forms e rule line t a p q = no_one k forms (denotes u types) (misnames u types) f.fair s e rule line p f.scope t a q

pub no_list_law : NoListLaw
no_list_law u types k s f forms es rule line ts tys p q = none_in k forms (denotes u types) (misnames u types) f.fair s es rule line ts tys f.scope p q

pub no_scope_law : NoScopeLaw
no_scope_law u types k s f forms ds rule line ts tys after p q d = none_defined k forms (denotes u types) (misnames u types) f.fair s ds rule line p f.scope ts tys after q d
