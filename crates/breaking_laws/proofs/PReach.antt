-- What follows from a refusal at the table that it reaches.
use Rattle.std.proofs.Common.{◌≡◌, ℕ, List, subst}
use Rattle.type_table.specs.declared.form.Form.{Form}
use Rattle.type_table.specs.Tables.{IsTable}
use Rattle.flow_value.specs.declared.ty.Ty.{Ty}
use Rattle.typed_tree.specs.Types.{IsNumber}
use Rattle.typed_tree.specs.Typing.{Known}
use Rattle.type_rules.specs.Applies.{Grows}
use Rattle.type_rules.specs.Typed.{AreSpelledOnce}
use Rattle.type_rules.proofs.Standing.{one_number}
use Rattle.typing_laws.specs.Given.{Given}
use Rattle.typing_laws.specs.Judged.{IsUsedIn}
use Rattle.typing_laws.proofs.Later.{used_on}
use Rattle.breaking_laws.specs.Broken.{Reaches}

pub reaches_so : (g : Given) (old mid : List Form) (says others : List Form → Type 0) → IsUsedIn g old mid → Reaches g mid says
    → ((table : List Form) → Grows mid table → says table → others table) → Reaches g old others
reaches_so g old mid says others u r so =
    record { table = r.table; used = used_on g old mid r.table u r.used; is_table = r.is_table; holds = so r.table (r.used.grows) r.holds }

-- unequal numbers stand for unequal types
pub types_differ : (k : Known) → IsTable k.forms → AreSpelledOnce k.spellings → (n m : ℕ) (a b : Ty) → IsNumber k.forms k.spellings n a → IsNumber k.forms k.spellings m b → (n ≡ m → ⊥) → a ≡ b → ⊥
types_differ k table once n m a b p q differ e = differ (one_number k.forms k.spellings table.well once n m b (subst (λ t. IsNumber k.forms k.spellings n t) e p) q)
