-- Which rules the types and headers of a unit break.
use Rattle.std.specs.Prelude.{◌≡◌, ◌<◌, ◌≤◌, ℕ, ◌++◌, List, length, None, Some}
use Rattle.name_scope.specs.Newest.{newest}
use Rattle.type_rules.specs.declared.fault.TypeFault.{TypeFault}
use Rattle.type_rules.specs.declared.fault.TypeFault.TheVariants as fault
use Rattle.type_rules.specs.Faults.{IsRule}
use Rattle.type_table.specs.declared.form.Form.{Form}
use Rattle.type_table.specs.Forms.{form_depth}
use Rattle.type_table.specs.Tables.{depths, HasMember, IsOver}
use Rattle.sisal_tree.specs.declared.unit.Named.{Named}
use Rattle.typed_tree.specs.Typing.{names_of}
use Rattle.typed_tree.specs.Breaks.{IsTwice}
use Rattle.unit_types.specs.declared.fault.UnitFault.{UnitFault}
use Rattle.unit_types.specs.declared.fault.UnitFault.TheVariants as unit
use Rattle.unit_types.specs.declared.open.Members.{Members}
use Rattle.unit_types.specs.declared.open.First.{First}
use Rattle.unit_types.specs.Rests.{begun}

-- a rule from 1 to 8, or want of memory
abbrev pub IsUnitRule : TypeFault → Type 0
IsUnitRule (fault.Rule rule line) = (1 ≤ rule) × (rule ≤ 8)
IsUnitRule fault.NoMemory = Unit {0}

-- a fault with the number of its rule
abbrev pub fault_of : UnitFault → TypeFault
fault_of (unit.TwoTypes line) = fault.Rule 1 line
fault_of (unit.UnknownType line) = fault.Rule 2 line
fault_of (unit.RealType line) = fault.Rule 3 line
fault_of (unit.DeepType line) = fault.Rule 4 line
fault_of (unit.MemberTwice line) = fault.Rule 5 line
fault_of (unit.OtherFunction line) = fault.Rule 6 line
fault_of (unit.NoFunction line) = fault.Rule 7 line
fault_of (unit.ParameterTwice line) = fault.Rule 8 line
fault_of unit.NoMemory = fault.NoMemory

-- which rule it names, and the line; want of memory says nothing
abbrev pub IsFault : (ℕ → ℕ → Type 0) → UnitFault → Type 0
IsFault says f = IsRule says (fault_of f)

-- ---- parts of a written type

-- rule 3 at a word on a line, which begins no type here
pub record IsReal (f : First) (line rule where_it_is : ℕ) : Type 0 where
  pub rule_is : rule ≡ 3
  pub line_is : where_it_is ≡ line
  pub no_type : begun f line ≡ None

-- rule 2 at a name on a line, which has no number that is in the table
pub record IsUnknown (forms : List Form) (known : List (ℕ × ℕ)) (name line rule where_it_is : ℕ) : Type 0 where
  pub rule_is : rule ≡ 2
  pub line_is : where_it_is ≡ line
  pub no_type : (n : ℕ) → newest name known ≡ Some n → length forms ≤ n

-- a form that has a member, over types of the table, is deeper than 64
abbrev pub IsTooDeep : List Form → Form → Type 0
IsTooDeep forms f = IsOver (length forms) f → HasMember f → 64 < form_depth (depths forms) f

-- rule 4, where the word of a form stands on a line
pub record IsDeep (forms : List Form) (f : Form) (line rule where_it_is : ℕ) : Type 0 where
  pub rule_is : rule ≡ 4
  pub line_is : where_it_is ≡ line
  pub deep : IsTooDeep forms f

-- rule 5 at a name of the group that is one of the members, or stands before it in the group
pub record IsMemberTwice (m : Members) (rule line : ℕ) : Type 0 where
  pub rule_is : rule ≡ 5
  pub twice : (before : List Named) → names_of before ≡ m.names → IsTwice (before ++ m.group) line
