-- The fault of a form that stands on a line.
use Rattle.std.specs.Prelude.{ℕ}
use Rattle.type_rules.specs.declared.fault.TypeFault.{TypeFault}
use Rattle.type_rules.specs.declared.fault.TypeFault.TheVariants as fault
use Rattle.type_rules.specs.declared.fault.Refused.{Refused}
use Rattle.type_rules.specs.declared.fault.Refused.TheVariants as refused

abbrev pub fault_at : ℕ → Refused → TypeFault
fault_at line (refused.Rule rule) = fault.Rule rule line
fault_at line refused.NoMemory = fault.NoMemory

-- which rule a fault names, and the line; want of memory says nothing
abbrev pub IsRule : (ℕ → ℕ → Type 0) → TypeFault → Type 0
IsRule says (fault.Rule rule line) = says rule line
IsRule says fault.NoMemory = Unit {0}
