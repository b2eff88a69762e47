-- What is said of a fault.
use Rattle.std.specs.Prelude.{ℕ}
use Rattle.unit_labels.specs.declared.faults.TypesFault.{TypesFault}
use Rattle.unit_labels.specs.declared.faults.TypesFault.TheVariants as fault

-- what is said of the line at which there are too many types; nothing is said of want of memory
abbrev pub AtLine : (ℕ → Type 0) → TypesFault → Type 0
AtLine says (fault.TooMany line) = says line
AtLine says fault.NoMemory = Unit {0}
