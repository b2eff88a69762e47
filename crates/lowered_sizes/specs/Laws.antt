-- What the law on sizes says.
use Rattle.std.specs.Prelude.{◌≡◌}
use Rattle.typed_tree.specs.declared.program.Program.{Program}
use Rattle.lowering.specs.TooMany.{program_over}
use Rattle.lowered_units.specs.Fitting.{IsFitting}
use Rattle.lowered_sizes.specs.Programs.{program_sized}

-- sizes tell in which function graphs or ports are too large or too many
abbrev pub AreSizesExact : Type 0
AreSizesExact = (p : Program) → IsFitting p → program_sized p ≡ program_over p
