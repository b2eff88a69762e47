-- What the laws on the types of lines say.
use Rattle.std.specs.Prelude.{◌≡◌, Contains, All}
use Rattle.typed_tree.specs.declared.program.Program.{Program}
use Rattle.lowering.specs.Graphs.{graph_lines}
use Rattle.lowering.specs.Programs.{functions_lowered}
use Rattle.lowering.specs.Types.{basics, needs, with_needs, table}
use Rattle.lowering.specs.TooMany.{types_over}
use Rattle.line_types.specs.Traces.{traced_needs, lines_of}

-- the table of a program is that of its types in the order of the walk
abbrev pub IsTraced : Type 0
IsTraced = (p : Program) → table p ≡ with_needs (traced_needs p) basics

-- and it is too large in the same function
abbrev pub AreFaultsTraced : Type 0
AreFaultsTraced = (p : Program) → types_over (needs p) basics ≡ types_over (traced_needs p) basics

-- the walk meets whatever a line carries
abbrev pub AreLinesTraced : Type 0
AreLinesTraced = (p : Program) → All (Contains (lines_of p.types p.functions)) (graph_lines (functions_lowered p))
