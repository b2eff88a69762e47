-- What the laws on translated units say.
use Rattle.std.specs.Prelude.{◌≡◌, ℕ, Some, None}
use Rattle.typed_tree.specs.declared.program.Program.{Program}
use Rattle.if1_graph.specs.declared.graph.Unit1.{Unit1}
use Rattle.if1_graph.specs.Formed.{IsTable, IsFormed}
use Rattle.if1_graph.specs.Normal.{IsNormal}
use Rattle.graph_meaning.specs.Networks.{network}
use Rattle.lowering.specs.declared.graph.LoweredGraph.{LoweredGraph}
use Rattle.lowering.specs.Programs.{graph_at, number_of}
use Rattle.lowering.specs.TooMany.{too_many}
use Rattle.lowered_units.specs.Fitting.{IsFitting}
use Rattle.lowered_units.specs.Networks.{net_of, shapes}
use Rattle.lowered_units.specs.Small.{HasSmallPorts}
use Rattle.lowered_units.specs.Units.{IsTranslated}

-- a program has at most one unit
abbrev pub IsOneUnit : Type 0
IsOneUnit = (p : Program) (u v : Unit1) → IsTranslated p u → IsTranslated p v → u ≡ v

-- each graph of the unit runs as the lowered graph of its number
abbrev pub AreLowered : Type 0
AreLowered = (p : Program) (u : Unit1) → IsFitting p → IsTranslated p u
    → (q : ℕ) (d : LoweredGraph) → graph_at p q ≡ Some d → network u q ≡ net_of (shapes u q) (number_of p) d

-- nodes and edges stand in the order of the text, and literals are spelled canonically
abbrev pub AreNormal : Type 0
AreNormal = (p : Program) (u : Unit1) → IsFitting p → IsTranslated p u → IsNormal u

-- each type of the unit is formed, and there are no more than a unit may have
abbrev pub AreTablesFormed : Type 0
AreTablesFormed = (p : Program) (u : Unit1) → IsFitting p → too_many p ≡ None → IsTranslated p u → IsTable u.types

-- the ports of a program within the limits, and the labels of their nodes, fit 32 bits
abbrev pub ArePortsSmall : Type 0
ArePortsSmall = (p : Program) → IsFitting p → too_many p ≡ None → HasSmallPorts p

-- a unit within the limits is formed and normal
abbrev pub AreFormed : Type 0
AreFormed = (p : Program) (u : Unit1) → IsFitting p → too_many p ≡ None → IsTranslated p u → IsFormed u × IsNormal u
