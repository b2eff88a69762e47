-- The unit when its lines have ended.
use Rattle.std.specs.Prelude.{◌≡◌, ◌<◌, ◌^◌, [], List, Option, Some, None}
use Rattle.std.specs.List.{flat_map}
use Rattle.if1_graph.specs.declared.fault.If1Fault.{If1Fault}
use Rattle.if1_graph.specs.declared.fault.If1Fault.TheVariants.{Unclosed, NoMemory}
use Rattle.if1_graph.specs.declared.graph.Graph.{Graph}
use Rattle.if1_graph.specs.declared.graph.Unit1.{Unit1}
use Rattle.if1_graph.specs.Units.{sizes}
use Rattle.if1_read.specs.declared.fault.Fault.{Fault}
use Rattle.if1_read.specs.declared.judge.Known.{Known}
use Rattle.if1_read.specs.declared.machine.Machine.{Machine}
use Rattle.if1_read.specs.Like.{AreLike}
use Rattle.if1_read.specs.Counted.{AreCounted}
use Rattle.if1_read.specs.Least.{earlier, least, refusal_of}
use Rattle.if1_read.specs.Pages.{sheet_faults}
use Rattle.if1_read.specs.Rulings.{rules_of}
use Rattle.if1_read.specs.Sheets.{sheets_of}
use Rattle.if1_read.specs.Stands.{LevelEnds}

-- the graphs have numbers of 32 bits where no line had a fault and no compound node is open
abbrev pub HasRoom : Known → Machine → Type 0
HasRoom k m = m.first ≡ None → m.outer.items ≡ [] → (read : List Graph) → LevelEnds k m.level.graphs m.level.part read → sizes read < 2 ^ 32

-- no line had a fault, no compound node is open, and the functions have their numbers
pub record IsWhole (k : Known) (m : Machine) (u : Unit1) : Type 0 where
  pub clean : m.first ≡ None
  pub closed : m.outer.items ≡ []
  pub types : u.types ≡ k.table.types
  pub imports : u.imports ≡ m.imports
  pub read : List Graph
  pub ends : LevelEnds k m.level.graphs m.level.part read
  pub like : AreLike read u.graphs
  pub counted : AreCounted 1 u.graphs

-- the fault that is named when the graphs of all levels have ended
abbrev pub named_at_end : Known → Machine → Option Fault
named_at_end k m = earlier m.first (least (flat_map (sheet_faults (rules_of k)) (sheets_of m)))

-- why lines that have ended give no unit: of a fault, of a compound node that is open, or for want of memory
pub data IsRefused (k : Known) (m : Machine) : If1Fault → Type 0 where
  fault : (f : Fault) → named_at_end k m ≡ Some f → IsRefused k m (refusal_of f)
  unclosed : named_at_end k m ≡ None → (m.outer.items ≡ [] → ⊥) → IsRefused k m Unclosed
  no_memory : IsRefused k m NoMemory
