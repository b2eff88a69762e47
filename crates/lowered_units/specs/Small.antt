-- That ports, and the labels of nodes that they are of, fit 32 bits (IF1 manual M-170, text form).
use Rattle.std.specs.Prelude.{suc, ◌<◌, ◌^◌, List, All, length}
use Rattle.typed_tree.specs.declared.program.Program.{Program}
use Rattle.lowering.specs.declared.feed.Feed.{Feed}
use Rattle.lowering.specs.declared.feed.Feed.TheVariants.{Port}
use Rattle.lowering.specs.declared.feed.Wire.{Wire}
use Rattle.lowering.specs.declared.graph.LoweredGraph.{LoweredGraph}
use Rattle.lowering.specs.Programs.{graphs}

abbrev pub IsSmallFeed : Feed → Type 0
IsSmallFeed (Port up n q) = (n < 2 ^ 32) × (q < 2 ^ 32)
IsSmallFeed f = Unit {0}

-- what fills ports, one of which may stand before them
pub record AreSmall (ws : List Wire) : Type 0 where
  pub few : suc (length ws) < 2 ^ 32
  pub feeds : All (λ w. IsSmallFeed w.feed) ws

pub record IsSmallGraph (d : LoweredGraph) : Type 0 where
  pub nodes : All (λ v. AreSmall v.ins) d.nodes
  pub results : AreSmall d.results

abbrev pub HasSmallPorts : Program → Type 0
HasSmallPorts p = All IsSmallGraph (graphs p)
