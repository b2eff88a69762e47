-- The graphs of a unit in the order of their numbers.
use Rattle.std.specs.Prelude.{◌≡◌, length, map}
use Rattle.if1_graph.specs.declared.graph.Unit1.{Unit1}
use Rattle.if1_graph.specs.Formed.{IsFormed}
use Rattle.if1_graph.specs.Normal.{IsNormal}
use Rattle.if1_graph.specs.Ports.{count_from}
use Rattle.if1_graph.specs.Units.{number_of, places}

-- they bear the numbers from 1 on
abbrev pub AreGraphsNumbered : Type 0
AreGraphsNumbered = (u : Unit1) → IsFormed u → IsNormal u → map number_of (places u) ≡ count_from 1 (length (places u))
