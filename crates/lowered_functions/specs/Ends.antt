-- What a graph under way becomes at its end.
use Rattle.std.specs.Prelude.{List}
use Rattle.lowering.specs.declared.feed.Wire.{Wire}
use Rattle.lowering.specs.declared.graph.Lowered.{Lowered}
use Rattle.lowered_data.specs.declared.made.Made.{Made}

abbrev pub lowered_of : Made → List Wire → Lowered
lowered_of s values = record { nodes = s.nodes; graphs = s.graphs; lines = s.lines; values = values }
