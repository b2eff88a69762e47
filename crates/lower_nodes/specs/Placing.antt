-- Parts of loops.
use Rattle.std.specs.Prelude.{◌≡◌, length}
use Rattle.lowering.specs.Graphs.{Lowering, new_graph}
use Rattle.lowering.specs.Loops.{types}
use Rattle.lowered_data.specs.declared.made.Made.{Made}
use Rattle.lowered_data.specs.States.{IsPart, next_graph}
use Rattle.lower_nodes.specs.declared.loops.Placed.{Placed}

-- a part stands at this place, and its values carry these
pub record IsPlaced (f : Lowering) (before after : Made) (p : Placed) : Type 0 where
  pub part : IsPart f before after
  pub place : p.place ≡ length before.graphs
  pub carried : p.carried ≡ types (new_graph f (next_graph before)).values
