use Rattle.run_cells.specs.Held.{heap_of}
use Rattle.sequential.specs.Loading.{seen_of}
use Rattle.sequential_loops.proofs.SpreadSteps.{as-long-first}
use Rattle.sequential_loops.proofs.lengths.are_as_long.Goals as goal

pub returns : goal.returns
returns c = as-long-first (seen_of c.args.code.now c.args.base (heap_of c.args.cells.now) c.args.operands.now) c.first_places-places.result c.all_of.result c.first_places-places.ensures.places c.all_of.ensures
