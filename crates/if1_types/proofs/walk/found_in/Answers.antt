use Rattle.if1_types.specs.Shapes.{trees_in}
use Rattle.if1_types.proofs.Settled.{all_found}
use Rattle.if1_types.proofs.walk.found_in.Goals as goal

pub returns-clause-found : goal.returns-clause-found
returns-clause-found c =
    all_found (trees_in c.settle.new.shapes) c.args.types.now c.settle.new.found c.in_ok-settle.ensures.grows.right c.in_ok-settle.ensures.settled
