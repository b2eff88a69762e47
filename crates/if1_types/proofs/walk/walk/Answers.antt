use Rattle.if1_types.proofs.Walked.{grows_same, grows_then}
use Rattle.if1_types.proofs.walk.walk.Goals as goal

pub loop-place-init : goal.loop-place-init
loop-place-init c = grows_same c.args.types.now c.args.shapes.now c.args.found.now c.requires.right

pub loop-place-preserved : goal.loop-place-preserved
loop-place-preserved c =
    grows_then c.args.types.now c.args.shapes.now c.loop-place.shapes c.number_line.new.shapes c.args.found.now c.loop-place.found c.number_line.new.found
    c.loop-place.invariant c.in_ok-number_line.ensures.grows
