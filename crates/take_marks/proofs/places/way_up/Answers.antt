use Rattle.std.proofs.Common.{ap, slice_index}
use Rattle.take_marks.proofs.Placed.{no-way-down}
use Rattle.take_marks.proofs.places.way_up.Goals as goal

pub returns-then-as_slice-to : goal.returns-then-as_slice-to
returns-then-as_slice-to c =
    no-way-down c.args.lists.now c.args.ranks.now c.requires.ranked c.args.from c.args.to (slice_index c.as_slice-2.result.now c.args.to) (slice_index c.as_slice.result.now c.args.from)
    (ap (λ xs. slice_index xs c.args.to) c.as_slice-2.ensures) (ap (λ xs. slice_index xs c.args.from) c.as_slice.ensures) c.if-as_slice-to.true
