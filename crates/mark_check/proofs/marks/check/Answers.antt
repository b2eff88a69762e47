use Rattle.std.proofs.Common.{refl, subst}
use Rattle.mark_check.specs.Graphs.{AreUntaken}
use Rattle.mark_check.proofs.Whole.{right-sound, untaken-places}
use Rattle.mark_check.proofs.marks.check.Goals as goal

pub returns-then-take_nothing-clause-sound : goal.returns-then-take_nothing-clause-sound
returns-then-take_nothing-clause-sound c =
    right-sound c.args.unit.now c.requires.ready c.in_ok-check_lists.ensures.right (untaken-places c.args.unit.now c.in_ok-graphs.graphs.items c.in_ok-graphs.ensures (subst AreUntaken c.as_slice-2.ensures.value (c.if-take_nothing.ensures refl)))

pub returns-clause-sound : goal.returns-clause-sound
returns-clause-sound c = right-sound c.args.unit.now c.requires.ready c.in_ok-check_lists.ensures.right c.in_ok-check_takers.ensures.right
