use Rattle.std.proofs.Common.{arith}
use Rattle.if1_types.specs.Shapes.{trees_in}
use Rattle.if1_types.proofs.Walked.{place_in, unknown_some, unknown_less, grows_set}
use Rattle.if1_types.proofs.walk.number_line.Goals as goal

pub part_by-requires-clause-room : goal.part_by-requires-clause-room
part_by-requires-clause-room c =
    let there = place_in (trees_in c.args.shapes.now) c.args.types.now c.args.found.now c.args.place c.in-Some.entry.now c.requires.right c.in-Some.ensures in
    let some = unknown_some c.args.found.now.parts c.args.place there (c.is_known.ensures.unknown c.if-is_known.false) in
    omega (arith, some, c.requires.room)

pub set-requires : goal.set-requires
set-requires c = place_in (trees_in c.args.shapes.now) c.args.types.now c.args.found.now c.args.place c.in-Some.entry.now c.requires.right c.in-Some.ensures

pub returns-clause-grows : goal.returns-clause-grows
returns-clause-grows c =
    grows_set c.args.types.now c.args.shapes.now c.part_by.new.shapes c.args.found.now c.args.place c.in-Some.entry.now c.in_ok-part.part c.set.new.self
    c.requires.right c.in_ok-part.ensures.later c.in_ok-part.ensures.grows c.in-Some.ensures (c.is_known.ensures.unknown c.if-is_known.false) c.in_ok-part.ensures.part c.if-part-eq0.false c.set.ensures

pub returns-clause-more : goal.returns-clause-more
returns-clause-more c more =
    let less = unknown_less (trees_in c.args.shapes.now) c.args.types.now c.args.found.now c.args.place c.in-Some.entry.now c.in_ok-part.part c.set.new.self
    c.requires.right c.in-Some.ensures (c.is_known.ensures.unknown c.if-is_known.false) c.if-part-eq0.false c.set.ensures in
    omega (arith, less)
