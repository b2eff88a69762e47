use Rattle.std.proofs.Common.{◌<◌, length, refl}
use Rattle.if1_components.proofs.Turned.{items-of, fed-inside}
use Rattle.if1_components.proofs.tour.step.Goals as goal

pub go_on-requires-clause-other : goal.go_on-requires-clause-other
go_on-requires-clause-other c =
    let there : c.in-Some.place < length c.args.lists.now = c.in-Some.ensures.there in
    fed-inside c.args.lists.now c.in-Some.place (length c.args.lists.now) c.as_slice-list.result.now c.requires.inside
    (items-of c.args.lists.now c.in-Some.place c.index-lists-place.result c.as_slice-list.result.now there c.index-lists-place.is c.as_slice-list.ensures) refl _ 0 c.if-next-list.true
