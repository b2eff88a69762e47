use Rattle.std.proofs.Common.{None, ap, arith}
use Rattle.if1_types.specs.Shapes.{trees_in}
use Rattle.if1_types.proofs.Looked.{part_within, list_within}
use Rattle.if1_types.proofs.step.list_from.Goals as goal

pub member-requires-clause-first : goal.member-requires-clause-first
member-requires-clause-first c =
    let is = ap (λ x. x.number) c.type_part-ty.ensures in
    omega (arith, is, part_within (trees_in c.args.shapes.now) c.args.types.now c.args.found.now None c.args.entry.now.first c.requires.right)

pub member-requires-clause-second : goal.member-requires-clause-second
member-requires-clause-second c =
    let is = ap (λ x. x.number) c.list_part-rest.ensures in
    omega (arith, is, list_within (trees_in c.args.shapes.now) c.args.line c.args.types.now c.args.found.now c.args.entry.now.second c.requires.right)
